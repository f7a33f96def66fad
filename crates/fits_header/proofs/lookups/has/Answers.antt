use Rattle.std.proofs.Common.{◌≡◌, ◌∙◌, sym, slice_get, Some, None}
use Rattle.fits_header.proofs.FilterLemmas.{any-same}
use Rattle.fits_header.specs.Index.{is_named}
use Rattle.fits_header.proofs.LeadLemmas.{any_first, any_none}
use Rattle.fits_header.proofs.lookups.has.Goals as goal

pub returns-in-Some : goal.returns-in-Some
returns-in-Some c =
    let first : slice_get c.rest_of.result.now 0 ≡ Some c.in-Some.entry.now = sym c.in-Some.ensures.value in
    any_first c.args.name c.rest_of.result.now c.in-Some.entry.now c.rest_of.ensures.sorted c.rest_of.ensures.from first
    ∙ any-same (is_named c.args.name) c.rest_of.result.now c.args.entries.now c.rest_of.ensures.same

pub returns-in-None : goal.returns-in-None
returns-in-None c =
    let first : slice_get c.rest_of.result.now 0 ≡ None = sym c.in-None.ensures.value in
    any_none c.args.name c.rest_of.result.now first ∙ any-same (is_named c.args.name) c.rest_of.result.now c.args.entries.now c.rest_of.ensures.same
