use Rattle.std.proofs.Common.{◌∙◌, sym}
use Rattle.fits_script.proofs.ListLemmas.{last_of_list, not_list, still_list}
use Rattle.fits_script.proofs.part.is_list.Goals as goal

pub returns-in_default-read : goal.returns-in_default-read
returns-in_default-read g c =
    not_list g.P.Part.reads c.args.separator c.args.text.now c.parts.rest.now c.in-Some.part.now c.in-Some.more.now c.parts.invariant c.in-Some.ensures.some.0 c.in-Some.ensures.some.1 (sym c.in_default-read.ensures)

pub parts-preserved : goal.parts-preserved
parts-preserved g c =
    still_list g.P.Part.reads c.args.separator c.args.text.now c.parts.rest.now c.in-Some.part.now c.in-Some.more.now c.in-Some-read.field-0 c.parts.invariant c.in-Some.ensures.some.0 c.in-Some.ensures.some.1 (sym c.in-Some-read.ensures)

pub returns : goal.returns
returns g c =
    c.is_some.ensures ∙ last_of_list g.P.Part.reads c.args.separator c.args.text.now c.parts.rest.now c.read-2.result c.parts.invariant c.in_default.ensures.none (sym c.read-2.ensures)
