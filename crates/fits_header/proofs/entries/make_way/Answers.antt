use Rattle.std.proofs.Common.{◌∙◌, arith}
use Rattle.fits_header.specs.Index.{shifted}
use Rattle.fits_header.proofs.ChangeLemmas.{none_goes}
use Rattle.fits_header.proofs.EntriesLemmas.{way-free}
use Rattle.fits_header.proofs.ShiftLemmas.{pass_written}
use Rattle.fits_header.proofs.entries.make_way.Goals as goal

pub returns-then-len-place-clause-items : goal.returns-then-len-place-clause-items
returns-then-len-place-clause-items c = way-free c.args.entries.now.items c.args.place c.args.removed c.args.coming c.requires.within (omega arith)

pub returns-in-0-clause-items : goal.returns-in-0-clause-items
returns-in-0-clause-items c =
    pass_written (shifted c.args.place 0 c.args.coming) c.args.entries.now.items c.deref_mut.result.now _ _ (omega (arith, c.args.entries.now.ok)) c.deref_mut.ensures.value c.open_gap.ensures
    ∙ none_goes c.args.place c.args.removed c.args.coming c.args.entries.now.items c.in-0.is
