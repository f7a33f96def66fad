use Rattle.std.proofs.Common.{ap, subst, sym}
use Rattle.std.specs.Prelude.{Result, Err}
use Rattle.std.proofs.lemmas.Result.{err_from_is_err_and}
use Rattle.fits_card.specs.Change.{IsInRange}
use Rattle.fits_card.specs.declared.change.Change.{Change}
use Rattle.fits_passing.specs.Hdu.{HduParts}
use Rattle.fits_hdu.proofs.StateLemmas.{parts_read}
use Rattle.fits_making.specs.declared.refusal.Refusal.{Refusal}
use Rattle.fits_making.proofs.CardEditLemmas.{made_in_range}
use Rattle.fits_making.proofs.MakingLemmas.{cards_made, cards_unmade}
use Rattle.fits_making.proofs.cards.edit_cards.Goals as goal

pub returns-in_err-change : goal.returns-in_err-change
returns-in_err-change c =
    let p = err_from_is_err_and c.from_residual.result c.from_residual.ensures.1 in
    rw (p.1, p.2) (cards_unmade c.args.edit.now c.args.len c.args.hdus c.args.hdu.now c.change_of.new.hdu c.in_err-change.field-0.0 c.change_of.ensures.whole c.change_of.ensures.described c.change_of.ensures.work c.in_err-change.ensures.err (λ memory. c.in_err-change.ensures.memory (ap (λ why. let made : Result Change Refusal = Err why in made) memory)))

pub make_change-requires-clause-in_range : goal.make_change-requires-clause-in_range
make_change-requires-clause-in_range c =
    subst (λ (hdu : HduParts). IsInRange hdu.header.cards c.in_ok-change.change) (sym (parts_read _ _ _ c.change_of.ensures.work)) (made_in_range c.args.hdu.now.header.header.cards c.args.edit.now c.in_ok-change.change c.in_ok-change.ensures.ok)

pub returns : goal.returns
returns c = cards_made c.args.edit.now c.in_ok-change.change c.args.len c.args.hdus c.args.hdu.now c.change_of.new.hdu c.make_change.new.hdu c.make_change.result c.change_of.ensures.described c.change_of.ensures.work c.in_ok-change.ensures.ok c.make_change.ensures
