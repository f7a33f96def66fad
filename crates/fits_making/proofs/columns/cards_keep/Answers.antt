use Rattle.std.proofs.Common.{subst, sym}
use Rattle.fits_card.specs.Change.{IsInRange}
use Rattle.fits_passing.specs.Hdu.{HduParts}
use Rattle.fits_hdu.proofs.StateLemmas.{parts_read}
use Rattle.fits_making.proofs.CardEditLemmas.{made_in_range}
use Rattle.fits_making.proofs.columns.cards_keep.Goals as goal

pub keeps_columns-requires : goal.keeps_columns-requires
keeps_columns-requires c =
    subst (λ (hdu : HduParts). IsInRange hdu.header.cards c.in-Ok.change) (sym (parts_read _ _ _ c.change_of.ensures.work)) (made_in_range c.args.hdu.now.header.header.cards c.args.edit.now c.in-Ok.change c.in-Ok.ensures.ok)
