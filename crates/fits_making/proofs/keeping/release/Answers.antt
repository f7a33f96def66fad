use Rattle.std.proofs.Common.{refl}
use Rattle.fits_making.proofs.StampEditLemmas.{releases}
use Rattle.fits_making.proofs.keeping.release.Goals as goal

pub returns : goal.returns
returns c =
    releases c.args.len c.args.hdus c.args.hdu.now c.set_kept.new.self tt c.card_count-whole.ensures.whole (record { described = c.card_count-whole.ensures.described; entry = refl; kept = refl; absent = refl }) c.requires.part c.requires.within c.set_kept.ensures
