use Rattle.std.proofs.Common.{sym, subst, All}
use Rattle.fits_card.specs.Header.{IsInnerCard}
use Rattle.fits_session.specs.Session.{file_of}
use Rattle.fits_patch.proofs.HeaderLemmas.{cards_inner}
use Rattle.fits_patch.proofs.headers.hdu_patch.Goals as goal

pub new-requires : goal.new-requires
new-requires g c = subst (All IsInnerCard) (sym c.in_ok-cards.ensures.ok) (cards_inner (file_of c.args.session.now) c.args.h c.requires.whole)
