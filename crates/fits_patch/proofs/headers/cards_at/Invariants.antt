use Rattle.std.proofs.Common.{◌≡◌, ◌-◌, length, take}
use Rattle.fits_session.specs.Session.{file_of, marked_of}
use Rattle.fits_patch.specs.Patch.{cards_at}
use Rattle.fits_patch.proofs.headers.cards_at.Given as goal

abbrev pub invariant-card : goal.invariant-card
invariant-card g l = record {
  taken : l.cards.items ≡ take (length l.cards.items) (cards_at (file_of l.fn.session) l.h);
  same : marked_of l.session ≡ marked_of l.fn.session;
}

abbrev pub decreases-card : goal.decreases-card
decreases-card g l = length (cards_at (file_of l.fn.session) l.h) - length l.cards.items
