use Rattle.std.proofs.Common.{◌≡◌, ◌*◌, length, map, take}
use Rattle.fits_plane.specs.Rectangle.{row_size}
use Rattle.fits_session.specs.Session.{file_of, marked_of}
use Rattle.fits_c.specs.Pixels.{IsRectIn}
use Rattle.fits_c.proofs.RectLemmas.{first_of}
use Rattle.fits_c.proofs.rect_rows.read_rows.Given as goal

abbrev pub invariant-loop-row : goal.invariant-loop-row
invariant-loop-row g l = record {
  stays : marked_of l.session ≡ marked_of l.fn.session;
  size : length l.room ≡ length l.fn.room;
  read : (it : IsRectIn (file_of l.fn.session) l.h l.lo l.hi) → map g.N.Number.value (take (l.row * row_size l.lo l.hi) l.room) ≡ first_of (file_of l.fn.session) l.h l.lo l.hi it (l.row * row_size l.lo l.hi);
}
