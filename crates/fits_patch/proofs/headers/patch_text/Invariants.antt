use Rattle.std.proofs.Common.{◌≡◌, take, length}
use Rattle.fits_passing.specs.Headers.{cards_of, read_cards}
use Rattle.fits_session.specs.Session.{file_of, marked_of}
use Rattle.fits_patch.specs.Patch.{PatchesHdus}
use Rattle.fits_patch.proofs.headers.patch_text.Given as goal

abbrev pub invariant-loop-index : goal.invariant-loop-index
invariant-loop-index g l = record {
  drawn : PatchesHdus 1 (take l.index (cards_of (file_of l.fn.session).hdus)) (take l.index (read_cards l.fn.headers.items)) l.text.items;
  same : marked_of l.session ≡ marked_of l.fn.session;
  same_headers : read_cards l.headers.items ≡ read_cards l.fn.headers.items;
  size : length l.headers.items ≡ length l.fn.headers.items;
}
