use Rattle.std.proofs.Common.{◌≡◌, ℕ, List, ◌-◌, ◌<◌, length, get_or}
use Rattle.std.proofs.Math.Seq.{paste}
use Rattle.fits_card.proofs.slotted_cards.write_over.Given as goal

abbrev pub invariant-loop-index : goal.invariant-loop-index
invariant-loop-index l = record {
  cards : l.cards.items ≡ paste l.fn.cards.items (l.place - 1) l.new l.index;
  len : length l.cards.items ≡ length l.fn.cards.items;
  room : l.cards.room ≡ l.fn.cards.room;
  sizes : (k : ℕ) (d : List ℕ) → k < l.index → length (get_or l.new k d) ≡ 80;
}
