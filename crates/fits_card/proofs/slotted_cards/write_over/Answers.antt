use Rattle.std.proofs.Common.{◌≡◌, ℕ, ◌+◌, ◌-◌, ◌<◌, ◌≤◌, ◌⊎◌, inl, inr, List, ◌∙◌, ap, sym, get_or, length, length-set, arith}
use Rattle.std.proofs.lemmas.Bool.{cases_lt}
use Rattle.std.proofs.lemmas.List.{get_or_default}
use Rattle.fits_card.proofs.SpliceLemmas.{paste-more}
use Rattle.fits_card.proofs.slotted_cards.write_over.Goals as goal

-- one more card has its size
one_more : (cards : List (List ℕ)) (i : ℕ) (card : List ℕ) → ((k : ℕ) (d : List ℕ) → k < i → length (get_or cards k d) ≡ 80) → i < length cards → card ≡ get_or cards i card → length card ≡ 80
    → (k : ℕ) (d : List ℕ) → k < i + 1 → length (get_or cards k d) ≡ 80
one_more cards i card sizes within is size k d below = go (cases_lt k i) where
  go : (k < i) ⊎ (i ≤ k) → length (get_or cards k d) ≡ 80
  go (inl before) = sizes k d before
  go (inr here) = ap (λ (n : ℕ). length (get_or cards n d)) (omega arith) ∙ (ap length (get_or_default cards i d card within ∙ sym is) ∙ size)

pub loop-index-preserved : goal.loop-index-preserved
loop-index-preserved c = record {
  cards = c.write_card.ensures.cards ∙ paste-more c.args.cards.now.items c.loop-index.cards.items c.args.new.now (c.args.place - 1) c.loop-index.index _ c.loop-index.invariant.cards (omega arith) (omega arith) c.index-new-index.is;
  len = ap length c.write_card.ensures.cards ∙ (length-set c.loop-index.cards.items _ _ ∙ c.loop-index.invariant.len);
  room = c.write_card.ensures.room ∙ c.loop-index.invariant.room;
  sizes = one_more c.args.new.now c.loop-index.index _ c.loop-index.invariant.sizes (omega arith) c.index-new-index.is c.write_card.ensures.size;
}
