-- Items of a list replaced by others.
use Rattle.std.proofs.Common.{◌≡◌, ℕ, ◌+◌, ◌-◌, ◌<◌, ◌≤◌, List, ◌++◌, length, get_or, take, drop, ap, ◌∙◌, set, append_assoc, append-nil, arith, length-append, length-drop}
use Rattle.std.proofs.lemmas.List.{take-append-le, length-take-le, drop-append-le, take_at, drop_at, drop_all, take-take}
use Rattle.std.proofs.lemmas.List.Edits.{paste_all, paste_more}
use Rattle.std.proofs.Math.Seq.{paste}
use Rattle.fits_card.specs.Change.{spliced}

-- the rest of a list, moved on over what was put behind it
module _ {X : Type 0} (xs new : List X) (from count n : ℕ) (low : from ≤ length xs) (is : count ≡ length new) where
  abbrev pub all : List X
  all = xs ++ new

  parts : paste all (from + count) (drop from all) n ≡ take (from + count) all ++ (take n (drop from all) ++ drop (from + count + n) all)
  parts = append_assoc (take (from + count) all) (take n (drop from all)) (drop (from + count + n) all)

  size : length (take (from + count) all) ≡ from + count
  size = length-take-le (from + count) all (omega (arith, length-append xs new))

  -- what stands before it stays
  pub moved-on-before : take from (paste all (from + count) (drop from all) n) ≡ take from xs
  moved-on-before =
      ap (take from) parts
      ∙ (take-append-le from (take (from + count) all) (take n (drop from all) ++ drop (from + count + n) all) (omega (arith, size))
      ∙ (take-take from (from + count) all (omega arith) ∙ take-append-le from xs new low))

  -- and it is what follows the room
  pub moved-on-after : n ≡ length xs - from → drop (from + count) (paste all (from + count) (drop from all) n) ≡ drop from xs
  moved-on-after many =
      let rest : length (drop from xs) ≡ n = omega (arith, length-drop from xs) in
      ap (drop (from + count)) parts
      ∙ (drop_at (take (from + count) all) (take n (drop from all) ++ drop (from + count + n) all) (from + count) size
      ∙ rw (drop_all (from + count + n) all (omega (arith, length-append xs new)), drop-append-le from xs new low, take_at (drop from xs) new n rest) (append-nil (drop from xs)))

-- so many items were written over
pub paste-spliced : {X : Type 0} (xs new : List X) (place n : ℕ) → n ≡ length new → paste xs (place - 1) new n ≡ spliced xs place n new
paste-spliced xs new place n h = paste_all xs (place - 1) new n h

-- one more item is written over
pub paste-more : {X : Type 0} (xs ys new : List X) (from i : ℕ) (x : X) → ys ≡ paste xs from new i → from + i < length xs → i < length new → x ≡ get_or new i x → set ys (from + i) x ≡ paste xs from new (i + 1)
paste-more xs ys new from i x h fits within is = rw h (ap (set (paste xs from new i) (from + i)) is ∙ paste_more xs from new i x fits within)
