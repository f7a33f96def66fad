-- Blocks of a file, one of which gets other bytes.
use Rattle.std.proofs.Common.{◌≡◌, ◌⊎◌, inl, inr, ℕ, ◌+◌, ◌*◌, ◌<◌, ◌≤◌, true, List, ◌++◌, length, take, drop, sym, ◌∙◌, ap, arith, append_assoc, length-append, length-drop}
use Rattle.std.proofs.lemmas.Bool.Decides.{nat_tests}
use Rattle.std.proofs.lemmas.List.{length-take-le, take_at, drop_at}
use Rattle.fits_redo.specs.Blocks.{block, with_block, has_block}
use Rattle.fits_redo.proofs.SpliceLemmas.{length-splice, splice_here, splice_again, splice_there, splice_comm}

-- a block that a file has lies within it
pub has_room : (index : ℕ) (file : List ℕ) → has_block index file ≡ true → 2880 * index + 2880 ≤ length file
has_room index file has = grind (arith, nat_tests)

-- and one that lies within it is one of its
pub room_has : (index : ℕ) (file : List ℕ) → 2880 * index + 2880 ≤ length file → has_block index file ≡ true
room_has index file room = grind (arith, nat_tests)

-- a block is as long as any
pub length-block : (index : ℕ) (file : List ℕ) → has_block index file ≡ true → length (block index file) ≡ 2880
unfolding block
length-block index file has =
    length-take-le 2880 (drop (2880 * index) file) (omega (arith, length-drop (2880 * index) file, has_room index file has))

-- it stays as long, so it has the blocks that it had
pub length-with_block : (index : ℕ) (bytes file : List ℕ) → has_block index file ≡ true → length bytes ≡ 2880 → length (with_block index bytes file) ≡ length file
unfolding with_block
length-with_block index bytes file has long = length-splice (2880 * index) 2880 bytes file long (has_room index file has)

-- another block stays one of its
pub has_block-with_block : (i index : ℕ) (bytes file : List ℕ) → has_block index file ≡ true → length bytes ≡ 2880 → has_block i file ≡ true → has_block i (with_block index bytes file) ≡ true
has_block-with_block i index bytes file has long there =
    room_has i (with_block index bytes file) (omega (arith, has_room i file there, length-with_block index bytes file has long))

-- it has the new bytes
pub block-with_block : (index : ℕ) (bytes file : List ℕ) → has_block index file ≡ true → length bytes ≡ 2880 → block index (with_block index bytes file) ≡ bytes
unfolding with_block block
block-with_block index bytes file has long = splice_here (2880 * index) 2880 bytes file long (has_room index file has)

-- the last bytes that it gets stay
pub with_block-with_block : (index : ℕ) (bytes more file : List ℕ) → has_block index file ≡ true → length bytes ≡ 2880 → with_block index more (with_block index bytes file) ≡ with_block index more file
unfolding with_block
with_block-with_block index bytes more file has long = splice_again (2880 * index) 2880 bytes file long (has_room index file has) more

-- blocks of other indices lie apart
apart : (i index : ℕ) → (i < index) ⊎ (index < i) → (2880 * i + 2880 ≤ 2880 * index) ⊎ (2880 * index + 2880 ≤ 2880 * i)
apart i index (inl before) = inl (omega arith)
apart i index (inr after) = inr (omega arith)

-- another block stays
pub block_elsewhere : (i index : ℕ) (bytes file : List ℕ) → has_block index file ≡ true → length bytes ≡ 2880 → (i < index) ⊎ (index < i) → block i (with_block index bytes file) ≡ block i file
unfolding with_block block
block_elsewhere i index bytes file has long other = splice_there (2880 * index) 2880 bytes file long (has_room index file has) (2880 * i) (apart i index other)

-- two blocks get their bytes in either order
pub with_block_comm : (i j : ℕ) (y z file : List ℕ) → length y ≡ 2880 → length z ≡ 2880 → i < j → has_block j file ≡ true → with_block i y (with_block j z file) ≡ with_block j z (with_block i y file)
unfolding with_block
with_block_comm i j y z file long_y long_z less has = splice_comm (2880 * i) (2880 * j) 2880 y z file long_y long_z (omega arith) (has_room j file has)

-- a block amid others
pub with_block_amid : (index : ℕ) (front old new rest : List ℕ) → length front ≡ 2880 * index → length old ≡ 2880 → with_block index new (front ++ (old ++ rest)) ≡ front ++ new ++ rest
unfolding with_block
with_block_amid index front old new rest here long =
    let fore : take (2880 * index) (front ++ (old ++ rest)) ≡ front = take_at front (old ++ rest) (2880 * index) here in
    let size : length (front ++ old) ≡ 2880 * index + 2880 = omega (arith, length-append front old, here) in
    let aft : drop (2880 * index + 2880) (front ++ (old ++ rest)) ≡ rest =
    ap (λ (l : List ℕ). drop (2880 * index + 2880) l) (sym (append_assoc front old rest)) ∙ drop_at (front ++ old) rest (2880 * index + 2880) size in
    ap (λ (l : List ℕ). l ++ new ++ drop (2880 * index + 2880) (front ++ (old ++ rest))) fore ∙ ap (λ (l : List ℕ). front ++ new ++ l) aft

-- that block
pub block_amid : (index : ℕ) (front old rest : List ℕ) → length front ≡ 2880 * index → length old ≡ 2880 → block index (front ++ (old ++ rest)) ≡ old
unfolding block
block_amid index front old rest here long = ap (λ (l : List ℕ). take 2880 l) (drop_at front (old ++ rest) (2880 * index) here) ∙ take_at old rest 2880 long
