-- The blocks of a file, seen as its bytes (FITS Standard 4.0, section 3.1).
use Rattle.std.specs.Prelude.{ℕ, ◌+◌, ◌*◌, nat_le, ◌==◌, Bool, true, false, ◌&&◌, ◌||◌, List, [], ◌∷◌, ◌++◌, length, take, drop}

-- the bytes of a block, of which the first has index 0 (3.1)
unfoldable pub block : ℕ → List ℕ → List ℕ
block index file = take 2880 (drop (2880 * index) file)

-- the file with these bytes in the place of that block
unfoldable pub with_block : ℕ → List ℕ → List ℕ → List ℕ
with_block index bytes file = take (2880 * index) file ++ bytes ++ drop (2880 * index + 2880) file

-- the file has the whole of that block
abbrev pub has_block : ℕ → List ℕ → Bool
has_block index file = nat_le (2880 * index + 2880) (length file)

-- each byte is the old one or the new one, as a write that was broken off leaves it (own)
abbrev pub is_mix : List ℕ → List ℕ → List ℕ → Bool
is_mix (o ∷ old) (n ∷ new) (m ∷ mix) = (m == o || m == n) && is_mix old new mix
is_mix [] [] [] = true
is_mix old new mix = false
