-- What an edit that keeps the length and the places of a file changes in it: blocks (own).
use Rattle.std.specs.Prelude.{◌≡◌, ℕ, ◌+◌, ◌*◌, ◌≤◌, nat_le, ◌==◌, Bool, true, ◌&&◌, if◌then◌else◌, List, [], ◌∷◌, ◌++◌, length}
use Rattle.std.specs.Str.{bytes_eq}
use Rattle.fits_redo.specs.Blocks.{block, with_block, has_block, is_mix}
use Rattle.fits_redo.specs.declared.changed_block.ChangedBlock.{ChangedBlock}

-- what the block of this index adds to a plan: its old bytes and its new ones, where they differ
abbrev pub changed : ℕ → List ℕ → List ℕ → List ChangedBlock
changed index old new = if bytes_eq old new then [] else record { index = index; old = old; new = new } ∷ []

-- the file with the new bytes of these blocks
abbrev pub redone : List ChangedBlock → List ℕ → List ℕ
redone [] file = file
redone (b ∷ blocks) file = redone blocks (with_block b.index b.new file)

-- these blocks may be the file's, none of an index below this one: their indices rise, the file has each of them, and each byte there is the
-- old one or the new one
abbrev pub fits : ℕ → List ChangedBlock → List ℕ → Bool
fits from [] file = true
fits from (b ∷ blocks) file = nat_le from b.index && has_block b.index file && is_mix b.old b.new (block b.index file) && fits (b.index + 1) blocks file

-- the index behind these blocks, of which the first may have this one
abbrev pub index_behind : ℕ → List ChangedBlock → ℕ
index_behind from [] = from
index_behind from (b ∷ blocks) = index_behind (b.index + 1) blocks

-- made over the old bytes the plan gives the new ones, and leaves what is behind them; its old bytes are theirs
pub record IsPlanOf (old new : List ℕ) (blocks : List ChangedBlock) : Type 0 where
  pub gives : (rest : List ℕ) → redone blocks (old ++ rest) ≡ new ++ rest
  pub fits : (rest : List ℕ) → fits 0 blocks (old ++ rest) ≡ true
  pub within : 2880 * index_behind 0 blocks ≤ length old

-- the file has the plan's length, and may have its blocks
abbrev pub agrees : ℕ → List ChangedBlock → List ℕ → Bool
agrees len blocks file = (len == length file) && fits 0 blocks file
