-- A file and the redo file beside it: what a call over them does, and what is left of both where a crash cuts it short (own).
use Rattle.std.specs.Prelude.{◌≡◌, ◌⊎◌, ℕ, ◌≤◌, Bool, true, false, List, ◌∷◌, ◌++◌, length, drop, Option, None, Some}
use Rattle.fits_redo.specs.declared.read_fault.ReadFault.{ReadFault}
use Rattle.fits_redo.specs.declared.read_fault.ReadFault.TheVariants as fault
use Rattle.fits_redo.specs.Blocks.{block, with_block, has_block, is_mix}

-- what stands there
pub record Files : Type 0 where
  pub file : List ℕ
  pub redo : Option (List ℕ)

-- no more than these many bytes of a new redo file
pub record Begins (count : ℕ) (old new : Files) : Type 0 where
  pub file : new.file ≡ old.file
  pub redo : (new.redo ≡ old.redo) ⊎ ((bytes : List ℕ) × (new.redo ≡ Some bytes) × (length bytes ≤ count))

-- the bytes of a redo file, if one stands there, and others behind them
abbrev pub IsLonger : Option (List ℕ) → Option (List ℕ) → Type 0
IsLonger None new = new ≡ None
IsLonger (Some bytes) new = (more : List ℕ) × (new ≡ Some (bytes ++ more))

-- more of a redo file
pub record Grows (old new : Files) : Type 0 where
  pub file : new.file ≡ old.file
  pub redo : IsLonger old.redo new.redo

-- the bytes of a redo file, if one stands there, but for the first
abbrev pub HasGate : Option (List ℕ) → Option (List ℕ) → Type 0
HasGate None new = new ≡ None
HasGate (Some bytes) new = (gate : ℕ) × (new ≡ Some (gate ∷ drop 1 bytes))

-- another gate of a redo file
pub record Opens (old new : Files) : Type 0 where
  pub file : new.file ≡ old.file
  pub redo : HasGate old.redo new.redo

-- no redo file, or still the one that stood there
pub record Removes (old new : Files) : Type 0 where
  pub file : new.file ≡ old.file
  pub redo : (new.redo ≡ old.redo) ⊎ (new.redo ≡ None)

-- a mix of old and new bytes in one block of the file
pub record Writes (index : ℕ) (bytes : List ℕ) (old new : Files) : Type 0 where
  pub redo : new.redo ≡ old.redo
  pub file : has_block index old.file ≡ true → (mix : List ℕ) × (is_mix (block index old.file) bytes mix ≡ true) × (new.file ≡ with_block index mix old.file)

-- what a crash may leave now is what one might have left before, after that step
abbrev pub Follows : (Files → Files → Type 0) → (Files → Type 0) → (Files → Type 0) → Type 0
Follows step old new = (c : Files) → new c → (d : Files) × old d × step d c

-- these files stand there, and a crash leaves them as they are
pub record Rests {D : Type 0} (stands may_leave : D → Files → Type 0) (pair : D) (files : Files) : Type 0 where
  pub seen : stands pair files
  pub only : (c : Files) → may_leave pair c → c ≡ files

-- a crash at any moment since old leaves what has P
pub record LeavesOnly {D : Type 0} (moment : D → ℕ) (left_since : D → ℕ → Files → Type 0) (old new : D) (P : Files → Type 0) : Type 0 where
  pub later : moment old ≤ moment new
  pub each : (c : Files) → left_since new (moment old) c → P c
  -- for a run that began earlier
  pub before : (t : ℕ) (c : Files) → t ≤ moment old → left_since new t c → left_since old t c ⊎ P c

-- why nothing was read: memory was refused, or a read failed where not each is answered
abbrev pub IsUnread : ReadFault → Bool → Type 0
IsUnread fault.Memory is_read = Unit {0}
IsUnread (fault.Failed _) is_read = is_read ≡ false
