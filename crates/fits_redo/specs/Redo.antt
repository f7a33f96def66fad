-- The redo file: what stands beside a file while its blocks are changed, and finishes that where it was broken off (own).
use Rattle.std.specs.Prelude.{ℕ, zero, suc, ◌*◌, nat_le, nat_lt, ◌==◌, Bool, not, ◌&&◌, ◌||◌, if◌then◌else◌, List, [], ◌∷◌, ◌++◌, length, take, drop, codes, Option, None, Some}
use Rattle.std.specs.List.{flat_map}
use Rattle.std.specs.Str.{bytes_eq}
use Rattle.std.specs.Int.{w64, to_be_bytes, from_be_bytes}
use Rattle.fits_redo.specs.Pair.{Files}
use Rattle.fits_redo.specs.Plan.{agrees, redone}
use Rattle.fits_redo.specs.declared.changed_block.ChangedBlock.{ChangedBlock}

-- a number in eight bytes, the highest first
unfoldable pub big_endian : ℕ → List ℕ
big_endian n = to_be_bytes w64 n

-- the number that eight bytes are
unfoldable pub from_big_endian : List ℕ → ℕ
from_big_endian bytes = from_be_bytes w64 bytes

-- which file it is, and of which form
abbrev pub signature : List ℕ
signature = codes "FITSED1"

-- its head: the gate, the signature, the length of the file and the count of the changed blocks
abbrev pub head : ℕ → ℕ → ℕ → List ℕ
head gate len count = gate ∷ signature ++ big_endian len ++ big_endian count

-- the entry of a changed block: its index, its old bytes and its new ones
abbrev pub entry : ChangedBlock → List ℕ
entry b = big_endian b.index ++ b.old ++ b.new

-- the whole of it
abbrev pub redo_file : ℕ → ℕ → List ChangedBlock → List ℕ
redo_file gate len blocks = head gate len (length blocks) ++ flat_map entry blocks

-- more than a head stands there, and its gate is open: an edit was broken off
abbrev pub is_open : List ℕ → Bool
is_open bytes = nat_lt 24 (length bytes) && bytes_eq (take 8 bytes) (1 ∷ signature)

-- its gate isn't open, and no more than a head stands there or one with the signature: the file wasn't touched
abbrev pub is_shut : List ℕ → Bool
is_shut bytes = not (is_open bytes) && (nat_le (length bytes) 24 || bytes_eq (take 7 (drop 1 bytes)) signature)

-- the length of the file, as the head tells it
abbrev pub told_len : List ℕ → ℕ
told_len bytes = from_big_endian (take 8 (drop 8 bytes))

-- the count of the changed blocks
abbrev pub told_count : List ℕ → ℕ
told_count bytes = from_big_endian (take 8 (drop 16 bytes))

-- the block that an entry tells
abbrev pub told_block : List ℕ → ChangedBlock
told_block bytes = record { index = from_big_endian (take 8 bytes); old = take 2880 (drop 8 bytes); new = take 2880 (drop 2888 bytes) }

-- the blocks of so many entries
abbrev pub told_blocks : ℕ → List ℕ → List ChangedBlock
told_blocks zero bytes = []
told_blocks (suc count) bytes = told_block bytes ∷ told_blocks count (drop 5768 bytes)

-- it has as many entries as its head tells, and nothing behind them
abbrev pub is_whole : List ℕ → Bool
is_whole bytes = length (drop 24 bytes) == 5768 * told_count bytes

-- the changed blocks of one that is whole
abbrev pub told : List ℕ → List ChangedBlock
told bytes = told_blocks (told_count bytes) (drop 24 bytes)

-- it finishes an edit of this file: its gate is open, it is whole, and the file agrees with its plan
abbrev pub is_due : List ℕ → List ℕ → Bool
is_due bytes file = is_open bytes && is_whole bytes && agrees (told_len bytes) (told bytes) file

-- the file as the next edit finds it, beside no redo file or beside this one
abbrev pub made_of : Option (List ℕ) → List ℕ → List ℕ
made_of None file = file
made_of (Some bytes) file = if is_due bytes file then redone (told bytes) file else file

-- what the next edit makes of what stands there: it finishes what was broken off
abbrev pub recovered : Files → List ℕ
recovered files = made_of files.redo files.file
