-- How many cards are read at most as an HDU is opened, and as its cards change (own).
use Rattle.std.specs.Prelude.{ℕ, ◌+◌, ◌*◌, List, length}
use Rattle.fits_header.specs.Work.{mark_reads}

-- what is read after a change of the cards: the leads of BZERO, BSCALE, BLANK, DATASUM and CHECKSUM
abbrev pub lead_reads : ℕ
lead_reads = 5

-- what an extension is called is found by place 1 and the leads of EXTNAME and EXTVER
abbrev pub name_reads : ℕ
name_reads = 3

-- a change of the cards reads so many when it is made: the leads, and those that decide the codes of the header
abbrev pub apply_reads : ℕ
apply_reads = mark_reads + lead_reads

-- an HDU is opened by so many: its shape is read, then each card for what is kept beside it, and then what a change reads
abbrev pub open_reads : List (List ℕ) → ℕ
open_reads cards = 4 * length cards + 4 + apply_reads
