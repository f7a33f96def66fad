-- HDUs that are kept stamped: which edits a stamp follows, and what it leaves (own).
use Rattle.std.specs.Prelude.{◌≡◌, ℕ, ◌&&◌, Bool, true, false, not, [], ◌∷◌, ◌++◌, replicate, Result, Ok, Err}
use Rattle.fits_card.specs.Header.{with_cards}
use Rattle.fits_passing.specs.Hdu.{HduParts}
use Rattle.fits_hdu.specs.Stamp.{stamped}
use Rattle.fits_hdu.specs.State.{HduState, parts_of}
use Rattle.fits_passing.specs.Sums.{verdicts_of}
use Rattle.fits_passing.specs.declared.verdict.Verdict.{Verdict}
use Rattle.fits_passing.specs.declared.verdict.Verdict.TheVariants.{Right, Wrong}
use Rattle.fits_passing.specs.declared.verdicts.Verdicts.{Verdicts}
use Rattle.fits_edit.specs.declared.hdu_edit.HduEdit.{HduEdit}
use Rattle.fits_edit.specs.declared.hdu_edit.HduEdit.TheVariants.{Cards, Keep, Pixels, Release, Reshape}
use Rattle.fits_making.specs.declared.refusal.Refusal.{Refusal}

-- whether an HDU is kept after an edit of it
abbrev pub kept_after : HduEdit → Bool → Bool
kept_after Keep kept = true
kept_after Release kept = false
kept_after edit kept = kept

-- whether a stamp follows an edit of it: it does where the HDU is kept, but after what is a stamp itself, or a release
abbrev pub stamp_follows : HduEdit → Bool → Bool
stamp_follows (Cards edit) kept = kept
stamp_follows (Pixels lo hi paint) kept = kept
stamp_follows (Reshape kind axes) kept = kept
stamp_follows edit kept = false

-- the HDU stamped, where a stamp follows
abbrev pub stamped_if : Bool → HduParts → HduParts
stamped_if true hdu = stamped hdu
stamped_if false hdu = hdu

-- what is made of an HDU, and then stamped
abbrev pub then_stamped : Bool → Result HduParts Refusal → Result HduParts Refusal
then_stamped stamps (Ok made) = Ok (stamped_if stamps made)
then_stamped stamps (Err why) = Err why

-- an HDU with two cards more: as many as a stamp may bring
abbrev pub padded : HduParts → HduParts
padded hdu = let blank = replicate 80 32 in record hdu { header = with_cards hdu.header (hdu.header.cards ++ (blank ∷ blank ∷ [])) }

-- the HDU with these, where a stamp follows
abbrev pub padded_if : Bool → HduParts → HduParts
padded_if true hdu = padded hdu
padded_if false hdu = hdu

-- how many cards these are
abbrev pub spare_cards : Bool → ℕ
spare_cards true = 2
spare_cards false = 0

-- DATASUM and CHECKSUM are right
abbrev pub both_right : Verdicts
both_right = record { datasum = Right; checksum = Right }

-- they are in an HDU that is kept
abbrev pub IsRight : HduState → Type 0
IsRight one = one.kept ≡ true → verdicts_of (parts_of one) ≡ both_right

-- a sum is right
abbrev pub is_right : Verdict → Bool
is_right Right = true
is_right verdict = false

-- a sum is wrong
abbrev pub is_wrong : Verdict → Bool
is_wrong Wrong = true
is_wrong verdict = false

-- both sums are right
abbrev pub are_right : Verdicts → Bool
are_right verdicts = is_right verdicts.datasum && is_right verdicts.checksum

-- the sums vouch for their HDU: CHECKSUM is right, and DATASUM isn't wrong
abbrev pub vouch : Verdicts → Bool
vouch verdicts = is_right verdicts.checksum && not (is_wrong verdicts.datasum)

-- an HDU, kept where its sums vouch for it
abbrev pub vouched_one : HduState → HduState
vouched_one one = record one { kept = vouch (verdicts_of (parts_of one)) }

-- the sums of an HDU that is kept vouch for it
abbrev pub IsSound : HduState → Type 0
IsSound one = one.kept ≡ true → vouch (verdicts_of (parts_of one)) ≡ true
