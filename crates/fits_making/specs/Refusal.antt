-- When an edit is refused: the first of its tests that fails (own).
use Rattle.std.specs.Prelude.{◌≡◌, ◌⊎◌, ℕ, Bool, true, List, [], ◌∷◌, codes, Option, Some, None, Result, Err, IsOk, if◌then◌else◌}
use Rattle.fits_card.specs.declared.change.Change.{Change}
use Rattle.fits_card.specs.declared.change.Change.TheVariants as change
use Rattle.fits_passing.specs.Limits.{is_within_limits}
use Rattle.fits_edit.specs.declared.card_edit.CardEdit.{CardEdit}
use Rattle.fits_edit.specs.declared.card_edit.CardEdit.TheVariants.{Delete, Move, Unset}
use Rattle.fits_edit.specs.declared.hdu_edit.HduEdit.{HduEdit}
use Rattle.fits_edit.specs.declared.hdu_edit.HduEdit.TheVariants.{Cards, Keep, Pixels, Release, Reshape, Stamp}
use Rattle.fits_making.specs.declared.refusal.Refusal.{Refusal}
use Rattle.fits_making.specs.declared.refusal.Refusal.TheVariants.{NoHdu, NoCard, NoKey, BadText, EndCard, Shape, BadName, BadValue, NotImage, BadRect, WrongCount, Range, PrimaryStays, TooLarge, Memory}
use Rattle.fits_value.specs.declared.write.WriteFault.{WriteFault}
use Rattle.fits_value.specs.declared.write.WriteFault.TheVariants as write
use Rattle.fits_hdu.specs.declared.keyword.KeywordFault.{KeywordFault}
use Rattle.fits_hdu.specs.declared.keyword.KeywordFault.TheVariants as keyword

-- a file of so many bytes and HDUs would pass a limit
abbrev pub limit_refusal : ℕ → ℕ → Option Refusal
limit_refusal bytes hdus = if is_within_limits bytes hdus then None else Some TooLarge

-- memory may run out on the way to this answer of an edit of cards: none, or a refusal whose test needs the cards of the change
abbrev pub CardsNeedMemory : Option Refusal → Type 0
CardsNeedMemory None = Unit {0}
CardsNeedMemory (Some Shape) = Unit {0}
CardsNeedMemory (Some TooLarge) = Unit {0}
CardsNeedMemory (Some why) = ⊥

-- of one that puts no card in it doesn't
abbrev pub CardEditNeedsMemory : CardEdit → Option Refusal → Type 0
CardEditNeedsMemory (Delete place) refused = ⊥
CardEditNeedsMemory (Move from to) refused = ⊥
CardEditNeedsMemory (Unset name) refused = ⊥
CardEditNeedsMemory edit refused = CardsNeedMemory refused

-- nor where a change is made that puts none in
abbrev pub ChangeNeedsMemory : Change → Option Refusal → Type 0
ChangeNeedsMemory (change.Splice place removed []) refused = ⊥
ChangeNeedsMemory (change.Splice place removed (card ∷ cards)) refused = CardsNeedMemory refused
ChangeNeedsMemory (change.Move from to) refused = ⊥

-- and of a reshape, but where the HDU is no array of integers
abbrev pub ReshapeNeedsMemory : Option Refusal → Type 0
ReshapeNeedsMemory None = Unit {0}
ReshapeNeedsMemory (Some Shape) = Unit {0}
ReshapeNeedsMemory (Some Range) = Unit {0}
ReshapeNeedsMemory (Some TooLarge) = Unit {0}
ReshapeNeedsMemory (Some why) = ⊥

-- and of an edit of an HDU: one of pixels takes none, nor does a release; a stamp asks for it after its test
abbrev pub HduNeedsMemory : HduEdit → Option Refusal → Type 0
HduNeedsMemory (Cards edit) refused = CardEditNeedsMemory edit refused
HduNeedsMemory (Pixels lo hi paint) refused = ⊥
HduNeedsMemory (Reshape kind axes) refused = ReshapeNeedsMemory refused
HduNeedsMemory Stamp refused = refused ≡ None
HduNeedsMemory Keep refused = refused ≡ None
HduNeedsMemory Release refused = ⊥

-- what a stamp follows needs memory for that too, once no test fails
abbrev pub OrStampNeedsMemory : Bool → (Option Refusal → Type 0) → Option Refusal → Type 0
OrStampNeedsMemory stamps NeedsMemory refused = NeedsMemory refused ⊎ ((stamps ≡ true) × (refused ≡ None))

-- it may end so: by its refusal, or out of memory where it may run out
abbrev pub Fails : (Option Refusal → Type 0) → Option Refusal → Refusal → Type 0
Fails NeedsMemory refused why = (refused ≡ Some why) ⊎ ((why ≡ Memory) × NeedsMemory refused)

-- making the change of an edit may end so: by its own test that fails, or out of memory where none does
abbrev pub ChangeFails : Result Change Refusal → Refusal → Type 0
ChangeFails made why = (made ≡ Err why) ⊎ ((why ≡ Memory) × IsOk made)

-- why cards can't be written, as a refusal
abbrev pub refusal_of_writing : WriteFault → Refusal
refusal_of_writing write.BadValue = BadValue
refusal_of_writing write.Memory = Memory

-- how a refusal is printed, with its number
abbrev pub refusal_text : Refusal → List ℕ
refusal_text NoHdu = codes "refused 1 NoHdu"
refusal_text NoCard = codes "refused 2 NoCard"
refusal_text NoKey = codes "refused 3 NoKey"
refusal_text BadText = codes "refused 4 BadText"
refusal_text EndCard = codes "refused 5 EndCard"
refusal_text Shape = codes "refused 6 Shape"
refusal_text BadName = codes "refused 7 BadName"
refusal_text BadValue = codes "refused 8 BadValue"
refusal_text NotImage = codes "refused 9 NotImage"
refusal_text BadRect = codes "refused 10 BadRect"
refusal_text WrongCount = codes "refused 11 WrongCount"
refusal_text Range = codes "refused 12 Range"
refusal_text PrimaryStays = codes "refused 13 PrimaryStays"
refusal_text TooLarge = codes "refused 14 TooLarge"
refusal_text Memory = codes "refused 15 Memory"

-- a keyword's fault as a refusal
abbrev pub refusal_of_keyword : KeywordFault → Refusal
refusal_of_keyword keyword.NoKey = NoKey
refusal_of_keyword keyword.BadValue = BadValue
refusal_of_keyword keyword.Memory = Memory
