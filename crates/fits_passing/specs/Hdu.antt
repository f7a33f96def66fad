-- One HDU: its header and its data unit (FITS Standard 4.0, sections 3.1 to 3.3).
use Rattle.std.specs.Prelude.{◌≡◌, ℕ, ◌<◌, Bool, List, ◌++◌, length, Ok, Err}
use Rattle.fits_card.specs.Header.{Header, IsHeader, IsHeaderOf, HasNoHeader, header_bytes, with_cards}
use Rattle.fits_card.specs.Change.{cards_after}
use Rattle.fits_card.specs.declared.change.Change.{Change}
use Rattle.fits_rules.specs.SameShape.{same_shape}
use Rattle.fits_rules.specs.Shape.{shape_of}
use Rattle.fits_rules.specs.Size.{data_length}
use Rattle.fits_rules.specs.declared.array_shape.Shape.{Shape}
use Rattle.fits_passing.specs.declared.hdu_fault.HduFault.{HduFault}
use Rattle.fits_passing.specs.declared.hdu_fault.HduFault.TheVariants.{NoEnd, BadShape, ShortData, Memory}

-- a header, and the data unit with its fill, which may have no bytes (3.1)
pub record HduParts : Type 0 where
  pub header : Header
  pub data_unit : List ℕ

-- an HDU's bytes
abbrev pub hdu_bytes : HduParts → List ℕ
hdu_bytes hdu = header_bytes hdu.header ++ hdu.data_unit

-- its header is one, and its data unit is as long as its cards describe, in whole blocks (3.3.2)
pub record IsHdu (primary : Bool) (hdu : HduParts) : Type 0 where
  pub shape : Shape
  pub header : IsHeader hdu.header
  pub described : shape_of primary hdu.header.cards ≡ Ok shape
  pub size : length hdu.data_unit ≡ data_length shape

-- the bytes are an HDU and then a rest
pub record IsHduOf (primary : Bool) (bytes : List ℕ) (hdu : HduParts) (rest : List ℕ) : Type 0 where
  pub whole : IsHdu primary hdu
  pub joined : bytes ≡ hdu_bytes hdu ++ rest

-- the cards of the header that they begin with break a rule of shapes, and this is the first place that does
pub record BreaksShape (primary : Bool) (bytes : List ℕ) (place : ℕ) : Type 0 where
  pub header : Header
  pub rest : List ℕ
  pub cut : IsHeaderOf bytes header rest
  pub broken : shape_of primary header.cards ≡ Err place

-- fewer bytes follow the header that they begin with than its cards describe
pub record LacksData (primary : Bool) (bytes : List ℕ) : Type 0 where
  pub header : Header
  pub rest : List ℕ
  pub shape : Shape
  pub cut : IsHeaderOf bytes header rest
  pub described : shape_of primary header.cards ≡ Ok shape
  pub short : length rest < data_length shape

-- why bytes begin with no HDU: no header, then a bad shape, then too few data
abbrev pub HasHduFault : Bool → List ℕ → HduFault → Type 0
HasHduFault primary bytes NoEnd = HasNoHeader bytes
HasHduFault primary bytes (BadShape place) = BreaksShape primary bytes place
HasHduFault primary bytes ShortData = LacksData primary bytes
HasHduFault primary bytes Memory = ⊥

-- opening an HDU may end so: by its fault, or out of memory
abbrev pub HduFails : Bool → List ℕ → HduFault → Type 0
HduFails primary bytes Memory = Unit {0}
HduFails primary bytes fault = HasHduFault primary bytes fault

-- the HDU after a change of its cards: END stays, and the header's fill is spaces
abbrev pub hdu_after : Change → HduParts → HduParts
hdu_after change hdu = record hdu { header = with_cards hdu.header (cards_after hdu.header.cards change) }

-- the cards after describe the shape that those before do
abbrev pub keeps_shape : Bool → List (List ℕ) → List (List ℕ) → Bool
keeps_shape primary before after = same_shape (shape_of primary before) (shape_of primary after)
