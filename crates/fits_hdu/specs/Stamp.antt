-- A stamp: DATASUM and CHECKSUM made right (FITS Standard 4.0, section 4.4.2.7 and Appendix J; own).
use Rattle.std.specs.Prelude.{◌≡◌, ◌⊎◌, ℕ, ◌+◌, ◌-◌, ◌^◌, ◌<◌, Bool, List, [], ◌∷◌, length, codes, Ok, Option, None, Some}
use Rattle.std.specs.Fmt.{decimal}
use Rattle.fits_card.specs.Card.{HasValue, keyword_name}
use Rattle.fits_card.specs.Change.{cards_after}
use Rattle.fits_card.specs.Header.{with_cards}
use Rattle.fits_sum.specs.ChecksumText.{checksum_text, zeros}
use Rattle.fits_sum.specs.DatasumCard.{datasum_card}
use Rattle.fits_rules.specs.Shape.{shape_of}
use Rattle.fits_rules.specs.declared.array_shape.Shape.{Shape}
use Rattle.fits_value.specs.Written.{write_says}
use Rattle.fits_value.specs.declared.value.Value.TheVariants.{Str}
use Rattle.fits_passing.specs.ExtensionName.{extension_name}
use Rattle.fits_passing.specs.Hdu.{HduParts}
use Rattle.fits_hdu.specs.Keyword.{keyword_cards, own_count, replacing}
use Rattle.fits_passing.specs.Sums.{data_sum, hdu_sum}

-- written cards instead of a keyword's, where they can be written
abbrev pub with_written : List (List ℕ) → List ℕ → Option (List (List ℕ)) → List (List ℕ)
with_written cards name None = cards
with_written cards name (Some new) = cards_after cards (replacing (length cards) (keyword_cards cards name) new)

-- an HDU with written cards instead of a keyword's, where they can be written
abbrev pub with_keyword : List ℕ → Option (List (List ℕ)) → HduParts → HduParts
with_keyword name written hdu = record hdu { header = with_cards hdu.header (with_written hdu.header.cards name written) }

-- an HDU with a keyword set to a string, without a comment
abbrev pub with_string : List ℕ → List ℕ → HduParts → HduParts
with_string name text hdu = with_keyword name (write_says name (Str text) None) hdu

-- one of the two keywords of a stamp (4.4.2.7)
abbrev pub IsSumName : List ℕ → Type 0
IsSumName name = (name ≡ codes "DATASUM ") ⊎ (name ≡ codes "CHECKSUM")

-- the cards are one with this name and a value
pub record IsOneCard (name : List ℕ) (cards : List (List ℕ)) : Type 0 where
  pub card : List ℕ
  pub is : cards ≡ card ∷ []
  pub size : length card ≡ 80
  pub named : keyword_name card ≡ name
  pub valued : HasValue card

-- sixteen `0` stand for the checksum, and DATASUM says the sum of the data unit
unfoldable pub with_datasum : HduParts → HduParts
with_datasum hdu = with_string (codes "DATASUM ") (decimal (data_sum hdu)) (with_string (codes "CHECKSUM") zeros hdu)

-- then the checksum's text makes the sum of the HDU all ones
unfoldable pub stamped : HduParts → HduParts
stamped hdu = let summed = with_datasum hdu in with_string (codes "CHECKSUM") (checksum_text (hdu_sum summed)) summed

-- how many cards a stamp brings: one for each keyword that has no lead
abbrev pub stamp_adds : List (List ℕ) → ℕ
stamp_adds cards = (1 - own_count cards (codes "CHECKSUM")) + (1 - own_count cards (codes "DATASUM "))

-- what an HDU is called stays
abbrev pub StampingKeepsNames : Type 0
StampingKeepsNames =
    (primary : Bool) (hdu : HduParts) (shape : Shape) → shape_of primary hdu.header.cards ≡ Ok shape
    → extension_name primary (stamped hdu).header.cards ≡ extension_name primary hdu.header.cards

-- the card of a sum is the one that setting DATASUM writes
abbrev pub DatasumIsWritten : Type 0
DatasumIsWritten =
    (sum : ℕ) → sum < 2 ^ 32 → write_says (codes "DATASUM ") (Str (decimal sum)) None ≡ Some (datasum_card sum ∷ [])
