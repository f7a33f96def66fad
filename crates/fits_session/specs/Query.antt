-- What queries answer of a file: a fresh reading of it (own).
use Rattle.std.specs.Prelude.{◌≡◌, ◌<◌, ℕ, Bool, ℤ, List, length, Option, None, Some, ok_or, Result, Ok, Err, IsOk, IsOkAnd}
use Rattle.fits_value.specs.declared.value.Value.{Value}
use Rattle.fits_header.specs.Names.{header_names}
use Rattle.fits_header.specs.Places.{keyword_places}
use Rattle.fits_rules.specs.Image.{array_bits}
use Rattle.fits_rules.specs.Shape.{shape_of}
use Rattle.fits_rules.specs.declared.array_shape.Shape.{Shape}
use Rattle.fits_passing.specs.Hdu.{HduParts}
use Rattle.fits_hdu.specs.Keyword.{keyword_value}
use Rattle.fits_hdu.specs.State.{card_placed}
use Rattle.fits_image.specs.Kind.{kind_in as hdu_kind}
use Rattle.fits_hdu.specs.Pixels.{rect_of}
use Rattle.fits_passing.specs.Stats.{stats_of, Stats}
use Rattle.fits_passing.specs.Sums.{data_sum, verdicts_of}
use Rattle.fits_image.specs.declared.kind.Kind.{Kind}
use Rattle.fits_hdu.specs.declared.pixel_fault.PixelFault.{PixelFault}
use Rattle.fits_hdu.specs.declared.pixel_fault.PixelFault.TheVariants as pixel
use Rattle.fits_passing.specs.declared.verdicts.Verdicts.{Verdicts}
use Rattle.fits_hdu.specs.declared.keyword.KeywordFault.{KeywordFault}
use Rattle.fits_passing.specs.File.{FileParts, is_primary_hdu}
use Rattle.fits_session.specs.Edit.{hdu_of}
use Rattle.fits_table.specs.Judged.{table_codes}
use Rattle.fits_table.specs.declared.table_code.TableCode.{TableCode}
use Rattle.fits_making.specs.HduEdit.{shaped}
use Rattle.fits_making.specs.declared.refusal.Refusal.{Refusal}
use Rattle.fits_making.specs.declared.refusal.Refusal.TheVariants.{NoHdu, NoCard, Shape as BadShape, Memory}
use Rattle.fits_making.specs.Refusal.{refusal_of_keyword}

-- what an HDU answers, if it is there
abbrev pub in_hdu : {X : Type 0} → (HduParts → Result X Refusal) → Option HduParts → Result X Refusal
in_hdu answer None = Err NoHdu
in_hdu answer (Some hdu) = answer hdu

-- how many cards HDU h has, END not counted
abbrev pub card_count_in : FileParts → ℕ → Result ℕ Refusal
card_count_in file h = in_hdu (λ hdu. Ok (length hdu.header.cards)) (hdu_of file h)

-- the card at a place of HDU h
abbrev pub card_in : FileParts → ℕ → ℕ → Result (List ℕ) Refusal
card_in file h place = in_hdu (λ hdu. ok_or (card_placed hdu.header.cards place) NoCard) (hdu_of file h)

-- a shape, which each HDU of a file has
abbrev pub some_shape : Result Shape ℕ → Result Shape Refusal
some_shape (Ok shape) = Ok shape
some_shape (Err place) = Err BadShape

-- the shape that the cards of HDU h describe (4.4.1)
abbrev pub shape_in : FileParts → ℕ → Result Shape Refusal
shape_in file h = in_hdu (λ hdu. some_shape (shape_of (is_primary_hdu h) hdu.header.cards)) (hdu_of file h)

-- what an HDU answers by the shape that its cards describe
abbrev pub by_shape : {X : Type 0} → Bool → (Shape → HduParts → Result X PixelFault) → HduParts → Result X Refusal
by_shape primary answer hdu = shaped (shape_of primary hdu.header.cards) (λ shape. answer shape hdu)

-- the kind of the integer image that HDU h is (5.2)
abbrev pub kind_in : FileParts → ℕ → Result Kind Refusal
kind_in file h = in_hdu (by_shape (is_primary_hdu h) (λ shape hdu. ok_or (hdu_kind shape hdu.header.cards) pixel.NotImage)) (hdu_of file h)

-- the bits of the integers that HDU h is an array of, with axes or without (4.4.1.1)
abbrev pub array_in : FileParts → ℕ → Result ℕ Refusal
array_in file h = in_hdu (by_shape (is_primary_hdu h) (λ shape hdu. ok_or (array_bits shape) pixel.NotImage)) (hdu_of file h)

-- the statistics of the pixels of HDU h
abbrev pub stats_in : FileParts → ℕ → Result Stats Refusal
stats_in file h = in_hdu (by_shape (is_primary_hdu h) (λ shape hdu. ok_or (stats_of shape hdu) pixel.NotImage)) (hdu_of file h)

-- the sum of the data unit of HDU h (Appendix J)
abbrev pub datasum_in : FileParts → ℕ → Result ℕ Refusal
datasum_in file h = in_hdu (λ hdu. Ok (data_sum hdu)) (hdu_of file h)

-- whether the sums of HDU h are right (4.4.2.7)
abbrev pub verdicts_in : FileParts → ℕ → Result Verdicts Refusal
verdicts_in file h = in_hdu (λ hdu. Ok (verdicts_of hdu)) (hdu_of file h)

-- the values of a rectangle of HDU h, in file order
abbrev pub rect_in : FileParts → ℕ → List ℕ → List ℕ → Result (List ℤ) Refusal
rect_in file h lo hi = in_hdu (by_shape (is_primary_hdu h) (λ shape hdu. rect_of shape lo hi hdu)) (hdu_of file h)

-- a keyword's value, or its fault as a refusal
abbrev pub or_refused : Result (Value × Option (List ℕ)) KeywordFault → Result (Value × Option (List ℕ)) Refusal
or_refused (Ok said) = Ok said
or_refused (Err why) = Err (refusal_of_keyword why)

-- the value and the comment of a keyword in HDU h
abbrev pub value_in : FileParts → ℕ → List ℕ → Result (Value × Option (List ℕ)) Refusal
value_in file h name = in_hdu (λ hdu. or_refused (keyword_value hdu.header.cards name)) (hdu_of file h)

-- the places of the cards of a name in HDU h, ascending
abbrev pub positions_in : FileParts → ℕ → List ℕ → Result (List ℕ) Refusal
positions_in file h name = in_hdu (λ hdu. Ok (keyword_places hdu.header.cards name)) (hdu_of file h)

-- the codes of HDU h as a table
abbrev pub table_codes_in : FileParts → ℕ → Result (List TableCode) Refusal
table_codes_in file h = in_hdu (λ hdu. Ok (table_codes (is_primary_hdu h) hdu.header.cards)) (hdu_of file h)

-- the names of the cards of HDU h, each once, ascending by bytes
abbrev pub names_in : FileParts → ℕ → Result (List (List ℕ)) Refusal
names_in file h = in_hdu (λ hdu. Ok (header_names hdu.header.cards)) (hdu_of file h)

-- a query may end so: by its refusal, or out of memory where it has an answer
abbrev pub QueryFails : {X : Type 0} → Result X Refusal → Refusal → Type 0
QueryFails answer Memory = IsOk answer
QueryFails answer why = answer ≡ Err why

-- the query of places takes memory only where there is one
abbrev pub PlacesFail : Result (List ℕ) Refusal → Refusal → Type 0
PlacesFail answer Memory = IsOkAnd answer (λ places. 0 < length places)
PlacesFail answer why = answer ≡ Err why
