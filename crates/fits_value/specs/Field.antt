-- What a field says: a value's kind, its spelling and a comment (FITS Standard 4.0, section 4.1.2.3).
use Rattle.std.specs.Prelude.{codes, ◌≡◌, ℕ, ◌≤◌, List, [], ◌++◌, length, drop, Option, None, Some, IfSome}
use Rattle.std.specs.List.{slice_range, suffix_len}
use Rattle.fits_card.specs.Card.{IsText}
use Rattle.fits_value.specs.Spelling.{is_space, IsSpaces, Spells}
use Rattle.fits_value.specs.declared.reading.ValueKind.{ValueKind}
use Rattle.fits_value.specs.declared.reading.ValueKind.TheVariants.{Undefined}
use Rattle.fits_value.specs.declared.reading.Span.{Span}
use Rattle.fits_value.specs.declared.reading.Reading.{Reading}

-- nothing, or a slash, a comment that ends in no space, and spaces (4.1.2.3)
abbrev pub IsEndingOf : List ℕ → Option (List ℕ) → Type 0
IsEndingOf ending None = ending ≡ []
IsEndingOf ending (Some comment) = (spaces : List ℕ) × IsSpaces spaces × (suffix_len is_space comment ≡ 0) × (ending ≡ codes "/" ++ comment ++ spaces)

-- spaces, a value as it is spelled, spaces, and nothing or a slash with a comment (4.1.2.3)
pub record FieldReadsAs (text : List ℕ) (kind : ValueKind) (spelling : List ℕ) (comment : Option (List ℕ)) : Type 0 where
  pub before : List ℕ
  pub after : List ℕ
  pub ending : List ℕ
  pub parts : text ≡ before ++ spelling ++ after ++ ending
  pub is_text : IsText text
  pub spaced : IsSpaces before × IsSpaces after
  pub spelled : Spells kind spelling
  pub ends : IsEndingOf ending comment

-- bytes 11 to 80: where a card's value and comment stand (4.1.2.3)
abbrev pub field : List ℕ → List ℕ
field card = drop 10 card

-- a card of text whose bytes 11 to 80 say this value and comment, whatever its bytes 9 and 10 (4.1.2.3)
pub record ReadsAs (card : List ℕ) (kind : ValueKind) (spelling : List ℕ) (comment : Option (List ℕ)) : Type 0 where
  pub is_text : IsText card
  pub reads : FieldReadsAs (field card) kind spelling comment

-- the bytes of a span
abbrev pub part : List ℕ → Span → List ℕ
part text span = slice_range text span.start span.end

-- where a reading's value and comment stand in a text, whose field begins at a place counted from 0:
-- spaces alone stand before a value, and between it and the slash; no value stands nowhere (own)
pub record IsPlacedIn (text : List ℕ) (from : ℕ) (reading : Reading) : Type 0 where
  pub value_from : from ≤ reading.value.start
  pub value_order : reading.value.start ≤ reading.value.end
  pub value_within : reading.value.end ≤ length text
  pub value_after : IsSpaces (part text (record { start = from; end = reading.value.start }))
  pub no_value : reading.kind ≡ Undefined → reading.value ≡ record { start = from; end = from }
  pub comment_order : IfSome reading.comment (λ span. span.start ≤ span.end)
  pub comment_within : IfSome reading.comment (λ span. span.end ≤ length text)
  pub comment_after : IfSome reading.comment (λ span. (spaces : List ℕ) × IsSpaces spaces × (part text (record { start = reading.value.end; end = span.start }) ≡ spaces ++ codes "/"))
