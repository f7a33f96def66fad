-- Readings of cards: those of their bytes 11 to 80, moved by ten bytes.
use Rattle.std.proofs.Common.{◌≡◌, ℕ, ◌≤◌, ◌+◌, List, [], ◌∷◌, ◌++◌, length, Option, None, Some, refl, sym, ◌∙◌, ap, subst, arith}
use Rattle.std.specs.Prelude.{IfSome}
use Rattle.std.specs.Option.{option_map}
use Rattle.std.proofs.lemmas.List.{length-drop}
use Rattle.std.specs.List.{list_all}
use Rattle.std.proofs.Common.{take, drop, true}
use Rattle.std.proofs.lemmas.Bool.{and_parts}
use Rattle.std.proofs.lemmas.List.{take-append-drop}
use Rattle.std.proofs.lemmas.List.Folds.{list_all-append}
use Rattle.fits_card.specs.Card.{IsText, is_text, is_text_byte}
use Rattle.fits_value.proofs.PartLemmas.{part-drop}
use Rattle.fits_value.specs.Spelling.{IsSpaces}
use Rattle.fits_value.specs.Field.{FieldReadsAs, ReadsAs, IsPlacedIn, part, field}
use Rattle.fits_value.specs.Scan.{moved_span, moved_reading}
use Rattle.fits_value.specs.declared.reading.ValueKind.{ValueKind}
use Rattle.fits_value.specs.declared.reading.Span.{Span}
use Rattle.fits_value.specs.declared.reading.Reading.{Reading}

-- bytes 11 to 80 of a card of text are text
pub field_is_text : (card : List ℕ) → IsText card → IsText (field card)
unfolding is_text
field_is_text card h =
    let whole : list_all is_text_byte (take 10 card ++ drop 10 card) ≡ true = ap (list_all is_text_byte) (take-append-drop 10 card) ∙ h in
    (and_parts (list_all is_text_byte (take 10 card)) (list_all is_text_byte (drop 10 card)) (sym (list_all-append is_text_byte (take 10 card) (drop 10 card)) ∙ whole)).1

-- a moved span has the same bytes
moved_part : (card : List ℕ) (span : Span) → part (field card) span ≡ part card (moved_span span)
moved_part card span = part-drop 10 span.start span.end card

-- so does a moved comment
moved_comment : (card : List ℕ) (comment : Option Span) → option_map (part (field card)) comment ≡ option_map (part card) (option_map moved_span comment)
moved_comment card None = refl
moved_comment card (Some span) = ap Some (moved_part card span)

-- the places of a moved comment
moved_after : (card : List ℕ) (end : ℕ) (comment : Option Span)
    → IfSome comment (λ span. (spaces : List ℕ) × IsSpaces spaces × (part (field card) (record { start = end; end = span.start }) ≡ spaces ++ 47 ∷ []))
    → IfSome (option_map moved_span comment) (λ span. (spaces : List ℕ) × IsSpaces spaces × (part card (record { start = 10 + end; end = span.start }) ≡ spaces ++ 47 ∷ []))
moved_after card end None h = tt
moved_after card end (Some span) h = (h.0, h.1, sym (moved_part card (record { start = end; end = span.start })) ∙ h.2)

-- a moved comment is in order
moved_order : (comment : Option Span) → IfSome comment (λ span. span.start ≤ span.end) → IfSome (option_map moved_span comment) (λ span. span.start ≤ span.end)
moved_order None h = tt
moved_order (Some span) h = omega arith

-- a moved comment lies in the card
moved_within : (card : List ℕ) (comment : Option Span) → length card ≡ 80 → IfSome comment (λ span. span.end ≤ length (field card)) → IfSome (option_map moved_span comment) (λ span. span.end ≤ length card)
moved_within card None size h = tt
moved_within card (Some span) size h = omega (arith, length-drop 10 card)

-- a moved reading stands where the card has it
moved_placed : (card : List ℕ) (r : Reading) → length card ≡ 80 → IsPlacedIn (field card) 0 r → IsPlacedIn card 10 (moved_reading r)
moved_placed card r size h = record {
  value_from = omega arith;
  value_order = let e = h.value_order in omega arith;
  value_within = omega (arith, h.value_within, length-drop 10 card);
  value_after = subst (λ (x : List ℕ). IsSpaces x) (moved_part card (record { start = 0; end = r.value.start })) h.value_after;
  no_value = λ e. ap moved_span (h.no_value e);
  comment_order = moved_order r.comment h.comment_order;
  comment_within = moved_within card r.comment size h.comment_within;
  comment_after = moved_after card r.value.end r.comment h.comment_after;
}

-- what a card's bytes 11 to 80 are found to say, the card says
moved_says : (card : List ℕ) (r : Reading) → IsText card → FieldReadsAs (field card) r.kind (part (field card) r.value) (option_map (part (field card)) r.comment)
    → ReadsAs card r.kind (part card (moved_span r.value)) (option_map (part card) (option_map moved_span r.comment))
moved_says card r is_text h = record {
  is_text = is_text;
  reads = subst (λ (c : Option (List ℕ)). FieldReadsAs (field card) r.kind (part card (moved_span r.value)) c) (moved_comment card r.comment)
      (subst (λ (s : List ℕ). FieldReadsAs (field card) r.kind s (option_map (part (field card)) r.comment)) (moved_part card r.value) h);
}

-- a reading of the bytes 11 to 80, and of the card
abbrev pub IsTold : ValueKind → List ℕ → Option (List ℕ) → List ℕ → Reading → Type 0
IsTold kind spelling comment text r = (r.kind ≡ kind) × (part text r.value ≡ spelling) × (option_map (part text) r.comment ≡ comment)

-- what the bytes 11 to 80 are found to say, the moved reading says
moved_told : (card : List ℕ) (kind : ValueKind) (spelling : List ℕ) (comment : Option (List ℕ)) (r : Reading) → IsTold kind spelling comment (field card) r → IsTold kind spelling comment card (moved_reading r)
moved_told card kind spelling comment r h = (h.0, sym (moved_part card r.value) ∙ h.1, sym (moved_comment card r.comment) ∙ h.2)

-- a card says what its bytes 11 to 80 are found to say
pub card_found : (card text : List ℕ) (r m : Reading) → IsText card → text ≡ field card → m ≡ moved_reading r
    → FieldReadsAs text r.kind (part text r.value) (option_map (part text) r.comment) → ReadsAs card m.kind (part card m.value) (option_map (part card) m.comment)
card_found card text r m h e f s =
    subst (λ (x : Reading). ReadsAs card x.kind (part card x.value) (option_map (part card) x.comment)) (sym f)
    (moved_says card r h (subst (λ (x : List ℕ). FieldReadsAs x r.kind (part x r.value) (option_map (part x) r.comment)) e s))

-- and its spans stand where they are moved to
pub card_placed : (card text : List ℕ) (r m : Reading) → length card ≡ 80 → text ≡ field card → m ≡ moved_reading r → IsPlacedIn text 0 r → IsPlacedIn card 10 m
card_placed card text r m size e f h =
    subst (λ (x : Reading). IsPlacedIn card 10 x) (sym f) (moved_placed card r size (subst (λ (x : List ℕ). IsPlacedIn x 0 r) e h))

-- what a card says is what its bytes 11 to 80 are found to say
pub card_only : (card text : List ℕ) (r m : Reading) → text ≡ field card → m ≡ moved_reading r
    → ((k : ValueKind) (s : List ℕ) (c : Option (List ℕ)) → FieldReadsAs text k s c → IsTold k s c text r)
    → (k : ValueKind) (s : List ℕ) (c : Option (List ℕ)) → ReadsAs card k s c → IsTold k s c card m
card_only card text r m e f h k s c says =
    let found = h k s c (subst (λ (x : List ℕ). FieldReadsAs x k s c) (sym e) says.reads) in
    subst (λ (x : Reading). IsTold k s c card x) (sym f) (moved_told card k s c r (subst (λ (x : List ℕ). IsTold k s c x r) e found))

-- a card whose bytes 11 to 80 say nothing
pub card_none : (card text : List ℕ) → text ≡ field card → ((k : ValueKind) (s : List ℕ) (c : Option (List ℕ)) → FieldReadsAs text k s c → ⊥)
    → (k : ValueKind) (s : List ℕ) (c : Option (List ℕ)) → ReadsAs card k s c → ⊥
card_none card text e h k s c says = h k s c (subst (λ (x : List ℕ). FieldReadsAs x k s c) (sym e) says.reads)
