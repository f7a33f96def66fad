-- HDUs that are kept stamped: what a stamp after an edit leaves, and the room that it wants.
use Rattle.std.proofs.Common.{◌≡◌, ℕ, ◌+◌, ◌≤◌, Bool, true, false, List, [], ◌∷◌, length, get_or, replicate, refl, ap, sym, ◌∙◌, arith}
use Rattle.std.specs.Prelude.{Result, Ok, Err}
use Rattle.std.proofs.lemmas.List.{length-append, length-replicate}
use Rattle.std.proofs.lemmas.List.Elements.{All-append, All-cons, All-nil}
use Rattle.std.proofs.lemmas.Slice.Eq.{bytes_eq-Decides}
use Rattle.fits_card.specs.Card.{IsEnd, is_end, keyword_name}
use Rattle.fits_card.specs.Header.{IsHeader, IsInnerCard, fill_length, header_bytes, header_length}
use Rattle.fits_card.specs.Name.{end_name}
use Rattle.fits_card.proofs.HeaderLemmas.{fill_length-by_cards, length-header_bytes, whole-with_cards}
use Rattle.fits_passing.specs.ExtensionName.{extension_name}
use Rattle.fits_passing.specs.Hdu.{HduParts, IsHdu, hdu_bytes}
use Rattle.fits_hdu.specs.Stamp.{stamped}
use Rattle.fits_passing.specs.Sums.{verdicts_of}
use Rattle.fits_hdu.proofs.StampedNameLemmas.{stamping_keeps_names}
use Rattle.fits_hdu.proofs.StampingLemmas.{stamp_count_most, stamped_is_hdu, stamped_shape, stamped_unit}
use Rattle.fits_hdu.proofs.VerdictLemmas.{stamped_right}
use Rattle.fits_rules.specs.Shape.{shape_of}
use Rattle.fits_rules.specs.declared.array_shape.Shape.{Shape}
use Rattle.fits_making.specs.HduEdit.{made_or}
use Rattle.fits_making.specs.Keeping.{both_right, padded, padded_if, spare_cards, stamped_if, then_stamped}
use Rattle.fits_making.specs.declared.refusal.Refusal.{Refusal}

-- a blank card ends no header
blank_no_end : (blank : List ℕ) → blank ≡ replicate 80 32 → IsEnd blank → ⊥
unfolding is_end
blank_no_end blank e end =
    let letter : 32 ≡ 69 = ap (λ (x : List ℕ). get_or x 0 0) (sym (ap keyword_name e) ∙ (bytes_eq-Decides (keyword_name blank) end_name).0 end) in
    omega (arith, letter)

-- so it stands among the others
blank_inner : IsInnerCard (replicate 80 32)
blank_inner = record { size = length-replicate {A = ℕ} 80 32; not_end = blank_no_end (replicate 80 32) refl }

-- the header of an HDU with two cards more is one
padded_header : (primary : Bool) (hdu : HduParts) → IsHdu primary hdu → IsHeader (padded hdu).header
padded_header primary hdu p =
    let cards : List (List ℕ) = (padded hdu).header.cards in
    let two = All-cons IsInnerCard (replicate 80 32) (replicate 80 32 ∷ []) blank_inner (All-cons IsInnerCard (replicate 80 32) [] blank_inner (All-nil IsInnerCard)) in
    whole-with_cards hdu.header cards (replicate (fill_length (length cards)) 32) (length cards) p.header (All-append IsInnerCard hdu.header.cards _ p.header.cards two) refl refl

-- how long an HDU is, by the number of its cards
pub hdu_long : (hdu : HduParts) → IsHeader hdu.header → length (hdu_bytes hdu) ≡ header_length (length hdu.header.cards) + length hdu.data_unit
hdu_long hdu p = omega (arith, length-append (header_bytes hdu.header) hdu.data_unit, length-header_bytes hdu.header p, p.fill_size)

-- and with as many more as its stamp may bring
pub padded_long : (stamps primary : Bool) (hdu : HduParts) → IsHdu primary hdu → length (hdu_bytes (padded_if stamps hdu)) ≡ header_length (length hdu.header.cards + spare_cards stamps) + length hdu.data_unit
padded_long true primary hdu p =
    let blank : List ℕ = replicate 80 32 in
    let more : length (padded hdu).header.cards ≡ length hdu.header.cards + 2 = length-append hdu.header.cards (blank ∷ blank ∷ []) in
    hdu_long (padded hdu) (padded_header primary hdu p) ∙ ap (λ n. header_length n + length hdu.data_unit) more
padded_long false primary hdu p =
    let same : length hdu.header.cards + 0 ≡ length hdu.header.cards = omega arith in
    hdu_long hdu p.header ∙ sym (ap (λ n. header_length n + length hdu.data_unit) same)

-- a header of no more cards is no longer
pub no_longer : (m n : ℕ) → m ≤ n → header_length m ≤ header_length n
no_longer m n l = omega (arith, fill_length-by_cards m, fill_length-by_cards n)

-- what is stamped is an HDU
pub finished_whole : (stamps primary : Bool) (hdu : HduParts) → IsHdu primary hdu → IsHdu primary (stamped_if stamps hdu)
finished_whole true primary hdu p = stamped_is_hdu primary hdu p
finished_whole false primary hdu p = p

-- no longer than with these cards
pub finished_short : (stamps primary : Bool) (hdu : HduParts) → IsHdu primary hdu → length (hdu_bytes (stamped_if stamps hdu)) ≤ length (hdu_bytes (padded_if stamps hdu))
finished_short true primary hdu p = omega (
  arith,
  padded_long true primary hdu p,
  hdu_long (stamped hdu) (stamped_is_hdu primary hdu p).header,
  ap length (stamped_unit hdu),
  no_longer (length (stamped hdu).header.cards) (length hdu.header.cards + 2) (stamp_count_most hdu),
)
finished_short false primary hdu p = omega arith

-- its cards describe the shape
pub finished_shape : (stamps primary : Bool) (hdu : HduParts) (shape : Shape) → shape_of primary hdu.header.cards ≡ Ok shape → shape_of primary (stamped_if stamps hdu).header.cards ≡ Ok shape
finished_shape true primary hdu shape e = stamped_shape primary hdu shape e
finished_shape false primary hdu shape e = e

-- it is called as before
pub finished_named : (stamps primary : Bool) (hdu : HduParts) (shape : Shape) → shape_of primary hdu.header.cards ≡ Ok shape → extension_name primary (stamped_if stamps hdu).header.cards ≡ extension_name primary hdu.header.cards
finished_named true primary hdu shape e = stamping_keeps_names primary hdu shape e
finished_named false primary hdu shape e = refl

-- what was made and then stamped is what an edit leaves
pub stamped_made : (stamps : Bool) (made : Result HduParts Refusal) (old new : HduParts) → then_stamped stamps made ≡ Ok new → stamped_if stamps (made_or old made) ≡ new
stamped_made stamps (Ok mid) old new e = cc
stamped_made stamps (Err why) old new e = absurd (cc)

-- and both its sums are right
pub finished_right : (stamps primary : Bool) (hdu new : HduParts) → IsHdu primary hdu → new ≡ stamped_if stamps hdu → stamps ≡ true → verdicts_of new ≡ both_right
finished_right true primary hdu new p e is = ap verdicts_of e ∙ stamped_right primary hdu p
finished_right false primary hdu new p e is = cc
