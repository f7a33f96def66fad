-- What is found of an HDU under edits.
use Rattle.std.proofs.Common.{◌≡◌, ℕ, ◌+◌, Bool, true, false, List, ◌++◌, drop, map, Option, None, Some, refl, ap, sym, ◌∙◌, arith}
use Rattle.std.specs.Prelude.{nat_eq}
use Rattle.std.specs.List.{list_all}
use Rattle.std.proofs.lemmas.List.{map-append}
use Rattle.fits_rules.specs.Size.{data_size}
use Rattle.fits_rules.specs.declared.array_shape.Shape.{Shape}
use Rattle.fits_codes.specs.declared.code.Code.{Code}
use Rattle.fits_header.specs.Findings.{card_counts, card_findings, counts_by, counts_of, found_at, summed}
use Rattle.fits_header.specs.declared.counts.Counts.{Counts}
use Rattle.fits_header.specs.declared.finding.Finding.{Finding}
use Rattle.fits_header.proofs.FindingLemmas.{codes-found_at, counts-append}
use Rattle.fits_pixels.specs.declared.layout.Layout.{Layout}
use Rattle.fits_passing.specs.ExtensionName.{name_codes}
use Rattle.fits_passing.specs.Findings.{hdu_counts, hdu_findings, is_filled, whole_codes}
use Rattle.fits_passing.specs.Hdu.{HduParts}
use Rattle.fits_passing.specs.Layout.{fill_byte, layout_by, layout_of}
use Rattle.fits_passing.proofs.FindingLemmas.{few_codes, marked_codes}

-- where the fill begins
layout_used : (bits : Option ℕ) (shape : Shape) (cards : List (List ℕ)) → (layout_by bits shape cards).used ≡ data_size shape
layout_used None shape cards = refl
layout_used (Some bits) shape cards = refl

-- and which byte it is of
layout_fill : (bits : Option ℕ) (shape : Shape) (cards : List (List ℕ)) → (layout_by bits shape cards).fill ≡ fill_byte shape.class
layout_fill None shape cards = refl
layout_fill (Some bits) shape cards = refl

-- the fill by the layout is the fill by the shape
same_fill : (layout : Layout) (shape : Shape) (cards : List (List ℕ)) (unit : List ℕ) → layout ≡ layout_of shape cards → list_all (nat_eq layout.fill) (drop layout.used unit) ≡ is_filled shape unit
unfolding layout_of is_filled
same_fill layout shape cards unit is =
    let used : layout.used ≡ data_size shape = ap (λ (l : Layout). l.used) is ∙ layout_used _ shape cards in
    let fill : layout.fill ≡ fill_byte shape.class = ap (λ (l : Layout). l.fill) is ∙ layout_fill _ shape cards in
    rw (used, fill) refl

-- whether the data fill is what it should be, by the layout
pub fill_known : (ok : Bool) (layout : Layout) (shape : Shape) (cards : List (List ℕ)) (unit : List ℕ) → layout ≡ layout_of shape cards → ok ≡ list_all (nat_eq layout.fill) (drop layout.used unit) → ok ≡ is_filled shape unit
fill_known ok layout shape cards unit is test = test ∙ same_fill layout shape cards unit is

-- the last two of three counts may change places
summed_swap : (a b c : Counts) → summed (summed a b) c ≡ summed (summed a c) b
summed_swap a b c =
    let errors : (a.errors + b.errors) + c.errors ≡ (a.errors + c.errors) + b.errors = omega arith in
    let warnings : (a.warnings + b.warnings) + c.warnings ≡ (a.warnings + c.warnings) + b.warnings = omega arith in
    ap (λ n. counts_by n ((a.warnings + b.warnings) + c.warnings)) errors ∙ ap (λ n. counts_by ((a.errors + c.errors) + b.errors) n) warnings

-- the counts of an HDU are those of the whole, those of its cards, and that of its name
counts_parts : (shape : Shape) (hdu : HduParts) (repeated : Bool) → hdu_counts shape hdu repeated ≡ summed (summed (counts_of (whole_codes shape hdu)) (card_counts shape hdu.header.cards)) (counts_of (name_codes repeated))
unfolding hdu_findings hdu_counts card_counts
counts_parts shape hdu repeated =
    let whole : List Code = whole_codes shape hdu in
    let named : List Code = name_codes repeated in
    let cards : List Finding = card_findings shape hdu.header.cards in
    let code : Finding → Code = λ (finding : Finding). finding.code in
    ap counts_of (map-append code (found_at 0 (whole ++ named)) cards ∙ ap (λ xs. xs ++ map code cards) (codes-found_at 0 (whole ++ named)))
    ∙ counts-append (whole ++ named) (map code cards)
    ∙ ap (λ (c : Counts). summed c (counts_of (map code cards))) (counts-append whole named)
    ∙ summed_swap (counts_of whole) (counts_of named) (counts_of (map code cards))

-- nothing is added to counts
summed_none : (a : Counts) → summed a (counts_by 0 0) ≡ a
summed_none a =
    let errors : a.errors + 0 ≡ a.errors = omega arith in
    let warnings : a.warnings + 0 ≡ a.warnings = omega arith in
    ap (λ n. counts_by n (a.warnings + 0)) errors ∙ ap (λ n. counts_by a.errors n) warnings

-- where the whole and the cards were counted apart
counted_apart : (result of_whole of_cards : Counts) (hdu : HduParts) (shape : Shape) (whole : List Code) → result ≡ summed of_whole of_cards → of_whole ≡ counts_of whole → whole ≡ whole_codes shape hdu → of_cards ≡ card_counts shape hdu.header.cards
    → result ≡ summed (counts_of (whole_codes shape hdu)) (card_counts shape hdu.header.cards)
counted_apart result of_whole of_cards hdu shape whole is p q r = is ∙ (rw (p, q, r) refl)

-- and no other extension is called the same
pub counts_known : (result of_whole of_cards : Counts) (hdu : HduParts) (shape : Shape) (whole : List Code) (repeated : Bool) → result ≡ summed of_whole of_cards → of_whole ≡ counts_of whole → whole ≡ whole_codes shape hdu → of_cards ≡ card_counts shape hdu.header.cards
    → repeated ≡ false → result ≡ hdu_counts shape hdu repeated
counts_known result of_whole of_cards hdu shape whole repeated is p q r once =
    let apart = counted_apart result of_whole of_cards hdu shape whole is p q r in
    let parts : hdu_counts shape hdu false ≡ summed (summed (counts_of (whole_codes shape hdu)) (card_counts shape hdu.header.cards)) (counts_by 0 0) = counts_parts shape hdu false in
    apart ∙ (sym (summed_none _) ∙ (sym parts ∙ ap (hdu_counts shape hdu) (sym once)))

-- or another is
pub counts_named : (result counts named of_whole of_cards : Counts) (hdu : HduParts) (shape : Shape) (whole : List Code) (repeated : Bool) → result ≡ summed counts named → named ≡ counts_of (name_codes true) → counts ≡ summed of_whole of_cards → of_whole ≡ counts_of whole
    → whole ≡ whole_codes shape hdu → of_cards ≡ card_counts shape hdu.header.cards → repeated ≡ true → result ≡ hdu_counts shape hdu repeated
counts_named result counts named of_whole of_cards hdu shape whole repeated is name p q r s twice =
    let apart = counted_apart counts of_whole of_cards hdu shape whole p q r s in
    is ∙ (ap (λ (c : Counts). summed c named) apart ∙ (ap (λ (c : Counts). summed (summed (counts_of (whole_codes shape hdu)) (card_counts shape hdu.header.cards)) c) name
    ∙ (sym (counts_parts shape hdu true) ∙ ap (hdu_counts shape hdu) (sym twice))))

pub ruleset report_steps = (few_codes, marked_codes)
