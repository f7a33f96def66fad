-- The order of a report.
use Rattle.std.proofs.Common.{◌≡◌, ◌⊎◌, ℕ, ◌+◌, ◌<◌, ◌≤◌, Bool, true, false, List, [], ◌∷◌, ◌++◌, length, map, refl, arith, inl, inr, zero, suc}
use Rattle.std.specs.Prelude.{All, AllPairs, Option, Result, Ok, Err}
use Rattle.std.specs.List.{filter, flat_map, range_with_len}
use Rattle.std.proofs.lemmas.List.{length-map, get_or-map}
use Rattle.std.proofs.lemmas.List.Elements.{All-append, All-cons, All-filter, All-map}
use Rattle.std.proofs.lemmas.List.Kept.{AllPairs-filter}
use Rattle.std.proofs.lemmas.List.FromFn.{get_or-range_with_len, length-range_with_len}
use Rattle.fits_rules.specs.Shape.{shape_of}
use Rattle.fits_rules.specs.declared.array_shape.Shape.{Shape}
use Rattle.fits_codes.specs.Code.{number}
use Rattle.fits_codes.specs.HeaderCodes.{has_header_code, header_codes, header_judged, header_mark_of}
use Rattle.fits_codes.specs.Judged.{card_codes, has_code, judged}
use Rattle.fits_codes.specs.Mark.{mark_of}
use Rattle.fits_codes.specs.declared.code.Code.{Code}
use Rattle.fits_codes.specs.declared.code.Code.TheVariants.{BadDataFill, WrongDatasum, WrongChecksum, DuplicateExtension}
use Rattle.fits_header.specs.Findings.{card_findings, card_of, codes_at, context_at, found_at}
use Rattle.fits_header.specs.declared.finding.Finding.{Finding}
use Rattle.fits_header.proofs.FilterLemmas.{AllPairs-append, AllPairs-map}
use Rattle.fits_passing.specs.ExtensionName.{name_codes}
use Rattle.fits_passing.specs.Findings.{data_codes, has_data_code, hdu_findings, is_filled, whole_codes}
use Rattle.fits_passing.specs.Sums.{verdicts_of}
use Rattle.fits_passing.specs.Hdu.{HduParts}
use Rattle.fits_passing.specs.declared.called.ExtensionName.{ExtensionName}
use Rattle.fits_passing.specs.File.{FileParts, is_primary_hdu}
use Rattle.fits_passing.specs.Report.{in_hdu, is_repeated, name_in, names_from, report_of, trailing, trails, wrong_from, wrong_in, IsListedBefore}
use Rattle.fits_passing.specs.declared.problem.Problem.{Problem}

-- a code has a smaller number
abbrev IsCodeBefore : Code → Code → Type 0
IsCodeBefore code other = number code < number other

-- a finding stands before another: by place, by number
abbrev IsFoundBefore : Finding → Finding → Type 0
IsFoundBefore found other = (found.place < other.place) ⊎ ((found.place ≡ other.place) × IsCodeBefore found.code other.code)

-- a list is in order where the numbers of its elements are
by_number : {X : Type 0} (f : X → ℕ) (xs : List X) → AllPairs (λ m n. m < n) (map f xs) → AllPairs (λ x y. f x < f y) xs
by_number f xs p i j d l m =
    let one = get_or-map f xs i d (f d) (omega (arith, l, m)) in
    let two = get_or-map f xs j d (f d) m in
    omega (arith, one, two, p i j (f d) l (omega (arith, m, length-map xs f)))

-- numbers from one on are in order
counted : (start count : ℕ) → AllPairs (λ m n. m < n) (range_with_len start count)
counted start count i j d l m =
    let long = length-range_with_len start count in omega (arith, l, m, long, get_or-range_with_len start count i d (omega (arith, l, m, long)), get_or-range_with_len start count j d (omega (arith, m, long)))

-- the codes of a card
card_ordered : AllPairs IsCodeBefore card_codes
card_ordered = by_number number card_codes (counted 1 13)

-- those of a header
header_ordered : AllPairs IsCodeBefore header_codes
header_ordered = by_number number header_codes (counted 14 8)

-- those of the data and the sums
abbrev unit_codes : List Code
unit_codes = BadDataFill ∷ WrongDatasum ∷ WrongChecksum ∷ []

-- they are in order
unit_ordered : AllPairs IsCodeBefore unit_codes
unit_ordered = by_number number unit_codes (counted 22 3)

-- of numbers, all are
all_below : (xs : List Code) (last : ℕ) → All (λ n. n < last) (map number xs) → All (λ code. number code < last) xs
all_below xs last p k d l = omega (arith, get_or-map number xs k d (number d) l, p k (number d) (omega (arith, l, length-map xs number)))

-- each of those of a header comes before them
header_below : All (λ code. number code < 22) header_codes
header_below = all_below header_codes 22 (λ k d l. omega (arith, l, get_or-range_with_len 14 8 k d l))

-- and before that of a name
header_lower : All (λ code. number code < 25) header_codes
header_lower k d l = omega (arith, header_below k d l)

-- and so do those of the data and the sums
unit_below : All (λ code. number code < 25) unit_codes
unit_below = all_below unit_codes 25 (λ k d l. omega (arith, l, get_or-range_with_len 22 3 k d l))

-- each of which comes after those of a header
unit_above : All (λ code. 22 ≤ number code) unit_codes
unit_above =
    All-cons (λ code. 22 ≤ number code) BadDataFill (WrongDatasum ∷ WrongChecksum ∷ []) (omega arith)
    (All-cons (λ code. 22 ≤ number code) WrongDatasum (WrongChecksum ∷ []) (omega arith) (All-cons (λ code. 22 ≤ number code) WrongChecksum [] (omega arith) (λ k d l. absurd (omega arith))))

-- codes below a number, and codes from there on
header_first : (xs ys : List Code) → All (λ code. number code < 22) xs → All (λ code. 22 ≤ number code) ys → All (λ x. All (IsCodeBefore x) ys) xs
header_first xs ys p q k d l i e m = omega (arith, p k d l, q i e m)

-- what is found at a place
place_ordered : (place : ℕ) (codes : List Code) → AllPairs IsCodeBefore codes → AllPairs IsFoundBefore (found_at place codes)
place_ordered place codes p = AllPairs-map IsCodeBefore IsFoundBefore (λ code. let found : Finding = record { place = place; code = code } in found) (λ a b before. inr (refl, before)) codes p

-- all of it stands there
at_place : (place : ℕ) (codes : List Code) → All (λ (found : Finding). found.place ≡ place) (found_at place codes)
at_place place codes = All-map (λ (found : Finding). found.place ≡ place) (λ code. let found : Finding = record { place = place; code = code } in found) codes (λ k d l. refl)

-- what is found of an HDU as a whole
whole_ordered : (shape : Shape) (hdu : HduParts) → AllPairs IsCodeBefore (whole_codes shape hdu)
unfolding header_judged data_codes
whole_ordered shape hdu =
    let header : Code → Bool = has_header_code (header_mark_of hdu.header shape) shape in
    let unit : Code → Bool = has_data_code (is_filled shape hdu.data_unit) (verdicts_of hdu) in
    AllPairs-append IsCodeBefore (filter header header_codes) (filter unit unit_codes) (AllPairs-filter IsCodeBefore header header_codes header_ordered) (AllPairs-filter IsCodeBefore unit unit_codes unit_ordered)
    (header_first (filter header header_codes) (filter unit unit_codes) (All-filter header (λ code. number code < 22) header_codes header_below) (All-filter unit (λ code. 22 ≤ number code) unit_codes unit_above))

-- what is found of a card
codes_ordered : (shape : Shape) (cards : List (List ℕ)) (place : ℕ) → AllPairs IsCodeBefore (codes_at shape cards place)
unfolding judged
codes_ordered shape cards place = AllPairs-filter IsCodeBefore (has_code (mark_of (card_of cards place)) (context_at shape cards place)) card_codes card_ordered

-- findings at places from one on
abbrev from_place : ℕ → List Finding → Type 0
from_place start found = All (λ (it : Finding). start ≤ it.place) found

-- findings that stand further on do so
from_later : (start later : ℕ) (found : List Finding) → start ≤ later → from_place later found → from_place start found
from_later start later found l p k d m = omega (arith, l, p k d m)

-- those at a place are from there on
from_here : (place : ℕ) (found : List Finding) → All (λ (it : Finding). it.place ≡ place) found → from_place place found
from_here place found p k d m = omega (arith, p k d m)

-- what stands at a place, before what stands behind it
before_later : (place : ℕ) (xs ys : List Finding) → All (λ (it : Finding). it.place ≡ place) xs → from_place (place + 1) ys → All (λ x. All (IsFoundBefore x) ys) xs
before_later place xs ys p q k d l i e m = inl (omega (arith, p k d l, q i e m))

-- what is found of cards
cards_from : (shape : Shape) (cards : List (List ℕ)) (start count : ℕ) → from_place start (flat_map (λ place. found_at place (codes_at shape cards place)) (range_with_len start count))
cards_from shape cards start zero = λ k d l. absurd (omega arith)
cards_from shape cards start (suc count) =
    let here : List Finding = found_at start (codes_at shape cards start) in
    let more : List Finding = flat_map (λ place. found_at place (codes_at shape cards place)) (range_with_len (start + 1) count) in
    All-append (λ (it : Finding). start ≤ it.place) here more (from_here start here (at_place start (codes_at shape cards start))) (from_later start (start + 1) more (omega arith) (cards_from shape cards (start + 1) count))

-- is in order
cards_ordered : (shape : Shape) (cards : List (List ℕ)) (start count : ℕ) → AllPairs IsFoundBefore (flat_map (λ place. found_at place (codes_at shape cards place)) (range_with_len start count))
cards_ordered shape cards start zero = λ i j d l m. absurd (omega arith)
cards_ordered shape cards start (suc count) =
    let here : List Finding = found_at start (codes_at shape cards start) in
    let more : List Finding = flat_map (λ place. found_at place (codes_at shape cards place)) (range_with_len (start + 1) count) in
    AllPairs-append IsFoundBefore here more (place_ordered start (codes_at shape cards start) (codes_ordered shape cards start)) (cards_ordered shape cards (start + 1) count)
    (before_later start here more (at_place start (codes_at shape cards start)) (cards_from shape cards (start + 1) count))

-- codes of the whole, below the number of the name's
whole_below : (shape : Shape) (hdu : HduParts) → All (λ code. number code < 25) (whole_codes shape hdu)
unfolding header_judged data_codes
whole_below shape hdu =
    let header : Code → Bool = has_header_code (header_mark_of hdu.header shape) shape in
    let unit : Code → Bool = has_data_code (is_filled shape hdu.data_unit) (verdicts_of hdu) in
    All-append (λ code. number code < 25) (filter header header_codes) (filter unit unit_codes) (All-filter header (λ code. number code < 25) header_codes header_lower) (All-filter unit (λ code. number code < 25) unit_codes unit_below)

-- a name has one code at most
name_ordered : (repeated : Bool) → AllPairs IsCodeBefore (name_codes repeated)
name_ordered true = λ i j d l m. absurd (omega arith)
name_ordered false = λ i j d l m. absurd (omega arith)

-- which is that number
name_above : (repeated : Bool) → All (λ code. 25 ≤ number code) (name_codes repeated)
name_above true = All-cons (λ code. 25 ≤ number code) DuplicateExtension [] (omega arith) (λ k d l. absurd (omega arith))
name_above false = λ k d l. absurd (omega arith)

-- codes below that number, and codes from there on
whole_first : (xs ys : List Code) → All (λ code. number code < 25) xs → All (λ code. 25 ≤ number code) ys → All (λ x. All (IsCodeBefore x) ys) xs
whole_first xs ys p q k d l i e m = omega (arith, p k d l, q i e m)

-- what is found of an HDU as a whole, and of its name
named_ordered : (shape : Shape) (hdu : HduParts) (repeated : Bool) → AllPairs IsCodeBefore (whole_codes shape hdu ++ name_codes repeated)
named_ordered shape hdu repeated =
    AllPairs-append IsCodeBefore (whole_codes shape hdu) (name_codes repeated) (whole_ordered shape hdu) (name_ordered repeated) (whole_first (whole_codes shape hdu) (name_codes repeated) (whole_below shape hdu) (name_above repeated))

-- and so is what is found of an HDU
hdu_ordered : (shape : Shape) (hdu : HduParts) (repeated : Bool) → AllPairs IsFoundBefore (hdu_findings shape hdu repeated)
unfolding hdu_findings card_findings
hdu_ordered shape hdu repeated =
    let whole : List Code = whole_codes shape hdu ++ name_codes repeated in
    AllPairs-append IsFoundBefore (found_at 0 whole) (card_findings shape hdu.header.cards) (place_ordered 0 whole (named_ordered shape hdu repeated)) (cards_ordered shape hdu.header.cards 1 (length hdu.header.cards))
    (before_later 0 (found_at 0 whole) (card_findings shape hdu.header.cards) (at_place 0 whole) (cards_from shape hdu.header.cards 1 (length hdu.header.cards)))

-- problems of HDUs from number h on, before a number
abbrev within_hdus : ℕ → ℕ → List Problem → Type 0
within_hdus h end problems = All (λ (it : Problem). (h ≤ it.hdu) × (it.hdu < end)) problems

-- what is wrong in an HDU
wrong_ordered : (h : ℕ) (hdu : HduParts) (repeated : Bool) (said : Result Shape ℕ) → AllPairs IsListedBefore (wrong_in h hdu repeated said)
wrong_ordered h hdu repeated (Ok shape) = AllPairs-map IsFoundBefore IsListedBefore (in_hdu h) (λ a b before. inr (refl, before)) (hdu_findings shape hdu repeated) (hdu_ordered shape hdu repeated)
wrong_ordered h hdu repeated (Err place) = λ i j d l m. absurd (omega arith)

-- is of that HDU
wrong_within : (h : ℕ) (hdu : HduParts) (repeated : Bool) (said : Result Shape ℕ) → within_hdus h (h + 1) (wrong_in h hdu repeated said)
wrong_within h hdu repeated (Ok shape) = All-map (λ (it : Problem). (h ≤ it.hdu) × (it.hdu < h + 1)) (in_hdu h) (hdu_findings shape hdu repeated) (λ k d l. (omega arith, omega arith))
wrong_within h hdu repeated (Err place) = λ k d l. absurd (omega arith)

-- problems within more numbers
within_more : (h k end last : ℕ) (problems : List Problem) → h ≤ k → end ≤ last → within_hdus k end problems → within_hdus h last problems
within_more h k end last problems l m p i d n = let q = p i d n in (omega (arith, l, q.0), omega (arith, m, q.1))

-- problems of HDUs, and of later ones
before_more : (h end last : ℕ) (xs ys : List Problem) → within_hdus h end xs → within_hdus end last ys → All (λ x. All (IsListedBefore x) ys) xs
before_more h end last xs ys p q k d l i e m = let one = p k d l in let two = q i e m in inl (omega (arith, one.1, two.0))

-- what is wrong in HDUs
hdus_within : (names : List (Option ExtensionName)) (h : ℕ) (us : List HduParts) → within_hdus h (h + length us) (wrong_from names h us)
hdus_within names h [] = λ k d l. absurd (omega arith)
hdus_within names h (u ∷ us) =
    let here : List Problem = wrong_in h u (is_repeated names (name_in h u)) (shape_of (is_primary_hdu h) u.header.cards) in
    All-append (λ (it : Problem). (h ≤ it.hdu) × (it.hdu < h + length (u ∷ us))) here (wrong_from names (h + 1) us)
    (within_more h h (h + 1) (h + length (u ∷ us)) here (omega arith) (omega arith) (wrong_within h u (is_repeated names (name_in h u)) (shape_of (is_primary_hdu h) u.header.cards)))
    (within_more h (h + 1) (h + 1 + length us) (h + length (u ∷ us)) (wrong_from names (h + 1) us) (omega arith) (omega arith) (hdus_within names (h + 1) us))

-- is in order
hdus_ordered : (names : List (Option ExtensionName)) (h : ℕ) (us : List HduParts) → AllPairs IsListedBefore (wrong_from names h us)
hdus_ordered names h [] = λ i j d l m. absurd (omega arith)
hdus_ordered names h (u ∷ us) =
    let here : List Problem = wrong_in h u (is_repeated names (name_in h u)) (shape_of (is_primary_hdu h) u.header.cards) in
    AllPairs-append IsListedBefore here (wrong_from names (h + 1) us) (wrong_ordered h u (is_repeated names (name_in h u)) (shape_of (is_primary_hdu h) u.header.cards)) (hdus_ordered names (h + 1) us)
    (before_more h (h + 1) (h + 1 + length us) here (wrong_from names (h + 1) us) (wrong_within h u (is_repeated names (name_in h u)) (shape_of (is_primary_hdu h) u.header.cards)) (hdus_within names (h + 1) us))

-- one problem at most says what trails
trailing_ordered : (h : ℕ) (tail : List ℕ) → AllPairs IsListedBefore (trailing h tail)
trailing_ordered h [] = λ i j d l m. absurd (omega arith)
trailing_ordered h (byte ∷ bytes) = λ i j d l m. absurd (omega arith)

-- as of the HDU that would be next
trailing_within : (h : ℕ) (tail : List ℕ) → within_hdus h (h + 1) (trailing h tail)
trailing_within h [] = λ k d l. absurd (omega arith)
trailing_within h (byte ∷ bytes) = All-cons (λ (it : Problem). (h ≤ it.hdu) × (it.hdu < h + 1)) (trails h) [] (omega arith, omega arith) (λ k d l. absurd (omega arith))

-- the report is in order
pub in_order : (file : FileParts) → AllPairs IsListedBefore (report_of file)
unfolding report_of
in_order file =
    let count : ℕ = length file.hdus in
    let names : List (Option ExtensionName) = names_from 1 file.hdus in
    AllPairs-append IsListedBefore (wrong_from names 1 file.hdus) (trailing (count + 1) file.tail) (hdus_ordered names 1 file.hdus) (trailing_ordered (count + 1) file.tail)
    (before_more 1 (count + 1) (count + 1 + 1) (wrong_from names 1 file.hdus) (trailing (count + 1) file.tail) (within_more 1 1 (1 + count) (count + 1) (wrong_from names 1 file.hdus) (omega arith) (omega arith) (hdus_within names 1 file.hdus)) (trailing_within (count + 1) file.tail))
