-- What is found of cards, by their notes and by what stands round them.
use Rattle.std.proofs.Common.{◌≡◌, ℕ, ◌+◌, ◌-◌, ◌<◌, ◌≤◌, Bool, true, false, List, [], ◌∷◌, ◌++◌, length, take, get_or, map, filter, not, ap, sym, ◌∙◌, refl, arith, append_assoc, append-nil, length-append}
use Rattle.std.specs.List.{flat_map, range_with_len}
use Rattle.std.proofs.lemmas.List.{length-map, get_or-map, get_or_past, get_or_default, same_lists, map-append, take_more, nil_from_length}
use Rattle.std.proofs.lemmas.List.Elements.{filter-append}
use Rattle.std.proofs.lemmas.List.Concat.{flat_map-append}
use Rattle.std.proofs.lemmas.List.FromFn.{length-map-range_with_len, get_or-map-range_with_len, map-range_with_len_more}
use Rattle.fits_rules.specs.declared.array_shape.Shape.{Shape}
use Rattle.fits_codes.specs.Code.{is_error}
use Rattle.fits_codes.specs.Judged.{judged}
use Rattle.fits_codes.specs.Mark.{mark_of}
use Rattle.fits_codes.specs.declared.code.Code.{Code}
use Rattle.fits_codes.specs.declared.context.Context.{Context}
use Rattle.fits_codes.specs.declared.surrounding.Surrounding.{Surrounding}
use Rattle.fits_header.specs.declared.note.Note.{Note}
use Rattle.fits_header.specs.Findings.{card_of, card_counts, card_findings, codes_at, context_at, counted, counts_by, counts_of, found_at, summed}
use Rattle.fits_header.specs.Links.{header_links}
use Rattle.fits_header.specs.Notes.{notes_of}
use Rattle.fits_header.specs.Surroundings.{surrounding_at, surroundings_of, AreRepeatsMarked}
use Rattle.fits_header.specs.declared.counts.Counts.{Counts}
use Rattle.fits_header.specs.declared.finding.Finding.{Finding}
use Rattle.fits_header.proofs.MarkedLinkLemmas.{length-links}
use Rattle.fits_header.proofs.NoteLemmas.{note_there}
use Rattle.std.proofs.lemmas.List.Filters.{length-filter_both}

-- the links that are marked
abbrev links_marked : List Surrounding → List Bool
links_marked = map (λ (s : Surrounding). s.is_link)

-- as many as cards
pub length-surroundings : (cards : List (List ℕ)) → length (surroundings_of cards) ≡ length cards
unfolding surroundings_of
length-surroundings cards = length-map-range_with_len (surrounding_at cards) 1 (length cards)

-- that of a place
pub get_or-surroundings : (cards : List (List ℕ)) (place : ℕ) (d : Surrounding) → 1 ≤ place → place ≤ length cards → get_or (surroundings_of cards) (place - 1) d ≡ surrounding_at cards place
unfolding surroundings_of
get_or-surroundings cards place d one within = get_or-map-range_with_len (surrounding_at cards) 1 (length cards) (place - 1) place d (omega arith) (omega arith)

-- the codes of a place, by its mark and context
pub codes-judged : (shape : Shape) (notes : List Note) (cards : List (List ℕ)) (place : ℕ) (note : Note) (context : Context) → notes ≡ notes_of cards → 1 ≤ place → place ≤ length notes → note ≡ get_or notes (place - 1) note → context ≡ context_at shape cards place
    → judged note.mark context ≡ codes_at shape cards place
codes-judged shape notes cards place note context is one within at around =
    ap (λ (n : Note). judged n.mark context) (note_there notes cards (place - 1) note is (omega arith) at) ∙ ap (judged (mark_of (card_of cards place))) around

pub ruleset code_steps = (codes-judged)

-- past the end there is no link
flag-past : (ss : List Surrounding) (i : ℕ) → length ss ≤ i → get_or (map (λ (s : Surrounding). s.is_link) ss) i false ≡ false
flag-past ss i h = get_or_past (links_marked ss) i false (omega (arith, length-map ss (λ (s : Surrounding). s.is_link)))

-- before it, that of the card
flag-at : (ss : List Surrounding) (i : ℕ) (d : Surrounding) → i < length ss → get_or (map (λ (s : Surrounding). s.is_link) ss) i false ≡ (get_or ss i d).is_link
flag-at ss i d h = get_or-map (λ (s : Surrounding). s.is_link) ss i d false h

-- the links round cards are the header's
pub links-surroundings : (cards : List (List ℕ)) → map (λ (s : Surrounding). s.is_link) (surroundings_of cards) ≡ header_links cards
links-surroundings cards =
    let size : length (links_marked (surroundings_of cards)) ≡ length cards = length-map (surroundings_of cards) (λ (s : Surrounding). s.is_link) ∙ length-surroundings cards in
    same_lists (links_marked (surroundings_of cards)) (header_links cards) (size ∙ sym (length-links cards)) (λ k d l.
    let within : k < length cards = omega (arith, size) in
    get_or_default (links_marked (surroundings_of cards)) k d false l
    ∙ (flag-at (surroundings_of cards) k blank (omega (arith, length-surroundings cards))
    ∙ (ap (λ j. (get_or (surroundings_of cards) j blank).is_link) {x = k} {y = k + 1 - 1} (omega arith)
    ∙ (ap (λ (s : Surrounding). s.is_link) (get_or-surroundings cards (k + 1) blank (omega arith) (omega arith))
    ∙ (ap (λ j. get_or (header_links cards) j false) {x = k + 1 - 1} {y = k} (omega arith)
    ∙ get_or_default (header_links cards) k false d (omega (arith, length-links cards)))))))
  where
    blank : Surrounding
    blank = record { name_before = false; value_before = false; is_link = false }

-- the flag of a card that is there is the header's
pub link-at : (ss : List Surrounding) (cards : List (List ℕ)) (i : ℕ) (d : Surrounding) → ss ≡ surroundings_of cards → i < length ss → (get_or ss i d).is_link ≡ get_or (header_links cards) i false
link-at ss cards i d is h = sym (flag-at ss i d h) ∙ (ap (λ xs. get_or (links_marked xs) i false) is ∙ ap (λ ls. get_or ls i false) (links-surroundings cards))

-- past the end no card is a link
pub link-past : (ss : List Surrounding) (cards : List (List ℕ)) (i : ℕ) → ss ≡ surroundings_of cards → length ss ≤ i → false ≡ get_or (header_links cards) i false
link-past ss cards i is h = sym (flag-past ss i h) ∙ (ap (λ xs. get_or (links_marked xs) i false) is ∙ ap (λ ls. get_or ls i false) (links-surroundings cards))

pub ruleset link_steps = (link-at, link-past)

-- where the links are marked, and then the repeated names, all is found
pub surroundings-found : (cards : List (List ℕ)) (mid new : List Surrounding) → length new ≡ length cards → length mid ≡ length cards → links_marked mid ≡ header_links cards → AreRepeatsMarked cards mid new → new ≡ surroundings_of cards
surroundings-found cards mid new size mid_size links repeats =
    same_lists new (surroundings_of cards) (size ∙ sym (length-surroundings cards)) (λ k d l. at (k + 1) k d (omega arith) (omega arith) (omega (arith, size)))
  where
    at : (place k : ℕ) (d : Surrounding) → k ≡ place - 1 → 1 ≤ place → place ≤ length cards → get_or new k d ≡ get_or (surroundings_of cards) k d
    at place k d is one within =
        ap (λ j. get_or new j d) is ∙ (repeats place d one within
        ∙ (ap (λ b. record (surrounding_at cards place) { is_link = b })
        (sym (flag-at mid (place - 1) d (omega (arith, mid_size))) ∙ ap (λ ls. get_or ls (place - 1) false) links)
        ∙ (sym (get_or-surroundings cards place d one within) ∙ ap (λ j. get_or (surroundings_of cards) j d) (sym is))))

-- a list of numbers with one more
range-more : (a n : ℕ) → range_with_len a (n + 1) ≡ range_with_len a n ++ (a + n) ∷ []
range-more a n = sym (map_same (range_with_len a (n + 1))) ∙ (map-range_with_len_more (λ x. x) a n (a + n) refl ∙ ap (λ xs. xs ++ (a + n) ∷ []) (map_same (range_with_len a n)))
  where
    map_same : (xs : List ℕ) → map (λ x. x) xs ≡ xs
    map_same [] = refl
    map_same (x ∷ xs) = ap (λ ys. x ∷ ys) (map_same xs)

-- what is found with one more place
pub found-more : {X : Type 0} (f : ℕ → List X) (n : ℕ) → flat_map f (range_with_len 1 n) ++ f (n + 1) ≡ flat_map f (range_with_len 1 (n + 1))
found-more f n =
    sym (ap (flat_map f) (range-more 1 n) ∙ (flat_map-append f (range_with_len 1 n) ((1 + n) ∷ [])
    ∙ ap (λ xs. flat_map f (range_with_len 1 n) ++ xs) (append-nil (f (1 + n)) ∙ ap f {x = 1 + n} {y = n + 1} (omega arith))))

-- where a card stands, by what was found round it
abbrev found_context : Shape → ℕ → ℕ → Bool → Surrounding → Context
found_context shape place axes next around = record {
  class = shape.class;
  axes = axes;
  place = place;
  around = around;
  next_is_link = next;
}

-- that is what the definition says
pub context-found : (shape : Shape) (ss : List Surrounding) (cards : List (List ℕ)) (place axes : ℕ) (next : Bool) (d : Surrounding) → ss ≡ surroundings_of cards → 1 ≤ place → place ≤ length ss → axes ≡ length shape.axes → next ≡ get_or (header_links cards) place false
    → found_context shape place axes next (get_or ss (place - 1) d) ≡ context_at shape cards place
context-found shape ss cards place axes next d is one within size then =
    let at : get_or ss (place - 1) d ≡ surrounding_at cards place = ap (λ xs. get_or xs (place - 1) d) is ∙ get_or-surroundings cards place d one (omega (arith, ap length is, length-surroundings cards)) in
    rw (at, then, size) refl

-- what is found of all places
pub found-all : (shape : Shape) (cards : List (List ℕ)) (n : ℕ) → n ≡ length cards → flat_map (λ place. found_at place (codes_at shape cards place)) (range_with_len 1 n) ≡ card_findings shape cards
unfolding card_findings
found-all shape cards n is = ap (λ m. flat_map (λ place. found_at place (codes_at shape cards place)) (range_with_len 1 m)) is

-- counts, by their parts
same_counts : (a b c d : ℕ) → a ≡ c → b ≡ d → counts_by a b ≡ counts_by c d
same_counts a b c d h g = rw (h, g) refl

-- one more code is counted
counts-push : (codes : List Code) (code : Code) → counts_of (codes ++ code ∷ []) ≡ counted (counts_of codes) code
counts-push codes code =
    let errors = filter-append is_error codes (code ∷ []) in
    let warnings = filter-append (λ c. not (is_error c)) codes (code ∷ []) in
    by (is_error code) refl (ap length errors ∙ length-append (filter is_error codes) (filter is_error (code ∷ [])))
    (ap length warnings ∙ length-append (filter (λ c. not (is_error c)) codes) (filter (λ c. not (is_error c)) (code ∷ [])))
  where
    by : (b : Bool) → is_error code ≡ b → length (filter is_error (codes ++ code ∷ [])) ≡ length (filter is_error codes) + length (filter is_error (code ∷ []))
        → length (filter (λ c. not (is_error c)) (codes ++ code ∷ [])) ≡ length (filter (λ c. not (is_error c)) codes) + length (filter (λ c. not (is_error c)) (code ∷ []))
        → counts_of (codes ++ code ∷ []) ≡ counted (counts_of codes) code
    by true h e w = rw h (same_counts _ _ _ _ (rw h at e) (w ∙ rw h (omega arith)))
    by false h e w = rw h (same_counts _ _ _ _ (e ∙ rw h (omega arith)) (rw h at w))

-- the counts of two lists are those of each, summed
pub counts-append : (codes others : List Code) → counts_of (codes ++ others) ≡ summed (counts_of codes) (counts_of others)
counts-append codes others =
    same_counts _ _ _ _ (ap length (filter-append is_error codes others) ∙ length-append (filter is_error codes) (filter is_error others))
    (ap length (filter-append (λ c. not (is_error c)) codes others) ∙ length-append (filter (λ c. not (is_error c)) codes) (filter (λ c. not (is_error c)) others))

-- so many codes with one more
pub counts-more : (found codes : List Code) (i : ℕ) (d : Code) → i < length codes → counts_of (found ++ take (i + 1) codes) ≡ counted (counts_of (found ++ take i codes)) (get_or codes i d)
counts-more found codes i d within =
    ap counts_of (ap (λ xs. found ++ xs) (take_more codes i d within) ∙ sym (append_assoc found (take i codes) (get_or codes i d ∷ []))) ∙ counts-push (found ++ take i codes) (get_or codes i d)

-- the codes of what is found at a place
pub codes-found_at : (place : ℕ) (codes : List Code) → map (λ (f : Finding). f.code) (found_at place codes) ≡ codes
codes-found_at place [] = refl
codes-found_at place (code ∷ codes) = ap (λ xs. code ∷ xs) (codes-found_at place codes)

-- and of all places
codes-of_findings : (f : ℕ → List Code) (places : List ℕ) → map (λ (f : Finding). f.code) (flat_map (λ place. found_at place (f place)) places) ≡ flat_map f places
codes-of_findings f [] = refl
codes-of_findings f (place ∷ places) =
    map-append (λ (f : Finding). f.code) (found_at place (f place)) (flat_map (λ p. found_at p (f p)) places)
    ∙ rw (codes-found_at place (f place), codes-of_findings f places) refl

-- those of all cards are counted
pub counted-all : (shape : Shape) (cards : List (List ℕ)) (n : ℕ) → n ≡ length cards → counts_of (flat_map (codes_at shape cards) (range_with_len 1 n)) ≡ card_counts shape cards
unfolding card_findings card_counts
counted-all shape cards n is =
    ap (λ m. counts_of (flat_map (codes_at shape cards) (range_with_len 1 m))) is ∙ ap counts_of (sym (codes-of_findings (codes_at shape cards) (range_with_len 1 (length cards))))

-- the counts with one more
pub counted-more : (found codes : List Code) (i : ℕ) (d : Code) (now next : Counts) → i < length codes → next ≡ counted now (get_or codes i d) → now ≡ counts_of (found ++ take i codes) → next ≡ counts_of (found ++ take (i + 1) codes)
counted-more found codes i d now next within is so_far =
    is ∙ (ap (λ (counts : Counts). counted counts (get_or codes i d)) so_far ∙ sym (counts-more found codes i d within))

-- where neither an error nor a warning is counted, nothing is found
pub none_found : (shape : Shape) (cards : List (List ℕ)) (counts : Counts) → counts ≡ card_counts shape cards → counts.errors ≡ 0 → counts.warnings ≡ 0 → card_findings shape cards ≡ []
unfolding card_counts
none_found shape cards counts is no_errors no_warnings =
    let found : List Finding = card_findings shape cards in
    let codes : List Code = map (λ (finding : Finding). finding.code) found in
    let both = length-filter_both is_error (λ code. not (is_error code)) (λ code. refl) codes in
    nil_from_length found (omega (
      arith,
      both,
      ap (λ (c : Counts). c.errors) is,
      ap (λ (c : Counts). c.warnings) is,
      no_errors,
      no_warnings,
      length-map found (λ (finding : Finding). finding.code),
    ))

-- and the other way round
pub none_counted : (shape : Shape) (cards : List (List ℕ)) → card_findings shape cards ≡ [] → counts_by 0 0 ≡ card_counts shape cards
unfolding card_counts
none_counted shape cards none = rw none refl

pub ruleset clean_steps = (none_found, none_counted)
