-- Splices that keep a shape.
use Rattle.std.proofs.Common.{◌≡◌, ℕ, ◌+◌, ◌-◌, ◌<◌, ◌≤◌, Bool, false, cond, List, [], ◌∷◌, ◌++◌, length, get_or, take, drop, codes, Option, None, Some, option_and_then, Ok, inl, inr, refl, ap, sym, ◌∙◌, arith, length-append, take-append-drop}
use Rattle.std.specs.Prelude.{◌≢◌, ◌&&◌}
use Rattle.std.specs.List.{All, find, slice_get}
use Rattle.std.specs.Option.{option_or}
use Rattle.std.specs.Str.{bytes_eq}
use Rattle.std.proofs.Math.ListN.{get_or-append}
use Rattle.std.proofs.lemmas.Bool.{cond-false, false_from_ne_true, cases_lt}
use Rattle.std.proofs.lemmas.List.{drop-drop, length-take}
use Rattle.std.proofs.lemmas.List.Elements.{All-cons, All-nil, All-head, All-tail}
use Rattle.std.proofs.lemmas.List.Folds.{find-append}
use Rattle.std.proofs.lemmas.Option.{slice_get-get_or}
use Rattle.std.proofs.lemmas.Slice.Eq.{bytes_eq-Decides}
use Rattle.fits_card.specs.Card.{keyword_name, has_value}
use Rattle.fits_card.specs.Change.{spliced}
use Rattle.fits_card.specs.Header.{card_at}
use Rattle.fits_rules.specs.Lead.{is_value_of, lead_card}
use Rattle.fits_rules.specs.Reads.{integer_said}
use Rattle.fits_rules.specs.SameShape.{IsUncounted}
use Rattle.fits_rules.specs.Shape.{up_to, bitpix_in, if_named, axis_name, card_named, first_card, bitpix_of, naxis_of, axis_of, class_of, count_of, shape_of, Describes}
use Rattle.fits_rules.specs.declared.axis_buffer.TheConstants.{MOST_AXES}
use Rattle.fits_rules.specs.declared.rules.TheConstants.{LARGEST}
use Rattle.fits_rules.specs.declared.array_shape.Shape.{Shape}
use Rattle.fits_rules.proofs.AxesLemmas.{axis_within}
use Rattle.fits_rules.proofs.DescribesLemmas.{described, describes}
use Rattle.fits_rules.proofs.NearLemmas.{naxis_within}
use Rattle.fits_rules.proofs.LeadCardLemmas.{lead_card-find}

-- what holds of each element, and what follows from it
weaker : {X : Type 0} (P Q : X → Type 0) (xs : List X) → ((x : X) → P x → Q x) → All P xs → All Q xs
weaker P Q [] follows all = All-nil Q
weaker P Q (x ∷ xs) follows all = All-cons Q x xs (follows x (All-head P x xs all)) (weaker P Q xs follows (All-tail P x xs all))

-- none is found where none passes
find_past : {X : Type 0} (p : X → Bool) (xs : List X) → All (λ x. p x ≡ false) xs → find p xs ≡ None
find_past p [] all = refl
find_past p (x ∷ xs) all = cond-false (p x) _ _ (All-head (λ y. p y ≡ false) x xs all) ∙ find_past p xs (All-tail (λ y. p y ≡ false) x xs all)

-- a list in three parts
three_parts : {X : Type 0} (xs : List X) (k removed : ℕ) → xs ≡ take k xs ++ (take removed (drop k xs) ++ drop (k + removed) xs)
three_parts xs k removed =
    sym (take-append-drop k xs) ∙ ap (λ ys. take k xs ++ ys) (sym (take-append-drop removed (drop k xs)) ∙ ap (λ ys. take removed (drop k xs) ++ ys) (drop-drop removed k xs))

-- what is found in three parts of which the second has none
found_past : {X : Type 0} (p : X → Bool) (before between after : List X) → All (λ x. p x ≡ false) between → find p (before ++ (between ++ after)) ≡ option_or (find p before) (find p after)
found_past p before between after none =
    find-append p before (between ++ after) ∙ ap (option_or (find p before)) (find-append p between after ∙ ap (λ o. option_or o (find p after)) (find_past p between none))

-- a card of another name is no lead
and_false : (a b : Bool) → a ≡ false → (a && b) ≡ false
and_false a b e = ap (λ x. x && b) e

-- and so it is none of this name
other_name : (name card : List ℕ) → keyword_name card ≢ name → is_value_of name card ≡ false
unfolding is_value_of
other_name name card other = and_false (bytes_eq (keyword_name card) name) (has_value card) (false_from_ne_true (bytes_eq (keyword_name card) name) (λ same. other ((bytes_eq-Decides (keyword_name card) name).0 same)))

-- a splice of other cards leaves the lead
lead_card-spliced : (cards new : List (List ℕ)) (name : List ℕ) (place removed : ℕ) → All (λ card. keyword_name card ≢ name) (take removed (drop (place - 1) cards)) → All (λ card. keyword_name card ≢ name) new
    → lead_card (spliced cards place removed new) name ≡ lead_card cards name
lead_card-spliced cards new name place removed taken brought =
    let k = place - 1 in
    let p = is_value_of name in
    let other = weaker (λ card. keyword_name card ≢ name) (λ card. p card ≡ false) in
    lead_card-find (spliced cards place removed new) name
    ∙ (found_past p (take k cards) new (drop (k + removed) cards) (other new (other_name name) brought)
    ∙ (sym (found_past p (take k cards) (take removed (drop k cards)) (drop (k + removed) cards) (other (take removed (drop k cards)) (other_name name) taken))
    ∙ (ap (find p) (sym (three_parts cards k removed)) ∙ sym (lead_card-find cards name))))

-- what a list begins with stays where its rest changes
begins_same : (xs ys zs : List (List ℕ)) (i : ℕ) → i < length xs → slice_get (xs ++ ys) i ≡ slice_get (xs ++ zs) i
begins_same xs ys zs i within =
    slice_get-get_or (xs ++ ys) i [] (omega (arith, length-append xs ys))
    ∙ (ap Some (get_or-append xs ys [] i within ∙ sym (get_or-append xs zs [] i within))
    ∙ sym (slice_get-get_or (xs ++ zs) i [] (omega (arith, length-append xs zs))))

-- the cards before a splice stay
card_at-spliced : (cards new : List (List ℕ)) (place removed at : ℕ) → 1 ≤ at → at < place → at ≤ length cards → card_at (spliced cards place removed new) at ≡ card_at cards at
card_at-spliced cards new place removed at one before within =
    let short : at - 1 < length (take (place - 1) cards) = simp length-take (omega arith) in
    begins_same (take (place - 1) cards) (new ++ drop (place - 1 + removed) cards) (drop (place - 1) cards) (at - 1) short
    ∙ ap (λ (cs : List (List ℕ)). slice_get cs (at - 1)) (take-append-drop (place - 1) cards)

-- two headers have the same card at a place
abbrev HaveSame : List (List ℕ) → List (List ℕ) → ℕ → Type 0
HaveSame after cards place = card_at after place ≡ card_at cards place

-- then what the rules read there is the same
first_same : (primary : Bool) (after cards : List (List ℕ)) → HaveSame after cards 1 → first_card primary after ≡ first_card primary cards
unfolding first_card card_named
first_same primary after cards same = ap (option_and_then (if_named (cond primary (codes "SIMPLE  ") (codes "XTENSION")))) same

-- BITPIX
bitpix_same : (after cards : List (List ℕ)) → HaveSame after cards 2 → bitpix_of after ≡ bitpix_of cards
unfolding bitpix_of card_named
bitpix_same after cards same = ap (λ (c : Option (List ℕ)). option_and_then bitpix_in (option_and_then integer_said (option_and_then (if_named (codes "BITPIX  ")) c))) same

-- NAXIS
naxis_same : (after cards : List (List ℕ)) → HaveSame after cards 3 → naxis_of after ≡ naxis_of cards
unfolding naxis_of card_named
naxis_same after cards same = ap (λ (c : Option (List ℕ)). option_and_then (up_to MOST_AXES) (option_and_then integer_said (option_and_then (if_named (codes "NAXIS   ")) c))) same

-- an axis
axis_same : (after cards : List (List ℕ)) (n : ℕ) → HaveSame after cards (3 + n) → axis_of after n ≡ axis_of cards n
unfolding axis_of card_named
axis_same after cards n same = ap (λ (c : Option (List ℕ)). option_and_then (up_to LARGEST) (option_and_then integer_said (option_and_then (if_named (axis_name n)) c))) same

-- a shape has the cards of its axes
pub described_within : (primary : Bool) (cards : List (List ℕ)) (shape : Shape) → Describes primary cards shape → 3 + length shape.axes ≤ length cards
described_within primary cards shape d = elim (cases_lt 0 (length shape.axes)) [
  | inl some ↦
      let last = length shape.axes - 1 in
      let next : last + 1 ≡ length shape.axes = omega arith in
      let here : Some (get_or shape.axes last 0) ≡ axis_of cards (length shape.axes) = sym (ap (axis_of cards) (sym next) ∙ (d.axes last (omega arith) ∙ slice_get-get_or shape.axes last 0 (omega arith))) in
      axis_within cards (length shape.axes) (get_or shape.axes last 0) here
  | inr none ↦ let three = naxis_within cards (length shape.axes) d.naxis in omega arith
]

-- a splice after the last axis keeps what a header describes
splice_describes : (primary : Bool) (cards new : List (List ℕ)) (place removed : ℕ) (shape : Shape) → Describes primary cards shape
    → 3 + length shape.axes < place → All IsUncounted (take removed (drop (place - 1) cards)) → All IsUncounted new
    → Describes primary (spliced cards place removed new) shape
splice_describes primary cards new place removed shape d later taken brought =
    let after = spliced cards place removed new in
    let gone = take removed (drop (place - 1) cards) in
    let within = described_within primary cards shape d in
    let same : (at : ℕ) → 1 ≤ at → at ≤ 3 + length shape.axes → card_at after at ≡ card_at cards at = λ at one last. card_at-spliced cards new place removed at one (omega arith) (omega arith) in
    let groups = lead_card-spliced cards new (codes "GROUPS  ") place removed (weaker IsUncounted (λ card. keyword_name card ≢ codes "GROUPS  ") gone (λ card u. u.no_groups) taken) (weaker IsUncounted (λ card. keyword_name card ≢ codes "GROUPS  ") new (λ card u. u.no_groups) brought) in
    let pcount = lead_card-spliced cards new (codes "PCOUNT  ") place removed (weaker IsUncounted (λ card. keyword_name card ≢ codes "PCOUNT  ") gone (λ card u. u.no_pcount) taken) (weaker IsUncounted (λ card. keyword_name card ≢ codes "PCOUNT  ") new (λ card u. u.no_pcount) brought) in
    let gcount = lead_card-spliced cards new (codes "GCOUNT  ") place removed (weaker IsUncounted (λ card. keyword_name card ≢ codes "GCOUNT  ") gone (λ card u. u.no_gcount) taken) (weaker IsUncounted (λ card. keyword_name card ≢ codes "GCOUNT  ") new (λ card u. u.no_gcount) brought) in
    record {
      first = d.first;
      begins = first_same primary after cards (same 1 (omega arith) (omega arith)) ∙ d.begins;
      bitpix = bitpix_same after cards (same 2 (omega arith) (omega arith)) ∙ d.bitpix;
      naxis = naxis_same after cards (same 3 (omega arith) (omega arith)) ∙ d.naxis;
      axes = λ n inside. axis_same after cards (n + 1) (same (3 + (n + 1)) (omega arith) (omega arith)) ∙ d.axes n inside;
      class = ap (class_of primary d.first shape.axes) groups ∙ d.class;
      pcount = ap (λ lead. count_of shape.class lead 0) pcount ∙ d.pcount;
      gcount = ap (λ lead. count_of shape.class lead 1) gcount ∙ d.gcount;
    }

-- and so its shape
pub splice_keeps : (primary : Bool) (cards new : List (List ℕ)) (place removed : ℕ) (shape : Shape) → shape_of primary cards ≡ Ok shape
    → 3 + length shape.axes < place → All IsUncounted (take removed (drop (place - 1) cards)) → All IsUncounted new
    → shape_of primary (spliced cards place removed new) ≡ Ok shape
splice_keeps primary cards new place removed shape e later taken brought =
    describes primary (spliced cards place removed new) shape (splice_describes primary cards new place removed shape (described primary cards shape e) later taken brought)
