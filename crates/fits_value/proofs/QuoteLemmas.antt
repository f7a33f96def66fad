-- Quotes: the closing quote of a string, and its characters with each quote doubled.
use Rattle.std.proofs.Common.{◌≡◌, ℕ, ◌<◌, ◌≤◌, ◌+◌, Bool, true, false, not, eqb, suc, List, [], ◌∷◌, ◌++◌, length, drop, get_or, Option, None, Some, refl, sym, ◌∙◌, ap, subst, arith, inl, inr, append_assoc}
use Rattle.std.specs.List.{prefix_len}
use Rattle.std.specs.Option.{option_map}
use Rattle.std.proofs.lemmas.List.{drop_more, drop_all, drop-drop, get_or-drop, append-nil}
use Rattle.std.proofs.lemmas.List.Sums.{prefix_len_stops}
use Rattle.std.proofs.Math.ListN.{length-drop}
use Rattle.std.proofs.lemmas.Bool.{cases_Bool, cases_lt, cond-true, cond-false, eqb-true, eq-eqb, not-false}
use Rattle.fits_value.specs.Spelling.{doubled}
use Rattle.fits_value.specs.Scan.{closing_of, undoubled}
use Rattle.fits_value.proofs.FrontLemmas.{chosen, option_map_some, Stops}

-- whether a byte is a quote
abbrev pub is_quote : ℕ → Bool
is_quote b = eqb b 39

-- a byte that is no quote is passed over
pub closing-other : (b : ℕ) (s : List ℕ) → eqb b 39 ≡ false → closing_of (b ∷ s) ≡ option_map (λ n. n + 1) (closing_of s)
closing-other b [] e = cond-false (eqb b 39) _ _ e
closing-other b (c ∷ s) e = cond-false (eqb b 39) _ _ e

-- a quote that no quote follows closes
pub closing-last : (b : ℕ) (s : List ℕ) → eqb b 39 ≡ true → Stops is_quote s → closing_of (b ∷ s) ≡ Some 0
closing-last b [] e stops = cond-true (eqb b 39) _ _ e
closing-last b (c ∷ s) e stops = cond-true (eqb b 39) _ _ e ∙ cond-false (eqb c 39) _ _ stops

-- two quotes are passed over
pub closing-pair : (b c : ℕ) (s : List ℕ) → eqb b 39 ≡ true → eqb c 39 ≡ true → closing_of (b ∷ c ∷ s) ≡ option_map (λ n. n + 2) (closing_of s)
closing-pair b c s e f = cond-true (eqb b 39) _ _ e ∙ cond-true (eqb c 39) _ _ f

-- a character that is no quote stands for itself
pub doubled-other : (c : ℕ) (cs : List ℕ) → eqb c 39 ≡ false → doubled (c ∷ cs) ≡ c ∷ doubled cs
doubled-other c cs e = cond-false (eqb c 39) _ _ e

-- a quote is doubled
pub doubled-quote : (c : ℕ) (cs : List ℕ) → eqb c 39 ≡ true → doubled (c ∷ cs) ≡ 39 ∷ 39 ∷ doubled cs
doubled-quote c cs e = cond-true (eqb c 39) _ _ e

-- what is spelled is found
pub closing_only : (cs rest : List ℕ) → Stops is_quote rest → closing_of (doubled cs ++ 39 ∷ rest) ≡ Some (length (doubled cs))
closing_only [] rest stops = closing-last 39 rest refl stops
closing_only (c ∷ cs) rest stops = elim (cases_Bool (eqb c 39)) [
  | inl e ↦ rw (doubled-quote c cs e) (closing-pair 39 39 (doubled cs ++ 39 ∷ rest) refl refl ∙ rw (closing_only cs rest stops) (ap Some (omega arith)))
  | inr e ↦ rw (doubled-other c cs e) (closing-other c (doubled cs ++ 39 ∷ rest) e ∙ rw (closing_only cs rest stops) (ap Some (omega arith)))
]

-- what is found is spelled so
pub record Closed (s : List ℕ) (n : ℕ) : Type 0 where
  pub characters : List ℕ
  pub rest : List ℕ
  pub whole : s ≡ doubled characters ++ 39 ∷ rest
  pub place : n ≡ length (doubled characters)
  pub stops : Stops is_quote rest

-- a quote at the front, not doubled
closed_last : (b : ℕ) (s : List ℕ) (n : ℕ) → eqb b 39 ≡ true → Stops is_quote s → Some 0 ≡ Some n → Closed (b ∷ s) n
closed_last b s n e stops f = record { characters = []; rest = s; whole = ap (λ (x : ℕ). x ∷ s) (eqb-true b 39 e); place = (cc); stops = stops }

-- another character at the front
closed_other : (b : ℕ) (s : List ℕ) (n m : ℕ) → eqb b 39 ≡ false → Closed s m → m + 1 ≡ n → Closed (b ∷ s) n
closed_other b s n m e r f = record {
  characters = b ∷ r.characters;
  rest = r.rest;
  whole = ap (λ (x : List ℕ). b ∷ x) r.whole ∙ sym (ap (λ (x : List ℕ). x ++ 39 ∷ r.rest) (doubled-other b r.characters e));
  place = sym f ∙ (rw (r.place, doubled-other b r.characters e) (omega arith));
  stops = r.stops;
}

-- a doubled quote at the front
closed_pair : (b c : ℕ) (s : List ℕ) (n m : ℕ) → eqb b 39 ≡ true → eqb c 39 ≡ true → Closed s m → m + 2 ≡ n → Closed (b ∷ c ∷ s) n
closed_pair b c s n m e g r f = record {
  characters = 39 ∷ r.characters;
  rest = r.rest;
  whole = (let x = eqb-true b 39 e in let y = eqb-true c 39 g in let z = r.whole in (cc));
  place = sym f ∙ (rw (r.place) (omega arith));
  stops = r.stops;
}

-- what is found closes the characters before it
pub closing_found : (s : List ℕ) (n : ℕ) → closing_of s ≡ Some n → Closed s n
closing_found [] n f = absurd (cc)
closing_found (b ∷ []) n f = elim (chosen (eqb b 39) (Some 0) None (Some n) f) [
  | inl w ↦ closed_last b [] n w.0 tt w.1
  | inr w ↦ absurd (let z = w.1 in (cc))
]
closing_found (b ∷ c ∷ s) n f = elim (chosen (eqb b 39) _ _ (Some n) f) [
  | inl w ↦ elim (chosen (eqb c 39) _ _ (Some n) w.1) [
    | inl v ↦ let m = option_map_some (λ (k : ℕ). k + 2) (closing_of s) n v.1 in closed_pair b c s n m.0 w.0 v.0 (closing_found s m.0 m.1) m.2
    | inr v ↦ closed_last b (c ∷ s) n w.0 v.0 v.1
  ]
  | inr w ↦ let m = option_map_some (λ (k : ℕ). k + 1) (closing_of (c ∷ s)) n w.1 in closed_other b (c ∷ s) n m.0 w.0 (closing_found (c ∷ s) m.0 m.1) m.2
]

-- two moves of a place are one
fuse : (o : Option ℕ) (i j : ℕ) → option_map (λ (n : ℕ). n + i) (option_map (λ (n : ℕ). n + j) o) ≡ option_map (λ (n : ℕ). n + (i + j)) o
fuse None i j = refl
fuse (Some n) i j = ap Some (omega arith)

-- the loop's step over a doubled quote
pub over_pair : (t : List ℕ) (i : ℕ) → i + 1 < length t → get_or t i 0 ≡ 39 → get_or t (i + 1) 0 ≡ 39 → closing_of t ≡ option_map (λ (n : ℕ). n + i) (closing_of (drop i t)) → closing_of t ≡ option_map (λ (n : ℕ). n + (i + 2)) (closing_of (drop (i + 2) t))
over_pair t i h e f inv =
    let first : drop i t ≡ get_or t i 0 ∷ drop (i + 1) t = drop_more t i 0 (omega arith) in
    let second : drop (i + 1) t ≡ get_or t (i + 1) 0 ∷ drop (i + 1 + 1) t = drop_more t (i + 1) 0 h in
    let two : i + 1 + 1 ≡ i + 2 = omega arith in
    let both : drop i t ≡ get_or t i 0 ∷ get_or t (i + 1) 0 ∷ drop (i + 2) t = first ∙ ap (λ (x : List ℕ). get_or t i 0 ∷ x) (second ∙ ap (λ (n : ℕ). get_or t (i + 1) 0 ∷ drop n t) two) in
    let step : closing_of (drop i t) ≡ option_map (λ (n : ℕ). n + 2) (closing_of (drop (i + 2) t)) = ap closing_of both ∙ closing-pair (get_or t i 0) (get_or t (i + 1) 0) (drop (i + 2) t) (eq-eqb _ 39 e) (eq-eqb _ 39 f) in
    inv ∙ ap (λ (o : Option ℕ). option_map (λ (n : ℕ). n + i) o) step ∙ fuse _ i 2

-- how many bytes stand before the first quote
abbrev pub gap : List ℕ → ℕ
gap s = prefix_len (λ b. not (eqb b 39)) s

-- a place that doesn't move
unmoved : (o : Option ℕ) → o ≡ option_map (λ (n : ℕ). n + 0) o
unmoved None = refl
unmoved (Some n) = ap Some (omega arith)

-- bytes that are no quotes are passed over
closing-gap : (s : List ℕ) → closing_of s ≡ option_map (λ (n : ℕ). n + gap s) (closing_of (drop (gap s) s))
closing-gap [] = refl
closing-gap (b ∷ s) = elim (cases_Bool (eqb b 39)) [
  | inl e ↦
      let none : gap (b ∷ s) ≡ 0 = cond-false (not (eqb b 39)) _ _ (ap not e) in
      unmoved (closing_of (b ∷ s)) ∙ sym (ap (λ (g : ℕ). option_map (λ (n : ℕ). n + g) (closing_of (drop g (b ∷ s)))) none)
  | inr e ↦
      let one : gap (b ∷ s) ≡ suc (gap s) = cond-true (not (eqb b 39)) _ _ (ap not e) ∙ omega arith in
      let more : 1 + gap s ≡ suc (gap s) = omega arith in
      closing-other b s e
      ∙ (ap (λ (o : Option ℕ). option_map (λ (n : ℕ). n + 1) o) (closing-gap s)
      ∙ (fuse (closing_of (drop (gap s) s)) 1 (gap s)
      ∙ (ap (λ (g : ℕ). option_map (λ (n : ℕ). n + g) (closing_of (drop (gap s) s))) more
      ∙ sym (ap (λ (g : ℕ). option_map (λ (n : ℕ). n + g) (closing_of (drop g (b ∷ s)))) one))))
]

-- the loop's step over bytes that are no quotes
pub over_gap : (t : List ℕ) (i g : ℕ) → g ≡ gap (drop i t) → closing_of t ≡ option_map (λ (n : ℕ). n + i) (closing_of (drop i t)) → closing_of t ≡ option_map (λ (n : ℕ). n + (i + g)) (closing_of (drop (i + g) t))
over_gap t i g e inv =
    let there : drop g (drop i t) ≡ drop (i + g) t = drop-drop g i t in
    inv
    ∙ (ap (λ (o : Option ℕ). option_map (λ (n : ℕ). n + i) o) (closing-gap (drop i t))
    ∙ (fuse (closing_of (drop (gap (drop i t)) (drop i t))) i (gap (drop i t))
    ∙ (ap (λ (k : ℕ). option_map (λ (n : ℕ). n + (i + k)) (closing_of (drop k (drop i t)))) (sym e)
    ∙ ap (λ (x : List ℕ). option_map (λ (n : ℕ). n + (i + g)) (closing_of x)) there)))

-- a quote stands after them
pub quote_at : (t : List ℕ) (i g : ℕ) → g ≡ gap (drop i t) → i + g < length t → get_or t (i + g) 0 ≡ 39
quote_at t i g e within =
    let few : gap (drop i t) < length (drop i t) = omega (arith, length-drop i t) in
    let stops = prefix_len_stops (λ b. not (eqb b 39)) (drop i t) 0 few in
    let there = ap (λ (k : ℕ). get_or (drop i t) k 0) e ∙ refl in
    sym (get_or-drop i t g 0) ∙ (there ∙ eqb-true _ 39 (not-false _ stops))

-- where nothing follows them, no quote closes
pub none_closes : (t : List ℕ) (j : ℕ) → length t ≤ j → closing_of t ≡ option_map (λ (n : ℕ). n + j) (closing_of (drop j t)) → closing_of t ≡ None
none_closes t j end inv = inv ∙ ap (λ (x : List ℕ). option_map (λ (n : ℕ). n + j) (closing_of x)) (drop_all j t end)

-- a quote that no quote follows closes
pub quote_closes : (t : List ℕ) (j : ℕ) → j < length t → get_or t j 0 ≡ 39 → (j + 1 < length t → eqb (get_or t (j + 1) 0) 39 ≡ false) → closing_of t ≡ option_map (λ (n : ℕ). n + j) (closing_of (drop j t)) → closing_of t ≡ Some j
quote_closes t j within here next inv =
    let cut : drop j t ≡ get_or t j 0 ∷ drop (j + 1) t = drop_more t j 0 within in
    let closed = ap closing_of cut ∙ closing-last (get_or t j 0) (drop (j + 1) t) (eq-eqb _ 39 here) (stops_at t (j + 1) next) in
    inv ∙ (ap (λ (o : Option ℕ). option_map (λ (n : ℕ). n + j) o) closed ∙ ap Some (omega arith))
  where
    stops_at : (t : List ℕ) (k : ℕ) → (k < length t → eqb (get_or t k 0) 39 ≡ false) → Stops is_quote (drop k t)
    stops_at t k next = elim (cases_lt k (length t)) [
      | inl more ↦ subst (λ (x : List ℕ). Stops is_quote x) (sym (drop_more t k 0 more)) (next more)
      | inr end ↦ subst (λ (x : List ℕ). Stops is_quote x) (sym (drop_all k t end)) tt
    ]

-- a byte that is no quote is a character
pub undoubled-other : (b : ℕ) (s : List ℕ) → eqb b 39 ≡ false → undoubled (b ∷ s) ≡ b ∷ undoubled s
undoubled-other b [] e = refl
undoubled-other b (c ∷ s) e = cond-false (eqb b 39) _ _ e

-- two quotes are one character
pub undoubled-pair : (b c : ℕ) (s : List ℕ) → eqb b 39 ≡ true → undoubled (b ∷ c ∷ s) ≡ b ∷ undoubled s
undoubled-pair b c s e = cond-true (eqb b 39) _ _ e

-- characters that are spelled are read back
pub undoubled-doubled : (cs : List ℕ) → undoubled (doubled cs) ≡ cs
undoubled-doubled [] = refl
undoubled-doubled (c ∷ cs) = elim (cases_Bool (eqb c 39)) [
  | inl e ↦
      let d : doubled (c ∷ cs) ≡ 39 ∷ 39 ∷ doubled cs = cond-true (eqb c 39) _ _ e in
      ap undoubled d ∙ (ap (λ (x : List ℕ). 39 ∷ x) (undoubled-doubled cs) ∙ ap (λ (x : ℕ). x ∷ cs) (sym (eqb-true c 39 e)))
  | inr e ↦
      let d : doubled (c ∷ cs) ≡ c ∷ doubled cs = cond-false (eqb c 39) _ _ e in
      ap undoubled d ∙ (undoubled-other c (doubled cs) e ∙ ap (λ (x : List ℕ). c ∷ x) (undoubled-doubled cs))
]

pub decode_one : (t v : List ℕ) (i : ℕ) → i < length t → (eqb (get_or t i 0) 39 ≡ false) → v ++ undoubled (drop i t) ≡ undoubled t → (v ++ get_or t i 0 ∷ []) ++ undoubled (drop (i + 1) t) ≡ undoubled t
decode_one t v i h e inv =
    let cut : undoubled (drop i t) ≡ get_or t i 0 ∷ undoubled (drop (i + 1) t) = ap undoubled (drop_more t i 0 h) ∙ undoubled-other (get_or t i 0) (drop (i + 1) t) e in
    append_assoc v (get_or t i 0 ∷ []) (undoubled (drop (i + 1) t)) ∙ (ap (λ (x : List ℕ). v ++ x) (sym cut) ∙ inv)

-- the loop's step over the last byte
pub decode_last : (t v : List ℕ) (i : ℕ) → i < length t → length t ≤ i + 1 → v ++ undoubled (drop i t) ≡ undoubled t → (v ++ get_or t i 0 ∷ []) ++ undoubled (drop (i + 1) t) ≡ undoubled t
decode_last t v i h end inv =
    let none : drop (i + 1) t ≡ [] = drop_all (i + 1) t end in
    let cut : undoubled (drop i t) ≡ get_or t i 0 ∷ undoubled (drop (i + 1) t) = ap undoubled (drop_more t i 0 h) ∙ (ap (λ (x : List ℕ). undoubled (get_or t i 0 ∷ x)) none ∙ sym (ap (λ (x : List ℕ). get_or t i 0 ∷ undoubled x) none)) in
    append_assoc v (get_or t i 0 ∷ []) (undoubled (drop (i + 1) t)) ∙ (ap (λ (x : List ℕ). v ++ x) (sym cut) ∙ inv)

-- the loop's step over a doubled quote
pub decode_two : (t v : List ℕ) (i : ℕ) → i + 1 < length t → get_or t i 0 ≡ 39 → v ++ undoubled (drop i t) ≡ undoubled t → (v ++ get_or t i 0 ∷ []) ++ undoubled (drop (i + 2) t) ≡ undoubled t
decode_two t v i h e inv =
    let first : drop i t ≡ get_or t i 0 ∷ drop (i + 1) t = drop_more t i 0 (omega arith) in
    let second : drop (i + 1) t ≡ get_or t (i + 1) 0 ∷ drop (i + 1 + 1) t = drop_more t (i + 1) 0 h in
    let n : i + 1 + 1 ≡ i + 2 = omega arith in
    let both : drop i t ≡ get_or t i 0 ∷ get_or t (i + 1) 0 ∷ drop (i + 2) t = first ∙ ap (λ (x : List ℕ). get_or t i 0 ∷ x) (second ∙ ap (λ (k : ℕ). get_or t (i + 1) 0 ∷ drop k t) n) in
    let cut : undoubled (drop i t) ≡ get_or t i 0 ∷ undoubled (drop (i + 2) t) = ap undoubled both ∙ undoubled-pair (get_or t i 0) (get_or t (i + 1) 0) (drop (i + 2) t) (eq-eqb _ 39 e) in
    append_assoc v (get_or t i 0 ∷ []) (undoubled (drop (i + 2) t)) ∙ (ap (λ (x : List ℕ). v ++ x) (sym cut) ∙ inv)

-- the end of the loop
pub decode_end : (t v : List ℕ) (i : ℕ) → length t ≤ i → v ++ undoubled (drop i t) ≡ undoubled t → v ≡ undoubled t
decode_end t v i h inv = sym (append-nil v) ∙ (sym (ap (λ (x : List ℕ). v ++ undoubled x) (drop_all i t h)) ∙ inv)
