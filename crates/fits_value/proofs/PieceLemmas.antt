-- The pieces of a long string.
use Rattle.std.proofs.Common.{◌≡◌, ◌⊎◌, ℕ, zero, suc, ◌<◌, ◌≤◌, ◌+◌, ◌-◌, cond, eqb, leb, List, [], ◌∷◌, ◌++◌, length, take, drop, replicate, get_or, Option, None, refl, sym, ◌∙◌, ap, arith, inl, inr, append_assoc, length-append}
use Rattle.std.proofs.lemmas.List.{take-append-drop, length-take-le, length-drop, length-replicate, drop_more, drop_all}
use Rattle.std.proofs.lemmas.Bool.{cases_Bool, cond-true, cond-false, cond_both, leb-true, leb-false}
use Rattle.fits_card.specs.Card.{card_of_text}
use Rattle.fits_value.proofs.QuoteLemmas.{doubled-other, doubled-quote}
use Rattle.fits_value.specs.Spelling.{doubled}
use Rattle.fits_value.specs.Written.{width, fitting, quoted, card_of, continue_lead, cards_of_string}

-- quotes are doubled part by part
pub doubled_append : (s t : List ℕ) → doubled (s ++ t) ≡ doubled s ++ doubled t
doubled_append [] t = refl
doubled_append (c ∷ s) t =
    let more = doubled_append s t in
    elim (cases_Bool (eqb c 39)) [
      | inl e ↦ doubled-quote c (s ++ t) e ∙ (ap (λ (x : List ℕ). 39 ∷ 39 ∷ x) more ∙ sym (ap (λ (x : List ℕ). x ++ doubled t) (doubled-quote c s e)))
      | inr e ↦ doubled-other c (s ++ t) e ∙ (ap (λ (x : List ℕ). c ∷ x) more ∙ sym (ap (λ (x : List ℕ). x ++ doubled t) (doubled-other c s e)))
    ]

-- one character more
pub doubled_size : (c : ℕ) (s : List ℕ) → length (doubled (c ∷ s)) ≡ width c + length (doubled s)
doubled_size c s = elim (cases_Bool (eqb c 39)) [
  | inl e ↦ let w : width c ≡ 2 = cond-true (eqb c 39) 2 1 e in omega (arith, ap length (doubled-quote c s e), w)
  | inr e ↦ let w : width c ≡ 1 = cond-false (eqb c 39) 2 1 e in omega (arith, ap length (doubled-other c s e), w)
]

-- a character takes a byte
pub width_least : (c : ℕ) → 1 ≤ width c
width_least c = cond_both (eqb c 39) 2 1 (λ n. 1 ≤ n) (λ e. omega arith) (λ e. omega arith)

-- or two
pub width_most : (c : ℕ) → width c ≤ 2
width_most c = cond_both (eqb c 39) 2 1 (λ n. n ≤ 2) (λ e. omega arith) (λ e. omega arith)

-- what fits, by its first character
pub fitting_next : (room c : ℕ) (s : List ℕ) → width c ≤ room → fitting room (c ∷ s) ≡ suc (fitting (room - width c) s)
fitting_next room c s h = elim (cases_Bool (leb (width c) room)) [
  | inl e ↦ cond-true (leb (width c) room) (1 + fitting (room - width c) s) 0 e ∙ omega arith
  | inr e ↦ absurd (let f : room < width c = leb-false (width c) room e in omega arith)
]

-- one that doesn't fit ends what does
pub fitting_stop : (room c : ℕ) (s : List ℕ) → room < width c → fitting room (c ∷ s) ≡ 0
fitting_stop room c s h = elim (cases_Bool (leb (width c) room)) [
  | inl e ↦ absurd (let f : width c ≤ room = leb-true (width c) room e in omega arith)
  | inr e ↦ cond-false (leb (width c) room) (1 + fitting (room - width c) s) 0 e
]

-- whether the first character fits
fits_first : (room c : ℕ) → (width c ≤ room) ⊎ (room < width c)
fits_first room c = elim (cases_Bool (leb (width c) room)) [
  | inl e ↦ inl (leb-true (width c) room e)
  | inr e ↦ inr (leb-false (width c) room e)
]

-- what is said to fit does
pub fitting_within : (room : ℕ) (s : List ℕ) → length (doubled (take (fitting room s) s)) ≤ room
fitting_within room [] = omega arith
fitting_within room (c ∷ s) = elim (fits_first room c) [
  | inl h ↦
      let n = fitting (room - width c) s in
      let more : length (doubled (take n s)) ≤ room - width c = fitting_within (room - width c) s in
      let is : length (doubled (take (fitting room (c ∷ s)) (c ∷ s))) ≡ width c + length (doubled (take n s)) = ap (λ (k : ℕ). length (doubled (take k (c ∷ s)))) (fitting_next room c s h) ∙ doubled_size c (take n s) in
      omega (arith, more, is, h)
  | inr h ↦ let is : length (doubled (take (fitting room (c ∷ s)) (c ∷ s))) ≡ 0 = ap (λ (k : ℕ). length (doubled (take k (c ∷ s)))) (fitting_stop room c s h) in omega (arith, is)
]

-- no more than there are
pub fitting_most : (room : ℕ) (s : List ℕ) → fitting room s ≤ length s
fitting_most room [] = omega arith
fitting_most room (c ∷ s) = elim (fits_first room c) [
  | inl h ↦ let more = fitting_most (room - width c) s in omega (arith, fitting_next room c s h, more)
  | inr h ↦ omega (arith, fitting_stop room c s h)
]

-- and nothing more does
pub fitting_longest : (room : ℕ) (s : List ℕ) (k : ℕ) → fitting room s < k → k ≤ length s → room < length (doubled (take k s))
fitting_longest room [] k h within = absurd (omega arith)
fitting_longest room (c ∷ s) zero h within = absurd (omega arith)
fitting_longest room (c ∷ s) (suc k) h within = elim (fits_first room c) [
  | inl f ↦
      let more : room - width c < length (doubled (take k s)) = fitting_longest (room - width c) s k (omega (arith, fitting_next room c s f)) (omega arith) in
      omega (arith, more, doubled_size c (take k s), f)
  | inr f ↦ omega (arith, doubled_size c (take k s), f)
]

-- where two bytes are left, a character fits
pub fitting_some : (room : ℕ) (s : List ℕ) → 2 ≤ room → 0 < length s → 1 ≤ fitting room s
fitting_some room [] h some = absurd (omega arith)
fitting_some room (c ∷ s) h some = omega (arith, fitting_next room c s (omega (arith, width_most c)))

-- what is left is shorter
pub left_less : (m : ℕ) (s : List ℕ) → length s ≤ suc m → length (drop (fitting 67 s) s) ≤ m
left_less m [] h = omega arith
left_less m (c ∷ s) h = omega (arith, length-drop (fitting 67 (c ∷ s)) (c ∷ s), fitting_some 67 (c ∷ s) (omega arith) (omega arith))

-- so many cards at most are enough
pub enough : (m n : ℕ) (lead text : List ℕ) (comment : Option (List ℕ)) → length text ≤ m → length text ≤ n → cards_of_string lead m text comment ≡ cards_of_string lead n text comment
enough zero zero lead text comment g h = refl
enough zero (suc n) lead [] comment g h = refl
enough zero (suc n) lead (c ∷ s) comment g h = absurd (omega arith)
enough (suc m) zero lead [] comment g h = refl
enough (suc m) zero lead (c ∷ s) comment g h = absurd (omega arith)
enough (suc m) (suc n) lead text comment g h =
    let k = fitting 67 text in
    let more = enough m n continue_lead (drop k text) comment (left_less m text g) (left_less n text h) in
    ap (λ (x : List (List ℕ)). cond (leb (length (doubled text)) 68) (card_of lead (quoted text) comment ∷ []) (card_of lead (quoted (take k text ++ 38 ∷ [])) None ∷ x)) more

-- what 68 bytes hold ends a string
pub string_end : (lead text : List ℕ) (comment : Option (List ℕ)) → length (doubled text) ≤ 68 → cards_of_string lead (length text) text comment ≡ card_of lead (quoted text) comment ∷ []
string_end lead [] comment h = refl
string_end lead (c ∷ s) comment h = elim (cases_Bool (leb (length (doubled (c ∷ s))) 68)) [
  | inl e ↦ cond-true (leb (length (doubled (c ∷ s))) 68) _ _ e
  | inr e ↦ absurd (let f : 68 < length (doubled (c ∷ s)) = leb-false _ 68 e in omega arith)
]

-- else it goes on
pub string_more : (lead text : List ℕ) (comment : Option (List ℕ)) → 68 < length (doubled text)
    → cards_of_string lead (length text) text comment ≡ card_of lead (quoted (take (fitting 67 text) text ++ 38 ∷ [])) None ∷ cards_of_string continue_lead (length (drop (fitting 67 text) text)) (drop (fitting 67 text) text) comment
string_more lead [] comment h = absurd (omega arith)
string_more lead (c ∷ s) comment h = elim (cases_Bool (leb (length (doubled (c ∷ s))) 68)) [
  | inl e ↦ absurd (let f : length (doubled (c ∷ s)) ≤ 68 = leb-true _ 68 e in omega arith)
  | inr e ↦
      let k = fitting 67 (c ∷ s) in
      cond-false (leb (length (doubled (c ∷ s))) 68) _ _ e
      ∙ ap (λ (x : List (List ℕ)). card_of lead (quoted (take k (c ∷ s) ++ 38 ∷ [])) None ∷ x) (enough (length s) (length (drop k (c ∷ s))) continue_lead (drop k (c ∷ s)) comment (left_less (length s) (c ∷ s) (omega arith)) (omega arith))
]

-- what a card between quotes takes
pub quoted_size : (text : List ℕ) → length (quoted text) ≡ length (doubled text) + 2
quoted_size text = omega (arith, length-append (39 ∷ doubled text) (39 ∷ []))

-- a piece with its ampersand fits a card
pub open_size : (text : List ℕ) → length (quoted (take (fitting 67 text) text ++ 38 ∷ [])) ≤ 70
open_size text =
    let piece = take (fitting 67 text) text in
    omega (arith, quoted_size (piece ++ 38 ∷ []), ap length (doubled_append piece (38 ∷ [])), length-append (doubled piece) (38 ∷ []), fitting_within 67 text)

-- a card has 80 bytes where its text has no more
pub card_size : (text : List ℕ) → length text ≤ 80 → length (card_of_text text) ≡ 80
card_size text h = omega (arith, length-append text (replicate (80 - length text) 32), length-replicate {A = ℕ} (80 - length text) 32)

-- a step that does not fit
pub double_over : (s v w : List ℕ) (i room n : ℕ) → i < length s → n ≤ width (get_or s i 0) → v ++ doubled (drop i s) ≡ w ++ doubled s → room < length v + n → room < length w + length (doubled s)
double_over s v w i room n h wide inv over =
    let cut : length (doubled (drop i s)) ≡ width (get_or s i 0) + length (doubled (drop (i + 1) s)) = ap (λ (x : List ℕ). length (doubled x)) (drop_more s i 0 h) ∙ doubled_size (get_or s i 0) (drop (i + 1) s) in
    omega (arith, cut, length-append v (doubled (drop i s)), length-append w (doubled s), ap length inv, wide, over)

-- nor does a quote, which takes two bytes
pub over_quote : (s v w : List ℕ) (i room : ℕ) → i < length s → get_or s i 0 ≡ 39 → v ++ doubled (drop i s) ≡ w ++ doubled s → room < length v + 2 → room < length w + length (doubled s)
over_quote s v w i room h e inv over = double_over s v w i room 2 h (let f : width (get_or s i 0) ≡ 2 = ap width e in omega arith) inv over

-- what stands between quotes, part by part
pub quoted_parts : (s t : List ℕ) → quoted (s ++ t) ≡ (39 ∷ []) ++ (doubled s ++ (doubled t ++ 39 ∷ []))
quoted_parts s t = ap (λ (x : List ℕ). 39 ∷ (x ++ 39 ∷ [])) (doubled_append s t) ∙ ap (λ (x : List ℕ). 39 ∷ x) (append_assoc (doubled s) (doubled t) (39 ∷ []))

-- and its size
pub quoted_length : (s t : List ℕ) → length (quoted (s ++ t)) ≡ 2 + (length (doubled s) + length (doubled t))
quoted_length s t = omega (arith, quoted_size (s ++ t), ap length (doubled_append s t), length-append (doubled s) (doubled t))

-- one that does not fit ends the piece
pub fit_stop : (s : List ℕ) (i room w whole : ℕ) → i < length s → w ≡ width (get_or s i 0) → room < w → i + fitting room (drop i s) ≡ whole → i ≡ whole
fit_stop s i room w whole h e f inv =
    let cut : fitting room (drop i s) ≡ 0 = ap (fitting room) (drop_more s i 0 h) ∙ fitting_stop room (get_or s i 0) (drop (i + 1) s) (omega (arith, e, f)) in
    omega (arith, cut, inv)

-- all fit
pub fit_all : (s : List ℕ) (i room whole : ℕ) → length s ≤ i → i + fitting room (drop i s) ≡ whole → i ≡ whole
fit_all s i room whole h inv =
    let cut : fitting room (drop i s) ≡ 0 = ap (fitting room) (drop_all i s h) in
    omega (arith, cut, inv)

-- the bytes of a piece and of what follows it
pub split_size : (k : ℕ) (s : List ℕ) → length (doubled s) ≡ length (doubled (take k s)) + length (doubled (drop k s))
split_size k s = omega (arith, ap (λ (x : List ℕ). length (doubled x)) (take-append-drop k s), ap length (doubled_append (take k s) (drop k s)), length-append (doubled (take k s)) (doubled (drop k s)))

-- characters take at least a byte each
pub doubled_least : (s : List ℕ) → length s ≤ length (doubled s)
doubled_least [] = omega arith
doubled_least (c ∷ s) = omega (arith, doubled_size c s, width_least c, doubled_least s)

-- a piece takes some of what is left
pub piece_some : (s : List ℕ) → 68 < length (doubled s) → 1 ≤ length (doubled (take (fitting 67 s) s))
piece_some [] h = absurd (omega arith)
piece_some (c ∷ s) h =
    let k = fitting 67 (c ∷ s) in
    omega (arith, fitting_some 67 (c ∷ s) (omega arith) (omega arith), fitting_most 67 (c ∷ s), doubled_least (take k (c ∷ s)), length-take-le k (c ∷ s) (fitting_most 67 (c ∷ s)))

-- the loop's step over a piece
pub piece_step : (lead rest : List ℕ) (comment : Option (List ℕ)) (cards whole : List (List ℕ)) → 68 < length (doubled rest) → cards ++ cards_of_string lead (length rest) rest comment ≡ whole
    → (cards ++ card_of lead (quoted (take (fitting 67 rest) rest ++ 38 ∷ [])) None ∷ []) ++ cards_of_string continue_lead (length (drop (fitting 67 rest) rest)) (drop (fitting 67 rest) rest) comment ≡ whole
piece_step lead rest comment cards whole h inv =
    append_assoc cards (card_of lead (quoted (take (fitting 67 rest) rest ++ 38 ∷ [])) None ∷ []) _ ∙ (ap (λ (x : List (List ℕ)). cards ++ x) (sym (string_more lead rest comment h)) ∙ inv)
