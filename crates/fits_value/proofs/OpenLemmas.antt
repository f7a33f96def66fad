-- Strings that end in an ampersand, told from their spelling.
use Rattle.std.proofs.Common.{◌≡◌, ℕ, ◌<◌, ◌+◌, ◌-◌, ◌&&◌, Bool, true, false, cond, eqb, List, [], ◌∷◌, ◌++◌, length, take, drop, get_or, reverse, refl, sym, ◌∙◌, ap, arith, inl, inr, length-append}
use Rattle.std.specs.List.{list_all, suffix_len}
use Rattle.std.specs.Str.{bytes_eq}
use Rattle.std.proofs.Math.Seq.{drop-append_seam}
use Rattle.std.proofs.lemmas.Bool.{cases_Bool, cases_eq, and_parts, both_ways, cond-true, cond-false, eqb-true}
use Rattle.std.proofs.lemmas.List.{take-append-drop, take_more, length-reverse, get_or-reverse}
use Rattle.std.proofs.lemmas.List.Sums.{prefix_len_stops, suffix_len-le-length}
use Rattle.std.proofs.lemmas.Slice.Eq.{bytes_eq-Decides}
use Rattle.fits_value.proofs.NormalLemmas.{normal_form-none, normal_form-other, spaces_behind}
use Rattle.fits_value.proofs.QuoteLemmas.{doubled-other, doubled-quote}
use Rattle.fits_value.specs.Spelling.{is_space, doubled}
use Rattle.fits_value.specs.Text.{normal_form}
use Rattle.fits_value.specs.Says.{ends_in_ampersand}

-- the last byte so far that is no space is an ampersand, where it is or isn't before these
abbrev open_after : Bool → List ℕ → Bool
open_after before [] = before
open_after before (b ∷ s) = open_after (cond (eqb b 32) before (eqb b 38)) s

-- bytes that follow others are read after them
open_after-append : (before : Bool) (s t : List ℕ) → open_after before (s ++ t) ≡ open_after (open_after before s) t
open_after-append before [] t = refl
open_after-append before (b ∷ s) t = open_after-append (cond (eqb b 32) before (eqb b 38)) s t

-- spaces change nothing
open_after-spaces : (before : Bool) (s : List ℕ) → list_all is_space s ≡ true → open_after before s ≡ before
open_after-spaces before [] h = refl
open_after-spaces before (b ∷ s) h =
    let both = and_parts (is_space b) (list_all is_space s) h in
    ap (λ x. open_after x s) (cond-true (eqb b 32) before (eqb b 38) both.0) ∙ open_after-spaces before s both.1

-- nor does it matter that quotes are doubled
open_after-doubled : (before : Bool) (cs : List ℕ) → open_after before (doubled cs) ≡ open_after before cs
open_after-doubled before [] = refl
open_after-doubled before (c ∷ cs) = elim (cases_Bool (eqb c 39)) [
  | inl e ↦
      let quote : c ≡ 39 = eqb-true c 39 e in
      ap (open_after before) (doubled-quote c cs e) ∙ (open_after-doubled false cs ∙ sym (ap (λ (x : ℕ). open_after before (x ∷ cs)) quote))
  | inr e ↦ ap (open_after before) (doubled-other c cs e) ∙ open_after-doubled (cond (eqb c 32) before (eqb c 38)) cs
]

-- texts are equal either way round
pub bytes_eq-swap : (s t : List ℕ) → bytes_eq s t ≡ bytes_eq t s
bytes_eq-swap s t = elim (cases_Bool (bytes_eq s t)) [
  | inl e ↦ e ∙ sym ((bytes_eq-Decides t s).1 (sym ((bytes_eq-Decides s t).0 e)))
  | inr e ↦ e ∙ sym (elim (cases_Bool (bytes_eq t s)) [
    | inl g ↦ absurd (both_ways (bytes_eq s t) e ((bytes_eq-Decides s t).1 (sym ((bytes_eq-Decides t s).0 g))))
    | inr g ↦ g
  ])
]

-- one byte against one other
one_byte : (b c : ℕ) → bytes_eq (b ∷ []) (c ∷ []) ≡ eqb b c
one_byte b c = go (eqb b c) where
  go : (x : Bool) → (x && true) ≡ x
  go true = refl
  go false = refl

-- a space alone
ends-space : (b : ℕ) → is_space b ≡ true → ends_in_ampersand (b ∷ []) ≡ false
ends-space b e = ap (λ (x : ℕ). ends_in_ampersand (x ∷ [])) (eqb-true b 32 e)

-- a list whose last byte is no space
ends-last : (s : List ℕ) (b : ℕ) → is_space b ≡ false → ends_in_ampersand (s ++ b ∷ []) ≡ open_after false (s ++ b ∷ [])
ends-last s b e =
    let place : length (s ++ b ∷ []) - 1 ≡ length s = omega (arith, length-append s (b ∷ [])) in
    ap (λ (k : ℕ). bytes_eq (drop k (s ++ b ∷ [])) (38 ∷ [])) place ∙ (ap (λ (x : List ℕ). bytes_eq x (38 ∷ [])) (drop-append_seam s (b ∷ []))
    ∙ (one_byte b 38 ∙ (sym (cond-false (eqb b 32) (open_after false s) (eqb b 38) e) ∙ sym (open_after-append false s (b ∷ [])))))

-- the byte before the spaces at the end
last_stays : (s : List ℕ) (n : ℕ) → n + suffix_len is_space s ≡ length s → 0 < n → is_space (get_or s (n - 1) 0) ≡ false
last_stays s n e some =
    let m = suffix_len is_space s in
    let within : m < length s = omega (arith, e) in
    let place : length s - 1 - m ≡ n - 1 = omega (arith, e) in
    ap (λ (k : ℕ). is_space (get_or s k 0)) (sym place) ∙ (ap is_space (sym (get_or-reverse s m 0 within))
    ∙ prefix_len_stops is_space (reverse s) 0 (omega (arith, within, length-reverse s)))

-- a list without the spaces at its end
ends-trimmed : (s : List ℕ) (n : ℕ) → n + suffix_len is_space s ≡ length s → ends_in_ampersand (take n s) ≡ open_after false s
ends-trimmed s n e = elim (cases_eq n 0) [
  | inl z ↦
      let all : list_all is_space s ≡ true = spaces_behind s n 0 e (omega (arith, z)) in
      ap (λ (k : ℕ). ends_in_ampersand (take k s)) z ∙ sym (open_after-spaces false s all)
  | inr h ↦
      let k = n - 1 in
      let up : n ≡ k + 1 = omega (arith, h) in
      let last = get_or s k 0 in
      let within : k < length s = omega (arith, e, h) in
      let front : take n s ≡ take k s ++ last ∷ [] = ap (λ (i : ℕ). take i s) up ∙ take_more s k 0 within in
      let behind : list_all is_space (drop n s) ≡ true = spaces_behind s n n e (omega arith) in
      ap ends_in_ampersand front ∙ (ends-last (take k s) last (last_stays s n e (omega (arith, h)))
      ∙ (ap (open_after false) (sym front) ∙ (sym (open_after-spaces (open_after false (take n s)) (drop n s) behind)
      ∙ (sym (open_after-append false (take n s) (drop n s)) ∙ ap (open_after false) (take-append-drop n s)))))
]

-- a text in normal form
ends-normal : (s : List ℕ) → ends_in_ampersand (normal_form s) ≡ open_after false s
ends-normal [] = refl
ends-normal (b ∷ s) =
    let n = length (b ∷ s) - suffix_len is_space (b ∷ s) in
    let e : n + suffix_len is_space (b ∷ s) ≡ length (b ∷ s) = omega (arith, suffix_len-le-length is_space (b ∷ s)) in
    elim (cases_eq n 0) [
      | inl z ↦
          let all : list_all is_space (b ∷ s) ≡ true = spaces_behind (b ∷ s) n 0 e (omega (arith, z)) in
          ap ends_in_ampersand (sym (normal_form-none (b ∷ s) n 1 e z (omega arith))) ∙ (ends-space b (and_parts (is_space b) (list_all is_space s) all).0 ∙ sym (open_after-spaces false (b ∷ s) all))
      | inr h ↦ ap ends_in_ampersand (sym (normal_form-other (b ∷ s) n e h)) ∙ ends-trimmed (b ∷ s) n e
    ]

-- the spelling of a string without the spaces at its end tells what its text ends in
pub open_spelled : (q cs : List ℕ) (n : ℕ) → q ≡ doubled cs → n + suffix_len is_space q ≡ length q → ends_in_ampersand (take n q) ≡ ends_in_ampersand (normal_form cs)
open_spelled q cs n e size =
    ends-trimmed q n size ∙ (ap (open_after false) e ∙ (open_after-doubled false cs ∙ sym (ends-normal cs)))
