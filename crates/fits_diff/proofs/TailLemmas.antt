-- The bytes after the last HDUs of two files.
use Rattle.std.proofs.Common.{◌≡◌, ◌⊎◌, ℕ, ◌<◌, ◌≤◌, Bool, true, false, List, [], ◌∷◌, ◌++◌, length, take, refl, ap, sym, subst, ◌∙◌, arith, inl, inr}
use Rattle.std.specs.Str.{bytes_eq}
use Rattle.std.proofs.lemmas.Bool.{cases_lt, false≢true}
use Rattle.std.proofs.lemmas.List.{append-nil, length-append, take-append-le}
use Rattle.std.proofs.lemmas.Slice.Eq.{bytes_eq-Decides}
use Rattle.fits_stream.specs.Intake.{Supply, Takes}
use Rattle.fits_stream.proofs.SightLemmas.{takes_and_holds, takes_more, takes_none}
use Rattle.fits_diff.specs.DiffSteps.{IsSeen, MayFollow, TakesTails}
use Rattle.fits_diff.proofs.PassingLemmas.{not_true}

-- tests that are true together are one
same_bool : (x y : Bool) → (x ≡ true → y ≡ true) → (y ≡ true → x ≡ true) → x ≡ y
same_bool true y f g = sym (f refl)
same_bool false true f g = g refl
same_bool false false f g = refl

-- texts that are one exactly where others are
same_test : (xs ys us vs : List ℕ) → (xs ≡ ys → us ≡ vs) → (us ≡ vs → xs ≡ ys) → bytes_eq xs ys ≡ bytes_eq us vs
same_test xs ys us vs f g = same_bool (bytes_eq xs ys) (bytes_eq us vs) (λ e. (bytes_eq-Decides us vs).1 (f ((bytes_eq-Decides xs ys).0 e))) (λ e. (bytes_eq-Decides xs ys).1 (g ((bytes_eq-Decides us vs).0 e)))

-- after the same bytes the rest is
rest_same : (bs xs ys : List ℕ) → bs ++ xs ≡ bs ++ ys → xs ≡ ys
rest_same [] xs ys e = e
rest_same (b ∷ bs) xs ys e = rest_same bs xs ys (let tails : bs ++ xs ≡ bs ++ ys = cc in tails)

-- so much of two was the same so far
pub record TailsSoFar (a a' b b' : Supply) : Type 0 where
  pub bytes : List ℕ
  pub taken : Takes a a' bytes
  pub taken_other : Takes b b' bytes
  pub seen : IsSeen a'
  pub seen_other : IsSeen b'
  pub still : length a.ahead < 2880 → (a' ≡ a) × (bytes ≡ [])
  pub still_other : length b.ahead < 2880 → (b' ≡ b) × (bytes ≡ [])

-- nothing yet
pub tails_none : (a b : Supply) → IsSeen a → IsSeen b → TailsSoFar a a b b
tails_none a b seen seen_other = record {
  bytes = [];
  taken = takes_none a;
  taken_other = takes_none b;
  seen = seen;
  seen_other = seen_other;
  still = λ less. (refl, refl);
  still_other = λ less. (refl, refl);
}

-- one more block is the same
pub tails_more : (a a' c d b b' e f : Supply) → TailsSoFar a a' b b' → 2880 ≤ length a'.ahead → 2880 ≤ length b'.ahead → bytes_eq (take 2880 a'.ahead) (take 2880 b'.ahead) ≡ true
    → Takes a' c (take 2880 a'.ahead) → Takes b' e (take 2880 b'.ahead) → Takes c d [] → Takes e f [] → IsSeen d → IsSeen f → TailsSoFar a d b f
tails_more a a' c d b b' e f p many many_other same passed passed_other holds holds_other seen seen_other =
    let block : List ℕ = take 2880 a'.ahead in
    let is : take 2880 b'.ahead ≡ block = sym ((bytes_eq-Decides block (take 2880 b'.ahead)).0 same) in
    record {
      bytes = p.bytes ++ block;
      taken = takes_more a a' d p.bytes block p.taken (takes_and_holds a' c d block passed holds);
      taken_other = takes_more b b' f p.bytes block p.taken_other (takes_and_holds b' e f block (subst (Takes b' e) is passed_other) holds_other);
      seen = seen;
      seen_other = seen_other;
      still = λ less. absurd (omega (arith, less, many, ap (λ (s : Supply). length s.ahead) (p.still less).0));
      still_other = λ less. absurd (omega (arith, less, many_other, ap (λ (s : Supply). length s.ahead) (p.still_other less).0));
    }

-- the same bytes, then what is ahead of each
tails_all : (a a' b b' : Supply) (same : Bool) (p : TailsSoFar a a' b b')
    → ((rest other : List ℕ) → MayFollow a' rest → MayFollow b' other → bytes_eq (a'.ahead ++ rest) (b'.ahead ++ other) ≡ same) → TakesTails a a' b b' same
tails_all a a' b b' same p alike = record {
  bytes = p.bytes;
  taken = p.taken;
  taken_other = p.taken_other;
  seen = p.seen;
  seen_other = p.seen_other;
  still = p.still;
  still_other = p.still_other;
  alike = λ rest other follows follows_other.
      same_test (p.bytes ++ (a'.ahead ++ rest)) (p.bytes ++ (b'.ahead ++ other)) (a'.ahead ++ rest) (b'.ahead ++ other) (rest_same p.bytes (a'.ahead ++ rest) (b'.ahead ++ other)) (ap (λ t. p.bytes ++ t))
      ∙ alike rest other follows follows_other;
}

-- texts of other lengths differ
apart_by_length : (xs ys : List ℕ) → length xs < length ys → bytes_eq xs ys ≡ false
apart_by_length xs ys less = not_true (bytes_eq xs ys) (λ e. absurd (omega (arith, less, ap (λ (t : List ℕ). length t) ((bytes_eq-Decides xs ys).0 e))))

-- the same where the second is shorter
apart_by_length_too : (xs ys : List ℕ) → length ys < length xs → bytes_eq xs ys ≡ false
apart_by_length_too xs ys less = not_true (bytes_eq xs ys) (λ e. absurd (omega (arith, less, ap (λ (t : List ℕ). length t) ((bytes_eq-Decides xs ys).0 e))))

-- less than a block is ahead of one
pub tails_end : (a a' b b' : Supply) (same : Bool) → TailsSoFar a a' b b' → (length a'.ahead < 2880) ⊎ (length b'.ahead < 2880) → same ≡ bytes_eq a'.ahead b'.ahead → TakesTails a a' b b' same
tails_end a a' b b' same p short is =
    let x : List ℕ = a'.ahead in
    let y : List ℕ = b'.ahead in
    tails_all a a' b b' same p (λ rest other follows follows_other.
    elim (cases_lt (length x) 2880) [
      | inl less ↦ elim (cases_lt (length y) 2880) [
        | inl less_other ↦ ap (λ t. bytes_eq (x ++ t) (y ++ other)) (follows less) ∙ ap (λ t. bytes_eq (x ++ []) (y ++ t)) (follows_other less_other) ∙ ap (λ t. bytes_eq t (y ++ [])) (append-nil x) ∙ ap (bytes_eq x) (append-nil y) ∙ sym is
        | inr many ↦
            ap (λ t. bytes_eq (x ++ t) (y ++ other)) (follows less) ∙ ap (λ t. bytes_eq t (y ++ other)) (append-nil x)
            ∙ apart_by_length x (y ++ other) (omega (arith, less, many, length-append y other)) ∙ sym (is ∙ apart_by_length x y (omega (arith, less, many)))
      ]
      | inr many ↦ elim (cases_lt (length y) 2880) [
        | inl less_other ↦
            ap (λ t. bytes_eq (x ++ rest) (y ++ t)) (follows_other less_other) ∙ ap (bytes_eq (x ++ rest)) (append-nil y)
            ∙ apart_by_length_too (x ++ rest) y (omega (arith, less_other, many, length-append x rest)) ∙ sym (is ∙ apart_by_length_too x y (omega (arith, less_other, many)))
        | inr many_other ↦ absurd (elim short [ inl less ↦ omega (arith, less, many) | inr less ↦ omega (arith, less, many_other) ])
      ]
    ])

-- the next blocks differ
pub tails_part : (a a' b b' : Supply) → TailsSoFar a a' b b' → 2880 ≤ length a'.ahead → 2880 ≤ length b'.ahead → bytes_eq (take 2880 a'.ahead) (take 2880 b'.ahead) ≡ false → TakesTails a a' b b' false
tails_part a a' b b' p many many_other apart =
    tails_all a a' b b' false p (λ rest other follows follows_other.
    not_true (bytes_eq (a'.ahead ++ rest) (b'.ahead ++ other)) (λ e.
    let whole : a'.ahead ++ rest ≡ b'.ahead ++ other = (bytes_eq-Decides (a'.ahead ++ rest) (b'.ahead ++ other)).0 e in
    let fronts : take 2880 a'.ahead ≡ take 2880 b'.ahead = sym (take-append-le 2880 a'.ahead rest many) ∙ ap (take 2880) whole ∙ take-append-le 2880 b'.ahead other many_other in
    false≢true (sym apart ∙ (bytes_eq-Decides (take 2880 a'.ahead) (take 2880 b'.ahead)).1 fronts)))

pub ruleset tail_steps = (tails_none)
