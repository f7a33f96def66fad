-- Bytes of two sources that pass by side by side.
use Rattle.std.proofs.Common.{◌≡◌, ◌⊎◌, ℕ, zero, suc, ◌+◌, ◌-◌, ◌<◌, ◌≤◌, List, [], ◌∷◌, ◌++◌, length, take, drop, refl, ap, sym, subst, ◌∙◌, inl, inr, arith}
use Rattle.std.specs.Prelude.{◌==◌, if◌then◌else◌, Bool, true, false}
use Rattle.std.proofs.Common.{length-drop}
use Rattle.std.proofs.lemmas.Bool.{cases_lt}
use Rattle.std.proofs.lemmas.Bool.Decides.{Decides-eqb}
use Rattle.std.proofs.lemmas.List.{length-append, length-take-le}
use Rattle.fits_stream.specs.Intake.{Passes, Supply, Takes}
use Rattle.fits_stream.proofs.SightLemmas.{takes_and_holds, takes_more, takes_none, takes_then_fails}
use Rattle.fits_passing.specs.declared.hdu_fault.HduFault.TheVariants.{BadShape, Memory, NoEnd, ShortData}
use Rattle.fits_passing.specs.declared.read_hdu_fault.ReadHduFault.TheVariants as hdu
use Rattle.fits_diff.specs.Differences.{common_len, data_line, data_text}
use Rattle.fits_diff.specs.DiffSteps.{Part, TakesSame, TakesUnits, UnitsStop}
use Rattle.fits_diff.specs.declared.pair_fault.PairFault.{PairFault}
use Rattle.fits_diff.specs.declared.pair_fault.PairFault.TheVariants as pair

-- a number is itself
eq_same : (x : ℕ) → (x == x) ≡ true
eq_same x = (Decides-eqb x x).1 refl

-- what isn't true is false
pub not_true : (b : Bool) → (b ≡ true → ⊥) → b ≡ false
not_true true h = absurd (h refl)
not_true false h = refl

-- numbers that differ aren't one
pub eq_apart : (x y : ℕ) → (x ≡ y → ⊥) → (x == y) ≡ false
eq_apart x y h = not_true (x == y) (λ e. h ((Decides-eqb x y).0 e))

-- numbers are one, or differ
pub eq_cases : (x y : ℕ) → (x ≡ y) ⊎ (x ≡ y → ⊥)
eq_cases x y = elim (cases_lt x y) [
  | inl less ↦ inr (λ e. absurd (omega (arith, less, e)))
  | inr le ↦ elim (cases_lt y x) [ inl less ↦ inr (λ e. absurd (omega (arith, less, e))) | inr ge ↦ inl (omega (arith, le, ge)) ]
]

-- two bytes that are one
pub common_cons : (x y : ℕ) (xs ys : List ℕ) → x ≡ y → common_len (x ∷ xs) (y ∷ ys) ≡ common_len xs ys + 1
common_cons x y xs ys e = ap (λ (b : Bool). if b then common_len xs ys + 1 else 0) (ap (λ k. k == y) e ∙ eq_same y)

-- two that differ
pub common_part : (xs ys : List ℕ) → Part xs ys → common_len xs ys ≡ 0
common_part [] ys p = absurd p
common_part (x ∷ xs) [] p = absurd p
common_part (x ∷ xs) (y ∷ ys) p = ap (λ (b : Bool). if b then common_len xs ys + 1 else 0) (eq_apart x y p)

-- none is alike
pub part_of : (xs ys : List ℕ) → 0 < length xs → 0 < length ys → common_len xs ys ≡ 0 → Part xs ys
part_of [] ys l m none = absurd (omega (arith, l))
part_of (x ∷ xs) [] l m none = absurd (omega (arith, m))
part_of (x ∷ xs) (y ∷ ys) l m none = λ e. absurd (omega (arith, none, common_cons x y xs ys e))

-- as many bytes as are alike, or fewer, are the same in both
pub same_front : (n : ℕ) (xs ys : List ℕ) → n ≤ common_len xs ys → take n xs ≡ take n ys
same_front zero xs ys le = refl
same_front (suc n) [] ys le = absurd (omega (arith, le))
same_front (suc n) (x ∷ xs) [] le = absurd (omega (arith, le))
same_front (suc n) (x ∷ xs) (y ∷ ys) le = elim (eq_cases x y) [
  | inl e ↦
      let rest : take n xs ≡ take n ys = same_front n xs ys (omega (arith, le, common_cons x y xs ys e)) in
      ap (λ t. x ∷ t) rest ∙ ap (λ z. z ∷ take n ys) e
  | inr apart ↦ absurd (omega (arith, le, common_part (x ∷ xs) (y ∷ ys) apart))
]

-- no more than one of them has
pub common_within : (xs ys : List ℕ) → common_len xs ys ≤ length xs
common_within [] ys = omega arith
common_within (x ∷ xs) [] = omega arith
common_within (x ∷ xs) (y ∷ ys) = elim (eq_cases x y) [
  | inl e ↦ omega (arith, common_within xs ys, common_cons x y xs ys e)
  | inr apart ↦ omega (arith, common_part (x ∷ xs) (y ∷ ys) apart)
]

-- nor than the other
pub common_within_other : (xs ys : List ℕ) → common_len xs ys ≤ length ys
common_within_other [] ys = omega arith
common_within_other (x ∷ xs) [] = omega arith
common_within_other (x ∷ xs) (y ∷ ys) = elim (eq_cases x y) [
  | inl e ↦ omega (arith, common_within_other xs ys, common_cons x y xs ys e)
  | inr apart ↦ omega (arith, common_part (x ∷ xs) (y ∷ ys) apart)
]

-- after bytes that are the same
pub common_after : (bs xs ys : List ℕ) → common_len (bs ++ xs) (bs ++ ys) ≡ length bs + common_len xs ys
common_after [] xs ys = omega arith
common_after (b ∷ bs) xs ys = omega (arith, common_cons b b (bs ++ xs) (bs ++ ys) refl, common_after bs xs ys)

-- no bytes
no_bytes : (xs : List ℕ) → length xs ≡ 0 → xs ≡ []
no_bytes [] e = refl
no_bytes (x ∷ xs) e = absurd (omega (arith, e))

-- nothing is alike where there is nothing
common_none : (xs : List ℕ) → common_len xs [] ≡ 0
common_none [] = refl
common_none (x ∷ xs) = refl

-- past the end of one none is alike
pub common_past : (xs ys : List ℕ) (i : ℕ) → (i < length xs → i < length ys → ⊥) → common_len (drop i xs) (drop i ys) ≡ 0
common_past xs ys i past = elim (cases_lt i (length xs)) [
  | inl l ↦ elim (cases_lt i (length ys)) [
    | inl m ↦ absurd (past l m)
    | inr all ↦ ap (common_len (drop i xs)) (no_bytes (drop i ys) (omega (arith, length-drop i ys, all))) ∙ common_none (drop i xs)
  ]
  | inr all ↦ ap (λ t. common_len t (drop i ys)) (no_bytes (drop i xs) (omega (arith, length-drop i xs, all)))
]

-- the same bytes were taken of both, so many
pub record SameSoFar (count : ℕ) (a a' b b' : Supply) : Type 0 where
  pub bytes : List ℕ
  pub taken : Takes a a' bytes
  pub taken_other : Takes b b' bytes
  pub size : length bytes ≡ count

-- none yet
pub same_none : (a b : Supply) → SameSoFar 0 a a b b
same_none a b = record { bytes = []; taken = takes_none a; taken_other = takes_none b; size = refl }

-- more of both are held, and the same are taken
pub same_more : (count n : ℕ) (a a' c d b b' e f : Supply) → SameSoFar count a a' b b' → Takes a' c [] → Takes b' e [] → n ≤ common_len c.ahead e.ahead
    → Takes c d (take n c.ahead) → Takes e f (take n e.ahead) → SameSoFar (count + n) a d b f
same_more count n a a' c d b b' e f p holds holds_other few passed passed_other =
    let same : take n e.ahead ≡ take n c.ahead = sym (same_front n c.ahead e.ahead few) in
    let size : length (take n c.ahead) ≡ n = length-take-le n c.ahead (omega (arith, few, common_within c.ahead e.ahead)) in
    record {
      bytes = p.bytes ++ take n c.ahead;
      taken = takes_more a c d p.bytes (take n c.ahead) (takes_and_holds a a' c p.bytes p.taken holds) passed;
      taken_other = takes_more b e f p.bytes (take n c.ahead) (takes_and_holds b b' e p.bytes p.taken_other holds_other) (subst (Takes e f) same passed_other);
      size = omega (arith, length-append p.bytes (take n c.ahead), size, p.size);
    }

-- and more are held
pub same_held : (count : ℕ) (a a' c b b' e : Supply) → SameSoFar count a a' b b' → Takes a' c [] → Takes b' e [] → SameSoFar count a c b e
same_held count a a' c b b' e p holds holds_other = record {
  bytes = p.bytes;
  taken = takes_and_holds a a' c p.bytes p.taken holds;
  taken_other = takes_and_holds b b' e p.bytes p.taken_other holds_other;
  size = p.size;
}

-- bytes that begin two texts differ where the texts do
part_fronts : (us ms xs zs vs ns ys ws : List ℕ) → us ++ ms ≡ xs ++ zs → vs ++ ns ≡ ys ++ ws → 0 < length xs → 0 < length ys → Part us vs → Part xs ys
part_fronts [] ms xs zs vs ns ys ws e f l m p = absurd p
part_fronts (u ∷ us) ms xs zs [] ns ys ws e f l m p = absurd p
part_fronts (u ∷ us) ms [] zs (v ∷ vs) ns ys ws e f l m p = absurd (omega (arith, l))
part_fronts (u ∷ us) ms (x ∷ xs) zs (v ∷ vs) ns [] ws e f l m p = absurd (omega (arith, m))
part_fronts (u ∷ us) ms (x ∷ xs) zs (v ∷ vs) ns (y ∷ ys) ws e f l m p =
    let first : u ≡ x = cc in
    let second : v ≡ y = cc in
    λ same. p (first ∙ same ∙ sym second)

-- so do those that are taken
part_taken : (a a' b b' : Supply) (xs ys : List ℕ) → Takes a a' xs → Takes b b' ys → 0 < length xs → 0 < length ys → Part a.ahead b.ahead → Part xs ys
part_taken a a' b b' xs ys p q l m part = part_fronts a.ahead p.more xs a'.ahead b.ahead q.more ys b'.ahead p.joined q.joined l m part

-- how data units differ, by their lengths and how many bytes they have alike
data_is : (h len other_len same : ℕ) (xs ys : List ℕ) → length xs ≡ len → length ys ≡ other_len → common_len xs ys ≡ same → data_line h len other_len same ≡ data_text h xs ys
data_is h len other_len same xs ys l m e = sym (ap (λ k. data_line h k (length ys) (common_len xs ys)) l ∙ ap (λ k. data_line h len k (common_len xs ys)) m ∙ ap (data_line h len other_len) e)

-- data units of one length were taken: what both have alike, and then the rest of each
pub units_same : (h len same : ℕ) (a a' c b b' e : Supply) (text new : List ℕ) → TakesSame len same a a' b b' → Passes a' c (len - same) → Passes b' e (len - same) → new ≡ text ++ data_line h len len same → TakesUnits h len len a c b e text new
units_same h len same a a' c b b' e text new p q r told =
    let unit : List ℕ = p.bytes ++ q.bytes in
    let other : List ℕ = p.bytes ++ r.bytes in
    let size : length unit ≡ len = omega (arith, length-append p.bytes q.bytes, p.size, q.size, p.within) in
    let size_other : length other ≡ len = omega (arith, length-append p.bytes r.bytes, p.size, r.size, p.within) in
    let apart : common_len q.bytes r.bytes ≡ 0 = elim (cases_lt same len) [
      | inl less ↦ common_part q.bytes r.bytes (part_taken a' c b' e q.bytes r.bytes q.taken r.taken (omega (arith, q.size, less)) (omega (arith, r.size, less)) (p.stops less))
      | inr all ↦ ap (λ t. common_len t r.bytes) (no_bytes q.bytes (omega (arith, q.size, all)))
    ] in
    let alike : common_len unit other ≡ same = omega (arith, common_after p.bytes q.bytes r.bytes, apart, p.size) in
    record {
      unit = unit;
      other = other;
      taken = takes_more a a' c p.bytes q.bytes p.taken q.taken;
      taken_other = takes_more b b' e p.bytes r.bytes p.taken_other r.taken;
      size = size;
      size_other = size_other;
      told = told ∙ ap (λ t. text ++ t) (data_is h len len same unit other size size_other alike);
    }

-- the rest of one doesn't come
pub rest_stops : (len same : ℕ) (a a' c b b' e : Supply) (why : PairFault) → TakesSame len same a a' b b' → UnitsStop (len - same) (len - same) a' c b' e why → UnitsStop len len a c b e why
rest_stops len same a a' c b b' e (pair.First (hdu.Hdu ShortData)) p q = record { bytes = p.bytes ++ q.bytes; taken = takes_more a a' c p.bytes q.bytes p.taken q.taken; short = omega (arith, length-append p.bytes q.bytes, p.size, p.within, q.short); spent = q.spent }
rest_stops len same a a' c b b' e (pair.First (hdu.Hdu NoEnd)) p q = absurd q
rest_stops len same a a' c b b' e (pair.First (hdu.Hdu (BadShape place))) p q = absurd q
rest_stops len same a a' c b b' e (pair.First (hdu.Hdu Memory)) p q = absurd q
rest_stops len same a a' c b b' e (pair.First hdu.Failed) p q = takes_then_fails a a' c.source p.bytes p.taken q
rest_stops len same a a' c b b' e (pair.Second (hdu.Hdu ShortData)) p q = record { bytes = p.bytes ++ q.bytes; taken = takes_more b b' e p.bytes q.bytes p.taken_other q.taken; short = omega (arith, length-append p.bytes q.bytes, p.size, p.within, q.short); spent = q.spent }
rest_stops len same a a' c b b' e (pair.Second (hdu.Hdu NoEnd)) p q = absurd q
rest_stops len same a a' c b b' e (pair.Second (hdu.Hdu (BadShape place))) p q = absurd q
rest_stops len same a a' c b b' e (pair.Second (hdu.Hdu Memory)) p q = absurd q
rest_stops len same a a' c b b' e (pair.Second hdu.Failed) p q = takes_then_fails b b' e.source p.bytes p.taken_other q
rest_stops len same a a' c b b' e pair.Memory p q = tt
