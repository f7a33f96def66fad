-- What the least, the greatest and the blank of some numbers say of all of them.
use Rattle.std.proofs.Common.{Bool, List, None, Option, Some, [], ap, arith, false, filter, get_or, inl, inr, length, not, refl, subst, suc, sym, true, zero, ℕ, ℤ, ◌<◌, ◌∷◌, ◌≡◌, ◌⊎◌}
use Rattle.std.proofs.lemmas.Bool.{cases_Bool, cond-false, cond-true}
use Rattle.std.proofs.lemmas.Int.{clamps, ints}
use Rattle.std.specs.Int.{int_max, int_min}
use Rattle.std.specs.Prelude.{IfSome, int_le, pos, ◌+ℤ◌, ◌≤ℤ◌}
use Rattle.fits_pixels.proofs.TestLemmas.{at_most}
use Rattle.fits_pixels.specs.Pixels.{IsStorable}
use Rattle.fits_pixels.specs.Statistics.{defined_numbers, greatest_of, is_blank, least_of, statistics}
use Rattle.fits_pixels.specs.Summary.{greater, lesser}
use Rattle.fits_pixels.specs.declared.pixel_summary.PixelSummary.{PixelSummary}

-- the number that BLANK names
blank_is : (b : Option ℤ) (x : ℤ) → is_blank b x ≡ true → b ≡ Some x
blank_is None x e = absurd (cc e)
blank_is (Some b) x e = let same : b ≡ x = grind (arith, ints, e) in ap Some same

-- not at most
over : (a b : ℤ) → int_le a b ≡ false → b ≤ℤ a
over a b e = grind (arith, ints)

-- the lesser of two is one of them
min_is : (a b : ℤ) → (int_min a b ≡ a) ⊎ (int_min a b ≡ b)
min_is a b = elim (cases_Bool (int_le a b)) [
  | inl t ↦ let h = at_most a b t in inl (omega (arith, ints, clamps, h))
  | inr f ↦ let h = over a b f in inr (omega (arith, ints, clamps, h))
]

-- the greater of two is one of them
max_is : (a b : ℤ) → (int_max a b ≡ a) ⊎ (int_max a b ≡ b)
max_is a b = elim (cases_Bool (int_le a b)) [
  | inl t ↦ let h = at_most a b t in inr (omega (arith, ints, clamps, h))
  | inr f ↦ let h = over a b f in inl (omega (arith, ints, clamps, h))
]

-- a filter keeps what passes
filter_some : (t : ℤ → Bool) (x : ℤ) (xs : List ℤ) → t x ≡ true → filter t (x ∷ xs) ≡ x ∷ filter t xs
filter_some t x xs e = cond-true _ _ _ e

-- and leaves out what doesn't
filter_none : (t : ℤ → Bool) (x : ℤ) (xs : List ℤ) → t x ≡ false → filter t (x ∷ xs) ≡ filter t xs
filter_none t x xs e = cond-false _ _ _ e

-- a list's elements, one by one
abbrev Each : (ℤ → Type 0) → List ℤ → Type 0
Each P [] = Unit {0}
Each P (x ∷ xs) = P x × Each P xs

-- from what stands of each index
each_of : (P : ℤ → Type 0) (xs : List ℤ) → ((i : ℕ) → i < length xs → P (get_or xs i (pos 0))) → Each P xs
each_of P [] h = tt
each_of P (x ∷ xs) h = (h 0 (omega arith), each_of P xs (λ i b. h (suc i) (omega (arith, b))))

-- and back
of_each : (P : ℤ → Type 0) (xs : List ℤ) → Each P xs → (i : ℕ) → i < length xs → P (get_or xs i (pos 0))
of_each P [] h i b = absurd (omega (arith, b))
of_each P (x ∷ xs) h zero b = h.0
of_each P (x ∷ xs) h (suc i) b = of_each P xs h.1 i (omega (arith, b))

-- what follows of each
each_map : (P Q : ℤ → Type 0) (xs : List ℤ) → ((x : ℤ) → P x → Q x) → Each P xs → Each Q xs
each_map P Q [] f h = tt
each_map P Q (x ∷ xs) f h = (f x h.0, each_map P Q xs f h.1)

-- and of each from two
each_both : (P Q R : ℤ → Type 0) (xs : List ℤ) → ((x : ℤ) → P x → Q x → R x) → Each P xs → Each Q xs → Each R xs
each_both P Q R [] f h k = tt
each_both P Q R (x ∷ xs) f h k = (f x h.0 k.0, each_both P Q R xs f h.1 k.1)

-- ---- the least and the greatest have what all have
module _ (P : ℤ → Type 0) where
  -- the lesser of two
  lesser_held : (a b : Option ℤ) → IfSome a P → IfSome b P → IfSome (lesser a b) P
  lesser_held None b p q = q
  lesser_held (Some a) None p q = p
  lesser_held (Some a) (Some b) p q = elim (min_is a b) [ inl e ↦ subst P (sym e) p | inr e ↦ subst P (sym e) q ]

  -- the least of all
  least_held : (xs : List ℤ) → Each P xs → IfSome (least_of xs) P
  least_held [] h = tt
  least_held (x ∷ xs) h = lesser_held (Some x) (least_of xs) h.0 (least_held xs h.1)

  -- the greater of two
  greater_held : (a b : Option ℤ) → IfSome a P → IfSome b P → IfSome (greater a b) P
  greater_held None b p q = q
  greater_held (Some a) None p q = p
  greater_held (Some a) (Some b) p q = elim (max_is a b) [ inl e ↦ subst P (sym e) p | inr e ↦ subst P (sym e) q ]

  -- the greatest of all
  greatest_held : (xs : List ℤ) → Each P xs → IfSome (greatest_of xs) P
  greatest_held [] h = tt
  greatest_held (x ∷ xs) h = greater_held (Some x) (greatest_of xs) h.0 (greatest_held xs h.1)

  -- those that pass a test
  filter_each : (t : ℤ → Bool) (xs : List ℤ) → Each P xs → Each P (filter t xs)
  filter_each t [] h = tt
  filter_each t (x ∷ xs) h = elim (cases_Bool (t x)) [
    | inl e ↦ subst (Each P) (sym (filter_some t x xs e)) (h.0, filter_each t xs h.1)
    | inr e ↦ subst (Each P) (sym (filter_none t x xs e)) (filter_each t xs h.1)
  ]

  -- where a number is blank, that one has it too
  blank_held : (b : Option ℤ) (xs : List ℤ) → Each P xs → 0 < length (filter (is_blank b) xs) → IfSome b P
  blank_held b [] h some = absurd (omega (arith, some))
  blank_held b (x ∷ xs) h some = elim (cases_Bool (is_blank b x)) [
    | inl e ↦ subst (λ o. IfSome o P) (sym (blank_is b x e)) h.0
    | inr e ↦ blank_held b xs h.1 (omega (arith, some, ap length (filter_none (is_blank b) x xs e)))
  ]

  -- ---- and all have what these have

  -- those that BLANK names, and the others
  each_parts : (b : Option ℤ) (xs : List ℤ) → Each P (defined_numbers b xs) → (0 < length (filter (is_blank b) xs) → IfSome b P) → Each P xs
  each_parts b [] h k = tt
  each_parts b (x ∷ xs) h k = elim (cases_Bool (is_blank b x)) [
    | inl e ↦
        let out : defined_numbers b (x ∷ xs) ≡ defined_numbers b xs = filter_none (λ y. not (is_blank b y)) x xs (ap not e) in
        let many : length (filter (is_blank b) (x ∷ xs)) ≡ suc (length (filter (is_blank b) xs)) = ap length (filter_some (is_blank b) x xs e) in
        let here : P x = subst (λ o. IfSome o P) (blank_is b x e) (k (omega (arith, many))) in
        (here, each_parts b xs (subst (Each P) out h) (λ s. k (omega (arith, many))))
    | inr e ↦
        let in_it : defined_numbers b (x ∷ xs) ≡ x ∷ defined_numbers b xs = filter_some (λ y. not (is_blank b y)) x xs (ap not e) in
        let both : P x × Each P (defined_numbers b xs) = subst (Each P) in_it h in
        (both.0, each_parts b xs both.1 (λ s. k (omega (arith, s, ap length (filter_none (is_blank b) x xs e)))))
  ]

-- a number below which none is
record Under (o : Option ℤ) (x : ℤ) : Type 0 where
  low : ℤ
  is : o ≡ Some low
  le : low ≤ℤ x

-- the first is not below the lesser of it and others
under_head : (x : ℤ) (o : Option ℤ) → Under (lesser (Some x) o) x
under_head x None = record { low = x; is = refl; le = omega (arith, ints) }
under_head x (Some m) = record { low = int_min x m; is = refl; le = omega (arith, ints, clamps) }

-- nor is what isn't below the others
under_tail : (x : ℤ) (o : Option ℤ) (y : ℤ) → Under o y → Under (lesser (Some x) o) y
under_tail x o y u = record { low = int_min x u.low; is = ap (lesser (Some x)) u.is; le = let h = u.le in omega (arith, ints, clamps, h) }

-- none is below the least
under : (xs : List ℤ) → Each (Under (least_of xs)) xs
under [] = tt
under (x ∷ xs) = (under_head x (least_of xs), each_map (Under (least_of xs)) (Under (lesser (Some x) (least_of xs))) xs (λ y u. under_tail x (least_of xs) y u) (under xs))

-- a number above which none is
record Above (o : Option ℤ) (x : ℤ) : Type 0 where
  high : ℤ
  is : o ≡ Some high
  le : x ≤ℤ high

-- the first is not above the greater of it and others
above_head : (x : ℤ) (o : Option ℤ) → Above (greater (Some x) o) x
above_head x None = record { high = x; is = refl; le = omega (arith, ints) }
above_head x (Some m) = record { high = int_max x m; is = refl; le = omega (arith, ints, clamps) }

-- nor is what isn't above the others
above_tail : (x : ℤ) (o : Option ℤ) (y : ℤ) → Above o y → Above (greater (Some x) o) y
above_tail x o y u = record { high = int_max x u.high; is = ap (greater (Some x)) u.is; le = let h = u.le in omega (arith, ints, clamps, h) }

-- none is above the greatest
above : (xs : List ℤ) → Each (Above (greatest_of xs)) xs
above [] = tt
above (x ∷ xs) = (above_head x (greatest_of xs), each_map (Above (greatest_of xs)) (Above (greater (Some x) (greatest_of xs))) xs (λ y u. above_tail x (greatest_of xs) y u) (above xs))

-- between two that can be stored
between : (w : ℕ) (s l x g : ℤ) → IsStorable w (l +ℤ s) → IsStorable w (g +ℤ s) → l ≤ℤ x → x ≤ℤ g → IsStorable w (x +ℤ s)
between w s l x g p q a b = record { least = up _ _ _ _ p.least a; greatest = down _ _ _ _ q.greatest b }
  where
    up : (m l x s : ℤ) → m ≤ℤ (l +ℤ s) → l ≤ℤ x → m ≤ℤ (x +ℤ s)
    up m l x s h a = omega (arith, ints, h, a)

    down : (m g x s : ℤ) → (g +ℤ s) ≤ℤ m → x ≤ℤ g → (x +ℤ s) ≤ℤ m
    down m g x s h b = omega (arith, ints, h, b)

module _ (w : ℕ) (s : ℤ) (blank : Option ℤ) (xs : List ℤ) (t : PixelSummary) (e : t ≡ statistics blank xs) where
  -- a number can be stored with the shift
  abbrev Fits : ℤ → Type 0
  Fits z = IsStorable w (z +ℤ s)

  -- all can be, where the least, the greatest and the blank can
  pub all_fit : IfSome t.least Fits → IfSome t.greatest Fits → (0 < t.blank → IfSome blank Fits) → (i : ℕ) → i < length xs → Fits (get_or xs i (pos 0))
  all_fit p q r =
      let ds : List ℤ = defined_numbers blank xs in
      let low : IfSome (least_of ds) Fits = subst (λ u. IfSome u.least Fits) e p in
      let high : IfSome (greatest_of ds) Fits = subst (λ u. IfSome u.greatest Fits) e q in
      let named : 0 < length (filter (is_blank blank) xs) → IfSome blank Fits = λ h. r (subst (λ u. 0 < u.blank) (sym e) h) in
      let each : Each Fits ds = each_both (Under (least_of ds)) (Above (greatest_of ds)) Fits ds (λ x u v.
      between w s u.low x v.high (subst (λ o. IfSome o Fits) u.is low) (subst (λ o. IfSome o Fits) v.is high) u.le v.le) (under ds) (above ds) in
      of_each Fits xs (each_parts Fits blank xs each named)

  -- the least can be, where all can
  pub least_fits : ((i : ℕ) → i < length xs → Fits (get_or xs i (pos 0))) → IfSome t.least Fits
  least_fits h = subst (λ u. IfSome u.least Fits) (sym e) (least_held Fits (defined_numbers blank xs) (filter_each Fits (λ x. not (is_blank blank x)) xs (each_of Fits xs h)))

  -- so can the greatest
  pub greatest_fits : ((i : ℕ) → i < length xs → Fits (get_or xs i (pos 0))) → IfSome t.greatest Fits
  greatest_fits h = subst (λ u. IfSome u.greatest Fits) (sym e) (greatest_held Fits (defined_numbers blank xs) (filter_each Fits (λ x. not (is_blank blank x)) xs (each_of Fits xs h)))

  -- and the blank, where a number is
  pub blank_fits : ((i : ℕ) → i < length xs → Fits (get_or xs i (pos 0))) → 0 < t.blank → IfSome blank Fits
  blank_fits h some = blank_held Fits blank xs (each_of Fits xs h) (subst (λ u. 0 < u.blank) e some)
