-- What may follow a number begins with none of its parts.
use Rattle.std.proofs.Common.{◌≡◌, ℕ, false, eqb, List, [], ◌∷◌, refl, sym, inl, inr, ◌⊎◌, arith}
use Rattle.std.proofs.lemmas.Bool.{and_left, or_from, cond-false, ne_eqb}
use Rattle.fits_value.proofs.FrontLemmas.{Stops}
use Rattle.fits_value.specs.Spelling.{is_digit, is_exponent_letter}
use Rattle.fits_value.specs.NumberSteps.{fraction_digits, after_fraction, begins_exponent, after_exponent}

-- a byte that may follow a number: a space, a slash, a comma or a closing bracket
abbrev pub IsSeparator : ℕ → Type 0
IsSeparator b = (b ≡ 32) ⊎ ((b ≡ 47) ⊎ ((b ≡ 44) ⊎ (b ≡ 41)))

-- nothing, or a byte first that may follow a number
abbrev pub Separates : List ℕ → Type 0
Separates [] = Unit {0}
Separates (b ∷ s) = IsSeparator b

-- a separator is another byte than each of a number
pub separator_is_not : (b n : ℕ) → IsSeparator b → (n ≡ 39) ⊎ ((n ≡ 46) ⊎ ((n ≡ 68) ⊎ (n ≡ 69))) → eqb b n ≡ false
separator_is_not b n h k = ne_eqb b n (λ e. omega arith)

-- a separator is no digit
not_digit : (b : ℕ) → IsSeparator b → is_digit b ≡ false
not_digit b (inl e) = rw e refl
not_digit b (inr (inl e)) = rw e refl
not_digit b (inr (inr (inl e))) = rw e refl
not_digit b (inr (inr (inr e))) = rw e refl

-- a separator is no letter of an exponent
not_letter : (b : ℕ) → IsSeparator b → is_exponent_letter b ≡ false
not_letter b h = or_from _ _ (separator_is_not b 69 h (inr (inr (inr refl)))) (separator_is_not b 68 h (inr (inr (inl refl))))

-- what separates begins with no digit
pub separated_digit : (s : List ℕ) → Separates s → Stops is_digit s
separated_digit [] h = tt
separated_digit (b ∷ s) h = not_digit b h

-- with no point
pub separated_point : (s : List ℕ) → Separates s → ([] ≡ fraction_digits s) × (s ≡ after_fraction s)
separated_point [] h = (refl, refl)
separated_point (b ∷ s) h =
    let e = separator_is_not b 46 h (inr (inl refl)) in
    (sym (cond-false (eqb b 46) _ _ e), sym (cond-false (eqb b 46) _ _ e))

-- and with no exponent
pub separated_exponent : (s : List ℕ) → Separates s → s ≡ after_exponent s
separated_exponent [] h = refl
separated_exponent (b ∷ s) h = sym (cond-false (begins_exponent b s) _ _ (and_left _ _ (not_letter b h)))
