-- The library's days are those of the calendar.
use Rattle.std.proofs.Common.{rules, ◌≡◌, ℕ, zero, suc, ◌-◌, ◌≤◌, Bool, true, false, ◌&&◌, ◌||◌, ◌==◌, cond, nat_le, slice_get, unwrap_or, inl, inr, refl, sym, ◌∙◌, subst, arith}
use Rattle.std.specs.Prelude.{pos, IsTrue, ◌↔◌}
use Rattle.std.proofs.lemmas.Bool.{cases_Bool}
use Rattle.std.proofs.lemmas.Bool.Decides.{nat_tests}
use Rattle.std.proofs.lemmas.Int.{ints}
use Rattle.jiff.specs.Words.{IsDate, days_in_month}
use Rattle.fits_codes.specs.Calendar.{is_leap_year, month_lengths, month_length, is_calendar_day}

-- the table of months has the months' lengths
lengths_same : (is_leap : Bool) (m : ℕ) → 1 ≤ m → m ≤ 12
    → unwrap_or (slice_get (month_lengths is_leap) (m - 1)) 0 ≡ cond (m == 2) (cond is_leap 29 28) (cond ((m == 4) || (m == 6) || (m == 9) || (m == 11)) 30 31)
lengths_same is_leap zero low high = absurd (omega arith)
lengths_same is_leap (suc zero) low high = refl
lengths_same is_leap (suc (suc zero)) low high = refl
lengths_same is_leap (suc (suc (suc zero))) low high = refl
lengths_same is_leap (suc (suc (suc (suc zero)))) low high = refl
lengths_same is_leap (suc (suc (suc (suc (suc zero))))) low high = refl
lengths_same is_leap (suc (suc (suc (suc (suc (suc zero)))))) low high = refl
lengths_same is_leap (suc (suc (suc (suc (suc (suc (suc zero))))))) low high = refl
lengths_same is_leap (suc (suc (suc (suc (suc (suc (suc (suc zero)))))))) low high = refl
lengths_same is_leap (suc (suc (suc (suc (suc (suc (suc (suc (suc zero))))))))) low high = refl
lengths_same is_leap (suc (suc (suc (suc (suc (suc (suc (suc (suc (suc zero)))))))))) low high = refl
lengths_same is_leap (suc (suc (suc (suc (suc (suc (suc (suc (suc (suc (suc zero))))))))))) low high = refl
lengths_same is_leap (suc (suc (suc (suc (suc (suc (suc (suc (suc (suc (suc (suc zero)))))))))))) low high = refl
lengths_same is_leap (suc (suc (suc (suc (suc (suc (suc (suc (suc (suc (suc (suc (suc m))))))))))))) low high = absurd (omega arith)

-- a month's length is the library's
length_same : (y m : ℕ) → 1 ≤ m → m ≤ 12 → month_length y m ≡ days_in_month (pos y) m
length_same y m low high = lengths_same (is_leap_year y) m low high

-- five tests that hold
tests_hold : (y m d n : ℕ) → y ≤ 9999 → 1 ≤ m → m ≤ 12 → 1 ≤ d → d ≤ n → (nat_le y 9999 && nat_le 1 m && nat_le m 12 && nat_le 1 d && nat_le d n) ≡ true
tests_hold y m d n a b c e f = grind (arith, nat_tests)

-- and what they say
pub record FiveHold (y m d n : ℕ) : Type 0 where
  pub year : y ≤ 9999
  pub month_from : 1 ≤ m
  pub month_to : m ≤ 12
  pub day_from : 1 ≤ d
  pub day_to : d ≤ n

-- where they hold
tests_say : (y m d n : ℕ) → (nat_le y 9999 && nat_le 1 m && nat_le m 12 && nat_le 1 d && nat_le d n) ≡ true → FiveHold y m d n
tests_say y m d n e = record { year = grind (arith, nat_tests); month_from = grind (arith, nat_tests); month_to = grind (arith, nat_tests); day_from = grind (arith, nat_tests); day_to = grind (arith, nat_tests) }

-- the numbers of the table are small
table_small : (two leap thirty : Bool) → cond two (cond leap 29 28) (cond thirty 30 31) ≤ 31
table_small true true thirty = omega arith
table_small true false thirty = omega arith
table_small false leap true = omega arith
table_small false leap false = omega arith

-- no month is longer than 31 days
short_months : (is_leap : Bool) (m : ℕ) → 1 ≤ m → m ≤ 12 → unwrap_or (slice_get (month_lengths is_leap) (m - 1)) 0 ≤ 31
short_months is_leap m low high = subst (λ (n : ℕ). n ≤ 31) (sym (lengths_same is_leap m low high)) (table_small (m == 2) is_leap ((m == 4) || (m == 6) || (m == 9) || (m == 11)))

-- a day of the calendar is small
day_small : (y m d : ℕ) → is_calendar_day y m d ≡ true → (y ≤ 9999) × (m ≤ 12) × (d ≤ 31)
unfolding is_calendar_day
day_small y m d e =
    let h = tests_say y m d (month_length y m) e in
    let short : month_length y m ≤ 31 = short_months (is_leap_year y) m h.month_from h.month_to in
    (h.year, h.month_to, omega arith)

-- so one that is large isn't one
pub day_large : (y m d : ℕ) → (y ≤ 9999 → m ≤ 12 → d ≤ 31 → ⊥) → false ≡ is_calendar_day y m d
day_large y m d large = elim (cases_Bool (is_calendar_day y m d)) [
  | inl is ↦ absurd (let h = day_small y m d is in large h.0 h.1 h.2)
  | inr other ↦ sym other
]

-- the library has a day of the calendar
day_there : (y m d : ℕ) → is_calendar_day y m d ≡ true → IsDate (pos y) (pos m) (pos d)
unfolding is_calendar_day
day_there y m d e =
    let h = tests_say y m d (month_length y m) e in
    let same : month_length y m ≡ days_in_month (pos y) m = length_same y m h.month_from h.month_to in
    let day : d ≤ days_in_month (pos y) m = omega arith in
    ((search rules, search rules), (search rules, search rules), (search rules, search rules))

-- the calendar has the library's day
day_is : (y m d : ℕ) → y ≤ 9999 → IsDate (pos y) (pos m) (pos d) → is_calendar_day y m d ≡ true
unfolding is_calendar_day
day_is y m d year h =
    let low : 1 ≤ m = omega (arith, ints, h.1.0) in
    let high : m ≤ 12 = omega (arith, ints, h.1.1) in
    let first : 1 ≤ d = omega (arith, ints, h.2.0) in
    let last : d ≤ days_in_month (pos y) m = omega (arith, ints, h.2.1) in
    let same : month_length y m ≡ days_in_month (pos y) m = length_same y m low high in
    tests_hold y m d (month_length y m) year low high first (omega arith)

-- so its test is the calendar's
pub day_same : (y m d : ℕ) (b : Bool) → y ≤ 9999 → IsTrue b ↔ IsDate (pos y) (pos m) (pos d) → b ≡ is_calendar_day y m d
day_same y m d true year h = sym (day_is y m d year (h.0 refl))
day_same y m d false year h = elim (cases_Bool (is_calendar_day y m d)) [
  | inl is ↦ h.1 (day_there y m d is) ∙ sym is
  | inr other ↦ sym other
]
