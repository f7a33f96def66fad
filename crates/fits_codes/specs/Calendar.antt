-- Days of the Gregorian calendar, in the years 0 to 9999 (FITS Standard 4.0, section 9.1.1).
use Rattle.std.specs.Prelude.{ℕ, ◌-◌, ◌%◌, ◌==◌, Bool, ◌&&◌, ◌||◌, not, nat_le, List, [], ◌∷◌, slice_get, unwrap_or, if◌then◌else◌}

-- every fourth year, but of the hundredths only every four-hundredth
abbrev pub is_leap_year : ℕ → Bool
is_leap_year year = (year % 4 == 0) && (not (year % 100 == 0) || (year % 400 == 0))

-- how many days the months have, January first
abbrev pub month_lengths : Bool → List ℕ
month_lengths is_leap = 31 ∷ (if is_leap then 29 else 28) ∷ 31 ∷ 30 ∷ 31 ∷ 30 ∷ 31 ∷ 31 ∷ 30 ∷ 31 ∷ 30 ∷ 31 ∷ []

-- how many days a month of a year has; months count from 1
abbrev pub month_length : ℕ → ℕ → ℕ
month_length year month = unwrap_or (slice_get (month_lengths (is_leap_year year)) (month - 1)) 0

-- the calendar has this day
unfoldable pub is_calendar_day : ℕ → ℕ → ℕ → Bool
is_calendar_day year month day =
    nat_le year 9999 && nat_le 1 month && nat_le month 12 && nat_le 1 day && nat_le day (month_length year month)
