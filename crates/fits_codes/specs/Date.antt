-- Dates as texts (FITS Standard 4.0, sections 4.4.2.1, 4.4.2.2 and 9.1.1).
use Rattle.std.specs.Prelude.{ℕ, ◌+◌, ◌==◌, Bool, true, false, ◌&&◌, ◌||◌, not, nat_lt, nat_le, List, [], ◌∷◌, length, take, drop, codes, if◌then◌else◌}
use Rattle.std.specs.List.{list_all, slice_range}
use Rattle.std.specs.Str.{bytes_eq}
use Rattle.fits_value.specs.Characters.{is_digit, is_sign}
use Rattle.fits_value.specs.Number.{value_of}
use Rattle.fits_codes.specs.Calendar.{is_calendar_day}

-- a byte stands where a layout has a place: 0 in a layout is any digit, every other character is itself
abbrev pub fits_place : ℕ → ℕ → Bool
fits_place place byte = if place == 48 then is_digit byte else byte == place

-- the text has this layout
abbrev pub follows : List ℕ → List ℕ → Bool
follows [] [] = true
follows (place ∷ layout) (byte ∷ text) = fits_place place byte && follows layout text
follows layout text = false

-- the number whose digits stand from one place to another, counted from 0
abbrev pub number_at : List ℕ → ℕ → ℕ → ℕ
number_at text from to = value_of (slice_range text from to)

-- CCYY-MM-DD (9.1.1)
unfoldable pub is_day_text : List ℕ → Bool
is_day_text text = follows (codes "0000-00-00") text && is_calendar_day (number_at text 0 4) (number_at text 5 7) (number_at text 8 10)

-- DD/MM/YY, of the years 1900 to 1999 (4.4.2.1, 4.4.2.2)
unfoldable pub is_old_day_text : List ℕ → Bool
is_old_day_text text = follows (codes "00/00/00") text && is_calendar_day (1900 + number_at text 6 8) (number_at text 3 5) (number_at text 0 2)

-- hh:mm:ss; a minute may have a leap second (9.1.1)
unfoldable pub is_clock_text : List ℕ → Bool
is_clock_text text = follows (codes "00:00:00") text && nat_le (number_at text 0 2) 23 && nat_le (number_at text 3 5) 59 && nat_le (number_at text 6 8) 60

-- nothing, or a point and at least one digit (9.1.1)
abbrev pub is_fraction : List ℕ → Bool
is_fraction [] = true
is_fraction (point ∷ digits) = (point == 46) && nat_lt 0 (length digits) && list_all is_digit digits

-- nothing, or T, a time of day and perhaps a fraction of a second (9.1.1)
abbrev pub is_time_part : List ℕ → Bool
is_time_part [] = true
is_time_part (letter ∷ time) = (letter == 84) && is_clock_text (take 8 time) && is_fraction (drop 8 time)

-- a date, or a date and a time (9.1.1)
unfoldable pub is_date : List ℕ → Bool
is_date text = is_old_day_text text || (is_day_text (take 10 text) && is_time_part (drop 10 text))

-- a date is looked for in this text: not in the null string, in one space, or in a year with a sign, of five digits (9.1.1, own)
unfoldable pub is_judged : List ℕ → Bool
is_judged [] = false
is_judged (first ∷ text) = not (is_sign first) && not (bytes_eq (first ∷ text) (codes " "))
