-- Dates, names and places of the standard, computed (FITS Standard 4.0, sections 4.2.1.1, 4.2.3, 4.4.1.1 and 9.1.1).
use Rattle.std.proofs.Common.{◌≡◌, codes, true, false, refl, None, Some}
use Rattle.fits_codes.specs.Calendar.{is_calendar_day}
use Rattle.fits_codes.specs.Date.{is_date, is_day_text, is_old_day_text, is_clock_text}
use Rattle.fits_codes.specs.Keywords.{axis_number}

-- a leap second, with a fraction of it, on a leap day
leap_second_is_a_date : is_date (codes "2024-02-29T23:59:60.5") ≡ true
unfolding is_date is_day_text is_old_day_text is_clock_text is_calendar_day
leap_second_is_a_date = refl

-- 1900 was no leap year, and 2000 was one
leap_years_are_counted_in_hundreds : is_date (codes "29/02/00") ≡ false
unfolding is_date is_day_text is_old_day_text is_calendar_day
leap_years_are_counted_in_hundreds = refl

-- 2000 was one
leap_years_are_counted_in_four_hundreds : is_date (codes "2000-02-29") ≡ true
unfolding is_date is_day_text is_old_day_text is_calendar_day
leap_years_are_counted_in_four_hundreds = refl

-- February has 29 days at most
february_is_short : is_date (codes "2024-02-30") ≡ false
unfolding is_date is_day_text is_old_day_text is_calendar_day
february_is_short = refl

-- the most axes
last_axis_has_its_number : axis_number (codes "NAXIS999") ≡ Some 999
unfolding axis_number
last_axis_has_its_number = refl

-- no zeros stand before the number of an axis
axis_numbers_have_no_zeros : axis_number (codes "NAXIS01 ") ≡ None
unfolding axis_number
axis_numbers_have_no_zeros = refl
