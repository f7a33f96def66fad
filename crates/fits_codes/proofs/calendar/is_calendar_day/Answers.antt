use Rattle.std.proofs.Common.{arith}
use Rattle.fits_codes.proofs.CalendarLemmas.{day_large, day_same}
use Rattle.fits_codes.proofs.calendar.is_calendar_day.Goals as goal

pub returns-then-year-gt9999 : goal.returns-then-year-gt9999
returns-then-year-gt9999 c = day_large c.args.year c.args.month c.args.day (λ year month day. omega (arith, c.then-year-gt9999.either))

pub returns : goal.returns
returns c = day_same c.args.year c.args.month c.args.day c.has_day.result c.if-year-gt9999.false c.has_day.ensures
