use Rattle.std.proofs.Common.{◌≡◌, ◌*◌, arith, refl, ap}
use Rattle.fits_plane.specs.Rectangle.{place, row_size}
use Rattle.fits_plane.proofs.RowLemmas.{row_of, rectangle_size-le-product}
use Rattle.fits_plane.proofs.rectangle.row_start.Goals as goal

pub overflow_mul-row : goal.overflow_mul-row
overflow_mul-row c =
    let w = row_of c.args.axes.now c.args.lo.now c.args.hi.now c.args.row _ c.requires.rectangle c.requires.within refl in
    let e : c.args.row * c.row_len.result ≡ c.args.row * row_size c.args.lo.now c.args.hi.now = ap (λ n. c.args.row * n) c.row_len.ensures.value in
    record { fits = omega (arith, e, w.number_lt 0 w.some, rectangle_size-le-product c.args.axes.now c.args.lo.now c.args.hi.now c.requires.rectangle, c.requires.small) }

pub place_of-requires-clause-within : goal.place_of-requires-clause-within
place_of-requires-clause-within c =
    let w = row_of c.args.axes.now c.args.lo.now c.args.hi.now c.args.row _ c.requires.rectangle c.requires.within refl in
    let e : c.args.row * c.row_len.result ≡ c.args.row * row_size c.args.lo.now c.args.hi.now = ap (λ n. c.args.row * n) c.row_len.ensures.value in
    omega (arith, e, w.number_lt 0 w.some)

pub returns-clause-within : goal.returns-clause-within
returns-clause-within c =
    let w = row_of c.args.axes.now c.args.lo.now c.args.hi.now c.args.row _ c.requires.rectangle c.requires.within refl in
    let e : place c.args.axes.now c.args.lo.now c.args.hi.now (c.args.row * c.row_len.result) ≡ place c.args.axes.now c.args.lo.now c.args.hi.now (c.args.row * row_size c.args.lo.now c.args.hi.now)
    = ap (λ n. place c.args.axes.now c.args.lo.now c.args.hi.now (c.args.row * n)) c.row_len.ensures.value in
    omega (arith, w.room, c.place_of.ensures, e)
