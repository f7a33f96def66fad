use Rattle.std.proofs.Common.{◌∙◌, arith, sym}
use Rattle.fits_plane.proofs.RowLemmas.{first_axis}
use Rattle.fits_plane.proofs.rectangle.row_len.Goals as goal

pub bounds-hi-0 : goal.bounds-hi-0
bounds-hi-0 c =
    let f = first_axis c.args.axes.now c.args.lo.now c.args.hi.now c.requires.rectangle (sym c.is_empty.ensures ∙ c.if-is_empty.false) in
    f.high

pub overflow_add-result : goal.overflow_add-result
overflow_add-result c =
    let f = first_axis c.args.axes.now c.args.lo.now c.args.hi.now c.requires.rectangle (sym c.is_empty.ensures ∙ c.if-is_empty.false) in
    record { fits = omega (arith, f.room, c.requires.small) }

pub bounds-lo-0 : goal.bounds-lo-0
bounds-lo-0 c =
    let f = first_axis c.args.axes.now c.args.lo.now c.args.hi.now c.requires.rectangle (sym c.is_empty.ensures ∙ c.if-is_empty.false) in
    f.low

pub overflow_sub-result : goal.overflow_sub-result
overflow_sub-result c =
    let f = first_axis c.args.axes.now c.args.lo.now c.args.hi.now c.requires.rectangle (sym c.is_empty.ensures ∙ c.if-is_empty.false) in
    omega (arith, f.side)

pub returns-else-is_empty-clause-value : goal.returns-else-is_empty-clause-value
returns-else-is_empty-clause-value c =
    let f = first_axis c.args.axes.now c.args.lo.now c.args.hi.now c.requires.rectangle (sym c.is_empty.ensures ∙ c.if-is_empty.false) in
    sym f.is

pub returns-else-is_empty-clause-some : goal.returns-else-is_empty-clause-some
returns-else-is_empty-clause-some c =
    let f = first_axis c.args.axes.now c.args.lo.now c.args.hi.now c.requires.rectangle (sym c.is_empty.ensures ∙ c.if-is_empty.false) in
    omega (arith, f.side)

pub returns-else-is_empty-clause-within : goal.returns-else-is_empty-clause-within
returns-else-is_empty-clause-within c =
    let f = first_axis c.args.axes.now c.args.lo.now c.args.hi.now c.requires.rectangle (sym c.is_empty.ensures ∙ c.if-is_empty.false) in
    omega (arith, f.room, f.some)
