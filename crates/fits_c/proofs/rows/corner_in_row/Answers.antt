use Rattle.std.proofs.Common.{◌+◌, ◌/◌, ◌%◌, ◌∙◌, ℕ, List, [], ◌∷◌, ◌++◌, get_or, drop, ap, sym}
use Rattle.std.proofs.lemmas.List.{append_assoc}
use Rattle.fits_c.specs.Rows.{row_place}
use Rattle.fits_c.proofs.AxisLemmas.{axis_at, place_more}
use Rattle.fits_c.proofs.rows.corner_in_row.Goals as goal

pub bounds-hi-i : goal.bounds-hi-i
bounds-hi-i c = (axis_at c.args.lo.now c.args.hi.now c.loop-i.i c.requires.lies c.loop-i-test.true).within

pub side-side-requires-clause-some : goal.side-side-requires-clause-some
side-side-requires-clause-some c = (axis_at c.args.lo.now c.args.hi.now c.loop-i.i c.requires.lies c.loop-i-test.true).some

pub side-side-requires-clause-ordered : goal.side-side-requires-clause-ordered
side-side-requires-clause-ordered c = (axis_at c.args.lo.now c.args.hi.now c.loop-i.i c.requires.lies c.loop-i-test.true).ordered

pub loop-i-preserved : goal.loop-i-preserved
loop-i-preserved c =
    let a = axis_at c.args.lo.now c.args.hi.now c.loop-i.i c.requires.lies c.loop-i-test.true in
    let more : List ℕ → List ℕ = λ xs. xs ++ row_place (drop (c.loop-i.i + 1) c.args.lo.now) (drop (c.loop-i.i + 1) c.args.hi.now) (c.loop-i.left / c.side-side.result) in
    ap more c.in_ok-push-2.ensures.items
    ∙ append_assoc c.loop-i.made.items (_ ∷ []) (row_place (drop (c.loop-i.i + 1) c.args.lo.now) (drop (c.loop-i.i + 1) c.args.hi.now) (c.loop-i.left / c.side-side.result))
    ∙ ap (λ n. c.loop-i.made.items ++ ((get_or c.args.lo.now c.loop-i.i 0 + c.loop-i.left % n) ∷ row_place (drop (c.loop-i.i + 1) c.args.lo.now) (drop (c.loop-i.i + 1) c.args.hi.now) (c.loop-i.left / n))) c.side-side.ensures.value
    ∙ ap (λ xs. c.loop-i.made.items ++ xs) (sym (place_more c.args.lo.now c.args.hi.now c.loop-i.i c.loop-i.left a))
    ∙ c.loop-i.invariant
