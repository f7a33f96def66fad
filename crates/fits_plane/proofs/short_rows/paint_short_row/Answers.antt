use Rattle.std.proofs.Common.{◌≡◌, ◌*◌, ◌+◌, ◌-◌, ◌/◌, ℕ, ap, arith, inl, inr, refl, rules, subst}
use Rattle.fits_plane.specs.Painting.{number_of}
use Rattle.fits_plane.specs.ShortRows.{RowWritten}
use Rattle.fits_plane.specs.Tree.{nodes_left}
use Rattle.fits_plane.proofs.PowerLemmas.{most_above_le}
use Rattle.fits_plane.proofs.ShortRowLemmas.{row_joined, can_paint, can_paint_first, row_blocks}
use Rattle.fits_plane.proofs.short_rows.paint_short_row.Goals as goal

-- the first block's pixels
pub paint_part-place-requires-clause-paint : goal.paint_part-place-requires-clause-paint
paint_part-place-requires-clause-paint c =
    can_paint_first c.args.layout.width c.args.painting.now c.args.rank c.args.count c.min-here.result c.requires.paint (omega (arith, c.min-here.ensures))

-- and the second's
pub paint_part-requires-clause-paint : goal.paint_part-requires-clause-paint
paint_part-requires-clause-paint c =
    can_paint c.args.layout.width c.args.painting.now c.args.rank c.args.count c.min-here.result (c.args.count - c.min-here.result) c.requires.paint (omega (arith, c.if-here-count.true))

-- Said, so that a body that breaks it is refused at once.
pub paint_part-requires-clause-high : goal.paint_part-requires-clause-high
paint_part-requires-clause-high c = search rules

pub returns-then-here-count-clause-scans : goal.returns-then-here-count-clause-scans
returns-then-here-count-clause-scans c =
    let first = c.paint_part-place.ensures.scans in
    let second = c.paint_part.ensures.scans in
    elim (row_blocks c.args.layout.width c.pixels_per_block-per.result c.args.start c.args.count c.min-here.result c.requires.width c.pixels_per_block-per.ensures c.requires.some c.requires.short c.min-here.ensures) [
      | inl one ↦ absurd (omega (arith, one.all, c.if-here-count.true))
      | inr two ↦ omega (arith, two.blocks, first, second)
    ]

pub returns-else-here-count-clause-scans : goal.returns-else-here-count-clause-scans
returns-else-here-count-clause-scans c =
    let first = c.paint_part-place.ensures.scans in
    elim (row_blocks c.args.layout.width c.pixels_per_block-per.result c.args.start c.args.count c.min-here.result c.requires.width c.pixels_per_block-per.ensures c.requires.some c.requires.short c.min-here.ensures) [
      | inl one ↦ omega (arith, one.blocks, first)
      | inr two ↦ absurd (omega (arith, two.less, c.if-here-count.false))
    ]

-- both runs are the row
pub returns-then-here-count-clause-written : goal.returns-then-here-count-clause-written
returns-then-here-count-clause-written c =
    let per : ℕ = c.pixels_per_block-per.result in
    let here : ℕ = c.min-here.result in
    let next : ℕ = (c.args.start / per + 1) * per in
    let cut : c.args.start + here ≡ next = elim (row_blocks c.args.layout.width c.pixels_per_block-per.result c.args.start c.args.count c.min-here.result c.requires.width c.pixels_per_block-per.ensures c.requires.some c.requires.short c.min-here.ensures) [
      | inl one ↦ absurd (omega (arith, one.all, c.if-here-count.true))
      | inr two ↦ two.cut
    ] in
    row_joined c.args.layout.width c.args.start c.args.count here next (c.args.count - here) c.args.rank (number_of c.args.painting.now) c.args.store.now.bytes c.paint_part-place.new.store.bytes c.paint_part.new.store.bytes
    (omega (arith, c.if-here-count.true)) cut refl c.paint_part-place.ensures.written c.paint_part.ensures.written

-- the one run is the row
pub returns-else-here-count-clause-written : goal.returns-else-here-count-clause-written
returns-else-here-count-clause-written c =
    let all : c.min-here.result ≡ c.args.count = omega (arith, c.min-here.ensures, c.if-here-count.false) in
    subst (λ n. RowWritten c.args.layout.width c.args.start n (λ x. number_of c.args.painting.now (c.args.rank + x)) c.args.store.now.bytes c.paint_part-place.new.store.bytes) all c.paint_part-place.ensures.written

-- the last leaf is that of the row's last block
pub returns-then-here-count-clause-place : goal.returns-then-here-count-clause-place
returns-then-here-count-clause-place c =
    let k = ap (λ per. c.args.start / per) c.pixels_per_block-per.ensures in
    elim (row_blocks c.args.layout.width c.pixels_per_block-per.result c.args.start c.args.count c.min-here.result c.requires.width c.pixels_per_block-per.ensures c.requires.some c.requires.short c.min-here.ensures) [
      | inl one ↦ absurd (omega (arith, one.all, c.if-here-count.true))
      | inr two ↦ omega (arith, two.blocks, k, c.paint_part.ensures.place)
    ]

pub returns-else-here-count-clause-place : goal.returns-else-here-count-clause-place
returns-else-here-count-clause-place c =
    let k = ap (λ per. c.args.start / per) c.pixels_per_block-per.ensures in
    elim (row_blocks c.args.layout.width c.pixels_per_block-per.result c.args.start c.args.count c.min-here.result c.requires.width c.pixels_per_block-per.ensures c.requires.some c.requires.short c.min-here.ensures) [
      | inl one ↦ omega (arith, one.blocks, k, c.paint_part-place.ensures.place)
      | inr two ↦ absurd (omega (arith, two.less, c.if-here-count.false))
    ]

-- as many paths are joined as blocks are looked at
pub returns-then-here-count-clause-few : goal.returns-then-here-count-clause-few
returns-then-here-count-clause-few c = λ d u.
    let first = c.paint_part-place.ensures in
    let second = c.paint_part.ensures in
    let two : c.paint_part.new.store.scans - c.args.store.now.scans ≡ 2 = omega (arith, first.scans, second.scans) in
    let all = ap (λ n. n * d) two in
    omega (arith, all, first.few d u, second.few d u, most_above_le d c.paint_part-place.result, most_above_le d c.paint_part.result)

pub returns-else-here-count-clause-few : goal.returns-else-here-count-clause-few
returns-else-here-count-clause-few c = λ d u.
    let first = c.paint_part-place.ensures in
    let one : c.paint_part-place.new.store.scans - c.args.store.now.scans ≡ 1 = omega (arith, first.scans) in
    let all = ap (λ n. n * d) one in
    omega (arith, all, first.few d u, most_above_le d c.paint_part-place.result)

-- what is joined stands left of the last path
pub returns-then-here-count-clause-left : goal.returns-then-here-count-clause-left
returns-then-here-count-clause-left c = λ h p o.
    let n : ℕ = c.args.width in
    let k : ℕ = c.args.start / c.pixels_per_block-per.result in
    let block = ap (λ per. c.args.start / per) c.pixels_per_block-per.ensures in
    let first = c.paint_part-place.ensures in
    let second = c.paint_part.ensures in
    let mid : c.paint_part-place.result - n ≡ k = omega (arith, first.place) in
    let end : c.paint_part.result - n ≡ k + 1 = omega (arith, second.place) in
    omega (arith, ap (nodes_left h) mid, ap (nodes_left h) end, first.left h p (omega (arith, first.place, block, o)), second.left h p (omega (arith, first.place, second.place)))

pub returns-else-here-count-clause-left : goal.returns-else-here-count-clause-left
returns-else-here-count-clause-left c = λ h p o.
    let k : ℕ = c.args.start / c.pixels_per_block-per.result in
    let block = ap (λ per. c.args.start / per) c.pixels_per_block-per.ensures in
    let first = c.paint_part-place.ensures in
    let end : c.paint_part-place.result - c.args.width ≡ k = omega (arith, first.place) in
    omega (arith, ap (nodes_left h) end, first.left h p (omega (arith, first.place, block, o)))
