use Rattle.std.proofs.Common.{◌≡◌, ◌≤◌, ◌+◌, ◌-◌, ◌/◌, max, ◌<◌, ◌*◌, ℕ, List, drop, get_or, length, refl, arith, ap, inl, inr, sym, subst, ◌∙◌}
use Rattle.std.proofs.Math.Nat.{mul-le-mul_left}
use Rattle.fits_pixels.specs.Layout.{block_count, block_pixels}
use Rattle.fits_pixels.proofs.LayoutLemmas.{block_pixels_some, layout_room, layout_small}
use Rattle.fits_plane.specs.Rectangle.{product, row_size, row_count}
use Rattle.fits_plane.specs.Tree.{most_above}
use Rattle.fits_plane.specs.Leaves.{leaf_unit, IsLeaf}
use Rattle.fits_plane.proofs.RowLemmas.{row_of, rectangle_size-rows}
use Rattle.fits_plane.proofs.BlockLemmas.{walk_begun, walk_more, walk_all, walk_work, joins_more, stop_room}
use Rattle.fits_plane.proofs.JoinLemmas.{tree_begun, tree_done}
use Rattle.fits_plane.proofs.PaintLemmas.{few_pixels}
use Rattle.fits_plane.proofs.PathLemmas.{all_left}
use Rattle.fits_plane.proofs.PowerLemmas.{least_power, most_above_le, power_some}
use Rattle.fits_plane.proofs.StoreLemmas.{fits_scanned, leaf_scanned, same_bytes, scanned_again}
use Rattle.fits_plane.proofs.leaves.refresh_rows.Goals as goal

pub loop-row-preserved : goal.loop-row-preserved
loop-row-preserved c =
    let axes : List ℕ = c.args.painting.now.axes.now in
    let lo : List ℕ = c.args.painting.now.lo.now in
    let hi : List ℕ = c.args.painting.now.hi.now in
    let per : ℕ = block_pixels c.args.layout.width in
    let n : ℕ = c.args.width in
    let blocks : ℕ = block_count c.args.store.now.bytes in
    let first : ℕ = c.row_start-first.result in
    let some = block_pixels_some c.args.layout.width c.requires.suits.width in
    let room = layout_room c.args.layout c.args.store.now.bytes blocks c.requires.layout (omega (arith, c.requires.layout.whole)) in
    let w = row_of axes lo hi c.loop-row.row first c.requires.suits.rectangle (omega (arith, c.loop-row-test.true, c.rows-row-end.ensures)) c.row_start-first.ensures.value in
    let v = c.loop-row.invariant in
    let e = c.refresh_blocks-last.ensures in
    let stop : ℕ = (first + c.row_len-side.result - 1) / c.pixels_per_block-per.result + 1 in
    let start_is = c.max-start.ensures ∙ ap (λ p. max (first / p) c.loop-row.next) c.pixels_per_block-per.ensures in
    let stop_is : stop ≡ (first + row_size lo hi - 1) / per + 1
    = ap (λ p. (first + c.row_len-side.result - 1) / p + 1) c.pixels_per_block-per.ensures ∙ ap (λ s. (first + s - 1) / per + 1) c.row_len-side.ensures.value in
    let more : c.refresh_blocks-last.new.store.scans - c.args.store.now.scans ≡ (c.loop-row.store.scans - c.args.store.now.scans) + (stop - c.max-start.result) = omega (arith, e.work, v.more_work) in
    let walk = walk_more axes lo hi (row_size lo hi) per c.args.layout.pixels blocks c.loop-row.row first c.loop-row.next c.max-start.result stop c.max-next.result _ _
    (IsLeaf c.args.layout c.args.store.now.bytes (drop n c.loop-row.nodes)) (IsLeaf c.args.layout c.args.store.now.bytes (drop n c.refresh_blocks-last.new.nodes))
    c.requires.suits.rectangle c.requires.suits.all some room w v.walk start_is stop_is c.max-next.ensures more (λ k p q. e.made k p q ∙ leaf_scanned c.args.layout k c.args.store.now c.loop-row.store v.same) (λ k away r. e.kept k away ∙ r) in
    record {
      tree = e.tree;
      leaf = e.leaf;
      order = omega (arith, e.order, v.order, c.max-next.ensures);
      walk = walk;
      units = λ k b. e.kept k (inr (omega (arith, b, walk.limit, c.max-next.ensures))) ∙ v.units k b;
      same = scanned_again c.args.store.now c.loop-row.store c.refresh_blocks-last.new.store c.refresh_blocks-last.new.store.scans v.same e.same;
      more_work = omega (arith, e.work, v.more_work);
      more = omega (arith, e.more, v.more);
      few = λ d u. joins_more (c.loop-row.store.scans - c.args.store.now.scans) (stop - c.max-start.result) _ d c.args.joins.now.total (c.loop-row.joins.total + most_above d c.loop-row.last) (c.refresh_blocks-last.new.joins.total + most_above d c.refresh_blocks-last.result)
          more (v.few d u) (e.few d u);
      most = λ h p. omega (arith, v.most h p, e.left h p (omega (arith, v.order, c.max-start.ensures)));
    }

pub returns-clause-right : goal.returns-clause-right
returns-clause-right c =
    let axes : List ℕ = c.args.painting.now.axes.now in
    let lo : List ℕ = c.args.painting.now.lo.now in
    let hi : List ℕ = c.args.painting.now.hi.now in
    let blocks : ℕ = block_count c.args.store.now.bytes in
    let v = c.loop-row.invariant in
    let some = block_pixels_some c.args.layout.width c.requires.suits.width in
    let done : row_count lo hi ≤ c.loop-row.row = omega (arith, c.loop-row-test.false, c.rows-row-end.ensures) in
    let all = mul-le-mul_left (row_size lo hi) done in
    λ k b. ap (λ ls. get_or ls k leaf_unit) c.climb.ensures.leaves ∙ walk_all axes lo hi (row_size lo hi) (block_pixels c.args.layout.width) c.args.layout.pixels blocks c.loop-row.row c.loop-row.next _ _ c.requires.suits.rectangle c.requires.suits.all some v.walk
    (omega (arith, all, rectangle_size-rows lo hi)) k b

-- the last leaf's path is joined up to the root
pub returns-clause-tree : goal.returns-clause-tree
returns-clause-tree c = tree_done c.args.width c.climb.new.nodes c.climb.ensures.tree

pub returns-clause-units : goal.returns-clause-units
returns-clause-units c = λ k b. ap (λ ls. get_or ls k leaf_unit) c.climb.ensures.leaves ∙ c.loop-row.invariant.units k b

pub returns-clause-few : goal.returns-clause-few
returns-clause-few c = λ d u.
    let p = c.requires.power in
    let few = least_power p.depth c.args.width _ d p.power p.least u in
    omega (arith, c.climb.ensures.few d few, c.loop-row.invariant.few d few)

-- all nodes that were joined stand left of the last path, or on it
pub returns-clause-most : goal.returns-clause-most
returns-clause-most c = λ d u.
    let p = c.requires.power in
    let v = c.loop-row.invariant in
    let few = least_power p.depth c.args.width _ d p.power p.least u in
    let all = all_left p.depth (c.loop-row.last - c.args.width) (omega (arith, p.power, v.tree.within)) in
    omega (arith, few, p.power, all, v.most p.depth p.power, c.climb.ensures.few p.depth (omega (arith, p.power)), most_above_le p.depth c.loop-row.last)

pub returns-clause-work : goal.returns-clause-work
returns-clause-work c =
    let w = walk_work _ _ _ _ _ _ _ _ _ _ _ c.loop-row.invariant.walk in
    omega (arith, w, c.loop-row.invariant.more_work)

-- a row ends within the blocks
pub refresh_blocks-last-requires-clause-blocks : goal.refresh_blocks-last-requires-clause-blocks
refresh_blocks-last-requires-clause-blocks c =
    let blocks : ℕ = block_count c.args.store.now.bytes in
    let w : ℕ = c.args.layout.width in
    let some = subst (λ per. 0 < per) (sym c.pixels_per_block-per.ensures) (block_pixels_some w c.requires.suits.width) in
    let room = subst (λ per. c.args.layout.pixels ≤ blocks * per) (sym c.pixels_per_block-per.ensures) (layout_room c.args.layout c.args.store.now.bytes blocks c.requires.layout (omega (arith, c.requires.layout.whole))) in
    rw (same_bytes c.args.store.now c.loop-row.store c.loop-row.invariant.same) (stop_room c.row_start-first.result c.row_len-side.result (row_size c.args.painting.now.lo.now c.args.painting.now.hi.now) c.pixels_per_block-per.result (product c.args.painting.now.axes.now) c.args.layout.pixels blocks some c.row_len-side.ensures.value c.row_len-side.ensures.some c.row_start-first.ensures.within c.requires.suits.all room)

-- a block holds a pixel
pub nonzero_div-first : goal.nonzero_div-first
nonzero_div-first c = subst (λ per. 0 < per) (sym c.pixels_per_block-per.ensures) (block_pixels_some c.args.layout.width c.requires.suits.width)

-- a block holds a pixel
pub nonzero_div-stop : goal.nonzero_div-stop
nonzero_div-stop c = subst (λ per. 0 < per) (sym c.pixels_per_block-per.ensures) (block_pixels_some c.args.layout.width c.requires.suits.width)

-- a row ends within the image
pub overflow_add-stop : goal.overflow_add-stop
overflow_add-stop c =
    record { fits = omega (arith, c.row_start-first.ensures.within, c.row_len-side.ensures.value, c.requires.suits.all, layout_small c.args.layout c.args.store.now.bytes c.requires.layout, c.requires.layout.limit) }

-- no row is walked over yet
pub loop-row-init : goal.loop-row-init
loop-row-init c = record {
  tree = tree_begun c.args.width c.args.nodes.now (power_some _ _ c.requires.power) c.requires.tree;
  walk = walk_begun _ _ _ _ _ _ _ _ _ (omega arith) c.requires.fresh;
  units = λ k b. refl;
  same = refl;
  more_work = omega arith;
  more = omega arith;
  leaf = inl refl;
  order = omega (arith, power_some _ _ c.requires.power);
  few = λ d u. omega arith;
  most = λ h p. omega arith;
}

-- an image has no more pixels than bytes
pub row_len-side-requires-clause-small : goal.row_len-side-requires-clause-small
row_len-side-requires-clause-small c = few_pixels c.args.layout c.args.store.now.bytes c.args.painting.now c.requires.layout c.requires.suits

pub rows-row-end-requires-clause-small : goal.rows-row-end-requires-clause-small
rows-row-end-requires-clause-small c = few_pixels c.args.layout c.args.store.now.bytes c.args.painting.now c.requires.layout c.requires.suits

pub row_start-first-requires-clause-small : goal.row_start-first-requires-clause-small
row_start-first-requires-clause-small c = few_pixels c.args.layout c.args.store.now.bytes c.args.painting.now c.requires.layout c.requires.suits

pub refresh_blocks-last-requires-clause-layout : goal.refresh_blocks-last-requires-clause-layout
refresh_blocks-last-requires-clause-layout c = fits_scanned c.args.layout c.args.store.now c.loop-row.store c.loop-row.invariant.same c.requires.layout

pub refresh_blocks-last-requires-clause-within : goal.refresh_blocks-last-requires-clause-within
refresh_blocks-last-requires-clause-within c = omega (arith, ap length (same_bytes c.args.store.now c.loop-row.store c.loop-row.invariant.same), c.requires.power.enough)
