use Rattle.std.proofs.Common.{arith, ◌≡◌, ◌*◌, ◌∙◌, Bool, List, ℕ, None, false, ap, get_or, length}
use Rattle.fits_pieces.specs.Blocks.{stale_count}
use Rattle.fits_pieces.proofs.PaintedLemmas.{each_place, held_same, pieces_painted, some-rescanned, unit_painted}
use Rattle.fits_pieces.proofs.PaintingLemmas.{some-repainted}
use Rattle.fits_pieces.proofs.painting.paint_pieces.Goals as goal

-- what is kept of the pieces is right again
pub returns-clause-are : goal.returns-clause-are
returns-clause-are c =
    let e = c.renew_leaves.ensures in
    let passed : List ℕ = c.args.gone.now.bytes in
    let marks : List Bool = c.rescan_pieces.new.marks.items in
    let seen : c.as_slice.result.now ≡ marks = c.as_slice.ensures.value in
    pieces_painted c.args.layout passed (length passed) c.args.pieces.now.items c.paint_rows.new.pieces.items c.rescan_pieces.new.pieces.items marks c.args.tree.now.leaves c.renew_leaves.new.tree.leaves
    c.requires.are c.paint_rows.ensures.cut c.paint_rows.ensures.repainted c.rescan_pieces.ensures e.long
    (λ j it marked is. e.made j it (ap (λ ms. get_or ms j false) seen ∙ marked) is)
    (λ j not_marked. e.kept j (ap (λ ms. get_or ms j false) seen ∙ not_marked))

-- the unit is painted, and nothing else
pub returns-clause-painted : goal.returns-clause-painted
returns-clause-painted c = λ scans.
    let r = c.requires in
    let e = c.renew_leaves.ensures in
    let passed : List ℕ = c.args.gone.now.bytes in
    let marks : List Bool = c.rescan_pieces.new.marks.items in
    let count : stale_count c.as_slice.result.now ≡ stale_count marks = ap stale_count c.as_slice.ensures.value in
    unit_painted c.args.layout passed c.args.painting.now scans c.args.tree.now.joins c.renew_leaves.new.tree.joins c.args.pieces.now.items c.paint_rows.new.pieces.items c.rescan_pieces.new.pieces.items marks
    r.suits r.are.cut c.paint_rows.ensures.cut c.paint_rows.ensures.written c.paint_rows.ensures.repainted c.paint_rows.ensures.stale c.rescan_pieces.ensures e.more
    (λ d h. omega (arith, e.few d (omega (arith, h, r.are.whole)), ap (λ n. n * d) count))
    (λ d h. e.most d (omega (arith, h, r.are.whole)))

-- the same pieces are in memory
pub returns-clause-held : goal.returns-clause-held
returns-clause-held c =
    let first = c.args.pieces.now.items in
    let old = c.paint_rows.new.pieces.items in
    let new = c.rescan_pieces.new.pieces.items in
    let marks = c.rescan_pieces.new.marks.items in
    let s = c.rescan_pieces.ensures in
    let u = c.paint_rows.ensures.repainted in
    held_same first new (s.long ∙ u.long) (λ j. some-rescanned (get_or old j None) (get_or new j None) (get_or marks j false) (each_place old new marks s j) ∙ some-repainted (get_or first j None) (get_or old j None) (u.each j))
