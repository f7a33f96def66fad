use Rattle.std.proofs.Common.{◌≡◌, ◌≤◌, ◌-◌, ◌/◌, ◌∙◌, ap, arith, refl, sym}
use Rattle.std.proofs.Math.Nat.{mul-le-mul_right}
use Rattle.fits_pixels.specs.Layout.{block_pixels}
use Rattle.fits_plane.specs.DataBytes.{DataState}
use Rattle.fits_plane.specs.Painting.{number_of}
use Rattle.fits_plane.specs.Work.{rectangle_blocks, touched_blocks}
use Rattle.fits_plane.proofs.LeafLemmas.{untouched_leaf}
use Rattle.fits_plane.proofs.PlaneLemmas.{layout_stays}
use Rattle.fits_plane.proofs.RectangleLemmas.{written_is}
use Rattle.fits_plane.proofs.StoreLemmas.{same_bytes}
use Rattle.fits_plane.proofs.painting.paint_and_scan.Goals as goal

-- the layout fits what is painted
pub refresh_rectangle-requires-clause-layout : goal.refresh_rectangle-requires-clause-layout
refresh_rectangle-requires-clause-layout c = layout_stays c.args.layout c.args.store.now.bytes c.paint_rows.new.self.bytes c.requires.kept.fits c.paint_rows.ensures.written.long

-- a block that holds no pixel of the rectangle is as it was
pub refresh_rectangle-requires-clause-fresh : goal.refresh_rectangle-requires-clause-fresh
refresh_rectangle-requires-clause-fresh c = λ k b e.
    let r = c.requires in
    let it = c.args.painting.now in
    r.kept.right k b ∙ sym (untouched_leaf c.args.layout it.axes.now it.lo.now it.hi.now _ c.args.store.now.bytes c.paint_rows.new.self.bytes k r.suits.width r.suits.all c.paint_rows.ensures.written e)

-- the rows make up the rectangle, and each block that holds a pixel of it is scanned once
pub returns-clause-painted : goal.returns-clause-painted
returns-clause-painted c =
    let r = c.requires in
    let it = c.args.painting.now in
    let w = c.paint_rows.ensures in
    let e = c.refresh_rectangle.ensures in
    let scans = ap (λ (s : DataState). s.scans) w.work in
    let size = w.written.long in
    let blocks = ap (λ n. n / 2880) size in
    let work : c.refresh_rectangle.new.store.scans - c.paint_rows.new.self.scans ≤ rectangle_blocks c.args.layout c.args.store.now.bytes it.axes.now it.lo.now it.hi.now =
    omega (arith, e.work, ap (touched_blocks it.axes.now it.lo.now it.hi.now (block_pixels c.args.layout.width) c.args.layout.pixels) blocks) in
    record {
      bytes = same_bytes c.paint_rows.new.self c.refresh_rectangle.new.store e.same
          ∙ written_is c.args.layout.width it.axes.now it.lo.now it.hi.now (number_of it) c.args.store.now.bytes c.paint_rows.new.self.bytes r.suits.width c.are_bytes.ensures w.written;
      layout = refl;
      reads = ap (λ (s : DataState). s.reads) e.same ∙ ap (λ (s : DataState). s.reads) w.work;
      more_scans = omega (arith, e.more_work, scans);
      scans = omega (arith, work, e.more_work, scans);
      more_joins = e.more;
      joins = λ d u.
          let up = mul-le-mul_right d work in
          omega (arith, up, e.joins d (omega (arith, u, blocks)));
      most = λ d u. e.most d (omega (arith, u, blocks));
    }

pub returns-clause-kept : goal.returns-clause-kept
returns-clause-kept c =
    let r = c.requires in
    let long = c.paint_rows.ensures.written.long in
    rw (same_bytes c.paint_rows.new.self c.refresh_rectangle.new.store c.refresh_rectangle.ensures.same) (record {
      fits = layout_stays c.args.layout c.args.store.now.bytes c.paint_rows.new.self.bytes r.kept.fits long;
      whole = omega (arith, long, r.kept.whole, c.refresh_rectangle.ensures.long);
      right = c.refresh_rectangle.ensures.right;
    })
