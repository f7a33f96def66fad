use Rattle.std.proofs.Common.{refl, ◌∙◌}
use Rattle.fits_plane.proofs.WriteLemmas.{row_more}
use Rattle.fits_plane.proofs.pixel_writes.fill_row.Goals as goal

pub loop-x-preserved : goal.loop-x-preserved
loop-x-preserved c =
    let e = c.put.ensures in
    record {
      same = e.same_reference ∙ c.loop-x.invariant.same;
      written = row_more c.args.width c.args.start c.loop-x.x _ _ c.args.pixels.now.bytes.now c.loop-x.pixels.bytes.now c.put.new.self.bytes.now c.loop-x.invariant.written refl e.long e.here e.other;
    }
