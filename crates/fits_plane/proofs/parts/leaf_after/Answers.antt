use Rattle.fits_plane.proofs.PartLemmas.{leaf_exchanged}
use Rattle.fits_plane.proofs.PlaneLemmas.{layout_stays}
use Rattle.std.proofs.Common.{sym}
use Rattle.fits_plane.proofs.parts.leaf_after.Goals as goal

-- what went was exchanged for what came
pub returns-in-Some : goal.returns-in-Some
returns-in-Some c = λ old b f p q.
    let r = c.requires in
    leaf_exchanged c.args.layout c.args.k c.args.from c.args.to old c.args.bytes.now c.args.all c.args.gone c.scan_groups-come.result c.in-Some.leaf (layout_stays c.args.layout c.args.bytes.now old r.layout (sym f.long)) r.layout r.width
    b c.read_bytes.ensures r.block r.low r.order r.high f p q c.scan_groups-come.ensures c.in-Some.ensures
