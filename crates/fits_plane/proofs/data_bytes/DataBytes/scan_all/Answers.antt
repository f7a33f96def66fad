use Rattle.std.proofs.Common.{rules, arith}
use Rattle.fits_plane.proofs.data_bytes.DataBytes.scan_all.Goals as goal

-- each leaf is that of its block
pub returns-clause-right : goal.returns-clause-right
returns-clause-right c = λ k b.
    let asked = c.refresh.ensures.each k (omega (arith, b, c.refresh.ensures.long)) in search rules
