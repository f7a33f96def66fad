use Rattle.std.proofs.Common.{arith}
use Rattle.fits_rules.specs.Class.{is_primary}
use Rattle.fits_rules.proofs.LawLemmas.{shape_bounded}
use Rattle.fits_header.proofs.header.Header.mark.Goals as goal

pub header_mark_of-requires-clause-small : goal.header_mark_of-requires-clause-small
header_mark_of-requires-clause-small c = omega (arith, (shape_bounded (is_primary c.self.inside.shape.class) c.self.inside.cards.header.cards c.self.inside.shape c.self.invariant.described).count)
