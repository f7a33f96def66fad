use Rattle.std.proofs.Common.{arith, false}
use Rattle.fits_rules.proofs.LawLemmas.{shape_bounded}
use Rattle.fits_table.proofs.judging.judge_table.Goals as goal

pub judge_columns-requires : goal.judge_columns-requires
judge_columns-requires c = omega (arith, (shape_bounded false _ c.in-Ok.shape c.in-Ok.ensures.ok).count)
