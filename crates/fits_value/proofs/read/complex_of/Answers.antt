use Rattle.std.proofs.Common.{◌∙◌}
use Rattle.fits_value.proofs.SayLemmas.{complex_scans, complex_read}
use Rattle.fits_value.proofs.read.complex_of.Goals as goal

pub unreachable-requires : goal.unreachable-requires
unreachable-requires c = complex_scans c.args.spelling.now _ c.scan_pair.result c.requires c.split_at.ensures.back c.scan_pair.ensures.value c.in_default.is

pub returns-clause-value : goal.returns-clause-value
returns-clause-value c =
    complex_read c.args.spelling.now _ _ _ c.in-Some.pair c.requires c.split_at.ensures.back c.in-Some.ensures.value (c.in_ok-real.ensures ∙ c.part.ensures) (c.in_ok-imaginary.ensures ∙ c.part-2.ensures)
