use Rattle.std.proofs.Common.{sym, ◌∙◌}
use Rattle.fits_unit.proofs.PartLoadLemmas.{loads_piece}
use Rattle.fits_unit.proofs.part_load.load_piece.Goals as goal

pub returns-in-Ok-clause-loads : goal.returns-in-Ok-clause-loads
returns-in-Ok-clause-loads g c = λ blank. loads_piece c.args.place c.args.j c.in_ok-bytes.bytes.items c.args.unit.now c.load.new.self blank c.requires.index (sym c.is_held.ensures.value ∙ c.if-is_held.false) c.in_ok-bytes.ensures.len c.in-Ok.ensures.ok
