use Rattle.std.proofs.Common.{ℕ, arith}
use Rattle.std.proofs.lemmas.Grind.{common_steps}
use Rattle.std.proofs.lemmas.List.{take-replicate}
use Rattle.fits_value.proofs.card_text.add_spaces.Goals as goal

pub returns-clause-some : goal.returns-clause-some
returns-clause-some c = let e = take-replicate {X = ℕ} c.args.count 31 32 c.requires in grind (arith, common_steps, e)
