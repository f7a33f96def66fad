use Rattle.std.proofs.Common.{sym, ap, ◌∙◌}
use Rattle.std.specs.Prelude.{nat_le}
use Rattle.fits_passing.specs.Report.{is_repeated}
use Rattle.fits_passing.proofs.NameCountLemmas.{number_told}
use Rattle.fits_passing.proofs.name_counts.NameCounts.is_repeated.Goals as goal

pub returns-in-Some : goal.returns-in-Some
unfolding is_repeated
returns-in-Some c names told =
    ap (nat_le 2) (c.number_of.ensures ∙ number_told names c.args.self.now.numbers.entries c.in-Some.name told) ∙ ap (is_repeated names) (sym c.in-Some.is)

pub returns-in-None : goal.returns-in-None
unfolding is_repeated
returns-in-None c names told = ap (is_repeated names) (sym c.in-None.is)
