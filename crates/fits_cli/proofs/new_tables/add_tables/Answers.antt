use Rattle.std.proofs.Common.{◌≡◌, ℕ, ◌+◌, ◌-◌, ◌∙◌, ap, arith}
use Rattle.fits_cli.specs.NewTables.{table_errors, table_warnings}
use Rattle.fits_cli.proofs.NewTableLemmas.{others_warn}
use Rattle.fits_cli.proofs.new_tables.add_tables.Goals as goal

-- what isn't an error is a warning
pub returns-clause-warnings : goal.returns-clause-warnings
returns-clause-warnings c =
    let errors = c.count_errors-more.ensures.value ∙ ap table_errors c.deref-2.ensures.value in
    let others : c.len.result - c.count_errors-more.result ≡ table_warnings c.in_ok-new.new.items =
    omega (arith, c.len.ensures, c.in_ok-new.new.ok, others_warn c.in_ok-new.new.items c.count_errors-more.result errors) in
    ap (λ (n : ℕ). c.args.found.warnings + n) (others ∙ ap table_warnings c.in_ok-new.ensures)
