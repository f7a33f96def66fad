use Rattle.std.proofs.Common.{rules, ap, sym, ◌∙◌}
use Rattle.std.proofs.lemmas.Bool.{ltb-true, ltb-false}
use Rattle.std.proofs.lemmas.List.Sorted.{IsPartitionPoint-from_clause}
use Rattle.fits_cli.specs.NewErrors.{is_listed_before, is_same}
use Rattle.fits_cli.proofs.NewErrorLemmas.{report-parted, stands-at, stands-nowhere}
use Rattle.fits_cli.proofs.new_errors.stands_in.Goals as goal

pub returns-in-Some : goal.returns-in-Some
returns-in-Some c =
    let point = IsPartitionPoint-from_clause (λ other. is_listed_before other c.args.it) _ _ c.partition_point-index.ensures.partitioned (report-parted c.args.report.now c.args.it c.requires) (λ a r q k. search rules) in
    c.is_same.ensures ∙ ap (is_same c.args.it) c.in-Some.ensures.lookup.1
    ∙ stands-at c.args.report.now c.args.it c.partition_point-index.result c.in-Some.other.now c.requires point (ltb-true _ _ (sym c.in-Some.ensures.lookup.0))

pub returns-in-None : goal.returns-in-None
returns-in-None c =
    let point = IsPartitionPoint-from_clause (λ other. is_listed_before other c.args.it) _ _ c.partition_point-index.ensures.partitioned (report-parted c.args.report.now c.args.it c.requires) (λ a r q k. search rules) in
    stands-nowhere c.args.report.now c.args.it c.partition_point-index.result point (ltb-false _ _ (sym c.in-None.ensures.lookup.0))
