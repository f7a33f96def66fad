use Rattle.std.proofs.Common.{rules, arith}
use Rattle.std.proofs.lemmas.List.Sorted.{IsPartitionPoint-from_clause}
use Rattle.fits_header.specs.Index.{comes_before}
use Rattle.fits_header.proofs.FilterLemmas.{take_filter, drop_filter}
use Rattle.fits_header.proofs.IndexLemmas.{sorted-parted}
use Rattle.fits_header.proofs.entries.place_for.Goals as goal

pub returns-clause-below : goal.returns-clause-below
returns-clause-below c =
    let parted = sorted-parted c.args.entries.now c.args.name c.args.place c.requires in
    let point = IsPartitionPoint-from_clause (comes_before c.args.name c.args.place) _ _ c.partition_point.ensures.partitioned parted (λ a r q k. search rules) in
    take_filter _ _ _ (λ k d l. point.0 k d (omega arith) l) point.1 c.partition_point.ensures.bound

pub returns-clause-from : goal.returns-clause-from
returns-clause-from c =
    let parted = sorted-parted c.args.entries.now c.args.name c.args.place c.requires in
    let point = IsPartitionPoint-from_clause (comes_before c.args.name c.args.place) _ _ c.partition_point.ensures.partitioned parted (λ a r q k. search rules) in
    drop_filter _ _ _ (λ k d l. point.0 k d (omega arith) l) point.1 c.partition_point.ensures.bound
