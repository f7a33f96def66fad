use Rattle.std.proofs.Common.{ap, sym, ◌∙◌, map, subst, nat_eq}
use Rattle.std.specs.List.{dedup}
use Rattle.std.specs.List.Sorted.{IsStrictlyIncreasing}
use Rattle.std.proofs.lemmas.List.{take_all}
use Rattle.std.proofs.lemmas.List.Filters.{dedup_is}
use Rattle.std.proofs.lemmas.Map.Keys.{IsStrictlyIncreasing-dedup}
use Rattle.fits_header.specs.declared.entry.Entry.{Entry}
use Rattle.fits_header.proofs.OpenLemmas.{sorted_names}
use Rattle.fits_header.proofs.lookups.numbers.Goals as goal

pub returns-clause-once : goal.returns-clause-once
returns-clause-once c =
    dedup_is nat_eq c.loop-entry.names.items c.dedup.new.self.items c.dedup.ensures.filtered
    ∙ ap (dedup nat_eq) (c.loop-entry.invariant ∙ ap (map (λ (e : Entry). e.name)) (take_all c.loop-entry.entry-index c.args.entries.now c.loop-entry-test.false))

pub returns-clause-rising : goal.returns-clause-rising
returns-clause-rising c = subst IsStrictlyIncreasing (sym (returns-clause-once c)) (IsStrictlyIncreasing-dedup (map (λ (e : Entry). e.name) c.args.entries.now) (sorted_names c.args.entries.now c.requires))
