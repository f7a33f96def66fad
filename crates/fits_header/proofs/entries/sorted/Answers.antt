use Rattle.std.proofs.Common.{rules, subst}
use Rattle.std.specs.List.Sorted.{IsStableByKey}
use Rattle.std.specs.Ordering.{nat_cmp}
use Rattle.std.proofs.lemmas.List.Sorted.{answers_always, IsNonDecreasingBy-from_sort_by_key}
use Rattle.fits_header.specs.declared.entry.Entry.{Entry}
use Rattle.fits_header.specs.Index.{AreSame, entries_from}
use Rattle.fits_header.proofs.OpenLemmas.{same_from_stable, sorted_from_stable}
use Rattle.fits_header.proofs.entries.sorted.Goals as goal

pub returns : goal.returns
returns c cards are named =
    let stable : IsStableByKey (λ (e : Entry). e.name) nat_cmp c.args.entries.items c.sort_by_key.new.self.items =
    c.sort_by_key.ensures.stable (λ (e : Entry). e.name) (answers_always _ _ _ (λ f a r g called. search rules)) in
    let same : AreSame c.sort_by_key.new.self.items (entries_from 1 cards) =
    subst (AreSame c.sort_by_key.new.self.items) are (same_from_stable _ _ stable) in
    record {
      sorted = sorted_from_stable _ _ (IsNonDecreasingBy-from_sort_by_key (λ (e : Entry). e.name) _ c.in_ok-sort_by_key.ensures.sorted (λ a r q k. search rules)) same;
      same = same;
      named = named;
    }
