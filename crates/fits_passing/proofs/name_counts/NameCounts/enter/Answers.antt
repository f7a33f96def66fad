use Rattle.std.proofs.Common.{List, ℕ, ◌+◌, arith, ap, ◌∙◌}
use Rattle.std.specs.List.{slice_get}
use Rattle.std.specs.Map.{keys_of}
use Rattle.indexmap.specs.IndexMap.{insert_entry}
use Rattle.fits_passing.specs.ExtensionName.{is_same_name}
use Rattle.fits_passing.specs.declared.called.ExtensionName.{ExtensionName}
use Rattle.fits_passing.proofs.NameCountLemmas.{few_have, kept_by_insert, placed_by_insert, told_more}
use Rattle.fits_passing.proofs.name_counts.NameCounts.enter.Goals as goal

pub overflow_add-number : goal.overflow_add-number
overflow_add-number c = omega (arith, few_have c.args.self.now.numbers.entries c.in-Some.name c.number_of-number.result c.requires.few c.number_of-number.ensures)

pub returns : goal.returns
returns c =
    let es : List (ExtensionName × ℕ) = c.args.self.now.numbers.entries in
    let fs : List (ExtensionName × ℕ) = c.insert_full.new.self.entries in
    let name : ExtensionName = c.in-Some.name in
    let n : ℕ = c.number_of-number.result in
    rw c.in-Some.is (record {
      ok = record {
        table = λ names p. record {
          told = told_more names es fs name n p.told c.number_of-number.ensures c.in_ok-place.ensures.updates.0;
          once = c.insert_full.ensures.unique;
        };
        points =
            ap (λ (it : List (ExtensionName × ℕ)). slice_get (keys_of it) c.in_ok-place.place) c.in_ok-place.ensures.entries ∙ ap (slice_get (keys_of (insert_entry is_same_name es name (n + 1)))) c.in_ok-place.ensures.index ∙ placed_by_insert name (n + 1) es;
        others = λ at other p.
            ap (λ (it : List (ExtensionName × ℕ)). slice_get (keys_of it) at) c.in_ok-place.ensures.entries ∙ kept_by_insert name (n + 1) es at other p;
      };
    })
