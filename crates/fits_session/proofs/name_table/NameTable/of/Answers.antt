use Rattle.std.proofs.Common.{◌++◌, ◌∷◌, [], List, ℕ, take, ap, sym, ◌∙◌, arith}
use Rattle.std.proofs.lemmas.List.{take_all, take_more}
use Rattle.std.proofs.lemmas.Option.{get_or_from_slice_get}
use Rattle.fits_passing.specs.declared.called.ExtensionName.{ExtensionName}
use Rattle.fits_session.proofs.name_table.NameTable.of.Goals as goal

pub loop-place-init : goal.loop-place-init
loop-place-init c = record { names = c.in_ok-numbers.ensures.items; room = omega (arith, c.in_ok-numbers.ensures.capacity) }

pub loop-place-preserved : goal.loop-place-preserved
loop-place-preserved c =
    let es : List (ExtensionName × ℕ) = c.args.counts.now.numbers.entries in
    let e : ExtensionName × ℕ = (c.in-Some.name.now, c.in-Some.number.now) in
    let there = get_or_from_slice_get es c.loop-place.place e e (sym c.in-Some.ensures.entry) in
    record {
      names =
          c.in_ok-push.ensures.items ∙ ap (λ (xs : List (ExtensionName × ℕ)). xs ++ e ∷ []) c.loop-place.invariant.names
          ∙ sym (take_more es c.loop-place.place e (omega (arith, c.loop-place-test.true, c.len-place-end.ensures.len)) ∙ ap (λ (x : ExtensionName × ℕ). take c.loop-place.place es ++ x ∷ []) there);
      room = omega (arith, c.loop-place.invariant.room, c.in_ok-push.ensures.capacity);
    }

pub returns-clause-names : goal.returns-clause-names
returns-clause-names c = c.loop-place.invariant.names ∙ take_all c.loop-place.place c.args.counts.now.numbers.entries (omega (arith, c.loop-place-test.false, c.len-place-end.ensures.len))
