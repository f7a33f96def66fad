use Rattle.std.proofs.Common.{List, ℕ, Option, ap, sym, ◌∙◌, refl}
use Rattle.std.specs.List.{slice_get}
use Rattle.std.specs.Map.{keys_of, lookup}
use Rattle.std.proofs.lemmas.List.{drop_all}
use Rattle.fits_passing.specs.ExtensionName.{is_same_name}
use Rattle.fits_passing.specs.declared.called.ExtensionName.{ExtensionName}
use Rattle.fits_passing.proofs.NameLemmas.{same_name}
use Rattle.fits_session.proofs.TableLemmas.{key_read, looked_on}
use Rattle.fits_session.proofs.name_table.NameTable.place_of.Goals as goal

pub loop-place-init : goal.loop-place-init
loop-place-init c = refl

pub returns-then-is_same-clause-some : goal.returns-then-is_same-clause-some
returns-then-is_same-clause-some c =
    let es : List (ExtensionName × ℕ) = c.deref-it-items.result.now in
    ap (λ (fs : List (ExtensionName × ℕ)). slice_get (keys_of fs) c.loop-place.place) (sym c.deref-it-items.ensures.value)
    ∙ key_read es c.loop-place.place c.it-item.result c.loop-place-test.true
    ∙ ap (λ (it : ExtensionName × ℕ). Option.Some it.0) (sym c.it-item.is)
    ∙ ap (λ (k : ExtensionName). Option.Some k) (sym (same_name c.args.name.now c.it-item.result.0 (sym c.if-is_same.ensures)))

pub loop-place-preserved : goal.loop-place-preserved
loop-place-preserved c = c.loop-place.invariant ∙ looked_on c.deref-it-items.result.now c.loop-place.place c.it-item.result c.args.name.now c.loop-place-test.true c.it-item.is (sym c.if-is_same.ensures)

pub returns-clause-none : goal.returns-clause-none
returns-clause-none c _ =
    ap (lookup (is_same_name c.args.name.now)) (sym c.deref-it-items.ensures.value)
    ∙ c.loop-place.invariant
    ∙ ap (lookup (is_same_name c.args.name.now)) (drop_all c.loop-place.place c.deref-it-items.result.now c.loop-place-test.false)
