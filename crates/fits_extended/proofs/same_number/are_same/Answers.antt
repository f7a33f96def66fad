use Rattle.std.proofs.Common.{◌≡◌, true, refl, sym, ◌∙◌}
use Rattle.std.proofs.lemmas.Bool.{false≢true}
use Rattle.fits_extended.specs.Numbers.{scaled_of, value_of_run}
use Rattle.fits_extended.proofs.ScaledLemmas.{told, told_apart, signs_apart, differs_from_zero, zero_differs}
use Rattle.fits_extended.proofs.same_number.are_same.Goals as goal
use Rattle.fits_extended.proofs.same_number.are_same.Goals.{then-is_same_sign, else-is_same_sign}

pub returns-then-are_same_runs : goal.returns-then-are_same_runs
returns-then-are_same_runs c =
    let k = c.in-Some-Some in
    let sums = c.are_same_sums.ensures in
    let here = c.risen.ensures in
    let there = c.risen-then-are_same_runs.ensures in
    elim c.if-is_same_sign.branch [
      | then-is_same_sign w ↦
          let runs : w.are_same_runs.result ≡ true = sym w.value-is ∙ c.if-are_same_runs.true in
          told (scaled_of c.args.a.now) (scaled_of c.args.b.now) (value_of_run k.run') (value_of_run k.other) k.zeros k.other_zeros true true c.are_same_sums.result
          (sym c.digits_of.ensures ∙ k.ensures.value) (sym c.digits_of-2.ensures ∙ k.ensures'.value) k.ensures.last k.ensures'.last
          (sym w.if-is_same_sign.true ∙ c.is_same_sign.ensures) (λ _. w.are_same_runs.ensures.0 runs, λ _. refl) (λ h. sym here ∙ (sums.0 h ∙ there), λ h. sums.1 (here ∙ (h ∙ sym there)))
      | else-is_same_sign w ↦ absurd (false≢true (sym w.if-is_same_sign.false ∙ (sym w.value-is ∙ c.if-are_same_runs.true)))
    ]

pub returns-else-are_same_runs : goal.returns-else-are_same_runs
returns-else-are_same_runs c =
    let k = c.in-Some-Some in
    elim c.if-is_same_sign.branch [
      | then-is_same_sign w ↦
          c.if-are_same_runs.false ∙ told_apart (scaled_of c.args.a.now) (scaled_of c.args.b.now) (value_of_run k.run') (value_of_run k.other) k.zeros k.other_zeros true w.are_same_runs.result
          (sym c.digits_of.ensures ∙ k.ensures.value) (sym c.digits_of-2.ensures ∙ k.ensures'.value) k.ensures.last k.ensures'.last
          (sym w.if-is_same_sign.true ∙ c.is_same_sign.ensures) w.are_same_runs.ensures (sym w.value-is ∙ c.if-are_same_runs.false)
      | else-is_same_sign w ↦
          c.if-are_same_runs.false ∙ signs_apart (scaled_of c.args.a.now) (scaled_of c.args.b.now) (value_of_run k.run') (value_of_run k.other) k.zeros k.other_zeros c.is_same_sign.result
          (sym c.digits_of.ensures ∙ k.ensures.value) (sym c.digits_of-2.ensures ∙ k.ensures'.value) k.ensures.last k.ensures'.last
          c.is_same_sign.ensures w.if-is_same_sign.false
    ]

pub returns-in_default : goal.returns-in_default
returns-in_default c =
    let h = c.in_default in
    zero_differs (scaled_of c.args.a.now) (scaled_of c.args.b.now) (value_of_run h.field-0-0.0) h.field-0-0.1 (sym c.digits_of-2.ensures ∙ h.ensures'.none) (sym c.digits_of.ensures ∙ h.ensures.value) h.ensures.last

pub returns-in_default-2 : goal.returns-in_default-2
returns-in_default-2 c =
    let h = c.in_default in
    differs_from_zero (scaled_of c.args.a.now) (scaled_of c.args.b.now) (value_of_run h.field-0-1.0) h.field-0-1.1 (sym c.digits_of.ensures ∙ h.ensures.none) (sym c.digits_of-2.ensures ∙ h.ensures'.value) h.ensures'.last
