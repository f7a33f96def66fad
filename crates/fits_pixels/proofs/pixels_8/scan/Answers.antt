use Rattle.std.proofs.Common.{rules, ◌∙◌, FitsSigned, ℕ, ℤ, List, ap, sym, arith, subst}
use Rattle.std.specs.Int.{FitsUnsignedBits, w64}
use Rattle.std.proofs.lemmas.Int.{to_z-of_z}
use Rattle.fits_pixels.specs.Pixels.{pixels}
use Rattle.fits_pixels.specs.Statistics.{statistics}
use Rattle.fits_pixels.proofs.ScanLemmas.{range_8, blank_outside, not_8}
use Rattle.fits_pixels.proofs.pixels_8.scan.Goals as goal
use Rattle.fits_pixels.proofs.pixels_8.scan.Goals.{in-Some+in_default-try_from, in_default}

pub returns : goal.returns
returns c =
    let xs : List ℕ = c.args.block.now in
    let all : List ℤ = pixels 1 xs 0 c.args.held in
    c.scan_defined.ensures ∙ elim c.match-blank.branch [
      | in-Some+in_default-try_from w ↦
          let b : ℤ = w.in-Some.number in
          let f : FitsSigned w64 b = search rules in
          let wide : FitsUnsignedBits 8 b → ⊥ = λ h. (rw w.in_default-try_from.is at w.try_from.ensures) (subst (FitsUnsignedBits 8) (sym (to_z-of_z w64 b f)) h) in
          sym (blank_outside b _ _ all (range_8 xs 0 c.args.held (λ k. let f = c.type_inv.block k in omega (arith, f))) (not_8 b wide)) ∙ ap (λ b. statistics b all) (sym w.in-Some.is)
      | in_default w ↦ ap (λ b. statistics b all) (sym w.in_default.is)
    ]
