use Rattle.std.proofs.Common.{rules, ◌≡◌, ◌∙◌, FitsSigned, ℕ, ℤ, Some, List, to_z, of_z, ap, sym, arith}
use Rattle.std.specs.Int.{w64}
use Rattle.std.proofs.lemmas.Int.{ints, to_z-of_z}
use Rattle.fits_pixels.specs.Pixels.{pixels}
use Rattle.fits_pixels.specs.Statistics.{statistics}
use Rattle.fits_pixels.proofs.PixelLemmas.{length-pixels}
use Rattle.fits_pixels.proofs.ScanLemmas.{counts}
use Rattle.fits_pixels.proofs.SignedLemmas.{blank_stored, found_blank, found_defined}
use Rattle.fits_pixels.proofs.signed.scan.Goals as goal

pub found_beside-requires-clause-few : goal.found_beside-requires-clause-few
found_beside-requires-clause-few c =
    let w : ℕ = c.args.width in
    let xs : List ℕ = c.args.block.now in
    omega (arith, c.beside-seen.ensures.blanks, counts (Some (to_z w64 (of_z w64 c.in-Some.number))) (pixels w xs 0 c.args.held), length-pixels w 0 c.args.held xs)

pub returns-in-None : goal.returns-in-None
returns-in-None c =
    let w : ℕ = c.args.width in
    let xs : List ℕ = c.args.block.now in
    let all : List ℤ = pixels w xs 0 c.args.held in
    c.found.ensures ∙ found_defined c.args.held _ _ _ all c.defined-seen.result c.defined-seen.ensures (length-pixels w 0 c.args.held xs)
    (omega (arith, ints)) (omega (arith, ints)) (omega (arith, ints, c.total_of-sum.ensures.value))
    ∙ ap (λ b. statistics b all) (sym c.in-None.is ∙ c.stored_blank.ensures.value) ∙ blank_stored w c.requires.signed c.args.blank xs 0 c.args.held (λ k. let f = c.type_inv.block k in omega (arith, f))

pub returns-in-Some : goal.returns-in-Some
returns-in-Some c =
    let w : ℕ = c.args.width in
    let xs : List ℕ = c.args.block.now in
    let all : List ℤ = pixels w xs 0 c.args.held in
    let number : ℤ = c.in-Some.number in
    let fits : FitsSigned w64 number = search rules in
    let same : to_z w64 (of_z w64 number) ≡ number = to_z-of_z w64 number fits in
    let few = counts (Some (to_z w64 (of_z w64 number))) all in
    c.found_beside.ensures
    ∙ found_blank (to_z w64 (of_z w64 number)) _ _ _ _ all c.beside-seen.result c.beside-seen.ensures (omega (arith, c.beside-seen.ensures.blanks, few, length-pixels w 0 c.args.held xs))
    (omega (arith, ints)) (omega (arith, ints)) (omega (arith, ints, c.total_of-sum-in-Some.ensures.value))
    ∙ ap (λ z. statistics (Some z) all) same ∙ ap (λ b. statistics b all) (sym c.in-Some.is ∙ c.stored_blank.ensures.value)
    ∙ blank_stored w c.requires.signed c.args.blank xs 0 c.args.held (λ k. let f = c.type_inv.block k in omega (arith, f))
