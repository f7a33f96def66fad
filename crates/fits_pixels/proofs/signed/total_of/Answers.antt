use Rattle.std.proofs.Common.{◌≡◌, ◌*◌, ◌/◌, ◌^◌, ◌∙◌, ℕ, List, ap, arith, length, pos}
use Rattle.std.proofs.lemmas.Int.{ints}
use Rattle.fits_pixels.specs.Pixels.{pixels}
use Rattle.fits_pixels.specs.Scan.{unsigned_total}
use Rattle.fits_pixels.proofs.PixelLemmas.{length-pixels}
use Rattle.fits_pixels.proofs.SignedLemmas.{all_held, few_held, few_negatives, total_signed}
use Rattle.fits_pixels.proofs.signed.total_of.Goals as goal

pub signs-requires-clause-few : goal.signs-requires-clause-few
signs-requires-clause-few c =
    let w : ℕ = c.args.width in
    let xs : List ℕ = c.args.block.now in
    let held : ℕ = c.args.held in
    omega (arith, c.requires.negatives, few_negatives (pixels w xs 0 held), length-pixels w 0 held xs, few_held w held (length xs) c.requires.signed c.requires.within c.requires.short)

pub returns-then-held-width-clause-within : goal.returns-then-held-width-clause-within
returns-then-held-width-clause-within c =
    omega (arith, ints, c.added.ensures.within, few_held c.args.width c.args.held _ c.requires.signed c.requires.within c.requires.short)

pub returns-else-held-width-clause-value : goal.returns-else-held-width-clause-value
returns-else-held-width-clause-value c =
    let w : ℕ = c.args.width in
    let xs : List ℕ = c.args.block.now in
    let held : ℕ = c.args.held in
    let all : length xs / w ≡ held = all_held w held (length xs) c.requires.signed (omega (arith, c.requires.within, c.if-held-width.false)) in
    let whole = c.requires.total ∙ ap (unsigned_total w xs 0) all in
    let sum = total_signed w c.requires.signed xs 0 held (λ k. let f = c.type_inv.block k in omega (arith, f)) in
    let minus = c.signs.ensures.value ∙ ap (λ k. pos (256 ^ w * k)) c.requires.negatives in
    omega (arith, ints, whole, sum, minus, c.requires.small, c.signs.ensures.within)
