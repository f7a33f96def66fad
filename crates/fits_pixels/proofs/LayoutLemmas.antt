-- How many pixels a block holds, and which, and how many a layout has.
use Rattle.std.proofs.Common.{◌≡◌, ◌<◌, ◌≤◌, ℕ, ◌*◌, List, length, take, drop, refl, arith, sym, ◌∙◌, ap, inl, inr, ◌⊎◌}
use Rattle.std.proofs.Math.Nat.{mul-le-mul_left}
use Rattle.fits_pixels.specs.declared.layout.Layout.{Layout}
use Rattle.fits_pixels.specs.Pixels.{pixels, IsWidth}
use Rattle.fits_pixels.specs.Layout.{IsLayout, block_pixels}
use Rattle.fits_pixels.specs.Block.{held}
use Rattle.fits_pixels.proofs.PixelLemmas.{pixels-part, by_width}

-- a block is made of whole pixels
pub block_pixels-width : (w : ℕ) → IsWidth w → block_pixels w * w ≡ 2880
block_pixels-width w h = by_width (λ w. block_pixels w * w ≡ 2880) refl refl refl refl w h

-- a block holds a pixel
pub block_pixels_some : (w : ℕ) → IsWidth w → 0 < block_pixels w
block_pixels_some w h = by_width (λ w. 0 < block_pixels w) (omega arith) (omega arith) (omega arith) (omega arith) w h

-- the pixels have room in the blocks
pub pixels_room : (w n blocks : ℕ) → IsWidth w → n * w ≤ 2880 * blocks → n ≤ blocks * block_pixels w
pixels_room w n blocks h = by_width (λ w. n * w ≤ 2880 * blocks → n ≤ blocks * block_pixels w) (λ r. omega (arith, r)) (λ r. omega (arith, r)) (λ r. omega (arith, r)) (λ r. omega (arith, r)) w h

-- without pixels a block holds none
none_held : (per n k : ℕ) → n ≡ 0 → held per n k ≡ 0
none_held per n k e = omega (arith, e)

-- the pixels of a block, read in the block alone
pub block_part : (w n k at size : ℕ) (xs : List ℕ) → (w ≡ 0) ⊎ IsWidth w → (w ≡ 0 → n ≡ 0) → at ≡ 2880 * k → size ≡ 2880
    → pixels w (take size (drop at xs)) 0 (held (block_pixels w) n k) ≡ pixels w xs (k * block_pixels w) (held (block_pixels w) n k)
block_part w n k at size xs h none e s = elim h [
  | inl z ↦
      let few = none_held (block_pixels w) n k (none z) in
      ap (pixels w (take size (drop at xs)) 0) few ∙ sym (ap (pixels w xs (k * block_pixels w)) few)
  | inr h ↦
      let whole = block_pixels-width w h in
      let more = mul-le-mul_left w (let short : held (block_pixels w) n k ≤ block_pixels w = omega arith in short) in
      let start : k * (block_pixels w * w) ≡ k * 2880 = ap (λ m. k * m) whole in
      pixels-part w (k * block_pixels w) size (held (block_pixels w) n k) at xs (omega (arith, e, start)) (omega (arith, more, whole, s))
]

-- a layout's pixels have room, whatever its width
pub layout_room : (layout : Layout) (xs : List ℕ) (blocks : ℕ) → IsLayout layout xs → length xs ≡ 2880 * blocks → layout.pixels ≤ blocks * block_pixels layout.width
layout_room layout xs blocks h e = elim h.width [
  | inl z ↦ omega (arith, h.no_pixels z)
  | inr w ↦ pixels_room layout.width layout.pixels blocks w (omega (arith, h.room, h.used, e))
]

-- pixels of a width have as many bytes or more
few_case : (w n limit : ℕ) → IsWidth w → n * w ≤ limit → n ≤ limit
few_case w n limit h = by_width (λ w. n * w ≤ limit → n ≤ limit) (λ r. omega (arith, r)) (λ r. omega (arith, r)) (λ r. omega (arith, r)) (λ r. omega (arith, r)) w h

-- a layout has no more pixels than bytes
pub layout_small : (layout : Layout) (xs : List ℕ) → IsLayout layout xs → layout.pixels ≤ length xs
layout_small layout xs h = elim h.width [
  | inl z ↦ omega (arith, h.no_pixels z)
  | inr w ↦ few_case layout.width layout.pixels (length xs) w (omega (arith, h.room, h.used))
]
