-- Blocks of zero bytes that are full of pixels: their leaves are alike.
use Rattle.std.proofs.Common.{◌≡◌, ◌<◌, ◌≤◌, ℕ, zero, suc, ◌+◌, ◌-◌, ◌*◌, ◌/◌, List, slice_index, take, replicate, refl, arith, sym, ◌∙◌, ap, subst}
use Rattle.std.proofs.Math.Nat.{le-div_iff_mul-le}
use Rattle.std.proofs.lemmas.List.{drop-replicate, take-replicate}
use Rattle.fits_sum.specs.Words.{word_total}
use Rattle.fits_pixels.specs.declared.layout.Layout.{Layout}
use Rattle.fits_pixels.specs.Statistics.{statistics}
use Rattle.fits_pixels.specs.SummaryLaws.{same_both}
use Rattle.fits_pixels.specs.Pixels.{pixel, pixels}
use Rattle.fits_pixels.specs.Layout.{block_pixels}
use Rattle.fits_pixels.specs.Block.{held, block_of, leaf_of}
use Rattle.fits_pixels.proofs.StatisticsLemmas.{word_leaf}
use Rattle.fits_pixels.proofs.PixelLemmas.{pixel-same, pixels-same}

-- each byte of zeros, and each past them
pub zero_byte : (n i : ℕ) → slice_index (replicate n 0) i ≡ 0
zero_byte zero i = refl
zero_byte (suc n) zero = refl
zero_byte (suc n) (suc i) = zero_byte n i

-- their pixels are alike
zero_pixel : (w n i j : ℕ) → pixel w (replicate n 0) i ≡ pixel w (replicate n 0) j
zero_pixel w n i j = pixel-same w i j (replicate n 0) (replicate n 0) (λ k b. zero_byte n (i * w + k) ∙ sym (zero_byte n (j * w + k)))

-- a block of them
zero_block : (n k : ℕ) → 2880 * k + 2880 ≤ n → block_of (replicate n 0) k ≡ replicate 2880 0
zero_block n k b = ap (take 2880) (drop-replicate (2880 * k) n 0) ∙ take-replicate 2880 (n - 2880 * k) 0 (omega (arith, b))

-- blocks before so many are full
full_block : (per n k : ℕ) → k < n / per → (k + 1) * per ≤ n
full_block zero n k b = omega arith
full_block (suc per) n k b = let some : 0 < suc per = omega arith in (le-div_iff_mul-le some).0 (omega (arith, b))

-- a full block holds as many pixels as any
full_held : (per n k : ℕ) → (k + 1) * per ≤ n → held per n k ≡ per
full_held per n k h = omega (arith, h)

-- the leaves of two full blocks
pub zero_leaf : (layout : Layout) (xs : List ℕ) (n k : ℕ) → xs ≡ replicate n 0 → 2880 * k + 2880 ≤ n → k < layout.pixels / block_pixels layout.width → leaf_of layout xs 0 ≡ leaf_of layout xs k
zero_leaf layout xs n k e b full = subst (λ ys. leaf_of layout ys 0 ≡ leaf_of layout ys k) (sym e) same
  where
    per : ℕ
    per = block_pixels layout.width

    first : held per layout.pixels 0 ≡ held per layout.pixels k
    first =
        let here = full_block per layout.pixels k full in
        full_held per layout.pixels 0 (omega (arith, here)) ∙ sym (full_held per layout.pixels k here)

    alike : pixels layout.width (replicate n 0) (0 * per) (held per layout.pixels 0) ≡ pixels layout.width (replicate n 0) (k * per) (held per layout.pixels k)
    alike = ap (pixels layout.width (replicate n 0) (0 * per)) first ∙ pixels-same layout.width (0 * per) (k * per) (held per layout.pixels k) (replicate n 0) (replicate n 0) (λ x l. zero_pixel layout.width n (0 * per + x) (k * per + x))

    same : leaf_of layout (replicate n 0) 0 ≡ leaf_of layout (replicate n 0) k
    same = same_both _ _ _ _ (ap (statistics layout.blank) alike) (word_leaf _ _ (ap word_total (zero_block n 0 (omega (arith, b)) ∙ sym (zero_block n k b))))
