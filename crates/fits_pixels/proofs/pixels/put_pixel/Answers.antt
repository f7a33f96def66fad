use Rattle.std.proofs.Common.{◌≡◌, ◌≤◌, ◌*◌, ◌+◌, ◌-◌, ◌++◌, ◌∙◌, ℕ, ℤ, List, ap, arith, drop, length, sym, to_z, of_z, FitsSigned, inl, inr, ◌≢◌}
use Rattle.std.specs.Int.{w64}
use Rattle.std.specs.List.{between}
use Rattle.std.proofs.lemmas.Slice.{between_to_end}
use Rattle.std.proofs.lemmas.Int.{to_z-of_z}
use borrow.Rule.Slice.PartMut.{put_mid}
use Rattle.byteorder.specs.Endian.{big_bytes, low_bytes}
use Rattle.fits_pixels.specs.Pixels.{IsWidth, IsStorable}
use Rattle.fits_pixels.proofs.PixelLemmas.{Written, written}
use Rattle.fits_pixels.proofs.pixels.put_pixel.Goals as goal

-- the width that is none of the others
widest : (w : ℕ) → IsWidth w → w ≢ 1 → w ≢ 2 → w ≢ 4 → 8 ≡ w
widest w h p q r = elim h [
  | inl e ↦ absurd (p e)
  | inr h ↦ elim h [
    | inl e ↦ absurd (q e)
    | inr h ↦ elim h [
      | inl e ↦ absurd (r e)
      | inr e ↦ sym e
    ]
  ]
]

-- by the width that is known
put : (w n i : ℕ) (z : ℤ) (xs part : List ℕ) → n ≡ w → IsWidth w → IsStorable w z → FitsSigned w64 z → (i + 1) * w ≤ length xs
    → part ≡ big_bytes n (low_bytes w64 n (to_z w64 (of_z w64 z))) ++ drop n (between (i * w) (length xs) xs)
    → Written w i z xs (put_mid (i * w) (length xs - i * w) xs part)
put w n i z xs part e h s f within p =
    let at : ℕ = i * w in
    let bits = p ∙ ap (λ m. big_bytes m (low_bytes w64 m (to_z w64 (of_z w64 z))) ++ drop m (between at (length xs) xs)) e
    ∙ ap (λ y. big_bytes w (low_bytes w64 w y) ++ drop w (between at (length xs) xs)) (to_z-of_z w64 z f) in
    written w i z xs _ part h s within (between_to_end xs at (length xs) (omega (arith, within))) bits

pub returns-in-1 : goal.returns-in-1
returns-in-1 c =
    let put = put c.args.width 1 c.args.i c.args.stored c.args.bytes.now _ (sym c.in-1.is) c.requires.width c.requires.storable c.ranges.stored c.requires.within c.write_int.ensures in
    record { long = put.long; here = put.here; other = put.other }

pub returns-in-2 : goal.returns-in-2
returns-in-2 c =
    let put = put c.args.width 2 c.args.i c.args.stored c.args.bytes.now _ (sym c.in-2.is) c.requires.width c.requires.storable c.ranges.stored c.requires.within c.write_int-in-2.ensures in
    record { long = put.long; here = put.here; other = put.other }

pub returns-in-4 : goal.returns-in-4
returns-in-4 c =
    let put = put c.args.width 4 c.args.i c.args.stored c.args.bytes.now _ (sym c.in-4.is) c.requires.width c.requires.storable c.ranges.stored c.requires.within c.write_int-in-4.ensures in
    record { long = put.long; here = put.here; other = put.other }

pub returns-in_default : goal.returns-in_default
returns-in_default c =
    let put = put c.args.width 8 c.args.i c.args.stored c.args.bytes.now _ (widest c.args.width c.requires.width (omega arith) (omega arith) (omega arith)) c.requires.width c.requires.storable c.ranges.stored c.requires.within c.write_int-in_default.ensures in
    record { long = put.long; here = put.here; other = put.other }
