-- The bytes of a rectangle that is written, as a function of those before.
use Rattle.std.proofs.Common.{◌≡◌, ◌≢◌, ◌<◌, ◌≤◌, ℕ, zero, suc, ◌+◌, ◌*◌, ◌/◌, ◌%◌, ◌^◌, Bool, true, false, List, [], length, slice_index, refl, arith, sym, ◌∙◌, ap, inl, inr, ℤ, pos}
use Rattle.std.specs.Int.{w64, cast_unsigned, byte_at, bytes_high_first}
use Rattle.std.proofs.Math.Nat.{mod-lt, mod-eq_of_lt, mul-le-mul_right, div-add-mod}
use Rattle.std.proofs.lemmas.Bool.{cases_lt, cases_Bool, and_parts, and_from, lt-ltb, ltb-true, cond-true, cond-false}
use Rattle.std.proofs.lemmas.Bool.Decides.{nat_tests}
use Rattle.std.proofs.lemmas.Int.{ints}
use Rattle.std.proofs.lemmas.List.{append-nil, get_or_past}
use Rattle.std.proofs.lemmas.List.Elements.{All-get_or}
use Rattle.std.proofs.lemmas.List.FromFn.{length-map-range_with_len, get_or-map-range_with_len, fill_by_all}
use Rattle.byteorder.specs.Endian.{big_from, big_bytes, low_bytes, twos_complement}
use Rattle.byteorder.specs.Numbers.{big_from-bytes, big_from-lt}
use Rattle.fits_pixels.specs.Pixels.{stored_number, stored_bytes, pixel, IsWidth, IsStorable}
use Rattle.fits_pixels.proofs.PixelLemmas.{big_from-same, stored_back, by_width, width_range}
use Rattle.fits_plane.specs.Rectangle.{product, is_inside, rank, rectangle_size, IsRectangle, IsWritten, is_pixel_of, byte_written, rectangle_written, RectangleIsWritten, WrittenIsRectangle}
use Rattle.fits_plane.proofs.PlaceLemmas.{rem_at, quot_at, number-lt-size, rank-number}

-- ---- the bytes of a number

-- the two parts of a number, the lower below a power
record SameParts (a b r s : ℕ) : Type 0 where
  high : a ≡ b
  low : r ≡ s

-- they are those of no other
same_parts : (p a b r s : ℕ) → r < p → s < p → a * p + r ≡ b * p + s → SameParts a b r s
same_parts p a b r s h k e = elim (cases_lt a b) [
  | inl lt ↦ let up : (a + 1) * p ≤ b * p = mul-le-mul_right p (omega arith) in absurd (omega arith)
  | inr ge ↦ elim (cases_lt b a) [
    | inl lt ↦ let up : (b + 1) * p ≤ a * p = mul-le-mul_right p (omega arith) in absurd (omega arith)
    | inr le ↦ let same : a ≡ b = omega arith in record { high = same; low = omega (arith, e, ap (λ m. m * p) same) }
  ]
]

-- bytes whose number is the same are the same
pub same_bytes : (i j n : ℕ) (xs ys : List ℕ) → ((k : ℕ) → slice_index xs k < 256) → ((k : ℕ) → slice_index ys k < 256) → big_from i n xs ≡ big_from j n ys
    → (k : ℕ) → k < n → slice_index xs (i + k) ≡ slice_index ys (j + k)
same_bytes i j zero xs ys f g e k b = absurd (omega (arith, b))
same_bytes i j (suc n) xs ys f g e zero b =
    let parts = same_parts (256 ^ n) (slice_index xs i) (slice_index ys j) (big_from (suc i) n xs) (big_from (suc j) n ys) (big_from-lt (suc i) n xs f) (big_from-lt (suc j) n ys g) e in
    let p : i + 0 ≡ i = omega arith in
    let q : j + 0 ≡ j = omega arith in
    ap (slice_index xs) p ∙ parts.high ∙ ap (slice_index ys) (sym q)
same_bytes i j (suc n) xs ys f g e (suc k) b =
    let parts = same_parts (256 ^ n) (slice_index xs i) (slice_index ys j) (big_from (suc i) n xs) (big_from (suc j) n ys) (big_from-lt (suc i) n xs f) (big_from-lt (suc j) n ys g) e in
    let p : i + suc k ≡ suc i + k = omega arith in
    let q : j + suc k ≡ suc j + k = omega arith in
    ap (slice_index xs) p ∙ same_bytes (suc i) (suc j) n xs ys f g parts.low k (omega (arith, b)) ∙ ap (slice_index ys) (sym q)

-- each byte of a number is below 256
byte_small : (n x : ℕ) → byte_at n x < 256
byte_small zero x = mod-lt x (omega arith)
byte_small (suc n) x = mod-lt (x / 256 ^ suc n) (omega arith)

-- as are those of the list of them
pub bytes_small : (n x k : ℕ) → slice_index (bytes_high_first n x) k < 256
bytes_small zero x k = omega arith
bytes_small (suc n) x zero = byte_small n x
bytes_small (suc n) x (suc k) = bytes_small n x k

-- ---- a number that is read and stored again

-- at one byte
again_1 : (x : ℕ) → x < 256 → cast_unsigned w64 (pos x) % 2 ^ 8 ≡ x
again_1 x h = omega (arith, ints, h)

-- at two bytes
again_2 : (x : ℕ) → x < 65536 → cast_unsigned w64 (twos_complement 2 x) % 2 ^ 16 ≡ x
again_2 x h = grind (arith, ints, nat_tests)

-- at four bytes
again_4 : (x : ℕ) → x < 2 ^ 32 → cast_unsigned w64 (twos_complement 4 x) % 2 ^ 32 ≡ x
again_4 x h = grind (arith, ints, nat_tests)

-- at eight bytes
again_8 : (x : ℕ) → x < 2 ^ 64 → cast_unsigned w64 (twos_complement 8 x) % 2 ^ 64 ≡ x
again_8 x h = grind (arith, ints, nat_tests)

-- the bits that stand for the number of some bits are these
stored_again : (w x : ℕ) → IsWidth w → x < 256 ^ w → low_bytes w64 w (stored_number w x) ≡ x
stored_again w x h = by_width (λ w. x < 256 ^ w → low_bytes w64 w (stored_number w x) ≡ x)
    (λ s. again_1 x s) (λ s. again_2 x (omega (arith, s))) (λ s. again_4 x (omega (arith, s))) (λ s. again_8 x (omega (arith, s))) w h

-- the bytes of a pixel are those of its number
pub pixel_bytes : (w i k : ℕ) (z : ℤ) (xs : List ℕ) → IsWidth w → ((k : ℕ) → slice_index xs k < 256) → pixel w xs i ≡ z → k < w
    → slice_index xs (i * w + k) ≡ slice_index (stored_bytes w z) k
pixel_bytes w i k z xs h f e b =
    let x : ℕ = big_from (i * w) w xs in
    let small = big_from-lt (i * w) w xs f in
    let bits : low_bytes w64 w z ≡ x = ap (low_bytes w64 w) (sym e) ∙ stored_again w x h small in
    let number : big_from 0 w (stored_bytes w z) ≡ x =
    ap (λ y. big_from 0 w (big_bytes w y)) bits ∙ (let n = append-nil (big_bytes w x) in ap (big_from 0 w) (sym n)) ∙ big_from-bytes w x [] ∙ mod-eq_of_lt small in
    let zero : 0 + k ≡ k = omega arith in
    same_bytes (i * w) 0 w xs (stored_bytes w z) f (bytes_small w (low_bytes w64 w z)) (sym number) k b ∙ ap (slice_index (stored_bytes w z)) zero

-- bytes that are those of a number make a pixel of it
pub pixel_of_bytes : (w i : ℕ) (z : ℤ) (xs : List ℕ) → IsWidth w → IsStorable w z → ((k : ℕ) → k < w → slice_index xs (i * w + k) ≡ slice_index (stored_bytes w z) k) → pixel w xs i ≡ z
pixel_of_bytes w i z xs h s f =
    let bits : ℕ = low_bytes w64 w z in
    ap (stored_number w) (big_from-same (i * w) 0 w xs (big_bytes w bits) (λ k b. let e : k ≡ 0 + k = omega arith in f k b ∙ ap (slice_index (big_bytes w bits)) e)
    ∙ (let e = append-nil (big_bytes w bits) in ap (big_from 0 w) (sym e)) ∙ big_from-bytes w bits []) ∙ stored_back w z h s

-- ---- a rectangle

module _ (w : ℕ) (axes lo hi : List ℕ) (number : ℕ → ℤ) where
  -- a byte of a pixel of the rectangle
  byte_inside : (bytes : List ℕ) (j i k : ℕ) → j / w ≡ i → j % w ≡ k → i < product axes → is_inside axes lo hi i ≡ true
      → byte_written w axes lo hi number bytes j ≡ slice_index (stored_bytes w (number (rank axes lo hi i))) k
  byte_inside bytes j i k q r b e =
      let test : is_pixel_of axes lo hi i ≡ true = and_from _ _ (lt-ltb i (product axes) b) e in
      rw (q, r) (cond-true _ _ _ test)

  -- a byte of another
  byte_outside : (bytes : List ℕ) (j : ℕ) → is_pixel_of axes lo hi (j / w) ≡ false → byte_written w axes lo hi number bytes j ≡ slice_index bytes j
  byte_outside bytes j e = cond-false _ _ _ e

  -- a byte of the bytes written
  byte_at_place : (bytes : List ℕ) (j : ℕ) → j < length bytes → slice_index (rectangle_written w axes lo hi number bytes) j ≡ byte_written w axes lo hi number bytes j
  unfolding rectangle_written
  byte_at_place bytes j b = get_or-map-range_with_len (byte_written w axes lo hi number bytes) 0 (length bytes) j j 0 b (omega arith)

  -- as many bytes as before
  pub length-rectangle_written : (bytes : List ℕ) → length (rectangle_written w axes lo hi number bytes) ≡ length bytes
  unfolding rectangle_written
  length-rectangle_written bytes = length-map-range_with_len (byte_written w axes lo hi number bytes) 0 (length bytes)

  -- a pixel of the rectangle that is written
  pixel_inside : (bytes : List ℕ) (i : ℕ) → IsWidth w → IsRectangle axes lo hi → product axes * w ≤ length bytes → ((k : ℕ) → k < rectangle_size lo hi → IsStorable w (number k))
      → i < product axes → is_inside axes lo hi i ≡ true → pixel w (rectangle_written w axes lo hi number bytes) i ≡ number (rank axes lo hi i)
  pixel_inside bytes i h r room s b e =
      let size : rank axes lo hi i < rectangle_size lo hi = omega (arith, rank-number axes lo hi i r b e, number-lt-size axes lo hi i r b e) in
      pixel_of_bytes w i (number (rank axes lo hi i)) (rectangle_written w axes lo hi number bytes) h (s _ size) (λ k c.
      let more = mul-le-mul_right w b in
      let near : i * w + k < length bytes = omega (arith, more, room, c) in
      let turn : i * w + k ≡ k + w * i = omega arith in
      let quot : (i * w + k) / w ≡ i = ap (λ m. m / w) turn ∙ quot_at k w i c in
      let rem : (i * w + k) % w ≡ k = ap (λ m. m % w) turn ∙ rem_at k w i c in
      byte_at_place bytes (i * w + k) near ∙ byte_inside bytes (i * w + k) i k quot rem b e)

  -- a byte of no pixel of it
  byte_kept : (bytes : List ℕ) (j : ℕ) → ((i : ℕ) → i < product axes → is_inside axes lo hi i ≡ true → i ≢ j / w)
      → slice_index (rectangle_written w axes lo hi number bytes) j ≡ slice_index bytes j
  byte_kept bytes j none = elim (cases_lt j (length bytes)) [
    | inl lt ↦ byte_at_place bytes j lt ∙ byte_outside bytes j (elim (cases_Bool (is_pixel_of axes lo hi (j / w))) [
      | inl hit ↦ let both = and_parts _ _ hit in absurd (none (j / w) (ltb-true _ _ both.0) both.1 refl)
      | inr miss ↦ miss
    ])
    | inr ge ↦ get_or_past (rectangle_written w axes lo hi number bytes) j 0 (omega (arith, ge, length-rectangle_written bytes)) ∙ sym (get_or_past bytes j 0 ge)
  ]

  -- no other bytes are written so
  byte_only : (old new : List ℕ) (j : ℕ) → IsWidth w → ((k : ℕ) → slice_index new k < 256) → IsWritten w axes lo hi number old new → slice_index new j ≡ byte_written w axes lo hi number old j
  byte_only old new j h f v =
      let some : 0 < w = let range = width_range w h in omega (arith, range.0) in
      let place : j / w * w + j % w ≡ j = omega (arith, div-add-mod j w) in
      elim (cases_Bool (is_pixel_of axes lo hi (j / w))) [
        | inl hit ↦
            let both = and_parts _ _ hit in
            let b = ltb-true _ _ both.0 in
            ap (slice_index new) (sym place) ∙ pixel_bytes w (j / w) (j % w) _ new h f (v.inside (j / w) b both.1) (mod-lt j some)
            ∙ sym (byte_inside old j (j / w) (j % w) refl refl b both.1)
        | inr miss ↦ v.outside j (λ i b e same. let test = and_from _ _ (lt-ltb i (product axes) b) e in absurd (both_ways (ap (is_pixel_of axes lo hi) same) test miss)) ∙ sym (byte_outside old j miss)
      ]
    where
      both_ways : {s t : Bool} → s ≡ t → s ≡ true → t ≡ false → ⊥
      both_ways e p q = absurd (cc)

-- numbers that can be stored are written
pub rectangle_is_written : RectangleIsWritten
rectangle_is_written w axes lo hi number bytes h r room s = record {
  long = length-rectangle_written w axes lo hi number bytes;
  inside = λ i b e. pixel_inside w axes lo hi number bytes i h r room s b e;
  outside = λ j none. byte_kept w axes lo hi number bytes j none;
}

-- in one way, where each byte is known to be one
pub written_is : (w : ℕ) (axes lo hi : List ℕ) (number : ℕ → ℤ) (old new : List ℕ) → IsWidth w → ((k : ℕ) → slice_index new k < 256) → IsWritten w axes lo hi number old new
    → new ≡ rectangle_written w axes lo hi number old
unfolding rectangle_written
written_is w axes lo hi number old new h f v =
    fill_by_all (byte_written w axes lo hi number old) new (length old) 0 v.long (λ j b. byte_only w axes lo hi number old new j h f v)

-- in one way
pub written_is_rectangle : WrittenIsRectangle
written_is_rectangle w axes lo hi number old new h f v =
    written_is w axes lo hi number old new h (λ k. elim (cases_lt k (length new)) [
      | inl lt ↦ All-get_or (λ b. b < 256) new k 0 lt f
      | inr ge ↦ let past = get_or_past new k 0 ge in omega (arith, past)
    ]) v
