-- Pixels of a list of bytes: of a part of it, and after a write.
use Rattle.std.proofs.Common.{◌≡◌, ◌≤◌, ◌<◌, ◌+◌, ◌-◌, ◌*◌, ◌^◌, ◌%◌, ℕ, zero, suc, List, [], ◌∷◌, ◌++◌, length, slice_index, take, drop, refl, arith, sym, ◌∙◌, ap, ℤ, FitsSigned, pos, subst, ◌⊎◌, inl, inr}
use Rattle.std.proofs.lemmas.Bool.Decides.{nat_tests}
use Rattle.std.proofs.lemmas.List.{append-nil, get_or-drop, get_or-take, get_or_append_left, get_or-append_right, length-take, length-drop, length-append}
use Rattle.std.proofs.Math.Nat.{mul-le-mul_right}
use borrow.Rule.Slice.PartMut.{put_mid, post_of}
use Rattle.std.specs.Prelude.{negsuc, ◌≤ℤ◌}
use Rattle.std.specs.Int.{w64, cast_unsigned}
use Rattle.std.proofs.lemmas.Int.{ints}
use Rattle.byteorder.specs.Endian.{big_from, big_bytes, low_bytes, twos_complement}
use Rattle.byteorder.specs.Numbers.{big_from-bytes, length-bytes_high_first}
use Rattle.fits_pixels.specs.Pixels.{stored_number, pixel, pixels, IsWidth, IsStorable}

-- the bytes from place `at` on are those of `piece`, and each other byte is as before
pub record IsPut (at : ℕ) (piece old new : List ℕ) : Type 0 where
  pub long : length new ≡ length old
  pub inside : (k : ℕ) → k < length piece → slice_index new (at + k) ≡ slice_index piece k
  pub before : (j : ℕ) → j < at → slice_index new j ≡ slice_index old j
  pub after : (j : ℕ) → at + length piece ≤ j → slice_index new j ≡ slice_index old j

-- the number from place j of the bytes from place i on
pub big_from-drop : (i j n : ℕ) (xs : List ℕ) → big_from j n (drop i xs) ≡ big_from (i + j) n xs
big_from-drop i j zero xs = refl
big_from-drop i j (suc n) xs =
    let byte = get_or-drop i xs j 0 in
    let rest = big_from-drop i (suc j) n xs in
    let e : i + suc j ≡ suc (i + j) = omega arith in
    rw (byte, rest, e) refl

-- the number of bytes that are alike
pub big_from-same : (i j n : ℕ) (xs ys : List ℕ) → ((k : ℕ) → k < n → slice_index xs (i + k) ≡ slice_index ys (j + k)) → big_from i n xs ≡ big_from j n ys
big_from-same i j zero xs ys h = refl
big_from-same i j (suc n) xs ys h =
    let first : slice_index xs i ≡ slice_index ys j = let a : i + 0 ≡ i = omega arith in let b : j + 0 ≡ j = omega arith in ap (slice_index xs) (sym a) ∙ h 0 (omega arith) ∙ ap (slice_index ys) b in
    let rest = big_from-same (suc i) (suc j) n xs ys (λ k b. let p : suc i + k ≡ i + suc k = omega arith in let q : suc j + k ≡ j + suc k = omega arith in ap (slice_index xs) p ∙ h (suc k) (omega arith) ∙ ap (slice_index ys) (sym q)) in
    rw (first, rest) refl

-- pixels whose bytes are alike
pub pixel-same : (w i j : ℕ) (xs ys : List ℕ) → ((k : ℕ) → k < w → slice_index xs (i * w + k) ≡ slice_index ys (j * w + k)) → pixel w xs i ≡ pixel w ys j
pixel-same w i j xs ys h = ap (stored_number w) (big_from-same (i * w) (j * w) w xs ys h)

-- lists of pixels that are alike one by one
pub pixels-same : (w a b n : ℕ) (xs ys : List ℕ) → ((x : ℕ) → x < n → pixel w xs (a + x) ≡ pixel w ys (b + x)) → pixels w xs a n ≡ pixels w ys b n
pixels-same w a b zero xs ys h = refl
pixels-same w a b (suc n) xs ys h =
    let first : pixel w xs a ≡ pixel w ys b = let p : a + 0 ≡ a = omega arith in let q : b + 0 ≡ b = omega arith in ap (pixel w xs) (sym p) ∙ h 0 (omega arith) ∙ ap (pixel w ys) q in
    let rest = pixels-same w (a + 1) (b + 1) n xs ys (λ x l. let p : a + 1 + x ≡ a + suc x = omega arith in let q : b + 1 + x ≡ b + suc x = omega arith in ap (pixel w xs) p ∙ h (suc x) (omega arith) ∙ ap (pixel w ys) (sym q)) in
    rw (first, rest) refl

-- the pixels of two runs, one after the other
pub pixels-append : (w a m n : ℕ) (xs : List ℕ) → pixels w xs a (m + n) ≡ pixels w xs a m ++ pixels w xs (a + m) n
pixels-append w a zero n xs = let e : a + 0 ≡ a = omega arith in let z : 0 + n ≡ n = omega arith in ap (pixels w xs a) z ∙ ap (λ k. pixels w xs k n) (sym e)
pixels-append w a (suc m) n xs =
    let ih = pixels-append w (a + 1) m n xs in
    let e : a + suc m ≡ a + 1 + m = omega arith in
    let z : suc m + n ≡ suc (m + n) = omega arith in
    rw (z, ih, e) refl

-- there are n pixels
pub length-pixels : (w a n : ℕ) (xs : List ℕ) → length (pixels w xs a n) ≡ n
length-pixels w a zero xs = refl
length-pixels w a (suc n) xs = ap suc (length-pixels w (a + 1) n xs)

-- the pixels of a part of the bytes, which begins at a pixel
pub pixels-part : (w p size n at : ℕ) (xs : List ℕ) → at ≡ p * w → n * w ≤ size → pixels w (take size (drop at xs)) 0 n ≡ pixels w xs p n
pixels-part w p size n at xs e h = pixels-same w 0 p n (take size (drop at xs)) xs (λ x b.
    pixel-same w (0 + x) (p + x) (take size (drop at xs)) xs (λ k l.
    let more = mul-le-mul_right w b in
    let near : (0 + x) * w + k < size = omega (arith, more, h) in
    let place : at + ((0 + x) * w + k) ≡ (p + x) * w + k = omega (arith, e) in
    get_or-take size (drop at xs) ((0 + x) * w + k) 0 near ∙ get_or-drop at xs ((0 + x) * w + k) 0 ∙ ap (slice_index xs) place))

-- a piece written at a place, by its bytes
pub is_put : (at m : ℕ) (xs piece rest part : List ℕ) → at + m ≡ length xs → length piece ≤ m → rest ≡ drop at xs → part ≡ piece ++ drop (length piece) rest → IsPut at piece xs (put_mid at m xs part)
is_put at m xs piece rest part e h r p =
    let n : ℕ = length piece in
    let front : length (take at xs) ≡ at = omega (arith, length-take at xs) in
    let long : length part ≡ m = ap length p ∙ omega (arith, length-append piece (drop n rest), length-drop n rest, ap length r, length-drop at xs) in
    let after : length (post_of at m xs) ≡ 0 = omega (arith, length-drop m (drop at xs), length-drop at xs) in
    let ys : List ℕ = part ++ post_of at m xs in
    record {
      long = omega (arith, length-append (take at xs) ys, length-append part (post_of at m xs));
      inside = λ k b.
          let q : at + k - at ≡ k = omega arith in
          get_or-append_right (take at xs) ys at (at + k) 0 front (omega arith)
          ∙ ap (slice_index ys) q ∙ get_or_append_left part (post_of at m xs) 0 k (omega (arith, long))
          ∙ ap (λ zs. slice_index zs k) p ∙ get_or_append_left piece (drop n rest) 0 k b;
      before = λ j b. get_or_append_left (take at xs) ys 0 j (omega (arith, front)) ∙ get_or-take at xs j 0 b;
      after = λ j b.
          let q : n + (j - at - n) ≡ j - at = omega (arith, b) in
          let back : at + (j - at) ≡ j = omega (arith, b) in
          get_or-append_right (take at xs) ys at j 0 front (omega arith)
          ∙ past part (post_of at m xs) (j - at) after
          ∙ ap (λ zs. slice_index zs (j - at)) p ∙ get_or-append_right piece (drop n rest) n (j - at) 0 refl (omega arith)
          ∙ get_or-drop n rest (j - at - n) 0 ∙ ap (slice_index rest) q
          ∙ ap (λ zs. slice_index zs (j - at)) r ∙ get_or-drop at xs (j - at) 0 ∙ ap (slice_index xs) back;
    }
  where
    past : (xs ys : List ℕ) (i : ℕ) → length ys ≡ 0 → slice_index (xs ++ ys) i ≡ slice_index xs i
    past [] [] i h = refl
    past (x ∷ xs) [] zero h = refl
    past (x ∷ xs) [] (suc i) h = past xs [] i h
    past xs (y ∷ ys) i h = absurd (omega arith)

-- a pixel whose bits were written
pub pixel-put : (w i bits : ℕ) (old new : List ℕ) → IsPut (i * w) (big_bytes w bits) old new → pixel w new i ≡ stored_number w (bits % 256 ^ w)
pixel-put w i bits old new h =
    let long = length-bytes_high_first w bits in
    ap (stored_number w) (big_from-same (i * w) 0 w new (big_bytes w bits) (λ k b. let z : k ≡ 0 + k = omega arith in h.inside k (omega (arith, long)) ∙ ap (slice_index (big_bytes w bits)) z)
    ∙ (let e = append-nil (big_bytes w bits) in ap (big_from 0 w) (sym e)) ∙ big_from-bytes w bits [])

-- ---- a number that is stored and read back

-- at one byte
back_1 : (z : ℤ) → pos 0 ≤ℤ z → z ≤ℤ pos 255 → pos (cast_unsigned w64 z % 2 ^ 8 % 256) ≡ z
back_1 z h k = omega (arith, ints, h, k)

-- at two bytes
back_2 : (z : ℤ) → negsuc 32767 ≤ℤ z → z ≤ℤ pos 32767 → twos_complement 2 (cast_unsigned w64 z % 2 ^ 16 % 65536) ≡ z
back_2 z h k = grind (arith, ints, nat_tests)

-- at four bytes
back_4 : (z : ℤ) → negsuc 2147483647 ≤ℤ z → z ≤ℤ pos 2147483647 → twos_complement 4 (cast_unsigned w64 z % 2 ^ 32 % 2 ^ 32) ≡ z
back_4 z h k = grind (arith, ints, nat_tests)

-- at eight bytes
back_8 : (z : ℤ) → negsuc 9223372036854775807 ≤ℤ z → z ≤ℤ pos 9223372036854775807 → twos_complement 8 (cast_unsigned w64 z % 2 ^ 64 % 2 ^ 64) ≡ z
back_8 z h k = grind (arith, ints, nat_tests)

-- what holds at each of the four widths
pub by_width : (P : ℕ → Type 0) → P 1 → P 2 → P 4 → P 8 → (w : ℕ) → IsWidth w → P w
by_width P one two four eight w h = elim h [
  | inl e ↦ subst P (sym e) one
  | inr h ↦ elim h [
    | inl e ↦ subst P (sym e) two
    | inr h ↦ elim h [
      | inl e ↦ subst P (sym e) four
      | inr e ↦ subst P (sym e) eight
    ]
  ]
]

-- the bits that are written stand for the number
pub stored_back : (w : ℕ) (z : ℤ) → IsWidth w → IsStorable w z → stored_number w (low_bytes w64 w z % 256 ^ w) ≡ z
stored_back w z h = by_width (λ w. IsStorable w z → stored_number w (low_bytes w64 w z % 256 ^ w) ≡ z)
    (λ s. back_1 z s.least s.greatest) (λ s. back_2 z s.least s.greatest) (λ s. back_4 z s.least s.greatest) (λ s. back_8 z s.least s.greatest) w h

-- a width is at least 1 and at most 8
pub width_range : (w : ℕ) → IsWidth w → (1 ≤ w) × (w ≤ 8)
width_range w h = by_width (λ w. (1 ≤ w) × (w ≤ 8)) (omega arith, omega arith) (omega arith, omega arith) (omega arith, omega arith) (omega arith, omega arith) w h

-- pixel i has the number, and each byte of no pixel i is as before
pub record Written (w i : ℕ) (z : ℤ) (old new : List ℕ) : Type 0 where
  pub long : length new ≡ length old
  pub here : pixel w new i ≡ z
  pub other : (j : ℕ) → (j < i * w) ⊎ ((i + 1) * w ≤ j) → slice_index new j ≡ slice_index old j

-- a number is written over the bytes of pixel i
pub written : (w i : ℕ) (z : ℤ) (xs rest part : List ℕ) → IsWidth w → IsStorable w z → (i + 1) * w ≤ length xs → rest ≡ drop (i * w) xs
    → part ≡ big_bytes w (low_bytes w64 w z) ++ drop w rest → Written w i z xs (put_mid (i * w) (length xs - i * w) xs part)
written w i z xs rest part h s within r e =
    let bits : ℕ = low_bytes w64 w z in
    let long = length-bytes_high_first w bits in
    let tail : part ≡ big_bytes w bits ++ drop (length (big_bytes w bits)) rest = e ∙ ap (λ n. big_bytes w bits ++ drop n rest) (sym long) in
    let put = is_put (i * w) (length xs - i * w) xs (big_bytes w bits) rest part (omega (arith, within)) (omega (arith, within, long)) r tail in
    record {
      long = put.long;
      here = pixel-put w i bits xs _ put ∙ stored_back w z h s;
      other = λ j away. elim away [ inl p ↦ put.before j p | inr p ↦ put.after j (omega (arith, p, long)) ];
    }

-- a number that a pixel can store is a signed one of 64 bits
pub storable_fits : (w : ℕ) (z : ℤ) → IsWidth w → IsStorable w z → FitsSigned w64 z
storable_fits w z h = by_width (λ w. IsStorable w z → FitsSigned w64 z) (λ s. omega (arith, ints, s.least, s.greatest)) (λ s. omega (arith, ints, s.least, s.greatest)) (λ s. omega (arith, ints, s.least, s.greatest)) (λ s. omega (arith, ints, s.least, s.greatest)) w h
