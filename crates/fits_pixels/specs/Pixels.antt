-- Stored pixels in a list of bytes (FITS Standard 4.0, 3.3.2 and 5.2).
use Rattle.std.specs.Prelude.{◌≡◌, ◌⊎◌, ◌<◌, ◌↔◌, ◌≤ℤ◌, ◌-ℤ◌, int_le, Bool, IsTrue, ◌&&◌, length, slice_index_or, ℕ, zero, suc, ◌+◌, ◌-◌, ◌*◌, ◌/◌, ◌^◌, ◌==◌, ℤ, pos, negsuc, List, [], ◌∷◌, if◌then◌else◌}
use Rattle.std.specs.Int.{w64}
use Rattle.std.specs.List.{list_all}
use Rattle.byteorder.specs.Endian.{big_from, big_bytes, low_bytes, twos_complement}

-- how many bytes a pixel of integers has
abbrev pub IsWidth : ℕ → Type 0
IsWidth width = (width ≡ 1) ⊎ ((width ≡ 2) ⊎ ((width ≡ 4) ⊎ (width ≡ 8)))

-- how many bytes one has that can be negative
abbrev pub IsSigned : ℕ → Type 0
IsSigned width = (width ≡ 2) ⊎ ((width ≡ 4) ⊎ (width ≡ 8))

-- the number that a pixel's bits stand for: unsigned at one byte, else two's complement
abbrev pub stored_number : ℕ → ℕ → ℤ
stored_number width bits = if width == 1 then pos bits else twos_complement width bits

-- the least number that a pixel of so many bytes can store
abbrev pub least_stored : ℕ → ℤ
least_stored width = if width == 1 then pos 0 else negsuc (256 ^ width / 2 - 1)

-- the greatest number that a pixel of so many bytes can store
abbrev pub greatest_stored : ℕ → ℤ
greatest_stored width = if width == 1 then pos 255 else pos (256 ^ width / 2 - 1)

-- a pixel of so many bytes can store the number
pub record IsStorable (width : ℕ) (number : ℤ) : Type 0 where
  pub least : least_stored width ≤ℤ number
  pub greatest : number ≤ℤ greatest_stored width

-- can a pixel of so many bytes store the number?
unfoldable pub can_store : ℕ → ℤ → Bool
can_store width number =
    int_le (least_stored width) number && int_le number (greatest_stored width)

-- can such pixels store each of the values less the offset?
unfoldable pub can_store_all : ℕ → ℤ → List ℤ → Bool
can_store_all width offset values = list_all (λ value. can_store width (value -ℤ offset)) values

-- it is so just where the number is storable
abbrev pub CanStoreDecides : Type 0
CanStoreDecides = (width : ℕ) (number : ℤ) → IsTrue (can_store width number) ↔ IsStorable width number

-- each of the values less the offset is storable
abbrev pub AreStorable : ℕ → ℤ → List ℤ → Type 0
AreStorable width offset values =
    (k : ℕ) → k < length values → IsStorable width (slice_index_or values k (pos 0) -ℤ offset)

-- it is so just where each of them is storable
abbrev pub CanStoreAllDecides : Type 0
CanStoreAllDecides =
    (width : ℕ) (offset : ℤ) (values : List ℤ)
    → IsTrue (can_store_all width offset values) ↔ AreStorable width offset values

-- the bytes of a pixel that stores the number, the highest first (3.3.2)
abbrev pub stored_bytes : ℕ → ℤ → List ℕ
stored_bytes width number = big_bytes width (low_bytes w64 width number)

-- stored pixel i, from 0: the big-endian number of bytes i * width to i * width + width - 1
abbrev pub pixel : ℕ → List ℕ → ℕ → ℤ
pixel width bytes i = stored_number width (big_from (i * width) width bytes)

-- n stored pixels from pixel a on
abbrev pub pixels : ℕ → List ℕ → ℕ → ℕ → List ℤ
pixels width bytes a zero = []
pixels width bytes a (suc n) = pixel width bytes a ∷ pixels width bytes (a + 1) n
