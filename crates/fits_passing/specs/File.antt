-- A file: HDUs, one after another, and the bytes that trail them (FITS Standard 4.0, section 3.1).
use Rattle.std.specs.Prelude.{◌≡◌, ℕ, ◌+◌, ◌≤◌, Bool, true, false, List, [], ◌∷◌, ◌++◌, length, take, drop, codes, All, nat_eq, nat_le}
use Rattle.std.specs.List.{flat_map, starts_with}
use Rattle.fits_card.specs.Header.{header_bytes}
use Rattle.fits_passing.specs.Hdu.{HduParts, hdu_bytes, IsHdu}
use Rattle.fits_passing.specs.declared.limits.TheConstants.{FILE_LIMIT, HDU_LIMIT}
use Rattle.fits_passing.specs.declared.offsets.HduOffsets.{HduOffsets}

-- the HDUs, and what follows the last one (own)
pub record FileParts : Type 0 where
  pub hdus : List HduParts
  pub tail : List ℕ

-- HDUs' bytes
abbrev pub joined_hdus : List HduParts → List ℕ
joined_hdus hdus = flat_map hdu_bytes hdus

-- a file's bytes
abbrev pub file_bytes : FileParts → List ℕ
file_bytes file = joined_hdus file.hdus ++ file.tail

-- an extension begins here (3.1)
unfoldable pub begins_extension : List ℕ → Bool
begins_extension bytes = starts_with nat_eq bytes (codes "XTENSION")

-- no HDU stands before the next one, so that it is the primary one
abbrev pub is_first : List HduParts → Bool
is_first [] = true
is_first (hdu ∷ hdus) = false

-- an HDU must stand here, after these: the first one, or an extension that begins
abbrev pub goes_on : List HduParts → List ℕ → Bool
goes_on [] rest = true
goes_on (hdu ∷ hdus) rest = begins_extension rest

-- the bytes begin with these HDUs: the first is the primary one, the others are extensions (3.1)
pub record IsFrontOf (bytes : List ℕ) (hdus : List HduParts) (rest : List ℕ) : Type 0 where
  pub joined : bytes ≡ joined_hdus hdus ++ rest
  pub first : All (IsHdu true) (take 1 hdus)
  pub others : All (IsHdu false) (drop 1 hdus)

-- the bytes are this file: its HDUs go as far as they can, and it keeps to the limits
pub record IsFileOf (bytes : List ℕ) (file : FileParts) : Type 0 where
  pub front : IsFrontOf bytes file.hdus file.tail
  pub ends : goes_on file.hdus file.tail ≡ false
  pub size : length bytes ≤ FILE_LIMIT
  pub count : length file.hdus ≤ HDU_LIMIT

-- bytes follow the last HDU
abbrev pub is_followed : List ℕ → Bool
is_followed [] = false
is_followed (byte ∷ bytes) = true

-- the parts are those of a file
abbrev pub IsFile : FileParts → Type 0
IsFile file = IsFileOf (file_bytes file) file

-- the offsets of HDUs of which the first begins here
abbrev pub offsets_from : ℕ → List HduParts → List HduOffsets
offsets_from start [] = []
offsets_from start (hdu ∷ hdus) =
    let data_start : ℕ = start + length (header_bytes hdu.header) in
    let hdu_end : ℕ = data_start + length hdu.data_unit in
    (record { header_start = start; data_start = data_start; hdu_end = hdu_end }) ∷ offsets_from hdu_end hdus

-- whether HDU h is the primary one
abbrev pub is_primary_hdu : ℕ → Bool
is_primary_hdu h = nat_le h 1
