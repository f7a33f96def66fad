-- What differs in two files (own; FITS Standard 4.0, sections 3.1 and 3.3.1).
use Rattle.std.specs.Prelude.{◌≡◌, ℕ, ◌+◌, ◌==◌, Bool, ◌&&◌, ◌||◌, List, [], ◌∷◌, ◌++◌, length, codes, if◌then◌else◌}
use Rattle.std.specs.Fmt.{decimal}
use Rattle.std.specs.Str.{bytes_eq}
use Rattle.fits_card.specs.Header.{Header, is_fill_blank}
use Rattle.fits_passing.specs.File.{FileParts}
use Rattle.fits_passing.specs.Hdu.{HduParts}
use Rattle.fits_tell.specs.Numbered.{numbered}
use Rattle.fits_diff.specs.Matching.{TellsCards}

-- how many bytes two texts have alike, from their first on
abbrev pub common_len : List ℕ → List ℕ → ℕ
common_len [] ys = 0
common_len (x ∷ xs) [] = 0
common_len (x ∷ xs) (y ∷ ys) = if x == y then common_len xs ys + 1 else 0

-- END is the same card, and the fills are the same bytes, or spaces, however many
abbrev pub have_one_end : Header → Header → Bool
have_one_end x y = bytes_eq x.end y.end && ((is_fill_blank x && is_fill_blank y) || bytes_eq x.fill y.fill)

-- `hdu H ..`
abbrev pub hdu_text : ℕ → List ℕ → List ℕ
hdu_text h text = codes "hdu " ++ (decimal h ++ text)

-- the line of an END or a fill that differ
abbrev pub end_text : ℕ → Header → Header → List ℕ
end_text h x y = if have_one_end x y then [] else hdu_text h (codes " END or the fill after it differs\n")

-- the line of data units that differ from a byte on, counted from 0
abbrev pub byte_line : ℕ → ℕ → List ℕ
byte_line h byte = hdu_text h (codes " data differ at byte " ++ (decimal byte ++ codes "\n"))

-- the line of data units that have other lengths
abbrev pub lengths_line : ℕ → ℕ → ℕ → List ℕ
lengths_line h len other_len = hdu_text h (codes " data have " ++ (decimal len ++ (codes " bytes and " ++ (decimal other_len ++ codes "\n"))))

-- the line of data units, by how many bytes they have, and how many they have alike
abbrev pub data_line : ℕ → ℕ → ℕ → ℕ → List ℕ
data_line h len other_len same = if len == other_len then (if same == len then [] else byte_line h same) else lengths_line h len other_len

-- the line of data units, with their fill, that differ: in how many bytes they have, or from which on
abbrev pub data_text : ℕ → List ℕ → List ℕ → List ℕ
data_text h xs ys = data_line h (length xs) (length ys) (common_len xs ys)

-- these lines tell what differs in HDU h of two files
pub record TellsHdu (h : ℕ) (x y : HduParts) (text : List ℕ) : Type 0 where
  pub cards : List ℕ
  pub told : TellsCards h x.header.cards y.header.cards cards
  pub is : text ≡ cards ++ (end_text h x.header y.header ++ data_text h x.data_unit y.data_unit)

-- the line of an HDU that one file has alone
abbrev pub alone_line : List ℕ → ℕ → List ℕ
alone_line label h = hdu_text h (codes " only in " ++ (label ++ codes "\n"))

-- the lines of such HDUs, from this number on
abbrev pub alone_text : List ℕ → ℕ → List HduParts → List ℕ
alone_text label h hdus = numbered (λ n hdu. alone_line label n) h hdus

-- these lines tell what differs in HDUs, from this number on
abbrev pub TellsHdus : ℕ → List HduParts → List HduParts → List ℕ → Type 0
TellsHdus h [] ys text = text ≡ alone_text (codes "B") h ys
TellsHdus h (x ∷ xs) [] text = text ≡ alone_text (codes "A") h (x ∷ xs)
TellsHdus h (x ∷ xs) (y ∷ ys) text = (one : List ℕ) × (rest : List ℕ) × (text ≡ one ++ rest) × TellsHdu h x y one × TellsHdus (h + 1) xs ys rest

-- the line of bytes after the last HDU that differ
abbrev pub tail_line : Bool → List ℕ
tail_line same = if same then [] else codes "bytes after the last HDU differ\n"

-- the same by these bytes
abbrev pub tail_text : List ℕ → List ℕ → List ℕ
tail_text xs ys = tail_line (bytes_eq xs ys)

-- these lines tell what differs in two files: A and B, in the words of their lines
pub record TellsFiles (x y : FileParts) (text : List ℕ) : Type 0 where
  pub of_hdus : List ℕ
  pub told : TellsHdus 1 x.hdus y.hdus of_hdus
  pub is : text ≡ of_hdus ++ tail_text x.tail y.tail
