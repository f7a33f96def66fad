-- What the words of a script's lines read as (own).
use Rattle.std.specs.Prelude.{ℕ, ◌-◌, ◌&&◌, ◌==◌, Bool, false, nat_le, ℤ, List, [], ◌∷◌, ◌++◌, length, map, replicate, codes, Option, None, Some, option_and_then, if◌then◌else◌}
use Rattle.std.specs.List.{find, list_all, slice_split}
use Rattle.std.specs.Str.{bytes_eq}
use Rattle.fits_value.specs.Number.{signed, value_of}
use Rattle.fits_value.specs.Spelling.{is_digit, is_space}
use Rattle.fits_image.specs.declared.kind.Kind.{Kind}
use Rattle.fits_image.specs.declared.kind.Kind.TheVariants.{U8, I8, I16, U16, I32, U32, I64, U64}
use Rattle.fits_script.specs.declared.verb.TheConstants.{VERBS}
use Rattle.fits_script.specs.declared.verb.Verb.{Verb}
use Rattle.fits_script.specs.declared.verb.Verb.TheVariants as verb

-- the first word of a text: its bytes before the first space, or all of them
unfoldable pub first_word : List ℕ → List ℕ
first_word [] = []
first_word (byte ∷ bytes) = if is_space byte then [] else byte ∷ first_word bytes

-- what follows that space, if there is one
unfoldable pub after_word : List ℕ → Option (List ℕ)
after_word [] = None
after_word (byte ∷ bytes) = if is_space byte then Some bytes else after_word bytes

-- what follows the first word of the rest of a line
abbrev pub after_next : Option (List ℕ) → Option (List ℕ)
after_next None = None
after_next (Some text) = after_word text

-- what follows from one part of a word; where the part is missing, nothing does
infixl 10 ◌>>=◌
abbrev pub ◌>>=◌ : {X Y : Type 0} → Option X → (X → Option Y) → Option Y
part >>= next = option_and_then next part

-- 1 to so many digits
abbrev pub is_number : ℕ → List ℕ → Bool
is_number most word = list_all is_digit word && nat_le 1 (length word) && nat_le (length word) most

-- the number of 1 to 18 digits
unfoldable pub number_of_word : List ℕ → Option ℕ
number_of_word word = if is_number 18 word then Some (value_of word) else None

-- the keyword name that begins with a text and goes on in spaces
abbrev pub name_of_text : List ℕ → List ℕ
name_of_text text = text ++ replicate (8 - length text) 32

-- the keyword name of 1 to 8 bytes
unfoldable pub name_of_word : List ℕ → Option (List ℕ)
name_of_word word = if nat_le 1 (length word) && nat_le (length word) 8 then Some (name_of_text word) else None

-- what each text reads as, if each does
unfoldable pub each_read : {X : Type 0} → (List ℕ → Option X) → List (List ℕ) → Option (List X)
each_read reads [] = Some []
each_read reads (text ∷ texts) = do
  item ← reads text
  items ← each_read reads texts
  Some (item ∷ items)

-- what the parts of a text between such bytes read as
unfoldable pub list_of_text : {X : Type 0} → (List ℕ → Option X) → ℕ → List ℕ → Option (List X)
list_of_text reads separator text = each_read reads (slice_split (λ byte. byte == separator) text)

-- what stands before the first colon, or all where there is none
unfoldable pub before_colon : List ℕ → List ℕ
before_colon [] = []
before_colon (byte ∷ bytes) = if byte == 58 then [] else byte ∷ before_colon bytes

-- what stands after it, or nothing
unfoldable pub after_colon : List ℕ → List ℕ
after_colon [] = []
after_colon (byte ∷ bytes) = if byte == 58 then bytes else after_colon bytes

-- `lo:hi`, two numbers
unfoldable pub axis_of_word : List ℕ → Option (ℕ × ℕ)
axis_of_word text = do
  lower ← number_of_word (before_colon text)
  upper ← number_of_word (after_colon text)
  Some (lower, upper)

-- the corners of a rectangle, which is `lo:hi` for each axis, joined by commas
unfoldable pub corners_of_word : List ℕ → Option (List ℕ × List ℕ)
corners_of_word word = do
  axes ← list_of_text axis_of_word 44 word
  Some (map (λ axis. axis.0) axes, map (λ axis. axis.1) axes)

-- the kind of pixels that a word names
unfoldable pub kind_of_word : List ℕ → Option Kind
kind_of_word word =
    if bytes_eq word (codes "u8") then Some U8
    else if bytes_eq word (codes "i8") then Some I8
    else if bytes_eq word (codes "i16") then Some I16
    else if bytes_eq word (codes "u16") then Some U16
    else if bytes_eq word (codes "i32") then Some I32
    else if bytes_eq word (codes "u32") then Some U32
    else if bytes_eq word (codes "i64") then Some I64
    else if bytes_eq word (codes "u64") then Some U64
    else None

-- the length of each axis, joined by commas, or `-` where there is no axis
unfoldable pub axes_of_word : List ℕ → Option (List ℕ)
axes_of_word word = if bytes_eq word (codes "-") then Some [] else list_of_text number_of_word 44 word

-- whether a minus sign comes first
abbrev pub is_negative : List ℕ → Bool
is_negative [] = false
is_negative (byte ∷ bytes) = byte == 45

-- a text without the minus sign that comes first, if it does
abbrev pub without_minus : List ℕ → List ℕ
without_minus [] = []
without_minus (byte ∷ bytes) = if byte == 45 then bytes else byte ∷ bytes

-- the number of a value, which is an optional minus sign and 1 to 30 digits
unfoldable pub value_of_word : List ℕ → Option ℤ
value_of_word word =
    let size = without_minus word in if is_number 30 size then Some (signed (is_negative word) (value_of size)) else None

-- the word of a verb
abbrev pub verb_word : Verb → List ℕ
verb_word verb.Insert = codes "ins"
verb_word verb.Put = codes "put"
verb_word verb.Delete = codes "del"
verb_word verb.Move = codes "mov"
verb_word verb.Set = codes "set"
verb_word verb.Unset = codes "unset"
verb_word verb.Fill = codes "fill"
verb_word verb.Write = codes "write"
verb_word verb.Reshape = codes "reshape"
verb_word verb.New = codes "new"
verb_word verb.Remove = codes "rm"
verb_word verb.Stamp = codes "stamp"
verb_word verb.Keep = codes "keep"
verb_word verb.Release = codes "release"
verb_word verb.Kept = codes "kept"
verb_word verb.Get = codes "get"
verb_word verb.Positions = codes "pos"
verb_word verb.Statistics = codes "stat"
verb_word verb.Rectangle = codes "rect"
verb_word verb.Sums = codes "sum"
verb_word verb.Offsets = codes "off"
verb_word verb.Report = codes "rep"

-- the verb that a word is
unfoldable pub verb_of : List ℕ → Option Verb
verb_of word = find (λ verb. bytes_eq word (verb_word verb)) VERBS
