-- The forms of a script's lines: which lines say a command (own).
use Rattle.std.specs.Prelude.{◌≡◌, ◌⊎◌, ℕ, ◌≤◌, Bool, true, false, IsTrue, ℤ, List, [], ◌∷◌, ◌++◌, length, codes, Option, None, Some, unwrap_or}
use Rattle.std.specs.List.{join_with_byte, list_all}
use Rattle.fits_card.specs.Card.{card_of_text}
use Rattle.fits_value.specs.Number.{signed, value_of}
use Rattle.fits_value.specs.Says.{field_says}
use Rattle.fits_value.specs.Spelling.{is_digit}
use Rattle.fits_value.specs.declared.value.Value.{Value}
use Rattle.fits_image.specs.declared.kind.Kind.{Kind}
use Rattle.fits_image.specs.declared.kind.Kind.TheVariants.{U8, I8, I16, U16, I32, U32, I64, U64}
use Rattle.fits_edit.specs.declared.card_edit.CardEdit.{CardEdit}
use Rattle.fits_edit.specs.declared.card_edit.CardEdit.TheVariants.{Insert, Put, Delete, Move, Set, Unset}
use Rattle.fits_edit.specs.declared.edit.Edit.{Edit as SessionEdit}
use Rattle.fits_edit.specs.declared.edit.Edit.TheVariants.{Hdu, NewImage, RemoveHdu}
use Rattle.fits_edit.specs.declared.hdu_edit.HduEdit.{HduEdit}
use Rattle.fits_edit.specs.declared.hdu_edit.HduEdit.TheVariants.{Cards, Keep, Pixels, Release, Reshape, Stamp}
use Rattle.fits_edit.specs.declared.paint.Paint.{Paint}
use Rattle.fits_edit.specs.declared.paint.Paint.TheVariants.{Fill, Write}
use Rattle.fits_script.specs.Cut.{HasNo}
use Rattle.fits_script.specs.Words.{name_of_text}
use Rattle.fits_script.specs.declared.command.Command.{Command}
use Rattle.fits_script.specs.declared.command.Command.TheVariants.{Nothing, Edit, Offsets, Get, Positions, Report, Statistics, Rectangle, Sums, Kept}

-- what follows a word: nothing, or one space and the rest of the line
abbrev pub followed : Option (List ℕ) → List ℕ
followed None = []
followed (Some rest) = 32 ∷ rest

-- a word, one space, and the rest of the line
abbrev pub before : List ℕ → List ℕ → List ℕ
before word rest = word ++ followed (Some rest)

-- 1 to 18 digits, and their number
pub record IsNumber (word : List ℕ) (number : ℕ) : Type 0 where
  pub digits : IsTrue (list_all is_digit word)
  pub some : 1 ≤ length word
  pub few : length word ≤ 18
  pub is : number ≡ value_of word

-- `lo:hi`
pub record IsAxis (text : List ℕ) (lo hi : ℕ) : Type 0 where
  pub lower : List ℕ
  pub upper : List ℕ
  pub is : text ≡ lower ++ (codes ":" ++ upper)
  pub is_lower : IsNumber lower lo
  pub is_upper : IsNumber upper hi

-- each is `lo:hi` of its axis
abbrev pub AreAxes : List (List ℕ) → List ℕ → List ℕ → Type 0
AreAxes [] [] [] = Unit {0}
AreAxes (axis ∷ axes) (l ∷ lo) (h ∷ hi) = IsAxis axis l h × AreAxes axes lo hi
AreAxes axes lo hi = ⊥

-- `lo:hi` for each axis, one at least, joined by commas
pub record IsRectangle (word lo hi : List ℕ) : Type 0 where
  pub axes : List (List ℕ)
  pub is : word ≡ join_with_byte 44 axes
  pub some : 1 ≤ length axes
  pub are_axes : AreAxes axes lo hi

-- each word is a number
abbrev pub AreNumbers : List (List ℕ) → List ℕ → Type 0
AreNumbers [] [] = Unit {0}
AreNumbers (word ∷ words) (number ∷ numbers) = IsNumber word number × AreNumbers words numbers
AreNumbers words numbers = ⊥

-- numbers, one at least, joined by commas
pub record IsLengths (text axes : List ℕ) : Type 0 where
  pub words : List (List ℕ)
  pub is : text ≡ join_with_byte 44 words
  pub some : 1 ≤ length words
  pub are_numbers : AreNumbers words axes

-- `-` for no axis, or the length of each
abbrev pub IsAxes : List ℕ → List ℕ → Type 0
IsAxes text axes = ((text ≡ codes "-") × (axes ≡ [])) ⊎ IsLengths text axes

-- the word for a kind of pixels
abbrev pub kind_word : Kind → List ℕ
kind_word U8 = codes "u8"
kind_word I8 = codes "i8"
kind_word I16 = codes "i16"
kind_word U16 = codes "u16"
kind_word I32 = codes "i32"
kind_word U32 = codes "u32"
kind_word I64 = codes "i64"
kind_word U64 = codes "u64"

-- a minus sign, or nothing
abbrev pub minus_if : Bool → List ℕ
minus_if true = codes "-"
minus_if false = []

-- an optional minus sign and 1 to 30 digits, and their number
pub record IsValue (word : List ℕ) (number : ℤ) : Type 0 where
  pub negative : Bool
  pub size : List ℕ
  pub is : word ≡ minus_if negative ++ size
  pub digits : IsTrue (list_all is_digit size)
  pub some : 1 ≤ length size
  pub few : length size ≤ 30
  pub value : number ≡ signed negative (value_of size)

-- each is a value of its number
abbrev pub AreValues : List (List ℕ) → List ℤ → Type 0
AreValues [] [] = Unit {0}
AreValues (word ∷ words) (number ∷ numbers) = IsValue word number × AreValues words numbers
AreValues words numbers = ⊥

-- values, one at least, a space between
pub record IsValues (text : List ℕ) (values : List ℤ) : Type 0 where
  pub words : List (List ℕ)
  pub is : text ≡ join_with_byte 32 words
  pub some : 1 ≤ length words
  pub are_values : AreValues words values

-- 1 to 8 bytes without a space, and the keyword name that begins with them and goes on in spaces
pub record IsName (word name : List ℕ) : Type 0 where
  pub unspaced : HasNo 32 word
  pub some : 1 ≤ length word
  pub few : length word ≤ 8
  pub is : name ≡ name_of_text word

-- at most 80 bytes, and the card that begins with them and goes on in spaces
pub record IsCard (text card : List ℕ) : Type 0 where
  pub short : length text ≤ 80
  pub is : card ≡ card_of_text text

-- `P CARD`, here and below what follows H; CARD may be empty without the space before it
pub record IsCardForm (p : ℕ) (card : List ℕ) (text : Option (List ℕ)) : Type 0 where
  pub place : List ℕ
  pub rest : Option (List ℕ)
  pub is : text ≡ Some (place ++ followed rest)
  pub is_place : IsNumber place p
  pub is_card : IsCard (unwrap_or rest []) card

-- `P`
pub record IsPlaceForm (p : ℕ) (text : Option (List ℕ)) : Type 0 where
  pub place : List ℕ
  pub is : text ≡ Some place
  pub is_place : IsNumber place p

-- `P Q`
pub record IsMoveForm (p q : ℕ) (text : Option (List ℕ)) : Type 0 where
  pub from : List ℕ
  pub to : List ℕ
  pub is : text ≡ Some (before from to)
  pub is_from : IsNumber from p
  pub is_to : IsNumber to q

-- `NAME`
pub record IsNameForm (name : List ℕ) (text : Option (List ℕ)) : Type 0 where
  pub word : List ℕ
  pub is : text ≡ Some word
  pub is_name : IsName word name

-- `NAME FIELD`: what FIELD says as bytes 11 to 80 of a card would; it may be empty without the space before it
pub record IsFieldForm (name : List ℕ) (value : Value) (comment : Option (List ℕ)) (text : Option (List ℕ)) : Type 0 where
  pub word : List ℕ
  pub rest : Option (List ℕ)
  pub is : text ≡ Some (word ++ followed rest)
  pub is_name : IsName word name
  pub says : field_says (unwrap_or rest []) ≡ Some (value, comment)

-- `RECT`
pub record IsRectangleForm (lo hi : List ℕ) (text : Option (List ℕ)) : Type 0 where
  pub area : List ℕ
  pub is : text ≡ Some area
  pub is_area : IsRectangle area lo hi

-- `V`, or `V V ..`
abbrev pub ArePaint : List ℕ → Paint → Type 0
ArePaint words (Fill value) = IsValue words value
ArePaint words (Write values) = IsValues words values

-- `RECT V`, or `RECT V V ..`
pub record IsPaintForm (lo hi : List ℕ) (paint : Paint) (text : Option (List ℕ)) : Type 0 where
  pub area : List ℕ
  pub words : List ℕ
  pub is : text ≡ Some (before area words)
  pub is_area : IsRectangle area lo hi
  pub are_paint : ArePaint words paint

-- `KIND AXES`
pub record IsArrayForm (kind : Kind) (axes : List ℕ) (text : Option (List ℕ)) : Type 0 where
  pub word : List ℕ
  pub is : text ≡ Some (before (kind_word kind) word)
  pub are_axes : IsAxes word axes

-- nothing
abbrev pub IsAlone : Option (List ℕ) → Type 0
IsAlone text = text ≡ None

-- an empty line, or a comment
abbrev pub IsNothing : List ℕ → Type 0
IsNothing line = (line ≡ []) ⊎ ((rest : List ℕ) × (line ≡ codes "#" ++ rest))

-- the line is this word, HDU h, and what follows of this form
pub record Names (verb : List ℕ) (h : ℕ) (IsForm : Option (List ℕ) → Type 0) (line : List ℕ) : Type 0 where
  pub hdu : List ℕ
  pub rest : Option (List ℕ)
  pub is : line ≡ before verb (hdu ++ followed rest)
  pub is_hdu : IsNumber hdu h
  pub form : IsForm rest

-- the line says this edit of the cards of HDU h
abbrev pub CardsSaid : List ℕ → ℕ → CardEdit → Type 0
CardsSaid line h (Insert p card) = Names (codes "ins") h (IsCardForm p card) line
CardsSaid line h (Put p card) = Names (codes "put") h (IsCardForm p card) line
CardsSaid line h (Delete p) = Names (codes "del") h (IsPlaceForm p) line
CardsSaid line h (Move p q) = Names (codes "mov") h (IsMoveForm p q) line
CardsSaid line h (Set name value comment) = Names (codes "set") h (IsFieldForm name value comment) line
CardsSaid line h (Unset name) = Names (codes "unset") h (IsNameForm name) line

-- the word of an edit of pixels
abbrev pub paint_word : Paint → List ℕ
paint_word (Fill value) = codes "fill"
paint_word (Write values) = codes "write"

-- the line says this edit of HDU h
abbrev pub HduSaid : List ℕ → ℕ → HduEdit → Type 0
HduSaid line h (Cards edit) = CardsSaid line h edit
HduSaid line h (Pixels lo hi paint) = Names (paint_word paint) h (IsPaintForm lo hi paint) line
HduSaid line h (Reshape kind axes) = Names (codes "reshape") h (IsArrayForm kind axes) line
HduSaid line h Stamp = Names (codes "stamp") h IsAlone line
HduSaid line h Keep = Names (codes "keep") h IsAlone line
HduSaid line h Release = Names (codes "release") h IsAlone line

-- the line says this edit
abbrev pub EditSaid : List ℕ → SessionEdit → Type 0
EditSaid line (Hdu h edit) = HduSaid line h edit
EditSaid line (NewImage h kind axes) = Names (codes "new") h (IsArrayForm kind axes) line
EditSaid line (RemoveHdu h) = Names (codes "rm") h IsAlone line

-- the line says this command
abbrev pub Says : List ℕ → Command → Type 0
Says line Nothing = IsNothing line
Says line (Edit edit) = EditSaid line edit
Says line Offsets = line ≡ codes "off"
Says line Report = line ≡ codes "rep"
Says line (Get h name) = Names (codes "get") h (IsNameForm name) line
Says line (Positions h name) = Names (codes "pos") h (IsNameForm name) line
Says line (Statistics h) = Names (codes "stat") h IsAlone line
Says line (Rectangle h lo hi) = Names (codes "rect") h (IsRectangleForm lo hi) line
Says line (Sums h) = Names (codes "sum") h IsAlone line
Says line (Kept h) = Names (codes "kept") h IsAlone line
