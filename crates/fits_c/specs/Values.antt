-- The value of a keyword, in numbers and texts (own).
use Rattle.std.specs.Prelude.{◌≡◌, ◌⊎◌, ◌==◌, ℕ, if◌then◌else◌, List, [], Option, Some, None, Ok, Result}
use Rattle.fits_value.specs.declared.value.Value.{Value}
use Rattle.fits_value.specs.declared.value.Value.TheVariants.{Undefined, Logical, Integer, Real, Complex, Str}
use Rattle.fits_session.specs.Query.{value_in}
use Rattle.fits_session.specs.Session.{file_of}
use Rattle.fits_making.specs.declared.refusal.Refusal.{Refusal}
use Rattle.fits_c.specs.Given.{LieIn}
use Rattle.fits_c.specs.Session.{QueryIsRefused, Stays}
use Rattle.fits_c.specs.declared.live.Live.{Live}
use Rattle.fits_c.specs.declared.valued.Valued.{Valued}

-- the number of a value's kind
abbrev pub kind_of : Value → ℕ
kind_of Undefined = 0
kind_of (Logical it) = if it then 2 else 1
kind_of (Integer text) = 3
kind_of (Real text) = 4
kind_of (Complex real imaginary) = 5
kind_of (Str text) = 6

-- its text: the digits of a number, the real part, the characters of a string
abbrev pub text_of : Value → List ℕ
text_of Undefined = []
text_of (Logical it) = []
text_of (Integer text) = text
text_of (Real text) = text
text_of (Complex real imaginary) = real
text_of (Str text) = text

-- that of its imaginary part
abbrev pub imaginary_of : Value → List ℕ
imaginary_of (Complex real imaginary) = imaginary
imaginary_of value = []

-- a comment, where there is one
abbrev pub comment_by : ℕ → List ℕ → Option (List ℕ)
comment_by there text = if there == 0 then None else Some text

-- this is a value with its comment, and where their texts lie in a session
pub record IsValueOf (answer : Result (Value × Option (List ℕ)) Refusal) (valued : Valued) (live : Live) : Type 0 where
  pub value : Value
  pub is : answer ≡ Ok (value, comment_by valued.commented live.comment.items)
  pub kind_is : valued.kind ≡ kind_of value
  pub text_is : live.text.items ≡ text_of value
  pub imaginary_is : live.imaginary.items ≡ imaginary_of value
  pub text : LieIn valued.text live.text
  pub imaginary : LieIn valued.imaginary live.imaginary
  pub comment : LieIn valued.comment live.comment

-- what a query of a value comes to
pub record ValueComesTo (old : Live) (h : ℕ) (name : List ℕ) (number : ℕ) (valued : Valued) (new : Live) : Type 0 where
  pub stays : Stays old new
  pub given : ((number ≡ 0) × IsValueOf (value_in (file_of old.session) h name) valued new)
      ⊎ QueryIsRefused (value_in (file_of old.session) h name) number
