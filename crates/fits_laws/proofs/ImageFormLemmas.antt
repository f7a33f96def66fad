-- The words of a new image, put together and taken apart.
use Rattle.std.proofs.Common.{◌≡◌, ℕ, List, [], ◌∷◌, refl, ap, sym, ◌∙◌, inl, inr, true, Option, None, Some}
use Rattle.std.specs.Prelude.{◌==◌, codes}
use Rattle.std.specs.List.{slice_split}
use Rattle.std.specs.Str.{bytes_eq}
use Rattle.std.proofs.lemmas.Bool.{cases_Bool}
use Rattle.std.proofs.lemmas.Slice.Eq.{bytes_eq-Decides}
use Rattle.fits_image.specs.declared.kind.Kind.{Kind}
use Rattle.fits_image.specs.declared.kind.Kind.TheVariants.{U8, I8, I16, U16, I32, U32, I64, U64}
use Rattle.fits_script.specs.Cut.{HasNo}
use Rattle.fits_laws.specs.Forms.{kind_word, AreNumbers, IsAxes, IsLengths}
use Rattle.fits_script.specs.Words.{axes_of_word, each_read, kind_of_word, list_of_text, number_of_word}
use Rattle.fits_script.proofs.VerbLemmas.{either_some}
use Rattle.fits_laws.proofs.FormLemmas.{number_of_word-is, IsNumber-is}
use Rattle.fits_laws.proofs.JoinedLemmas.{each_read-none, each_read-some, list_of_text-joined, joined-parts, some_parts, EachHasNo}
use Rattle.fits_laws.proofs.PixelFormLemmas.{digit-between, digits_without, joined_without}

-- the kind of a kind's word
pub kind_of_word-is : (kind : Kind) → kind_of_word (kind_word kind) ≡ Some kind
unfolding kind_of_word
kind_of_word-is U8 = refl
kind_of_word-is I8 = refl
kind_of_word-is I16 = refl
kind_of_word-is U16 = refl
kind_of_word-is I32 = refl
kind_of_word-is U32 = refl
kind_of_word-is I64 = refl
kind_of_word-is U64 = refl

-- which has no space
pub kind_word-bare : (kind : Kind) → HasNo 32 (kind_word kind)
kind_word-bare U8 = refl
kind_word-bare I8 = refl
kind_word-bare I16 = refl
kind_word-bare U16 = refl
kind_word-bare I32 = refl
kind_word-bare U32 = refl
kind_word-bare I64 = refl
kind_word-bare U64 = refl

-- a word that is a kind's
named : (word : List ℕ) (is kind : Kind) → bytes_eq word (kind_word is) ≡ true → ◌≡◌ {A = Option Kind} (Some is) (Some kind) → word ≡ kind_word kind
named word is kind test e = let same : is ≡ kind = cc in (bytes_eq-Decides word (kind_word is)).0 test ∙ ap kind_word same

-- a word that names a kind is its word
pub kind_of_word-says : (word : List ℕ) (kind : Kind) → kind_of_word word ≡ Some kind → word ≡ kind_word kind
unfolding kind_of_word
kind_of_word-says word kind e =
    either_some (bytes_eq word (codes "u8")) _ _ kind e (named word U8 kind)
    (λ not_u8 e1. either_some (bytes_eq word (codes "i8")) _ _ kind e1 (named word I8 kind)
    (λ not_i8 e2. either_some (bytes_eq word (codes "i16")) _ _ kind e2 (named word I16 kind)
    (λ not_i16 e3. either_some (bytes_eq word (codes "u16")) _ _ kind e3 (named word U16 kind)
    (λ not_u16 e4. either_some (bytes_eq word (codes "i32")) _ _ kind e4 (named word I32 kind)
    (λ not_i32 e5. either_some (bytes_eq word (codes "u32")) _ _ kind e5 (named word U32 kind)
    (λ not_u32 e6. either_some (bytes_eq word (codes "i64")) _ _ kind e6 (named word I64 kind)
    (λ not_i64 e7. either_some (bytes_eq word (codes "u64")) _ _ kind e7 (named word U64 kind)
    (λ not_u64 e8. absurd (let z : ◌≡◌ {A = Option Kind} None (Some kind) = e8 in cc)))))))))

-- words that are lengths read as their numbers, and have neither comma nor space
record LengthsRead (words : List (List ℕ)) (numbers : List ℕ) : Type 0 where
  pub read : each_read number_of_word words ≡ Some numbers
  pub no_comma : EachHasNo 44 words
  pub no_space : EachHasNo 32 words

-- words that are lengths
lengths_read : (words : List (List ℕ)) (numbers : List ℕ) → AreNumbers words numbers → LengthsRead words numbers
unfolding each_read
lengths_read [] [] are = record { read = refl; no_comma = tt; no_space = tt }
lengths_read [] (n ∷ numbers) are = absurd are
lengths_read (word ∷ words) [] are = absurd are
lengths_read (word ∷ words) (n ∷ numbers) are =
    let others = lengths_read words numbers are.1 in
    record {
      read = rw (number_of_word-is word n are.0, others.read) refl;
      no_comma = (digits_without 44 word (λ b d. (digit-between b d).1) are.0.digits, others.no_comma);
      no_space = (digits_without 32 word (λ b d. (digit-between b d).2) are.0.digits, others.no_space);
    }

-- words that read as lengths are
AreNumbers-are : (words : List (List ℕ)) (numbers : List ℕ) → each_read number_of_word words ≡ Some numbers → AreNumbers words numbers
AreNumbers-are [] numbers e = rw (sym (each_read-none number_of_word numbers e)) tt
AreNumbers-are (word ∷ words) numbers e = each_read-some number_of_word word words numbers e (λ number others is are same. rw (sym same) (IsNumber-is word number is, AreNumbers-are words others are))

-- what a text that is lengths reads as
lengths_of_text : (text axes : List ℕ) → IsLengths text axes → list_of_text number_of_word 44 text ≡ Some axes
lengths_of_text text axes is =
    let read = lengths_read is.words axes is.are_numbers in
    list_of_text-joined number_of_word 44 text is.words axes is.is is.some read.no_comma read.read

-- a hyphen is no length
not_hyphen : list_of_text number_of_word 44 (codes "-") ≡ None
unfolding list_of_text each_read number_of_word
not_hyphen = refl

-- the axes of a word that is some
pub axes_of_word-is : (text axes : List ℕ) → IsAxes text axes → axes_of_word text ≡ Some axes
unfolding axes_of_word
axes_of_word-is text axes (inl none) = rw (none.0, none.1) refl
axes_of_word-is text axes (inr is) =
    let read = lengths_of_text text axes is in
    elim (cases_Bool (bytes_eq text (codes "-"))) [
      | inl hyphen ↦ absurd (let z : ◌≡◌ {A = Option (List ℕ)} (Some axes) None = sym read ∙ ap (list_of_text number_of_word 44) ((bytes_eq-Decides text (codes "-")).0 hyphen) ∙ not_hyphen in cc)
      | inr other ↦ rw (other, read) refl
    ]

-- a word with axes is some
pub IsAxes-is : (text axes : List ℕ) → axes_of_word text ≡ Some axes → IsAxes text axes
unfolding axes_of_word list_of_text
IsAxes-is text axes e =
    either_some (bytes_eq text (codes "-")) _ _ axes e
    (λ hyphen none. inl ((bytes_eq-Decides text (codes "-")).0 hyphen, let z : ◌≡◌ {A = Option (List ℕ)} (Some []) (Some axes) = none in cc))
    (λ other read. let words : List (List ℕ) = slice_split (λ b. b == 44) text in inr (record { words = words; is = joined-parts 44 text; some = some_parts 44 text; are_numbers = AreNumbers-are words axes read }))

-- axes have no space
pub axes_bare : (text axes : List ℕ) → IsAxes text axes → HasNo 32 text
axes_bare text axes (inl none) = rw none.0 refl
axes_bare text axes (inr is) = rw is.is (joined_without 32 44 is.words refl (lengths_read is.words axes is.are_numbers).no_space)
