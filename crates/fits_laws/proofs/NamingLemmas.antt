-- HDUs by the names of extensions, in extended lines and elsewhere.
use Rattle.std.proofs.Common.{◌≡◌, inl, inr, ℕ, suc, ◌+◌, ◌-◌, ◌<◌, Bool, true, false, ◌&&◌, List, [], ◌∷◌, length, drop, map, get_or, Option, None, Some, refl, ap, sym, ◌∙◌, arith, if◌then◌else◌, codes}
use Rattle.std.specs.Prelude.{ok_or, option_and_then}
use Rattle.std.specs.List.{position, position_from, slice_get}
use Rattle.std.specs.Option.{option_map_or}
use Rattle.std.proofs.lemmas.Grind.{get_or_after_one}
use Rattle.std.proofs.lemmas.Iterator.Adapters.{position_from-zero}
use Rattle.std.proofs.lemmas.List.{get_or-map, length-drop, length-map}
use Rattle.std.proofs.lemmas.Option.{slice_get_cases}
use Rattle.fits_value.specs.Says.{long_says}
use Rattle.fits_value.specs.declared.value.Value.{Value}
use Rattle.fits_value.specs.declared.value.Value.TheVariants.{Undefined, Logical, Integer, Real, Complex, Str}
use Rattle.fits_rules.specs.Lead.{lead_place}
use Rattle.fits_passing.specs.File.{FileParts}
use Rattle.fits_passing.specs.Hdu.{HduParts}
use Rattle.fits_passing.specs.Headers.{cards_of}
use Rattle.fits_hdu.specs.Keyword.{keyword_value, said_at}
use Rattle.fits_hdu.specs.declared.keyword.KeywordFault.TheVariants.{BadValue}
use Rattle.fits_session.specs.Query.{or_refused, value_in}
use Rattle.fits_script.specs.Words.{number_of_word}
use Rattle.fits_tell.specs.Asked.{after_comma, extension_number, is_asked_extension, is_name_said, is_string, is_version_asked, is_version_said, lead_says, name_asked, AsksFor}
use Rattle.fits_tell.specs.declared.asked_extension.AskedExtension.{AskedExtension}
use Rattle.fits_extended.specs.Same.{is_text}
use Rattle.fits_extended.specs.Stands.{first_from, has_name, has_version, has_wanted_version, is_called, number_at, number_by, number_called}

-- a value is a text either way
text-string : (text : List ℕ) (value : Value) → is_text text value ≡ is_string text value
text-string text Undefined = refl
text-string text (Logical flag) = refl
text-string text (Integer it) = refl
text-string text (Real it) = refl
text-string text (Complex real imaginary) = refl
text-string text (Str it) = refl

-- what stands at a lead is this name, if something does
name_at : (name : List ℕ) (cards : List (List ℕ)) (lead : Option ℕ) → has_name name (or_refused (said_at cards lead)) ≡ is_name_said name (option_and_then (long_says cards) lead)
name_at name cards None = refl
name_at name cards (Some place) = by (long_says cards place)
  where
    by : (said : Option (Value × Option (List ℕ))) → has_name name (or_refused (ok_or said BadValue)) ≡ is_name_said name said
    by None = refl
    by (Some it) = text-string name it.0

-- or this version
version_at : (version : ℕ) (cards : List (List ℕ)) (lead : Option ℕ) → has_version version (or_refused (said_at cards lead)) ≡ is_version_said version (option_and_then (long_says cards) lead)
version_at version cards None = refl
version_at version cards (Some place) = by (long_says cards place)
  where
    by : (said : Option (Value × Option (List ℕ))) → has_version version (or_refused (ok_or said BadValue)) ≡ is_version_said version said
    by None = refl
    by (Some it) = refl

-- an HDU with these cards has the version that is wanted
version_wanted : (file : FileParts) (h : ℕ) (cards : List (List ℕ)) (version : Option ℕ) → value_in file h (codes "EXTVER  ") ≡ or_refused (keyword_value cards (codes "EXTVER  ")) → has_wanted_version file h version ≡ is_version_asked version cards
unfolding keyword_value
version_wanted file h cards None there = refl
version_wanted file h cards (Some version) there = ap (has_version version) there ∙ version_at version cards (lead_place cards (codes "EXTVER  "))

-- an HDU that is there is called so either way
called-asked : (file : FileParts) (i : ℕ) (hdu : HduParts) (asked : AskedExtension) → slice_get file.hdus i ≡ Some hdu → is_called file asked.name.items asked.version (suc i) ≡ is_asked_extension asked hdu.header.cards
unfolding is_called is_asked_extension keyword_value
called-asked file i hdu asked there =
    let cards : List (List ℕ) = hdu.header.cards in
    let named : value_in file (suc i) (codes "EXTNAME ") ≡ or_refused (keyword_value cards (codes "EXTNAME ")) = rw there refl in
    let numbered : value_in file (suc i) (codes "EXTVER  ") ≡ or_refused (keyword_value cards (codes "EXTVER  ")) = rw there refl in
    let first : has_name asked.name.items (value_in file (suc i) (codes "EXTNAME ")) ≡ is_name_said asked.name.items (lead_says cards (codes "EXTNAME ")) = ap (has_name asked.name.items) named ∙ name_at asked.name.items cards (lead_place cards (codes "EXTNAME ")) in
    rw (first, version_wanted file (suc i) cards asked.version numbered) refl

-- the same of the HDU after so many extensions
called_there : (file : FileParts) (asked : AskedExtension) (k : ℕ) (hdu : HduParts) → 1 + k < length file.hdus → slice_get file.hdus (1 + k) ≡ Some hdu → get_or file.hdus (1 + k) hdu ≡ hdu
    → is_called file asked.name.items asked.version (0 + 2 + k) ≡ is_asked_extension asked (get_or (drop 1 (cards_of file.hdus)) k [])
called_there file asked k hdu l there is =
    let number : 0 + 2 + k ≡ suc (1 + k) = omega arith in
    let cards : get_or (drop 1 (cards_of file.hdus)) k [] ≡ hdu.header.cards =
    get_or_after_one (cards_of file.hdus) k [] ∙ get_or-map (λ (it : HduParts). it.header.cards) file.hdus (1 + k) hdu [] l ∙ ap (λ (it : HduParts). it.header.cards) is in
    ap (is_called file asked.name.items asked.version) number ∙ called-asked file (1 + k) hdu asked there ∙ ap (is_asked_extension asked) (sym cards)

-- the first of so many numbers is at the first place, where a test of both is the same
first_from-position : (is : ℕ → Bool) (test : List (List ℕ) → Bool) (i : ℕ) (xs : List (List (List ℕ))) → ((k : ℕ) → k < length xs → is (i + 2 + k) ≡ test (get_or xs k []))
    → first_from is (length xs) (i + 2) ≡ option_map_or (λ index. index + 2) (position_from test i xs) 0
unfolding first_from
first_from-position is test i [] same = refl
first_from-position is test i (x ∷ xs) same =
    let zero : i + 2 + 0 ≡ i + 2 = omega arith in
    let here : is (i + 2) ≡ test x = sym (ap is zero) ∙ same 0 (omega arith) in
    let next : i + 2 + 1 ≡ i + 1 + 2 = omega arith in
    let others : first_from is (length xs) (i + 2 + 1) ≡ option_map_or (λ index. index + 2) (position_from test (i + 1) xs) 0 =
    ap (first_from is (length xs)) next ∙ first_from-position is test (i + 1) xs (λ k l. ap is (later k) ∙ same (suc k) (omega (arith, l))) in
    rw here (by (test x) others)
  where
    later : (k : ℕ) → i + 1 + 2 + k ≡ i + 2 + suc k
    later k = omega arith

    by : (b : Bool) → first_from is (length xs) (i + 2 + 1) ≡ option_map_or (λ index. index + 2) (position_from test (i + 1) xs) 0
        → (if b then i + 2 else first_from is (length xs) (i + 2 + 1)) ≡ option_map_or (λ index. index + 2) (if b then Some i else position_from test (i + 1) xs) 0
    by true others = refl
    by false others = others

-- the first extension that is called so either way
number_called-asked : (file : FileParts) (asked : AskedExtension) → number_called file asked.name.items asked.version ≡ extension_number (cards_of file.hdus) asked
unfolding extension_number
number_called-asked file asked =
    let xs : List (List (List ℕ)) = drop 1 (cards_of file.hdus) in
    let count : length xs ≡ length file.hdus - 1 = omega (arith, length-drop 1 (cards_of file.hdus), length-map file.hdus (λ (hdu : HduParts). hdu.header.cards)) in
    ap (λ n. first_from (is_called file asked.name.items asked.version) n 2) (sym count)
    ∙ first_from-position (is_called file asked.name.items asked.version) (is_asked_extension asked) 0 xs (λ k l. same k (omega (arith, l, count)))
    ∙ ap (λ found. option_map_or (λ index. index + 2) found 0) (sym (position_from-zero (is_asked_extension asked) xs))
  where
    same : (k : ℕ) → 1 + k < length file.hdus → is_called file asked.name.items asked.version (0 + 2 + k) ≡ is_asked_extension asked (get_or (drop 1 (cards_of file.hdus)) k [])
    same k l =
        elim (slice_get_cases file.hdus (1 + k)).1 [
          | inl it ↦ called_there file asked k it.0 l it.2 it.3
          | inr past ↦ absurd (omega (arith, l, past.0))
        ]

-- what `NAME` and `NAME,VER` stand for
number_by-called : (file : FileParts) (text : List ℕ) (version : Option ℕ) → number_by file text version ≡ number_called file (name_asked text version) version
number_by-called file text None = refl
number_by-called file text (Some version) = refl

-- `@NAME` and `@NAME,VER` mean one HDU
pub number_at-asked : (file : FileParts) (word : List ℕ) (asked : AskedExtension) → AsksFor (drop 1 word) asked → number_at file word ≡ extension_number (cards_of file.hdus) asked
unfolding number_at
number_at-asked file word asked asks =
    number_by-called file (drop 1 word) (number_of_word (after_comma (drop 1 word)))
    ∙ ap (λ version. number_called file (name_asked (drop 1 word) version) version) (sym asks.0)
    ∙ ap (λ name. number_called file name asked.version) (sym asks.1)
    ∙ number_called-asked file asked
