-- Which problems a report has.
use Rattle.std.proofs.Common.{◌≡◌, ◌⊎◌, ℕ, ◌+◌, ◌<◌, ◌≤◌, Bool, true, false, List, [], ◌∷◌, ◌++◌, length, map, refl, ap, sym, subst, ◌∙◌, arith, inl, inr, Some, zero, suc}
use Rattle.std.specs.Prelude.{◌↔◌, Contains, Option, Result, Ok, Err}
use Rattle.std.specs.List.{flat_map, range_with_len, slice_get}
use Rattle.std.proofs.lemmas.Bool.{cases_lt}
use Rattle.std.proofs.lemmas.List.Elements.{Contains-append_cases, Contains-append_left, Contains-append_right, Contains-push_cases}
use Rattle.fits_rules.specs.Shape.{shape_of}
use Rattle.fits_rules.specs.declared.array_shape.Shape.{Shape}
use Rattle.fits_codes.specs.declared.code.Code.{Code}
use Rattle.fits_codes.specs.declared.code.Code.TheVariants.{DuplicateExtension}
use Rattle.fits_header.specs.Findings.{card_findings, codes_at, found_at}
use Rattle.fits_header.specs.declared.finding.Finding.{Finding}
use Rattle.fits_passing.specs.ExtensionName.{name_codes}
use Rattle.fits_passing.specs.Findings.{hdu_findings, whole_codes}
use Rattle.fits_passing.specs.Hdu.{HduParts}
use Rattle.fits_passing.specs.declared.called.ExtensionName.{ExtensionName}
use Rattle.fits_session.specs.Edit.{hdu_of}
use Rattle.fits_passing.specs.File.{is_primary_hdu, FileParts, is_followed}
use Rattle.fits_passing.specs.Report.{in_hdu, is_repeated, name_in, names_from, report_of, trailing, trails, wrong_from, wrong_in}
use Rattle.fits_laws.specs.Problems.{IsCodeAt, IsTrailing, IsWrong}
use Rattle.fits_passing.specs.declared.problem.Problem.{Problem}
use Rattle.fits_laws.proofs.RepeatedLemmas.{has_repeated, repeated_has}
use Rattle.fits_passing.proofs.ReportLemmas.{trailing_some}

-- no element is in an empty list
in_none : {X : Type 0} (x : X) → Contains [] x → ⊥
in_none x p = omega (arith, p.1)

-- an element of a list is its first, or one of the others
in_cons : {X : Type 0} (x : X) (xs : List X) (y : X) → Contains (x ∷ xs) y → (x ≡ y) ⊎ Contains xs y
in_cons x xs y p =
    elim (Contains-append_cases (x ∷ []) xs y p) [
      | inl first ↦ elim (Contains-push_cases [] x y first) [ inl none ↦ absurd (in_none y none) | inr is ↦ inl is ]
      | inr more ↦ inr more
    ]

-- its first is one
first_in : {X : Type 0} (x : X) (xs : List X) → Contains (x ∷ xs) x
first_in x xs = (0, omega arith, refl)

-- what a function gives of an element
record IsGiven {X Y : Type 0} (f : X → Y) (xs : List X) (y : Y) : Type 0 where
  pub from : X
  pub there : Contains xs from
  pub is : f from ≡ y

-- an element that a function gives
given_in : {X Y : Type 0} (f : X → Y) (xs : List X) (y : Y) → Contains (map f xs) y → IsGiven f xs y
given_in f [] y p = absurd (in_none y p)
given_in f (x ∷ xs) y p =
    elim (in_cons (f x) (map f xs) y p) [
      | inl is ↦ record { from = x; there = first_in x xs; is = is }
      | inr more ↦ let q = given_in f xs y more in record { from = q.from; there = Contains-append_right (x ∷ []) xs q.from q.there; is = q.is }
    ]

-- is given of one
in_given : {X Y : Type 0} (f : X → Y) (xs : List X) (x : X) → Contains xs x → Contains (map f xs) (f x)
in_given f [] x p = absurd (in_none x p)
in_given {X} {Y} f (z ∷ zs) x p =
    elim (in_cons z zs x p) [
      | inl is ↦ subst (λ (y : X). Contains (f z ∷ map f zs) (f y)) is (first_in (f z) (map f zs))
      | inr more ↦ Contains-append_right (f z ∷ []) (map f zs) (f x) (in_given f zs x more)
    ]

-- an element of what a function gives of numbers from one on
record IsGivenAt {Y : Type 0} (f : ℕ → List Y) (start count : ℕ) (y : Y) : Type 0 where
  pub place : ℕ
  pub least : start ≤ place
  pub most : place < start + count
  pub there : Contains (f place) y

-- is given of one of them
given_at : {Y : Type 0} (f : ℕ → List Y) (start count : ℕ) (y : Y) → Contains (flat_map f (range_with_len start count)) y → IsGivenAt f start count y
given_at f start zero y p = absurd (in_none y p)
given_at f start (suc count) y p =
    elim (Contains-append_cases (f start) (flat_map f (range_with_len (start + 1) count)) y p) [
      | inl here ↦ record { place = start; least = omega arith; most = omega arith; there = here }
      | inr more ↦ let q = given_at f (start + 1) count y more in record { place = q.place; least = omega (arith, q.least); most = omega (arith, q.most); there = q.there }
    ]

-- and each that is given is there
at_given : {Y : Type 0} (f : ℕ → List Y) (start count place : ℕ) (y : Y) → start ≤ place → place < start + count → Contains (f place) y → Contains (flat_map f (range_with_len start count)) y
at_given f start zero place y least most p = absurd (omega arith)
at_given {Y} f start (suc count) place y least most p =
    elim (cases_lt start place) [
      | inl later ↦ Contains-append_right (f start) (flat_map f (range_with_len (start + 1) count)) y (at_given f (start + 1) count place y (omega (arith, later)) (omega (arith, most)) p)
      | inr same ↦ Contains-append_left (f start) (flat_map f (range_with_len (start + 1) count)) y (subst (λ (k : ℕ). Contains (f k) y) (omega (arith, same, least)) p)
    ]

-- a code found at a place
abbrev finding_at : ℕ → Code → Finding
finding_at place code = record { place = place; code = code }

-- the code is among those of a place of an HDU, whose name is repeated or isn't
abbrev IsCodeIn : Bool → Shape → HduParts → ℕ → Code → Type 0
IsCodeIn repeated shape hdu zero code = Contains (whole_codes shape hdu ++ name_codes repeated) code
IsCodeIn repeated shape hdu (suc index) code = (index < length hdu.header.cards) × Contains (codes_at shape hdu.header.cards (suc index)) code

-- the code of a card is one of its place
card_code : (repeated : Bool) (shape : Shape) (hdu : HduParts) (place : ℕ) (code : Code) → 1 ≤ place → place < 1 + length hdu.header.cards → Contains (codes_at shape hdu.header.cards place) code → IsCodeIn repeated shape hdu place code
card_code repeated shape hdu zero code least most p = absurd (omega arith)
card_code repeated shape hdu (suc index) code least most p = (omega arith, p)

-- what is found of an HDU is a code of a place
code_found : (repeated : Bool) (shape : Shape) (hdu : HduParts) (found : Finding) → Contains (hdu_findings shape hdu repeated) found → IsCodeIn repeated shape hdu found.place found.code
unfolding hdu_findings card_findings
code_found repeated shape hdu found p =
    let whole_and_name : List Code = whole_codes shape hdu ++ name_codes repeated in
    elim (Contains-append_cases (found_at 0 whole_and_name) (card_findings shape hdu.header.cards) found p) [
      | inl whole ↦ let q = given_in (finding_at 0) whole_and_name found whole in subst (λ (f : Finding). IsCodeIn repeated shape hdu f.place f.code) q.is q.there
      | inr card ↦
          let q = given_at (λ place. found_at place (codes_at shape hdu.header.cards place)) 1 (length hdu.header.cards) found card in
          let r = given_in (finding_at q.place) (codes_at shape hdu.header.cards q.place) found q.there in
          subst (λ (f : Finding). IsCodeIn repeated shape hdu f.place f.code) r.is (card_code repeated shape hdu q.place r.from q.least q.most r.there)
    ]

-- and each code of a place is found
found_code : (repeated : Bool) (shape : Shape) (hdu : HduParts) (place : ℕ) (code : Code) → IsCodeIn repeated shape hdu place code → Contains (hdu_findings shape hdu repeated) (finding_at place code)
unfolding hdu_findings card_findings
found_code repeated shape hdu zero code p =
    let whole_and_name : List Code = whole_codes shape hdu ++ name_codes repeated in
    Contains-append_left (found_at 0 whole_and_name) (card_findings shape hdu.header.cards) (finding_at 0 code) (in_given (finding_at 0) whole_and_name code p)
found_code repeated shape hdu (suc index) code p =
    Contains-append_right (found_at 0 (whole_codes shape hdu ++ name_codes repeated)) (card_findings shape hdu.header.cards) (finding_at (suc index) code)
    (at_given (λ place. found_at place (codes_at shape hdu.header.cards place)) 1 (length hdu.header.cards) (suc index) (finding_at (suc index) code) (omega arith) (omega (arith, p.0))
    (in_given (finding_at (suc index)) (codes_at shape hdu.header.cards (suc index)) code p.1))

-- the problem is wrong in the HDU at an index, the first of which has number h
record IsWrongAt (names : List (Option ExtensionName)) (h : ℕ) (us : List HduParts) (problem : Problem) : Type 0 where
  pub index : ℕ
  pub hdu : HduParts
  pub shape : Shape
  pub at : problem.hdu ≡ h + index
  pub there : slice_get us index ≡ Some hdu
  pub described : shape_of (is_primary_hdu problem.hdu) hdu.header.cards ≡ Ok shape
  pub code : IsCodeIn (is_repeated names (name_in problem.hdu hdu)) shape hdu problem.place problem.code

-- what is wrong in one HDU
wrong_here : (names : List (Option ExtensionName)) (h : ℕ) (u : HduParts) (us : List HduParts) (problem : Problem) (said : Result Shape ℕ) → shape_of (is_primary_hdu h) u.header.cards ≡ said → Contains (wrong_in h u (is_repeated names (name_in h u)) said) problem
    → IsWrongAt names h (u ∷ us) problem
wrong_here names h u us problem (Err place) is p = absurd (in_none problem p)
wrong_here names h u us problem (Ok shape) is p =
    let repeated : Bool = is_repeated names (name_in h u) in
    let q = given_in (in_hdu h) (hdu_findings shape u repeated) problem p in
    subst (λ (it : Problem). IsWrongAt names h (u ∷ us) it) q.is (record { index = 0; hdu = u; shape = shape; at = omega arith; there = refl; described = is; code = code_found repeated shape u q.from q.there })

-- what is wrong in one of several
wrong_among : (names : List (Option ExtensionName)) (h : ℕ) (us : List HduParts) (problem : Problem) → Contains (wrong_from names h us) problem → IsWrongAt names h us problem
wrong_among names h [] problem p = absurd (in_none problem p)
wrong_among names h (u ∷ us) problem p =
    elim (Contains-append_cases (wrong_in h u (is_repeated names (name_in h u)) (shape_of (is_primary_hdu h) u.header.cards)) (wrong_from names (h + 1) us) problem p) [
      | inl here ↦ wrong_here names h u us problem (shape_of (is_primary_hdu h) u.header.cards) refl here
      | inr more ↦ let q = wrong_among names (h + 1) us problem more in record { index = suc q.index; hdu = q.hdu; shape = q.shape; at = omega (arith, q.at); there = q.there; described = q.described; code = q.code }
    ]

-- is listed for it
listed_here : (h : ℕ) (u : HduParts) (repeated : Bool) (shape : Shape) (problem : Problem) (said : Result Shape ℕ) → problem.hdu ≡ h → said ≡ Ok shape → IsCodeIn repeated shape u problem.place problem.code → Contains (wrong_in h u repeated said) problem
listed_here h u repeated shape problem said at is p =
    rw (is, ← at) (in_given (in_hdu problem.hdu) (hdu_findings shape u repeated) (finding_at problem.place problem.code) (found_code repeated shape u problem.place problem.code p))

-- and so for several
listed_among : (names : List (Option ExtensionName)) (h : ℕ) (us : List HduParts) (index : ℕ) (hdu : HduParts) (shape : Shape) (problem : Problem) → problem.hdu ≡ h + index → slice_get us index ≡ Some hdu → shape_of (is_primary_hdu problem.hdu) hdu.header.cards ≡ Ok shape
    → IsCodeIn (is_repeated names (name_in problem.hdu hdu)) shape hdu problem.place problem.code → Contains (wrong_from names h us) problem
listed_among names h [] index hdu shape problem at there described p = cc
listed_among names h (u ∷ us) zero hdu shape problem at there described p =
    let number : problem.hdu ≡ h = omega (arith, at) in
    let same : u ≡ hdu = cc in
    Contains-append_left (wrong_in h u (is_repeated names (name_in h u)) (shape_of (is_primary_hdu h) u.header.cards)) (wrong_from names (h + 1) us) problem
    (listed_here h u (is_repeated names (name_in h u)) shape problem (shape_of (is_primary_hdu h) u.header.cards) number (rw (← number, same) described) (rw (← number, same) p))
listed_among names h (u ∷ us) (suc index) hdu shape problem at there described p =
    Contains-append_right (wrong_in h u (is_repeated names (name_in h u)) (shape_of (is_primary_hdu h) u.header.cards)) (wrong_from names (h + 1) us) problem
    (listed_among names (h + 1) us index hdu shape problem (omega (arith, at)) there described p)

-- the code of a name that is repeated
name_code : (repeated : Bool) (code : Code) → Contains (name_codes repeated) code → (code ≡ DuplicateExtension) × (repeated ≡ true)
name_code true code p = elim (in_cons DuplicateExtension [] code p) [ inl is ↦ (sym is, refl) | inr none ↦ absurd (in_none code none) ]
name_code false code p = absurd (in_none code p)

-- a code of a place is one by what the other HDUs are called
code_of_file : (file : FileParts) (h : ℕ) (shape : Shape) (hdu : HduParts) (place : ℕ) (code : Code) → hdu_of file h ≡ Some hdu → IsCodeIn (is_repeated (names_from 1 file.hdus) (name_in h hdu)) shape hdu place code → IsCodeAt file h shape hdu place code
code_of_file file h shape hdu zero code there p =
    elim (Contains-append_cases (whole_codes shape hdu) (name_codes (is_repeated (names_from 1 file.hdus) (name_in h hdu))) code p) [
      | inl whole ↦ inl whole
      | inr name ↦ let q = name_code (is_repeated (names_from 1 file.hdus) (name_in h hdu)) code name in inr (q.0, repeated_has file h hdu there q.1)
    ]
code_of_file file h shape hdu (suc index) code there p = p

-- and the other way round
file_of_code : (file : FileParts) (h : ℕ) (shape : Shape) (hdu : HduParts) (place : ℕ) (code : Code) → hdu_of file h ≡ Some hdu → IsCodeAt file h shape hdu place code → IsCodeIn (is_repeated (names_from 1 file.hdus) (name_in h hdu)) shape hdu place code
file_of_code file h shape hdu zero code there p =
    let repeated : Bool = is_repeated (names_from 1 file.hdus) (name_in h hdu) in
    elim p [
      | inl whole ↦ Contains-append_left (whole_codes shape hdu) (name_codes repeated) code whole
      | inr name ↦ Contains-append_right (whole_codes shape hdu) (name_codes repeated) code (rw (has_repeated file h hdu there name.1, name.0) (first_in DuplicateExtension []))
    ]
file_of_code file h shape hdu (suc index) code there p = p

-- a problem of an HDU of a file
wrong_file : (file : FileParts) (problem : Problem) → IsWrongAt (names_from 1 file.hdus) 1 file.hdus problem → IsWrong file problem
wrong_file file problem p =
    let there : hdu_of file problem.hdu ≡ Some p.hdu = ap (hdu_of file) (let number : problem.hdu ≡ suc p.index = omega (arith, p.at) in number) ∙ p.there in
    record {
      hdu = p.hdu;
      shape = p.shape;
      there = there;
      described = p.described;
      code = code_of_file file problem.hdu p.shape p.hdu problem.place problem.code there p.code;
    }

-- is in its report
file_wrong : (file : FileParts) (problem : Problem) (h : ℕ) (hdu : HduParts) (shape : Shape) → problem.hdu ≡ h → hdu_of file h ≡ Some hdu → shape_of (is_primary_hdu problem.hdu) hdu.header.cards ≡ Ok shape
    → IsCodeIn (is_repeated (names_from 1 file.hdus) (name_in problem.hdu hdu)) shape hdu problem.place problem.code → Contains (wrong_from (names_from 1 file.hdus) 1 file.hdus) problem
file_wrong file problem zero hdu shape at there described p = cc
file_wrong file problem (suc index) hdu shape at there described p = listed_among (names_from 1 file.hdus) 1 file.hdus index hdu shape problem (omega (arith, at)) there described p

-- what says that bytes trail
says_trailing : (h : ℕ) (tail : List ℕ) (problem : Problem) → Contains (trailing h tail) problem → (is_followed tail ≡ true) × (problem ≡ trails h)
says_trailing h [] problem p = absurd (in_none problem p)
says_trailing h (byte ∷ bytes) problem p = elim (in_cons (trails h) [] problem p) [ inl is ↦ (refl, sym is) | inr none ↦ absurd (in_none problem none) ]

-- is listed where any do
trailing_said : (h : ℕ) (tail : List ℕ) (problem : Problem) → is_followed tail ≡ true → problem ≡ trails h → Contains (trailing h tail) problem
trailing_said h tail problem some is = rw (is, trailing_some h tail some) (first_in (trails h) [])

-- so the report has all problems, and no others
pub all_problems : (file : FileParts) (problem : Problem) → Contains (report_of file) problem ↔ (IsWrong file problem ⊎ IsTrailing file problem)
unfolding report_of
all_problems file problem =
    let names : List (Option ExtensionName) = names_from 1 file.hdus in
    let front : List Problem = wrong_from names 1 file.hdus in
    let last : List Problem = trailing (length file.hdus + 1) file.tail in (
      λ p. elim (Contains-append_cases front last problem p) [ inl wrong ↦ inl (wrong_file file problem (wrong_among names 1 file.hdus problem wrong)) | inr more ↦ inr (says_trailing (length file.hdus + 1) file.tail problem more) ],
      λ p. elim p [
        | inl wrong ↦ Contains-append_left front last problem (file_wrong file problem problem.hdu wrong.hdu wrong.shape refl wrong.there wrong.described (file_of_code file problem.hdu wrong.shape wrong.hdu problem.place problem.code wrong.there wrong.code))
        | inr more ↦ Contains-append_right front last problem (trailing_said (length file.hdus + 1) file.tail problem more.0 more.1)
      ],
    )
