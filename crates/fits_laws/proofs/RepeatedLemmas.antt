-- Which HDUs are called as another is.
use Rattle.std.proofs.Common.{◌≡◌, ℕ, ◌+◌, ◌≤◌, true, List, [], ◌∷◌, refl, ap, sym, ◌∙◌, arith, inl, inr, Option, None, Some, zero, suc}
use Rattle.std.specs.Prelude.{nat_le}
use Rattle.std.specs.List.{slice_get}
use Rattle.fits_passing.specs.Hdu.{HduParts}
use Rattle.fits_passing.specs.declared.called.ExtensionName.{ExtensionName}
use Rattle.fits_session.specs.Edit.{hdu_of}
use Rattle.fits_passing.specs.File.{FileParts}
use Rattle.fits_passing.specs.Report.{called_count, is_called, is_repeated, name_in, names_from}
use Rattle.fits_laws.specs.Problems.{HasNameOfAnother}
use Rattle.fits_passing.proofs.NameLemmas.{count_called, count_other, first_or, name_itself, same_name}

-- what is called so has this name
pub name_is : (name : ExtensionName) (first : Option ExtensionName) → is_called name first ≡ true → first ≡ Some name
name_is name None p = cc
name_is name (Some other) p = ap (λ (it : ExtensionName). Option.Some it) (sym (same_name name other p))

-- and what has it is called so
is_name : (name : ExtensionName) (first : Option ExtensionName) → first ≡ Some name → is_called name first ≡ true
is_name name first p = ap (is_called name) p ∙ name_itself name

-- an index at which this name stands
record IsNameAt (name : ExtensionName) (names : List (Option ExtensionName)) : Type 0 where
  pub index : ℕ
  pub there : slice_get names index ≡ Some (Some name)

-- where one is called so, it stands somewhere
named_at : (name : ExtensionName) (names : List (Option ExtensionName)) → 1 ≤ called_count name names → IsNameAt name names
named_at name [] p = absurd (omega arith)
named_at name (first ∷ names) p =
    elim (first_or name first) [
      | inl is ↦ record { index = 0; there = ap (λ (it : Option ExtensionName). Option.Some it) (name_is name first is) }
      | inr not ↦ let q = named_at name names (omega (arith, p, count_other name first names not)) in record { index = suc q.index; there = q.there }
    ]

-- where it stands, one is called so
at_named : (name : ExtensionName) (names : List (Option ExtensionName)) (index : ℕ) → slice_get names index ≡ Some (Some name) → 1 ≤ called_count name names
at_named name [] index p = cc
at_named name (first ∷ names) zero p =
    let here : first ≡ Some name = cc in
    omega (arith, count_called name first names (is_name name first here))
at_named name (first ∷ names) (suc index) p =
    let more = at_named name names index p in
    elim (first_or name first) [
      | inl is ↦ omega (arith, more, count_called name first names is)
      | inr not ↦ omega (arith, more, count_other name first names not)
    ]

-- another index at which this name stands
record IsNameElsewhere (name : ExtensionName) (names : List (Option ExtensionName)) (index : ℕ) : Type 0 where
  pub other : ℕ
  pub differs : other ≡ index → ⊥
  pub there : slice_get names other ≡ Some (Some name)

-- where two are called so, it stands elsewhere too
named_elsewhere : (name : ExtensionName) (names : List (Option ExtensionName)) (index : ℕ) → slice_get names index ≡ Some (Some name) → 2 ≤ called_count name names → IsNameElsewhere name names index
named_elsewhere name [] index p two = cc
named_elsewhere name (first ∷ names) zero p two =
    let here : first ≡ Some name = cc in
    let q = named_at name names (omega (arith, two, count_called name first names (is_name name first here))) in
    record { other = suc q.index; differs = λ e. omega (arith, e); there = q.there }
named_elsewhere name (first ∷ names) (suc index) p two =
    elim (first_or name first) [
      | inl is ↦ record { other = 0; differs = λ e. omega (arith, e); there = ap (λ (it : Option ExtensionName). Option.Some it) (name_is name first is) }
      | inr not ↦
          let q = named_elsewhere name names index p (omega (arith, two, count_other name first names not)) in
          record { other = suc q.other; differs = λ e. q.differs (omega (arith, e)); there = q.there }
    ]

-- where it stands at two, two are called so
elsewhere_named : (name : ExtensionName) (names : List (Option ExtensionName)) (index other : ℕ) → (other ≡ index → ⊥) → slice_get names index ≡ Some (Some name) → slice_get names other ≡ Some (Some name) → 2 ≤ called_count name names
elsewhere_named name [] index other differs p q = cc
elsewhere_named name (first ∷ names) zero zero differs p q = absurd (differs refl)
elsewhere_named name (first ∷ names) zero (suc other) differs p q =
    let here : first ≡ Some name = cc in
    omega (arith, at_named name names other q, count_called name first names (is_name name first here))
elsewhere_named name (first ∷ names) (suc index) zero differs p q =
    let here : first ≡ Some name = cc in
    omega (arith, at_named name names index p, count_called name first names (is_name name first here))
elsewhere_named name (first ∷ names) (suc index) (suc other) differs p q =
    let more = elsewhere_named name names index other (λ e. differs (ap suc e)) p q in
    elim (first_or name first) [
      | inl is ↦ omega (arith, more, count_called name first names is)
      | inr not ↦ omega (arith, more, count_other name first names not)
    ]

-- what the HDU at an index is called
name_at : (h : ℕ) (us : List HduParts) (index : ℕ) (u : HduParts) → slice_get us index ≡ Some u → slice_get (names_from h us) index ≡ Some (name_in (h + index) u)
name_at h [] index u p = cc
name_at h (first ∷ us) zero u p =
    let here : first ≡ u = cc in
    let number : h ≡ h + 0 = omega arith in
    ap (λ (it : HduParts). Option.Some (name_in h it)) here ∙ ap (λ n. Option.Some (name_in n u)) number
name_at h (first ∷ us) (suc index) u p =
    let number : h + 1 + index ≡ h + suc index = omega arith in
    name_at (h + 1) us index u p ∙ ap (λ n. Option.Some (name_in n u)) number

-- an HDU at an index
record IsAt (us : List HduParts) (index : ℕ) : Type 0 where
  pub hdu : HduParts
  pub there : slice_get us index ≡ Some hdu

-- where something is called so, an HDU is
hdu_at : (h : ℕ) (us : List HduParts) (index : ℕ) (name : Option ExtensionName) → slice_get (names_from h us) index ≡ Some name → IsAt us index
hdu_at h [] index name p = cc
hdu_at h (first ∷ us) zero name p = record { hdu = first; there = refl }
hdu_at h (first ∷ us) (suc index) name p = let q = hdu_at (h + 1) us index name p in record { hdu = q.hdu; there = q.there }

-- a number that is at least two, by its test
two_is : (n : ℕ) → nat_le 2 n ≡ true → 2 ≤ n
two_is n p = search arith

-- and by its size
is_two : (n : ℕ) → 2 ≤ n → nat_le 2 n ≡ true
is_two n p = search arith

-- whose name is repeated has one
record IsRepeated (names : List (Option ExtensionName)) (said : Option ExtensionName) : Type 0 where
  pub name : ExtensionName
  pub is : said ≡ Some name
  pub two : 2 ≤ called_count name names

-- and two are called so
repeated_is : (names : List (Option ExtensionName)) (said : Option ExtensionName) → is_repeated names said ≡ true → IsRepeated names said
unfolding is_repeated
repeated_is names None p = cc
repeated_is names (Some name) p = record { name = name; is = refl; two = two_is (called_count name names) p }

-- a name that two have is repeated
is_repeated_by : (names : List (Option ExtensionName)) (said : Option ExtensionName) (name : ExtensionName) → said ≡ Some name → 2 ≤ called_count name names → is_repeated names said ≡ true
unfolding is_repeated
is_repeated_by names said name is two = ap (is_repeated names) is ∙ is_two (called_count name names) two

-- what HDU h is called
name_of_hdu : (file : FileParts) (h : ℕ) (index : ℕ) (hdu : HduParts) → h ≡ suc index → hdu_of file h ≡ Some hdu → slice_get (names_from 1 file.hdus) index ≡ Some (name_in h hdu)
name_of_hdu file h index hdu at there =
    let number : 1 + index ≡ h = omega (arith, at) in
    name_at 1 file.hdus index hdu (sym (ap (hdu_of file) at) ∙ there) ∙ ap (λ n. Option.Some (name_in n hdu)) number

-- HDU h, whose name is repeated, is called as another is
another_at : (file : FileParts) (h index : ℕ) (hdu : HduParts) → h ≡ suc index → hdu_of file h ≡ Some hdu → is_repeated (names_from 1 file.hdus) (name_in h hdu) ≡ true → HasNameOfAnother file h hdu
another_at file h index hdu at there p =
    let names : List (Option ExtensionName) = names_from 1 file.hdus in
    let q = repeated_is names (name_in h hdu) p in
    let one : slice_get names index ≡ Some (Some q.name) = name_of_hdu file h index hdu at there ∙ ap (λ (it : Option ExtensionName). Option.Some it) q.is in
    let r = named_elsewhere q.name names index one q.two in
    let s = hdu_at 1 file.hdus r.other (Some q.name) r.there in
    let both : Option.Some (name_in (suc r.other) s.hdu) ≡ Some (Some q.name) = sym (name_of_hdu file (suc r.other) r.other s.hdu refl s.there) ∙ r.there in
    record {
      name = q.name;
      called = q.is;
      again = record { other = suc r.other; hdu = s.hdu; differs = λ e. r.differs (omega (arith, e, at)); there = s.there; called = cc };
    }

-- so of each HDU
pub repeated_has : (file : FileParts) (h : ℕ) (hdu : HduParts) → hdu_of file h ≡ Some hdu → is_repeated (names_from 1 file.hdus) (name_in h hdu) ≡ true → HasNameOfAnother file h hdu
repeated_has file zero hdu there p = cc
repeated_has file (suc index) hdu there p = another_at file (suc index) index hdu refl there p

-- the name of an HDU that is called as another is is repeated
at_another : (file : FileParts) (index other : ℕ) (hdu u : HduParts) (name : ExtensionName) → (suc other ≡ suc index → ⊥) → hdu_of file (suc index) ≡ Some hdu → name_in (suc index) hdu ≡ Some name → hdu_of file (suc other) ≡ Some u → name_in (suc other) u ≡ Some name
    → is_repeated (names_from 1 file.hdus) (name_in (suc index) hdu) ≡ true
at_another file index other hdu u name differs there called also again =
    let names : List (Option ExtensionName) = names_from 1 file.hdus in
    let one : slice_get names index ≡ Some (Some name) = name_of_hdu file (suc index) index hdu refl there ∙ ap (λ (it : Option ExtensionName). Option.Some it) called in
    let two : slice_get names other ≡ Some (Some name) = name_of_hdu file (suc other) other u refl also ∙ ap (λ (it : Option ExtensionName). Option.Some it) again in
    is_repeated_by names (name_in (suc index) hdu) name called (elsewhere_named name names index other (λ e. differs (ap suc e)) one two)

-- whatever their numbers
at_numbers : (file : FileParts) (h other : ℕ) (hdu u : HduParts) (name : ExtensionName) → (other ≡ h → ⊥) → hdu_of file h ≡ Some hdu → name_in h hdu ≡ Some name → hdu_of file other ≡ Some u → name_in other u ≡ Some name
    → is_repeated (names_from 1 file.hdus) (name_in h hdu) ≡ true
at_numbers file zero other hdu u name differs there called also again = cc
at_numbers file (suc index) zero hdu u name differs there called also again = cc
at_numbers file (suc index) (suc other) hdu u name differs there called also again = at_another file index other hdu u name differs there called also again

-- so of each HDU
pub has_repeated : (file : FileParts) (h : ℕ) (hdu : HduParts) → hdu_of file h ≡ Some hdu → HasNameOfAnother file h hdu → is_repeated (names_from 1 file.hdus) (name_in h hdu) ≡ true
has_repeated file h hdu there p = at_numbers file h p.again.other hdu p.again.hdu p.name p.again.differs there p.called p.again.there p.again.called
