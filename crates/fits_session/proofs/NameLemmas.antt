-- What HDUs are called, and how many are called the same.
use Rattle.std.proofs.Common.{◌≡◌, ℕ, ◌+◌, ◌<◌, List, [], ◌∷◌, length, get_or, refl, ap, sym, subst, ◌∙◌, arith, All, suc}
use Rattle.std.specs.Prelude.{Ok}
use Rattle.fits_rules.specs.Class.{is_primary}
use Rattle.fits_rules.specs.Shape.{shape_of}
use Rattle.fits_passing.specs.ExtensionName.{extension_name}
use Rattle.fits_hdu.specs.State.{HduState, name_of, parts_of, IsDescribed}
use Rattle.fits_passing.proofs.ShapeLemmas.{one_primary}
use Rattle.fits_passing.specs.File.{IsFile, is_primary_hdu}
use Rattle.fits_session.specs.NameTable.{names_of}
use Rattle.fits_passing.specs.Report.{name_in, names_from}
use Rattle.fits_session.specs.Session.{file_of, hdus_of, state_of}
use Rattle.fits_session.proofs.StateLemmas.{whole_there}

-- what an HDU under edits is called
pub named_there : (hdus : List HduState) (tail : List ℕ) (i : ℕ) (hdu : HduState) → IsFile (file_of (state_of hdus tail)) → i < length hdus → hdu ≡ get_or hdus i hdu → shape_of (is_primary hdu.header.shape.class) hdu.header.header.cards ≡ Ok hdu.header.shape
    → extension_name (is_primary hdu.header.shape.class) hdu.header.header.cards ≡ name_in (i + 1) (parts_of hdu)
named_there hdus tail i hdu file l e described =
    let there = whole_there hdus tail (i + 1) i hdu file (record { index = record { at = refl; within = l }; is = e }) in
    ap (λ b. extension_name b hdu.header.header.cards) (one_primary (is_primary hdu.header.shape.class) (is_primary_hdu (i + 1)) hdu.header.header.cards hdu.header.shape there.shape described there.described)

-- what HDUs from number h on are called, each by its own class
names_numbered : (h : ℕ) (hdus : List HduState) → ((i : ℕ) (hdu : HduState) → i < length hdus → hdu ≡ get_or hdus i hdu → name_of hdu ≡ name_in (h + i) (parts_of hdu)) → names_of hdus ≡ names_from h (hdus_of hdus)
names_numbered h [] each = refl
names_numbered h (hdu ∷ hdus) each =
    let number : h + 0 ≡ h = omega arith in
    let first : name_of hdu ≡ name_in h (parts_of hdu) = each 0 hdu (omega arith) refl ∙ ap (λ n. name_in n (parts_of hdu)) number in
    let rest : names_of hdus ≡ names_from (h + 1) (hdus_of hdus) = names_numbered (h + 1) hdus (λ i one within there.
    let next : h + suc i ≡ h + 1 + i = omega arith in
    each (suc i) one (omega (arith, within)) there ∙ ap (λ n. name_in n (parts_of one)) next) in
    λ j. first j ∷ rest j

-- so those of a file are called as their numbers say
pub names_are : (hdus : List HduState) (tail : List ℕ) → IsFile (file_of (state_of hdus tail)) → All IsDescribed hdus → names_of hdus ≡ names_from 1 (hdus_of hdus)
names_are hdus tail file described =
    names_numbered 1 hdus (λ i hdu within there.
    let number : i + 1 ≡ 1 + i = omega arith in
    named_there hdus tail i hdu file within there (subst IsDescribed (sym there) (described i hdu within)) ∙ ap (λ n. name_in n (parts_of hdu)) number)
