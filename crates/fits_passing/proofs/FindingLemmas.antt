-- What is found of an HDU that passed by.
use Rattle.std.proofs.Common.{◌≡◌, ℕ, ◌≤◌, Bool, List, ◌++◌, length, drop, refl, ap, ◌∙◌, arith}
use Rattle.std.specs.Prelude.{nat_eq}
use Rattle.std.specs.List.{list_all}
use Rattle.std.proofs.lemmas.List.Sums.{count_by-le-length, length-filter}
use Rattle.fits_card.specs.Header.{Header}
use Rattle.fits_rules.specs.declared.array_shape.Shape.{Shape}
use Rattle.fits_codes.specs.HeaderCodes.{has_header_code, header_codes, header_judged, header_mark_of}
use Rattle.fits_codes.specs.declared.code.Code.{Code}
use Rattle.fits_codes.specs.declared.header_mark.HeaderMark.{HeaderMark}
use Rattle.fits_header.specs.Findings.{header_codes_of}
use Rattle.fits_pixels.specs.declared.layout.Layout.{Layout}
use Rattle.fits_passing.specs.Findings.{data_codes, is_filled, whole_codes}
use Rattle.fits_passing.specs.Hdu.{HduParts}
use Rattle.fits_passing.specs.Layout.{layout_of_bytes}
use Rattle.fits_passing.specs.Sums.{verdicts_of}
use Rattle.fits_passing.specs.declared.verdicts.Verdicts.{Verdicts}

-- a header as a whole has eight codes at most
few_header_codes : (shape : Shape) (header : Header) → length (header_codes_of shape header) ≤ 8
unfolding header_judged
few_header_codes shape header =
    let test : Code → Bool = has_header_code (header_mark_of header shape) shape in
    omega (arith, length-filter test header_codes, count_by-le-length test header_codes)

-- so there is room for three more
pub few_codes : (codes : List Code) (shape : Shape) (header : Header) → codes ≡ header_codes_of shape header → length codes ≤ 10
few_codes codes shape header is = rw is (omega (arith, few_header_codes shape header))

-- and by that of bytes alone
pub fill_of_bytes : (ok : Bool) (layout : Layout) (shape : Shape) (unit : List ℕ) → layout ≡ layout_of_bytes shape → ok ≡ list_all (nat_eq layout.fill) (drop layout.used unit) → ok ≡ is_filled shape unit
unfolding is_filled
fill_of_bytes ok layout shape unit is test = test ∙ rw is refl

-- the codes of a header, by its mark
pub marked_codes : (codes : List Code) (mark : HeaderMark) (seen shape : Shape) (header : Header) → codes ≡ header_judged mark seen → mark ≡ header_mark_of header shape → seen ≡ shape → codes ≡ header_codes_of shape header
marked_codes codes mark seen shape header is p q = rw (is, p, q) refl

-- the codes of a whole, by its parts
pub whole_known : (result codes : List Code) (ok : Bool) (verdicts : Verdicts) (shape : Shape) (hdu : HduParts) → result ≡ codes ++ data_codes ok verdicts → codes ≡ header_codes_of shape hdu.header → ok ≡ is_filled shape hdu.data_unit → verdicts ≡ verdicts_of hdu
    → result ≡ whole_codes shape hdu
whole_known result codes ok verdicts shape hdu is p q r =
    is ∙ (ap (λ (xs : List Code). xs ++ data_codes ok verdicts) p ∙ ap (λ (b : Bool). header_codes_of shape hdu.header ++ data_codes b verdicts) q
    ∙ ap (λ (v : Verdicts). header_codes_of shape hdu.header ++ data_codes (is_filled shape hdu.data_unit) v) r)
