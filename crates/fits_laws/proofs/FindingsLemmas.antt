-- What is found of an HDU.
use Rattle.std.proofs.Common.{◌≡◌, ℕ, List, Option, ap, sym, ◌∙◌}
use Rattle.std.specs.Prelude.{Result, Ok}
use Rattle.fits_rules.specs.declared.array_shape.Shape.{Shape}
use Rattle.fits_codes.specs.declared.code.Code.{Code}
use Rattle.fits_header.specs.Findings.{card_findings}
use Rattle.fits_header.specs.declared.finding.Finding.{Finding}
use Rattle.fits_rules.specs.Class.{is_primary}
use Rattle.fits_rules.specs.Shape.{shape_of}
use Rattle.fits_passing.specs.ExtensionName.{extension_name}
use Rattle.fits_passing.specs.Findings.{AreFindings, whole_codes}
use Rattle.fits_passing.specs.Hdu.{HduParts}
use Rattle.fits_passing.specs.declared.called.ExtensionName.{ExtensionName}
use Rattle.fits_passing.proofs.ShapeLemmas.{one_primary}

-- cards describe one shape
one_shape : (cards : List (List ℕ)) (s t : Shape) → shape_of (is_primary s.class) cards ≡ Ok s → shape_of (is_primary t.class) cards ≡ Ok t → s ≡ t
one_shape cards s t p q =
    let same : Result.Ok s ≡ Ok t = sym p ∙ ap (λ primary. shape_of primary cards) (one_primary (is_primary s.class) (is_primary t.class) cards s t p q) ∙ q in
    cc

-- so an HDU has one list of findings
pub one_list : (hdu : HduParts) (codes codes' : List Code) (found found' : List Finding) (name name' : Option ExtensionName) → AreFindings codes found name hdu → AreFindings codes' found' name' hdu → (codes ≡ codes') × (found ≡ found') × (name ≡ name')
one_list hdu codes codes' found found' name name' p q =
    let shapes = one_shape hdu.header.cards p.shape q.shape p.described q.described in (
      p.codes ∙ (ap (λ shape. whole_codes shape hdu) shapes ∙ sym q.codes),
      p.cards ∙ (ap (λ shape. card_findings shape hdu.header.cards) shapes ∙ sym q.cards),
      p.called ∙ (ap (λ (shape : Shape). extension_name (is_primary shape.class) hdu.header.cards) shapes ∙ sym q.called),
    )
