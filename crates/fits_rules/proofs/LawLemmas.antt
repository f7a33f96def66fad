-- What holds of each shape that a header describes.
use Rattle.std.proofs.Common.{◌≡◌, ℕ, suc, ◌+◌, ◌≤◌, ◌<◌, Bool, true, false, cond, leb, IsTrue, List, [], ◌∷◌, length, codes, Option, None, Some, option_and_then, Ok, inl, inr, refl, ap, sym, ◌∙◌, subst, arith, ◌&&◌}
use Rattle.std.specs.Prelude.{ℤ, pos, negsuc}
use Rattle.std.specs.Str.{bytes_eq}
use Rattle.std.specs.List.{All, slice_get}
use Rattle.std.proofs.lemmas.Bool.{cases_Bool, cond-true, cond-false, leb-true}
use Rattle.std.proofs.lemmas.List.Elements.{All-cons, All-nil}
use Rattle.std.proofs.lemmas.Option.{option_and_then_some, cond_some}
use Rattle.fits_rules.specs.Class.{is_primary, has_counts, extension_class}
use Rattle.fits_rules.specs.Lead.{lead_card}
use Rattle.fits_rules.specs.Reads.{integer_said, string_said}
use Rattle.fits_rules.specs.Shape.{up_to, is_bitpix, bitpix_in, integer_named, bitpix_of, naxis_of, axis_name, axis_of, has_group_axes, says_groups, class_of, count_said, count_of, shape_of, IsBounded}
use Rattle.fits_rules.specs.declared.axis_buffer.TheConstants.{MOST_AXES}
use Rattle.fits_rules.specs.declared.rules.TheConstants.{LARGEST}
use Rattle.fits_rules.specs.declared.class.Class.{Class}
use Rattle.fits_rules.specs.declared.class.Class.TheVariants.{Primary, Groups, Image, Table, Other}
use Rattle.fits_rules.specs.declared.array_shape.Shape.{Shape}
use Rattle.fits_rules.proofs.DescribesLemmas.{described}
use Rattle.fits_rules.proofs.NearLemmas.{broken_is_near}

-- a number that was kept is below its limit
up_to_bound : (limit : ℕ) (number : ℤ) (n : ℕ) → up_to limit number ≡ Some n → n ≤ limit
up_to_bound limit (pos m) n e =
    let kept = cond_some (leb m limit) m n e in
    let small = leb-true m limit kept.0 in
    omega (arith, kept.1)
up_to_bound limit (negsuc m) n e = absurd (cc)

-- and so is one that a card says
said_bound : (limit : ℕ) (o : Option ℤ) (n : ℕ) → option_and_then (up_to limit) o ≡ Some n → n ≤ limit
said_bound limit None n e = absurd (cc)
said_bound limit (Some number) n e = up_to_bound limit number n e

-- each number that the rules limit is in its range
axis_bound : (cards : List (List ℕ)) (n axis : ℕ) → axis_of cards n ≡ Some axis → axis ≤ LARGEST
unfolding axis_of
axis_bound cards n axis e = said_bound LARGEST (integer_named cards (3 + n) (axis_name n)) axis e

-- NAXIS
naxis_bound : (cards : List (List ℕ)) (naxis : ℕ) → naxis_of cards ≡ Some naxis → naxis ≤ MOST_AXES
unfolding naxis_of
naxis_bound cards naxis e = said_bound MOST_AXES (integer_named cards 3 (codes "NAXIS   ")) naxis e

-- BITPIX
bitpix_bound : (cards : List (List ℕ)) (bitpix : ℤ) → bitpix_of cards ≡ Some bitpix → IsTrue (is_bitpix bitpix)
unfolding bitpix_of
bitpix_bound cards bitpix e =
    option_and_then_some bitpix_in (integer_named cards 2 (codes "BITPIX  ")) bitpix e (λ number _ f.
    let kept = cond_some (is_bitpix number) number bitpix f in
    subst (λ (z : ℤ). IsTrue (is_bitpix z)) kept.1 kept.0)

-- the axes, one by one
axes_bound : (cards : List (List ℕ)) (axes : List ℕ) (first : ℕ) → ((n : ℕ) → n < length axes → axis_of cards (first + n) ≡ slice_get axes n) → All (λ (axis : ℕ). axis ≤ LARGEST) axes
axes_bound cards [] first there = All-nil (λ (axis : ℕ). axis ≤ LARGEST)
axes_bound cards (axis ∷ axes) first there =
    All-cons (λ (axis : ℕ). axis ≤ LARGEST) axis axes (axis_bound cards (first + 0) axis (there 0 (omega arith)))
    (axes_bound cards axes (first + 1) (λ n within. let same : first + 1 + n ≡ first + suc n = omega arith in ap (axis_of cards) same ∙ there (suc n) (omega arith)))

-- a count that a lead says is below its limit
counted_bound : (lead : Option (List ℕ)) (default n : ℕ) → default ≤ LARGEST → count_said lead default ≡ Some n → n ≤ LARGEST
counted_bound None default n small e = let same : n ≡ default = cc in omega arith
counted_bound (Some card) default n small e = said_bound LARGEST (integer_said card) n e

-- PCOUNT and GCOUNT
count_bound : (class : Class) (lead : Option (List ℕ)) (default n : ℕ) → default ≤ LARGEST → count_of class lead default ≡ Some n → n ≤ LARGEST
unfolding count_of
count_bound class lead default n small e = elim (cases_Bool (has_counts class)) [
  | inl some ↦ counted_bound lead default n small (sym (cond-true (has_counts class) (count_said lead default) (Some default) some) ∙ e)
  | inr none ↦
      let d : Some default ≡ Some n = sym (cond-false (has_counts class) (count_said lead default) (Some default) none) ∙ e in
      let same : n ≡ default = cc in
      omega arith
]

-- the class of an HDU says whether it is primary
primary_choice : (b : Bool) → is_primary (cond b Groups Primary) ≡ true
primary_choice true = refl
primary_choice false = refl

-- no class of an extension is that of the primary HDU
extension_choice : (b c : Bool) → is_primary (cond b Image (cond c Table Other)) ≡ false
extension_choice true c = refl
extension_choice false true = refl
extension_choice false false = refl

-- whatever its XTENSION says
extension_primary : (o : Option (List ℕ)) → is_primary (extension_class o) ≡ false
extension_primary None = refl
extension_primary (Some text) = extension_choice (bytes_eq text (codes "IMAGE")) (bytes_eq text (codes "TABLE"))

-- so the class is of the primary HDU where the HDU is
class_primary : (primary : Bool) (first axes : List ℕ) (groups : Option (List ℕ)) → is_primary (class_of primary first axes groups) ≡ primary
unfolding class_of
class_primary true first axes groups = primary_choice (has_group_axes axes && says_groups groups)
class_primary false first axes groups = extension_primary (string_said first)

-- the numbers of a shape are in their ranges
pub shape_bounded : (primary : Bool) (cards : List (List ℕ)) (shape : Shape) → shape_of primary cards ≡ Ok shape → IsBounded shape
shape_bounded primary cards shape e =
    let d = described primary cards shape e in
    record {
      bitpix = bitpix_bound cards shape.bitpix d.bitpix;
      count = naxis_bound cards (length shape.axes) d.naxis;
      axes = axes_bound cards shape.axes 1 (λ n within. let same : 1 + n ≡ n + 1 = omega arith in ap (axis_of cards) same ∙ d.axes n within);
      pcount = count_bound shape.class (lead_card cards (codes "PCOUNT  ")) 0 shape.pcount (omega arith) d.pcount;
      gcount = count_bound shape.class (lead_card cards (codes "GCOUNT  ")) 1 shape.gcount (omega arith) d.gcount;
    }

-- and its class is that of its HDU
pub shape_primary : (primary : Bool) (cards : List (List ℕ)) (shape : Shape) → shape_of primary cards ≡ Ok shape → is_primary shape.class ≡ primary
shape_primary primary cards shape e =
    let d = described primary cards shape e in
    ap is_primary (sym d.class) ∙ class_primary primary d.first shape.axes (lead_card cards (codes "GROUPS  "))

pub ruleset laws = (broken_is_near, shape_bounded, shape_primary)
