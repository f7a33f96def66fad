-- What an extension is called stays where it is made another array.
use Rattle.std.proofs.Common.{◌≡◌, ℕ, Bool, true, false, List, get_or, codes, refl, ap, sym, ◌∙◌, arith, Option, None, Some, option_and_then}
use Rattle.std.specs.Prelude.{Ok, if◌then◌else◌}
use Rattle.std.specs.Str.{bytes_eq}
use Rattle.std.proofs.lemmas.Slice.Eq.{bytes_eq-Decides}
use Rattle.fits_card.specs.Card.{keyword_name}
use Rattle.fits_card.specs.Header.{Header, card_at}
use Rattle.fits_rules.specs.Class.{extension_class, is_primary}
use Rattle.fits_rules.specs.Image.{is_array}
use Rattle.fits_rules.specs.Lead.{lead_card}
use Rattle.fits_rules.specs.Reads.{string_said}
use Rattle.fits_rules.specs.Shape.{axis_name, card_named, class_of, first_card, if_named, shape_of}
use Rattle.fits_rules.specs.declared.array_shape.Shape.{Shape}
use Rattle.fits_rules.specs.declared.class.Class.{Class}
use Rattle.fits_rules.specs.declared.class.Class.TheVariants.{Primary, Groups, Image, Table, Other}
use Rattle.fits_rules.proofs.DescribesLemmas.{described}
use Rattle.fits_rules.proofs.LawLemmas.{shape_primary}
use Rattle.fits_rules.proofs.SameShapeLemmas.{same_shape-Decides}
use Rattle.fits_passing.specs.ExtensionName.{extension_name}
use Rattle.fits_hdu.specs.Reshape.{IsOther, ReshapingKeepsNames, cards_reshaped, reshaped_shape}
use Rattle.fits_hdu.proofs.OtherLeadLemmas.{reshaping_leaves_leads}
use Rattle.fits_hdu.proofs.ReshapeLemmas.{can_parts, kind_of_array, reshaped_has_kind, reshaped_is}

-- EXTNAME and EXTVER are on no card that is written anew
extname_other : IsOther (codes "EXTNAME ")
unfolding axis_name
extname_other = record {
  unshaped = record {
    bitpix = λ e. let letter = ap (λ (x : List ℕ). get_or x 0 0) e in omega (arith, letter);
    naxis = λ e. let letter = ap (λ (x : List ℕ). get_or x 0 0) e in omega (arith, letter);
    axis = λ n e. let letter = ap (λ (x : List ℕ). get_or x 0 0) e in omega (arith, letter);
  };
  scale = λ e. let letter = ap (λ (x : List ℕ). get_or x 0 0) e in omega (arith, letter);
  zero = λ e. let letter = ap (λ (x : List ℕ). get_or x 0 0) e in omega (arith, letter);
  link = λ e. let letter = ap (λ (x : List ℕ). get_or x 0 0) e in omega (arith, letter);
}

extver_other : IsOther (codes "EXTVER  ")
unfolding axis_name
extver_other = record {
  unshaped = record {
    bitpix = λ e. let letter = ap (λ (x : List ℕ). get_or x 0 0) e in omega (arith, letter);
    naxis = λ e. let letter = ap (λ (x : List ℕ). get_or x 0 0) e in omega (arith, letter);
    axis = λ n e. let letter = ap (λ (x : List ℕ). get_or x 0 0) e in omega (arith, letter);
  };
  scale = λ e. let letter = ap (λ (x : List ℕ). get_or x 0 0) e in omega (arith, letter);
  zero = λ e. let letter = ap (λ (x : List ℕ). get_or x 0 0) e in omega (arith, letter);
  link = λ e. let letter = ap (λ (x : List ℕ). get_or x 0 0) e in omega (arith, letter);
}

-- an array that is an extension is one of IMAGE
array_image : (class : Class) (pcount gcount : ℕ) → is_array class pcount gcount ≡ true → is_primary class ≡ false → class ≡ Image
array_image Primary pcount gcount array e = absurd (cc)
array_image Groups pcount gcount array e = absurd (cc)
array_image Image pcount gcount array e = refl
array_image Table pcount gcount array e = absurd (cc)
array_image Other pcount gcount array e = absurd (cc)

-- so its first card says that
image_text : (said : Option (List ℕ)) → extension_class said ≡ Image → said ≡ Some (codes "IMAGE")
image_text None e = absurd (cc)
image_text (Some text) e = by (bytes_eq text (codes "IMAGE")) (bytes_eq text (codes "TABLE")) refl e
  where
    by : (image table : Bool) → bytes_eq text (codes "IMAGE") ≡ image → (if image then Image else (if table then Table else Other)) ≡ Image → Some text ≡ Some (codes "IMAGE")
    by true table same e = ap Some ((bytes_eq-Decides text (codes "IMAGE")).0 same)
    by false true same e = absurd (cc)
    by false false same e = absurd (cc)

-- the card of a place, where it has the name that is asked for
named_card : (name : List ℕ) (at : Option (List ℕ)) (card : List ℕ) → option_and_then (if_named name) at ≡ Some card → at ≡ Some card
named_card name None card e = absurd (cc)
named_card name (Some x) card e = by (bytes_eq (keyword_name x) name) e
  where
    by : (b : Bool) → (if b then Some x else None) ≡ Some card → Some x ≡ Some card
    by true e = e
    by false e = absurd (cc)

image_said : (cards : List (List ℕ)) (shape : Shape) → shape_of false cards ≡ Ok shape → is_array shape.class shape.pcount shape.gcount ≡ true → option_and_then string_said (card_at cards 1) ≡ Some (codes "IMAGE")
unfolding first_card card_named class_of
image_said cards shape is array =
    let d = described false cards shape is in
    let at : card_at cards 1 ≡ Some d.first = named_card (codes "XTENSION") (card_at cards 1) d.first d.begins in
    let image = array_image shape.class shape.pcount shape.gcount array (shape_primary false cards shape is) in
    ap (option_and_then string_said) at ∙ image_text (string_said d.first) (d.class ∙ image)

-- an extension keeps its type, and the leads of its name and its version
pub reshaping_keeps_names : ReshapingKeepsNames
unfolding extension_name
reshaping_keeps_names true kind axes shape hdu new is made = refl
reshaping_keeps_names false kind axes shape hdu new is made =
    let found = reshaped_has_kind kind axes shape hdu new made in
    let old = found.0 in
    let cards = hdu.header.cards in
    let done = reshaped_is old kind axes shape hdu new found.1 made in
    let can = can_parts old kind axes shape cards done.can in
    let array = kind_of_array shape cards old found.1 in
    let after : new.header.cards ≡ cards_reshaped old kind axes shape cards = ap (λ (h : Header). h.cards) done.header in
    let described_after : shape_of false new.header.cards ≡ Ok (reshaped_shape kind axes shape) =
    ap (shape_of false) after ∙ (ap (λ b. shape_of b (cards_reshaped old kind axes shape cards)) (sym (shape_primary false cards shape is)) ∙ (same_shape-Decides (reshaped_shape kind axes shape) (shape_of (is_primary shape.class) (cards_reshaped old kind axes shape cards))).0 can.shaped) in
    let type : option_and_then string_said (card_at new.header.cards 1) ≡ option_and_then string_said (card_at cards 1) =
    image_said new.header.cards (reshaped_shape kind axes shape) described_after array ∙ sym (image_said cards shape is array) in
    let name : lead_card new.header.cards (codes "EXTNAME ") ≡ lead_card cards (codes "EXTNAME ") = ap (λ xs. lead_card xs (codes "EXTNAME ")) after ∙ reshaping_leaves_leads false old kind axes shape cards (codes "EXTNAME ") is can.axes_may extname_other in
    let version : lead_card new.header.cards (codes "EXTVER  ") ≡ lead_card cards (codes "EXTVER  ") = ap (λ xs. lead_card xs (codes "EXTVER  ")) after ∙ reshaping_leaves_leads false old kind axes shape cards (codes "EXTVER  ") is can.axes_may extver_other in
    rw (type, name, version) refl
