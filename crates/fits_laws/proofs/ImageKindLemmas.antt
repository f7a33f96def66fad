-- The cards of a new image describe its kind.
use Rattle.std.proofs.Common.{◌≡◌, ℕ, ◌*◌, ◌^◌, ◌<◌, ◌≤◌, Bool, true, false, ltb, List, [], ◌∷◌, length, codes, refl, ap, ◌∙◌, arith, None, Some}
use Rattle.std.specs.Prelude.{◌&&◌, ℤ, pos, negsuc, is_none, unsigned_abs, unwrap_or}
use Rattle.std.specs.Option.{option_map}
use Rattle.std.proofs.lemmas.Bool.{and_from, cond-true, lt-ltb, or_right}
use Rattle.fits_rules.specs.Denotes.{card_says_number, lead_says_number}
use Rattle.fits_rules.specs.Image.{array_bits, image_bits}
use Rattle.fits_rules.specs.Lead.{lead_card}
use Rattle.fits_image.specs.Kind.{convention, has_offset, is_unscaled, kind_in, kind_of, width_of}
use Rattle.fits_image.specs.ImageCards.{are_axes, image_cards, image_shape}
use Rattle.fits_image.specs.declared.kind.Kind.{Kind}
use Rattle.fits_image.specs.declared.kind.Kind.TheVariants.{U8, I8, I16, U16, I32, U32, I64, U64}
use Rattle.fits_image.proofs.LeadFromLemmas.{from_lead}
use Rattle.fits_image.proofs.ImageCardLemmas.{AreAxesFrom, axes_from, bscale_later, bscale_name, bzero_later, bzero_name, image_cards_are, image_list, lead_by, leads_here, offset_list, passed, scaling_list}
use Rattle.fits_image.proofs.NumberCardLemmas.{number_card, number_card_denotes, number_card_is}
use Rattle.fits_image.proofs.ImageKindLemmas.{behind_counts, bscale_is}

-- that of an offset is its lead
bscale_lead : (kind : Kind) (axes : List ℕ) (offset : ℤ) → AreAxesFrom 1 axes → offset_list kind ≡ scaling_list offset → lead_card (image_list kind axes) (codes "BSCALE  ") ≡ Some (number_card (codes "BSCALE  ") (pos 1))
bscale_lead kind axes offset are e =
    lead_by (codes "BSCALE  ") kind axes _ bscale_later are
    (behind_counts (codes "BSCALE  ") kind refl refl ∙ (ap (from_lead (codes "BSCALE  ")) e ∙ leads_here (codes "BSCALE  ") (number_card (codes "BSCALE  ") (pos 1)) (number_card (codes "BZERO   ") offset ∷ []) bscale_is))

-- and so is BZERO's
bzero_lead : (kind : Kind) (axes : List ℕ) (offset : ℤ) → AreAxesFrom 1 axes → offset_list kind ≡ scaling_list offset → unsigned_abs offset < 2 ^ 64 → lead_card (image_list kind axes) (codes "BZERO   ") ≡ Some (number_card (codes "BZERO   ") offset)
bzero_lead kind axes offset are e small =
    let zero = number_card (codes "BZERO   ") offset in
    let one = number_card (codes "BSCALE  ") (pos 1) in
    lead_by (codes "BZERO   ") kind axes _ bzero_later are
    (behind_counts (codes "BZERO   ") kind refl refl ∙ (ap (from_lead (codes "BZERO   ")) e ∙ (passed (codes "BZERO   ") (codes "BSCALE  ") one (zero ∷ []) bscale_is refl ∙ leads_here (codes "BZERO   ") zero [] (number_card_is (codes "BZERO   ") offset bzero_name small))))

-- without an offset there is none
no_bzero : (kind : Kind) (axes : List ℕ) → AreAxesFrom 1 axes → offset_list kind ≡ [] → lead_card (image_list kind axes) (codes "BZERO   ") ≡ None
no_bzero kind axes are e = lead_by (codes "BZERO   ") kind axes None bzero_later are (behind_counts (codes "BZERO   ") kind refl refl ∙ ap (from_lead (codes "BZERO   ")) e)

-- a lead says what its card does
lead_says : (cards : List (List ℕ)) (name card : List ℕ) (number : ℤ) → lead_card cards name ≡ Some card → card_says_number card number ≡ true → lead_says_number cards name number ≡ true
unfolding lead_says_number
lead_says cards name card number lead says = ap (λ o. unwrap_or (option_map (λ card. card_says_number card number) o) false) lead ∙ says

-- and none says nothing
lead_silent : (cards : List (List ℕ)) (name : List ℕ) (number : ℤ) → lead_card cards name ≡ None → lead_says_number cards name number ≡ false
unfolding lead_says_number
lead_silent cards name number lead = ap (λ o. unwrap_or (option_map (λ card. card_says_number card number) o) false) lead

-- a kind with an offset has it
with_offset : (kind : Kind) (axes : List ℕ) (offset : ℤ) → AreAxesFrom 1 axes → offset_list kind ≡ scaling_list offset → unsigned_abs offset < 2 ^ 64 → has_offset (image_list kind axes) offset ≡ true
with_offset kind axes offset are e small =
    let cards = image_list kind axes in
    let zero = lead_says cards (codes "BZERO   ") (number_card (codes "BZERO   ") offset) offset (bzero_lead kind axes offset are e small) (number_card_denotes (codes "BZERO   ") offset bzero_name small) in
    let one = lead_says cards (codes "BSCALE  ") (number_card (codes "BSCALE  ") (pos 1)) (pos 1) (bscale_lead kind axes offset are e) (number_card_denotes (codes "BSCALE  ") (pos 1) bscale_name (omega arith)) in
    and_from _ _ zero (or_right (is_none (lead_card cards (codes "BSCALE  "))) (lead_says_number cards (codes "BSCALE  ") (pos 1)) one)

-- and another has none
without_offset : (kind : Kind) (axes : List ℕ) (offset : ℤ) → AreAxesFrom 1 axes → offset_list kind ≡ [] → has_offset (image_list kind axes) offset ≡ false
without_offset kind axes offset are e =
    let cards = image_list kind axes in
    ap (λ b. b && is_unscaled cards) (lead_silent cards (codes "BZERO   ") offset (no_bzero kind axes are e))

-- a new image with an axis is an array of integers
image_has_bits : (kind : Kind) (axes : List ℕ) → 1 ≤ length axes → image_bits (image_shape kind axes) ≡ Some (8 * width_of kind)
unfolding image_bits array_bits
image_has_bits kind axes some = cond-true (ltb 0 (length axes)) (Some (8 * width_of kind)) None (lt-ltb 0 (length axes) (omega (arith, some)))

-- so its kind is found by its offset
kind_by : (kind : Kind) (axes : List ℕ) (b : Bool) → 1 ≤ length axes → has_offset (image_list kind axes) (convention (8 * width_of kind)) ≡ b → kind_in (image_shape kind axes) (image_list kind axes) ≡ Some (kind_of (8 * width_of kind) b)
unfolding kind_in
kind_by kind axes b some e =
    ap (option_map (λ bits. kind_of bits (has_offset (image_list kind axes) (convention bits)))) (image_has_bits kind axes some) ∙ ap (λ c. Some (kind_of (8 * width_of kind) c)) e

-- and is the one that was asked for
list_kind : (kind : Kind) (axes : List ℕ) → AreAxesFrom 1 axes → 1 ≤ length axes → kind_in (image_shape kind axes) (image_list kind axes) ≡ Some kind
list_kind U8 axes are some = kind_by U8 axes false some (without_offset U8 axes (negsuc 127) are refl)
list_kind I8 axes are some = kind_by I8 axes true some (with_offset I8 axes (negsuc 127) are refl (omega arith))
list_kind I16 axes are some = kind_by I16 axes false some (without_offset I16 axes (pos 32768) are refl)
list_kind U16 axes are some = kind_by U16 axes true some (with_offset U16 axes (pos 32768) are refl (omega arith))
list_kind I32 axes are some = kind_by I32 axes false some (without_offset I32 axes (pos 2147483648) are refl)
list_kind U32 axes are some = kind_by U32 axes true some (with_offset U32 axes (pos 2147483648) are refl (omega arith))
list_kind I64 axes are some = kind_by I64 axes false some (without_offset I64 axes (pos 9223372036854775808) are refl)
list_kind U64 axes are some = kind_by U64 axes true some (with_offset U64 axes (pos 9223372036854775808) are refl (omega arith))

-- a new image has the kind that was asked for
pub new_has_kind : (kind : Kind) (axes : List ℕ) → are_axes axes ≡ true → 1 ≤ length axes → kind_in (image_shape kind axes) (image_cards kind axes) ≡ Some kind
new_has_kind kind axes e some = ap (kind_in (image_shape kind axes)) (image_cards_are kind axes e) ∙ list_kind kind axes (axes_from axes e) some
