-- What an extension is called stays where it is stamped.
use Rattle.std.proofs.Common.{◌≡◌, ℕ, ◌≤◌, Bool, true, false, List, [], ◌∷◌, ◌++◌, length, get_or, codes, inl, inr, refl, ap, sym, ◌∙◌, arith, Some}
use Rattle.std.specs.Prelude.{◌≢◌, Ok}
use Rattle.std.specs.Fmt.{decimal}
use Rattle.fits_card.specs.Header.{card_at}
use Rattle.fits_rules.specs.Lead.{lead_card}
use Rattle.fits_rules.specs.Shape.{shape_of}
use Rattle.fits_rules.specs.declared.array_shape.Shape.{Shape}
use Rattle.fits_rules.proofs.DescribesLemmas.{described}
use Rattle.fits_sum.specs.ChecksumText.{checksum_text, zeros}
use Rattle.fits_image.proofs.LeadFromLemmas.{lead_card_is}
use Rattle.fits_image.proofs.PlainTextLemmas.{plain_card}
use Rattle.fits_passing.specs.ExtensionName.{extension_name}
use Rattle.fits_passing.specs.Hdu.{HduParts}
use Rattle.fits_hdu.specs.Stamp.{IsOneCard, IsSumName, StampingKeepsNames, stamped, with_keyword}
use Rattle.fits_passing.specs.Sums.{data_sum, hdu_sum}
use Rattle.fits_hdu.proofs.SettingLemmas.{set_keeps}
use Rattle.fits_hdu.proofs.StampLemmas.{set_after}
use Rattle.fits_hdu.proofs.StampingLemmas.{datasum_one, set_cards, set_one, set_shape, stamped_by, sum_low, text_one, zeros_one}

-- a keyword of a stamp is none that begins with an E
sum_other : (name other : List ℕ) → IsSumName name → get_or other 0 0 ≡ 69 → name ≢ other
sum_other name other (inl e) letter f = let is = ap (λ (x : List ℕ). get_or x 0 0) (sym e ∙ f) in omega (arith, letter, is)
sum_other name other (inr e) letter f = let is = ap (λ (x : List ℕ). get_or x 0 0) (sym e ∙ f) in omega (arith, letter, is)

-- nor is CONTINUE
link_other : (other : List ℕ) → get_or other 0 0 ≡ 69 → codes "CONTINUE" ≢ other
link_other other letter f = let is = ap (λ (x : List ℕ). get_or x 0 0) f in omega (arith, letter, is)

-- so the lead of such a name stays where one is set
lead_stays : (cards : List (List ℕ)) (name other : List ℕ) (new : List (List ℕ)) → IsSumName name → IsOneCard name new → get_or other 0 0 ≡ 69 → lead_card (set_cards cards name new) other ≡ lead_card cards other
lead_stays cards name other new low one letter =
    let kept = set_keeps name other cards (set_cards cards name new) one.card (set_one cards name new one) (sum_other name other low letter) (link_other other letter) one.named one.valued in
    lead_card_is (set_cards cards name new) other ∙ (kept.lead ∙ sym (lead_card_is cards other))

-- lists that begin alike have one first card
same_first : (front xs ys : List (List ℕ)) → 1 ≤ length front → card_at (front ++ xs) 1 ≡ card_at (front ++ ys) 1
same_first [] xs ys some = absurd (omega (arith, some))
same_first (x ∷ front) xs ys some = refl

-- as cards do where a keyword of a stamp is set
first_stays : (primary : Bool) (cards : List (List ℕ)) (name : List ℕ) (new : List (List ℕ)) (shape : Shape) → shape_of primary cards ≡ Ok shape → IsSumName name → IsOneCard name new → card_at (set_cards cards name new) 1 ≡ card_at cards 1
first_stays primary cards name new shape e low one =
    let w = set_one cards name new one in
    let later = set_after primary name cards (set_cards cards name new) one.card shape (described primary cards shape e) (sum_low name low) w w.gone refl in
    ap (λ xs. card_at xs 1) w.is ∙ (same_first w.front (one.card ∷ w.behind) (w.gone ++ w.behind) (omega (arith, later, w.at)) ∙ sym (ap (λ xs. card_at xs 1) w.was))

-- so an extension is called as before
set_named : (primary : Bool) (cards : List (List ℕ)) (name : List ℕ) (new : List (List ℕ)) (shape : Shape) → shape_of primary cards ≡ Ok shape → IsSumName name → IsOneCard name new → extension_name primary (set_cards cards name new) ≡ extension_name primary cards
unfolding extension_name
set_named true cards name new shape e low one = refl
set_named false cards name new shape e low one = rw (first_stays false cards name new shape e low one, lead_stays cards name (codes "EXTNAME ") new low one refl, lead_stays cards name (codes "EXTVER  ") new low one refl) refl

-- and after the three changes of a stamp
pub stamping_keeps_names : StampingKeepsNames
stamping_keeps_names primary hdu shape e =
    let first : List (List ℕ) = plain_card (codes "CHECKSUM") zeros ∷ [] in
    let a = with_keyword (codes "CHECKSUM") (Some first) hdu in
    let second : List (List ℕ) = plain_card (codes "DATASUM ") (decimal (data_sum hdu)) ∷ [] in
    let b = with_keyword (codes "DATASUM ") (Some second) a in
    let third : List (List ℕ) = plain_card (codes "CHECKSUM") (checksum_text (hdu_sum b)) ∷ [] in
    let c = with_keyword (codes "CHECKSUM") (Some third) b in
    let is : c ≡ stamped hdu = stamped_by hdu a b c first second third refl refl refl refl refl refl in
    let here = set_shape primary hdu.header.cards (codes "CHECKSUM") first shape e (inr refl) (zeros_one first refl) in
    let there = set_shape primary a.header.cards (codes "DATASUM ") second shape here (inl refl) (datasum_one hdu second refl) in
    sym (ap (λ (h : HduParts). extension_name primary h.header.cards) is)
    ∙ (set_named primary b.header.cards (codes "CHECKSUM") third shape there (inr refl) (text_one b third refl)
    ∙ (set_named primary a.header.cards (codes "DATASUM ") second shape here (inl refl) (datasum_one hdu second refl)
    ∙ set_named primary hdu.header.cards (codes "CHECKSUM") first shape e (inr refl) (zeros_one first refl)))
