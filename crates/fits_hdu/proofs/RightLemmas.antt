-- A stamped HDU sums to all ones.
use Rattle.std.proofs.Common.{◌≡◌, inl, inr, ℕ, ◌-◌, ◌%◌, Bool, List, [], ◌∷◌, ◌++◌, length, replicate, take, codes, refl, ap, sym, ◌∙◌, subst, arith, All, Option, None, Some}
use Rattle.std.specs.Fmt.{decimal}
use Rattle.std.specs.Option.{option_map}
use Rattle.std.proofs.lemmas.List.{append_assoc, length-append}
use Rattle.std.proofs.lemmas.List.Concat.{flat_map-append}
use Rattle.std.proofs.lemmas.List.Elements.{All-cons, All-head, All-nil, All-tail}
use Rattle.std.proofs.lemmas.Option.{same_Some}
use Rattle.fits_card.specs.Header.{IsInnerCard, fill_length, joined_cards}
use Rattle.fits_card.proofs.HeaderLemmas.{length-joined_cards}
use Rattle.fits_sum.specs.ChecksumText.{checksum_text, with_text, zeros}
use Rattle.fits_sum.specs.OnesComplement.{ones_complement}
use Rattle.fits_sum.specs.Words.{word_total}
use Rattle.fits_sum.proofs.TextLemmas.{stamped_sums_to_all_ones}
use Rattle.fits_value.specs.Says.{first_chain_length}
use Rattle.fits_passing.specs.Hdu.{HduParts, IsHdu}
use Rattle.fits_hdu.specs.Stamp.{stamped, with_keyword}
use Rattle.fits_passing.specs.Sums.{data_sum, hdu_sum}
use Rattle.fits_image.proofs.LeadFromLemmas.{From, from_lead}
use Rattle.fits_hdu.proofs.SettingLemmas.{chain_from, gone_of, set_is, set_leads}
use Rattle.fits_image.proofs.PlainTextLemmas.{plain_card, plain_named, plain_valued}
use Rattle.fits_hdu.proofs.StampTextLemmas.{zeros_plain}
use Rattle.fits_hdu.proofs.StampingLemmas.{datasum_one, datasum_other, other_kept, plain_chain, set_leaves, stamped_by, sum_valued, zeros_one}

-- the text stands in its bytes 12 to 27
pub text_in : (sum : ℕ) → plain_card (codes "CHECKSUM") (checksum_text sum) ≡ with_text (plain_card (codes "CHECKSUM") zeros) (checksum_text sum)
text_in sum = refl

-- as the sixteen `0` do
pub zeros_in : plain_card (codes "CHECKSUM") zeros ≡ with_text (plain_card (codes "CHECKSUM") zeros) zeros
zeros_in = refl

-- the bytes of an HDU with a card among its cards
pub bytes_parts : (front behind : List (List ℕ)) (card end unit : List ℕ) → (joined_cards (front ++ (card ∷ behind)) ++ end) ++ unit ≡ joined_cards front ++ (card ++ (joined_cards behind ++ (end ++ unit)))
bytes_parts front behind card end unit =
    ap (λ (xs : List ℕ). (xs ++ end) ++ unit) (flat_map-append (λ (c : List ℕ). c) front (card ∷ behind))
    ∙ (append_assoc (joined_cards front ++ (card ++ joined_cards behind)) end unit
    ∙ (append_assoc (joined_cards front) (card ++ joined_cards behind) (end ++ unit)
    ∙ ap (λ (xs : List ℕ). joined_cards front ++ xs) (append_assoc card (joined_cards behind) (end ++ unit))))

-- with the text of its sum in place of sixteen `0` it sums to all ones
pub text_sums : (front behind : List (List ℕ)) (end unit : List ℕ) (sum : ℕ) → All IsInnerCard front → ones_complement (word_total ((joined_cards (front ++ (plain_card (codes "CHECKSUM") zeros ∷ behind)) ++ end) ++ unit)) ≡ sum
    → ones_complement (word_total ((joined_cards (front ++ (plain_card (codes "CHECKSUM") (checksum_text sum) ∷ behind)) ++ end) ++ unit)) ≡ 4294967295
text_sums front behind end unit sum inner e =
    let rest : List ℕ = joined_cards behind ++ (end ++ unit) in
    let words : length (joined_cards front) % 4 ≡ 0 = omega (arith, length-joined_cards front inner) in
    let before : ones_complement (word_total (joined_cards front ++ (with_text (plain_card (codes "CHECKSUM") zeros) zeros ++ rest))) ≡ sum =
    sym (ap (λ (xs : List ℕ). ones_complement (word_total xs)) (bytes_parts front behind (plain_card (codes "CHECKSUM") zeros) end unit ∙ ap (λ (card : List ℕ). joined_cards front ++ (card ++ rest)) zeros_in)) ∙ e in
    ap (λ (xs : List ℕ). ones_complement (word_total xs)) (bytes_parts front behind (plain_card (codes "CHECKSUM") (checksum_text sum)) end unit ∙ ap (λ (card : List ℕ). joined_cards front ++ (card ++ rest)) (text_in sum))
    ∙ stamped_sums_to_all_ones sum (joined_cards front) (plain_card (codes "CHECKSUM") zeros) rest words refl before

-- one card is a keyword's where its chain is
gone_one : (o : Option From) (card : List ℕ) → chain_from o ≡ Some 1 → option_map (λ (f : From). f.0) o ≡ Some card → gone_of o ≡ card ∷ []
gone_one None card p q = absurd (cc)
gone_one (Some from) card p q =
    let one = same_Some (first_chain_length (from.0 ∷ from.1)) 1 p in
    ap (λ n. from.0 ∷ take (n - 1) from.1) one ∙ ap (λ (x : List ℕ). x ∷ []) (same_Some from.0 card q)

-- what holds of all holds of the first ones
first_inner : (xs ys : List (List ℕ)) → All IsInnerCard (xs ++ ys) → All IsInnerCard xs
first_inner [] ys all = All-nil IsInnerCard
first_inner (x ∷ xs) ys all = All-cons IsInnerCard x xs (All-head IsInnerCard x (xs ++ ys) all) (first_inner xs ys (All-tail IsInnerCard x (xs ++ ys) all))

-- a stamped HDU sums to all ones
pub stamped_sum : (primary : Bool) (hdu : HduParts) → IsHdu primary hdu → hdu_sum (stamped hdu) ≡ 4294967295
unfolding hdu_sum
stamped_sum primary hdu p =
    let zero = plain_card (codes "CHECKSUM") zeros in
    let first : List (List ℕ) = zero ∷ [] in
    let a = with_keyword (codes "CHECKSUM") (Some first) hdu in
    let second : List (List ℕ) = plain_card (codes "DATASUM ") (decimal (data_sum hdu)) ∷ [] in
    let b = with_keyword (codes "DATASUM ") (Some second) a in
    let text = plain_card (codes "CHECKSUM") (checksum_text (hdu_sum b)) in
    let third : List (List ℕ) = text ∷ [] in
    let c = with_keyword (codes "CHECKSUM") (Some third) b in
    let is : c ≡ stamped hdu = stamped_by hdu a b c first second third refl refl refl refl refl refl in
    let q = set_leaves primary hdu (codes "CHECKSUM") first p (inr refl) (zeros_one first refl) in
    let r = set_leaves primary a (codes "DATASUM ") second q (inl refl) (datasum_one hdu second refl) in
    let w = set_is (codes "CHECKSUM") b.header.cards text in
    let set_first = set_leads (codes "CHECKSUM") hdu.header.cards a.header.cards zero (set_is (codes "CHECKSUM") hdu.header.cards zero) (plain_named (codes "CHECKSUM") zeros refl) (plain_valued (codes "CHECKSUM") zeros refl (sum_valued (codes "CHECKSUM") (inr refl))) in
    let later = other_kept a.header.cards (codes "DATASUM ") (codes "CHECKSUM") second (inl refl) (inr refl) (λ e. datasum_other (sym e)) (datasum_one hdu second refl) in
    let chain = later.chain ∙ plain_chain hdu.header.cards (codes "CHECKSUM") zeros first (inr refl) zeros_plain refl in
    let gone : w.gone ≡ zero ∷ [] = w.gone_is ∙ gone_one (from_lead (codes "CHECKSUM") b.header.cards) zero chain (later.lead ∙ ap (option_map (λ (f : From). f.0)) set_first) in
    let was : b.header.cards ≡ w.front ++ (zero ∷ w.behind) = w.was ∙ ap (λ gone. w.front ++ (gone ++ w.behind)) gone in
    let count : length c.header.cards ≡ length b.header.cards = ap length w.is ∙ (length-append w.front (text ∷ w.behind) ∙ (sym (length-append w.front (zero ∷ w.behind)) ∙ sym (ap length was))) in
    let fill : c.header.fill ≡ b.header.fill = ap (λ n. replicate (fill_length n) 32) count in
    let inner = first_inner w.front (zero ∷ w.behind) (subst (All IsInnerCard) was r.header.cards) in
    let end : List ℕ = b.header.end ++ b.header.fill in
    let before = ap (λ cards. ones_complement (word_total ((joined_cards cards ++ end) ++ b.data_unit))) (sym was) in
    let sums = text_sums w.front w.behind end b.data_unit (hdu_sum b) inner before in
    ap hdu_sum (sym is)
    ∙ (ap (λ (fill : List ℕ). ones_complement (word_total ((joined_cards c.header.cards ++ (b.header.end ++ fill)) ++ b.data_unit))) fill
    ∙ (ap (λ cards. ones_complement (word_total ((joined_cards cards ++ end) ++ b.data_unit))) w.is ∙ sums))
