-- A stamped HDU is right.
use Rattle.std.proofs.Common.{◌≡◌, inl, inr, ℕ, ◌^◌, ◌<◌, Bool, true, false, List, [], ◌∷◌, drop, codes, refl, ap, sym, ◌∙◌, arith, Option, None, Some}
use Rattle.std.specs.Prelude.{◌&&◌, nat_lt, if◌then◌else◌}
use Rattle.std.specs.Fmt.{decimal}
use Rattle.std.specs.List.{list_all, prefix_len}
use Rattle.std.specs.Option.{option_map}
use Rattle.std.proofs.lemmas.Bool.{and_parts, cond-false, cond-true, eq-eqb, lt-ltb}
use Rattle.fits_card.specs.Card.{has_value}
use Rattle.fits_rules.specs.Lead.{lead_card}
use Rattle.fits_rules.specs.Reads.{value_said}
use Rattle.fits_sum.specs.ChecksumText.{checksum_text, is_letter_or_digit, zeros}
use Rattle.fits_value.specs.Number.{value_of}
use Rattle.fits_value.specs.Spelling.{is_digit, is_space}
use Rattle.fits_value.specs.declared.value.Value.{Value}
use Rattle.fits_value.specs.declared.value.Value.TheVariants.{Str}
use Rattle.fits_passing.specs.Hdu.{HduParts, IsHdu}
use Rattle.fits_hdu.specs.Stamp.{IsOneCard, IsSumName, stamped, with_keyword}
use Rattle.fits_passing.specs.Sums.{checksum_verdict, data_sum, datasum_verdict, hdu_sum, right_if, sum_keywords, sum_of_lead, sum_of_number, sum_of_text, sum_of_value, unspaced, verdicts_by, verdicts_of}
use Rattle.fits_passing.specs.declared.keywords.SumKeywords.{SumKeywords}
use Rattle.fits_passing.specs.declared.sum_said.SumSaid.TheVariants.{Nothing, Number, Other}
use Rattle.fits_passing.specs.declared.verdict.Verdict.{Verdict}
use Rattle.fits_passing.specs.declared.verdict.Verdict.TheVariants.{Right}
use Rattle.fits_hdu.proofs.RightLemmas.{stamped_sum}
use Rattle.fits_image.proofs.LeadFromLemmas.{From, lead_card_is}
use Rattle.fits_hdu.proofs.SettingLemmas.{set_is, set_leads}
use Rattle.fits_image.proofs.PlainTextLemmas.{IsPlain, decimal_plain, decimal_says, letter_no_space, plain_card, plain_named, plain_says, plain_valued}
use Rattle.fits_hdu.proofs.StampTextLemmas.{text_plain}
use Rattle.fits_hdu.proofs.StampingLemmas.{data_small, datasum_other, hdu_small, other_kept, set_cards, stamped_by, sum_size, sum_text, sum_valued, text_one}

-- a plain text begins with no space
plain_begins : (text : List ℕ) → IsPlain text → (list_all is_space text ≡ false) × (prefix_len is_space text ≡ 0)
plain_begins [] p = absurd (omega (arith, p.some))
plain_begins (c ∷ cs) p =
    let none = letter_no_space c (and_parts (is_letter_or_digit c) (list_all is_letter_or_digit cs) p.letters).0 in
    (ap (λ b. b && list_all is_space cs) none, cond-false (is_space c) _ 0 none)

-- so it says a sum where all are digits, and else another text
plain_sum : (text : List ℕ) → IsPlain text → sum_of_text text ≡ (if list_all is_digit text then sum_of_number (value_of text) else Other)
plain_sum text p =
    let begins = plain_begins text p in
    let same : unspaced text ≡ text = ap (λ n. drop n text) begins.1 in
    cond-false (list_all is_space text) Nothing _ begins.0 ∙ ap (λ (xs : List ℕ). if list_all is_digit xs then sum_of_number (value_of xs) else Other) same

-- a number of 32 bits, written in decimal digits, says itself
decimal_sum : (number : ℕ) → number < 2 ^ 32 → sum_of_text (decimal number) ≡ Number number
decimal_sum number small =
    let says = decimal_says number (omega arith) in
    plain_sum (decimal number) (decimal_plain number small)
    ∙ (cond-true (list_all is_digit (decimal number)) (sum_of_number (value_of (decimal number))) Other says.0
    ∙ (ap sum_of_number says.1 ∙ cond-true (nat_lt number 4294967296) (Number number) Other (lt-ltb number 4294967296 (omega arith))))

-- a number is right where the sum of the HDU is all ones, too large or not
number_verdict : (small : Bool) (number : ℕ) → checksum_verdict (if small then Number number else Other) 4294967295 ≡ Right
number_verdict true number = refl
number_verdict false number = refl

-- and so is any text that isn't spaces alone
said_verdict : (digits : Bool) (number : ℕ) → checksum_verdict (if digits then sum_of_number number else Other) 4294967295 ≡ Right
said_verdict true number = number_verdict (nat_lt number 4294967296) number
said_verdict false number = refl

-- as a plain one
plain_verdict : (text : List ℕ) → IsPlain text → checksum_verdict (sum_of_text text) 4294967295 ≡ Right
plain_verdict text p = ap (λ said. checksum_verdict said 4294967295) (plain_sum text p) ∙ said_verdict (list_all is_digit text) (value_of text)

-- the card of a plain text has it for its value
plain_value : (name text : List ℕ) → IsSumName name → IsPlain text → value_said (plain_card name text) ≡ Some (Str text)
unfolding value_said
plain_value name text low p =
    cond-true (has_value (plain_card name text)) _ None (plain_valued name text (sum_size name low) (sum_valued name low))
    ∙ ap (option_map (λ (said : Value × Option (List ℕ)). said.0)) (plain_says name text (sum_size name low) (sum_text name low) p)

-- a keyword that is set to a plain text leads with its card
plain_leads : (cards : List (List ℕ)) (name text : List ℕ) → IsSumName name → lead_card (set_cards cards name (plain_card name text ∷ [])) name ≡ Some (plain_card name text)
plain_leads cards name text low =
    let card = plain_card name text in
    let after = set_cards cards name (card ∷ []) in
    lead_card_is after name
    ∙ ap (option_map (λ (f : From). f.0)) (set_leads name cards after card (set_is name cards card) (plain_named name text (sum_size name low)) (plain_valued name text (sum_size name low) (sum_valued name low)))

-- so its lead says what the text does
plain_said : (cards : List (List ℕ)) (name text : List ℕ) → IsSumName name → IsPlain text → sum_of_lead (lead_card (set_cards cards name (plain_card name text ∷ [])) name) ≡ sum_of_text text
plain_said cards name text low p = ap sum_of_lead (plain_leads cards name text low) ∙ ap sum_of_value (plain_value name text low p)

-- DATASUM keeps its lead where CHECKSUM is set
datasum_leads : (cards new : List (List ℕ)) → IsOneCard (codes "CHECKSUM") new → lead_card (set_cards cards (codes "CHECKSUM") new) (codes "DATASUM ") ≡ lead_card cards (codes "DATASUM ")
datasum_leads cards new one =
    let kept = other_kept cards (codes "CHECKSUM") (codes "DATASUM ") new (inr refl) (inl refl) datasum_other one in
    lead_card_is (set_cards cards (codes "CHECKSUM") new) (codes "DATASUM ") ∙ (kept.lead ∙ sym (lead_card_is cards (codes "DATASUM ")))

-- a keyword that is set leaves the data unit its sum
unit_stays : (name : List ℕ) (written : Option (List (List ℕ))) (hdu : HduParts) → data_sum (with_keyword name written hdu) ≡ data_sum hdu
unfolding data_sum
unit_stays name written hdu = refl

-- both verdicts, where DATASUM says the sum, CHECKSUM a plain text, and the HDU sums to all ones
right_by : (said : SumKeywords) (unit whole : ℕ) (text : List ℕ) → IsPlain text → said.datasum ≡ Number unit → said.checksum ≡ sum_of_text text → whole ≡ 4294967295 → verdicts_by said unit whole ≡ record { datasum = Right; checksum = Right }
right_by said unit whole text p d e f =
    let datasum : datasum_verdict said.datasum unit ≡ Right = ap (λ x. datasum_verdict x unit) d ∙ ap right_if (eq-eqb unit unit refl) in
    let checksum : checksum_verdict said.checksum whole ≡ Right = ap (λ n. checksum_verdict said.checksum n) f ∙ (ap (λ x. checksum_verdict x 4294967295) e ∙ plain_verdict text p) in
    ap (λ (v : Verdict). record { datasum = v; checksum = checksum_verdict said.checksum whole }) datasum ∙ ap (λ (v : Verdict). record { datasum = Right; checksum = v }) checksum

-- a stamped HDU is right
pub stamped_right : (primary : Bool) (hdu : HduParts) → IsHdu primary hdu → verdicts_of (stamped hdu) ≡ record { datasum = Right; checksum = Right }
unfolding verdicts_of sum_keywords
stamped_right primary hdu p =
    let first : List (List ℕ) = plain_card (codes "CHECKSUM") zeros ∷ [] in
    let a = with_keyword (codes "CHECKSUM") (Some first) hdu in
    let second : List (List ℕ) = plain_card (codes "DATASUM ") (decimal (data_sum hdu)) ∷ [] in
    let b = with_keyword (codes "DATASUM ") (Some second) a in
    let text = checksum_text (hdu_sum b) in
    let third : List (List ℕ) = plain_card (codes "CHECKSUM") text ∷ [] in
    let c = with_keyword (codes "CHECKSUM") (Some third) b in
    let is : c ≡ stamped hdu = stamped_by hdu a b c first second third refl refl refl refl refl refl in
    let plain = text_plain (hdu_sum b) (hdu_small b) in
    let unit : data_sum c ≡ data_sum hdu = unit_stays (codes "CHECKSUM") (Some third) b ∙ (unit_stays (codes "DATASUM ") (Some second) a ∙ unit_stays (codes "CHECKSUM") (Some first) hdu) in
    let datasum : sum_of_lead (lead_card c.header.cards (codes "DATASUM ")) ≡ Number (data_sum c) =
    ap sum_of_lead (datasum_leads b.header.cards third (text_one b third refl))
    ∙ (plain_said a.header.cards (codes "DATASUM ") (decimal (data_sum hdu)) (inl refl) (decimal_plain (data_sum hdu) (data_small hdu))
    ∙ (decimal_sum (data_sum hdu) (data_small hdu) ∙ ap Number (sym unit))) in
    let checksum : sum_of_lead (lead_card c.header.cards (codes "CHECKSUM")) ≡ sum_of_text text = plain_said b.header.cards (codes "CHECKSUM") text (inr refl) plain in
    ap verdicts_of (sym is) ∙ right_by (sum_keywords c.header.cards) (data_sum c) (hdu_sum c) text plain datasum checksum (ap hdu_sum is ∙ stamped_sum primary hdu p)
