-- The steps of a stamp.
use Rattle.std.proofs.Common.{◌≡◌, inl, inr, ℕ, ◌+◌, ◌-◌, ◌%◌, ◌^◌, ◌<◌, ◌≤◌, Bool, false, eqb, set, List, [], ◌∷◌, ◌++◌, length, get_or, drop, replicate, codes, refl, ap, sym, ◌∙◌, subst, arith, All, Option, None, Some}
use Rattle.std.specs.Prelude.{◌≢◌, Ok, IsTrue}
use Rattle.std.specs.Fmt.{decimal}
use Rattle.std.specs.Option.{option_map, option_map_or}
use Rattle.std.proofs.lemmas.Bool.{cases_Bool, cond-false, cond-true}
use Rattle.std.proofs.lemmas.List.{append-nil, append_assoc, drop-replicate, length-append}
use Rattle.std.proofs.lemmas.List.Elements.{All-cons, All-nil}
use Rattle.std.proofs.lemmas.Slice.Eq.{bytes_eq-Decides}
use Rattle.fits_card.specs.Card.{card_of_text, IsEnd, IsText, is_end, is_text, keyword_name}
use Rattle.fits_card.specs.Change.{IsInRange, cards_after, new_cards}
use Rattle.fits_card.specs.Header.{Header, IsInnerCard, header_bytes}
use Rattle.fits_card.specs.Name.{end_name, is_valueless}
use Rattle.fits_card.specs.declared.change.Change.{Change}
use Rattle.fits_card.proofs.ChangeLemmas.{length-spliced}
use Rattle.fits_card.proofs.HeaderLemmas.{fill_length-by_cards, length-header_bytes}
use Rattle.fits_hdu.proofs.ChangeLemmas.{hdu-changed}
use Rattle.fits_codes.specs.HeaderCodes.{blank_said}
use Rattle.fits_rules.specs.Class.{is_primary}
use Rattle.fits_rules.specs.Image.{image_bits}
use Rattle.fits_rules.specs.Lead.{lead_card, lead_place}
use Rattle.fits_rules.specs.Reads.{in_64_bits, integer_said}
use Rattle.fits_rules.specs.Shape.{shape_of}
use Rattle.fits_rules.specs.declared.array_shape.Shape.{Shape}
use Rattle.fits_rules.proofs.SameShapeLemmas.{same_shape-Decides}
use Rattle.fits_sum.specs.ChecksumText.{checksum_text, zeros}
use Rattle.fits_sum.specs.DatasumCard.{datasum_card}
use Rattle.fits_sum.specs.OnesComplement.{ones_complement}
use Rattle.fits_sum.specs.Words.{word_total}
use Rattle.fits_sum.proofs.SumLemmas.{ones_complement-add}
use Rattle.fits_sum.proofs.WordLemmas.{totals_add}
use Rattle.fits_passing.specs.Hdu.{HduParts, IsHdu, hdu_after, hdu_bytes, keeps_shape}
use Rattle.fits_hdu.specs.Keyword.{keyword_cards, own_count, replacing}
use Rattle.fits_passing.specs.Layout.{blank_number, layout_by, layout_of}
use Rattle.fits_hdu.specs.Stamp.{DatasumIsWritten, IsOneCard, IsSumName, stamped, with_datasum, with_keyword, with_string}
use Rattle.fits_hdu.specs.State.{HduState, ReadsUpTo}
use Rattle.fits_passing.specs.Sums.{data_sum, hdu_sum}
use Rattle.fits_hdu.specs.Work.{FollowsBlank, PixelWork, keyword_reads, stamp_count_reads, stamp_reads}
use Rattle.fits_passing.specs.Work.{apply_reads}
use Rattle.fits_hdu.specs.declared.keyword_cards.KeywordCards.{KeywordCards}
use Rattle.fits_hdu.proofs.KeywordLemmas.{keyword_within}
use Rattle.fits_hdu.proofs.SettingLemmas.{IsKept, IsSet, chain_alone, chain_from, count_by_chain, reads_by_chain, set_is, set_keeps, set_leads}
use Rattle.fits_image.proofs.LeadFromLemmas.{from_lead, lead_card_is}
use Rattle.fits_hdu.proofs.StampLemmas.{IsLow, set_keeps_shape}
use Rattle.fits_image.proofs.PlainTextLemmas.{IsPlain, decimal_plain, plain_card, plain_ends, plain_named, plain_size, plain_string, plain_valued, plain_written}
use Rattle.fits_hdu.proofs.StampTextLemmas.{text_long, text_plain, zeros_plain}

-- the two names are low
pub sum_low : (name : List ℕ) → IsSumName name → IsLow name
sum_low name (inl e) = rw e (record { above = omega arith; below = omega arith; second = λ e. omega (arith, e) })
sum_low name (inr e) = rw e (record { above = omega arith; below = omega arith; second = λ e. omega (arith, e) })

-- cards with one instead of a keyword's
abbrev pub set_cards : List (List ℕ) → List ℕ → List (List ℕ) → List (List ℕ)
set_cards cards name new = cards_after cards (replacing (length cards) (keyword_cards cards name) new)

-- a keyword's cards lie among the cards
replacing_range : (cards : List (List ℕ)) (name : List ℕ) (new : List (List ℕ)) (old : Option KeywordCards) → keyword_cards cards name ≡ old → IsInRange cards (replacing (length cards) old new)
unfolding IsInRange
replacing_range cards name new None e = (omega arith, omega arith)
replacing_range cards name new (Some old) e = keyword_within cards name old e

-- so the change is in range
pub set_in_range : (cards : List (List ℕ)) (name : List ℕ) (new : List (List ℕ)) (old : Option KeywordCards) (change : Change) (count : ℕ) → count ≡ length cards → old ≡ keyword_cards cards name → change ≡ replacing count old new → IsInRange cards change
set_in_range cards name new old change count n e f = rw (f, n) (replacing_range cards name new old (sym e))

-- a card of such a name doesn't end a header
sum_no_end : (name card : List ℕ) → IsSumName name → keyword_name card ≡ name → IsEnd card → ⊥
unfolding is_end
sum_no_end name card low e end =
    let is = ap (λ (x : List ℕ). get_or x 0 0) (sym e ∙ (bytes_eq-Decides (keyword_name card) end_name).0 end) in
    name_no_end name low is
  where
    name_no_end : (name : List ℕ) → IsSumName name → get_or name 0 0 ≡ 69 → ⊥
    name_no_end name (inl f) is = let letter = ap (λ (x : List ℕ). get_or x 0 0) f in omega (arith, letter, is)
    name_no_end name (inr f) is = let letter = ap (λ (x : List ℕ). get_or x 0 0) f in omega (arith, letter, is)

-- nor does the change
pub set_not_end : (name : List ℕ) (new : List (List ℕ)) (change : Change) → IsSumName name → IsOneCard name new → new_cards change ≡ new → All (λ card. IsEnd card → ⊥) (new_cards change)
set_not_end name new change low one e = rw e (rw one.is (All-cons (λ card. IsEnd card → ⊥) one.card [] (sum_no_end name one.card low one.named) (All-nil (λ card. IsEnd card → ⊥))))

-- how many cards there are then
replacing_length : (cards : List (List ℕ)) (name : List ℕ) (new : List (List ℕ)) (old : Option KeywordCards) → keyword_cards cards name ≡ old → length (cards_after cards (replacing (length cards) old new)) + option_map_or (λ (at : KeywordCards). at.count) old 0 ≡ length cards + length new
unfolding cards_after
replacing_length cards name new None e = length-spliced cards new (length cards + 1) 0 (omega arith) (omega arith)
replacing_length cards name new (Some old) e = let within = keyword_within cards name old e in length-spliced cards new old.place old.count within.0 within.1

-- one more at most
pub set_length : (cards : List (List ℕ)) (name card : List ℕ) → length (set_cards cards name (card ∷ [])) + own_count cards name ≡ length cards + 1
set_length cards name card = replacing_length cards name (card ∷ []) (keyword_cards cards name) refl

-- so there is room
pub set_room : (cards : List (List ℕ)) (name : List ℕ) (new : List (List ℕ)) (old : Option KeywordCards) (change : Change) (count room : ℕ) → count ≡ length cards → old ≡ keyword_cards cards name → change ≡ replacing count old new → IsOneCard name new → 1 ≤ room + own_count cards name → length (cards_after cards change) ≤ length cards + room
set_room cards name new old change count room n e f one some = let size = ap length one.is in rw (f, n) (omega (arith, replacing_length cards name new old (sym e), size, some, ap (λ at. option_map_or (λ (at : KeywordCards). at.count) at 0) e))

-- and so much is left of it
pub set_left : (cards : List (List ℕ)) (name : List ℕ) (new : List (List ℕ)) (old : Option KeywordCards) (change : Change) (count room room' : ℕ) (cards' : List (List ℕ)) → count ≡ length cards → old ≡ keyword_cards cards name → change ≡ replacing count old new → IsOneCard name new
    → cards' ≡ cards_after cards change → room' + length cards' ≡ room + length cards → room' + 1 ≡ room + own_count cards name
set_left cards name new old change count room room' cards' n e f one is left =
    let size = ap length one.is in
    let now : cards' ≡ set_cards cards name new = rw (← n, ← e, ← f) is in
    omega (arith, replacing_length cards name new (keyword_cards cards name) refl, size, left, ap length now)

-- where there is no lead none has to go
pub none_own : (cards : List (List ℕ)) (name : List ℕ) → lead_place cards name ≡ None → own_count cards name ≡ 0
unfolding keyword_cards
none_own cards name e = rw e refl

-- where there is one, a card goes at least
pub some_own : (cards : List (List ℕ)) (name : List ℕ) (place : ℕ) → lead_place cards name ≡ Some place → 1 ≤ own_count cards name
unfolding keyword_cards
some_own cards name place e = rw e (omega arith)

-- the cards with one instead of a keyword's
pub set_one : (cards : List (List ℕ)) (name : List ℕ) (new : List (List ℕ)) → (one : IsOneCard name new) → IsSet name cards (set_cards cards name new) one.card
set_one cards name new one = subst (λ xs. IsSet name cards (set_cards cards name xs) one.card) (sym one.is) (set_is name cards one.card)

-- they describe the shape
pub set_shape : (primary : Bool) (cards : List (List ℕ)) (name : List ℕ) (new : List (List ℕ)) (shape : Shape) → shape_of primary cards ≡ Ok shape → IsSumName name → IsOneCard name new → shape_of primary (set_cards cards name new) ≡ Ok shape
set_shape primary cards name new shape e low one = set_keeps_shape primary name cards (set_cards cards name new) one.card shape e (sum_low name low) (set_one cards name new one) one.named

-- as the ones before
pub set_kept : (cards : List (List ℕ)) (name : List ℕ) (new : List (List ℕ)) (old : Option KeywordCards) (change : Change) (count : ℕ) (shape : Shape) → count ≡ length cards → old ≡ keyword_cards cards name → change ≡ replacing count old new
    → shape_of (is_primary shape.class) cards ≡ Ok shape → IsSumName name → IsOneCard name new → IsTrue (keeps_shape (is_primary shape.class) cards (cards_after cards change))
set_kept cards name new old change count shape n e f described low one =
    let after = set_shape (is_primary shape.class) cards name new shape described low one in
    rw (f, n, e, described) ((same_shape-Decides shape (shape_of (is_primary shape.class) (set_cards cards name new))).1 after)

-- the HDU then
pub set_hdu : (hdu : HduParts) (name : List ℕ) (new : List (List ℕ)) (old : Option KeywordCards) (change : Change) (count : ℕ) → count ≡ length hdu.header.cards → old ≡ keyword_cards hdu.header.cards name → change ≡ replacing count old new → hdu_after change hdu ≡ with_keyword name (Some new) hdu
set_hdu hdu name new old change count n e f = rw (f, n, e) refl

-- BLANK is the same where its lead is
blank_layout : (bits : Option ℕ) (shape : Shape) (a b : List (List ℕ)) → blank_said a ≡ blank_said b → (layout_by bits shape a).blank ≡ (layout_by bits shape b).blank
blank_layout None shape a b e = refl
blank_layout (Some bits) shape a b e = ap blank_number e

-- BLANK keeps its lead
blank_kept : (cards : List (List ℕ)) (name : List ℕ) (new : List (List ℕ)) → IsSumName name → IsOneCard name new → lead_card (set_cards cards name new) (codes "BLANK   ") ≡ lead_card cards (codes "BLANK   ")
blank_kept cards name new low one =
    let kept = set_keeps name (codes "BLANK   ") cards (set_cards cards name new) one.card (set_one cards name new one) (no_blank name low) other one.named one.valued in
    lead_card_is (set_cards cards name new) (codes "BLANK   ") ∙ (kept.lead ∙ sym (lead_card_is cards (codes "BLANK   ")))
  where
    other : codes "CONTINUE" ≢ codes "BLANK   "
    other e = let letter = ap (λ (x : List ℕ). get_or x 0 0) e in omega (arith, letter)

    no_blank : (name : List ℕ) → IsSumName name → name ≢ codes "BLANK   "
    no_blank name (inl e) f = let letter = ap (λ (x : List ℕ). get_or x 0 0) (sym e ∙ f) in omega (arith, letter)
    no_blank name (inr e) f = let letter = ap (λ (x : List ℕ). get_or x 0 0) (sym e ∙ f) in omega (arith, letter)

-- so no block is scanned
pub set_scans : (cards : List (List ℕ)) (name : List ℕ) (new : List (List ℕ)) (old : Option KeywordCards) (change : Change) (count blocks : ℕ) (shape shape' : Shape) (cards' : List (List ℕ)) (work work' : PixelWork) → count ≡ length cards → old ≡ keyword_cards cards name → change ≡ replacing count old new
    → IsSumName name → IsOneCard name new → shape' ≡ shape → cards' ≡ cards_after cards change → FollowsBlank (layout_of shape cards).blank (layout_of shape' cards').blank blocks work work' → work' ≡ work
unfolding layout_of
set_scans cards name new old change count blocks shape shape' cards' work work' n e f low one same is follows =
    let now : cards' ≡ set_cards cards name new = rw (← n, ← e, ← f) is in
    follows.same (rw (now, same) (blank_layout (image_bits shape) shape cards (set_cards cards name new) (ap (option_map (λ card. in_64_bits (integer_said card))) (sym (blank_kept cards name new low one)))))

pub ruleset set_steps = (set_in_range, set_not_end, set_kept, set_hdu, set_scans)

-- a sum has 32 bits
sum_small : (total : ℕ) → ones_complement total < 2 ^ 32
sum_small total = elim (cases_Bool (eqb total 0)) [
  | inl e ↦ let is = cond-true (eqb total 0) 0 ((total - 1) % 4294967295 + 1) e in omega (arith, is)
  | inr e ↦ let is = cond-false (eqb total 0) 0 ((total - 1) % 4294967295 + 1) e in omega (arith, is)
]

-- that of the data unit
pub data_small : (hdu : HduParts) → data_sum hdu < 2 ^ 32
unfolding data_sum
data_small hdu = sum_small (word_total hdu.data_unit)

-- and that of the HDU
pub hdu_small : (hdu : HduParts) → hdu_sum hdu < 2 ^ 32
unfolding hdu_sum
hdu_small hdu = sum_small (word_total (hdu_bytes hdu))

-- a keyword of a stamp may have a value
pub sum_valued : (name : List ℕ) → IsSumName name → is_valueless name ≡ false
unfolding is_valueless
sum_valued name (inl e) = rw e refl
sum_valued name (inr e) = rw e refl

-- and is text
pub sum_text : (name : List ℕ) → IsSumName name → IsText name
unfolding is_text
sum_text name (inl e) = rw e refl
sum_text name (inr e) = rw e refl

-- of eight bytes
pub sum_size : (name : List ℕ) → IsSumName name → length name ≡ 8
sum_size name (inl e) = rw e refl
sum_size name (inr e) = rw e refl

-- the card of a plain text is one card
pub plain_one : (name text : List ℕ) (cards : List (List ℕ)) → IsSumName name → IsPlain text → cards ≡ plain_card name text ∷ [] → IsOneCard name cards
plain_one name text cards low p is = record {
  card = plain_card name text;
  is = is;
  size = plain_size name text (sum_size name low) p;
  named = plain_named name text (sum_size name low);
  valued = plain_valued name text (sum_size name low) (sum_valued name low);
}

-- sixteen `0` are one card
pub zeros_one : (cards : List (List ℕ)) → cards ≡ plain_card (codes "CHECKSUM") zeros ∷ [] → IsOneCard (codes "CHECKSUM") cards
zeros_one cards is = plain_one (codes "CHECKSUM") zeros cards (inr refl) zeros_plain is

-- the card of a DATASUM is the one that is written
pub datasum_written : (sum : ℕ) → datasum_card sum ≡ plain_card (codes "DATASUM ") (decimal sum)
unfolding datasum_card
datasum_written sum = ap (λ xs. card_of_text (codes "DATASUM = '" ++ xs)) (sym (append_assoc (decimal sum) (replicate (8 - length (decimal sum)) 32) (codes "'")))

-- where it is set
pub datasum_is_written : DatasumIsWritten
datasum_is_written sum small = plain_written (codes "DATASUM ") (decimal sum) refl (decimal_plain sum small) ∙ ap (λ (card : List ℕ). Some (card ∷ [])) (sym (datasum_written sum))

-- that of a CHECKSUM too
pub checksum_written : (text : List ℕ) → length text ≡ 16 → card_of_text (codes "CHECKSUM= '" ++ (text ++ codes "'")) ≡ plain_card (codes "CHECKSUM") text
checksum_written text size =
    let none : 8 - length text ≡ 0 = omega (arith, size) in
    let all : text ++ replicate (8 - length text) 32 ≡ text = ap (λ n. text ++ replicate n 32) none ∙ append-nil text in
    ap (λ xs. card_of_text (codes "CHECKSUM= '" ++ (xs ++ codes "'"))) (sym all)

-- so is the sum of the data unit
pub datasum_one : (hdu : HduParts) (cards : List (List ℕ)) → cards ≡ plain_card (codes "DATASUM ") (decimal (data_sum hdu)) ∷ [] → IsOneCard (codes "DATASUM ") cards
datasum_one hdu cards is = plain_one (codes "DATASUM ") (decimal (data_sum hdu)) cards (inl refl) (decimal_plain (data_sum hdu) (data_small hdu)) is

-- the text of a checksum has sixteen characters
pub text_size : (hdu : HduParts) → length (checksum_text (hdu_sum hdu)) ≡ 16
text_size hdu = text_long (hdu_sum hdu) (hdu_small hdu)

-- and is one card
pub text_one : (hdu : HduParts) (cards : List (List ℕ)) → cards ≡ plain_card (codes "CHECKSUM") (checksum_text (hdu_sum hdu)) ∷ [] → IsOneCard (codes "CHECKSUM") cards
text_one hdu cards is = plain_one (codes "CHECKSUM") (checksum_text (hdu_sum hdu)) cards (inr refl) (text_plain (hdu_sum hdu) (hdu_small hdu)) is

-- a keyword set to a plain text
string_is : (name text : List ℕ) (hdu : HduParts) (cards : List (List ℕ)) → IsSumName name → IsPlain text → cards ≡ plain_card name text ∷ [] → with_string name text hdu ≡ with_keyword name (Some cards) hdu
string_is name text hdu cards low p is = ap (λ written. with_keyword name written hdu) (plain_written name text (sum_size name low) p ∙ ap Some (sym is))

-- the three changes of a stamp
pub stamped_by : (old a b c : HduParts) (first second third : List (List ℕ)) → first ≡ plain_card (codes "CHECKSUM") zeros ∷ [] → a ≡ with_keyword (codes "CHECKSUM") (Some first) old
    → second ≡ plain_card (codes "DATASUM ") (decimal (data_sum old)) ∷ [] → b ≡ with_keyword (codes "DATASUM ") (Some second) a
    → third ≡ plain_card (codes "CHECKSUM") (checksum_text (hdu_sum b)) ∷ [] → c ≡ with_keyword (codes "CHECKSUM") (Some third) b → c ≡ stamped old
unfolding stamped with_datasum
stamped_by old a b c first second third p q r s t u =
    let one : with_string (codes "CHECKSUM") zeros old ≡ a = string_is (codes "CHECKSUM") zeros old first (inr refl) zeros_plain p ∙ sym q in
    let two : with_string (codes "DATASUM ") (decimal (data_sum old)) a ≡ b = string_is (codes "DATASUM ") (decimal (data_sum old)) a second (inl refl) (decimal_plain (data_sum old) (data_small old)) r ∙ sym s in
    let three : with_string (codes "CHECKSUM") (checksum_text (hdu_sum b)) b ≡ c = string_is (codes "CHECKSUM") (checksum_text (hdu_sum b)) b third (inr refl) (text_plain (hdu_sum b) (hdu_small b)) t ∙ sym u in
    let summed : with_string (codes "DATASUM ") (decimal (data_sum old)) (with_string (codes "CHECKSUM") zeros old) ≡ b = ap (with_string (codes "DATASUM ") (decimal (data_sum old))) one ∙ two in
    sym (ap (λ (hdu : HduParts). with_string (codes "CHECKSUM") (checksum_text (hdu_sum hdu)) hdu) summed ∙ three)

-- the two names differ
pub datasum_other : codes "CHECKSUM" ≢ codes "DATASUM "
datasum_other e = let letter = ap (λ (x : List ℕ). get_or x 0 0) e in omega (arith, letter)

-- as does CONTINUE from them
continue_other : (name : List ℕ) → IsSumName name → codes "CONTINUE" ≢ name
continue_other name (inl e) f = let letter = ap (λ (x : List ℕ). get_or x 1 0) (f ∙ e) in omega (arith, letter)
continue_other name (inr e) f = let letter = ap (λ (x : List ℕ). get_or x 1 0) (f ∙ e) in omega (arith, letter)

-- the other keyword stays where one is set
pub other_kept : (cards : List (List ℕ)) (name other : List ℕ) (new : List (List ℕ)) → IsSumName name → IsSumName other → name ≢ other → IsOneCard name new → IsKept other cards (set_cards cards name new)
other_kept cards name other new low low' differ one = set_keeps name other cards (set_cards cards name new) one.card (set_one cards name new one) differ (continue_other other low') one.named one.valued

-- DATASUM is read by as many cards after CHECKSUM was set
pub datasum_reads : (hdu a : HduParts) (first : List (List ℕ)) → first ≡ plain_card (codes "CHECKSUM") zeros ∷ [] → a ≡ with_keyword (codes "CHECKSUM") (Some first) hdu → keyword_reads a.header.cards (codes "DATASUM ") ≡ keyword_reads hdu.header.cards (codes "DATASUM ")
datasum_reads hdu a first p q =
    let kept = other_kept hdu.header.cards (codes "CHECKSUM") (codes "DATASUM ") first (inr refl) (inl refl) datasum_other (zeros_one first p) in
    ap (λ (h : HduParts). keyword_reads h.header.cards (codes "DATASUM ")) q
    ∙ (reads_by_chain (set_cards hdu.header.cards (codes "CHECKSUM") first) (codes "DATASUM ") ∙ (ap (λ chain. option_map_or (λ n. n + 1) chain 0) kept.chain ∙ sym (reads_by_chain hdu.header.cards (codes "DATASUM "))))

-- CHECKSUM has one card where it was set to a plain text
pub plain_chain : (cards : List (List ℕ)) (name text : List ℕ) (new : List (List ℕ)) → IsSumName name → IsPlain text → new ≡ plain_card name text ∷ [] → chain_from (from_lead name (set_cards cards name new)) ≡ Some 1
unfolding plain_one
plain_chain cards name text new low p is =
    let one = plain_one name text new low p is in
    let w = set_one cards name new one in
    ap chain_from (set_leads name cards (set_cards cards name new) one.card w one.named one.valued)
    ∙ ap Some (chain_alone (plain_card name text) text w.behind one.valued (plain_string name text (sum_size name low) (sum_text name low) p) (plain_ends text p))

-- and still after DATASUM was
pub checksum_reads : (hdu a b : HduParts) (first second : List (List ℕ)) → first ≡ plain_card (codes "CHECKSUM") zeros ∷ [] → a ≡ with_keyword (codes "CHECKSUM") (Some first) hdu
    → second ≡ plain_card (codes "DATASUM ") (decimal (data_sum hdu)) ∷ [] → b ≡ with_keyword (codes "DATASUM ") (Some second) a → keyword_reads b.header.cards (codes "CHECKSUM") ≡ 2
checksum_reads hdu a b first second p q r s =
    let kept = other_kept a.header.cards (codes "DATASUM ") (codes "CHECKSUM") second (inl refl) (inr refl) (λ e. datasum_other (sym e)) (datasum_one hdu second r) in
    ap (λ (h : HduParts). keyword_reads h.header.cards (codes "CHECKSUM")) s
    ∙ (reads_by_chain (set_cards a.header.cards (codes "DATASUM ") second) (codes "CHECKSUM")
    ∙ ap (λ chain. option_map_or (λ n. n + 1) chain 0) (kept.chain ∙ (ap (λ (h : HduParts). chain_from (from_lead (codes "CHECKSUM") h.header.cards)) q ∙ plain_chain hdu.header.cards (codes "CHECKSUM") zeros first (inr refl) zeros_plain p)))

-- DATASUM has as many cards after CHECKSUM was set
pub datasum_count : (hdu a : HduParts) (first : List (List ℕ)) → first ≡ plain_card (codes "CHECKSUM") zeros ∷ [] → a ≡ with_keyword (codes "CHECKSUM") (Some first) hdu → own_count a.header.cards (codes "DATASUM ") ≡ own_count hdu.header.cards (codes "DATASUM ")
datasum_count hdu a first p q =
    let kept = other_kept hdu.header.cards (codes "CHECKSUM") (codes "DATASUM ") first (inr refl) (inl refl) datasum_other (zeros_one first p) in
    ap (λ (h : HduParts). own_count h.header.cards (codes "DATASUM ")) q
    ∙ (count_by_chain (set_cards hdu.header.cards (codes "CHECKSUM") first) (codes "DATASUM ")
    ∙ (ap (λ chain. option_map_or (λ n. 1 + (n - 1)) chain 0) kept.chain ∙ sym (count_by_chain hdu.header.cards (codes "DATASUM "))))

-- and CHECKSUM has one after both were
pub checksum_count : (hdu a b : HduParts) (first second : List (List ℕ)) → first ≡ plain_card (codes "CHECKSUM") zeros ∷ [] → a ≡ with_keyword (codes "CHECKSUM") (Some first) hdu
    → second ≡ plain_card (codes "DATASUM ") (decimal (data_sum hdu)) ∷ [] → b ≡ with_keyword (codes "DATASUM ") (Some second) a → own_count b.header.cards (codes "CHECKSUM") ≡ 1
checksum_count hdu a b first second p q r s =
    let kept = other_kept a.header.cards (codes "DATASUM ") (codes "CHECKSUM") second (inl refl) (inr refl) (λ e. datasum_other (sym e)) (datasum_one hdu second r) in
    ap (λ (h : HduParts). own_count h.header.cards (codes "CHECKSUM")) s
    ∙ (count_by_chain (set_cards a.header.cards (codes "DATASUM ") second) (codes "CHECKSUM")
    ∙ ap (λ chain. option_map_or (λ n. 1 + (n - 1)) chain 0) (kept.chain ∙ (ap (λ (h : HduParts). chain_from (from_lead (codes "CHECKSUM") h.header.cards)) q ∙ plain_chain hdu.header.cards (codes "CHECKSUM") zeros first (inr refl) zeros_plain p)))

-- so many cards are read in all
pub stamp_most : (cards : List (List ℕ)) (m a b n x y z : ℕ) → a ≤ m + x + apply_reads → b ≤ a + y + apply_reads → n ≤ b + z + apply_reads → x ≡ keyword_reads cards (codes "CHECKSUM") → y ≡ keyword_reads cards (codes "DATASUM ") → z ≡ 2 → n ≤ m + stamp_reads cards
unfolding stamp_reads stamp_count_reads
stamp_most cards m a b n x y z p q r s t u = omega (arith, p, q, r, s, t, u)

-- what is put in
pub brought : (cards : List (List ℕ)) (new : List (List ℕ)) (old : Option KeywordCards) → new_cards (replacing (length cards) old new) ≡ new
unfolding new_cards
brought cards new None = refl
brought cards new (Some old) = refl

-- an HDU is left where a keyword is set
pub set_leaves : (primary : Bool) (hdu : HduParts) (name : List ℕ) (new : List (List ℕ)) → IsHdu primary hdu → IsSumName name → IsOneCard name new → IsHdu primary (with_keyword name (Some new) hdu)
set_leaves primary hdu name new p low one =
    let change = replacing (length hdu.header.cards) (keyword_cards hdu.header.cards name) new in
    let inner : All IsInnerCard new = rw one.is (All-cons IsInnerCard one.card [] (record { size = one.size; not_end = sum_no_end name one.card low one.named }) (All-nil IsInnerCard)) in
    hdu-changed primary hdu change p (subst (All IsInnerCard) (sym (brought hdu.header.cards new (keyword_cards hdu.header.cards name))) inner) (set_shape primary hdu.header.cards name new p.shape p.described low one ∙ sym p.described)

-- with no more than a card and a block
pub set_bytes : (primary : Bool) (hdu : HduParts) (name : List ℕ) (new : List (List ℕ)) → IsHdu primary hdu → IsSumName name → IsOneCard name new → length (hdu_bytes (with_keyword name (Some new) hdu)) ≤ length (hdu_bytes hdu) + 2960
set_bytes primary hdu name new p low one =
    let after = with_keyword name (Some new) hdu in
    let q = set_leaves primary hdu name new p low one in
    let size = ap length one.is in
    let count = replacing_length hdu.header.cards name new (keyword_cards hdu.header.cards name) refl in
    omega (arith, size, count, length-append (header_bytes hdu.header) hdu.data_unit, length-append (header_bytes after.header) after.data_unit, length-header_bytes hdu.header p.header, length-header_bytes after.header q.header, q.header.fill_size, fill_length-by_cards (length after.header.cards))

-- so it stays small where both were
pub stamp_bytes : (primary : Bool) (hdu a b : HduParts) (first second : List (List ℕ)) → IsHdu primary hdu → length (hdu_bytes hdu) ≤ 2 ^ 34 - 2 ^ 13 → first ≡ plain_card (codes "CHECKSUM") zeros ∷ [] → a ≡ with_keyword (codes "CHECKSUM") (Some first) hdu
    → second ≡ plain_card (codes "DATASUM ") (decimal (data_sum hdu)) ∷ [] → b ≡ with_keyword (codes "DATASUM ") (Some second) a → length (hdu_bytes b) ≤ 2 ^ 34
stamp_bytes primary hdu a b first second p small r s t u =
    let one = zeros_one first r in
    let mid = set_leaves primary hdu (codes "CHECKSUM") first p (inr refl) one in
    let here : IsHdu primary a = subst (IsHdu primary) (sym s) mid in
    let x = set_bytes primary hdu (codes "CHECKSUM") first p (inr refl) one in
    let y = set_bytes primary a (codes "DATASUM ") second here (inl refl) (datasum_one hdu second t) in
    omega (arith, small, x, y, ap (λ h. length (hdu_bytes h)) s, ap (λ h. length (hdu_bytes h)) u)

-- the sum of the whole by those of its parts
pub sum_parts : (primary : Bool) (hdu : HduParts) (header : ℕ) (sum : ℕ) → IsHdu primary hdu → header ≡ ones_complement (word_total (header_bytes hdu.header)) → sum ≡ data_sum hdu → ones_complement (header + sum) ≡ hdu_sum hdu
unfolding hdu_sum data_sum
sum_parts primary hdu header sum p e f =
    let words : length (header_bytes hdu.header) % 4 ≡ 0 = omega (arith, length-header_bytes hdu.header p.header, p.header.fill_size, fill_length-by_cards (length hdu.header.cards)) in
    rw (e, f) (sym (ap ones_complement (totals_add (header_bytes hdu.header) hdu.data_unit words) ∙ ones_complement-add (word_total (header_bytes hdu.header)) (word_total hdu.data_unit)))

-- the bytes of the card of a CHECKSUM, by the parts that were written
pub checksum_bytes : (text a t first rest : List ℕ) → a ≡ codes "CHECKSUM= '" → t ≡ text → length text ≡ 16 → first ≡ drop 11 (replicate 80 32) → rest ≡ drop 16 first → a ++ (t ++ set rest 0 39) ≡ card_of_text (codes "CHECKSUM= '" ++ (text ++ codes "'"))
checksum_bytes text a t first rest e f size p q =
    let one : first ≡ replicate 69 32 = p ∙ drop-replicate 11 80 32 in
    let two : rest ≡ replicate 53 32 = q ∙ (ap (drop 16) one ∙ drop-replicate 16 69 32) in
    let tail : set rest 0 39 ≡ 39 ∷ replicate 52 32 = rw two refl in
    let front : List ℕ = codes "CHECKSUM= '" ++ (text ++ codes "'") in
    let left : 80 - length front ≡ 52 = omega (arith, size, length-append (codes "CHECKSUM= '") (text ++ codes "'"), length-append text (codes "'")) in
    let joined : codes "CHECKSUM= '" ++ (text ++ (39 ∷ replicate 52 32)) ≡ front ++ replicate 52 32 =
    sym (append_assoc (codes "CHECKSUM= '") (text ++ codes "'") (replicate 52 32) ∙ ap (λ xs. codes "CHECKSUM= '" ++ xs) (append_assoc text (codes "'") (replicate 52 32))) in
    rw (e, f, tail, left) joined

-- how many cards a stamped header has
pub stamp_count : (hdu : HduParts) → length (stamped hdu).header.cards + own_count hdu.header.cards (codes "CHECKSUM") + own_count hdu.header.cards (codes "DATASUM ") ≡ length hdu.header.cards + 2
stamp_count hdu =
    let zero = plain_card (codes "CHECKSUM") zeros in
    let first : List (List ℕ) = zero ∷ [] in
    let a = with_keyword (codes "CHECKSUM") (Some first) hdu in
    let sum = plain_card (codes "DATASUM ") (decimal (data_sum hdu)) in
    let second : List (List ℕ) = sum ∷ [] in
    let b = with_keyword (codes "DATASUM ") (Some second) a in
    let text = plain_card (codes "CHECKSUM") (checksum_text (hdu_sum b)) in
    let third : List (List ℕ) = text ∷ [] in
    let c = with_keyword (codes "CHECKSUM") (Some third) b in
    let is : c ≡ stamped hdu = stamped_by hdu a b c first second third refl refl refl refl refl refl in
    let same = datasum_count hdu a first refl refl in
    let one = checksum_count hdu a b first second refl refl refl refl in
    omega (arith, set_length hdu.header.cards (codes "CHECKSUM") zero, set_length a.header.cards (codes "DATASUM ") sum, set_length b.header.cards (codes "CHECKSUM") text, same, one, ap (λ (h : HduParts). length h.header.cards) is)

-- so their number is had by both keywords' cards
pub stamp_counted : (hdu : HduParts) (x y n : ℕ) → x ≡ own_count hdu.header.cards (codes "CHECKSUM") → y ≡ own_count hdu.header.cards (codes "DATASUM ") → n ≡ length hdu.header.cards
    → (x ≤ n + 2) × (y ≤ n + 2 - x) × (n + 2 - x - y ≡ length (stamped hdu).header.cards)
stamp_counted hdu x y n p q r = let count = stamp_count hdu in (omega (arith, count, p, q, r), omega (arith, count, p, q, r), omega (arith, count, p, q, r))

-- both keywords are looked for
pub count_reads : (a b c : HduState) → ReadsUpTo a b (keyword_reads a.header.header.cards (codes "CHECKSUM")) → ReadsUpTo b c (keyword_reads b.header.header.cards (codes "DATASUM ")) → ReadsUpTo a c (stamp_count_reads a.header.header.cards)
unfolding stamp_count_reads
count_reads a b c p q =
    let same : keyword_reads b.header.header.cards (codes "DATASUM ") ≡ keyword_reads a.header.header.cards (codes "DATASUM ") = ap (λ (header : Header). keyword_reads header.cards (codes "DATASUM ")) p.header.header in
    record {
      header = record {
        header = q.header.header ∙ p.header.header;
        shape = q.header.shape ∙ p.header.shape;
        room = q.header.room ∙ p.header.room;
        least = omega (arith, p.header.least, q.header.least);
        most = omega (arith, p.header.most, q.header.most, same);
      };
      entry = q.entry ∙ p.entry;
      kept = q.kept ∙ p.kept;
      absent = q.absent ∙ p.absent;
      plane = q.plane ∙ p.plane;
    }

-- two more at most
pub stamp_count_most : (hdu : HduParts) → length (stamped hdu).header.cards ≤ length hdu.header.cards + 2
stamp_count_most hdu = omega (arith, stamp_count hdu)

-- a stamped HDU is one
pub stamped_is_hdu : (primary : Bool) (hdu : HduParts) → IsHdu primary hdu → IsHdu primary (stamped hdu)
stamped_is_hdu primary hdu p =
    let first : List (List ℕ) = plain_card (codes "CHECKSUM") zeros ∷ [] in
    let a = with_keyword (codes "CHECKSUM") (Some first) hdu in
    let second : List (List ℕ) = plain_card (codes "DATASUM ") (decimal (data_sum hdu)) ∷ [] in
    let b = with_keyword (codes "DATASUM ") (Some second) a in
    let third : List (List ℕ) = plain_card (codes "CHECKSUM") (checksum_text (hdu_sum b)) ∷ [] in
    let c = with_keyword (codes "CHECKSUM") (Some third) b in
    let is : c ≡ stamped hdu = stamped_by hdu a b c first second third refl refl refl refl refl refl in
    let q = set_leaves primary hdu (codes "CHECKSUM") first p (inr refl) (zeros_one first refl) in
    let r = set_leaves primary a (codes "DATASUM ") second q (inl refl) (datasum_one hdu second refl) in
    subst (IsHdu primary) is (set_leaves primary b (codes "CHECKSUM") third r (inr refl) (text_one b third refl))

-- of the same shape
pub stamped_shape : (primary : Bool) (hdu : HduParts) (shape : Shape) → shape_of primary hdu.header.cards ≡ Ok shape → shape_of primary (stamped hdu).header.cards ≡ Ok shape
stamped_shape primary hdu shape e =
    let first : List (List ℕ) = plain_card (codes "CHECKSUM") zeros ∷ [] in
    let a = with_keyword (codes "CHECKSUM") (Some first) hdu in
    let second : List (List ℕ) = plain_card (codes "DATASUM ") (decimal (data_sum hdu)) ∷ [] in
    let b = with_keyword (codes "DATASUM ") (Some second) a in
    let third : List (List ℕ) = plain_card (codes "CHECKSUM") (checksum_text (hdu_sum b)) ∷ [] in
    let c = with_keyword (codes "CHECKSUM") (Some third) b in
    let is : c ≡ stamped hdu = stamped_by hdu a b c first second third refl refl refl refl refl refl in
    let q = set_shape primary hdu.header.cards (codes "CHECKSUM") first shape e (inr refl) (zeros_one first refl) in
    let r = set_shape primary a.header.cards (codes "DATASUM ") second shape q (inl refl) (datasum_one hdu second refl) in
    subst (λ (h : HduParts). shape_of primary h.header.cards ≡ Ok shape) is (set_shape primary b.header.cards (codes "CHECKSUM") third shape r (inr refl) (text_one b third refl))

-- and with the same data unit
pub stamped_unit : (hdu : HduParts) → (stamped hdu).data_unit ≡ hdu.data_unit
unfolding stamped with_datasum
stamped_unit hdu = refl

pub ruleset count_steps = (count_reads)

pub ruleset stamp_steps = (zeros_one, datasum_one, text_one, stamped_by, datasum_reads, checksum_reads, stamp_most, stamp_bytes)

pub ruleset sum_steps = (sum_parts)
