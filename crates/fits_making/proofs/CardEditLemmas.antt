-- Edits of cards: the change that each makes is in range, and puts in cards that may stand before END.
use Rattle.std.proofs.Common.{◌≡◌, ℕ, ◌+◌, ◌≤◌, Bool, true, false, List, [], ◌∷◌, length, refl, subst, arith, rules, All, Option, None, Some, zero, suc}
use Rattle.std.specs.Prelude.{◌&&◌, ◌||◌, not, nat_le, Result, Ok, Err, if◌then◌else◌}
use Rattle.std.specs.List.{list_all, list_any}
use Rattle.fits_card.specs.Card.{is_text, is_end, IsEnd}
use Rattle.fits_card.specs.Change.{new_cards, IsInRange}
use Rattle.fits_card.specs.Header.{IsInnerCard}
use Rattle.fits_card.specs.Name.{is_settable}
use Rattle.fits_card.specs.declared.change.Change.{Change}
use Rattle.fits_card.specs.declared.change.Change.TheVariants as change
use Rattle.fits_value.specs.Written.{write_says}
use Rattle.fits_value.specs.declared.value.Value.{Value}
use Rattle.fits_value.proofs.InnerLemmas.{inner_written}
use Rattle.fits_hdu.specs.Keyword.{keyword_cards, replacing}
use Rattle.fits_hdu.specs.declared.keyword_cards.KeywordCards.{KeywordCards}
use Rattle.fits_hdu.proofs.KeywordLemmas.{keyword_within}
use Rattle.fits_making.specs.CardEdit.{is_in_range, own_refusal, unless, tested, is_keyword_name, setting, unsetting, set_of, unset_of, change_of, HasCardSizes}
use Rattle.fits_edit.specs.declared.card_edit.CardEdit.{CardEdit}
use Rattle.fits_edit.specs.declared.card_edit.CardEdit.TheVariants.{Insert, Put, Delete, Move, Set, Unset}
use Rattle.fits_making.specs.declared.refusal.Refusal.{Refusal}
use Rattle.fits_making.specs.declared.refusal.Refusal.TheVariants as refusal

-- what a change that passes its own tests passed
passed : (a b c : Bool) → (if not a then Some refusal.NoCard else (if not b then Some refusal.BadText else (if c then Some refusal.EndCard else None))) ≡ None → (a ≡ true) × (b ≡ true) × (c ≡ false)
passed true true false e = (refl, refl, refl)
passed true true true e = cc
passed true false c e = cc
passed false b c e = cc

-- the places of a splice in range
splice_ranged : (place removed count : ℕ) → (nat_le 1 place && nat_le (place + removed) (count + 1)) ≡ true → (1 ≤ place) × (place + removed ≤ count + 1)
splice_ranged place removed count e = search rules

-- and of a move
move_ranged : (from to count : ℕ) → ((nat_le 1 from && nat_le from count) && (nat_le 1 to && nat_le to count)) ≡ true → (1 ≤ from) × (from ≤ count) × (1 ≤ to) × (to ≤ count)
move_ranged from to count e = search rules

-- of each change
ranged : (cards : List (List ℕ)) (change : Change) → is_in_range (length cards) change ≡ true → IsInRange cards change
unfolding IsInRange
ranged cards (change.Splice place removed new) e = splice_ranged place removed (length cards) e
ranged cards (change.Move from to) e = move_ranged from to (length cards) e

-- no card is END where a test finds none
neither : (a b : Bool) → (a || b) ≡ false → (a ≡ false) × (b ≡ false)
neither true b e = cc
neither false b e = (refl, e)

-- the same in the words of a change's condition
none_ends : (cards : List (List ℕ)) → list_any is_end cards ≡ false → All (λ card. IsEnd card → ⊥) cards
none_ends [] e k d l = absurd (omega arith)
none_ends (card ∷ cards) e zero d l = λ ends. let no = (neither (is_end card) (list_any is_end cards) e).0 in cc
none_ends (card ∷ cards) e (suc k) d l = none_ends cards (neither (is_end card) (list_any is_end cards) e).1 k d (omega arith)

-- what a change passed by itself
own_tests : (count : ℕ) (change : Change) → own_refusal count change ≡ None → (is_in_range count change ≡ true) × (list_any is_end (new_cards change) ≡ false)
unfolding own_refusal
own_tests count change e = let p = passed (is_in_range count change) (list_all is_text (new_cards change)) (list_any is_end (new_cards change)) e in (p.0, p.2)

-- a change that came of tests passed them
unless_ok : (o : Option Refusal) (change other : Change) → unless o change ≡ Ok other → (o ≡ None) × (change ≡ other)
unless_ok None change other e = (refl, cc)
unless_ok (Some why) change other e = cc

-- a change that came of its tests passed them
tested_ok : (count : ℕ) (change other : Change) → tested count change ≡ Ok other → own_refusal count other ≡ None
tested_ok count change other e =
    let p = unless_ok (own_refusal count change) change other e in
    subst (λ (ch : Change). own_refusal count ch ≡ None) p.1 p.0

-- so its places are in range
tested_in_range : (cards : List (List ℕ)) (change other : Change) → tested (length cards) change ≡ Ok other → IsInRange cards other
tested_in_range cards change other e = ranged cards other (own_tests (length cards) other (tested_ok (length cards) change other e)).0

-- and it puts in no END
tested_inner : (count : ℕ) (change other : Change) → All (λ card. length card ≡ 80) (new_cards change) → tested count change ≡ Ok other → All IsInnerCard (new_cards other)
tested_inner count change other sizes e k d l =
    let same : change ≡ other = (unless_ok (own_refusal count change) change other e).1 in
    record {
      size = subst (λ (ch : Change). All (λ card. length card ≡ 80) (new_cards ch)) same sizes k d l;
      not_end = none_ends (new_cards other) (own_tests count other (tested_ok count change other e)).1 k d l;
    }

-- the places of a keyword's cards are in range, and that behind the last card is
replacing_in_range : (cards new : List (List ℕ)) (old : Option KeywordCards) (name : List ℕ) → keyword_cards cards name ≡ old → IsInRange cards (replacing (length cards) old new)
unfolding IsInRange
replacing_in_range cards new None name e = (omega arith, omega arith)
replacing_in_range cards new (Some old) name e = keyword_within cards name old e

-- the change of a keyword that is set is in range
set_in_range : (cards : List (List ℕ)) (name : List ℕ) (written : Option (List (List ℕ))) (change : Change) → setting (length cards) (keyword_cards cards name) written ≡ Ok change → IsInRange cards change
set_in_range cards name None change e = cc
set_in_range cards name (Some new) change e =
    let same : replacing (length cards) (keyword_cards cards name) new ≡ change = cc in
    subst (λ (ch : Change). IsInRange cards ch) same (replacing_in_range cards new (keyword_cards cards name) name refl)

-- and of one that is unset
unset_in_range : (cards : List (List ℕ)) (name : List ℕ) (old : Option KeywordCards) (change : Change) → keyword_cards cards name ≡ old → unsetting old ≡ Ok change → IsInRange cards change
unset_in_range cards name None change at e = cc
unset_in_range cards name (Some old) change at e =
    let same : replacing (length cards) (Some old) [] ≡ change = cc in
    subst (λ (ch : Change). IsInRange cards ch) same (replacing_in_range cards [] (Some old) name at)

-- a test that fails makes no change
pub set_if : (b : Bool) (made : Result Change Refusal) (change : Change) → (if b then made else Err refusal.BadName) ≡ Ok change → (b ≡ true) × (made ≡ Ok change)
set_if true made change e = (refl, e)
set_if false made change e = cc

-- the change of an edit is in range
pub made_in_range : (cards : List (List ℕ)) (edit : CardEdit) (change : Change) → change_of cards edit ≡ Ok change → IsInRange cards change
unfolding change_of set_of unset_of
made_in_range cards (Insert place card) made e = tested_in_range cards (change.Splice place 0 (card ∷ [])) made e
made_in_range cards (Put place card) made e = tested_in_range cards (change.Splice place 1 (card ∷ [])) made e
made_in_range cards (Delete place) made e = tested_in_range cards (change.Splice place 1 []) made e
made_in_range cards (Move from to) made e = tested_in_range cards (change.Move from to) made e
made_in_range cards (Set name value comment) made e =
    set_in_range cards name (write_says name value comment) made (set_if (is_settable name) (setting (length cards) (keyword_cards cards name) (write_says name value comment)) made e).1
made_in_range cards (Unset name) made e =
    unset_in_range cards name (keyword_cards cards name) made refl (set_if (is_keyword_name name) (unsetting (keyword_cards cards name)) made e).1

-- one card of 80 bytes
one_size : (card : List ℕ) → length card ≡ 80 → All (λ (one : List ℕ). length one ≡ 80) (card ∷ [])
one_size card s zero d l = s
one_size card s (suc k) d l = absurd (omega arith)

-- no card of none
no_cards : All IsInnerCard []
no_cards k d l = absurd (omega arith)

-- a keyword's new cards may stand before END
replacing_inner : (count : ℕ) (old : Option KeywordCards) (new : List (List ℕ)) → All IsInnerCard new → All IsInnerCard (new_cards (replacing count old new))
unfolding new_cards
replacing_inner count None new inner = inner
replacing_inner count (Some old) new inner = inner

-- a keyword that is set gets inner cards
set_inner : (count : ℕ) (old : Option KeywordCards) (name : List ℕ) (value : Value) (comment : Option (List ℕ)) (written : Option (List (List ℕ))) (change : Change) → length name ≡ 8 → is_settable name ≡ true → write_says name value comment ≡ written → setting count old written ≡ Ok change → All IsInnerCard (new_cards change)
set_inner count old name value comment None change size settable says e = cc
set_inner count old name value comment (Some new) change size settable says e =
    let same : replacing count old new ≡ change = cc in
    subst (λ (ch : Change). All IsInnerCard (new_cards ch)) same (replacing_inner count old new (inner_written new name value comment size settable says))

-- one that is unset gets none
unset_inner : (old : Option KeywordCards) (change : Change) → unsetting old ≡ Ok change → All IsInnerCard (new_cards change)
unset_inner None change e = cc
unset_inner (Some old) change e =
    let same : replacing 0 (Some old) [] ≡ change = cc in
    subst (λ (ch : Change). All IsInnerCard (new_cards ch)) same (replacing_inner 0 (Some old) [] no_cards)

-- the change of an edit puts in cards that may stand before END
pub made_inner : (cards : List (List ℕ)) (edit : CardEdit) (change : Change) → HasCardSizes edit → change_of cards edit ≡ Ok change → All IsInnerCard (new_cards change)
unfolding change_of set_of unset_of new_cards
made_inner cards (Insert place card) made size e = tested_inner (length cards) (change.Splice place 0 (card ∷ [])) made (one_size card size) e
made_inner cards (Put place card) made size e = tested_inner (length cards) (change.Splice place 1 (card ∷ [])) made (one_size card size) e
made_inner cards (Delete place) made size e = tested_inner (length cards) (change.Splice place 1 []) made (λ k d l. absurd (omega arith)) e
made_inner cards (Move from to) made size e = tested_inner (length cards) (change.Move from to) made (λ k d l. absurd (omega arith)) e
made_inner cards (Set name value comment) made size e =
    let p = set_if (is_settable name) (setting (length cards) (keyword_cards cards name) (write_says name value comment)) made e in
    set_inner (length cards) (keyword_cards cards name) name value comment (write_says name value comment) made size p.0 refl p.1
made_inner cards (Unset name) made size e = unset_inner (keyword_cards cards name) made (set_if (is_keyword_name name) (unsetting (keyword_cards cards name)) made e).1
