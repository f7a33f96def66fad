-- Which edits of cards are never too large.
use Rattle.std.proofs.Common.{◌≡◌, ℕ, ◌≤◌, Bool, true, false, List, [], ◌∷◌, length, refl, ap, sym, ◌∙◌, subst, arith, Option, None, Some, suc, zero}
use Rattle.std.specs.Prelude.{not, Result, Ok, Err, if◌then◌else◌}
use Rattle.std.specs.List.{list_all, list_any}
use Rattle.fits_card.specs.Card.{is_end, is_text}
use Rattle.fits_card.specs.Change.{IsInRange, cards_after, new_cards}
use Rattle.fits_card.specs.Name.{is_settable}
use Rattle.fits_card.specs.declared.change.Change.{Change}
use Rattle.fits_card.specs.declared.change.Change.TheVariants as changes
use Rattle.fits_card.proofs.ChangeLemmas.{length-moved, length-spliced}
use Rattle.fits_value.specs.Written.{write_says}
use Rattle.fits_passing.specs.Hdu.{HduParts, hdu_after, keeps_shape}
use Rattle.fits_hdu.specs.Keyword.{keyword_cards}
use Rattle.fits_hdu.specs.declared.keyword_cards.KeywordCards.{KeywordCards}
use Rattle.fits_making.specs.CardEdit.{change_of, is_in_range, is_keyword_name, own_refusal, set_of, setting, unless, unset_of, unsetting, HasCardSizes}
use Rattle.fits_laws.specs.Edits.{LeavesNoMore}
use Rattle.fits_session.specs.Edit.{hdu_of, with_hdu}
use Rattle.fits_passing.specs.File.{is_primary_hdu, FileParts, IsFileOf}
use Rattle.fits_making.specs.HduEdit.{hdu_changed, hdu_made}
use Rattle.fits_session.specs.Refusal.{made_refusal, refusal_in, refusal_of, size_refusal}
use Rattle.fits_edit.specs.declared.card_edit.CardEdit.{CardEdit}
use Rattle.fits_edit.specs.declared.card_edit.CardEdit.TheVariants.{Insert, Put, Delete, Move, Set, Unset}
use Rattle.fits_edit.specs.declared.edit.Edit.TheVariants.{Hdu}
use Rattle.fits_edit.specs.declared.hdu_edit.HduEdit.TheVariants.{Cards}
use Rattle.fits_making.specs.declared.refusal.Refusal.{Refusal}
use Rattle.fits_making.specs.declared.refusal.Refusal.TheVariants as refusal
use Rattle.fits_making.proofs.CardEditLemmas.{made_in_range, made_inner}
use Rattle.fits_laws.proofs.RightLemmas.{changed_at-same, fewer_cards}

-- a refusal by a test of the edit itself
abbrev IsOwn : Refusal → Type 0
IsOwn refusal.NoCard = Unit {0}
IsOwn refusal.NoKey = Unit {0}
IsOwn refusal.BadText = Unit {0}
IsOwn refusal.EndCard = Unit {0}
IsOwn refusal.BadName = Unit {0}
IsOwn refusal.BadValue = Unit {0}
IsOwn why = ⊥

-- no other refuses a change
abbrev OwnAlone : Result Change Refusal → Type 0
OwnAlone (Ok change) = Unit {0}
OwnAlone (Err why) = IsOwn why

-- the tests of a change by itself
own_tested : (a b c : Bool) (change : Change) → OwnAlone (unless (if not a then Some refusal.NoCard else if not b then Some refusal.BadText else if c then Some refusal.EndCard else None) change)
own_tested true true true change = tt
own_tested true true false change = tt
own_tested true false c change = tt
own_tested false b c change = tt

-- those of a keyword that is set
own_set : (b : Bool) (count : ℕ) (old : Option KeywordCards) (written : Option (List (List ℕ))) → OwnAlone (if b then setting count old written else Err refusal.BadName)
own_set true count old None = tt
own_set true count old (Some new) = tt
own_set false count old written = tt

-- and of one that goes
own_unset : (b : Bool) (old : Option KeywordCards) → OwnAlone (if b then unsetting old else Err refusal.BadName)
own_unset true None = tt
own_unset true (Some old) = tt
own_unset false old = tt

-- those of each edit
own_change : (cards : List (List ℕ)) (edit : CardEdit) → OwnAlone (change_of cards edit)
unfolding change_of set_of unset_of own_refusal new_cards
own_change cards (Insert place card) = own_tested (is_in_range (length cards) (changes.Splice place 0 (card ∷ []))) (list_all is_text (card ∷ [])) (list_any is_end (card ∷ [])) (changes.Splice place 0 (card ∷ []))
own_change cards (Put place card) = own_tested (is_in_range (length cards) (changes.Splice place 1 (card ∷ []))) (list_all is_text (card ∷ [])) (list_any is_end (card ∷ [])) (changes.Splice place 1 (card ∷ []))
own_change cards (Delete place) = own_tested (is_in_range (length cards) (changes.Splice place 1 [])) (list_all is_text []) (list_any is_end []) (changes.Splice place 1 [])
own_change cards (Move from to) = own_tested (is_in_range (length cards) (changes.Move from to)) (list_all is_text []) (list_any is_end []) (changes.Move from to)
own_change cards (Set name value comment) = own_set (is_settable name) (length cards) (keyword_cards cards name) (write_says name value comment)
own_change cards (Unset name) = own_unset (is_keyword_name name) (keyword_cards cards name)

-- what came of tests is the change that was tested
tested_is : (refused : Option Refusal) (made change : Change) → unless refused made ≡ Ok change → made ≡ change
tested_is None made change e = cc
tested_is (Some why) made change e = absurd (let z : ◌≡◌ {A = Result Change Refusal} (Err why) (Ok change) = e in cc)

-- a splice of no more cards than it takes out
splice_not_more : (cards new : List (List ℕ)) (place removed : ℕ) → IsInRange cards (changes.Splice place removed new) → length new ≤ removed → length (cards_after cards (changes.Splice place removed new)) ≤ length cards
unfolding cards_after IsInRange
splice_not_more cards new place removed range few = omega (arith, few, length-spliced cards new place removed range.0 range.1)

-- a move
move_not_more : (cards : List (List ℕ)) (from to : ℕ) → IsInRange cards (changes.Move from to) → length (cards_after cards (changes.Move from to)) ≤ length cards
unfolding cards_after IsInRange
move_not_more cards from to range = omega (arith, length-moved cards from to range.0 range.1 range.2 range.3)

-- a keyword that goes
unset_not_more : (cards : List (List ℕ)) (b : Bool) (old : Option KeywordCards) (change : Change) → IsInRange cards change → (if b then unsetting old else Err refusal.BadName) ≡ Ok change → length (cards_after cards change) ≤ length cards
unset_not_more cards true None change range e = absurd (let z : ◌≡◌ {A = Result Change Refusal} (Err refusal.NoKey) (Ok change) = e in cc)
unset_not_more cards true (Some old) change range e =
    let is : changes.Splice old.place old.count [] ≡ change = cc in
    subst (λ (c : Change). length (cards_after cards c) ≤ length cards) is (splice_not_more cards [] old.place old.count (subst (λ (c : Change). IsInRange cards c) (sym is) range) (omega arith))
unset_not_more cards false old change range e = absurd (let z : ◌≡◌ {A = Result Change Refusal} (Err refusal.BadName) (Ok change) = e in cc)

-- so such an edit leaves no more cards
not_more : (cards : List (List ℕ)) (edit : CardEdit) (change : Change) → LeavesNoMore edit → change_of cards edit ≡ Ok change → length (cards_after cards change) ≤ length cards
unfolding change_of unset_of
not_more cards (Insert place card) change none e = absurd none
not_more cards (Put place card) change none e =
    let is = tested_is _ (changes.Splice place 1 (card ∷ [])) change e in
    subst (λ (c : Change). length (cards_after cards c) ≤ length cards) is (splice_not_more cards (card ∷ []) place 1 (subst (λ (c : Change). IsInRange cards c) (sym is) (made_in_range cards (Put place card) change e)) (omega arith))
not_more cards (Delete place) change none e =
    let is = tested_is _ (changes.Splice place 1 []) change e in
    subst (λ (c : Change). length (cards_after cards c) ≤ length cards) is (splice_not_more cards [] place 1 (subst (λ (c : Change). IsInRange cards c) (sym is) (made_in_range cards (Delete place) change e)) (omega arith))
not_more cards (Move from to) change none e =
    let is = tested_is _ (changes.Move from to) change e in
    subst (λ (c : Change). length (cards_after cards c) ≤ length cards) is (move_not_more cards from to (subst (λ (c : Change). IsInRange cards c) (sym is) (made_in_range cards (Move from to) change e)))
not_more cards (Set name value comment) change none e = absurd none
not_more cards (Unset name) change none e = unset_not_more cards (is_keyword_name name) (keyword_cards cards name) change (made_in_range cards (Unset name) change e) e

-- an HDU that was changed in place of one
same_size : (file : FileParts) (h : ℕ) (hdu : HduParts) (change : Change) → hdu_of file h ≡ Some hdu → size_refusal (with_hdu file h (λ hdu'. hdu_after change hdu)) ≡ size_refusal (with_hdu file h (hdu_after change))
same_size file zero hdu change there = refl
same_size file (suc i) hdu change there =
    ap (λ (us : List HduParts). size_refusal (record file { hdus = us })) (changed_at-same i (λ hdu'. hdu_after change hdu) (hdu_after change) hdu file.hdus there refl)

-- a change that keeps the shape or doesn't
kept_large : (kept : Bool) (file : FileParts) (h : ℕ) (made : HduParts) → size_refusal (with_hdu file h (λ hdu'. made)) ≡ None → made_refusal false file h (if kept then Ok made else Err refusal.Shape) ≡ Some refusal.TooLarge → ⊥
kept_large true file h made fits e = let z : ◌≡◌ {A = Option Refusal} None (Some refusal.TooLarge) = sym fits ∙ e in cc
kept_large false file h made fits e = let z : ◌≡◌ {A = Option Refusal} (Some refusal.Shape) (Some refusal.TooLarge) = e in cc

-- what such an edit makes of an HDU
made_large : (f : List ℕ) (file : FileParts) (h : ℕ) (hdu : HduParts) (edit : CardEdit) (made : Result Change Refusal) → IsFileOf f file → hdu_of file h ≡ Some hdu → HasCardSizes edit → LeavesNoMore edit → change_of hdu.header.cards edit ≡ made → OwnAlone made
    → made_refusal false file h (hdu_changed (is_primary_hdu h) hdu made) ≡ Some refusal.TooLarge → ⊥
made_large f file h hdu edit (Ok change) p there sizes none is own e =
    let fits = fewer_cards f file h hdu change p there (made_inner hdu.header.cards edit change sizes is) (not_more hdu.header.cards edit change none is) in
    kept_large (keeps_shape (is_primary_hdu h) hdu.header.cards (cards_after hdu.header.cards change)) file h (hdu_after change hdu) (same_size file h hdu change there ∙ fits) e
made_large f file h hdu edit (Err why) p there sizes none is own e =
    let same : why ≡ refusal.TooLarge = let z : ◌≡◌ {A = Option Refusal} (Some why) (Some refusal.TooLarge) = e in cc in
    subst IsOwn same own

-- so it is never too large
found_large : (f : List ℕ) (file : FileParts) (h : ℕ) (edit : CardEdit) (found : Option HduParts) → IsFileOf f file → hdu_of file h ≡ found → HasCardSizes edit → LeavesNoMore edit → refusal_in false file h (Cards edit) found ≡ Some refusal.TooLarge → ⊥
unfolding hdu_made
found_large f file h edit None p there sizes none e = let z : ◌≡◌ {A = Option Refusal} (Some refusal.NoHdu) (Some refusal.TooLarge) = e in cc
found_large f file h edit (Some hdu) p there sizes none e = made_large f file h hdu edit (change_of hdu.header.cards edit) p there sizes none refl (own_change hdu.header.cards edit) e

-- in a file that has it or not
pub never_large : (f : List ℕ) (file : FileParts) (h : ℕ) (edit : CardEdit) → IsFileOf f file → HasCardSizes edit → LeavesNoMore edit → refusal_of file (Hdu h (Cards edit)) ≡ Some refusal.TooLarge → ⊥
unfolding refusal_of
never_large f file h edit p sizes none e = found_large f file h edit (hdu_of file h) p refl sizes none e
