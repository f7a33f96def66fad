-- No test of an edit of one HDU refuses it for memory.
use Rattle.std.proofs.Common.{◌≡◌, ℕ, ap, sym, ◌∙◌, [], Bool, true, false, List, Option, None, Some}
use Rattle.std.specs.Prelude.{if◌then◌else◌, not, Result, Ok, Err, IsErrOf}
use Rattle.std.specs.List.{list_all, list_any}
use Rattle.fits_card.specs.Card.{is_text, is_end}
use Rattle.fits_card.specs.Change.{new_cards}
use Rattle.fits_card.specs.declared.change.Change.{Change}
use Rattle.fits_card.specs.declared.change.Change.TheVariants.{Splice}
use Rattle.fits_card.specs.declared.change.Change.TheVariants as change
use Rattle.fits_hdu.specs.Keyword.{keyword_cards}
use Rattle.fits_hdu.specs.declared.keyword_cards.KeywordCards.{KeywordCards}
use Rattle.fits_making.specs.CardEdit.{is_in_range, is_keyword_name, own_refusal, tested, unless, unset_of, unsetting}
use Rattle.fits_making.specs.declared.refusal.Refusal.{Refusal}
use Rattle.fits_making.specs.declared.refusal.Refusal.TheVariants.{NoCard, NoKey, BadText, EndCard, BadName, Memory}

-- this isn't out of memory
unfoldable pub IsFirm : Option Refusal → Type 0
IsFirm refused = refused ≡ Some Memory → ⊥

-- of two neither
pub firm_choice : (test : Bool) (a b : Option Refusal) → IsFirm a → IsFirm b → IsFirm (if test then a else b)
unfolding IsFirm
firm_choice true a b p q = p
firm_choice false a b p q = q

-- none is firm
pub firm_none : IsFirm None
unfolding IsFirm
firm_none e = absurd (cc)

-- a refusal of its own
abbrev pub IsOther : Refusal → Type 0
IsOther why = why ≡ Memory → ⊥

-- one refusal is firm
pub firm_some : (why : Refusal) → IsOther why → IsFirm (Some why)
unfolding IsFirm
firm_some why other e = other (same why e)
  where
    same : (why : Refusal) → ◌≡◌ {A = Option Refusal} (Some why) (Some Memory) → why ≡ Memory
    same why e = cc

-- the own tests of a change never are out of memory
firm_own : (count : ℕ) (change : Change) → IsFirm (own_refusal count change)
unfolding own_refusal
firm_own count change =
    firm_choice (not (is_in_range count change)) (Some NoCard) _ (firm_some NoCard (λ e. cc))
    (firm_choice (not (list_all is_text (new_cards change))) (Some BadText) _ (firm_some BadText (λ e. cc))
    (firm_choice (list_any is_end (new_cards change)) (Some EndCard) None (firm_some EndCard (λ e. cc)) firm_none))

-- nor is the change that an edit makes
unfoldable pub FirmChange : Result Change Refusal → Type 0
FirmChange made = made ≡ Err Memory → ⊥

-- a change unless it is refused
firm_unless : (refused : Option Refusal) (change : Change) → IsFirm refused → FirmChange (unless refused change)
unfolding IsFirm FirmChange
firm_unless None change firm e = absurd (cc)
firm_unless (Some why) change firm e = firm (let same : why ≡ Memory = cc in ap Some same)

-- a change among so many cards
pub firm_tested : (count : ℕ) (change : Change) → FirmChange (tested count change)
firm_tested count change = firm_unless (own_refusal count change) change (firm_own count change)

-- of two changes neither
pub firm_either : (test : Bool) (a b : Result Change Refusal) → FirmChange a → FirmChange b → FirmChange (if test then a else b)
firm_either true a b p q = p
firm_either false a b p q = q

-- a change that is refused for its name or its value
pub firm_refused : (why : Refusal) → IsOther why → FirmChange (Err why)
unfolding FirmChange
firm_refused why other e = other (same why e)
  where
    same : (why : Refusal) → ◌≡◌ {A = Result Change Refusal} (Err why) (Err Memory) → why ≡ Memory
    same why e = cc

-- a change that is made
pub firm_made : (change : Change) → FirmChange (Ok change)
unfolding FirmChange
firm_made change e = absurd (cc)

-- a keyword that is taken out
firm_unsetting : (old : Option KeywordCards) → FirmChange (unsetting old)
firm_unsetting None = firm_refused NoKey (λ e. cc)
firm_unsetting (Some old) = firm_made (Splice old.place old.count [])

-- that is there or not
pub firm_unset : (cards : List (List ℕ)) (name : List ℕ) → FirmChange (unset_of cards name)
unfolding unset_of
firm_unset cards name = firm_either (is_keyword_name name) _ (Err BadName) (firm_unsetting (keyword_cards cards name)) (firm_refused BadName (λ e. cc))

-- so what makes such a change isn't out of memory
of_firm : (made result : Result Change Refusal) → FirmChange made → result ≡ made → IsErrOf result Memory → ⊥
unfolding FirmChange
of_firm made result firm is memory = firm (sym is ∙ memory)

-- of a card that goes or moves
pub tested_firm : (count : ℕ) (change : Change) (result : Result Change Refusal) → result ≡ tested count change → IsErrOf result Memory → ⊥
tested_firm count change result = of_firm (tested count change) result (firm_tested count change)

-- and of a keyword that goes
pub unset_firm : (cards : List (List ℕ)) (name : List ℕ) (result : Result Change Refusal) → result ≡ unset_of cards name → IsErrOf result Memory → ⊥
unset_firm cards name result = of_firm (unset_of cards name) result (firm_unset cards name)
