-- Edits of cards that keep the columns of a table, and those that don't (own).
use Rattle.std.specs.Prelude.{◌≡◌, ℕ, ◌+◌, Bool, true, List, Option, None, Result, Ok, Err}
use Rattle.fits_card.specs.Change.{cards_after}
use Rattle.fits_card.specs.declared.change.Change.{Change}
use Rattle.fits_edit.specs.declared.card_edit.CardEdit.{CardEdit}
use Rattle.fits_making.specs.CardEdit.{change_of}
use Rattle.fits_making.specs.Refusal.{CardEditNeedsMemory, ChangeFails}
use Rattle.fits_making.specs.Work.{own_reads}
use Rattle.fits_making.specs.declared.refusal.Refusal.{Refusal}
use Rattle.fits_making.specs.declared.refusal.Refusal.TheVariants.{Memory}
use Rattle.fits_table.specs.Kept.{keeps_columns}
use Rattle.fits_table.specs.Work.{column_reads}

-- cards say the same of the columns of a table after a change; one that isn't made leaves them
abbrev pub change_keeps : Bool → List (List ℕ) → Result Change Refusal → Bool
change_keeps primary cards (Ok change) = keeps_columns primary cards (cards_after cards change)
change_keeps primary cards (Err why) = true

-- they do after an edit of them
unfoldable pub cards_keep : Bool → List (List ℕ) → CardEdit → Bool
cards_keep primary cards edit = change_keeps primary cards (change_of cards edit)

-- memory ran out on the way to that: for the change of the edit, whose own tests pass
pub record LacksChange (cards : List (List ℕ)) (edit : CardEdit) : Type 0 where
  pub takes : CardEditNeedsMemory edit None
  pub fails : ChangeFails (change_of cards edit) Memory

-- it is found by so many cards at most: those by which the change is found, and those of the columns
abbrev pub keeping_reads : List (List ℕ) → CardEdit → ℕ
keeping_reads cards edit = own_reads cards edit + column_reads
