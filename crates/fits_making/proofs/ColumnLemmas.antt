-- Whether an edit of cards keeps the columns of a table.
use Rattle.std.proofs.Common.{◌≡◌, ℕ, ◌⊎◌, inl, inr, Bool, true, false, List, None, refl, ap, sym, ◌∙◌}
use Rattle.std.specs.Prelude.{Result, Ok, Err, Option, Some, IsOk, if◌then◌else◌}
use Rattle.fits_card.specs.Change.{cards_after}
use Rattle.fits_card.specs.declared.change.Change.{Change}
use Rattle.fits_table.specs.Kept.{keeps_columns}
use Rattle.fits_edit.specs.declared.card_edit.CardEdit.{CardEdit}
use Rattle.fits_making.specs.CardEdit.{change_of}
use Rattle.fits_making.specs.Columns.{cards_keep, change_keeps}
use Rattle.fits_making.specs.Refusal.{ChangeFails}
use Rattle.fits_making.specs.declared.refusal.Refusal.{Refusal}
use Rattle.fits_making.specs.declared.refusal.Refusal.TheVariants as refusal

-- a change that is made keeps them or not
pub made_keeps : (primary : Bool) (cards : List (List ℕ)) (edit : CardEdit) (change : Change) → change_of cards edit ≡ Ok change → keeps_columns primary cards (cards_after cards change) ≡ cards_keep primary cards edit
unfolding cards_keep
made_keeps primary cards edit change made = ap (change_keeps primary cards) (sym made)

-- one that isn't made keeps them
pub unmade_keeps : (primary : Bool) (cards : List (List ℕ)) (edit : CardEdit) (why : Refusal) → change_of cards edit ≡ Err why → true ≡ cards_keep primary cards edit
unfolding cards_keep
unmade_keeps primary cards edit why made = ap (change_keeps primary cards) (sym made)

pub ruleset keep_steps = (made_keeps, unmade_keeps)
