-- What a change of cards leaves.
use Rattle.std.proofs.Common.{◌≡◌, ℕ, Bool, true, List, length, replicate, refl, ap, sym, ◌∙◌, All}
use Rattle.std.specs.Prelude.{Ok}
use Rattle.fits_card.specs.Change.{cards_after, new_cards}
use Rattle.fits_card.specs.Header.{IsInnerCard, fill_length}
use Rattle.fits_card.specs.declared.change.Change.{Change}
use Rattle.fits_card.specs.declared.change.Change.TheVariants.{Splice, Move}
use Rattle.fits_card.proofs.HeaderLemmas.{inner-spliced, inner-moved, whole-with_cards}
use Rattle.fits_rules.specs.Class.{is_primary}
use Rattle.fits_rules.specs.Shape.{shape_of}
use Rattle.fits_rules.specs.SameShape.{same_shape}
use Rattle.fits_rules.specs.declared.array_shape.Shape.{Shape}
use Rattle.fits_rules.proofs.SameShapeLemmas.{same_shape-Decides}
use Rattle.fits_header.specs.State.{still_describes}
use Rattle.fits_passing.specs.Hdu.{HduParts, IsHdu, hdu_after, keeps_shape}
use Rattle.fits_passing.proofs.LayoutLemmas.{layout_kept}

-- cards before END are left where such ones are put in
pub inner_after : (cards : List (List ℕ)) (change : Change) → All IsInnerCard cards → All IsInnerCard (new_cards change) → All IsInnerCard (cards_after cards change)
unfolding cards_after new_cards
inner_after cards (Splice place removed new) p q = inner-spliced cards new place removed p q
inner_after cards (Move from to) p q = inner-moved cards from to p

-- a change that keeps the shape leaves an HDU
pub hdu-changed : (primary : Bool) (hdu : HduParts) (change : Change) → IsHdu primary hdu → All IsInnerCard (new_cards change) → shape_of primary (cards_after hdu.header.cards change) ≡ shape_of primary hdu.header.cards → IsHdu primary (hdu_after change hdu)
hdu-changed primary hdu change p inner same = record {
  shape = p.shape;
  header = whole-with_cards hdu.header (cards_after hdu.header.cards change) (replicate (fill_length (length (cards_after hdu.header.cards change))) 32) (length (cards_after hdu.header.cards change)) p.header (inner_after hdu.header.cards change p.header.cards inner) refl refl;
  described = same ∙ p.described;
  size = p.size;
}

-- a comparison with the shape of the cards before is one with what they describe
pub kept_value : (before after : List (List ℕ)) (shape : Shape) → shape_of (is_primary shape.class) before ≡ Ok shape → still_describes shape after ≡ keeps_shape (is_primary shape.class) before after
unfolding still_describes
kept_value before after shape e = ap (λ r. same_shape r (shape_of (is_primary shape.class) after)) (sym e)

-- cards that keep the shape describe it
pub kept_shape : (before after : List (List ℕ)) (shape : Shape) → shape_of (is_primary shape.class) before ≡ Ok shape → keeps_shape (is_primary shape.class) before after ≡ true → shape_of (is_primary shape.class) after ≡ Ok shape
unfolding still_describes
kept_shape before after shape e kept = (same_shape-Decides shape (shape_of (is_primary shape.class) after)).0 (kept_value before after shape e ∙ kept)

pub ruleset kept_steps = (kept_value, kept_shape, layout_kept)
