-- What is kept beside the cards of a header through changes of the cards.
use Rattle.std.proofs.Common.{◌≡◌, ◌≤◌, ℕ, ◌+◌, ◌-◌, Bool, List, [], ◌++◌, length, take, drop, map, ap, subst, sym, ◌∙◌, refl, arith}
use Rattle.std.specs.Prelude.{Ok, true}
use Rattle.std.proofs.lemmas.List.{map-append, take-map, drop-map}
use Rattle.fits_card.specs.Change.{spliced, moved, only_item, cards_after, IsInRange}
use Rattle.fits_card.specs.declared.change.Change.{Change}
use Rattle.fits_card.specs.declared.change.Change.TheVariants.{Splice, Move}
use Rattle.fits_card.proofs.ChangeLemmas.{length-spliced, length-moved}
use Rattle.fits_rules.specs.Class.{is_primary}
use Rattle.fits_rules.specs.Shape.{shape_of}
use Rattle.fits_rules.specs.declared.array_shape.Shape.{Shape}
use Rattle.fits_rules.proofs.DescribesLemmas.{described}
use Rattle.fits_rules.proofs.KeepingLemmas.{described_within}
use Rattle.fits_rules.proofs.SameShapeLemmas.{same_shape-Decides}
use Rattle.fits_header.specs.Index.{IsIndexOf}
use Rattle.fits_header.specs.State.{still_describes}
use Rattle.fits_header.specs.Notes.{note_of, notes_of}
use Rattle.fits_header.specs.declared.note.Note.{Note}
use Rattle.fits_header.specs.declared.entry.Entry.{Entry}
use Rattle.fits_header.proofs.CountLemmas.{length-index}

-- what a function gives of each is spliced alike
pub map-spliced : {X Y : Type 0} (f : X → Y) (xs new : List X) (place removed : ℕ) → map f (spliced xs place removed new) ≡ spliced (map f xs) place removed (map f new)
map-spliced f xs new place removed =
    map-append f (take (place - 1) xs) (new ++ drop (place - 1 + removed) xs)
    ∙ (ap (λ ys. map f (take (place - 1) xs) ++ ys) (map-append f new (drop (place - 1 + removed) xs))
    ∙ rw (take-map f (place - 1) xs, drop-map f (place - 1 + removed) xs) refl)

-- the same of one item
only-map : {X Y : Type 0} (f : X → Y) (xs : List X) (place : ℕ) → map f (only_item xs place) ≡ only_item (map f xs) place
only-map f xs place = sym (take-map f 1 (drop (place - 1) xs)) ∙ ap (take 1) (sym (drop-map f (place - 1) xs))

-- what a function gives of each is moved alike
pub map-moved : {X Y : Type 0} (f : X → Y) (xs : List X) (from to : ℕ) → map f (moved xs from to) ≡ moved (map f xs) from to
map-moved f xs from to =
    map-spliced f (spliced xs from 1 []) (only_item xs from) to 0
    ∙ (ap (λ ys. spliced ys to 0 (map f (only_item xs from))) (map-spliced f xs [] from 1)
    ∙ ap (spliced (spliced (map f xs) from 1 []) to 0) (only-map f xs from))

-- the index after a splice
pub index_after-splice : (es : List Entry) (cards : List (List ℕ)) (change : Change) (place removed : ℕ) (new : List (List ℕ)) → change ≡ Splice place removed new → IsIndexOf es (spliced cards place removed new) → IsIndexOf es (cards_after cards change)
unfolding cards_after
index_after-splice es cards change place removed new is index = rw is index

-- the index after a move
pub index_after-move : (es : List Entry) (cards : List (List ℕ)) (change : Change) (from to : ℕ) → change ≡ Move from to → IsIndexOf es (moved cards from to) → IsIndexOf es (cards_after cards change)
unfolding cards_after
index_after-move es cards change from to is index = rw is index

-- how many cards a splice leaves
pub length_after-splice : (cards : List (List ℕ)) (change : Change) (place removed : ℕ) (new : List (List ℕ)) → change ≡ Splice place removed new → IsInRange cards change → length (cards_after cards change) + removed ≡ length cards + length new
unfolding cards_after IsInRange
length_after-splice cards change place removed new is range =
    let at : IsInRange cards (Splice place removed new) = subst (IsInRange cards) is range in
    rw is (length-spliced cards new place removed at.0 at.1)

-- how many cards a move leaves
pub length_after-move : (cards : List (List ℕ)) (change : Change) (from to : ℕ) → change ≡ Move from to → IsInRange cards change → length (cards_after cards change) ≡ length cards
unfolding cards_after IsInRange
length_after-move cards change from to is range =
    let at : IsInRange cards (Move from to) = subst (IsInRange cards) is range in
    rw is (length-moved cards from to at.0 at.1 at.2 at.3)

-- where a splice is
pub range_of-splice : (cards : List (List ℕ)) (change : Change) (place removed : ℕ) (new : List (List ℕ)) → change ≡ Splice place removed new → IsInRange cards change → (1 ≤ place) × (place + removed ≤ length cards + 1)
unfolding IsInRange
range_of-splice cards change place removed new is range = subst (IsInRange cards) is range

-- where a move is
pub range_of-move : (cards : List (List ℕ)) (change : Change) (from to : ℕ) → change ≡ Move from to → IsInRange cards change → (1 ≤ from) × (from ≤ length cards) × (1 ≤ to) × (to ≤ length cards)
unfolding IsInRange
range_of-move cards change from to is range = subst (IsInRange cards) is range

-- cards that still describe a shape have it
pub stays_described : (shape : Shape) (after : List (List ℕ)) → still_describes shape after ≡ true → shape_of (is_primary shape.class) after ≡ Ok shape
unfolding still_describes
stays_described shape after kept = (same_shape-Decides shape (shape_of (is_primary shape.class) after)).0 kept

-- a shape has the cards of its axes
pub axes_within : (primary : Bool) (cards : List (List ℕ)) (shape : Shape) → shape_of primary cards ≡ Ok shape → 3 + length shape.axes ≤ length cards
axes_within primary cards shape is = described_within primary cards shape (described primary cards shape is)

-- so many cards stand there after cards were put in place of those of a shape
pub length-reshaped : (cards new : List (List ℕ)) (removed : ℕ) → 1 + removed ≤ length cards → length (spliced cards 2 removed new) + removed ≡ length cards + length new
length-reshaped cards new removed within = length-spliced cards new 2 removed (omega arith) (omega (arith, within))

-- the notes of cards that were put in place of others
pub notes_reshaped : (old items : List Note) (cards new all : List (List ℕ)) (place removed : ℕ) → items ≡ spliced old place removed (notes_of new) → old ≡ notes_of cards
    → all ≡ spliced cards place removed new → items ≡ notes_of all
notes_reshaped old items cards new all place removed e f g =
    e ∙ ap (λ (ns : List Note). spliced ns place removed (notes_of new)) f ∙ sym (map-spliced note_of cards new place removed) ∙ ap notes_of (sym g)

pub ruleset change_steps = (index_after-splice, index_after-move, length_after-splice, length_after-move, range_of-splice, range_of-move, length-index)

pub ruleset kept_steps = (stays_described)

pub ruleset reshape_steps = (stays_described, axes_within, length-reshaped, length-index)
