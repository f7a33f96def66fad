-- A shape on the way to it: private contracts alone name these (own).
use Rattle.std.specs.Prelude.{◌≡◌, ℕ, Bool, List, codes, Option, None, Some, ok_or, Result, Ok, Err}
use Rattle.std.specs.Borrow.{Bor}
use Rattle.fits_card.specs.Change.{cards_after, IsInRange}
use Rattle.fits_card.specs.declared.change.Change.{Change}
use Rattle.fits_rules.specs.Lead.{lead_or_end}
use Rattle.fits_rules.specs.Shape.{◌>>=◌, first_card, bitpix_of, naxis_of, axes_of, class_of, count_of}
use Rattle.fits_rules.specs.declared.array_shape.Shape.{Shape}
use Rattle.fits_rules.specs.declared.reading.Front.{Front}
use Rattle.fits_rules.specs.declared.shape_leads.ShapeLeads.{ShapeLeads}
use Rattle.fits_rules.specs.declared.shape_reading.ShapeReading.{ShapeReading}

-- the cards as a change would leave them, or as they are
abbrev pub cards_left : List (List ℕ) → Option (Bor Change) → List (List ℕ)
cards_left cards None = cards
cards_left cards (Some change) = cards_after cards change.now

-- the change can leave them so, where there is one: its places are in range
abbrev pub CanLeave : List (List ℕ) → Option (Bor Change) → Type 0
CanLeave cards None = Unit
CanLeave cards (Some change) = IsInRange cards change.now

-- what was written where nothing broke its rule, or the place that did
abbrev pub written : {X : Type 0} → Result Unit ℕ → X → Result X ℕ
written (Ok done) value = Ok value
written (Err place) value = Err place

-- the first three cards, or the first of them that breaks its rule
unfoldable pub front_of : Bool → List (List ℕ) → Result Front ℕ
front_of primary cards = do
  first ← ok_or (first_card primary cards) 1
  bitpix ← ok_or (bitpix_of cards) 2
  naxis ← ok_or (naxis_of cards) 3
  Ok (record { first = first; bitpix = bitpix; naxis = naxis })

-- the shape behind them by the leads, each count where its lead says one, or the first broken axis
unfoldable pub reading_of : Bool → List (List ℕ) → ShapeLeads → Front → Result ShapeReading ℕ
reading_of primary cards leads front = do
  axes ← axes_of cards front.naxis
  let class = class_of primary front.first axes leads.groups
  Ok (record { class = class; bitpix = front.bitpix; axes = axes; pcount = count_of class leads.pcount 0; gcount = count_of class leads.gcount 1 })

-- the shape that was read, or the place of the first lead that says no count
unfoldable pub shape_read : List (List ℕ) → ShapeReading → Result Shape ℕ
shape_read cards reading = do
  pcount ← ok_or reading.pcount (lead_or_end cards (codes "PCOUNT  "))
  gcount ← ok_or reading.gcount (lead_or_end cards (codes "GCOUNT  "))
  Ok (record { class = reading.class; bitpix = reading.bitpix; axes = reading.axes; pcount = pcount; gcount = gcount })

-- what was read is this shape
pub record IsReadingOf (shape : Shape) (reading : ShapeReading) : Type 0 where
  pub class : reading.class ≡ shape.class
  pub bitpix : reading.bitpix ≡ shape.bitpix
  pub axes : reading.axes ≡ shape.axes
  pub pcount : reading.pcount ≡ Some shape.pcount
  pub gcount : reading.gcount ≡ Some shape.gcount
