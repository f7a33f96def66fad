-- Whether cards describe the shape that others do (own).
use Rattle.std.specs.Prelude.{◌≡◌, ◌≢◌, ◌↔◌, ℕ, ◌+◌, ◌-◌, ◌<◌, Bool, true, false, IsTrue, ◌&&◌, ◌==◌, List, All, length, take, drop, codes, Result, Ok}
use Rattle.std.specs.Ordering.{int_eq}
use Rattle.std.specs.Str.{bytes_eq}
use Rattle.fits_card.specs.Card.{keyword_name}
use Rattle.fits_card.specs.Change.{spliced}
use Rattle.fits_rules.specs.Shape.{shape_of}
use Rattle.fits_rules.specs.declared.class.Class.{Class}
use Rattle.fits_rules.specs.declared.class.Class.TheVariants.{Primary, Groups, Image, Table, Other}
use Rattle.fits_rules.specs.declared.array_shape.Shape.{Shape}

-- the two classes are one
abbrev pub class_eq : Class → Class → Bool
class_eq Primary Primary = true
class_eq Groups Groups = true
class_eq Image Image = true
class_eq Table Table = true
class_eq Other Other = true
class_eq first second = false

-- the two shapes are one: class, BITPIX, axes, PCOUNT and GCOUNT
unfoldable pub shape_eq : Shape → Shape → Bool
shape_eq a b =
    class_eq a.class b.class && int_eq a.bitpix b.bitpix && bytes_eq a.axes b.axes
    && (a.pcount == b.pcount) && (a.gcount == b.gcount)

-- both headers describe a shape, and it is the same one
unfoldable pub same_shape : Result Shape ℕ → Result Shape ℕ → Bool
same_shape (Ok a) (Ok b) = shape_eq a b
same_shape a b = false

-- a comparison with a shape is true exactly where a header describes it
abbrev pub ComparesExactly : Type 0
ComparesExactly = (shape : Shape) (described : Result Shape ℕ) → IsTrue (same_shape (Ok shape) described) ↔ (described ≡ Ok shape)

-- a card that counts for no shape wherever it stands after the axes: not GROUPS, PCOUNT or GCOUNT
pub record IsUncounted (card : List ℕ) : Type 0 where
  pub no_groups : keyword_name card ≢ codes "GROUPS  "
  pub no_pcount : keyword_name card ≢ codes "PCOUNT  "
  pub no_gcount : keyword_name card ≢ codes "GCOUNT  "

-- a splice after the last axis that neither takes nor brings a card that counts keeps the shape
abbrev pub LaterSplicesKeepShapes : Type 0
LaterSplicesKeepShapes =
    (primary : Bool) (cards new : List (List ℕ)) (place removed : ℕ) (shape : Shape) → shape_of primary cards ≡ Ok shape
    → 3 + length shape.axes < place → All IsUncounted (take removed (drop (place - 1) cards)) → All IsUncounted new
    → shape_of primary (spliced cards place removed new) ≡ Ok shape
