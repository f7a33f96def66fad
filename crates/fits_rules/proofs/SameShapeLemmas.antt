-- When two headers describe the same shape.
use Rattle.std.proofs.Common.{◌≡◌, ℕ, true, List, refl, ap, sym}
use Rattle.std.specs.Prelude.{ℤ, ◌&&◌, ◌==◌, Result, Ok, Err}
use Rattle.std.specs.Bool.{Decides}
use Rattle.std.specs.Ordering.{int_eq}
use Rattle.std.specs.Str.{bytes_eq}
use Rattle.std.proofs.lemmas.Bool.Decides.{Decides-and, Decides-int_eq, Decides-eqb}
use Rattle.std.proofs.lemmas.Slice.Eq.{bytes_eq-Decides}
use Rattle.fits_rules.specs.declared.class.Class.{Class}
use Rattle.fits_rules.specs.declared.class.Class.TheVariants.{Primary, Groups, Image, Table, Other}
use Rattle.fits_rules.specs.declared.array_shape.Shape.{Shape}
use Rattle.fits_rules.specs.SameShape.{class_eq, shape_eq, same_shape}

-- classes that compare as one are one
class_is : (a b : Class) → class_eq a b ≡ true → a ≡ b
class_is Primary Primary e = refl
class_is Groups Groups e = refl
class_is Image Image e = refl
class_is Table Table e = refl
class_is Other Other e = refl
class_is a b e = cc

-- a class compares as itself
class_same : (a : Class) → class_eq a a ≡ true
class_same Primary = refl
class_same Groups = refl
class_same Image = refl
class_same Table = refl
class_same Other = refl

-- the comparison of classes is exact
pub class_eq-Decides : (a b : Class) → Decides (class_eq a b) (a ≡ b)
class_eq-Decides a b = (class_is a b, λ e. rw (← e) (class_same a))

-- shapes of the same parts are one
pub parts_of : (c d : Class) (b e : ℤ) (x y : List ℕ) (p q g h : ℕ) → c ≡ d → b ≡ e → x ≡ y → p ≡ q → g ≡ h
    → Path Shape (record { class = c; bitpix = b; axes = x; pcount = p; gcount = g }) (record { class = d; bitpix = e; axes = y; pcount = q; gcount = h })
parts_of c d b e x y p q g h i j k l m = rw (i, j, k, l, m) refl

-- the comparison of shapes is exact
pub shape_eq-Decides : (a b : Shape) → Decides (shape_eq a b) (a ≡ b)
unfolding shape_eq
shape_eq-Decides a b =
    let each =
    Decides-and (class_eq a.class b.class && int_eq a.bitpix b.bitpix && bytes_eq a.axes b.axes && (a.pcount == b.pcount)) (a.gcount == b.gcount)
    (Decides-and (class_eq a.class b.class && int_eq a.bitpix b.bitpix && bytes_eq a.axes b.axes) (a.pcount == b.pcount)
    (Decides-and (class_eq a.class b.class && int_eq a.bitpix b.bitpix) (bytes_eq a.axes b.axes)
    (Decides-and (class_eq a.class b.class) (int_eq a.bitpix b.bitpix) (class_eq-Decides a.class b.class) (Decides-int_eq a.bitpix b.bitpix))
    (bytes_eq-Decides a.axes b.axes)) (Decides-eqb a.pcount b.pcount)) (Decides-eqb a.gcount b.gcount) in (
      λ same.
          let four = each.0 same in
          parts_of a.class b.class a.bitpix b.bitpix a.axes b.axes a.pcount b.pcount a.gcount b.gcount
          four.0.0.0.0 four.0.0.0.1 four.0.0.1 four.0.1 four.1,
      λ e. each.1 ((((ap (λ (s : Shape). s.class) e, ap (λ (s : Shape). s.bitpix) e), ap (λ (s : Shape). s.axes) e), ap (λ (s : Shape). s.pcount) e), ap (λ (s : Shape). s.gcount) e),
    )

-- a shape beside what a header describes
pub same_shape-Decides : (shape : Shape) (described : Result Shape ℕ) → Decides (same_shape (Ok shape) described) (described ≡ Ok shape)
unfolding same_shape
same_shape-Decides shape (Ok other) =
    let each = shape_eq-Decides shape other in
    (λ same. ap Ok (sym (each.0 same)), λ e. let is : shape ≡ other = cc in each.1 is)
same_shape-Decides shape (Err place) = (λ no. cc, λ e. cc)
