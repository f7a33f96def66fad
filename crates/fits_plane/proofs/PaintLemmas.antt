-- What the pixels of a rectangle are given.
use Rattle.std.proofs.Common.{◌≡◌, ◌<◌, ◌≤◌, ◌+◌, ◌-◌, ◌*◌, ◌^◌, ◌∙◌, ◌-ℤ◌, ℕ, ℤ, pos, true, List, length, get_or, take, drop, ap, arith, subst, sym}
use Rattle.std.proofs.lemmas.Bool.{eqb-true}
use Rattle.fits_pixels.specs.declared.layout.Layout.{Layout}
use Rattle.fits_pixels.specs.Layout.{IsLayout}
use Rattle.fits_pixels.proofs.LayoutLemmas.{layout_small}
use Rattle.fits_plane.specs.Paint.{painted_number, has_count, HasValues}
use Rattle.fits_plane.specs.declared.lent_paint.LentPaint.{LentPaint}
use Rattle.fits_plane.specs.declared.lent_paint.LentPaint.TheVariants.{Fill, Write}
use Rattle.fits_plane.specs.declared.painting.Painting.{Painting}
use Rattle.fits_plane.specs.Painting.{Suits}
use Rattle.fits_plane.specs.Rectangle.{product, rectangle_size, row_count, row_size}
use Rattle.fits_plane.specs.ShortRows.{CanPaint}
use Rattle.fits_plane.proofs.RowLemmas.{rectangle_size-le-product, row_lies}
use Rattle.fits_plane.proofs.WriteLemmas.{Part, part_of}

-- where there is a value for each of some pixels, there is one for each of fewer
pub has_values : (paint : LentPaint) (size count : ℕ) → has_count paint size ≡ true → count ≤ size → HasValues paint count
has_values (Fill value) size count e h = tt
has_values (Write values) size count e h = let long : length values ≡ size = eqb-true _ _ e in omega (arith, h, long)

-- the values of a row are a part of those written
pub written_part : (paint : LentPaint) (values slice : List ℤ) (at n : ℕ) → paint ≡ Write values → slice ≡ values → HasValues paint (at + n) → Part slice at n (take (at + n - at) (drop at slice))
written_part paint values slice at n is same enough =
    let room : at + n ≤ length values = subst (λ p. HasValues p (at + n)) is enough in
    part_of slice at n (omega (arith, room, ap length same))

-- each is the number of its rank, less the offset
pub part_number : (paint : LentPaint) (values slice : List ℤ) (offset : ℤ) (at n x : ℕ) → paint ≡ Write values → slice ≡ values → HasValues paint (at + n) → x < n
    → get_or (take (at + n - at) (drop at slice)) x (pos 0) -ℤ offset ≡ painted_number paint offset (at + x)
part_number paint values slice offset at n x is same enough b =
    ap (λ v. v -ℤ offset) ((written_part paint values slice at n is same enough).is x b ∙ ap (λ vs. get_or vs (at + x) (pos 0)) same)
    ∙ sym (ap (λ p. painted_number p offset (at + x)) is)

-- an image has no more pixels than bytes
pub few_pixels : (layout : Layout) (bytes : List ℕ) (it : Painting) → IsLayout layout bytes → Suits layout it → product it.axes.now < 2 ^ 62
few_pixels layout bytes it fits h = omega (arith, h.all, layout_small layout bytes fits, fits.limit)

-- a row of a rectangle can be painted
pub can_paint_row : (layout : Layout) (bytes : List ℕ) (it : Painting) (side rows row : ℕ) → IsLayout layout bytes → Suits layout it
    → side ≡ row_size it.lo.now it.hi.now → rows ≡ row_count it.lo.now it.hi.now → row < rows → CanPaint layout.width it (row * side) side
can_paint_row layout bytes it side rows row fits h e all b =
    let room = row_lies it.axes.now it.lo.now it.hi.now side rows row h.rectangle e all b in
    record {
      ranks = omega (arith, room, rectangle_size-le-product _ _ _ h.rectangle, few_pixels layout bytes it fits h);
      values = has_values it.paint.now (rectangle_size it.lo.now it.hi.now) _ h.count room;
      storable = λ x near. h.storable (row * side + x) (omega (arith, room, near));
    }
