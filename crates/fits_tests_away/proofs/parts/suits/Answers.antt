use Rattle.std.proofs.Common.{◌≡◌, ◌∙◌, ℕ, ℤ, List, [], ◌∷◌, ap, arith, inl, inr, length, slice_index, subst, sym, true}
use Rattle.fits_pixels.specs.Pixels.{IsStorable, IsWidth}
use Rattle.fits_plane.specs.Paint.{has_count, painted_number}
use Rattle.fits_plane.specs.Rectangle.{product, rectangle_size}
use Rattle.fits_tests_away.proofs.parts.suits.Goals.{else-width-ne1-via-then-width-ne1+then-width-ne2+then-width-ne4+else-width-ne8, else-width-ne1-via-then-width-ne1+then-width-ne2+else-width-ne4, else-width-ne1-via-then-width-ne1+else-width-ne2, else-width-ne1-via-else-width-ne1}
use Rattle.fits_tests_away.proofs.parts.suits.Goals as goal

-- one axis spans as many pixels as it has
one_axis : (axes : List ℕ) (n : ℕ) → length axes ≡ 1 → slice_index axes 0 ≡ n → product axes ≡ n
one_axis [] n one is = absurd (omega (arith, one))
one_axis (a ∷ []) n one is = omega (arith, is)
one_axis (a ∷ b ∷ rest) n one is = absurd (omega (arith, one))

pub returns-then-has_count : goal.returns-then-has_count
returns-then-has_count c can =
    let width : IsWidth c.args.layout.width = elim c.else-width-ne1.branch [
      | else-width-ne1-via-then-width-ne1+then-width-ne2+then-width-ne4+else-width-ne8 w ↦ inr (inr (inr (omega (arith, w.if-width-ne8.false))))
      | else-width-ne1-via-then-width-ne1+then-width-ne2+else-width-ne4 w ↦ inr (inr (inl (omega (arith, w.if-width-ne4.false))))
      | else-width-ne1-via-then-width-ne1+else-width-ne2 w ↦ inr (inl (omega (arith, w.if-width-ne2.false)))
      | else-width-ne1-via-else-width-ne1 w ↦ inl (omega (arith, w.if-width-ne1.false))
    ] in
    let painting = c.args.painting.now in
    let size : c.rectangle_len-size.result ≡ rectangle_size painting.lo.now painting.hi.now = c.rectangle_len-size.ensures in
    let count : has_count painting.paint.now (rectangle_size painting.lo.now painting.hi.now) ≡ true =
    ap (has_count painting.paint.now) (sym size) ∙ sym c.has_count.ensures ∙ c.if-has_count.true in
    record {
      width = width;
      rectangle = c.is_rectangle.ensures.means.0 (grind (arith, c.if-not-is_rectangle.false));
      all = one_axis painting.axes.now c.args.layout.pixels (omega (arith, c.if-painting-ne1.false)) (omega (arith, c.if-painting-layout.false));
      count = count;
      storable = λ k b. subst (λ (z : ℤ). IsStorable c.args.layout.width (painted_number painting.paint.now z k)) (sym c.requires)
          (c.is_storable.ensures.numbers can (rectangle_size painting.lo.now painting.hi.now) count k b);
    }
