use Rattle.std.proofs.Common.{◌≡◌, ◌*◌, ◌∙◌, Bool, true, false, ap, not, refl, sym}
use Rattle.std.specs.Ordering.{int_eq}
use Rattle.std.specs.Prelude.{◌&&◌, ◌||◌}
use Rattle.fits_card.specs.Header.{Header}
use Rattle.fits_rules.specs.Class.{is_primary}
use Rattle.fits_image.specs.ImageCards.{shape_cards}
use Rattle.fits_image.specs.Kind.{convention, has_offset, kind_of, offset_of, width_of}
use Rattle.fits_hdu.proofs.PlanLemmas.{described_told, splice_in_range}
use Rattle.fits_hdu.proofs.reshaping.is_described.Goals as goal

-- the cards that go are there
pub would_have-requires : goal.would_have-requires
would_have-requires c =
    let h = c.args.header.now in
    splice_in_range (is_primary h.shape.class) h.header.cards (shape_cards c.args.plan.now.kind c.args.axes.now) h.shape c.args.plan.now.change c.shape-described.ensures.described c.requires.planned.change

-- they describe the shape, and the offset decides
pub returns-then-would_have-clause-value : goal.returns-then-would_have-clause-value
returns-then-would_have-clause-value c =
    let h = c.args.header.now in
    let p = c.args.plan.now in
    let told = described_told p.old p.kind c.args.axes.now h.shape h.header.cards c.shape-described.ensures.described c.requires.axes c.requires.array p.shape p.change c.would_have.result c.requires.planned.change c.requires.planned.after c.would_have.ensures.value in
    let same = ap (λ (x : Header). not (int_eq (offset_of p.old) (offset_of p.kind)) || int_eq (offset_of (kind_of (8 * width_of p.kind) (has_offset x.cards (convention (8 * width_of p.kind))))) (offset_of p.kind)) c.would_have.ensures.work.header in
    sym (told ∙ rw (c.if-would_have.true) (sym (c.keeps_offset.ensures.value ∙ same)))

-- they don't
pub returns-else-would_have-clause-value : goal.returns-else-would_have-clause-value
returns-else-would_have-clause-value c =
    let h = c.args.header.now in
    let p = c.args.plan.now in
    let told = described_told p.old p.kind c.args.axes.now h.shape h.header.cards c.shape-described.ensures.described c.requires.axes c.requires.array p.shape p.change c.would_have.result c.requires.planned.change c.requires.planned.after c.would_have.ensures.value in
    sym (told ∙ closed c.would_have.result _ c.if-would_have.false)
  where
    closed : (b other : Bool) → b ≡ false → (b && other) ≡ b
    closed true other e = absurd (cc)
    closed false other e = refl
