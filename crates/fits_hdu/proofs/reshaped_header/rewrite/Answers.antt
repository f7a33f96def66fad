use Rattle.std.proofs.Common.{◌≡◌, ℕ, ◌+◌, ◌∙◌, List, refl, ap, arith, codes, length, sym}
use Rattle.std.specs.Prelude.{pos}
use Rattle.fits_card.specs.Change.{spliced}
use Rattle.fits_card.specs.Header.{Header, with_cards}
use Rattle.fits_rules.specs.Class.{is_primary}
use Rattle.fits_rules.proofs.DescribesLemmas.{described}
use Rattle.fits_rules.proofs.KeepingLemmas.{described_within}
use Rattle.fits_image.specs.ImageCards.{shape_cards}
use Rattle.fits_image.specs.Kind.{offset_of}
use Rattle.fits_image.proofs.ImageCardLemmas.{bscale_name, bzero_name}
use Rattle.fits_hdu.specs.Work.{keyword_reads}
use Rattle.fits_hdu.proofs.PlanLemmas.{bscale_unshaped, cards_kept, cards_scaled, new_are, one_header, plan_kept, reads_scaling, room_left, room_stays, scaled_header, scaling_none, scaling_some, shape_not_end}
use Rattle.fits_hdu.proofs.ReshapeLemmas.{can_parts, offset_small}
use Rattle.fits_hdu.proofs.ReshapedCountLemmas.{reads_scaled, reads_written}
use Rattle.fits_hdu.proofs.ScalingLemmas.{number_one}
use Rattle.fits_hdu.proofs.reshaped_header.rewrite.Goals as goal

pub reshape-requires-clause-not_end : goal.reshape-requires-clause-not_end
reshape-requires-clause-not_end c =
    let h = c.args.header.now in
    let p = c.args.plan in
    let can = can_parts p.old p.kind p.shape.axes h.shape h.header.cards c.requires.plan.can in
    shape_not_end p.kind p.shape.axes (2 + length h.shape.axes) p.change c.cards.result.now can.axes_may c.requires.plan.planned.change c.cards.ensures

pub reshape-requires-clause-kept : goal.reshape-requires-clause-kept
reshape-requires-clause-kept c =
    let h = c.args.header.now in
    let p = c.args.plan in
    plan_kept p.kind p.shape.axes h.shape h.header.cards p c.cards.result.now c.requires.plan c.shape-described.ensures.described c.cards.ensures

pub set_card-requires-clause-one : goal.set_card-requires-clause-one
set_card-requires-clause-one c =
    let p = c.args.plan in
    let some = scaling_some p.old p.kind c.in-Some.field-0 (sym c.in-Some.is ∙ c.requires.plan.planned.scaling) in
    number_one (codes "BSCALE  ") (pos 1) c.in-Some.field-0.scale bscale_name (omega arith) some.1

pub set_card-requires-in-Some-clause-one : goal.set_card-requires-in-Some-clause-one
set_card-requires-in-Some-clause-one c =
    let p = c.args.plan in
    let some = scaling_some p.old p.kind c.in-Some.field-0 (sym c.in-Some.is ∙ c.requires.plan.planned.scaling) in
    number_one (codes "BZERO   ") (offset_of p.kind) c.in-Some.field-0.zero bzero_name (offset_small p.kind) some.2

-- there is room for both
pub set_card-requires-clause-room : goal.set_card-requires-clause-room
set_card-requires-clause-room c =
    let h = c.args.header.now in
    let within = described_within (is_primary h.shape.class) h.header.cards h.shape (described (is_primary h.shape.class) h.header.cards h.shape c.shape-described.ensures.described) in
    let left = room_left h.header.cards c.cards.result.now (length h.shape.axes) h.room c.reshape.new.self.room (omega (arith, c.requires.room, ap length c.cards.ensures)) within
    (omega (arith, c.reshape.ensures.room, ap (λ (x : Header). length x.cards) c.reshape.ensures.header)) in
    omega (arith, left)

pub set_card-requires-in-Some-clause-room : goal.set_card-requires-in-Some-clause-room
set_card-requires-in-Some-clause-room c =
    let h = c.args.header.now in
    let within = described_within (is_primary h.shape.class) h.header.cards h.shape (described (is_primary h.shape.class) h.header.cards h.shape c.shape-described.ensures.described) in
    let left = room_left h.header.cards c.cards.result.now (length h.shape.axes) h.room c.reshape.new.self.room (omega (arith, c.requires.room, ap length c.cards.ensures)) within
    (omega (arith, c.reshape.ensures.room, ap (λ (x : Header). length x.cards) c.reshape.ensures.header)) in
    omega (arith, left, c.set_card.ensures.room)

-- and no more of it is taken
pub returns-in-Some-clause-left : goal.returns-in-Some-clause-left
returns-in-Some-clause-left c =
    let h = c.args.header.now in
    let within = described_within (is_primary h.shape.class) h.header.cards h.shape (described (is_primary h.shape.class) h.header.cards h.shape c.shape-described.ensures.described) in
    let stays = room_stays h.header.cards c.cards.result.now (length h.shape.axes) h.room c.reshape.new.self.room within (omega (arith, c.reshape.ensures.room, ap (λ (x : Header). length x.cards) c.reshape.ensures.header)) in
    omega (arith, stays, c.set_card.ensures.room, c.set_card-in-Some.ensures.room, ap length c.cards.ensures)

-- all of them are written
pub returns-in-Some-clause-header : goal.returns-in-Some-clause-header
returns-in-Some-clause-header c =
    let h = c.args.header.now in
    let p = c.args.plan in
    let some = scaling_some p.old p.kind c.in-Some.field-0 (sym c.in-Some.is ∙ c.requires.plan.planned.scaling) in
    let written : List (List ℕ) = spliced h.header.cards 2 (2 + length h.shape.axes) (shape_cards p.kind p.shape.axes) in
    let first : c.reshape.new.self.header ≡ with_cards h.header written = c.reshape.ensures.header ∙ ap (λ new. with_cards h.header (spliced h.header.cards 2 (2 + length h.shape.axes) new)) (new_are p.kind p.shape.axes (2 + length h.shape.axes) p.change c.cards.result.now c.requires.plan.planned.change c.cards.ensures) in
    scaled_header h.header c.reshape.new.self.header c.set_card.new.header.header c.set_card-in-Some.new.header.header written c.in-Some.field-0.scale c.in-Some.field-0.zero (offset_of p.kind) first c.set_card.ensures.header c.set_card-in-Some.ensures.header some.1 some.2
    ∙ ap (with_cards h.header) (sym (cards_scaled p.old p.kind p.shape.axes h.shape h.header.cards some.0))

-- and the keywords' cards are read
pub returns-in-Some-clause-work : goal.returns-in-Some-clause-work
returns-in-Some-clause-work c =
    let h = c.args.header.now in
    let p = c.args.plan in
    let primary = is_primary h.shape.class in
    let can = can_parts p.old p.kind p.shape.axes h.shape h.header.cards c.requires.plan.can in
    let some = scaling_some p.old p.kind c.in-Some.field-0 (sym c.in-Some.is ∙ c.requires.plan.planned.scaling) in
    let written : List (List ℕ) = spliced h.header.cards 2 (2 + length h.shape.axes) (shape_cards p.kind p.shape.axes) in
    let first : c.reshape.new.self.header ≡ with_cards h.header written = c.reshape.ensures.header ∙ ap (λ new. with_cards h.header (spliced h.header.cards 2 (2 + length h.shape.axes) new)) (new_are p.kind p.shape.axes (2 + length h.shape.axes) p.change c.cards.result.now c.requires.plan.planned.change c.cards.ensures) in
    let one = one_header h.header c.reshape.new.self.header c.set_card.new.header.header written c.in-Some.field-0.scale first c.set_card.ensures.header some.1 in
    let scale = ap (λ (x : Header). keyword_reads x.cards (codes "BSCALE  ")) first ∙ reads_written primary p.kind p.shape.axes h.shape h.header.cards c.shape-described.ensures.described can.axes_may (codes "BSCALE  ") refl bscale_unshaped in
    let zero = ap (λ xs. keyword_reads xs (codes "BZERO   ")) one ∙ reads_scaled primary p.kind p.shape.axes h.shape h.header.cards c.shape-described.ensures.described can.axes_may in
    let both = reads_scaling p.old p.kind h.header.cards some.0 in
    omega (arith, scale, zero, both, c.reshape.ensures.work, c.set_card.ensures.work, c.set_card-in-Some.ensures.work)

-- the offset stays
pub returns-clause-header : goal.returns-clause-header
returns-clause-header c =
    let h = c.args.header.now in
    let p = c.args.plan in
    let none = scaling_none p.old p.kind p.scaling c.requires.plan.planned.scaling c.in_default.is in
    c.reshape.ensures.header
    ∙ (ap (λ new. with_cards h.header (spliced h.header.cards 2 (2 + length h.shape.axes) new)) (new_are p.kind p.shape.axes (2 + length h.shape.axes) p.change c.cards.result.now c.requires.plan.planned.change c.cards.ensures)
    ∙ ap (with_cards h.header) (sym (cards_kept p.old p.kind p.shape.axes h.shape h.header.cards none)))

pub returns-clause-left : goal.returns-clause-left
returns-clause-left c =
    let h = c.args.header.now in
    let within = described_within (is_primary h.shape.class) h.header.cards h.shape (described (is_primary h.shape.class) h.header.cards h.shape c.shape-described.ensures.described) in
    let stays = room_stays h.header.cards c.cards.result.now (length h.shape.axes) h.room c.reshape.new.self.room within (omega (arith, c.reshape.ensures.room, ap (λ (x : Header). length x.cards) c.reshape.ensures.header)) in
    omega (arith, stays, ap length c.cards.ensures)
