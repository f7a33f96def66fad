use Rattle.std.proofs.Common.{◌≡◌, Bool, inl, inr, refl, ap, sym, subst, ◌∙◌, arith}
use Rattle.std.specs.Prelude.{is_some}
use Rattle.std.proofs.lemmas.Result.{err_from_is_err_and}
use Rattle.fits_card.specs.Header.{header_length}
use Rattle.fits_rules.specs.Class.{is_primary}
use Rattle.fits_unit.specs.DataUnit.{IsKnown}
use Rattle.fits_passing.specs.Hdu.{HduParts}
use Rattle.fits_hdu.specs.State.{HduState, parts_of}
use Rattle.fits_hdu.specs.Work.{plane_work}
use Rattle.fits_hdu.proofs.PixelLemmas.{painted_hdu}
use Rattle.fits_edit.specs.Paint.{plane_paint}
use Rattle.fits_making.specs.Keeping.{padded_if}
use Rattle.fits_making.specs.Making.{length_with, IsFinished}
use Rattle.fits_making.specs.declared.refusal.Refusal.TheVariants as refusal
use Rattle.fits_making.proofs.MakingLemmas.{fits, fits_not, header_part, makes_small}
use Rattle.fits_making.proofs.PixelEditLemmas.{may_made, paint_limits, paints, paints_not, paints_unstamped}
use Rattle.fits_making.proofs.pixels.paint_kept.Goals as goal

pub returns-in_err-may_paint : goal.returns-in_err-may_paint
returns-in_err-may_paint c =
    let p = err_from_is_err_and c.from_residual.result c.from_residual.ensures.1 in
    let hdu = c.args.hdu.now in
    rw (p.1, p.2) (paints_not c.args.lo.now c.args.hi.now c.args.paint.now c.args.len c.args.hdus hdu hdu c.in_err-may_paint.field-0.0 c.card_count-count.ensures.whole c.card_count-count.ensures.described (rw (c.as_slice.ensures, c.as_slice-2.ensures, c.lent-paint.ensures) at c.in_err-may_paint.ensures.err) refl)

pub keeps_limits-requires-clause-part : goal.keeps_limits-requires-clause-part
keeps_limits-requires-clause-part c = omega (arith, c.requires.part, header_part _ (parts_of c.args.hdu.now) c.card_count-count.ensures.whole, ap header_length c.card_count-count.ensures.value)

-- the file would be too large with the cards of a stamp
pub returns-then-not-keeps_limits : goal.returns-then-not-keeps_limits
returns-then-not-keeps_limits c =
    let hdu = c.args.hdu.now in
    let n = c.card_count-count in
    let primary : Bool = is_primary hdu.header.shape.class in
    let may = may_made _ (rw (c.as_slice.ensures, c.as_slice-2.ensures, c.lent-paint.ensures) at c.in_ok-may_paint.ensures.ok) in
    let within = paint_limits c.keeps_limits.result hdu.kept primary hdu.header.shape (parts_of hdu) may.0 c.args.lo.now c.args.hi.now c.args.paint.now c.args.len n.result c.spare_cards-spare.result c.args.hdus n.ensures.whole n.ensures.described may.1 c.requires.part n.ensures.value c.spare_cards-spare.ensures c.keeps_limits.ensures.value in
    paints_unstamped c.args.lo.now c.args.hi.now c.args.paint.now c.args.len c.args.hdus hdu hdu may.0 refusal.TooLarge n.ensures.whole n.ensures.described may.1
    (inl (fits_not (length_with c.args.len (parts_of hdu) (padded_if hdu.kept may.0)) c.args.hdus (within ∙ c.if-not-keeps_limits.true))) refl refl refl refl (record { described = n.ensures.described; entry = refl; kept = refl; absent = refl })

-- memory runs out for its cards
pub returns-in_err-cards : goal.returns-in_err-cards
returns-in_err-cards c =
    let p = err_from_is_err_and c.from_residual-in_err-cards.result c.from_residual-in_err-cards.ensures.1 in
    let hdu = c.args.hdu.now in
    let n = c.card_count-count in
    let primary : Bool = is_primary hdu.header.shape.class in
    let may = may_made _ (rw (c.as_slice.ensures, c.as_slice-2.ensures, c.lent-paint.ensures) at c.in_ok-may_paint.ensures.ok) in
    let within = paint_limits c.keeps_limits.result hdu.kept primary hdu.header.shape (parts_of hdu) may.0 c.args.lo.now c.args.hi.now c.args.paint.now c.args.len n.result c.spare_cards-spare.result c.args.hdus n.ensures.whole n.ensures.described may.1 c.requires.part n.ensures.value c.spare_cards-spare.ensures c.keeps_limits.ensures.value in
    let none = fits (length_with c.args.len (parts_of hdu) (padded_if hdu.kept may.0)) c.args.hdus (within ∙ c.if-not-keeps_limits.false) in
    rw (p.1, p.2) (paints_unstamped c.args.lo.now c.args.hi.now c.args.paint.now c.args.len c.args.hdus hdu hdu may.0 refusal.Memory n.ensures.whole n.ensures.described may.1
    (inr (refl, inr (c.requires.kept, none))) refl refl refl refl (record { described = n.ensures.described; entry = refl; kept = refl; absent = refl }))

-- or for their room
pub returns-in_err-reserve : goal.returns-in_err-reserve
returns-in_err-reserve c =
    let p = err_from_is_err_and c.from_residual-in_err-reserve.result c.from_residual-in_err-reserve.ensures.1 in
    let hdu = c.args.hdu.now in
    let n = c.card_count-count in
    let room = c.in_err-reserve.ensures in
    let primary : Bool = is_primary hdu.header.shape.class in
    let may = may_made _ (rw (c.as_slice.ensures, c.as_slice-2.ensures, c.lent-paint.ensures) at c.in_ok-may_paint.ensures.ok) in
    let within = paint_limits c.keeps_limits.result hdu.kept primary hdu.header.shape (parts_of hdu) may.0 c.args.lo.now c.args.hi.now c.args.paint.now c.args.len n.result c.spare_cards-spare.result c.args.hdus n.ensures.whole n.ensures.described may.1 c.requires.part n.ensures.value c.spare_cards-spare.ensures c.keeps_limits.ensures.value in
    let none = fits (length_with c.args.len (parts_of hdu) (padded_if hdu.kept may.0)) c.args.hdus (within ∙ c.if-not-keeps_limits.false) in
    rw (p.1, p.2) (paints_unstamped c.args.lo.now c.args.hi.now c.args.paint.now c.args.len c.args.hdus hdu c.reserve.new.self may.0 refusal.Memory n.ensures.whole n.ensures.described may.1
    (inr (refl, inr (c.requires.kept, none))) room.hdu room.work
    (ap (λ (state : HduState). plane_work state.plane) room.rest)
    room.err
    (record {
      described = rw (ap (λ (hdu : HduParts). hdu.header) room.hdu, room.shape) n.ensures.described;
      entry = ap (λ (state : HduState). state.entry) room.rest;
      kept = ap (λ (state : HduState). state.kept) room.rest;
      absent = ap (λ (state : HduState). state.absent) room.rest;
    }))

-- the HDU is small enough to be stamped
pub finish-requires-clause-small : goal.finish-requires-clause-small
finish-requires-clause-small c =
    let hdu = c.args.hdu.now in
    let n = c.card_count-count in
    let room = c.in_ok-reserve.ensures in
    let primary : Bool = is_primary hdu.header.shape.class in
    let done = rw (c.as_slice-3.ensures, c.as_slice-4.ensures, c.lent-paint.ensures, room.shape, room.hdu) at c.in-Ok.ensures.ok in
    let within = paint_limits c.keeps_limits.result hdu.kept primary hdu.header.shape (parts_of hdu) (parts_of c.paint.new.self) c.args.lo.now c.args.hi.now c.args.paint.now c.args.len n.result c.spare_cards-spare.result c.args.hdus n.ensures.whole n.ensures.described done c.requires.part n.ensures.value c.spare_cards-spare.ensures c.keeps_limits.ensures.value in
    let left = painted_hdu primary hdu.header.shape (parts_of hdu) c.args.lo.now c.args.hi.now (plane_paint c.args.paint.now) (parts_of c.paint.new.self) n.ensures.whole n.ensures.described done in
    makes_small hdu.kept primary c.args.len c.args.hdus (parts_of hdu) (parts_of c.paint.new.self) (parts_of c.paint.new.self) left.0 refl (within ∙ c.if-not-keeps_limits.false)

-- its data are known, as they were
pub finish-requires-clause-known : goal.finish-requires-clause-known
finish-requires-clause-known c =
    let place = ap (λ (state : HduState). state.absent) c.in-Ok.ensures.rest ∙ ap (λ (state : HduState). state.absent) c.in_ok-reserve.ensures.rest in
    λ on. subst IsKnown (sym place) (c.requires.known c.requires.kept)

pub returns : goal.returns
returns c =
    let hdu = c.args.hdu.now in
    let n = c.card_count-count in
    let room = c.in_ok-reserve.ensures in
    let mid = c.paint.new.self in
    let primary : Bool = is_primary hdu.header.shape.class in
    let done = rw (c.as_slice-3.ensures, c.as_slice-4.ensures, c.lent-paint.ensures, room.shape, room.hdu) at c.in-Ok.ensures.ok in
    let within = paint_limits c.keeps_limits.result hdu.kept primary hdu.header.shape (parts_of hdu) (parts_of mid) c.args.lo.now c.args.hi.now c.args.paint.now c.args.len n.result c.spare_cards-spare.result c.args.hdus n.ensures.whole n.ensures.described done c.requires.part n.ensures.value c.spare_cards-spare.ensures c.keeps_limits.ensures.value in
    let rest = c.in-Ok.ensures.rest in
    let header = ap (λ (hdu : HduParts). hdu.header) room.hdu in
    let plane = ap (λ (state : HduState). state.plane) room.rest in
    let stamps : is_some c.in_ok-cards.cards ≡ hdu.kept = c.in_ok-cards.ensures.ok in
    paints c.args.lo.now c.args.hi.now c.args.paint.now c.args.len c.args.hdus hdu mid c.finish.new.hdu tt n.ensures.whole n.ensures.described done
    (fits (length_with c.args.len (parts_of hdu) (padded_if hdu.kept (parts_of mid))) c.args.hdus (within ∙ c.if-not-keeps_limits.false))
    (ap (λ (state : HduState). state.header.reads) rest ∙ room.work)
    (rw (c.as_slice-3.ensures, c.as_slice-4.ensures, header, room.shape, plane) at c.in-Ok.ensures.work)
    (ap (λ (state : HduState). state.entry) rest ∙ ap (λ (state : HduState). state.entry) room.rest)
    (ap (λ (state : HduState). state.kept) rest ∙ ap (λ (state : HduState). state.kept) room.rest)
    (ap (λ (state : HduState). state.absent) rest ∙ ap (λ (state : HduState). state.absent) room.rest)
    (subst (λ b. IsFinished b mid c.finish.new.hdu) stamps c.finish.ensures)
