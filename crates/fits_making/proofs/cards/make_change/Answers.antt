use Rattle.std.proofs.Common.{rules, ◌≡◌, ◌+◌, ◌-◌, ◌<◌, Bool, inl, inr, refl, ap, sym, subst, ◌∙◌, arith, length, true}
use Rattle.std.proofs.lemmas.Bool.{cases_lt, false≢true}
use Rattle.std.proofs.lemmas.Result.{err_from_is_err_and}
use Rattle.std.specs.Prelude.{is_some}
use Rattle.fits_card.specs.Change.{cards_after}
use Rattle.fits_header.specs.State.{HeaderState}
use Rattle.fits_card.specs.Header.{header_length}
use Rattle.fits_rules.specs.Class.{is_primary}
use Rattle.fits_passing.specs.Hdu.{hdu_after, HduParts}
use Rattle.fits_hdu.specs.State.{parts_of, HduState}
use Rattle.fits_unit.specs.DataUnit.{IsKnown}
use Rattle.fits_hdu.specs.Work.{plane_work}
use Rattle.fits_hdu.proofs.StateLemmas.{parts_read}
use Rattle.fits_making.specs.Keeping.{padded_if, spare_cards}
use Rattle.fits_passing.specs.Limits.{is_within_limits}
use Rattle.fits_making.specs.Making.{length_with, within_refusal, IsFinished}
use Rattle.fits_making.specs.declared.refusal.Refusal.TheVariants as refusal
use Rattle.fits_making.proofs.MakingLemmas.{change_reckoned, changes_made, changes_not, fits, fits_not, header_part, kept_made, kept_whole, lasts_read, makes_small, room_missing}
use Rattle.fits_making.proofs.cards.make_change.Goals as goal

pub keeps_limits-requires-clause-part : goal.keeps_limits-requires-clause-part
keeps_limits-requires-clause-part c = omega (arith, c.requires.part, header_part _ (parts_of c.args.hdu.now) c.card_count-before.ensures.whole, ap header_length c.card_count-before.ensures.value)

-- the file would be too large
pub returns-then-not-keeps_limits : goal.returns-then-not-keeps_limits
returns-then-not-keeps_limits c =
    let hdu = c.args.hdu.now in
    let read = c.keeps_shape.ensures.work in
    let primary : Bool = is_primary hdu.header.shape.class in
    let spare : c.spare_cards-spare.result ≡ spare_cards hdu.kept = c.spare_cards-spare.ensures ∙ ap spare_cards read.kept in
    let after = c.count_after-after.ensures ∙ ap (λ (h : HeaderState). length (cards_after h.header.cards c.args.change.now)) c.header.ensures in
    let reckoned = change_reckoned (parts_of hdu) hdu.kept primary c.args.change.now c.args.len c.card_count-before.result c.count_after-after.result c.card_count-before.ensures.whole c.requires.inner (sym c.if-not-keeps_shape.ensures.value) c.requires.part c.card_count-before.ensures.value after in
    let size = ap (λ n. c.args.len - header_length c.card_count-before.result + header_length (c.count_after-after.result + n)) spare ∙ reckoned in
    let past = fits_not (length_with c.args.len (parts_of hdu) (padded_if hdu.kept (hdu_after c.args.change.now (parts_of hdu)))) c.args.hdus (sym (ap (λ n. is_within_limits n c.args.hdus) size) ∙ sym c.if-not-keeps_limits.ensures.value) in
    let made = kept_made primary (parts_of hdu) c.args.change.now (sym c.if-not-keeps_shape.ensures.value) in
    changes_not c.args.change.now c.args.len c.args.hdus hdu c.keeps_shape.new.self refusal.TooLarge c.card_count-before.ensures.whole (parts_read _ _ _ read) read.header.least read.header.most (ap plane_work read.plane) read.header.room (lasts_read _ _ _ c.card_count-before.ensures.described read)
    (inl (ap (within_refusal hdu.kept c.args.len c.args.hdus (parts_of hdu)) made ∙ past))

-- memory runs out for the cards of the stamp
pub returns-in_err-cards : goal.returns-in_err-cards
returns-in_err-cards c =
    let p = err_from_is_err_and c.from_residual.result c.from_residual.ensures.1 in
    let hdu = c.args.hdu.now in
    let read = c.keeps_shape.ensures.work in
    let primary : Bool = is_primary hdu.header.shape.class in
    let spare : c.spare_cards-spare.result ≡ spare_cards hdu.kept = c.spare_cards-spare.ensures ∙ ap spare_cards read.kept in
    let after = c.count_after-after.ensures ∙ ap (λ (h : HeaderState). length (cards_after h.header.cards c.args.change.now)) c.header.ensures in
    let reckoned = change_reckoned (parts_of hdu) hdu.kept primary c.args.change.now c.args.len c.card_count-before.result c.count_after-after.result c.card_count-before.ensures.whole c.requires.inner (sym c.if-not-keeps_shape.ensures.value) c.requires.part c.card_count-before.ensures.value after in
    let size = ap (λ n. c.args.len - header_length c.card_count-before.result + header_length (c.count_after-after.result + n)) spare ∙ reckoned in
    let within = fits (length_with c.args.len (parts_of hdu) (padded_if hdu.kept (hdu_after c.args.change.now (parts_of hdu)))) c.args.hdus (sym (ap (λ n. is_within_limits n c.args.hdus) size) ∙ sym c.if-not-keeps_limits.ensures.value) in
    let made = kept_made primary (parts_of hdu) c.args.change.now (sym c.if-not-keeps_shape.ensures.value) in
    rw (p.1, p.2) (changes_not c.args.change.now c.args.len c.args.hdus hdu c.keeps_shape.new.self refusal.Memory c.card_count-before.ensures.whole (parts_read _ _ _ read) read.header.least read.header.most (ap plane_work read.plane) read.header.room (lasts_read _ _ _ c.card_count-before.ensures.described read)
    (inr (refl, inr (sym read.kept ∙ c.in_err-cards.ensures.err, ap (within_refusal hdu.kept c.args.len c.args.hdus (parts_of hdu)) made ∙ within))))

-- or for its room
pub returns-in_err-reserve : goal.returns-in_err-reserve
returns-in_err-reserve c =
    let p = err_from_is_err_and c.from_residual-in_err-reserve.result c.from_residual-in_err-reserve.ensures.1 in
    let hdu = c.args.hdu.now in
    let read = c.keeps_shape.ensures.work in
    let primary : Bool = is_primary hdu.header.shape.class in
    let spare : c.spare_cards-spare.result ≡ spare_cards hdu.kept = c.spare_cards-spare.ensures ∙ ap spare_cards read.kept in
    let after = c.count_after-after.ensures ∙ ap (λ (h : HeaderState). length (cards_after h.header.cards c.args.change.now)) c.header.ensures in
    let reckoned = change_reckoned (parts_of hdu) hdu.kept primary c.args.change.now c.args.len c.card_count-before.result c.count_after-after.result c.card_count-before.ensures.whole c.requires.inner (sym c.if-not-keeps_shape.ensures.value) c.requires.part c.card_count-before.ensures.value after in
    let size = ap (λ n. c.args.len - header_length c.card_count-before.result + header_length (c.count_after-after.result + n)) spare ∙ reckoned in
    let within = fits (length_with c.args.len (parts_of hdu) (padded_if hdu.kept (hdu_after c.args.change.now (parts_of hdu)))) c.args.hdus (sym (ap (λ n. is_within_limits n c.args.hdus) size) ∙ sym c.if-not-keeps_limits.ensures.value) in
    let made = kept_made primary (parts_of hdu) c.args.change.now (sym c.if-not-keeps_shape.ensures.value) in
    let room = c.in_err-reserve.ensures in
    let cards = hdu.header.header.cards in
    let more : length cards < length (cards_after cards c.args.change.now) + spare_cards hdu.kept =
    elim (cases_lt (length cards) (length (cards_after cards c.args.change.now) + spare_cards hdu.kept)) [
      | inl more ↦ more
      | inr few ↦ absurd (false≢true (room.succeeds (omega (arith, few, spare, c.saturating_sub.ensures, c.card_count-before.ensures.value, after))))
    ] in
    rw (p.1, p.2) (changes_not c.args.change.now c.args.len c.args.hdus hdu c.reserve.new.self refusal.Memory c.card_count-before.ensures.whole
    (room.hdu ∙ parts_read _ _ _ read)
    (omega (arith, read.header.least, room.work))
    (omega (arith, read.header.most, room.work))
    (ap (λ (hdu : HduState). plane_work hdu.plane) room.rest ∙ ap plane_work read.plane)
    (room.err ∙ read.header.room)
    (record {
      described = rw (ap (λ (hdu : HduParts). hdu.header) room.hdu, room.shape, read.header.header, read.header.shape) c.card_count-before.ensures.described;
      entry = ap (λ (hdu : HduState). hdu.entry) room.rest ∙ read.entry;
      kept = ap (λ (hdu : HduState). hdu.kept) room.rest ∙ read.kept;
      absent = ap (λ (hdu : HduState). hdu.absent) room.rest ∙ read.absent;
    })
    (inr (refl, room_missing c.args.change.now c.args.len c.args.hdus hdu.kept primary (parts_of hdu) c.requires.in_range more (ap (within_refusal hdu.kept c.args.len c.args.hdus (parts_of hdu)) made ∙ within))))

-- the HDU is small enough to be stamped
pub finish-requires-clause-small : goal.finish-requires-clause-small
finish-requires-clause-small c =
    let hdu = c.args.hdu.now in
    let read = c.keeps_shape.ensures.work in
    let primary : Bool = is_primary hdu.header.shape.class in
    let spare : c.spare_cards-spare.result ≡ spare_cards hdu.kept = c.spare_cards-spare.ensures ∙ ap spare_cards read.kept in
    let after = c.count_after-after.ensures ∙ ap (λ (h : HeaderState). length (cards_after h.header.cards c.args.change.now)) c.header.ensures in
    let reckoned = change_reckoned (parts_of hdu) hdu.kept primary c.args.change.now c.args.len c.card_count-before.result c.count_after-after.result c.card_count-before.ensures.whole c.requires.inner (sym c.if-not-keeps_shape.ensures.value) c.requires.part c.card_count-before.ensures.value after in
    let size = ap (λ n. c.args.len - header_length c.card_count-before.result + header_length (c.count_after-after.result + n)) spare ∙ reckoned in
    let within : is_within_limits (length_with c.args.len (parts_of hdu) (padded_if hdu.kept (hdu_after c.args.change.now (parts_of hdu)))) c.args.hdus ≡ true = sym (ap (λ n. is_within_limits n c.args.hdus) size) ∙ sym c.if-not-keeps_limits.ensures.value in
    let left = kept_whole primary (parts_of hdu) c.args.change.now c.card_count-before.ensures.whole c.requires.inner (sym c.if-not-keeps_shape.ensures.value) in
    let is = c.apply.ensures.hdu ∙ ap (hdu_after c.args.change.now) (c.in_ok-reserve.ensures.hdu ∙ parts_read _ _ _ read) in
    makes_small hdu.kept primary c.args.len c.args.hdus (parts_of hdu) (hdu_after c.args.change.now (parts_of hdu)) (parts_of c.apply.new.self) left is within

-- where it is kept its data are known
pub finish-requires-clause-known : goal.finish-requires-clause-known
finish-requires-clause-known c = λ on.
    let read = c.keeps_shape.ensures.work in
    let room = c.in_ok-reserve.ensures in
    let stamps : is_some c.in_ok-cards.cards ≡ c.args.hdu.now.kept = c.in_ok-cards.ensures.ok ∙ read.kept in
    subst IsKnown (sym (c.apply.ensures.absent ∙ (ap (λ (hdu : HduState). hdu.absent) room.rest ∙ read.absent))) (c.requires.known (sym stamps ∙ on))

pub returns : goal.returns
returns c =
    let hdu = c.args.hdu.now in
    let read = c.keeps_shape.ensures.work in
    let primary : Bool = is_primary hdu.header.shape.class in
    let spare : c.spare_cards-spare.result ≡ spare_cards hdu.kept = c.spare_cards-spare.ensures ∙ ap spare_cards read.kept in
    let after = c.count_after-after.ensures ∙ ap (λ (h : HeaderState). length (cards_after h.header.cards c.args.change.now)) c.header.ensures in
    let reckoned = change_reckoned (parts_of hdu) hdu.kept primary c.args.change.now c.args.len c.card_count-before.result c.count_after-after.result c.card_count-before.ensures.whole c.requires.inner (sym c.if-not-keeps_shape.ensures.value) c.requires.part c.card_count-before.ensures.value after in
    let size = ap (λ n. c.args.len - header_length c.card_count-before.result + header_length (c.count_after-after.result + n)) spare ∙ reckoned in
    let within = fits (length_with c.args.len (parts_of hdu) (padded_if hdu.kept (hdu_after c.args.change.now (parts_of hdu)))) c.args.hdus (sym (ap (λ n. is_within_limits n c.args.hdus) size) ∙ sym c.if-not-keeps_limits.ensures.value) in
    let room = c.in_ok-reserve.ensures in
    let header = ap (λ (hdu : HduParts). hdu.header) c.apply.ensures.hdu in
    let reserved = ap (λ (hdu : HduParts). hdu.header) room.hdu in
    let plane = ap (λ (hdu : HduState). hdu.plane) room.rest in
    let stamps : is_some c.in_ok-cards.cards ≡ hdu.kept = c.in_ok-cards.ensures.ok ∙ read.kept in
    changes_made c.args.change.now c.args.len c.args.hdus hdu c.apply.new.self c.finish.new.hdu tt c.card_count-before.ensures.whole c.card_count-before.ensures.described c.requires.inner (sym c.if-not-keeps_shape.ensures.value) within
    (c.apply.ensures.hdu ∙ ap (hdu_after c.args.change.now) (room.hdu ∙ parts_read _ _ _ read))
    (omega (arith, read.header.least, room.work, c.apply.ensures.least))
    (omega (arith, read.header.most, room.work, c.apply.ensures.work))
    (rw (header, c.apply.ensures.shape, reserved, room.shape, plane, read.header.header, read.header.shape, read.plane) at c.apply.ensures.scans)
    (c.apply.ensures.entry ∙ (ap (λ (hdu : HduState). hdu.entry) room.rest ∙ read.entry))
    (c.apply.ensures.kept ∙ (ap (λ (hdu : HduState). hdu.kept) room.rest ∙ read.kept))
    (c.apply.ensures.absent ∙ (ap (λ (hdu : HduState). hdu.absent) room.rest ∙ read.absent))
    (subst (λ b. IsFinished b c.apply.new.self c.finish.new.hdu) stamps c.finish.ensures)

-- Said, so that a body that breaks it is refused at once.
pub returns-then-not-keeps_shape : goal.returns-then-not-keeps_shape
returns-then-not-keeps_shape c = search rules
