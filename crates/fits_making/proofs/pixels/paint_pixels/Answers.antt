use Rattle.std.proofs.Common.{ap, sym, ◌∙◌}
use Rattle.std.proofs.lemmas.Result.{err_from_is_err_and}
use Rattle.fits_rules.specs.Class.{is_primary}
use Rattle.fits_hdu.specs.State.{HduState, parts_of}
use Rattle.fits_making.proofs.PixelEditLemmas.{paint_within, paints, paints_not, unstamped_limits, unstamped_finished}
use Rattle.fits_making.proofs.pixels.paint_pixels.Goals as goal

pub returns-in_err-paint : goal.returns-in_err-paint
returns-in_err-paint c =
    let p = err_from_is_err_and c.from_residual.result c.from_residual.ensures.1 in
    rw (p.1, p.2) (paints_not c.args.lo.now c.args.hi.now c.args.paint.now c.args.len c.args.hdus c.args.hdu.now c.paint.new.self c.in_err-paint.field-0.0 c.card_count-whole.ensures.whole c.paint.ensures.described (rw (c.as_slice.ensures, c.as_slice-2.ensures, c.lent.ensures) at c.in_err-paint.ensures.err) c.in_err-paint.ensures.same)

pub returns : goal.returns
returns c =
    let hdu = c.args.hdu.now in
    let new = c.paint.new.self in
    let primary = is_primary hdu.header.shape.class in
    let done = rw (c.as_slice.ensures, c.as_slice-2.ensures, c.lent.ensures) at c.in_ok-paint.ensures.ok in
    let unkept = sym c.kept.ensures ∙ c.if-kept.false in
    let within = paint_within primary hdu.header.shape (parts_of hdu) (parts_of new) c.args.lo.now c.args.hi.now c.args.paint.now c.args.len c.args.hdus c.card_count-whole.ensures.whole c.paint.ensures.described done c.requires.part c.requires.within in
    let rest = c.paint.ensures.rest in
    paints c.args.lo.now c.args.hi.now c.args.paint.now c.args.len c.args.hdus hdu new new tt c.card_count-whole.ensures.whole c.paint.ensures.described done
    (unstamped_limits hdu.kept c.args.len c.args.hdus (parts_of hdu) (parts_of new) unkept within)
    (ap (λ (state : HduState). state.header.reads) rest)
    (rw (c.as_slice.ensures, c.as_slice-2.ensures) at c.in_ok-paint.ensures.work)
    (ap (λ (state : HduState). state.entry) rest)
    (ap (λ (state : HduState). state.kept) rest)
    (ap (λ (state : HduState). state.absent) rest)
    (unstamped_finished hdu.kept new unkept (rw (ap (λ (state : HduState). state.header) rest) c.paint.ensures.described))
