use Rattle.std.proofs.Common.{refl, sym, ◌∙◌}
use Rattle.fits_image.specs.Kind.{kind_in}
use Rattle.fits_hdu.specs.State.{HduState}
use Rattle.fits_session.proofs.LoadedLemmas.{none_held, some_held}
use Rattle.fits_session.proofs.QueryLemmas.{image_is}
use Rattle.fits_session.proofs.StateLemmas.{is_at}
use Rattle.fits_session.proofs.session.Session.is_image.Goals as goal

pub returns-in-Ok-clause-is : goal.returns-in-Ok-clause-is
returns-in-Ok-clause-is g c some =
    let at = is_at c.self.inside.hdus.items c.deref.result.now c.args.h c.args.h c.in-Ok.i c.index.result.now c.deref.ensures.value refl c.in-Ok.ensures.found c.index.ensures in
    rw (← c.self.view_is) (image_is c.self.inside.hdus.items c.self.inside.tail.items c.args.h c.in-Ok.i c.index.result.now c.kind.result c.self.invariant.whole at c.kind.ensures.described c.kind.ensures.value (sym c.is_some.ensures ∙ some))

pub returns-in-Ok-clause-held : goal.returns-in-Ok-clause-held
returns-in-Ok-clause-held g c some has =
    let at = is_at c.self.inside.hdus.items c.deref.result.now c.args.h c.args.h c.in-Ok.i c.index.result.now c.deref.ensures.value refl c.in-Ok.ensures.found c.index.ensures in
    rw (← c.self.view_is) (some_held (λ (one : HduState). kind_in one.header.shape one.header.header.cards) c.self.inside.hdus.items c.args.h c.in-Ok.i c.index.result.now c.kind.result at c.kind.ensures.value (sym c.is_some.ensures ∙ some) (rw (← c.self.view_is) at has))

pub returns-in-Ok-clause-none : goal.returns-in-Ok-clause-none
returns-in-Ok-clause-none g c none =
    let at = is_at c.self.inside.hdus.items c.deref.result.now c.args.h c.args.h c.in-Ok.i c.index.result.now c.deref.ensures.value refl c.in-Ok.ensures.found c.index.ensures in
    rw (← c.self.view_is) (none_held (λ (one : HduState). kind_in one.header.shape one.header.header.cards) c.self.inside.hdus.items c.args.h c.in-Ok.i c.index.result.now c.kind.result at c.kind.ensures.value (sym c.is_some.ensures ∙ none))
