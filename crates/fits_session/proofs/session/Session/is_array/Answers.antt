use Rattle.std.proofs.Common.{ap, refl, sym, ◌∙◌}
use Rattle.fits_rules.specs.Image.{array_bits}
use Rattle.fits_hdu.specs.State.{HduState}
use Rattle.fits_session.proofs.LoadedLemmas.{none_held, some_held}
use Rattle.fits_session.proofs.QueryLemmas.{array_is}
use Rattle.fits_session.proofs.StateLemmas.{is_at}
use Rattle.fits_session.proofs.session.Session.is_array.Goals as goal

pub returns-in-Ok-clause-is : goal.returns-in-Ok-clause-is
returns-in-Ok-clause-is g c some =
    let at = is_at c.self.inside.hdus.items c.deref.result.now c.args.h c.args.h c.in-Ok.i c.index.result.now c.deref.ensures.value refl c.in-Ok.ensures.found c.index.ensures in
    rw (← c.self.view_is) (array_is c.self.inside.hdus.items c.self.inside.tail.items c.args.h c.in-Ok.i c.index.result.now c.array_bits.result c.self.invariant.whole at c.shape.ensures.described (c.array_bits.ensures ∙ ap array_bits c.shape.ensures.value) (sym c.is_some.ensures ∙ some))

pub returns-in-Ok-clause-held : goal.returns-in-Ok-clause-held
returns-in-Ok-clause-held g c some has =
    let at = is_at c.self.inside.hdus.items c.deref.result.now c.args.h c.args.h c.in-Ok.i c.index.result.now c.deref.ensures.value refl c.in-Ok.ensures.found c.index.ensures in
    rw (← c.self.view_is) (some_held (λ (one : HduState). array_bits one.header.shape) c.self.inside.hdus.items c.args.h c.in-Ok.i c.index.result.now c.array_bits.result at (c.array_bits.ensures ∙ ap array_bits c.shape.ensures.value) (sym c.is_some.ensures ∙ some) (rw (← c.self.view_is) at has))

pub returns-in-Ok-clause-none : goal.returns-in-Ok-clause-none
returns-in-Ok-clause-none g c none =
    let at = is_at c.self.inside.hdus.items c.deref.result.now c.args.h c.args.h c.in-Ok.i c.index.result.now c.deref.ensures.value refl c.in-Ok.ensures.found c.index.ensures in
    rw (← c.self.view_is) (none_held (λ (one : HduState). array_bits one.header.shape) c.self.inside.hdus.items c.args.h c.in-Ok.i c.index.result.now c.array_bits.result at (c.array_bits.ensures ∙ ap array_bits c.shape.ensures.value) (sym c.is_some.ensures ∙ none))
