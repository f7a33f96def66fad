use Rattle.std.proofs.Common.{arith, sym, ◌∙◌}
use Rattle.fits_hdu.proofs.StampingLemmas.{none_own, some_own}
use Rattle.fits_hdu.proofs.hdu.Hdu.missing.Goals as goal

pub returns-in-Some : goal.returns-in-Some
returns-in-Some c = rw (← c.self.view_is) (omega (arith, some_own _ c.args.name.now c.in-Some.field-0 (sym c.lead.ensures ∙ c.in-Some.is)))

pub returns-in-None : goal.returns-in-None
returns-in-None c = rw (← c.self.view_is) (omega (arith, none_own _ c.args.name.now (sym c.lead.ensures ∙ c.in-None.is)))
