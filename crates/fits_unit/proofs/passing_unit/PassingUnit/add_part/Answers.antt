use Rattle.std.proofs.Common.{◌≡◌, ◌+◌, ◌≤◌, ◌^◌, ◌∙◌, ◌⊎◌, length, ap, subst, sym, arith, refl}
use Rattle.std.specs.Prelude.{◌&&◌}
use Rattle.fits_pixels.specs.Summary.{pixels_joined}
use Rattle.fits_unit.specs.Passing.{PassingState}
use Rattle.fits_unit.proofs.PassedLemmas.{passing_more, total_small}
use Rattle.fits_unit.proofs.passing_unit.PassingUnit.add_part.Goals as goal
use Rattle.fits_unit.proofs.passing_unit.PassingUnit.add_part.Goals.{then-self, else-self}

-- the totals of so few words fit
pub overflow_add-self : goal.overflow_add-self
overflow_add-self c =
    let inv = c.self.invariant in
    let part = c.args.part.now in
    let room : length c.self.inside.gone.bytes + length part ≤ 2 ^ 34 = omega (arith, ap (λ (p : PassingState). length p.bytes) c.self.view_is, c.requires.room) in
    record { fits = omega (arith, inv.total_is, total_small c.self.inside.gone.bytes inv.whole inv.small, c.scan_next-found.ensures.second, total_small part c.requires.whole c.read_bytes.ensures, room) }

pub invariant_of-self : goal.invariant_of-self
invariant_of-self c =
    let it = c.self.inside in
    let part = c.args.part.now in
    let both : c.if-self.self ≡ (it.filled && c.is_filled-filled.result) = elim c.if-self.branch [ then-self w ↦ rw w.if-self.true w.self-is | else-self w ↦ rw w.if-self.false (w.self-is ∙ w.if-self.false) ] in
    let block : (it.layout.width ≡ 0) ⊎ (length part ≡ 2880) = subst (λ (p : PassingState). (p.layout.width ≡ 0) ⊎ (length part ≡ 2880)) (sym c.self.view_is) c.requires.block in
    let room : length it.gone.bytes + length part ≤ 2 ^ 34 = omega (arith, ap (λ (p : PassingState). length p.bytes) c.self.view_is, c.requires.room) in
    passing_more it.layout it.gone.bytes part _ it.count _ c.saturating_sub-used.result it.total _ it.scans.total _ it.stored _ it.filled c.is_filled-filled.result _ c.self.invariant block c.requires.whole room c.read_bytes.ensures
    c.add.ensures refl (c.join-self-inside.ensures ∙ ap (pixels_joined it.stored) c.scan_next-found.ensures.first) (ap (λ n. it.total + n) c.scan_next-found.ensures.second) c.saturating_sub-used.ensures
    c.is_filled-filled.ensures both c.scan_next-found.ensures.work
