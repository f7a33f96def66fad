use Rattle.std.proofs.Common.{rules, ◌≡◌, ◌∙◌, Some, ap, sym}
use Rattle.fits_plane.specs.Plane.{PlaneState}
use Rattle.fits_unit.specs.DataUnit.{absent_plane, lies_at, Lies}
use Rattle.fits_unit.proofs.data_unit.DataUnit.load.Goals as goal

-- what was read is the unit in that file
pub returns-in-Ok-clause-same : goal.returns-in-Ok-clause-same
returns-in-Ok-clause-same g c = λ told is lie.
    let it = c.in-Some.it in
    let absent : c.self.inside.absent ≡ Some it = sym c.take.ensures.value ∙ c.in-Some.is in
    let lies : Lies told (absent_plane it).bytes (lies_at it) = rw (← c.self.view_is, absent) at lie in
    rw (c.take.ensures.after, ← c.self.view_is, absent) (ap (λ (p : PlaneState). p.bytes) c.go_on.ensures ∙ c.in-Ok.ensures.same told is lies)

-- Said, so that a body that breaks it is refused at once.
pub returns-in-Ok-clause-scanned : goal.returns-in-Ok-clause-scanned
returns-in-Ok-clause-scanned g c = search rules
