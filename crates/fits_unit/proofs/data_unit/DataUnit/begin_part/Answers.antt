use Rattle.std.proofs.Common.{◌≡◌, ◌∙◌, Some, ap, sym}
use Rattle.fits_unit.specs.DataUnit.{away_at, away_plane, Lies}
use Rattle.fits_unit.specs.declared.absent.Absent.{Absent}
use Rattle.fits_unit.specs.declared.absent.Absent.TheVariants.{Away}
use Rattle.fits_unit.proofs.PartLoadLemmas.{begins_part}
use Rattle.fits_unit.proofs.data_unit.DataUnit.begin_part.Goals as goal

pub returns-in-Ok-clause-begins : goal.returns-in-Ok-clause-begins
returns-in-Ok-clause-begins g c =
    let it = c.in-Away.it in
    let absent : c.self.inside.absent ≡ Some (Away it) = sym c.take.ensures.value ∙ c.in-Some.is ∙ ap (λ (a : Absent). Some a) c.in-Away.is in
    let p = c.in-Ok.ensures in
    rw (← c.self.view_is, absent) (begins_part it.place c.into_scans.result.total it.unit c.in-Ok.part c.go_on.new.self c.go_on.ensures c.into_scans.ensures c.layout-layout.ensures.some p.size p.layout p.total p.reads p.scans p.joins)

pub returns-in-Ok-clause-same : goal.returns-in-Ok-clause-same
returns-in-Ok-clause-same g c = λ told is lie.
    let it = c.in-Away.it in
    let absent : c.self.inside.absent ≡ Some (Away it) = sym c.take.ensures.value ∙ c.in-Some.is ∙ ap (λ (a : Absent). Some a) c.in-Away.is in
    let lies : Lies told (away_plane it.unit).bytes (away_at it.place it.unit) = rw (← c.self.view_is, absent) at lie in
    rw (c.go_on.ensures, ← c.self.view_is, absent) (c.in-Ok.ensures.same told is lies)

pub returns-in-Ok-clause-lies : goal.returns-in-Ok-clause-lies
returns-in-Ok-clause-lies g c = λ told is lie.
    let it = c.in-Away.it in
    let absent : c.self.inside.absent ≡ Some (Away it) = sym c.take.ensures.value ∙ c.in-Some.is ∙ ap (λ (a : Absent). Some a) c.in-Away.is in
    let lies : Lies told (away_plane it.unit).bytes (away_at it.place it.unit) = rw (← c.self.view_is, absent) at lie in
    rw c.go_on.ensures (c.in-Ok.ensures.lies told is lies)
