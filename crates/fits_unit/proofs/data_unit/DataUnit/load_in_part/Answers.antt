use Rattle.std.proofs.Common.{◌≡◌, ◌∙◌, Some, ap, refl}
use Rattle.fits_unit.specs.Absence.{part_at}
use Rattle.fits_unit.specs.declared.absent.Absent.{Absent}
use Rattle.fits_unit.specs.declared.absent.Absent.TheVariants.{InPart}
use Rattle.fits_unit.proofs.PartLoadLemmas.{holds_loaded, some_pieces, some_same}
use Rattle.fits_unit.proofs.data_unit.DataUnit.load_in_part.Goals as goal
use Rattle.fits_unit.proofs.data_unit.DataUnit.load_in_part.Goals.{in-None, in-Some-InPart}

pub returns-clause-held : goal.returns-clause-held
returns-clause-held g c = elim c.match-self.branch [
  | in-None w ↦ rw (w.self-inside-is, w.result-is, w.in-None.is) tt
  | in-Some-InPart w ↦ rw (w.result-is, w.self-inside-is) (holds_loaded c.args.axes.now c.args.lo.now c.args.hi.now w.load_rect.result w.in-Some-InPart.part w.load_rect.new.self w.load_rect.ensures.held w.load_rect.ensures.loads w.layout-fits.ensures.some)
]

pub returns-clause-bounds : goal.returns-clause-bounds
returns-clause-bounds g c = elim c.match-self.branch [
  | in-None w ↦ rw (w.self-inside-is, c.self.view_is) (some_same _)
  | in-Some-InPart w ↦
      let part = w.in-Some-InPart.part in
      let new = w.load_rect.new.self in
      let absent : c.self.inside.absent ≡ Some (InPart part) = w.in-Some-InPart.is ∙ ap (λ (a : Absent). Some a) w.in-Some-InPart.field-0-is in
      rw (w.self-inside-is, ← c.self.view_is, absent) (some_pieces part.plane new.plane (part_at part) (part_at new) refl w.load_rect.ensures.loads w.layout-fits.ensures.pieces w.layout-fits.ensures.fits.whole)
]

pub returns-clause-follows : goal.returns-clause-follows
returns-clause-follows g c = elim c.match-self.branch [
  | in-None w ↦ rw w.log-is (λ bytes is. is)
  | in-Some-InPart w ↦ rw w.log-is w.load_rect.ensures.follows
]
