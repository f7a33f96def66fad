use Rattle.std.proofs.Common.{◌∙◌, ap, arith, length, sym}
use Rattle.fits_rules.specs.Size.{data_length}
use Rattle.fits_plane.specs.Plane.{PlaneState}
use Rattle.fits_unit.specs.DataUnit.{UnitState}
use Rattle.fits_hdu.proofs.hdu.Hdu.of.Goals as goal

pub plane_of-requires-clause-size : goal.plane_of-requires-clause-size
plane_of-requires-clause-size c = c.requires.size ∙ ap data_length (sym c.in_ok-header.ensures.shape)

pub joined-requires-clause-described : goal.joined-requires-clause-described
joined-requires-clause-described c =
    let read = c.plane_of.ensures.work in
    rw (read.header, read.shape, c.in_ok-header.ensures.header, c.in_ok-header.ensures.shape) c.requires.described

pub joined-requires-clause-size : goal.joined-requires-clause-size
joined-requires-clause-size c = rw c.held.ensures (ap length c.in-Ok.ensures.bytes ∙ (c.requires.size ∙ ap data_length (sym (c.plane_of.ensures.work.shape ∙ c.in_ok-header.ensures.shape))))

pub joined-requires-clause-layout : goal.joined-requires-clause-layout
joined-requires-clause-layout c = rw (c.held.ensures, c.plane_of.ensures.work.header, c.plane_of.ensures.work.shape) c.in-Ok.ensures.layout

pub returns-in-Ok-clause-header : goal.returns-in-Ok-clause-header
returns-in-Ok-clause-header c = c.joined.ensures.header ∙ (c.plane_of.ensures.work.header ∙ c.in_ok-header.ensures.header)

pub returns-in-Ok-clause-unit : goal.returns-in-Ok-clause-unit
returns-in-Ok-clause-unit c = ap (λ (plane : PlaneState). plane.bytes) (c.joined.ensures.unit ∙ ap (λ (unit : UnitState). unit.plane) c.held.ensures) ∙ c.in-Ok.ensures.bytes

pub returns-in-Ok-clause-shape : goal.returns-in-Ok-clause-shape
returns-in-Ok-clause-shape c = c.joined.ensures.shape ∙ (c.plane_of.ensures.work.shape ∙ c.in_ok-header.ensures.shape)

pub returns-in-Ok-clause-work : goal.returns-in-Ok-clause-work
returns-in-Ok-clause-work c = omega (arith, c.joined.ensures.work, c.plane_of.ensures.work.most, c.in_ok-header.ensures.work)

pub returns-in-Ok-clause-scans : goal.returns-in-Ok-clause-scans
returns-in-Ok-clause-scans c = rw (c.joined.ensures.unit, c.held.ensures) c.in-Ok.ensures.scans

pub returns-in-Ok-clause-held : goal.returns-in-Ok-clause-held
returns-in-Ok-clause-held c = c.joined.ensures.absent ∙ ap (λ (unit : UnitState). unit.absent) c.held.ensures

pub returns-in-Ok-clause-least : goal.returns-in-Ok-clause-least
returns-in-Ok-clause-least c = omega (arith, c.joined.ensures.least, c.plane_of.ensures.work.least, c.in_ok-header.ensures.least)
