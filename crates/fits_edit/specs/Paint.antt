-- What the pixels of a rectangle are given (own).
use Rattle.fits_plane.specs.declared.lent_paint.LentPaint.{LentPaint}
use Rattle.fits_plane.specs.declared.lent_paint.LentPaint.TheVariants as plane
use Rattle.fits_edit.specs.declared.paint.Paint.{Paint}
use Rattle.fits_edit.specs.declared.paint.Paint.TheVariants.{Fill, Write}

-- what a plane is given
abbrev pub plane_paint : Paint → LentPaint
plane_paint (Fill value) = plane.Fill value
plane_paint (Write values) = plane.Write values
