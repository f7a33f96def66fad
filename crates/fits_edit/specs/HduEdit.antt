-- What an edit of one HDU may change (own).
use Rattle.std.specs.Prelude.{Bool, true, false}
use Rattle.fits_edit.specs.declared.hdu_edit.HduEdit.{HduEdit}
use Rattle.fits_edit.specs.declared.hdu_edit.HduEdit.TheVariants.{Cards}

-- whether an edit may change what an HDU is called: one of cards may, and no other
abbrev pub may_rename : HduEdit → Bool
may_rename (Cards edit) = true
may_rename edit = false
