-- How far the saving of a result is, and what a fault says of it (own).
use Rattle.std.specs.Prelude.{◌≡◌, Bool, true}
use Rattle.fits_save.specs.Stages.{is_as_it_was}
use Rattle.fits_save.specs.declared.save_fault.SaveFault.{SaveFault}
use Rattle.fits_save.specs.declared.save_fault.SaveFault.TheVariants.{Changed, NotWhole, Stands, Opening, Failed, InPart}
use Rattle.fits_save.specs.declared.stage.Stage.{Stage}
use Rattle.fits_save.specs.declared.stage.Stage.TheVariants.{Copying}

-- what stands at the path and beside it, whether what stands at the path is to stay whole, whether a call failed on the way, and whether
-- what stands at the path wasn't what was opened there
pub record Progress : Type 0 where
  pub stage : Stage
  pub whole : Bool
  pub failed : Bool
  pub differs : Bool

-- what stands at the path is as it was, since a call failed
pub record IsSpared (it : Progress) : Type 0 where
  pub there : is_as_it_was it.stage ≡ true
  pub cause : it.failed ≡ true

-- the whole result stands beside the path, since a call failed while it was copied there
pub record IsInPart (it : Progress) : Type 0 where
  pub there : it.stage ≡ Copying
  pub cause : it.failed ≡ true

-- what stands at the path is as it was, since it wasn't what was opened there
pub record IsOther (it : Progress) : Type 0 where
  pub there : is_as_it_was it.stage ≡ true
  pub cause : it.differs ≡ true

-- what a fault says of a saving that was begun
abbrev pub IsTrueOf : SaveFault → Progress → Type 0
IsTrueOf Changed it = IsOther it
IsTrueOf (InPart _) it = IsInPart it
IsTrueOf (Failed _) it = IsSpared it
IsTrueOf (Opening _) it = IsSpared it
IsTrueOf Stands it = IsSpared it
IsTrueOf NotWhole it = ⊥
