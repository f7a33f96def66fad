-- How an edit fails, in two words.
use Rattle.std.proofs.Common.{◌≡◌, ◌⊎◌, Option, Some, inl, inr}
use Rattle.fits_making.specs.Refusal.{Fails}
use Rattle.fits_making.specs.declared.refusal.Refusal.{Refusal}
use Rattle.fits_making.specs.declared.refusal.Refusal.TheVariants.{Memory}

-- by its first test that fails, or since memory was refused
pub fails : (Needs : Option Refusal → Type 0) (refusal : Option Refusal) (why : Refusal) → Fails Needs refusal why → (refusal ≡ Some why) ⊎ (why ≡ Memory)
fails Needs refusal why it = elim it [ inl test ↦ inl test | inr memory ↦ inr memory.0 ]
