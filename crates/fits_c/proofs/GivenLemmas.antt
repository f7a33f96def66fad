-- An outcome that is given.
use Rattle.std.proofs.Common.{◌≡◌, ℕ, sym, subst, inl, inr}
use Rattle.fits_c.specs.Given.{Gives}
use Rattle.fits_c.specs.declared.given.Given.{Given}
use Rattle.fits_c.specs.declared.outcome.Outcome.{Outcome}

-- what is so of an outcome is so of the one that is given
pub gives : (Is : Outcome → Type 0) (it : Outcome) (status : ℕ) (old new : Given) → Is it → Gives (λ (other : Outcome). other ≡ it) status old new → Gives Is status old new
gives Is it status old new so given = elim given [
  | inl none ↦ inl none
  | inr some ↦ inr (some.0, some.1, some.2, some.3, subst Is (sym some.4) so)
]
