-- A value with its comment.
use Rattle.std.proofs.Common.{ℕ, List, Option}
use Rattle.fits_value.specs.declared.value.Value.{Value}

-- what a field or a card says
abbrev pub Said : Type 0
Said = Value × Option (List ℕ)
