use Rattle.std.proofs.Common.{◌≡◌, ◌++◌, take}
use Rattle.std.specs.Prelude.{codes}
use Rattle.std.specs.List.{flat_map}
use Rattle.fits_value.specs.Text.{trimmed}
use Rattle.fits_keys.specs.Keys.{tabbed}
use Rattle.fits_keys.proofs.fields.heading.Given as goal

abbrev pub invariant-loop-name : goal.invariant-loop-name
invariant-loop-name l = l.line.items ≡ codes "file" ++ flat_map (λ name. tabbed (trimmed name)) (take l.name-index l.names)
