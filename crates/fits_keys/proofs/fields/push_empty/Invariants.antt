use Rattle.std.proofs.Common.{◌≡◌, ◌++◌, [], take}
use Rattle.fits_keys.specs.Keys.{fields_of}
use Rattle.fits_keys.proofs.fields.push_empty.Given as goal

abbrev pub invariant-loop-name : goal.invariant-loop-name
invariant-loop-name l = l.line.items ≡ l.fn.line.items ++ fields_of [] (take l._name-index l.names)
