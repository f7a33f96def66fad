use Rattle.std.proofs.Common.{◌≡◌, ◌++◌, drop}
use Rattle.fits_value.specs.Spelling.{doubled}
use Rattle.fits_value.proofs.card_text.add_doubled.Given as goal

-- what is added and what is left come to all
abbrev pub invariant-loop-byte : goal.invariant-loop-byte
invariant-loop-byte l = l.text ++ doubled (drop l.byte-index l.characters) ≡ l.fn.text ++ doubled l.characters
