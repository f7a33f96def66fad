use Rattle.std.proofs.Common.{◌≡◌, ◌++◌, take}
use Rattle.fits_tell.specs.Cards.{changed_of}
use Rattle.fits_tell.proofs.card_lines.push_changed.Given as goal

abbrev pub invariant-loop-it : goal.invariant-loop-it
invariant-loop-it l = l.changed.items ≡ l.fn.changed.items ++ changed_of (take l.it-index l.shown)
