use Rattle.std.proofs.Common.{◌≡◌, ◌++◌, take, drop}
use Rattle.fits_value.specs.Unreadable.{before_comment}
use Rattle.fits_value.proofs.unreadable.before_comment.Given as goal

-- what was passed, and what stands before a comment of the rest
abbrev pub invariant-loop-i : goal.invariant-loop-i
invariant-loop-i l = take l.i l.text ++ before_comment (drop l.i l.text) ≡ before_comment l.text
