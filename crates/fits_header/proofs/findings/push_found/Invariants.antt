use Rattle.std.proofs.Common.{◌≡◌, ◌++◌, take}
use Rattle.fits_header.specs.Findings.{found_at}
use Rattle.fits_header.proofs.findings.push_found.Given as goal

abbrev pub invariant-loop-code : goal.invariant-loop-code
invariant-loop-code l = l.found.items ≡ l.fn.found.items ++ found_at l.place (take l.code-index l.codes)
