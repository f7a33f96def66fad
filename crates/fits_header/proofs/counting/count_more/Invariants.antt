use Rattle.std.proofs.Common.{◌≡◌, ◌+◌, ◌++◌, List, take}
use Rattle.fits_codes.specs.declared.code.Code.{Code}
use Rattle.fits_header.specs.Findings.{counts_of}
use Rattle.fits_header.proofs.counting.count_more.Given as goal

abbrev pub invariant-loop-index : goal.invariant-loop-index
invariant-loop-index l = record {
  value : (found : List Code) → l.fn.counts ≡ counts_of found → l.counts ≡ counts_of (found ++ take l.index l.codes);
  sum : l.counts.errors + l.counts.warnings ≡ l.fn.counts.errors + l.fn.counts.warnings + l.index;
}
