use Rattle.std.proofs.Common.{rules, subst, sym}
use Rattle.fits_header.specs.Index.{IsSortedIndex}
use Rattle.fits_header.proofs.IndexLemmas.{sorted-added}
use Rattle.fits_header.proofs.entries.add.Goals as goal

pub returns-clause-items : goal.returns-clause-items
returns-clause-items c = search rules

pub returns-clause-sorted : goal.returns-clause-sorted
returns-clause-sorted c = subst IsSortedIndex (sym (returns-clause-items c)) (sorted-added c.args.entries.now.items c.args.entry c.requires.sorted)
