use Rattle.std.proofs.Common.{◌≡◌, ◌≤◌, ◌+◌, ◌*◌, ℕ, List}
use Rattle.std.specs.List.{flat_map, range_with_len}
use Rattle.fits_codes.specs.declared.code_set.TheConstants.{MOST_CODES}
use Rattle.fits_header.specs.Findings.{codes_at, counts_of}
use Rattle.fits_header.specs.Notes.{notes_of}
use Rattle.fits_header.specs.Surroundings.{surroundings_of}
use Rattle.fits_header.proofs.counting.count_all.Given as goal

abbrev pub invariant-loop-index : goal.invariant-loop-index
invariant-loop-index l = record {
  value : (cards : List (List ℕ)) → l.notes.items ≡ notes_of cards → l.surroundings ≡ surroundings_of cards
      → l.counts ≡ counts_of (flat_map (codes_at l.shape cards) (range_with_len 1 l.index));
  few : l.counts.errors + l.counts.warnings ≤ MOST_CODES * l.index;
}
