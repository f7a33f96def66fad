use Rattle.std.proofs.Common.{◌≡◌, ℕ, List}
use Rattle.std.specs.List.{flat_map, range_with_len}
use Rattle.fits_header.specs.Findings.{codes_at, found_at}
use Rattle.fits_header.specs.Notes.{notes_of}
use Rattle.fits_header.specs.Surroundings.{surroundings_of}
use Rattle.fits_header.proofs.findings.findings_of.Given as goal

abbrev pub invariant-loop-index : goal.invariant-loop-index
invariant-loop-index l = (cards : List (List ℕ)) → l.notes.items ≡ notes_of cards → l.surroundings ≡ surroundings_of cards
    → l.found.items ≡ flat_map (λ place. found_at place (codes_at l.shape cards place)) (range_with_len 1 l.index)
