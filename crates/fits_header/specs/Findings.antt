-- What is found of a header: the codes of its cards, by what stands round them, and those of the header as a whole (own).
use Rattle.std.specs.Prelude.{ℕ, ◌+◌, false, not, List, length, map, filter, slice_index_or, if◌then◌else◌}
use Rattle.std.specs.List.{flat_map, range_with_len}
use Rattle.fits_card.specs.Header.{Header}
use Rattle.fits_rules.specs.declared.array_shape.Shape.{Shape}
use Rattle.fits_codes.specs.Code.{is_error}
use Rattle.fits_codes.specs.HeaderCodes.{header_judged, header_mark_of}
use Rattle.fits_codes.specs.Judged.{judged}
use Rattle.fits_codes.specs.Mark.{mark_of}
use Rattle.fits_codes.specs.declared.code.Code.{Code}
use Rattle.fits_codes.specs.declared.context.Context.{Context}
use Rattle.fits_header.specs.Links.{header_links}
use Rattle.fits_header.specs.Surroundings.{surrounding_at}
pub use Rattle.fits_header.specs.Places.{card_of}
use Rattle.fits_header.specs.declared.counts.Counts.{Counts}
use Rattle.fits_header.specs.declared.finding.Finding.{Finding}

-- where the card at a place stands: its shape, what stands round it, whether the next card is a link
abbrev pub context_at : Shape → List (List ℕ) → ℕ → Context
context_at shape cards place = record {
  class = shape.class;
  axes = length shape.axes;
  place = place;
  around = surrounding_at cards place;
  next_is_link = slice_index_or (header_links cards) place false;
}

-- the codes of the card at a place, by number
abbrev pub codes_at : Shape → List (List ℕ) → ℕ → List Code
codes_at shape cards place = judged (mark_of (card_of cards place)) (context_at shape cards place)

-- the codes of the header as a whole, by number
abbrev pub header_codes_of : Shape → Header → List Code
header_codes_of shape header = header_judged (header_mark_of header shape) shape

-- codes found at a place
abbrev pub found_at : ℕ → List Code → List Finding
found_at place codes = map (λ code. record { place = place; code = code }) codes

-- what is found of the cards: by place, and at each by number
unfoldable pub card_findings : Shape → List (List ℕ) → List Finding
card_findings shape cards = flat_map (λ place. found_at place (codes_at shape cards place)) (range_with_len 1 (length cards))

-- so many errors, and so many warnings
abbrev pub counts_by : ℕ → ℕ → Counts
counts_by errors warnings = record { errors = errors; warnings = warnings }

-- how many of these codes are errors, and how many are warnings
abbrev pub counts_of : List Code → Counts
counts_of codes = counts_by (length (filter is_error codes)) (length (filter (λ code. not (is_error code)) codes))

-- the counts with one more code
abbrev pub counted : Counts → Code → Counts
counted counts code =
    if is_error code then counts_by (counts.errors + 1) counts.warnings else counts_by counts.errors (counts.warnings + 1)

-- the counts of two lists together
abbrev pub summed : Counts → Counts → Counts
summed counts others = counts_by (counts.errors + others.errors) (counts.warnings + others.warnings)

-- those of all that is found of the cards
unfoldable pub card_counts : Shape → List (List ℕ) → Counts
card_counts shape cards = counts_of (map (λ (finding : Finding). finding.code) (card_findings shape cards))
