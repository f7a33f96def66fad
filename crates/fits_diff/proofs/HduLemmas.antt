-- One HDU of each of two files, as they pass by.
use Rattle.std.proofs.Common.{◌≡◌, ℕ, Bool, List, ◌++◌, refl, ap, ◌∙◌, append_assoc}
use Rattle.std.specs.Prelude.{Ok}
use Rattle.fits_card.specs.Header.{Header, header_bytes, IsHeader}
use Rattle.fits_stream.specs.Intake.{Supply, Takes}
use Rattle.fits_rules.specs.Shape.{shape_of}
use Rattle.fits_rules.specs.Size.{data_length}
use Rattle.fits_rules.specs.declared.array_shape.Shape.{Shape}
use Rattle.fits_passing.proofs.ReadingLemmas.{hdu_taken, hdu_whole, stops_in_unit}
use Rattle.fits_diff.specs.Differences.{data_text, end_text}
use Rattle.fits_diff.specs.Matching.{TellsCards}
use Rattle.fits_diff.specs.DiffSteps.{HdusStop, TakesHdus, TakesUnits, UnitsStop}
use Rattle.fits_diff.specs.declared.pair_fault.PairFault.{PairFault}
use Rattle.fits_diff.specs.declared.pair_fault.PairFault.TheVariants as pair

-- a header that was taken, and what its cards describe
pub record HasHead (primary : Bool) (a a' : Supply) (header : Header) (shape : Shape) (len : ℕ) : Type 0 where
  pub taken : Takes a a' (header_bytes header)
  pub whole : IsHeader header
  pub described : shape_of primary header.cards ≡ Ok shape
  pub size : len ≡ data_length shape

-- the headers, and then the data units
pub hdus_taken : (h : ℕ) (primary : Bool) (a a' c b b' e : Supply) (header other : Header) (shape other_shape : Shape) (len other_len : ℕ) (lines text t u new : List ℕ)
    → HasHead primary a a' header shape len → HasHead primary b b' other other_shape other_len → TellsCards h header.cards other.cards lines → t ≡ text ++ lines → u ≡ t ++ end_text h header other
    → TakesUnits h len other_len a' c b' e u new → TakesHdus h primary a c b e text new
hdus_taken h primary a a' c b b' e header other shape other_shape len other_len lines text t u new p q cards is ends units =
    let of_end : List ℕ = end_text h header other in
    let of_data : List ℕ = data_text h units.unit units.other in
    record {
      hdu = record { header = header; data_unit = units.unit };
      other = record { header = other; data_unit = units.other };
      whole = hdu_whole primary header shape units.unit p.whole p.described (units.size ∙ p.size);
      whole_other = hdu_whole primary other other_shape units.other q.whole q.described (units.size_other ∙ q.size);
      taken = hdu_taken a a' c header units.unit p.taken units.taken;
      taken_other = hdu_taken b b' e other units.other q.taken units.taken_other;
      one = lines ++ (of_end ++ of_data);
      told = record { cards = lines; told = cards; is = refl };
      is = units.told ∙ ap (λ x. x ++ of_data) (ends ∙ ap (λ x. x ++ of_end) is)
          ∙ append_assoc (text ++ lines) of_end of_data ∙ append_assoc text lines (of_end ++ of_data);
    }

-- after the headers a data unit wasn't taken
pub units_stop : (primary : Bool) (a a' c b b' e : Supply) (header other : Header) (shape other_shape : Shape) (len other_len : ℕ) (why : PairFault)
    → HasHead primary a a' header shape len → HasHead primary b b' other other_shape other_len → UnitsStop len other_len a' c b' e why → HdusStop primary a c b e why
units_stop primary a a' c b b' e header other shape other_shape len other_len (pair.First why) p q stops = stops_in_unit primary a a' c len header shape why p.taken p.whole p.described p.size stops
units_stop primary a a' c b b' e header other shape other_shape len other_len (pair.Second why) p q stops = stops_in_unit primary b b' e other_len other other_shape why q.taken q.whole q.described q.size stops
units_stop primary a a' c b b' e header other shape other_shape len other_len pair.Memory p q stops = tt
