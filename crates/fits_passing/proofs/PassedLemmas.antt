-- An HDU that was met, whose data unit passes by or stays unread.
use Rattle.std.proofs.Common.{◌≡◌, ◌≤◌, ℕ, ◌+◌, Bool, length, true, ◌∙◌}
use Rattle.std.specs.Prelude.{Ok}
use Rattle.fits_card.specs.Header.{Header, IsHeader, header_bytes}
use Rattle.fits_stream.specs.Intake.{Supply, Takes}
use Rattle.fits_stream.proofs.SightLemmas.{takes_more}
use Rattle.fits_rules.specs.Shape.{shape_of}
use Rattle.fits_rules.specs.Size.{data_length}
use Rattle.fits_rules.specs.declared.array_shape.Shape.{Shape}
use Rattle.fits_rules.proofs.LawLemmas.{shape_primary}
use Rattle.fits_header.specs.State.{HeaderState}
use Rattle.fits_unit.specs.DataUnit.{away_plane, is_passed, passed_blank}
use Rattle.fits_unit.specs.declared.away_unit.AwayUnit.{AwayUnit}
use Rattle.fits_passing.specs.Layout.{layout_of}
use Rattle.fits_passing.specs.Met.{passed_bytes, MeetsHdu}
use Rattle.fits_passing.specs.Work.{apply_reads, open_reads}

-- its header was taken, and then its data unit, where it passed by
pub hdu_met : (primary : Bool) (a b c : Supply) (len : ℕ) (before : Header) (shape : Shape) (header : HeaderState) (unit : AwayUnit) → Takes a b (header_bytes before) → IsHeader before → shape_of primary before.cards ≡ Ok shape
    → len ≡ data_length shape → header.header ≡ before → header.shape ≡ shape → Takes b c (passed_bytes unit) → length (away_plane unit).bytes ≡ len → (away_plane unit).layout ≡ layout_of shape before.cards
    → (is_passed unit ≡ true → passed_blank unit ≡ (away_plane unit).layout.blank) → header.reads + apply_reads ≤ open_reads before.cards + 1 → MeetsHdu header unit primary a c
hdu_met primary a b c len before shape header unit p whole described of_len same shaped q size layout blank reads = record {
  met = record {
    described = rw (same, shaped, shape_primary primary before.cards shape described) described;
    size = rw shaped (size ∙ of_len);
    layout = rw (same, shaped) layout;
    blank = blank;
    reads = rw same reads;
  };
  whole = rw same whole;
  described = rw (same, shaped) described;
  taken = rw same (takes_more a b c (header_bytes before) (passed_bytes unit) p q);
}
