-- Steps of reading an HDU from a source.
use Rattle.std.proofs.Common.{◌≡◌, ℕ, ◌+◌, ◌<◌, Bool, List, ◌++◌, length, refl, ap, ◌∙◌, append_assoc, arith}
use Rattle.std.proofs.lemmas.List.{length-append}
use Rattle.std.specs.Prelude.{Ok, Err, IsErrOf}
use Rattle.fits_card.specs.Header.{Header, IsHeader, header_bytes}
use Rattle.fits_card.specs.HeaderReading.{HeaderStops}
use Rattle.fits_stream.specs.Intake.{IsOver, IsSpent, Supply, Takes, TakingStops}
use Rattle.fits_card.specs.declared.header_reading.ReadHeaderFault.{ReadHeaderFault}
use Rattle.fits_card.specs.declared.header_reading.ReadHeaderFault.TheVariants as header_fault
use Rattle.fits_stream.specs.declared.reading.ReadFault.{ReadFault}
use Rattle.fits_stream.specs.declared.reading.ReadFault.TheVariants as read_fault
use Rattle.fits_stream.proofs.GaveLemmas.{finds_all_begun, finds_all_spent}
use Rattle.fits_stream.proofs.SightLemmas.{takes_more, takes_quiet, takes_then_fails, takes_then_quiet}
use Rattle.fits_rules.specs.Class.{is_primary}
use Rattle.fits_rules.specs.Shape.{shape_of}
use Rattle.fits_rules.specs.Size.{data_length}
use Rattle.fits_rules.specs.declared.array_shape.Shape.{Shape}
use Rattle.fits_rules.specs.declared.mandatory.ShapeFault.{ShapeFault}
use Rattle.fits_rules.specs.declared.mandatory.ShapeFault.TheVariants as shape_fault
use Rattle.fits_rules.proofs.LawLemmas.{shape_primary}
use Rattle.fits_passing.specs.declared.hdu_fault.HduFault.{HduFault}
use Rattle.fits_passing.specs.declared.hdu_fault.HduFault.TheVariants.{BadShape, Memory, NoEnd, ShortData}
use Rattle.fits_passing.specs.declared.read_hdu_fault.ReadHduFault.{ReadHduFault}
use Rattle.fits_passing.specs.declared.read_hdu_fault.ReadHduFault.TheVariants.{Failed, Hdu}
use Rattle.fits_passing.specs.Hdu.{HasHduFault, HduParts, IsHdu, hdu_bytes}
use Rattle.fits_passing.specs.Passing.{UnitStops}
use Rattle.fits_passing.specs.HduReading.{HduStops, IsOutlined, IsPassed, TakesHdu, of_read, of_read_header, of_read_shape}

-- there is no header, or memory was refused, or a call failed
pub stops_by_header : (primary : Bool) (a b : Supply) (fault : ReadHeaderFault) → HeaderStops a b fault → HduStops primary a b (of_read_header fault)
stops_by_header primary a b header_fault.NoEnd p = p
stops_by_header primary a b header_fault.Memory p = p
stops_by_header primary a b header_fault.Failed p = p

-- the cards break a rule, or memory was refused
pub stops_by_shape : (primary : Bool) (a b : Supply) (header : Header) (fault : ShapeFault) → Takes a b (header_bytes header) → IsHeader header
    → ((place : ℕ) → IsErrOf {T = Shape} {E = ShapeFault} (Err fault) (shape_fault.Bad place) → shape_of primary header.cards ≡ Err place)
    → HduStops primary a b (of_read_shape fault)
stops_by_shape primary a b header (shape_fault.Bad place) p whole broken =
    finds_all_begun (λ bytes. HasHduFault primary bytes (BadShape place)) a b (header_bytes header) p
    (λ rest le. record { header = header; rest = b.ahead ++ rest; cut = record { whole = whole; joined = refl }; broken = broken place refl })
stops_by_shape primary a b header shape_fault.Memory p whole broken = takes_quiet a b (header_bytes header) p

-- the data unit is longer than what may be taken
pub stops_far : (primary : Bool) (a b : Supply) (header : Header) (shape : Shape) (why : HduFault) → Takes a b (header_bytes header) → IsHeader header → shape_of primary header.cards ≡ Ok shape
    → length b.ahead + b.left < data_length shape → why ≡ ShortData → HduStops primary a b (Hdu why)
stops_far primary a b header shape why p whole described short is =
    rw is (finds_all_begun (λ bytes. HasHduFault primary bytes ShortData) a b (header_bytes header) p
    (λ rest le. record { header = header; rest = b.ahead ++ rest; shape = shape; cut = record { whole = whole; joined = refl }; described = described; short = omega (arith, le, short, length-append b.ahead rest) }))

-- or than what was left
pub stops_near : (primary : Bool) (a b c : Supply) (header : Header) (shape : Shape) (unit : List ℕ) → Takes a b (header_bytes header) → IsHeader header → shape_of primary header.cards ≡ Ok shape
    → Takes b c unit → IsSpent c → length unit + length c.ahead < data_length shape → HduStops primary a c (Hdu ShortData)
stops_near primary a b c header shape unit p whole described q spent short =
    finds_all_spent (λ bytes. HasHduFault primary bytes ShortData) a c (header_bytes header ++ unit) (takes_more a b c (header_bytes header) unit p q) spent
    (record {
      header = header;
      rest = unit ++ c.ahead;
      shape = shape;
      cut = record { whole = whole; joined = append_assoc (header_bytes header) unit c.ahead };
      described = described;
      short = omega (arith, short, length-append unit c.ahead);
    })

-- or than all there was
pub stops_over : (primary : Bool) (a b c : Supply) (header : Header) (shape : Shape) (unit : List ℕ) → Takes a b (header_bytes header) → IsHeader header → shape_of primary header.cards ≡ Ok shape
    → Takes b c unit → IsOver c → length unit < data_length shape → HduStops primary a c (Hdu ShortData)
stops_over primary a b c header shape unit p whole described q over short =
    stops_near primary a b c header shape unit p whole described q over.spent (omega (arith, short, ap length over.none))

-- after the header memory for the data unit was refused, or a call failed
pub stops_by_unit : (primary : Bool) (a b c : Supply) (bytes : List ℕ) (fault : ReadFault) → Takes a b bytes → TakingStops b.source c.source fault → HduStops primary a c (of_read fault)
stops_by_unit primary a b c bytes read_fault.Memory p q = takes_then_quiet a b c.source bytes p q
stops_by_unit primary a b c bytes read_fault.Failed p q = takes_then_fails a b c.source bytes p q

-- after the header its data unit wasn't taken
pub stops_in_unit : (primary : Bool) (a b c : Supply) (len : ℕ) (header : Header) (shape : Shape) (why : ReadHduFault) → Takes a b (header_bytes header) → IsHeader header → shape_of primary header.cards ≡ Ok shape → len ≡ data_length shape
    → UnitStops len b c why → HduStops primary a c why
stops_in_unit primary a b c len header shape (Hdu ShortData) p whole described unit q = stops_near primary a b c header shape q.bytes p whole described q.taken q.spent (omega (arith, q.short, unit))
stops_in_unit primary a b c len header shape (Hdu NoEnd) p whole described unit q = absurd q
stops_in_unit primary a b c len header shape (Hdu (BadShape place)) p whole described unit q = absurd q
stops_in_unit primary a b c len header shape (Hdu Memory) p whole described unit q = absurd q
stops_in_unit primary a b c len header shape Failed p whole described unit q = takes_then_fails a b c.source (header_bytes header) p q

pub ruleset described_steps = (stops_by_header, stops_by_shape, stops_far)

-- the header, and then the data unit
pub hdu_taken : (a b c : Supply) (header : Header) (unit : List ℕ) → Takes a b (header_bytes header) → Takes b c unit
    → Takes a c (hdu_bytes (record { header = header; data_unit = unit }))
hdu_taken a b c header unit p q = takes_more a b c (header_bytes header) unit p q

-- a header, and data as long as it describes, are an HDU
pub hdu_whole : (primary : Bool) (header : Header) (shape : Shape) (unit : List ℕ) → IsHeader header → shape_of primary header.cards ≡ Ok shape → length unit ≡ data_length shape
    → IsHdu primary (record { header = header; data_unit = unit })
hdu_whole primary header shape unit whole described size = record { shape = shape; header = whole; described = described; size = size }

-- after the header its data unit was taken, and of both something is kept
pub hdu_comes : (keeps : HduParts → Type 0) (primary : Bool) (a b c : Supply) (len : ℕ) (header : Header) (shape : Shape) (unit : List ℕ) → Takes a b (header_bytes header) → IsHeader header → shape_of primary header.cards ≡ Ok shape
    → len ≡ data_length shape → Takes b c unit → length unit ≡ len → keeps (record { header = header; data_unit = unit }) → TakesHdu keeps primary a c
hdu_comes keeps primary a b c len header shape unit p whole described is q size kept = record {
  hdu = record { header = header; data_unit = unit };
  kept = kept;
  whole = hdu_whole primary header shape unit whole described (size ∙ is);
  taken = hdu_taken a b c header unit p q;
}

-- a shape that cards describe is one of theirs wherever it stands
pub described_so : (primary : Bool) (cards : List (List ℕ)) (shape : Shape) → shape_of primary cards ≡ Ok shape → shape_of (is_primary shape.class) cards ≡ Ok shape
described_so primary cards shape described = rw (shape_primary primary cards shape described) described

pub ruleset read_steps = (shape_primary, hdu_taken, hdu_whole, stops_by_unit)

-- what is kept of an HDU that passed
pub hdu_kept : (keeps keeps' : HduParts → Type 0) (primary : Bool) (a b : Supply) → TakesHdu keeps primary a b → ((hdu : HduParts) → keeps hdu → keeps' hdu) → TakesHdu keeps' primary a b
hdu_kept keeps keeps' primary a b p f = record { hdu = p.hdu; kept = f p.hdu p.kept; whole = p.whole; taken = p.taken }

-- its outline
pub outline_kept : (primary : Bool) (a b : Supply) (count cards size : ℕ) (header : Header) (shape : Shape) → TakesHdu (λ hdu. IsPassed hdu header shape count) primary a b → cards ≡ length header.cards → size ≡ length (header_bytes header)
    → TakesHdu (λ hdu. IsOutlined hdu cards shape size count) primary a b
outline_kept primary a b count cards size header shape p m n =
    hdu_kept (λ hdu. IsPassed hdu header shape count) (λ hdu. IsOutlined hdu cards shape size count) primary a b p
    (λ hdu it. record { count = rw it.same m; described = rw it.same it.described; header = rw it.same n; unit = it.unit })

pub ruleset outline_steps = (outline_kept)
