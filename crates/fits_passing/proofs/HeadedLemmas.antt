-- The cards of a header, whether the rest of its HDU can be read or not.
use Rattle.std.proofs.Common.{◌≡◌, ℕ, ◌+◌, ◌<◌, Bool, List, ◌++◌, length, refl, ap, ◌∙◌, append_assoc, subst, arith, inl}
use Rattle.std.proofs.lemmas.List.{length-append}
use Rattle.std.specs.Prelude.{Ok, Err}
use Rattle.fits_card.specs.Header.{Header, AreFrontCards, IsHeader, header_bytes, joined_cards}
use Rattle.fits_card.specs.CardList.{CardStore}
use Rattle.fits_card.specs.HeaderReading.{FrontComes, IsCut}
use Rattle.fits_card.specs.declared.header_front.HeaderFront.{HeaderFront}
use Rattle.fits_card.specs.declared.header_front.HeaderFront.TheVariants.{Whole}
use Rattle.fits_stream.specs.Gave.{FindsAll}
use Rattle.fits_stream.specs.Intake.{Supply, Takes}
use Rattle.fits_stream.proofs.GaveLemmas.{finds_all_begun, finds_all_spent, finds_then}
use Rattle.fits_stream.proofs.SightLemmas.{takes_more}
use Rattle.fits_rules.specs.Shape.{shape_of}
use Rattle.fits_rules.specs.Size.{data_length}
use Rattle.fits_rules.specs.declared.array_shape.Shape.{Shape}
use Rattle.fits_passing.specs.declared.hdu_fault.HduFault.{HduFault}
use Rattle.fits_passing.specs.declared.hdu_fault.HduFault.TheVariants.{BadShape, Memory, NoEnd, ShortData}
use Rattle.fits_passing.specs.declared.read_hdu_fault.ReadHduFault.TheVariants.{Hdu}
use Rattle.fits_passing.specs.Passing.{TakesFewer, UnitStops}
use Rattle.fits_passing.specs.HduReading.{FailsAfter}

-- the cards of a header stand before its END
header_ends : (header : Header) (rest : List ℕ) → IsHeader header → AreFrontCards (header_bytes header ++ rest) header.cards
header_ends header rest whole = inl (record {
  end = header.end;
  more = header.fill ++ rest;
  inner = whole.cards;
  end_size = whole.end_size;
  ends = whole.ends;
  joined = append_assoc (joined_cards header.cards) (header.end ++ header.fill) rest ∙ ap (λ t. joined_cards header.cards ++ t) (append_assoc header.end header.fill rest);
})

-- a header that came
pub whole_comes : (a b : Supply) (front : HeaderFront) (list : CardStore) → FrontComes a b front → front ≡ Whole list → Takes a b (header_bytes list.header) × IsHeader list.header × (list.reads ≡ 0)
whole_comes a b front list p is = subst (FrontComes a b) is p

-- the cards break a rule
pub head_broken : (primary : Bool) (a b : Supply) (header : Header) (cards : List (List ℕ)) (place : ℕ) → Takes a b (header_bytes header) → IsHeader header → shape_of primary header.cards ≡ Err place → cards ≡ header.cards
    → FindsAll a b (FailsAfter primary cards (BadShape place))
head_broken primary a b header cards place p whole broken same =
    finds_all_begun (FailsAfter primary cards (BadShape place)) a b (header_bytes header) p (λ s le. record {
      fault = record { header = header; rest = b.ahead ++ s; cut = record { whole = whole; joined = refl }; broken = broken };
      front = rw same (header_ends header (b.ahead ++ s) whole);
    })

-- the data unit is longer than what may be taken
pub head_far : (primary : Bool) (a b : Supply) (header : Header) (cards : List (List ℕ)) (shape : Shape) (why : HduFault) → Takes a b (header_bytes header) → IsHeader header → shape_of primary header.cards ≡ Ok shape
    → length b.ahead + b.left < data_length shape → cards ≡ header.cards → why ≡ ShortData → FindsAll a b (FailsAfter primary cards why)
head_far primary a b header cards shape why p whole described short same is =
    rw is (finds_all_begun (FailsAfter primary cards ShortData) a b (header_bytes header) p (λ s le. record {
      fault = record { header = header; rest = b.ahead ++ s; shape = shape; cut = record { whole = whole; joined = refl }; described = described; short = omega (arith, le, short, length-append b.ahead s) };
      front = rw same (header_ends header (b.ahead ++ s) whole);
    }))

-- or than what there was
head_short : (primary : Bool) (a b c : Supply) (len : ℕ) (header : Header) (cards : List (List ℕ)) (shape : Shape) → Takes a b (header_bytes header) → IsHeader header → shape_of primary header.cards ≡ Ok shape
    → len ≡ data_length shape → TakesFewer b c len → cards ≡ header.cards → FindsAll a c (FailsAfter primary cards ShortData)
head_short primary a b c len header cards shape p whole described is q same =
    finds_all_spent (FailsAfter primary cards ShortData) a c (header_bytes header ++ q.bytes) (takes_more a b c (header_bytes header) q.bytes p q.taken) q.spent (record {
      fault = record {
        header = header;
        rest = q.bytes ++ c.ahead;
        shape = shape;
        cut = record { whole = whole; joined = append_assoc (header_bytes header) q.bytes c.ahead };
        described = described;
        short = omega (arith, q.short, is, length-append q.bytes c.ahead);
      };
      front = rw (same, append_assoc) (header_ends header (q.bytes ++ c.ahead) whole);
    })

-- so its data unit wasn't taken
pub head_stops : (primary : Bool) (a b c : Supply) (len : ℕ) (header : Header) (cards : List (List ℕ)) (shape : Shape) (why : HduFault) → Takes a b (header_bytes header) → IsHeader header → shape_of primary header.cards ≡ Ok shape
    → len ≡ data_length shape → UnitStops len b c (Hdu why) → cards ≡ header.cards → FindsAll a c (FailsAfter primary cards why)
head_stops primary a b c len header cards shape ShortData p whole described is q same = head_short primary a b c len header cards shape p whole described is q same
head_stops primary a b c len header cards shape NoEnd p whole described is q same = absurd q
head_stops primary a b c len header cards shape (BadShape place) p whole described is q same = absurd q
head_stops primary a b c len header cards shape Memory p whole described is q same = absurd q

-- the header doesn't end
pub head_cut : (primary : Bool) (a b : Supply) (found cards : List (List ℕ)) → FindsAll a b (IsCut found) → cards ≡ found → FindsAll a b (FailsAfter primary cards NoEnd)
head_cut primary a b found cards p same =
    finds_then (IsCut found) (FailsAfter primary cards NoEnd) a b p (λ s cut. record { fault = cut.none; front = rw same cut.front })
