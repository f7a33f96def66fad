-- The headers of a source, as far as they can be read.
use Rattle.std.proofs.Common.{◌≡◌, ℕ, ◌+◌, ◌<◌, ◌≤◌, Bool, true, false, List, [], ◌∷◌, ◌++◌, length, refl, subst, ap, sym, ◌∙◌, arith, Option, Some, None, IfSome, inl, inr}
use Rattle.std.specs.Prelude.{nat_eq, IsTrue, ◌↔◌}
use Rattle.std.proofs.lemmas.Bool.{cases_lt}
use Rattle.std.proofs.lemmas.List.{append-nil, length-append, map-append}
use Rattle.std.specs.Io.KnownBytes.{Consumes}
use Rattle.fits_card.specs.CardList.{CardStore}
use Rattle.fits_stream.specs.Gave.{FindsAll, Overruns}
use Rattle.fits_stream.specs.Intake.{supply, IntakeState, IsSpent, Supply, Takes, TakingStops}
use Rattle.fits_stream.specs.Stream.{IsDry, SourceState, StaysQuiet}
use Rattle.fits_stream.proofs.GaveLemmas.{finds, finds_all_begun, finds_all_next, finds_all_spent, finds_then, found_gave, long_gave}
use Rattle.fits_stream.proofs.SightLemmas.{past_limit, within_limit, takes_quiet, takes_then_quiet, takes_then_fails}
use Rattle.fits_passing.specs.Hdu.{HduParts, hdu_bytes}
use Rattle.fits_passing.specs.HduReading.{CardsCome, FailsAfter, TakesHdu}
use Rattle.fits_passing.specs.declared.hdu_fault.HduFault.{HduFault}
use Rattle.fits_passing.specs.declared.hdu_fault.HduFault.TheVariants as hdu_fault
use Rattle.fits_stream.specs.declared.reading.ReadFault.{ReadFault}
use Rattle.fits_stream.specs.declared.reading.ReadFault.TheVariants as read_fault
use Rattle.fits_passing.specs.File.{begins_extension, is_first, joined_hdus, IsFrontOf}
use Rattle.fits_passing.specs.declared.limits.TheConstants.{FILE_LIMIT, HDU_LIMIT}
use Rattle.fits_passing.specs.Headers.{cards_of, read_cards, AreHeadersIn, ShowsHeaders, StopsBy, StopsHere}
use Rattle.fits_passing.specs.Opening.{HasOpenFault, open_fault_of}
use Rattle.fits_passing.specs.Reading.{KeepsEach, NextBegins, Walked}
use Rattle.fits_passing.specs.declared.open_fault.OpenFault.{OpenFault}
use Rattle.fits_passing.specs.declared.open_fault.OpenFault.TheVariants.{NotFits, TooLarge}
use Rattle.fits_passing.proofs.FrontLemmas.{front_begins, front_none, goes_on-some}
use Rattle.fits_passing.proofs.WalkLemmas.{each_length, extension_more, extension_same, few_after, first_of, front_rest, next_on}

-- a header is that of its HDU
abbrev pub is_header : CardStore → HduParts → Type 0
is_header list hdu = list.header.cards ≡ hdu.header.cards

-- headers one by one are those of their HDUs
each_cards : (ks : List CardStore) (us : List HduParts) → KeepsEach is_header ks us → read_cards ks ≡ cards_of us
each_cards [] [] p = refl
each_cards [] (u ∷ us) p = absurd p
each_cards (k ∷ ks) [] p = absurd p
each_cards (k ∷ ks) (u ∷ us) p = rw (p.0, each_cards ks us p.1) refl

-- bytes that don't begin as a file have no header
none_shown : (bytes : List ℕ) → HasOpenFault bytes NotFits → AreHeadersIn [] (Some NotFits) bytes
none_shown bytes p = record {
  hdus = [];
  rest = bytes;
  last = [];
  size = p.0;
  front = front_none bytes;
  begins = λ some. absurd (omega (arith, some));
  count = omega arith;
  stops = (refl, p.1, refl);
  are = refl;
}

-- so none is shown
pub headers_none : (ks : List CardStore) (a b : Supply) → ks ≡ [] → FindsAll a b (λ bytes. HasOpenFault bytes NotFits) → FindsAll a b (AreHeadersIn (read_cards ks) (Some NotFits))
headers_none ks a b none f = rw none (finds_then (λ bytes. HasOpenFault bytes NotFits) (AreHeadersIn [] (Some NotFits)) a b f none_shown)

-- one more is still few
pub few_more : (n m : ℕ) → n < HDU_LIMIT → m ≡ n + 1 → (m ≡ HDU_LIMIT → ⊥) → m < HDU_LIMIT
few_more n m few is full = elim (cases_lt m HDU_LIMIT) [ inl less ↦ less | inr more ↦ absurd (full (omega (arith, few, is, more))) ]

-- one header more
read_more : (ks new : List CardStore) (k : CardStore) → new ≡ ks ++ k ∷ [] → read_cards new ≡ read_cards ks ++ k.header.cards ∷ []
read_more ks new k is = ap read_cards is ∙ map-append (λ (list : CardStore). list.header.cards) ks (k ∷ [])

-- an HDU that can't be read is shown by its fault
stops_by : (us : List HduParts) (rest : List ℕ) (last : List (List (List ℕ))) (h : ℕ) (why : HduFault) → StopsHere us rest last h why → StopsBy us rest last (Some (open_fault_of why h))
stops_by us rest last h hdu_fault.NoEnd p = p
stops_by us rest last h (hdu_fault.BadShape place) p = p
stops_by us rest last h hdu_fault.ShortData p = p
stops_by us rest last h hdu_fault.Memory p = absurd (p.here.fault)

-- of an HDU that can't be read, after others, the cards before END are shown
stops_shown : (us : List HduParts) (first s : List ℕ) (cards : List (List ℕ)) (all : List (List (List ℕ))) (h : ℕ) (why : HduFault) → length (joined_hdus us ++ (first ++ s)) ≤ FILE_LIMIT → IsFrontOf (joined_hdus us) us [] → NextBegins (is_first us) first → length us < HDU_LIMIT
    → h ≡ length us + 1 → all ≡ cards_of us ++ cards ∷ [] → FailsAfter (is_first us) cards why (first ++ s) → AreHeadersIn all (Some (open_fault_of why h)) (joined_hdus us ++ (first ++ s))
stops_shown us first s cards all h why size front begins few at is fails =
    let on = next_on us first s begins front in
    record {
      hdus = us;
      rest = first ++ s;
      last = cards ∷ [];
      size = size;
      front = front_rest us (first ++ s) front;
      begins = λ some. on.1;
      count = omega (arith, few);
      stops = stops_by us (first ++ s) (cards ∷ []) h why (record { cards = cards; more = on.0; few = few; here = fails; at = at; last_is = refl });
      are = is;
    }

-- an HDU came
pub cards_whole : (primary : Bool) (k : CardStore) (fault : Option HduFault) (a b : Supply) → CardsCome primary k.header.cards fault a b → fault ≡ None → TakesHdu (is_header k) primary a b
cards_whole primary k fault a b p none = subst (λ f. CardsCome primary k.header.cards f a b) none p

-- or none did
pub cards_cut : (primary : Bool) (k : CardStore) (fault : Option HduFault) (why : HduFault) (a b : Supply) → CardsCome primary k.header.cards fault a b → fault ≡ Some why → FindsAll a b (FailsAfter primary k.header.cards why)
cards_cut primary k fault why a b p some = subst (λ f. CardsCome primary k.header.cards f a b) some p

-- so the walk over headers ends
pub headers_stop : (ks new : List CardStore) (k : CardStore) (a b c : Supply) (h : ℕ) (primary : Bool) (why : HduFault) (found : OpenFault) → length a.ahead + a.left ≤ FILE_LIMIT → Walked is_header ks a b → NextBegins (nat_eq (length ks) 0) b.ahead → length ks < HDU_LIMIT
    → primary ≡ nat_eq (length ks) 0 → new ≡ ks ++ k ∷ [] → h ≡ length new → found ≡ open_fault_of why h → FindsAll b c (FailsAfter primary k.header.cards why) → FindsAll a c (AreHeadersIn (read_cards new) (Some found))
headers_stop ks new k a b c h primary why found limit p begins few at is place same f =
    let us = p.hdus in
    let count : length ks ≡ length us = each_length is_header ks us p.each in
    let same_first : nat_eq (length ks) 0 ≡ is_first us = first_of is_header ks us p.each in
    let next : NextBegins (is_first us) b.ahead = subst (λ (b' : Bool). NextBegins b' b.ahead) same_first begins in
    let here : FindsAll b c (FailsAfter (is_first us) k.header.cards why) = subst (λ (b' : Bool). FindsAll b c (FailsAfter b' k.header.cards why)) (at ∙ same_first) f in
    let shown : read_cards new ≡ cards_of us ++ k.header.cards ∷ [] = read_more ks new k is ∙ ap (λ t. t ++ k.header.cards ∷ []) (each_cards ks us p.each) in
    let number : h ≡ length us + 1 = omega (arith, place, count, ap length is, length-append ks (k ∷ [])) in
    rw same (finds_all_next (FailsAfter (is_first us) k.header.cards why) (AreHeadersIn (read_cards new) (Some (open_fault_of why h))) a b c (joined_hdus us) p.taken here
    (λ s le fails. stops_shown us b.ahead s k.header.cards (read_cards new) h why (few_after a b (joined_hdus us) s p.taken limit le) p.front next (omega (arith, few, count)) number shown fails))

-- HDUs after which none must stand are shown whole
all_shown : (us : List HduParts) (rest : List ℕ) (all : List (List (List ℕ))) (fault : Option OpenFault) → 0 < length us → length us ≤ HDU_LIMIT → length (joined_hdus us ++ rest) ≤ FILE_LIMIT → IsFrontOf (joined_hdus us) us [] → all ≡ cards_of us
    → StopsBy us rest [] fault → AreHeadersIn all fault (joined_hdus us ++ rest)
all_shown us rest all fault some few size front is stops = record {
  hdus = us;
  rest = rest;
  last = [];
  size = size;
  front = front_rest us rest front;
  begins = λ more. front_begins (joined_hdus us ++ rest) us rest (front_rest us rest front) some;
  count = few;
  stops = stops;
  are = is ∙ sym (append-nil (cards_of us));
}

-- no further HDU begins: those of a file are shown
pub headers_whole : (ks : List CardStore) (a b : Supply) → length a.ahead + a.left ≤ FILE_LIMIT → Walked is_header ks a b → 0 < length ks → length ks ≤ HDU_LIMIT → begins_extension b.ahead ≡ false → (length b.ahead < 2880 → IsSpent b)
    → FindsAll a b (AreHeadersIn (read_cards ks) None)
headers_whole ks a b limit p some few ends short =
    let us = p.hdus in
    let count : length ks ≡ length us = each_length is_header ks us p.each in
    let are : read_cards ks ≡ cards_of us = each_cards ks us p.each in
    elim (cases_lt (length b.ahead) 2880) [
      | inl less ↦ finds_all_spent (AreHeadersIn (read_cards ks) None) a b (joined_hdus us) p.taken (short less)
          (all_shown us b.ahead (read_cards ks) None (omega (arith, some, count)) (omega (arith, few, count)) (subst (λ t. length (joined_hdus us ++ t) ≤ FILE_LIMIT) (append-nil b.ahead) (few_after a b (joined_hdus us) [] p.taken limit (omega arith))) p.front are
          (goes_on-some us b.ahead (omega (arith, some, count)) ∙ ends, refl))
      | inr many ↦ finds_all_begun (AreHeadersIn (read_cards ks) None) a b (joined_hdus us) p.taken
          (λ s le. all_shown us (b.ahead ++ s) (read_cards ks) None (omega (arith, some, count)) (omega (arith, few, count)) (few_after a b (joined_hdus us) s p.taken limit le) p.front are
          (goes_on-some us (b.ahead ++ s) (omega (arith, some, count)) ∙ (extension_same b.ahead s (inr (omega (arith, many))) ∙ ends), refl))
    ]

-- one begins after as many as a file may have: those are shown
pub headers_full : (ks : List CardStore) (a b : Supply) → length a.ahead + a.left ≤ FILE_LIMIT → Walked is_header ks a b → length ks ≡ HDU_LIMIT → begins_extension b.ahead ≡ true → FindsAll a b (AreHeadersIn (read_cards ks) (Some TooLarge))
headers_full ks a b limit p all more =
    let us = p.hdus in
    let count : length us ≡ HDU_LIMIT = omega (arith, each_length is_header ks us p.each, all) in
    finds_all_begun (AreHeadersIn (read_cards ks) (Some TooLarge)) a b (joined_hdus us) p.taken
    (λ s le. all_shown us (b.ahead ++ s) (read_cards ks) (Some TooLarge) (omega (arith, count)) (omega (arith, count)) (few_after a b (joined_hdus us) s p.taken limit le) p.front (each_cards ks us p.each)
    (count, extension_more b.ahead s more, refl))

-- how many bytes a source had, by what was taken and what is left
left_in : (x y : Option (List ℕ)) (more : List ℕ) (P Q : ℕ → Type 0) → Consumes x y more → IfSome y (λ bytes. P (length bytes)) → ((n : ℕ) → P n → Q (length more + n)) → IfSome x (λ bytes. Q (length bytes))
left_in None y more P Q p few next = tt
left_in (Some xs) None more P Q p few next = absurd p
left_in (Some xs) (Some ys) more P Q p few next = subst Q (sym (ap length p ∙ length-append more ys)) (next (length ys) few)

-- more is left where a test says so
pub over_when : (a : Option (List ℕ)) (left : ℕ) (more : Bool) → more ≡ true → IfSome a (λ xs. IsTrue more ↔ (left < length xs)) → IfSome a (λ xs. left < length xs)
over_when a left more is p = past_limit a left (subst (λ b. IfSome a (λ xs. IsTrue b ↔ (left < length xs))) is p)

-- and no more where it says not
pub within_when : (a : Option (List ℕ)) (left : ℕ) (more : Bool) → more ≡ false → IfSome a (λ xs. IsTrue more ↔ (left < length xs)) → IfSome a (λ xs. length xs ≤ left)
within_when a left more is p = within_limit a left (subst (λ b. IfSome a (λ xs. IsTrue b ↔ (left < length xs))) is p)

-- what was found stays where no more is left than may be taken
pub headers_stay : (old new : SourceState) (b : Supply) (i : IntakeState) (headers : List (List (List ℕ))) (found : Option OpenFault) → i ≡ record { ahead = []; left = FILE_LIMIT } → FindsAll (supply old i) b (AreHeadersIn headers found)
    → IfSome b.source.remaining (λ bytes. length bytes ≤ b.left) → Overruns b.left false b.source new → IsDry new → ShowsHeaders old new headers found
headers_stay old new b i headers found is f few rest dry =
    let first : Supply = record { ahead = []; source = old; left = FILE_LIMIT } in
    let g : FindsAll first b (AreHeadersIn headers found) = subst (λ (j : IntakeState). FindsAll (supply old j) b (AreHeadersIn headers found)) is f in
    let seen = finds (AreHeadersIn headers found) first b g in
    record {
      found = found;
      bytes = seen.sight;
      first = seen.in_sight;
      are = seen.is;
      fault_is = inl (refl, left_in old.remaining b.source.remaining g.taken.more (λ n. n ≤ b.left) (λ n. n ≤ FILE_LIMIT) g.taken.drawn.read.gone few (λ n le. omega (arith, le, g.taken.drawn.count)));
      gave = inl (refl, found_gave (AreHeadersIn headers found) first b new refl g rest dry);
    }

-- and is another where more is
pub headers_over : (old new : SourceState) (b : Supply) (i : IntakeState) (headers : List (List (List ℕ))) (found : Option OpenFault) → i ≡ record { ahead = []; left = FILE_LIMIT } → FindsAll (supply old i) b (AreHeadersIn headers found)
    → IfSome b.source.remaining (λ bytes. b.left < length bytes) → Overruns b.left true b.source new → ShowsHeaders old new headers (Some TooLarge)
headers_over old new b i headers found is f many rest =
    let first : Supply = record { ahead = []; source = old; left = FILE_LIMIT } in
    let g : FindsAll first b (AreHeadersIn headers found) = subst (λ (j : IntakeState). FindsAll (supply old j) b (AreHeadersIn headers found)) is f in
    let seen = finds (AreHeadersIn headers found) first b g in
    record {
      found = found;
      bytes = seen.sight;
      first = seen.in_sight;
      are = seen.is;
      fault_is = inr (refl, left_in old.remaining b.source.remaining g.taken.more (λ n. b.left < n) (λ n. FILE_LIMIT < n) g.taken.drawn.read.gone many (λ n less. omega (arith, less, g.taken.drawn.count)));
      gave = inr (refl, long_gave FILE_LIMIT first b new g.bytes refl (omega arith) g.taken rest);
    }

-- the cards of an HDU come without a failed call
pub cards_quiet : (primary : Bool) (cards : List (List ℕ)) (fault : Option HduFault) (a b : Supply) → CardsCome primary cards fault a b → StaysQuiet a.source b.source
cards_quiet primary cards None a b p = takes_quiet a b (hdu_bytes p.hdu) p.taken
cards_quiet primary cards (Some why) a b p = takes_quiet a b p.bytes p.taken

-- bytes are taken, and then no more
pub taking_after : (a b : Supply) (c : SourceState) (bytes : List ℕ) (why : ReadFault) → Takes a b bytes → TakingStops b.source c why → TakingStops a.source c why
taking_after a b c bytes read_fault.Memory p stops = takes_then_quiet a b c bytes p stops
taking_after a b c bytes read_fault.Failed p stops = takes_then_fails a b c bytes p stops
