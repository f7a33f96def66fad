-- Steps of a walk over the HDUs of a source.
use Rattle.std.proofs.Common.{◌≡◌, ◌⊎◌, ℕ, ◌+◌, ◌-◌, ◌<◌, ◌≤◌, Bool, true, false, List, [], ◌∷◌, ◌++◌, length, take, refl, subst, ap, sym, ◌∙◌, arith, rules, inl, inr, Option, None, Some}
use Rattle.std.specs.Prelude.{IfSome, nat_eq, not, codes}
use Rattle.std.specs.Io.KnownBytes.{Consumes, IsAtEnd}
use Rattle.std.specs.Str.{bytes_eq}
use Rattle.std.specs.List.{starts_with}
use Rattle.std.proofs.lemmas.Bool.{cases_lt, false≢true}
use Rattle.std.proofs.lemmas.List.{append-nil, length-append, take_all, take-append-le}
use Rattle.std.proofs.lemmas.List.Concat.{flat_map-append}
use Rattle.fits_stream.specs.Gave.{FindsAll, Gave, Overruns}
use Rattle.fits_stream.specs.Intake.{supply, GivesAll, IntakeState, IsLimited, IsSpent, Supply, Takes, TellsAll}
use Rattle.fits_stream.specs.Stream.{FailsOnce, IsDry, SourceState, StaysQuiet}
use Rattle.fits_stream.proofs.GaveLemmas.{finds, finds_all_begun, finds_all_next, finds_all_spent, found_gave, gave, gave_then, long_gave, overruns_known, overruns_quiet}
use Rattle.fits_stream.proofs.SightLemmas.{finds_given, long_given, rest_given, takes_and_holds, takes_fewer, takes_more, takes_quiet, takes_then_fails, takes_then_quiet, tells_after, within_limit}
use Rattle.fits_stream.proofs.StreamLemmas.{Reads-none}
use Rattle.fits_passing.specs.Hdu.{HduParts, HasHduFault, IsHdu, hdu_bytes}
use Rattle.fits_passing.specs.HduReading.{HduStops, TakesHdu}
use Rattle.fits_passing.specs.declared.hdu_fault.HduFault.{HduFault}
use Rattle.fits_passing.specs.declared.hdu_fault.HduFault.TheVariants as hdu_fault
use Rattle.fits_passing.specs.declared.read_hdu_fault.ReadHduFault.{ReadHduFault}
use Rattle.fits_passing.specs.declared.read_hdu_fault.ReadHduFault.TheVariants as read_hdu
use Rattle.fits_passing.specs.File.{begins_extension, goes_on, is_first, is_followed, joined_hdus, IsFileOf, IsFrontOf}
use Rattle.fits_passing.specs.declared.limits.TheConstants.{FILE_LIMIT, HDU_LIMIT}
use Rattle.fits_passing.specs.Opening.{BeginsAsFits, HasOpenFault, open_fault_of}
use Rattle.fits_passing.specs.Reading.{file_fault_of, is_of_bytes, IsKeptOf, GaveFault, GaveWhole, IsFresh, IsWalkOf, KeepsEach, NextBegins, ReadStops, RestStops, SupplyStops, Walked, WalkStops}
use Rattle.fits_passing.specs.declared.open_fault.OpenFault.TheVariants.{NotFits, NoEnd, BadShape, ShortData, TooLarge, Memory}
use Rattle.fits_passing.specs.declared.read_file_fault.ReadFileFault.{ReadFileFault}
use Rattle.fits_passing.specs.declared.read_file_fault.ReadFileFault.TheVariants.{Open, Failed}
use Rattle.fits_passing.proofs.FileLemmas.{fault_here}
use Rattle.fits_passing.proofs.FrontLemmas.{front_begins, front_none, front_push, goes_on-some, hdu_long}

-- texts that compare as one are one
bytes_are : (a b : List ℕ) → bytes_eq a b ≡ true → a ≡ b
bytes_are a b e = search rules

-- bytes that begin with a text go on beginning with it
begins_more : (text xs s : List ℕ) (n : ℕ) → length text ≡ n → bytes_eq text (take n xs) ≡ true → bytes_eq text (take n (xs ++ s)) ≡ true
begins_more text xs s n size e =
    let same : length (take n xs) ≡ n = ap length (sym (bytes_are text (take n xs) e)) ∙ size in
    elim (cases_lt (length xs) n) [
      | inl few ↦ absurd (omega (arith, same, few, ap length (take_all n xs (omega (arith, few)))))
      | inr many ↦ ap (bytes_eq text) (take-append-le n xs s many) ∙ e
    ]

-- the first eight bytes of a whole block, or of all there is, are those of all
begins_same : (text xs s : List ℕ) (n : ℕ) → (s ≡ []) ⊎ (n ≤ length xs) → bytes_eq text (take n (xs ++ s)) ≡ bytes_eq text (take n xs)
begins_same text xs s n few = elim few [ inl none ↦ ap (λ t. bytes_eq text (take n (xs ++ t))) none ∙ ap (λ t. bytes_eq text (take n t)) (append-nil xs) | inr many ↦ ap (bytes_eq text) (take-append-le n xs s many) ]

-- what begins an extension does so whatever follows
pub extension_more : (xs s : List ℕ) → begins_extension xs ≡ true → begins_extension (xs ++ s) ≡ true
unfolding begins_extension
extension_more xs s e = begins_more (codes "XTENSION") xs s 8 refl e

-- eight bytes, or all there are, decide it
pub extension_same : (xs s : List ℕ) → (s ≡ []) ⊎ (8 ≤ length xs) → begins_extension (xs ++ s) ≡ begins_extension xs
unfolding begins_extension
extension_same xs s few = begins_same (codes "XTENSION") xs s 8 few

-- HDUs, whatever follows them
pub front_rest : (us : List HduParts) (s : List ℕ) → IsFrontOf (joined_hdus us) us [] → IsFrontOf (joined_hdus us ++ s) us s
front_rest us s p = record { joined = refl; first = p.first; others = p.others }

-- the bytes of HDUs with one more
joined_push : (us : List HduParts) (u : HduParts) → joined_hdus (us ++ u ∷ []) ≡ joined_hdus us ++ hdu_bytes u
joined_push us u = flat_map-append hdu_bytes us (u ∷ []) ∙ ap (λ t. joined_hdus us ++ t) (append-nil (hdu_bytes u))

-- one more
pub front_next : (us : List HduParts) (u : HduParts) → IsFrontOf (joined_hdus us) us [] → IsHdu (is_first us) u → IsFrontOf (joined_hdus (us ++ u ∷ [])) (us ++ u ∷ []) []
front_next us u p whole =
    let q : IsFrontOf (joined_hdus us ++ hdu_bytes u) (us ++ u ∷ []) [] = front_push (joined_hdus us ++ hdu_bytes u) us u (hdu_bytes u) [] (front_rest us (hdu_bytes u) p) (record { whole = whole; joined = sym (append-nil (hdu_bytes u)) }) in
    record { joined = sym (append-nil (joined_hdus (us ++ u ∷ []))); first = q.first; others = q.others }

-- what is kept of one more
pub each_push : {K : Type 0} (keeps : K → HduParts → Type 0) (ks : List K) (us : List HduParts) (k : K) (u : HduParts) → KeepsEach keeps ks us → keeps k u → KeepsEach keeps (ks ++ k ∷ []) (us ++ u ∷ [])
each_push keeps [] [] k u p q = (q, tt)
each_push keeps [] (v ∷ vs) k u p q = absurd p
each_push keeps (l ∷ ls) [] k u p q = absurd p
each_push keeps (l ∷ ls) (v ∷ vs) k u p q = (p.0, each_push keeps ls vs k u p.1 q)

-- as many kept as HDUs
pub each_length : {K : Type 0} (keeps : K → HduParts → Type 0) (ks : List K) (us : List HduParts) → KeepsEach keeps ks us → length ks ≡ length us
each_length keeps [] [] p = refl
each_length keeps [] (v ∷ vs) p = absurd p
each_length keeps (l ∷ ls) [] p = absurd p
each_length keeps (l ∷ ls) (v ∷ vs) p = omega (arith, each_length keeps ls vs p.1)

-- above zero isn't zero
not_zero : (n : ℕ) → 0 < n → nat_eq n 0 ≡ false
not_zero n h = search rules

-- nothing is kept before the first HDU
pub first_of : {K : Type 0} (keeps : K → HduParts → Type 0) (ks : List K) (us : List HduParts) → KeepsEach keeps ks us → nat_eq (length ks) 0 ≡ is_first us
first_of keeps [] [] p = refl
first_of keeps [] (v ∷ vs) p = absurd p
first_of keeps (l ∷ ls) [] p = absurd p
first_of keeps (l ∷ ls) (v ∷ vs) p = not_zero (length (l ∷ ls)) (omega arith)

-- no HDU is walked yet
pub walked_none : {K : Type 0} (keeps : K → HduParts → Type 0) (ks : List K) (a b : Supply) → ks ≡ [] → Takes a b [] → Walked keeps ks a b
walked_none keeps ks a b none p = rw none (record { hdus = []; each = tt; front = front_none []; taken = p })

-- one more is, and the first block of what follows it is held
pub walked_more : {K : Type 0} (keeps : K → HduParts → Type 0) (ks new : List K) (k : K) (a b c d : Supply) (primary : Bool) → Walked keeps ks a b
    → TakesHdu (keeps k) primary b c → primary ≡ nat_eq (length ks) 0 → new ≡ ks ++ k ∷ [] → Takes c d [] → Walked keeps new a d
walked_more keeps ks new k a b c d primary p q at is r =
    let whole : IsHdu (is_first p.hdus) q.hdu = subst (λ (b' : Bool). IsHdu b' q.hdu) (at ∙ first_of keeps ks p.hdus p.each) q.whole in
    let taken : Takes a c (joined_hdus p.hdus ++ hdu_bytes q.hdu) = takes_more a b c (joined_hdus p.hdus) (hdu_bytes q.hdu) p.taken q.taken in
    rw is (record {
      hdus = p.hdus ++ q.hdu ∷ [];
      each = each_push keeps ks p.hdus k q.hdu p.each q.kept;
      front = front_next p.hdus q.hdu p.front whole;
      taken = rw (joined_push p.hdus q.hdu) (takes_and_holds a c d (joined_hdus p.hdus ++ hdu_bytes q.hdu) taken r);
    })

-- less is left to walk over
pub walk_shorter : (keeps : HduParts → Type 0) (primary : Bool) (b c d : Supply) → TakesHdu keeps primary b c → Takes c d [] → length d.ahead + d.left < length b.ahead + b.left
walk_shorter keeps primary b c d q r = omega (arith, hdu_long primary q.hdu q.whole, takes_fewer b c (hdu_bytes q.hdu) q.taken, takes_fewer c d [] r)

-- how the next one begins
pub next_first : {K : Type 0} (ks : List K) (first : List ℕ) → ks ≡ [] → starts_with nat_eq first (codes "SIMPLE  ") ≡ true → NextBegins (nat_eq (length ks) 0) first
next_first ks first none e = rw none e

-- after one more HDU an extension begins
pub next_more : {K : Type 0} (ks new : List K) (k : K) (first : List ℕ) → new ≡ ks ++ k ∷ [] → begins_extension first ≡ true → NextBegins (nat_eq (length new) 0) first
next_more ks new k first is e = rw (not_zero (length new) (omega (arith, ap length is, length-append ks (k ∷ [])))) e

-- so an HDU must stand there, and the bytes begin as a file
pub next_on : (us : List HduParts) (first s : List ℕ) → NextBegins (is_first us) first → IsFrontOf (joined_hdus us) us [] → (goes_on us (first ++ s) ≡ true) × BeginsAsFits (joined_hdus us ++ (first ++ s))
next_on [] first s begins p = (refl, begins_more (codes "SIMPLE  ") first s 8 refl begins)
next_on (u ∷ us) first s begins p =
    (extension_more first s begins, front_begins (joined_hdus (u ∷ us) ++ (first ++ s)) (u ∷ us) (first ++ s) (front_rest (u ∷ us) (first ++ s) p) (omega arith))

-- a fault of the next HDU is one of all that may be taken
fails_at : (us : List HduParts) (first s : List ℕ) (fault : HduFault) → length (joined_hdus us ++ (first ++ s)) ≤ FILE_LIMIT → IsFrontOf (joined_hdus us) us [] → NextBegins (is_first us) first → length us < HDU_LIMIT
    → HasHduFault (is_first us) (first ++ s) fault → HasOpenFault (joined_hdus us ++ (first ++ s)) (open_fault_of fault (length us + 1))
fails_at us first s fault size front begins few fails =
    let on = next_on us first s begins front in
    fault_here (joined_hdus us ++ (first ++ s)) us (first ++ s) fault size on.1 (front_rest us (first ++ s) front) on.0 few fails

-- no more bytes are ahead and in sight than may be taken
pub few_after : (a b : Supply) (bytes s : List ℕ) → Takes a b bytes → length a.ahead + a.left ≤ FILE_LIMIT → length s ≤ b.left → length (bytes ++ (b.ahead ++ s)) ≤ FILE_LIMIT
few_after a b bytes s p limit le = omega (arith, limit, takes_fewer a b bytes p, le, length-append bytes (b.ahead ++ s), length-append b.ahead s)

-- a fault of the next HDU is the file's
stops_at : (us : List HduParts) (a b c : Supply) (fault : HduFault) → length a.ahead + a.left ≤ FILE_LIMIT → Takes a b (joined_hdus us) → IsFrontOf (joined_hdus us) us [] → NextBegins (is_first us) b.ahead → length us < HDU_LIMIT
    → FindsAll b c (λ s. HasHduFault (is_first us) s fault) → FindsAll a c (λ bytes. HasOpenFault bytes (open_fault_of fault (length us + 1)))
stops_at us a b c fault limit p front begins few f =
    finds_all_next (λ s. HasHduFault (is_first us) s fault) (λ bytes. HasOpenFault bytes (open_fault_of fault (length us + 1))) a b c (joined_hdus us) p f
    (λ s le fails. fails_at us b.ahead s fault (few_after a b (joined_hdus us) s p limit le) front begins few fails)

-- so is whatever ended its reading
walk_stops : (us : List HduParts) (a b c : Supply) (fault : ReadHduFault) → length a.ahead + a.left ≤ FILE_LIMIT → Takes a b (joined_hdus us) → IsFrontOf (joined_hdus us) us [] → NextBegins (is_first us) b.ahead → length us < HDU_LIMIT
    → HduStops (is_first us) b c fault → WalkStops a c (file_fault_of fault (length us + 1))
walk_stops us a b c (read_hdu.Hdu hdu_fault.NoEnd) limit p front begins few stops = stops_at us a b c hdu_fault.NoEnd limit p front begins few stops
walk_stops us a b c (read_hdu.Hdu (hdu_fault.BadShape place)) limit p front begins few stops = stops_at us a b c (hdu_fault.BadShape place) limit p front begins few stops
walk_stops us a b c (read_hdu.Hdu hdu_fault.ShortData) limit p front begins few stops = stops_at us a b c hdu_fault.ShortData limit p front begins few stops
walk_stops us a b c (read_hdu.Hdu hdu_fault.Memory) limit p front begins few stops = takes_then_quiet a b c.source (joined_hdus us) p stops
walk_stops us a b c read_hdu.Failed limit p front begins few stops = takes_then_fails a b c.source (joined_hdus us) p stops

-- so the walk stops
pub stops_by_hdu : {K : Type 0} (keeps : K → HduParts → Type 0) (ks : List K) (a b c : Supply) (h : ℕ) (primary : Bool) (fault : ReadHduFault) → length a.ahead + a.left ≤ FILE_LIMIT → Walked keeps ks a b → NextBegins (nat_eq (length ks) 0) b.ahead → length ks < HDU_LIMIT
    → primary ≡ nat_eq (length ks) 0 → h ≡ length ks + 1 → HduStops primary b c fault → WalkStops a c (file_fault_of fault h)
stops_by_hdu keeps ks a b c h primary fault limit p begins few at is stops =
    let count : length ks ≡ length p.hdus = each_length keeps ks p.hdus p.each in
    let place : h ≡ length p.hdus + 1 = omega (arith, is, count) in
    let same_first : nat_eq (length ks) 0 ≡ is_first p.hdus = first_of keeps ks p.hdus p.each in
    rw place (walk_stops p.hdus a b c fault limit p.taken p.front (subst (λ (b' : Bool). NextBegins b' b.ahead) same_first begins) (omega (arith, few, count))
    (subst (λ (b' : Bool). HduStops b' b c fault) (at ∙ same_first) stops))

-- a call of the source failed after HDUs
pub walk_failed : {K : Type 0} (keeps : K → HduParts → Type 0) (ks : List K) (a b : Supply) (c : SourceState) → Walked keeps ks a b → FailsOnce b.source c → FailsOnce a.source c
walk_failed keeps ks a b c p failed = takes_then_fails a b c (joined_hdus p.hdus) p.taken failed

-- the bytes don't begin as a file does
not_fits_begun : (a b : Supply) → length a.ahead + a.left ≤ FILE_LIMIT → Takes a b [] → starts_with nat_eq b.ahead (codes "SIMPLE  ") ≡ false → 8 ≤ length b.ahead → FindsAll a b (λ bytes. HasOpenFault bytes NotFits)
not_fits_begun a b limit p e many =
    finds_all_begun (λ bytes. HasOpenFault bytes NotFits) a b [] p
    (λ s le. (few_after a b [] s p limit le, λ begins. let no : true ≡ false = sym begins ∙ begins_same (codes "SIMPLE  ") b.ahead s 8 (inr many) ∙ e in cc))

-- bytes that don't begin as a file, and no more of them
not_fits_spent : (a b : Supply) → length a.ahead + a.left ≤ FILE_LIMIT → Takes a b [] → starts_with nat_eq b.ahead (codes "SIMPLE  ") ≡ false → IsSpent b → FindsAll a b (λ bytes. HasOpenFault bytes NotFits)
not_fits_spent a b limit p e spent =
    finds_all_spent (λ bytes. HasOpenFault bytes NotFits) a b [] p spent (omega (arith, limit, takes_fewer a b [] p), λ begins. let no : true ≡ false = sym begins ∙ e in cc)

-- a file that doesn't begin as one stops the walk
pub stops_at_first : (a b : Supply) → length a.ahead + a.left ≤ FILE_LIMIT → Takes a b [] → (length b.ahead < 2880 → IsSpent b) → starts_with nat_eq b.ahead (codes "SIMPLE  ") ≡ false → FindsAll a b (λ bytes. HasOpenFault bytes NotFits)
stops_at_first a b limit p short e =
    elim (cases_lt (length b.ahead) 2880) [ inl few ↦ not_fits_spent a b limit p e (short few) | inr many ↦ not_fits_begun a b limit p e (omega (arith, many)) ]

-- an extension begins after as many HDUs as a file may have
pub stops_full : {K : Type 0} (keeps : K → HduParts → Type 0) (ks : List K) (a b : Supply) → Walked keeps ks a b → length ks ≡ HDU_LIMIT → begins_extension b.ahead ≡ true → FindsAll a b (λ bytes. HasOpenFault bytes TooLarge)
stops_full keeps ks a b p all e =
    finds_all_begun (λ bytes. HasOpenFault bytes TooLarge) a b (joined_hdus p.hdus) p.taken
    (λ s le. inr (record { before = p.hdus; rest = b.ahead ++ s; front = front_rest p.hdus (b.ahead ++ s) p.front; all = omega (arith, all, each_length keeps ks p.hdus p.each); more = extension_more b.ahead s e }))

-- memory was refused after HDUs
pub walk_quiet : {K : Type 0} (keeps : K → HduParts → Type 0) (ks : List K) (a b : Supply) (c : SourceState) → Walked keeps ks a b → StaysQuiet b.source c → StaysQuiet a.source c
walk_quiet keeps ks a b c p quiet = takes_then_quiet a b c (joined_hdus p.hdus) p.taken quiet

-- no call fails where HDUs come
pub walked_quiet : {K : Type 0} (keeps : K → HduParts → Type 0) (ks : List K) (a b : Supply) → Walked keeps ks a b → StaysQuiet a.source b.source
walked_quiet keeps ks a b p = takes_quiet a b (joined_hdus p.hdus) p.taken

pub ruleset walk_steps = (walk_quiet, walked_quiet, walked_none, walked_more, walk_shorter, next_first, next_more, walk_failed)

-- what is left is more than may be taken, or a call failed: so of all
pub ends_before : (a b : Supply) (c : SourceState) (bytes : List ℕ) (before : ReadFileFault) → IsLimited FILE_LIMIT a → Takes a b bytes → RestStops b c before → SupplyStops a c before
ends_before a b c bytes (Open NotFits) far p stops = absurd stops
ends_before a b c bytes (Open (NoEnd h)) far p stops = absurd stops
ends_before a b c bytes (Open (BadShape h place)) far p stops = absurd stops
ends_before a b c bytes (Open (ShortData h)) far p stops = absurd stops
ends_before a b c bytes (Open TooLarge) far p stops =
    let all = long_given FILE_LIMIT a b bytes p far (overruns_known b.left b.source c stops) in ((all.0, all.1, inl all.2), takes_then_quiet a b c bytes p (overruns_quiet b.left true b.source c stops))
ends_before a b c bytes (Open Memory) far p stops = absurd stops
ends_before a b c bytes Failed far p stops = takes_then_fails a b c bytes p stops

-- a fault of what was taken
pub settled_before : (a b : Supply) (c : SourceState) (fault before : ReadFileFault) → is_of_bytes fault ≡ true → IsLimited FILE_LIMIT a → WalkStops a b fault → RestStops b c before → SupplyStops a c before
settled_before a b c (Open NotFits) before is far p q = ends_before a b c p.bytes before far p.taken q
settled_before a b c (Open (NoEnd h)) before is far p q = ends_before a b c p.bytes before far p.taken q
settled_before a b c (Open (BadShape h place)) before is far p q = ends_before a b c p.bytes before far p.taken q
settled_before a b c (Open (ShortData h)) before is far p q = ends_before a b c p.bytes before far p.taken q
settled_before a b c (Open TooLarge) before is far p q = ends_before a b c p.bytes before far p.taken q
settled_before a b c (Open Memory) before is far p q = absurd (false≢true is)
settled_before a b c Failed before is far p q = absurd (false≢true is)

-- what was found of what was taken is so of all where no more is left
found_of_all : (P : List ℕ → Type 0) (a b : Supply) (c : SourceState) → FindsAll a b P → IfSome b.source.remaining (λ ys. length ys ≤ b.left) → StaysQuiet b.source c → GivesAll a P × StaysQuiet a.source c
found_of_all P a b c p few quiet = (finds_given P a b (finds P a b p) few, takes_then_quiet a b c p.bytes p.taken quiet)

-- so is a fault
pub settled_here : (a b : Supply) (c : SourceState) (fault : ReadFileFault) → is_of_bytes fault ≡ true → WalkStops a b fault → IfSome b.source.remaining (λ ys. length ys ≤ b.left) → StaysQuiet b.source c → SupplyStops a c fault
settled_here a b c (Open NotFits) is p few quiet = found_of_all (λ s. HasOpenFault s NotFits) a b c p few quiet
settled_here a b c (Open (NoEnd h)) is p few quiet = found_of_all (λ s. HasOpenFault s (NoEnd h)) a b c p few quiet
settled_here a b c (Open (BadShape h place)) is p few quiet = found_of_all (λ s. HasOpenFault s (BadShape h place)) a b c p few quiet
settled_here a b c (Open (ShortData h)) is p few quiet = found_of_all (λ s. HasOpenFault s (ShortData h)) a b c p few quiet
settled_here a b c (Open TooLarge) is p few quiet = found_of_all (λ s. HasOpenFault s TooLarge) a b c p few quiet
settled_here a b c (Open Memory) is p few quiet = absurd (false≢true is)
settled_here a b c Failed is p few quiet = absurd (false≢true is)

-- memory was refused, or a call failed
pub settled_early : (a b : Supply) (fault : ReadFileFault) → is_of_bytes fault ≡ false → WalkStops a b fault → SupplyStops a b.source fault
settled_early a b (Open NotFits) early p = absurd (false≢true (sym early))
settled_early a b (Open (NoEnd h)) early p = absurd (false≢true (sym early))
settled_early a b (Open (BadShape h place)) early p = absurd (false≢true (sym early))
settled_early a b (Open (ShortData h)) early p = absurd (false≢true (sym early))
settled_early a b (Open TooLarge) early p = absurd (false≢true (sym early))
settled_early a b (Open Memory) early p = p
settled_early a b Failed early p = p

-- more came than may be taken of a source: it is too large, whatever follows
pub rest_gave : (a b : Supply) (c : SourceState) (bytes : List ℕ) (before : ReadFileFault) → IsFresh a → Takes a b bytes → RestStops b c before → GaveFault a.source c before
rest_gave a b c bytes (Open NotFits) fresh p stops = absurd stops
rest_gave a b c bytes (Open (NoEnd h)) fresh p stops = absurd stops
rest_gave a b c bytes (Open (BadShape h place)) fresh p stops = absurd stops
rest_gave a b c bytes (Open (ShortData h)) fresh p stops = absurd stops
rest_gave a b c bytes (Open TooLarge) fresh p stops =
    gave_then (λ all. FILE_LIMIT < length all) (λ all. HasOpenFault all TooLarge) a.source c (long_gave FILE_LIMIT a b c bytes fresh.none fresh.room p stops) (λ all far. inl far)
rest_gave a b c bytes (Open Memory) fresh p stops = absurd stops
rest_gave a b c bytes Failed fresh p stops = tt

-- so it is where a fault was found before
pub gave_before : (a b : Supply) (c : SourceState) (fault before : ReadFileFault) → is_of_bytes fault ≡ true → IsFresh a → WalkStops a b fault → RestStops b c before → GaveFault a.source c before
gave_before a b c (Open NotFits) before is fresh p q = rest_gave a b c p.bytes before fresh p.taken q
gave_before a b c (Open (NoEnd h)) before is fresh p q = rest_gave a b c p.bytes before fresh p.taken q
gave_before a b c (Open (BadShape h place)) before is fresh p q = rest_gave a b c p.bytes before fresh p.taken q
gave_before a b c (Open (ShortData h)) before is fresh p q = rest_gave a b c p.bytes before fresh p.taken q
gave_before a b c (Open TooLarge) before is fresh p q = rest_gave a b c p.bytes before fresh p.taken q
gave_before a b c (Open Memory) before is fresh p q = absurd (false≢true is)
gave_before a b c Failed before is fresh p q = absurd (false≢true is)

-- else that fault is one of all that came
pub gave_here : (a b : Supply) (c : SourceState) (fault : ReadFileFault) → is_of_bytes fault ≡ true → IsFresh a → WalkStops a b fault → Overruns b.left false b.source c → IsDry c → GaveFault a.source c fault
gave_here a b c (Open NotFits) is fresh p rest dry = found_gave (λ s. HasOpenFault s NotFits) a b c fresh.none p rest dry
gave_here a b c (Open (NoEnd h)) is fresh p rest dry = found_gave (λ s. HasOpenFault s (NoEnd h)) a b c fresh.none p rest dry
gave_here a b c (Open (BadShape h place)) is fresh p rest dry = found_gave (λ s. HasOpenFault s (BadShape h place)) a b c fresh.none p rest dry
gave_here a b c (Open (ShortData h)) is fresh p rest dry = found_gave (λ s. HasOpenFault s (ShortData h)) a b c fresh.none p rest dry
gave_here a b c (Open TooLarge) is fresh p rest dry = found_gave (λ s. HasOpenFault s TooLarge) a b c fresh.none p rest dry
gave_here a b c (Open Memory) is fresh p rest dry = absurd (false≢true is)
gave_here a b c Failed is fresh p rest dry = absurd (false≢true is)

-- the bytes aren't at fault
pub gave_early : (a b : SourceState) (fault : ReadFileFault) → is_of_bytes fault ≡ false → GaveFault a b fault
gave_early a b (Open NotFits) early = absurd (false≢true (sym early))
gave_early a b (Open (NoEnd h)) early = absurd (false≢true (sym early))
gave_early a b (Open (BadShape h place)) early = absurd (false≢true (sym early))
gave_early a b (Open (ShortData h)) early = absurd (false≢true (sym early))
gave_early a b (Open TooLarge) early = absurd (false≢true (sym early))
gave_early a b (Open Memory) early = tt
gave_early a b Failed early = tt

-- an intake of as many bytes as a file may have begins
pub fresh : (a : SourceState) (i : IntakeState) → i ≡ record { ahead = []; left = FILE_LIMIT } → IsFresh (supply a i)
fresh a i is = record { none = ap (λ (j : IntakeState). j.ahead) is; room = omega (arith, ap (λ (j : IntakeState). j.left) is) }

-- none of a source is ahead: what was found of all is so of what it has
source_stops : (a c : SourceState) (fault : ReadFileFault) → SupplyStops (record { ahead = []; source = a; left = FILE_LIMIT }) c fault → ReadStops a c fault
source_stops a c (Open NotFits) p = p
source_stops a c (Open (NoEnd h)) p = p
source_stops a c (Open (BadShape h place)) p = p
source_stops a c (Open (ShortData h)) p = p
source_stops a c (Open TooLarge) p = p
source_stops a c (Open Memory) p = p
source_stops a c Failed p = p

-- so of an intake that begins
pub read_stops : (a c : SourceState) (i : IntakeState) (fault : ReadFileFault) → i ≡ record { ahead = []; left = FILE_LIMIT } → SupplyStops (supply a i) c fault → ReadStops a c fault
read_stops a c i fault is p = source_stops a c fault (subst (λ (j : IntakeState). SupplyStops (supply a j) c fault) is p)

-- and what all of them are
pub read_given : (P : List ℕ → Type 0) (a c : SourceState) (i : IntakeState) → i ≡ record { ahead = []; left = FILE_LIMIT } → (bytes : List ℕ) × TellsAll (supply a i) bytes × Gave a c bytes × P bytes → GaveWhole a c P
read_given P a c i is p =
    let q = subst (λ (j : IntakeState). (bytes : List ℕ) × TellsAll (supply a j) bytes × Gave a c bytes × P bytes) is p in
    record { bytes = q.0; told = q.1; gave = q.2; is = q.3 }

-- HDUs and what follows them are a file
pub file_walked : {K : Type 0} (keeps : K → HduParts → Type 0) (ks : List K) (us : List HduParts) (tail : List ℕ) → KeepsEach keeps ks us → IsFrontOf (joined_hdus us) us [] → 0 < length ks → length ks ≤ HDU_LIMIT → begins_extension tail ≡ false → length (joined_hdus us ++ tail) ≤ FILE_LIMIT
    → IsFileOf (joined_hdus us ++ tail) (record { hdus = us; tail = tail })
file_walked keeps ks us tail each front some few ends size =
    let count : length ks ≡ length us = each_length keeps ks us each in
    record { front = front_rest us tail front; ends = goes_on-some us tail (omega (arith, some, count)) ∙ ends; size = size; count = omega (arith, few, count) }

-- bytes follow where there are any
pub followed : (bytes : List ℕ) → not (nat_eq (length bytes) 0) ≡ is_followed bytes
followed [] = refl
followed (byte ∷ bytes) = ap not (not_zero (length (byte ∷ bytes)) (omega arith))

-- bytes follow the last HDU where a whole block of them is seen
followed_on : (first s : List ℕ) → 2880 ≤ length first → not (nat_eq (length first) 0) ≡ is_followed (first ++ s)
followed_on [] s many = absurd (omega (arith, many))
followed_on (byte ∷ bytes) s many = followed (byte ∷ bytes)

-- what came last is all that was left
tells_last : (x y : Option (List ℕ)) (bytes : List ℕ) → Consumes x y bytes → IsAtEnd y → IfSome x (λ left. left ≡ bytes)
tells_last None y bytes p end = tt
tells_last (Some xs) None bytes p end = absurd p
tells_last (Some xs) (Some ys) bytes p end = p ∙ (ap (λ t. bytes ++ t) end ∙ append-nil bytes)

-- no more came than might
few_came : (left : ℕ) (a b : SourceState) (rest : Overruns left false a b) → length rest.bytes ≤ left
few_came left a b rest = elim (cases_lt left (length rest.bytes)) [ inl far ↦ absurd (false≢true (rest.far.1 far)) | inr le ↦ le ]

-- what is ahead is taken too, and nothing is ahead then
ahead_too : (a b : Supply) (bytes : List ℕ) → Takes a b bytes → Takes a (record { ahead = []; source = b.source; left = b.left }) (bytes ++ b.ahead)
ahead_too a b bytes p = record { more = p.more; joined = p.joined ∙ sym (append-nil (bytes ++ b.ahead)); drawn = record { read = p.drawn.read; count = p.drawn.count } }

-- so is all that comes after it
rest_too : (b : Supply) (c : SourceState) (rest : Overruns b.left false b.source c) → Takes b (record { ahead = []; source = c; left = b.left - length rest.bytes }) (b.ahead ++ rest.bytes)
rest_too b c rest = record { more = rest.bytes; joined = sym (append-nil (b.ahead ++ rest.bytes)); drawn = record { read = rest.read; count = omega (arith, few_came b.left b.source c rest) } }

-- no more comes
none_comes : (c : SourceState) (left : ℕ) → Overruns left false c c
none_comes c left = record { bytes = []; read = Reads-none c; far = (λ so. absurd (false≢true so), λ far. absurd (omega (arith, far))) }

-- where nothing may follow what is ahead, a source gave what was taken, and that
gave_ahead : (a b : Supply) (c : SourceState) (bytes : List ℕ) → a.ahead ≡ [] → Takes a b bytes → IsSpent b → Overruns b.left false b.source c → IsDry c → Gave a.source c (bytes ++ b.ahead)
gave_ahead a b c bytes begun p spent rest dry = gave a (record { ahead = []; source = b.source; left = b.left }) c (bytes ++ b.ahead) begun (ahead_too a b bytes p) (record { none = refl; spent = spent }) rest dry

-- else also what came then
gave_rest : (a b : Supply) (c : SourceState) (bytes : List ℕ) → a.ahead ≡ [] → Takes a b bytes → (rest : Overruns b.left false b.source c) → IsDry c → Gave a.source c (bytes ++ (b.ahead ++ rest.bytes))
gave_rest a b c bytes begun p rest dry =
    let last : Supply = record { ahead = []; source = c; left = b.left - length rest.bytes } in
    gave a last c (bytes ++ (b.ahead ++ rest.bytes)) begun (takes_more a b last bytes (b.ahead ++ rest.bytes) p (rest_too b c rest)) (record { none = refl; spent = inr dry }) (none_comes c last.left) dry

-- all that a source gave is a file
pub kept_given : {K : Type 0} (keeps : K → HduParts → Type 0) (ks : List K) (none : Bool) (a b : Supply) (c : SourceState) → a.ahead ≡ [] → Walked keeps ks a b → length a.ahead + a.left ≤ FILE_LIMIT → none ≡ nat_eq (length b.ahead) 0 → 0 < length ks → length ks ≤ HDU_LIMIT → begins_extension b.ahead ≡ false
    → (length b.ahead < 2880 → IsSpent b) → IfSome b.source.remaining (λ ys. length ys ≤ b.left) → Overruns b.left false b.source c → IsDry c → (bytes : List ℕ) × TellsAll a bytes × Gave a.source c bytes × IsWalkOf keeps ks (not none) bytes
kept_given keeps ks none a b c begun p limit is some few ends short within rest dry =
    let front : List ℕ = joined_hdus p.hdus in
    elim (cases_lt (length b.ahead) 2880) [
      | inl less ↦
          let s = rest_given b within in
          let over : b.ahead ++ s.0 ≡ b.ahead = ap (λ t. b.ahead ++ t) (s.2.1 (short less)) ∙ append-nil b.ahead in
          let size : length (front ++ b.ahead) ≤ FILE_LIMIT = subst (λ t. length (front ++ t) ≤ FILE_LIMIT) (append-nil b.ahead) (few_after a b front [] p.taken limit (omega arith)) in (
            front ++ b.ahead,
            subst (TellsAll a) (ap (λ t. front ++ t) over) (tells_after a b front s.0 p.taken s.1),
            gave_ahead a b c front begun p.taken (short less) rest dry,
            (record { hdus = p.hdus; tail = b.ahead }, file_walked keeps ks p.hdus b.ahead p.each p.front some few ends size, p.each, ap not is ∙ followed b.ahead),
          )
      | inr many ↦
          let tail : List ℕ = b.ahead ++ rest.bytes in
          let ended : begins_extension tail ≡ false = extension_same b.ahead rest.bytes (inr (omega (arith, many))) ∙ ends in (
            front ++ tail,
            tells_after a b front rest.bytes p.taken (tells_last b.source.remaining c.remaining rest.bytes rest.read.gone dry.left),
            gave_rest a b c front begun p.taken rest dry,
            (record { hdus = p.hdus; tail = tail }, file_walked keeps ks p.hdus tail p.each p.front some few ended (few_after a b front rest.bytes p.taken limit (few_came b.left b.source c rest)), p.each, ap not is ∙ followed_on b.ahead rest.bytes many),
          )
    ]

-- a walk whose source has more than may be taken, or fails
pub kept_before : {K : Type 0} (keeps : K → HduParts → Type 0) (ks : List K) (a b : Supply) (c : SourceState) (before : ReadFileFault) → IsLimited FILE_LIMIT a → Walked keeps ks a b → RestStops b c before → SupplyStops a c before
kept_before keeps ks a b c before far p q = ends_before a b c (joined_hdus p.hdus) before far p.taken q

-- what is kept of a file, whatever follows
pub kept_alone : {K : Type 0} (keeps : K → HduParts → Type 0) (ks : List K) (followed : Bool) (a c : SourceState) → GaveWhole a c (IsWalkOf keeps ks followed) → GaveWhole a c (IsKeptOf keeps ks)
kept_alone keeps ks followed a c p = record { bytes = p.bytes; told = p.told; gave = p.gave; is = (p.is.0, p.is.1, p.is.2) }

pub ruleset outline_steps = (kept_alone)

pub ruleset end_steps = (within_limit)

pub ruleset settled_steps = (settled_before, settled_here, settled_early, gave_before, gave_here, gave_early)
