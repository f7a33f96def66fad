-- HDUs of two files, side by side.
use Rattle.std.proofs.Common.{◌≡◌, ◌⊎◌, ℕ, zero, suc, ◌+◌, ◌<◌, ◌≤◌, Bool, true, false, ◌&&◌, List, [], ◌∷◌, ◌++◌, length, refl, ap, sym, subst, ◌∙◌, append_assoc, arith, inl, inr}
use Rattle.std.specs.Prelude.{◌==◌, codes, nat_eq}
use Rattle.std.proofs.lemmas.Bool.{false≢true}
use Rattle.std.proofs.lemmas.Bool.Decides.{Decides-eqb}
use Rattle.std.proofs.lemmas.List.{append-nil, length-append}
use Rattle.fits_stream.specs.Intake.{Supply, Takes}
use Rattle.fits_stream.proofs.SightLemmas.{takes_then_fails}
use Rattle.fits_passing.specs.Hdu.{HduParts, hdu_bytes}
use Rattle.fits_passing.specs.HduReading.{TakesHdu}
use Rattle.fits_passing.specs.File.{begins_extension, joined_hdus}
use Rattle.fits_passing.specs.Reading.{NextBegins, WalkStops}
use Rattle.fits_passing.specs.declared.limits.TheConstants.{FILE_LIMIT, HDU_LIMIT}
use Rattle.fits_passing.specs.declared.open_fault.OpenFault.TheVariants.{TooLarge}
use Rattle.fits_passing.specs.declared.read_file_fault.ReadFileFault.TheVariants.{Open, Failed}
use Rattle.fits_passing.proofs.WalkLemmas.{stops_by_hdu, stops_full, walk_shorter, walked_more, walked_none}
use Rattle.fits_diff.specs.Differences.{alone_text, TellsHdu, TellsHdus}
use Rattle.fits_diff.specs.DiffSteps.{diff_fault_of, HdusStop, is_it, OneFails, TakesHdus, TellsPairs, WalkAll, WalkPairs, WalksOn, WalksStop}
use Rattle.fits_diff.specs.declared.diff_fault.DiffFault.{DiffFault}
use Rattle.fits_diff.specs.declared.diff_fault.DiffFault.TheVariants.{First, Second, Memory, WriteFailed}
use Rattle.fits_diff.specs.declared.pair_fault.PairFault.{PairFault}
use Rattle.fits_diff.specs.declared.pair_fault.PairFault.TheVariants as pair
use Rattle.fits_diff.proofs.AloneLemmas.{walked_on}
use Rattle.fits_diff.proofs.PassingLemmas.{not_true}

-- one more HDU of each is told of
pairs_push : (h k : ℕ) (us vs : List HduParts) (u v : HduParts) (text one new : List ℕ) → TellsPairs h us vs text → k ≡ h + length us → TellsHdu k u v one → new ≡ text ++ one → TellsPairs h (us ++ u ∷ []) (vs ++ v ∷ []) new
pairs_push h k [] [] u v text one new p at q is =
    let place : k ≡ h = omega (arith, at) in
    (one, [], is ∙ ap (λ t. t ++ one) p ∙ sym (append-nil one), subst (λ n. TellsHdu n u v one) place q, refl)
pairs_push h k [] (y ∷ vs) u v text one new p at q is = absurd p
pairs_push h k (x ∷ us) [] u v text one new p at q is = absurd p
pairs_push h k (x ∷ us) (y ∷ vs) u v text one new p at q is = (
  p.0,
  p.1 ++ one,
  is ∙ ap (λ t. t ++ one) p.2 ∙ append_assoc p.0 p.1 one,
  p.3,
  pairs_push (h + 1) k us vs u v p.1 one (p.1 ++ one) p.4 (omega (arith, at)) q refl,
)

-- as many of one as of the other
pub pairs_length : (h : ℕ) (us vs : List HduParts) (text : List ℕ) → TellsPairs h us vs text → length us ≡ length vs
pairs_length h [] [] text p = refl
pairs_length h [] (y ∷ vs) text p = absurd p
pairs_length h (x ∷ us) [] text p = absurd p
pairs_length h (x ∷ us) (y ∷ vs) text p = omega (arith, pairs_length (h + 1) us vs p.1 p.4)

-- no HDU is walked over yet
pub pairs_none : (a a' b b' : Supply) (text : List ℕ) → Takes a a' [] → Takes b b' [] → text ≡ [] → WalkPairs 0 a a' b b' text
pairs_none a a' b b' text p q none = record { hdus = []; others = []; walked = walked_none is_it [] a a' refl p; walked_other = walked_none is_it [] b b' refl q; size = refl; told = none }

-- above zero isn't zero
above_zero : (n : ℕ) → nat_eq (suc n) 0 ≡ false
above_zero n = not_true (nat_eq (suc n) 0) (λ e. absurd (omega (arith, (Decides-eqb (suc n) 0).0 e)))

-- the first HDU is the primary one
pub first_number : (n k : ℕ) → k ≡ n + 1 → (k == 1) ≡ nat_eq n 0
first_number zero k is = (Decides-eqb k 1).1 (omega (arith, is))
first_number (suc n) k is = not_true (k == 1) (λ e. absurd (omega (arith, is, (Decides-eqb k 1).0 e))) ∙ sym (above_zero n)

-- after the first one an extension begins
pub later_begins : (n : ℕ) (first : List ℕ) → begins_extension first ≡ true → NextBegins (nat_eq (n + 1) 0) first
later_begins n first e = subst (λ (b : Bool). NextBegins b first) (sym (not_true (nat_eq (n + 1) 0) (λ so. absurd (omega (arith, (Decides-eqb (n + 1) 0).0 so))))) e

-- both begin
pub both_so : (a b : Bool) → (a && b) ≡ true → (a ≡ true) × (b ≡ true)
both_so true b e = (refl, e)
both_so false b e = absurd (false≢true e)

-- an HDU of each, as one that is kept itself
first_taken : (h : ℕ) (primary : Bool) (a a' b b' : Supply) (text new : List ℕ) (p : TakesHdus h primary a a' b b' text new) → TakesHdu (is_it p.hdu) primary a a'
first_taken h primary a a' b b' text new p = record { hdu = p.hdu; kept = refl; whole = p.whole; taken = p.taken }

-- and from the second file
second_taken : (h : ℕ) (primary : Bool) (a a' b b' : Supply) (text new : List ℕ) (p : TakesHdus h primary a a' b b' text new) → TakesHdu (is_it p.other) primary b b'
second_taken h primary a a' b b' text new p = record { hdu = p.other; kept = refl; whole = p.whole_other; taken = p.taken_other }

-- one more of each is walked over
pub pairs_more : (count next : ℕ) (a a' c d b b' e f : Supply) (text new : List ℕ) → WalkPairs count a a' b b' text → TakesHdus next (next == 1) a' c b' e text new → next ≡ count + 1 → Takes c d [] → Takes e f [] → WalkPairs next a d b f new
pairs_more count next a a' c d b b' e f text new p q is holds holds_other =
    let many : length p.hdus ≡ length p.others = pairs_length 1 p.hdus p.others text p.told in
    record {
      hdus = p.hdus ++ q.hdu ∷ [];
      others = p.others ++ q.other ∷ [];
      walked = walked_more is_it p.hdus (p.hdus ++ q.hdu ∷ []) q.hdu a a' c d (next == 1) p.walked (first_taken next (next == 1) a' c b' e text new q) (first_number (length p.hdus) next (omega (arith, is, p.size))) refl holds;
      walked_other = walked_more is_it p.others (p.others ++ q.other ∷ []) q.other b b' e f (next == 1) p.walked_other (second_taken next (next == 1) a' c b' e text new q) (first_number (length p.others) next (omega (arith, is, p.size, many))) refl holds_other;
      size = omega (arith, length-append p.hdus (q.hdu ∷ []), p.size, is);
      told = pairs_push 1 next p.hdus p.others q.hdu q.other text q.one new p.told (omega (arith, is, p.size)) q.told q.is;
    }

-- less is left then
pub pairs_shorter : (h : ℕ) (primary : Bool) (a c d b e : Supply) (text new : List ℕ) → TakesHdus h primary a c b e text new → Takes c d [] → length d.ahead + d.left < length a.ahead + a.left
pairs_shorter h primary a c d b e text new q holds = walk_shorter (is_it q.hdu) primary a c d (first_taken h primary a c b e text new q) holds

-- one isn't read
pub pairs_stop : (count h : ℕ) (a a' c b b' e : Supply) (text : List ℕ) (why : PairFault) → length a.ahead + a.left ≤ FILE_LIMIT → length b.ahead + b.left ≤ FILE_LIMIT → WalkPairs count a a' b b' text
    → NextBegins (nat_eq count 0) a'.ahead → NextBegins (nat_eq count 0) b'.ahead → count < HDU_LIMIT → h ≡ count + 1 → HdusStop (h == 1) a' c b' e why → WalksStop a c b e (diff_fault_of why h)
pairs_stop count h a a' c b b' e text (pair.First why) limit limit_other p begins begins_other few is stops =
    stops_by_hdu is_it p.hdus a a' c h (h == 1) why limit p.walked (subst (λ n. NextBegins (nat_eq n 0) a'.ahead) (sym p.size) begins) (omega (arith, few, p.size)) (first_number (length p.hdus) h (omega (arith, is, p.size))) (omega (arith, is, p.size)) stops
pairs_stop count h a a' c b b' e text (pair.Second why) limit limit_other p begins begins_other few is stops =
    let size : length p.others ≡ count = omega (arith, p.size, pairs_length 1 p.hdus p.others text p.told) in
    stops_by_hdu is_it p.others b b' e h (h == 1) why limit_other p.walked_other (subst (λ n. NextBegins (nat_eq n 0) b'.ahead) (sym size) begins_other) (omega (arith, few, size)) (first_number (length p.others) h (omega (arith, is, size))) (omega (arith, is, size)) stops
pairs_stop count h a a' c b b' e text pair.Memory limit limit_other p begins begins_other few is stops = tt

-- there are too many
pub pairs_full : (count : ℕ) (a a' b b' : Supply) (text : List ℕ) → WalkPairs count a a' b b' text → count ≡ HDU_LIMIT → begins_extension a'.ahead ≡ true → WalkStops a a' (Open TooLarge)
pairs_full count a a' b b' text p all begins = stops_full is_it p.hdus a a' p.walked (omega (arith, p.size, all)) begins

-- a call failed after bytes
pub fails_after : (a a' c b b' e : Supply) (xs ys : List ℕ) (why : DiffFault) → Takes a a' xs → Takes b b' ys → OneFails a' c b' e why → OneFails a c b e why
fails_after a a' c b b' e xs ys (First (Open fault)) p q failed = absurd failed
fails_after a a' c b b' e xs ys (First Failed) p q failed = takes_then_fails a a' c.source xs p failed
fails_after a a' c b b' e xs ys (Second (Open fault)) p q failed = absurd failed
fails_after a a' c b b' e xs ys (Second Failed) p q failed = takes_then_fails b b' e.source ys q failed
fails_after a a' c b b' e xs ys Memory p q failed = absurd failed
fails_after a a' c b b' e xs ys WriteFailed p q failed = absurd failed

-- that stops a walk
pub fails_walk : (a c b e : Supply) (why : DiffFault) → OneFails a c b e why → WalksStop a c b e why
fails_walk a c b e (First (Open fault)) failed = absurd failed
fails_walk a c b e (First Failed) failed = failed
fails_walk a c b e (Second (Open fault)) failed = absurd failed
fails_walk a c b e (Second Failed) failed = failed
fails_walk a c b e Memory failed = absurd failed
fails_walk a c b e WriteFailed failed = absurd failed

-- so it is after HDUs, and one more of each
pub pairs_failed : (count h : ℕ) (primary : Bool) (a a' c d b b' e f : Supply) (text mid new : List ℕ) (why : DiffFault) → WalkPairs count a a' b b' text → TakesHdus h primary a' c b' e mid new → OneFails c d e f why → WalksStop a d b f why
pairs_failed count h primary a a' c d b b' e f text mid new why p q failed =
    fails_walk a d b f why
    (fails_after a a' d b b' f (joined_hdus p.walked.hdus) (joined_hdus p.walked_other.hdus) why p.walked.taken p.walked_other.taken
    (fails_after a' c d b' e f (hdu_bytes q.hdu) (hdu_bytes q.other) why q.taken q.taken_other failed))

-- a list that begins isn't empty
cons_not_nil : (x : HduParts) (xs : List HduParts) → x ∷ xs ≡ [] → ⊥
cons_not_nil x xs e = absurd (omega (arith, ap (λ (t : List HduParts). length t) e))

-- extensions don't begin in both
either_ends : (a b : Bool) → (a && b) ≡ false → (a ≡ false) ⊎ (b ≡ false)
either_ends true b e = inr e
either_ends false b e = inl refl

-- after those that both have one has no more
tells_all : (h k : ℕ) (us vs xs ys : List HduParts) (text new : List ℕ) → TellsPairs h us vs text → k ≡ h + length us → (xs ≡ []) ⊎ (ys ≡ [])
    → new ≡ text ++ (alone_text (codes "A") k xs ++ alone_text (codes "B") k ys) → TellsHdus h (us ++ xs) (vs ++ ys) new
tells_all h k [] [] [] ys text new p at one is =
    let place : k ≡ h = omega (arith, at) in is ∙ ap (λ t. t ++ alone_text (codes "B") k ys) p ∙ ap (λ n. alone_text (codes "B") n ys) place
tells_all h k [] [] (x ∷ xs) ys text new p at one is = elim one [
  | inl none ↦ absurd (cons_not_nil x xs none)
  | inr none ↦
      let place : k ≡ h = omega (arith, at) in
      rw none (is ∙ ap (λ t. t ++ (alone_text (codes "A") k (x ∷ xs) ++ alone_text (codes "B") k ys)) p ∙ ap (λ (t : List HduParts). alone_text (codes "A") k (x ∷ xs) ++ alone_text (codes "B") k t) none
      ∙ append-nil (alone_text (codes "A") k (x ∷ xs)) ∙ ap (λ n. alone_text (codes "A") n (x ∷ xs)) place)
]
tells_all h k [] (y ∷ vs) xs ys text new p at one is = absurd p
tells_all h k (x ∷ us) [] xs ys text new p at one is = absurd p
tells_all h k (x ∷ us) (y ∷ vs) xs ys text new p at one is =
    let more : List ℕ = alone_text (codes "A") k xs ++ alone_text (codes "B") k ys in (
      p.0,
      p.1 ++ more,
      is ∙ ap (λ t. t ++ more) p.2 ∙ append_assoc p.0 p.1 more,
      p.3,
      tells_all (h + 1) k us vs xs ys p.1 (p.1 ++ more) p.4 (omega (arith, at)) one refl,
    )

-- all HDUs of both are walked over
pub all_walked : (count : ℕ) (a a' c b b' e : Supply) (text mid new : List ℕ) → WalkPairs count a a' b b' text → 0 < count → (begins_extension a'.ahead && begins_extension b'.ahead) ≡ false
    → WalksOn (codes "A") count a' c text mid → WalksOn (codes "B") count b' e mid new → WalkAll a c b e new
all_walked count a a' c b b' e text mid new p some ends q r =
    let many : length p.hdus ≡ length p.others = pairs_length 1 p.hdus p.others text p.told in
    let one : (q.more ≡ []) ⊎ (r.more ≡ []) = elim (either_ends (begins_extension a'.ahead) (begins_extension b'.ahead) ends) [ inl it ↦ inl (q.none it) | inr it ↦ inr (r.none it) ] in
    let front : List ℕ = alone_text (codes "A") (count + 1) q.more in
    let back : List ℕ = alone_text (codes "B") (count + 1) r.more in
    record {
      hdus = p.hdus ++ q.more;
      others = p.others ++ r.more;
      walked = walked_on p.hdus q.more a a' c p.walked (omega (arith, some, p.size)) q.extensions q.taken;
      walked_other = walked_on p.others r.more b b' e p.walked_other (omega (arith, some, p.size, many)) r.extensions r.taken;
      some = omega (arith, some, p.size, length-append p.hdus q.more);
      some_other = omega (arith, some, p.size, many, length-append p.others r.more);
      few = omega (arith, q.few, p.size, length-append p.hdus q.more);
      few_other = omega (arith, r.few, p.size, many, length-append p.others r.more);
      told = tells_all 1 (count + 1) p.hdus p.others q.more r.more text new p.told (omega (arith, p.size)) one (r.told ∙ ap (λ t. t ++ back) q.told ∙ append_assoc text front back);
    }

-- so it is for both of a walk
pub walk_failed_then : (a a' c b b' e : Supply) (text : List ℕ) (why : DiffFault) → WalkAll a a' b b' text → OneFails a' c b' e why → WalksStop a c b e why
walk_failed_then a a' c b b' e text why p failed =
    fails_walk a c b e why (fails_after a a' c b b' e (joined_hdus p.walked.hdus) (joined_hdus p.walked_other.hdus) why p.walked.taken p.walked_other.taken failed)

pub ruleset pair_steps = (pairs_none)
