-- Bytes are one file or have one fault.
use Rattle.std.proofs.Common.{◌≡◌, ◌⊎◌, ℕ, ◌+◌, ◌<◌, ◌≤◌, Bool, true, false, List, [], ◌∷◌, ◌++◌, length, refl, ap, sym, ◌∙◌, subst, arith, inl, inr, zero, suc}
use Rattle.std.specs.Prelude.{nat_eq, codes}
use Rattle.std.specs.List.{starts_with}
use Rattle.std.proofs.lemmas.Bool.{cases_lt}
use Rattle.std.proofs.lemmas.List.{length-append}
use Rattle.fits_passing.specs.Hdu.{HduParts, hdu_bytes, IsHduOf, HasHduFault}
use Rattle.fits_passing.specs.declared.hdu_fault.HduFault.{HduFault}
use Rattle.fits_passing.specs.declared.hdu_fault.HduFault.TheVariants as hdu_fault
use Rattle.fits_laws.proofs.HduLemmas.{no_fault, one_fault, hdu_or_fault, BeginsWithHdu}
use Rattle.fits_passing.specs.File.{FileParts, begins_extension, is_first, goes_on, IsFrontOf, IsFileOf}
use Rattle.fits_passing.specs.declared.limits.TheConstants.{FILE_LIMIT, HDU_LIMIT}
use Rattle.fits_passing.specs.Opening.{BeginsAsFits, StopsAt, FailsAt, HasTooManyHdus, HasOpenFault, open_fault_of}
use Rattle.fits_laws.specs.Files.{IsFileOrNot}
use Rattle.fits_passing.specs.declared.open_fault.OpenFault.{OpenFault}
use Rattle.fits_passing.specs.declared.open_fault.OpenFault.TheVariants.{NotFits, NoEnd, BadShape, ShortData, TooLarge, Memory}
use Rattle.fits_passing.proofs.FrontLemmas.{front_none, front_push, goes_on-some, front_begins, hdu_long}
use Rattle.fits_laws.proofs.FrontLemmas.{goes_on-push, fronts_level, fronts_ahead, none_beyond, file_begins}
use Rattle.fits_passing.proofs.FileLemmas.{fault_here}

-- neither of two numbers is the less
same_number : (m n : ℕ) → (m < n → ⊥) → (n < m → ⊥) → m ≡ n
same_number m n p q = elim (cases_lt m n) [ inl l ↦ absurd (p l) | inr l ↦ elim (cases_lt n m) [ inl k ↦ absurd (q k) | inr k ↦ omega arith ] ]

-- a file is its parts
parts_of : (us vs : List HduParts) (s t : List ℕ) → us ≡ vs → s ≡ t → Path FileParts (record { hdus = us; tail = s }) (record { hdus = vs; tail = t })
parts_of us vs s t p q = rw (p, q) refl

-- the same for two files
same_parts : (a b : FileParts) → a.hdus ≡ b.hdus → a.tail ≡ b.tail → a ≡ b
same_parts a b p q = parts_of a.hdus b.hdus a.tail b.tail p q

-- bytes are one file at most
pub one_file : (f : List ℕ) (a b : FileParts) → IsFileOf f a → IsFileOf f b → a ≡ b
one_file f a b p q =
    let level : length a.hdus ≡ length b.hdus = same_number (length a.hdus) (length b.hdus)
    (λ l. none_beyond a.hdus a.tail p.ends (fronts_ahead f a.hdus b.hdus a.tail b.tail p.front q.front l))
    (λ l. none_beyond b.hdus b.tail q.ends (fronts_ahead f b.hdus a.hdus b.tail a.tail q.front p.front l)) in
    let same = fronts_level f a.hdus b.hdus a.tail b.tail p.front q.front level in
    same_parts a b same.0 same.1

-- one HDU is the first that can't be read, for one fault
stops_once : (f : List ℕ) (h k : ℕ) (d e : HduFault) → StopsAt f h d → StopsAt f k e → (h ≡ k) × (d ≡ e)
stops_once f h k d e p q =
    let at_p : BeginsWithHdu (is_first p.before) p.rest → ⊥ = λ s. no_fault (is_first p.before) p.rest s.0 s.1 d s.2 p.here in
    let at_q : BeginsWithHdu (is_first q.before) q.rest → ⊥ = λ s. no_fault (is_first q.before) q.rest s.0 s.1 e s.2 q.here in
    let level : length p.before ≡ length q.before = same_number (length p.before) (length q.before)
    (λ l. at_p (fronts_ahead f p.before q.before p.rest q.rest p.front q.front l))
    (λ l. at_q (fronts_ahead f q.before p.before q.rest p.rest q.front p.front l)) in
    let same = fronts_level f p.before q.before p.rest q.rest p.front q.front level in
    let here : HasHduFault (is_first p.before) p.rest e =
    subst (λ (us : List HduParts). HasHduFault (is_first us) p.rest e) (sym same.0) (subst (λ (s : List ℕ). HasHduFault (is_first q.before) s e) (sym same.1) q.here) in
    (omega (arith, p.at, q.at, level), one_fault (is_first p.before) p.rest d e p.here here)

-- a file doesn't stop
stops_nowhere : (f : List ℕ) (h : ℕ) (e : HduFault) (file : FileParts) → StopsAt f h e → IsFileOf f file → ⊥
stops_nowhere f h e file p q =
    let level : length p.before ≡ length file.hdus = same_number (length p.before) (length file.hdus)
    (λ l. let s = fronts_ahead f p.before file.hdus p.rest file.tail p.front q.front l in no_fault (is_first p.before) p.rest s.0 s.1 e s.2 p.here)
    (λ l. none_beyond file.hdus file.tail q.ends (fronts_ahead f file.hdus p.before file.tail p.rest q.front p.front l)) in
    let same = fronts_level f p.before file.hdus p.rest file.tail p.front q.front level in
    let no : true ≡ false = sym p.more ∙ ap (λ us. goes_on us p.rest) same.0 ∙ ap (goes_on file.hdus) same.1 ∙ q.ends in
    cc

-- it doesn't have too many HDUs
not_too_many : (f : List ℕ) (file : FileParts) → HasTooManyHdus f → IsFileOf f file → ⊥
not_too_many f file p q =
    let level : length p.before ≡ length file.hdus = same_number (length p.before) (length file.hdus)
    (λ l. absurd (omega (arith, p.all, q.count)))
    (λ l. none_beyond file.hdus file.tail q.ends (fronts_ahead f file.hdus p.before file.tail p.rest q.front p.front l)) in
    let same = fronts_level f p.before file.hdus p.rest file.tail p.front q.front level in
    let no : true ≡ false = sym p.more ∙ ap begins_extension same.1 ∙ sym (goes_on-some file.hdus file.tail (omega (arith, level, p.all))) ∙ q.ends in
    cc

-- an HDU that can't be read stands before the limit of HDUs
stops_before : (f : List ℕ) (h : ℕ) (e : HduFault) → StopsAt f h e → HasTooManyHdus f → ⊥
stops_before f h e p q =
    let s = fronts_ahead f p.before q.before p.rest q.rest p.front q.front (omega (arith, p.few, q.all)) in
    no_fault (is_first p.before) p.rest s.0 s.1 e s.2 p.here

-- a file has no HDU that can't be read
fails_nowhere : (f : List ℕ) (h : ℕ) (e : HduFault) (file : FileParts) → FailsAt f h e → IsFileOf f file → ⊥
fails_nowhere f h e file p q = stops_nowhere f h e file p.stops q

-- so it has no fault
pub no_open_fault : (f : List ℕ) (file : FileParts) (fault : OpenFault) → IsFileOf f file → HasOpenFault f fault → ⊥
no_open_fault f file NotFits p q = q.1 (file_begins f file p)
no_open_fault f file (NoEnd h) p q = fails_nowhere f h hdu_fault.NoEnd file q p
no_open_fault f file (BadShape h place) p q = fails_nowhere f h (hdu_fault.BadShape place) file q p
no_open_fault f file (ShortData h) p q = fails_nowhere f h hdu_fault.ShortData file q p
no_open_fault f file TooLarge p q = elim q [ inl over ↦ absurd (omega (arith, over, p.size)) | inr many ↦ not_too_many f file many p ]
no_open_fault f file Memory p q = q

-- faults at HDUs are the same, and no others stand beside them
fails_once : (f : List ℕ) (h k : ℕ) (d e : HduFault) → FailsAt f h d → FailsAt f k e → (h ≡ k) × (d ≡ e)
fails_once f h k d e p q = stops_once f h k d e p.stops q.stops

-- bytes that don't begin as a file have no HDU that can't be read
fits_not : (f : List ℕ) (h : ℕ) (e : HduFault) → HasOpenFault f NotFits → FailsAt f h e → ⊥
fits_not f h e p q = p.1 q.begins

-- a file with an HDU that can't be read is not too large
fails_or_large : (f : List ℕ) (h : ℕ) (e : HduFault) → FailsAt f h e → HasOpenFault f TooLarge → ⊥
fails_or_large f h e p q = elim q [ inl over ↦ absurd (omega (arith, over, p.size)) | inr many ↦ stops_before f h e p.stops many ]

-- nor are bytes that don't begin as a file
fits_or_large : (f : List ℕ) → HasOpenFault f NotFits → HasOpenFault f TooLarge → ⊥
fits_or_large f p q = elim q [ inl over ↦ absurd (omega (arith, over, p.0)) | inr many ↦ p.1 (front_begins f many.before many.rest many.front (omega (arith, many.all))) ]

-- bytes have one fault at most
pub one_open_fault : (f : List ℕ) (d e : OpenFault) → HasOpenFault f d → HasOpenFault f e → d ≡ e
one_open_fault f NotFits NotFits p q = refl
one_open_fault f NotFits (NoEnd h) p q = absurd (fits_not f h hdu_fault.NoEnd p q)
one_open_fault f NotFits (BadShape h place) p q = absurd (fits_not f h (hdu_fault.BadShape place) p q)
one_open_fault f NotFits (ShortData h) p q = absurd (fits_not f h hdu_fault.ShortData p q)
one_open_fault f NotFits TooLarge p q = absurd (fits_or_large f p q)
one_open_fault f NotFits Memory p q = absurd q
one_open_fault f (NoEnd h) NotFits p q = absurd (fits_not f h hdu_fault.NoEnd q p)
one_open_fault f (NoEnd h) (NoEnd k) p q = ap NoEnd (fails_once f h k hdu_fault.NoEnd hdu_fault.NoEnd p q).0
one_open_fault f (NoEnd h) (BadShape k place) p q = let same = (fails_once f h k hdu_fault.NoEnd (hdu_fault.BadShape place) p q).1 in cc
one_open_fault f (NoEnd h) (ShortData k) p q = let same = (fails_once f h k hdu_fault.NoEnd hdu_fault.ShortData p q).1 in cc
one_open_fault f (NoEnd h) TooLarge p q = absurd (fails_or_large f h hdu_fault.NoEnd p q)
one_open_fault f (NoEnd h) Memory p q = absurd q
one_open_fault f (BadShape h place) NotFits p q = absurd (fits_not f h (hdu_fault.BadShape place) q p)
one_open_fault f (BadShape h place) (NoEnd k) p q = let same = (fails_once f h k (hdu_fault.BadShape place) hdu_fault.NoEnd p q).1 in cc
one_open_fault f (BadShape h place) (BadShape k other) p q = let same = fails_once f h k (hdu_fault.BadShape place) (hdu_fault.BadShape other) p q in cc
one_open_fault f (BadShape h place) (ShortData k) p q = let same = (fails_once f h k (hdu_fault.BadShape place) hdu_fault.ShortData p q).1 in cc
one_open_fault f (BadShape h place) TooLarge p q = absurd (fails_or_large f h (hdu_fault.BadShape place) p q)
one_open_fault f (BadShape h place) Memory p q = absurd q
one_open_fault f (ShortData h) NotFits p q = absurd (fits_not f h hdu_fault.ShortData q p)
one_open_fault f (ShortData h) (NoEnd k) p q = let same = (fails_once f h k hdu_fault.ShortData hdu_fault.NoEnd p q).1 in cc
one_open_fault f (ShortData h) (BadShape k place) p q = let same = (fails_once f h k hdu_fault.ShortData (hdu_fault.BadShape place) p q).1 in cc
one_open_fault f (ShortData h) (ShortData k) p q = ap ShortData (fails_once f h k hdu_fault.ShortData hdu_fault.ShortData p q).0
one_open_fault f (ShortData h) TooLarge p q = absurd (fails_or_large f h hdu_fault.ShortData p q)
one_open_fault f (ShortData h) Memory p q = absurd q
one_open_fault f TooLarge NotFits p q = absurd (fits_or_large f q p)
one_open_fault f TooLarge (NoEnd h) p q = absurd (fails_or_large f h hdu_fault.NoEnd q p)
one_open_fault f TooLarge (BadShape h place) p q = absurd (fails_or_large f h (hdu_fault.BadShape place) q p)
one_open_fault f TooLarge (ShortData h) p q = absurd (fails_or_large f h hdu_fault.ShortData q p)
one_open_fault f TooLarge TooLarge p q = refl
one_open_fault f TooLarge Memory p q = absurd q
one_open_fault f Memory e p q = absurd p

-- more HDUs begin the bytes, with less after them
abbrev Further : List ℕ → List ℕ → Type 0
Further f rest = (us : List HduParts) × (after : List ℕ) × IsFrontOf f us after × (goes_on us after ≡ true) × (length us < HDU_LIMIT) × (length after < length rest)

-- after an HDU another one begins: the limit of HDUs ends the search, or it goes on
further : (f : List ℕ) (us : List HduParts) (u : HduParts) (rest after : List ℕ) → IsFrontOf f us rest → length us < HDU_LIMIT → IsHduOf (is_first us) rest u after → begins_extension after ≡ true → IsFileOrNot f ⊎ Further f rest
further f us u rest after p few q begins =
    let count : length (us ++ u ∷ []) ≡ length us + 1 = length-append us (u ∷ []) in
    let less : length after < length rest = omega (arith, ap length q.joined, length-append (hdu_bytes u) after, hdu_long (is_first us) u q.whole) in
    elim (cases_lt (length us + 1) HDU_LIMIT) [
      | inl l ↦ inr (us ++ u ∷ [], after, front_push f us u rest after p q, goes_on-push us u after ∙ begins, omega arith, less)
      | inr l ↦ inl (inr (TooLarge, inr (record { before = us ++ u ∷ []; rest = after; front = front_push f us u rest after p q; all = omega arith; more = begins })))
    ]

-- an extension begins there, or the file ends
behind : (f : List ℕ) (us : List HduParts) (u : HduParts) (rest after : List ℕ) (b : Bool) → length f ≤ FILE_LIMIT → IsFrontOf f us rest → length us < HDU_LIMIT → IsHduOf (is_first us) rest u after → begins_extension after ≡ b → IsFileOrNot f ⊎ Further f rest
behind f us u rest after true size p few q begins = further f us u rest after p few q begins
behind f us u rest after false size p few q begins =
    inl (inl (
      record { hdus = us ++ u ∷ []; tail = after },
      record {
        front = front_push f us u rest after p q;
        ends = goes_on-push us u after ∙ begins;
        size = size;
        count = omega (arith, length-append us (u ∷ []));
      },
    ))

-- a file, a fault, or one HDU more
step : (f : List ℕ) (us : List HduParts) (rest : List ℕ) → length f ≤ FILE_LIMIT → BeginsAsFits f → IsFrontOf f us rest → goes_on us rest ≡ true → length us < HDU_LIMIT → IsFileOrNot f ⊎ Further f rest
step f us rest size begins p m few =
    elim (hdu_or_fault (is_first us) rest) [
      | inl s ↦ behind f us s.0 rest s.1 (begins_extension s.1) size p few s.2 refl
      | inr e ↦ inl (inr (open_fault_of e.0 (length us + 1), fault_here f us rest e.0 size begins p m few e.1))
    ]

-- by as many steps as there are bytes
go : (fuel : ℕ) (f : List ℕ) (us : List HduParts) (rest : List ℕ) → length rest < fuel → length f ≤ FILE_LIMIT → BeginsAsFits f → IsFrontOf f us rest → goes_on us rest ≡ true → length us < HDU_LIMIT → IsFileOrNot f
go zero f us rest l size begins p m few = absurd (omega arith)
go (suc fuel) f us rest l size begins p m few =
    elim (step f us rest size begins p m few) [ inl r ↦ r | inr x ↦ go fuel f x.0 x.1 (omega (arith, x.5)) size begins x.2 x.3 x.4 ]

-- from the first bytes
by_begin : (f : List ℕ) (b : Bool) → length f ≤ FILE_LIMIT → starts_with nat_eq f (codes "SIMPLE  ") ≡ b → IsFileOrNot f
by_begin f true size e = go (length f + 1) f [] f (omega arith) size e (front_none f) refl (omega arith)
by_begin f false size e = inr (NotFits, (size, λ begins. cc))

-- bytes are a file, or have a fault
pub file_or_fault : (f : List ℕ) → IsFileOrNot f
file_or_fault f =
    elim (cases_lt FILE_LIMIT (length f)) [
      | inl over ↦ inr (TooLarge, inl over)
      | inr size ↦ by_begin f (starts_with nat_eq f (codes "SIMPLE  ")) size refl
    ]
