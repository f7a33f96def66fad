-- Steps of a file that is read whole.
use Rattle.std.proofs.Common.{All, ◌≡◌, ℕ, ◌+◌, ◌-◌, ◌<◌, ◌≤◌, Bool, false, List, [], ◌∷◌, ◌++◌, length, refl, subst, ap, sym, ◌∙◌, arith, inl, inr}
use Rattle.std.specs.Prelude.{IfSome, nat_eq, not}
use Rattle.std.proofs.lemmas.Bool.{cases_lt}
use Rattle.std.proofs.lemmas.List.{append-nil}
use Rattle.fits_stream.specs.declared.reading.ReadFault.{ReadFault}
use Rattle.fits_stream.specs.declared.reading.ReadFault.TheVariants as read_fault
use Rattle.fits_stream.specs.Gave.{Gave, Overruns}
use Rattle.fits_stream.specs.Intake.{TakingStops, GivesAll, IsOver, Supply, Takes, TellsAll}
use Rattle.fits_stream.specs.Stream.{IsDry, SourceState}
use Rattle.fits_stream.proofs.GaveLemmas.{gave}
use Rattle.fits_stream.proofs.SightLemmas.{no_bytes, rest_given, takes_fewer, takes_more, takes_then_fails, takes_then_quiet, tells_after}
use Rattle.fits_passing.specs.Hdu.{HduParts}
use Rattle.fits_hdu.specs.Reading.{IsKeptWhole}
use Rattle.fits_hdu.specs.State.{HduState}
use Rattle.fits_passing.specs.File.{begins_extension, file_bytes, is_followed, joined_hdus, IsFile, IsFileOf}
use Rattle.fits_passing.specs.declared.limits.TheConstants.{FILE_LIMIT, HDU_LIMIT}
use Rattle.fits_passing.specs.Reading.{of_read, GaveFault, KeepsEach, SupplyStops, Walked}
use Rattle.fits_session.specs.Reading.{IsReadWhole}
use Rattle.fits_session.specs.Session.{file_of, hdus_of, state_of, IsHeld}
use Rattle.fits_passing.specs.declared.open_fault.OpenFault.TheVariants.{Memory}
use Rattle.fits_passing.specs.declared.read_file_fault.ReadFileFault.{ReadFileFault}
use Rattle.fits_passing.specs.declared.read_file_fault.ReadFileFault.TheVariants.{Failed}
use Rattle.fits_hdu.specs.Work.{IsOpened}
use Rattle.std.proofs.lemmas.List.Elements.{All-cons, All-nil}
use Rattle.fits_passing.proofs.WalkLemmas.{extension_same, file_walked, followed}

-- the bytes after HDUs weren't taken
pub tail_stops : {K : Type 0} (keeps : K → HduParts → Type 0) (ks : List K) (a b : Supply) (c : SourceState) (fault : ReadFault) (why : ReadFileFault) → Walked keeps ks a b → TakingStops b.source c fault → why ≡ of_read fault → SupplyStops a c why
tail_stops keeps ks a b c read_fault.Memory why p stops is = rw is (takes_then_quiet a b c (joined_hdus p.hdus) p.taken stops)
tail_stops keeps ks a b c read_fault.Failed why p stops is = rw is (takes_then_fails a b c (joined_hdus p.hdus) p.taken stops)

-- memory was refused, or a call failed
pub gave_of_read : (a b : SourceState) (fault : ReadFault) (why : ReadFileFault) → why ≡ of_read fault → GaveFault a b why
gave_of_read a b read_fault.Memory why is = rw is tt
gave_of_read a b read_fault.Failed why is = rw is tt

-- so they do where what is seen isn't empty
pub followed_seen : (bytes : List ℕ) (none : Bool) → none ≡ nat_eq (length bytes) 0 → not none ≡ is_followed bytes
followed_seen bytes none is = ap not is ∙ followed bytes

-- the HDUs that are kept whole are those of the file
each_is : (hdus : List HduState) (us : List HduParts) → KeepsEach IsKeptWhole hdus us → hdus_of hdus ≡ us
each_is [] [] p = refl
each_is [] (u ∷ us) p = absurd p
each_is (hdu ∷ hdus) [] p = absurd p
each_is (hdu ∷ hdus) (u ∷ us) p = rw (p.0.parts, each_is hdus us p.1) refl

-- and were opened
each_opened : (hdus : List HduState) (us : List HduParts) → KeepsEach IsKeptWhole hdus us → All (IsOpened 0) hdus
each_opened [] [] p = All-nil (IsOpened 0)
each_opened [] (u ∷ us) p = absurd p
each_opened (hdu ∷ hdus) [] p = absurd p
each_opened (hdu ∷ hdus) (u ∷ us) p = All-cons (IsOpened 0) hdu hdus p.0.opened (each_opened hdus us p.1)

-- and are in memory
each_held : (hdus : List HduState) (us : List HduParts) → KeepsEach IsKeptWhole hdus us → All IsHeld hdus
each_held [] [] p = All-nil IsHeld
each_held [] (u ∷ us) p = absurd p
each_held (hdu ∷ hdus) [] p = absurd p
each_held (hdu ∷ hdus) (u ∷ us) p = All-cons IsHeld hdu hdus p.0.held (each_held hdus us p.1)

-- how many bytes the HDUs have
pub hdus_length : {K : Type 0} (keeps : K → HduParts → Type 0) (ks : List K) (a b : Supply) (p : Walked keeps ks a b) → length a.ahead + a.left ≡ length b.ahead + b.left + length (joined_hdus p.hdus)
hdus_length keeps ks a b p = takes_fewer a b (joined_hdus p.hdus) p.taken

-- they and a tail were taken
pub all_passed : {K : Type 0} (keeps : K → HduParts → Type 0) (ks : List K) (tail : List ℕ) (a b c : Supply) (p : Walked keeps ks a b) → Takes b c tail → Takes a c (joined_hdus p.hdus ++ tail)
all_passed keeps ks tail a b c p q = takes_more a b c (joined_hdus p.hdus) tail p.taken q

-- and are a file, of which nothing is left
pub walked_whole : {K : Type 0} (keeps : K → HduParts → Type 0) (ks : List K) (tail : List ℕ) (bytes : ℕ) (a b c : Supply) (d : SourceState) (p : Walked keeps ks a b) → length a.ahead + a.left ≤ FILE_LIMIT → Takes b c tail → 0 < length ks → length ks ≤ HDU_LIMIT → begins_extension tail ≡ false
    → IsOver c → IfSome c.source.remaining (λ ys. length ys ≤ c.left) → bytes ≡ length (joined_hdus p.hdus ++ tail) → Overruns c.left false c.source d → IsDry d → IsReadWhole keeps ks bytes tail a d
walked_whole keeps ks tail bytes a b c d p limit q some few ends over short len rest dry =
    let all : List ℕ = joined_hdus p.hdus ++ tail in
    let taken : Takes a c all = all_passed keeps ks tail a b c p q in
    let s = rest_given c short in
    let told : TellsAll a (all ++ (c.ahead ++ s.0)) = tells_after a c all s.0 taken s.1 in
    let none : c.ahead ++ s.0 ≡ [] = ap (λ t. t ++ s.0) over.none ∙ s.2.1 over.spent in
    record {
      hdus = p.hdus;
      each = p.each;
      whole = file_walked keeps ks p.hdus tail p.each p.front some few ends (omega (arith, limit, takes_fewer a c all taken));
      len = len;
      told = subst (TellsAll a) (ap (λ t. all ++ t) none ∙ append-nil all) told;
      came = λ begun. gave a c d all begun taken over rest dry;
    }

-- so HDUs that are kept whole and a tail are the file
pub whole_given : (hdus : List HduState) (bytes : ℕ) (tail : List ℕ) (a : Supply) (d : SourceState) → IsReadWhole IsKeptWhole hdus bytes tail a d → GivesAll a (λ all. IsFileOf all (file_of (state_of hdus tail)))
whole_given hdus bytes tail a d r = rw (each_is hdus r.hdus r.each) (file_bytes (record { hdus = r.hdus; tail = tail }), r.told, r.whole)

-- and what came
pub whole_came : (hdus : List HduState) (bytes : ℕ) (tail : List ℕ) (a : Supply) (d : SourceState) → IsReadWhole IsKeptWhole hdus bytes tail a d → a.ahead ≡ [] → Gave a.source d (file_bytes (file_of (state_of hdus tail)))
whole_came hdus bytes tail a d r begun = rw (each_is hdus r.hdus r.each) (r.came begun)

-- they are one
pub whole_is : (hdus : List HduState) (bytes : ℕ) (tail : List ℕ) (a : Supply) (d : SourceState) → IsReadWhole IsKeptWhole hdus bytes tail a d → IsFile (file_of (state_of hdus tail))
whole_is hdus bytes tail a d r = rw (each_is hdus r.hdus r.each) r.whole

-- of so many bytes
pub whole_long : (hdus : List HduState) (bytes : ℕ) (tail : List ℕ) (a : Supply) (d : SourceState) → IsReadWhole IsKeptWhole hdus bytes tail a d → bytes ≡ length (file_bytes (file_of (state_of hdus tail)))
whole_long hdus bytes tail a d r = rw (each_is hdus r.hdus r.each) r.len

-- they were opened
pub whole_opened : (hdus : List HduState) (bytes : ℕ) (tail : List ℕ) (a : Supply) (d : SourceState) → IsReadWhole IsKeptWhole hdus bytes tail a d → All (IsOpened 0) hdus
whole_opened hdus bytes tail a d r = each_opened hdus r.hdus r.each

-- and are in memory
pub whole_held : (hdus : List HduState) (bytes : ℕ) (tail : List ℕ) (a : Supply) (d : SourceState) → IsReadWhole IsKeptWhole hdus bytes tail a d → All IsHeld hdus
whole_held hdus bytes tail a d r = each_held hdus r.hdus r.each

-- the tail that was read begins no extension
pub tail_ends : (tail : List ℕ) (a b : Supply) → Takes a b tail → b.ahead ≡ [] → 2880 ≤ length a.ahead → begins_extension tail ≡ begins_extension a.ahead
tail_ends tail a b p none many =
    let all : a.ahead ++ p.more ≡ tail = p.joined ∙ (ap (λ t. tail ++ t) none ∙ append-nil tail) in
    ap begins_extension (sym all) ∙ extension_same a.ahead p.more (inr (omega (arith, many)))

-- as many bytes were taken as might be
pub all_taken : (tail : List ℕ) (a b : Supply) → Takes a b tail → length a.ahead + a.left ≤ length tail → IsOver b
all_taken tail a b p all =
    let count = takes_fewer a b tail p in
    record { none = no_bytes b.ahead (omega (arith, count, all)); spent = inl (omega (arith, count, all)) }

-- so all were, or no more comes
pub taken_over : (tail : List ℕ) (a b : Supply) (left : ℕ) → Takes a b tail → left ≡ length a.ahead + a.left → (length tail < left → IsOver b) → IsOver b
taken_over tail a b left p is short =
    elim (cases_lt (length tail) left) [ inl less ↦ short less | inr all ↦ all_taken tail a b p (omega (arith, is, all)) ]
