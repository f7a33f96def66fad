-- HDUs that follow others in one of two files.
use Rattle.std.proofs.Common.{◌≡◌, ℕ, ◌+◌, ◌<◌, ◌≤◌, Bool, true, false, List, [], ◌∷◌, ◌++◌, length, refl, ap, sym, subst, ◌∙◌, append_assoc, arith, rules}
use Rattle.std.specs.Prelude.{All, nat_eq}
use Rattle.std.proofs.lemmas.Bool.{false≢true}
use Rattle.std.proofs.lemmas.List.{append-nil, length-append}
use Rattle.std.proofs.lemmas.List.Concat.{flat_map-append}
use Rattle.std.proofs.lemmas.List.Elements.{All-append, All-nil, All-push}
use Rattle.fits_stream.specs.Intake.{Supply, Takes}
use Rattle.fits_stream.specs.Stream.{FailsOnce}
use Rattle.fits_stream.proofs.SightLemmas.{takes_and_holds, takes_more, takes_none, takes_quiet, takes_then_fails, takes_then_quiet}
use Rattle.fits_passing.specs.Hdu.{HduParts, hdu_bytes, IsHdu}
use Rattle.fits_passing.specs.HduReading.{HduStops, TakesHdu}
use Rattle.fits_passing.specs.File.{begins_extension, IsFrontOf, joined_hdus}
use Rattle.fits_passing.specs.Reading.{file_fault_of, KeepsEach, NextBegins, Walked}
use Rattle.fits_passing.specs.declared.limits.TheConstants.{HDU_LIMIT}
use Rattle.fits_passing.specs.declared.open_fault.OpenFault.TheVariants.{TooLarge, Memory}
use Rattle.fits_passing.specs.declared.read_file_fault.ReadFileFault.TheVariants.{Open, Failed}
use Rattle.fits_passing.specs.declared.read_hdu_fault.ReadHduFault.{ReadHduFault}
use Rattle.fits_passing.proofs.WalkLemmas.{stops_by_hdu, stops_full, walk_failed, walk_quiet}
use Rattle.fits_diff.specs.Differences.{alone_line, alone_text}
use Rattle.fits_diff.specs.DiffSteps.{is_it, StopsOn, WalksOn}
use Rattle.fits_diff.proofs.LineLemmas.{numbered-append}

-- what is kept itself is the same
pub each_is : (ks us : List HduParts) → KeepsEach is_it ks us → us ≡ ks
each_is [] [] p = refl
each_is [] (u ∷ us) p = absurd p
each_is (k ∷ ks) [] p = absurd p
each_is (k ∷ ks) (u ∷ us) p = ap (λ x. x ∷ us) (sym p.0) ∙ ap (λ t. k ∷ t) (each_is ks us p.1)

-- each is kept itself
pub each_itself : (us : List HduParts) → KeepsEach is_it us us
each_itself [] = tt
each_itself (u ∷ us) = (refl, each_itself us)

-- a front, and extensions after it
front_on : (us more : List HduParts) → 0 < length us → IsFrontOf (joined_hdus us) us [] → All (IsHdu false) more → IsFrontOf (joined_hdus (us ++ more)) (us ++ more) []
front_on [] more some p q = absurd (omega (arith, some))
front_on (u ∷ us) more some p q = record { joined = sym (append-nil (joined_hdus (u ∷ (us ++ more)))); first = p.first; others = All-append (IsHdu false) us more p.others q }

-- the bytes of some, and of more
joined_both : (us more : List HduParts) → joined_hdus (us ++ more) ≡ joined_hdus us ++ joined_hdus more
joined_both us more = flat_map-append hdu_bytes us more

-- HDUs were walked over, and then more
pub walked_on : (us more : List HduParts) (a b c : Supply) → Walked is_it us a b → 0 < length us → All (IsHdu false) more → Takes b c (joined_hdus more) → Walked is_it (us ++ more) a c
walked_on us more a b c p some extensions taken =
    let same : p.hdus ≡ us = each_is us p.hdus p.each in
    let front : IsFrontOf (joined_hdus us) us [] = subst (λ (vs : List HduParts). IsFrontOf (joined_hdus vs) vs []) same p.front in
    let before : Takes a b (joined_hdus us) = subst (λ (vs : List HduParts). Takes a b (joined_hdus vs)) same p.taken in
    record {
      hdus = us ++ more;
      each = each_itself (us ++ more);
      front = front_on us more some front extensions;
      taken = subst (Takes a c) (sym (joined_both us more)) (takes_more a b c (joined_hdus us) (joined_hdus more) before taken);
    }

-- so many HDUs follow others so far, each with its line; where no extension began, none do
pub record OnSoFar (label : List ℕ) (count number : ℕ) (a a' : Supply) (text new : List ℕ) : Type 0 where
  pub more : List HduParts
  pub extensions : All (IsHdu false) more
  pub taken : Takes a a' (joined_hdus more)
  pub size : count + length more ≡ number
  pub none : begins_extension a.ahead ≡ false → (more ≡ []) × (a' ≡ a)
  pub told : new ≡ text ++ alone_text label (count + 1) more

-- none yet
pub on_none : (label : List ℕ) (count : ℕ) (a : Supply) (text : List ℕ) → OnSoFar label count count a a text text
on_none label count a text = record { more = []; extensions = All-nil (IsHdu false); taken = takes_none a; size = omega arith; none = λ e. (refl, refl); told = sym (append-nil text) }

-- one more
pub on_more : (keeps : HduParts → Type 0) (label : List ℕ) (count number next : ℕ) (a b c d : Supply) (text mid new : List ℕ) → OnSoFar label count number a b text mid → begins_extension b.ahead ≡ true → TakesHdu keeps false b c → Takes c d [] → next ≡ number + 1
    → new ≡ mid ++ alone_line label next → OnSoFar label count next a d text new
on_more keeps label count number next a b c d text mid new p begins q holds is told =
    let more : List HduParts = p.more ++ q.hdu ∷ [] in
    let bytes : joined_hdus more ≡ joined_hdus p.more ++ hdu_bytes q.hdu = joined_both p.more (q.hdu ∷ []) ∙ ap (λ t. joined_hdus p.more ++ t) (append-nil (hdu_bytes q.hdu)) in
    let place : count + 1 + length p.more ≡ next = omega (arith, p.size, is) in
    let lines : alone_text label (count + 1) more ≡ alone_text label (count + 1) p.more ++ alone_line label next =
    numbered-append (λ n hdu. alone_line label n) (count + 1) p.more (q.hdu ∷ [])
    ∙ ap (λ t. alone_text label (count + 1) p.more ++ t) (append-nil (alone_line label (count + 1 + length p.more)) ∙ ap (alone_line label) place) in
    record {
      more = more;
      extensions = All-push (IsHdu false) p.more q.hdu p.extensions q.whole;
      taken = subst (Takes a d) (sym bytes) (takes_more a b d (joined_hdus p.more) (hdu_bytes q.hdu) p.taken (takes_and_holds b c d (hdu_bytes q.hdu) q.taken holds));
      size = omega (arith, length-append p.more (q.hdu ∷ []), p.size, is);
      none = λ e. absurd (false≢true (sym e ∙ ap (λ (s : Supply). begins_extension s.ahead) (sym (p.none e).1) ∙ begins));
      told = told ∙ ap (λ t. t ++ alone_line label next) p.told ∙ append_assoc text (alone_text label (count + 1) p.more) (alone_line label next) ∙ ap (λ t. text ++ t) (sym lines);
    }

-- all that follow
pub on_all : (label : List ℕ) (count number : ℕ) (a a' : Supply) (text new : List ℕ) → OnSoFar label count number a a' text new → number ≤ HDU_LIMIT → WalksOn label count a a' text new
on_all label count number a a' text new p few = record { more = p.more; extensions = p.extensions; taken = p.taken; few = omega (arith, p.size, few); none = λ e. (p.none e).0; told = p.told }

-- above zero isn't zero
not_zero : (n : ℕ) → 0 < n → nat_eq n 0 ≡ false
not_zero n h = search rules

-- there are too many
pub on_full : (label : List ℕ) (count number : ℕ) (a b : Supply) (text new : List ℕ) → 0 < count → OnSoFar label count number a b text new → begins_extension b.ahead ≡ true → number ≡ HDU_LIMIT → StopsOn count a b (Open TooLarge)
on_full label count number a b text new some p begins all start hdus walked size limit =
    stops_full is_it (hdus ++ p.more) start b (walked_on hdus p.more start a b walked (omega (arith, size, some)) p.extensions p.taken) (omega (arith, length-append hdus p.more, size, p.size, all)) begins

-- the next one isn't read
pub on_stopped : (label : List ℕ) (count number h : ℕ) (a b c : Supply) (text new : List ℕ) (fault : ReadHduFault) → 0 < count → OnSoFar label count number a b text new → begins_extension b.ahead ≡ true → number < HDU_LIMIT → h ≡ number + 1 → HduStops false b c fault
    → StopsOn count a c (file_fault_of fault h)
on_stopped label count number h a b c text new fault some p begins few is stops start hdus walked size limit =
    let all : List HduParts = hdus ++ p.more in
    let many : length all ≡ number = omega (arith, length-append hdus p.more, size, p.size) in
    let later : nat_eq (length all) 0 ≡ false = not_zero (length all) (omega (arith, many, p.size, some)) in
    stops_by_hdu is_it all start b c h false fault limit (walked_on hdus p.more start a b walked (omega (arith, size, some)) p.extensions p.taken) (subst (λ (first : Bool). NextBegins first b.ahead) (sym later) begins) (omega (arith, many, few))
    (sym later) (omega (arith, many, is)) stops

-- memory was refused after one more
pub on_memory : (keeps : HduParts → Type 0) (label : List ℕ) (count number : ℕ) (a b c : Supply) (text new : List ℕ) → OnSoFar label count number a b text new → TakesHdu keeps false b c → StopsOn count a c (Open Memory)
on_memory keeps label count number a b c text new p q start hdus walked size limit =
    walk_quiet is_it hdus start a c.source walked (takes_then_quiet a b c.source (joined_hdus p.more) p.taken (takes_quiet b c (hdu_bytes q.hdu) q.taken))

-- or a call failed
pub on_failed : (keeps : HduParts → Type 0) (label : List ℕ) (count number : ℕ) (a b c d : Supply) (text new : List ℕ) → OnSoFar label count number a b text new → TakesHdu keeps false b c → FailsOnce c.source d.source → StopsOn count a d Failed
on_failed keeps label count number a b c d text new p q failed start hdus walked size limit =
    walk_failed is_it hdus start a d.source walked (takes_then_fails a b d.source (joined_hdus p.more) p.taken (takes_then_fails b c d.source (hdu_bytes q.hdu) q.taken failed))

pub ruleset alone_steps = (on_all)
