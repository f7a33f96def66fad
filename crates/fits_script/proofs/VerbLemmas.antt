-- A verb and its word.
use Rattle.std.proofs.Common.{◌≡◌, ℕ, List, [], ◌∷◌, map, refl, ap, sym, ◌∙◌, true, false, Bool, Option, None, Some}
use Rattle.std.specs.Prelude.{IsTrue, ◌↔◌, if◌then◌else◌}
use Rattle.std.specs.Char.{to_ascii_lowercase}
use Rattle.std.specs.Cmp.{both_ways}
use Rattle.std.specs.List.{find}
use Rattle.std.specs.Str.{bytes_eq}
use Rattle.std.proofs.lemmas.Slice.Eq.{bytes_eq-Decides}
use Rattle.fits_script.specs.Words.{verb_of, verb_word}
use Rattle.fits_script.specs.declared.verb.TheConstants.{VERBS}
use Rattle.fits_script.specs.declared.verb.Verb.{Verb}
use Rattle.fits_script.specs.declared.verb.Verb.TheVariants as verb

-- one of two things is there
pub either_some : {X P : Type 0} (test : Bool) (a b : Option X) (x : X) → (if test then a else b) ≡ Some x
    → (test ≡ true → a ≡ Some x → P) → (test ≡ false → b ≡ Some x → P) → P
either_some true a b x e first next = first refl e
either_some false a b x e first next = next refl e

-- what is found passes the test
found-passes : {X : Type 0} (test : X → Bool) (items : List X) (x : X) → find test items ≡ Some x → test x ≡ true
found-passes {X = X} test [] x e = absurd (let z : ◌≡◌ {A = Option X} None (Some x) = e in cc)
found-passes {X = X} test (y ∷ items) x e =
    either_some (test y) (Some y) (find test items) x e (λ passes same. let is : ◌≡◌ {A = X} y x = cc in rw (sym is) passes) (λ fails more. found-passes test items x more)

-- a word that is a verb is its word
pub verb_of-says : (word : List ℕ) (v : Verb) → verb_of word ≡ Some v → word ≡ verb_word v
unfolding verb_of
verb_of-says word v e = (bytes_eq-Decides word (verb_word v)).0 (found-passes (λ verb. bytes_eq word (verb_word verb)) VERBS v e)

-- the word of a verb is in lower case
lower_verb : (v : Verb) → map to_ascii_lowercase (verb_word v) ≡ verb_word v
lower_verb verb.Insert = refl
lower_verb verb.Put = refl
lower_verb verb.Delete = refl
lower_verb verb.Move = refl
lower_verb verb.Set = refl
lower_verb verb.Unset = refl
lower_verb verb.Fill = refl
lower_verb verb.Write = refl
lower_verb verb.Reshape = refl
lower_verb verb.New = refl
lower_verb verb.Remove = refl
lower_verb verb.Stamp = refl
lower_verb verb.Keep = refl
lower_verb verb.Release = refl
lower_verb verb.Kept = refl
lower_verb verb.Get = refl
lower_verb verb.Positions = refl
lower_verb verb.Statistics = refl
lower_verb verb.Rectangle = refl
lower_verb verb.Sums = refl
lower_verb verb.Offsets = refl
lower_verb verb.Report = refl

-- a word is a verb's but for its letters
pub in_capitals : (b : Bool) (word this : List ℕ) (v : Verb) → this ≡ verb_word v → IsTrue b ↔ (map to_ascii_lowercase word ≡ map to_ascii_lowercase this) → b ≡ bytes_eq (map to_ascii_lowercase word) (verb_word v)
in_capitals b word this v is h =
    let small : map to_ascii_lowercase this ≡ verb_word v = ap (map to_ascii_lowercase) is ∙ lower_verb v in
    let d = bytes_eq-Decides (map to_ascii_lowercase word) (verb_word v) in
    both_ways b (bytes_eq (map to_ascii_lowercase word) (verb_word v)) (λ e. d.1 (h.0 e ∙ small)) (λ e. h.1 (d.0 e ∙ sym small))

pub ruleset letter_steps = (in_capitals)
