-- Complex numbers as pairs of elements against their spellings, in both directions.
use Rattle.std.proofs.Common.{◌≡◌, ℕ, ◌≤◌, ◌+◌, eqb, List, [], ◌∷◌, ◌++◌, length, drop, take, Option, None, Some, refl, sym, ◌∙◌, ap, arith, inl, inr, append_assoc, length-append}
use Rattle.std.proofs.lemmas.Bool.{eqb-true}
use Rattle.std.proofs.Math.Seq.{drop-append_seam}
use Rattle.std.proofs.lemmas.Option.{same_Some}
use Rattle.fits_value.proofs.FrontLemmas.{chosen}
use Rattle.fits_value.proofs.PartLemmas.{part_is, take_is, drop_some}
use Rattle.fits_value.proofs.ComplexLemmas.{element_found, element_only, made_element}
use Rattle.fits_value.specs.Spelling.{IsSpaces, IsComplexOf}
use Rattle.fits_value.specs.Number.{IsNumber}
use Rattle.fits_value.specs.Field.{part}
use Rattle.fits_value.specs.Scan.{element_of, closed_of, second_of, comma_of, first_of, pair_of}
use Rattle.fits_value.specs.declared.scan_complex.Element.{Element}
use Rattle.fits_value.specs.declared.scan_complex.Pair.{Pair}

-- the pair of two elements
abbrev made_pair : Element → Element → Pair
made_pair real imaginary = record {
  real = record { start = 1 + real.start; end = 1 + real.end };
  imaginary = record { start = 2 + real.len + imaginary.start; end = 2 + real.len + imaginary.end };
  len = 3 + real.len + imaginary.len;
}

-- the steps of a pair that is found: an element, a comma, an element and a bracket
record Steps (s : List ℕ) (p : Pair) : Type 0 where
  real : Element
  imaginary : Element
  middle : List ℕ
  rest : List ℕ
  first : element_of s ≡ Some real
  comma : drop real.len s ≡ 44 ∷ middle
  second : element_of middle ≡ Some imaginary
  closing : drop imaginary.len middle ≡ 41 ∷ rest
  made : made_pair real imaginary ≡ p

-- the bracket
closed_steps : (real imaginary : Element) (s : List ℕ) (p : Pair) → closed_of real imaginary s ≡ Some p → (rest : List ℕ) × (s ≡ 41 ∷ rest) × (made_pair real imaginary ≡ p)
closed_steps real imaginary [] p e = absurd (cc)
closed_steps real imaginary (b ∷ s) p e = elim (chosen (eqb b 41) (Some (made_pair real imaginary)) None (Some p) e) [
  | inl w ↦ (s, ap (λ (x : ℕ). x ∷ s) (eqb-true b 41 w.0), same_Some _ p w.1)
  | inr w ↦ absurd (let z = w.1 in (cc))
]

-- the second element
second_steps : (real : Element) (s : List ℕ) (o : Option Element) (p : Pair) → second_of real s o ≡ Some p
    → (imaginary : Element) × (rest : List ℕ) × (o ≡ Some imaginary) × (drop imaginary.len s ≡ 41 ∷ rest) × (made_pair real imaginary ≡ p)
second_steps real s None p e = absurd (cc)
second_steps real s (Some imaginary) p e = let w = closed_steps real imaginary (drop imaginary.len s) p e in (imaginary, w.0, refl, w.1, w.2)

-- the comma
comma_steps : (real : Element) (s : List ℕ) (p : Pair) → comma_of real s ≡ Some p
    → (middle : List ℕ) × (imaginary : Element) × (rest : List ℕ) × (s ≡ 44 ∷ middle) × (element_of middle ≡ Some imaginary) × (drop imaginary.len middle ≡ 41 ∷ rest) × (made_pair real imaginary ≡ p)
comma_steps real [] p e = absurd (cc)
comma_steps real (b ∷ s) p e = elim (chosen (eqb b 44) (second_of real s (element_of s)) None (Some p) e) [
  | inl w ↦ let v = second_steps real s (element_of s) p w.1 in (s, v.0, v.1, ap (λ (x : ℕ). x ∷ s) (eqb-true b 44 w.0), v.2, v.3, v.4)
  | inr w ↦ absurd (let z = w.1 in (cc))
]

-- the first element
first_steps : (s : List ℕ) (o : Option Element) (p : Pair) → element_of s ≡ o → first_of s o ≡ Some p → Steps s p
first_steps s None p f e = absurd (cc)
first_steps s (Some real) p f e =
    let w = comma_steps real (drop real.len s) p e in
    record { real = real; imaginary = w.1; middle = w.0; rest = w.2; first = f; comma = w.3; second = w.4; closing = w.5; made = w.6 }

-- each step of a pair that is found
pair_steps : (s : List ℕ) (p : Pair) → pair_of s ≡ Some p → Steps s p
unfolding pair_of
pair_steps s p e = first_steps s (element_of s) p refl e

-- a complex number by its parts, before a rest
record IsPairOf (text : List ℕ) (p : Pair) : Type 0 where
  before_real : List ℕ
  real : List ℕ
  after_real : List ℕ
  before_imaginary : List ℕ
  imaginary : List ℕ
  after_imaginary : List ℕ
  rest : List ℕ
  spaces_real : IsSpaces before_real × IsSpaces after_real
  spaces_imaginary : IsSpaces before_imaginary × IsSpaces after_imaginary
  is_real : IsNumber real
  is_imaginary : IsNumber imaginary
  whole : text ≡ 40 ∷ (before_real ++ (real ++ (after_real ++ 44 ∷ (before_imaginary ++ (imaginary ++ (after_imaginary ++ 41 ∷ rest))))))
  real_start : p.real.start ≡ 1 + length before_real
  real_end : p.real.end ≡ 1 + length before_real + length real
  imaginary_start : p.imaginary.start ≡ 2 + (length before_real + length real + length after_real) + length before_imaginary
  imaginary_end : p.imaginary.end ≡ 2 + (length before_real + length real + length after_real) + length before_imaginary + length imaginary
  len : p.len ≡ 3 + (length before_real + length real + length after_real) + (length before_imaginary + length imaginary + length after_imaginary)

-- the parts of a pair that is found
pair_parts : (s : List ℕ) (p : Pair) → pair_of s ≡ Some p → IsPairOf (40 ∷ s) p
pair_parts s p f =
    let w = pair_steps s p f in
    let a = element_found s w.real (let h = drop_some w.real.len s 44 w.middle w.comma in omega arith) w.first in
    let b = element_found w.middle w.imaginary (let h = drop_some w.imaginary.len w.middle 41 w.rest w.closing in omega arith) w.second in
    let behind : drop w.real.len s ≡ 44 ∷ (b.before ++ (b.number ++ (b.after ++ 41 ∷ w.rest))) =
    w.comma ∙ ap (λ (x : List ℕ). 44 ∷ x) (b.whole ∙ ap (λ (x : List ℕ). b.before ++ (b.number ++ (b.after ++ x))) w.closing) in
    let made = w.made in
    let m1 : 1 + w.real.start ≡ p.real.start = ap (λ (x : Pair). x.real.start) made in
    let m2 : 1 + w.real.end ≡ p.real.end = ap (λ (x : Pair). x.real.end) made in
    let m3 : 2 + w.real.len + w.imaginary.start ≡ p.imaginary.start = ap (λ (x : Pair). x.imaginary.start) made in
    let m4 : 2 + w.real.len + w.imaginary.end ≡ p.imaginary.end = ap (λ (x : Pair). x.imaginary.end) made in
    let m5 : 3 + w.real.len + w.imaginary.len ≡ p.len = ap (λ (x : Pair). x.len) made in
    record {
      before_real = a.before;
      real = a.number;
      after_real = a.after;
      before_imaginary = b.before;
      imaginary = b.number;
      after_imaginary = b.after;
      rest = w.rest;
      spaces_real = a.spaced;
      spaces_imaginary = b.spaced;
      is_real = a.is_number;
      is_imaginary = b.is_number;
      whole = ap (λ (x : List ℕ). 40 ∷ x) (a.whole ∙ ap (λ (x : List ℕ). a.before ++ (a.number ++ (a.after ++ x))) behind);
      real_start = omega (arith, a.start, m1);
      real_end = omega (arith, a.end, m2);
      imaginary_start = omega (arith, a.len, b.start, m3);
      imaginary_end = omega (arith, a.len, b.end, m4);
      len = omega (arith, a.len, b.len, m5);
    }

-- a pair that is found lies in the text
pub pair_within : (s : List ℕ) (p : Pair) → pair_of s ≡ Some p → p.len ≤ length (40 ∷ s)
pair_within s p f =
    let h = pair_parts s p f in
    let size : length (40 ∷ s) ≡ 3 + (length h.before_real + length h.real + length h.after_real) + (length h.before_imaginary + length h.imaginary + length h.after_imaginary) + length h.rest =
    ap length h.whole ∙ simp length-append (omega arith) in
    omega (arith, size, h.len)

-- the spelling of a pair
pair_spelled : (text : List ℕ) (p : Pair) → IsPairOf text p → IsComplexOf (take p.len text) (part text p.real) (part text p.imaginary)
pair_spelled text p h =
    let spelling : List ℕ = 40 ∷ h.before_real ++ h.real ++ h.after_real ++ 44 ∷ h.before_imaginary ++ h.imaginary ++ h.after_imaginary ++ 41 ∷ [] in
    let whole : text ≡ spelling ++ h.rest = h.whole ∙ simp append_assoc in
    let size : p.len ≡ length spelling = h.len ∙ simp length-append (omega arith) in
    let real : part text p.real ≡ h.real =
    part_is text (40 ∷ h.before_real) h.real (h.after_real ++ 44 ∷ (h.before_imaginary ++ (h.imaginary ++ (h.after_imaginary ++ 41 ∷ h.rest)))) p.real.start p.real.end
    h.whole (h.real_start ∙ omega arith) (h.real_end ∙ omega arith) in
    let front : List ℕ = 40 ∷ h.before_real ++ h.real ++ h.after_real ++ 44 ∷ h.before_imaginary in
    let imaginary : part text p.imaginary ≡ h.imaginary =
    part_is text front h.imaginary (h.after_imaginary ++ 41 ∷ h.rest) p.imaginary.start p.imaginary.end
    (h.whole ∙ simp append_assoc) (h.imaginary_start ∙ simp length-append (omega arith)) (h.imaginary_end ∙ simp length-append (omega arith)) in
    rw (real, imaginary, take_is text spelling h.rest p.len whole size) (record {
      before_real = h.before_real;
      after_real = h.after_real;
      before_imaginary = h.before_imaginary;
      after_imaginary = h.after_imaginary;
      spaces_real = h.spaces_real;
      spaces_imaginary = h.spaces_imaginary;
      is_real = h.is_real;
      is_imaginary = h.is_imaginary;
      parts = refl;
    })

-- a complex number that is found is spelled so
pub pair_found : (s : List ℕ) (p : Pair) → pair_of s ≡ Some p → IsComplexOf (take p.len (40 ∷ s)) (part (40 ∷ s) p.real) (part (40 ∷ s) p.imaginary)
pair_found s p f = pair_spelled (40 ∷ s) p (pair_parts s p f)

-- where the parts of a complex number stand that is found at the front of a text
pub record FindsPair (text spelling real imaginary : List ℕ) : Type 0 where
  pub tail : List ℕ
  pub pair : Pair
  pub begins : text ≡ 40 ∷ tail
  pub found : pair_of tail ≡ Some pair
  pub len : pair.len ≡ length spelling
  pub real_is : part text pair.real ≡ real
  pub imaginary_is : part text pair.imaginary ≡ imaginary

-- what stands after three prefixes
drop_three : (a b c r : List ℕ) → drop (length a + length b + length c) (a ++ (b ++ (c ++ r))) ≡ r
drop_three a b c r =
    let size : length a + length b + length c ≡ length (a ++ (b ++ c)) = simp length-append (omega arith) in
    let whole : a ++ (b ++ (c ++ r)) ≡ (a ++ (b ++ c)) ++ r = simp append_assoc in
    rw (size, whole, drop-append_seam (a ++ (b ++ c)) r) refl

-- the pair whose elements are found
pair_made : (s middle rest : List ℕ) (x y : Element) → element_of s ≡ Some x → drop x.len s ≡ 44 ∷ middle → element_of middle ≡ Some y → drop y.len middle ≡ 41 ∷ rest
    → pair_of s ≡ Some (made_pair x y)
unfolding pair_of
pair_made s middle rest x y a b c d = rw (a, b, c, d) refl

-- a complex number that is spelled so is found
pub pair_only : (spelling real imaginary r : List ℕ) → IsComplexOf spelling real imaginary → FindsPair (spelling ++ r) spelling real imaginary
pair_only spelling real imaginary r h =
    let last : List ℕ = 41 ∷ r in
    let middle : List ℕ = h.before_imaginary ++ (imaginary ++ (h.after_imaginary ++ last)) in
    let tail : List ℕ = h.before_real ++ (real ++ (h.after_real ++ 44 ∷ middle)) in
    let x = made_element h.before_real real h.after_real in
    let y = made_element h.before_imaginary imaginary h.after_imaginary in
    let parts : spelling ≡ 40 ∷ h.before_real ++ real ++ h.after_real ++ 44 ∷ h.before_imaginary ++ imaginary ++ h.after_imaginary ++ 41 ∷ [] = h.parts in
    let begins : spelling ++ r ≡ 40 ∷ tail = ap (λ (s : List ℕ). s ++ r) parts ∙ simp append_assoc in
    let first = element_only h.before_real real h.after_real (44 ∷ middle) h.spaces_real.0 h.is_real h.spaces_real.1 (inr (inr (inl refl))) refl in
    let second = element_only h.before_imaginary imaginary h.after_imaginary last h.spaces_imaginary.0 h.is_imaginary h.spaces_imaginary.1 (inr (inr (inr refl))) refl in
    let cut : drop x.len tail ≡ 44 ∷ middle = drop_three h.before_real real h.after_real (44 ∷ middle) in
    let cut_last : drop y.len middle ≡ last = drop_three h.before_imaginary imaginary h.after_imaginary last in
    record {
      tail = tail;
      pair = made_pair x y;
      begins = begins;
      found = pair_made tail middle r x y first cut second cut_last;
      len = sym (ap (λ (s : List ℕ). length s) h.parts ∙ simp length-append (omega arith));
      real_is = part_is (spelling ++ r) (40 ∷ h.before_real) real (h.after_real ++ 44 ∷ middle) _ _ begins (omega arith) (omega arith);
      imaginary_is = part_is (spelling ++ r) (40 ∷ h.before_real ++ real ++ h.after_real ++ 44 ∷ h.before_imaginary) imaginary (h.after_imaginary ++ last) _ _
          (begins ∙ simp append_assoc) (simp length-append (omega arith)) (simp length-append (omega arith));
    }
