-- Values against their spellings: each spelling of a kind has one value.
use Rattle.std.proofs.Common.{codes, ◌≡◌, ℕ, ◌+◌, ◌-◌, Bool, true, false, cond, List, [], ◌∷◌, length, drop, get_or, Option, None, Some, refl, sym, ◌∙◌, ap, subst, arith, length-append}
use Rattle.std.proofs.lemmas.List.{append-nil}
use Rattle.std.proofs.lemmas.Option.{same_Some}
use Rattle.fits_value.proofs.QuoteLemmas.{undoubled-doubled}
use Rattle.fits_value.proofs.PartLemmas.{part_is}
use Rattle.fits_value.proofs.PairLemmas.{FindsPair, pair_only}
use Rattle.fits_value.specs.Spelling.{doubled, IsComplexOf, IsStringOf, Spells}
use Rattle.fits_value.specs.Field.{part}
use Rattle.fits_value.specs.Text.{normal_form}
use Rattle.fits_value.specs.Scan.{pair_of, undoubled}
use Rattle.fits_value.specs.Value.{kind_of, IsValueOf}
use Rattle.fits_value.specs.declared.reading.ValueKind.TheVariants as kind
use Rattle.fits_value.specs.declared.scan_complex.Pair.{Pair}
use Rattle.fits_value.specs.declared.value.Value.{Value}
use Rattle.fits_value.specs.declared.value.Value.TheVariants.{Undefined, Logical, Integer, Real, Complex, Str}

-- where the parts of a complex number stand
pub record Scans (spelling real imaginary : List ℕ) : Type 0 where
  pub pair : Pair
  pub found : pair_of (drop 1 spelling) ≡ Some pair
  pub real_is : part spelling pair.real ≡ real
  pub imaginary_is : part spelling pair.imaginary ≡ imaginary

-- the parts of a complex number are found in its spelling
pub scans : (spelling real imaginary : List ℕ) → IsComplexOf spelling real imaginary → Scans spelling real imaginary
scans spelling real imaginary h =
    let w = subst (λ (x : List ℕ). FindsPair x spelling real imaginary) (append-nil spelling) (pair_only spelling real imaginary [] h) in
    let tail : drop 1 spelling ≡ w.tail = ap (λ (x : List ℕ). drop 1 x) w.begins in
    record { pair = w.pair; found = ap pair_of tail ∙ w.found; real_is = w.real_is; imaginary_is = w.imaginary_is }

-- a complex number is found after its bracket
pub complex_scans : (spelling behind : List ℕ) (found : Option Pair) → Spells kind.Complex spelling → behind ≡ drop 1 spelling → found ≡ pair_of behind → found ≡ None → ⊥
complex_scans spelling behind found h e f g =
    let w = scans spelling h.0 h.1 h.2 in
    let is : None ≡ Some w.pair = sym g ∙ (f ∙ (ap pair_of e ∙ w.found)) in
    (cc)

-- the parts that are found are those of the complex number
pub complex_read : (spelling behind real imaginary : List ℕ) (p : Pair) → Spells kind.Complex spelling → behind ≡ drop 1 spelling → Some p ≡ pair_of behind
    → real ≡ part spelling p.real → imaginary ≡ part spelling p.imaginary → IsComplexOf spelling real imaginary
complex_read spelling behind real imaginary p h e f r i =
    let w = scans spelling h.0 h.1 h.2 in
    let same : w.pair ≡ p = same_Some w.pair p (sym (f ∙ (ap pair_of e ∙ w.found))) in
    let r1 : h.0 ≡ real = sym w.real_is ∙ (ap (λ (x : Pair). part spelling x.real) same ∙ sym r) in
    let i1 : h.1 ≡ imaginary = sym w.imaginary_is ∙ (ap (λ (x : Pair). part spelling x.imaginary) same ∙ sym i) in
    subst (λ (x : List ℕ). IsComplexOf spelling x imaginary) r1 (subst (λ (x : List ℕ). IsComplexOf spelling h.0 x) i1 h.2)

-- a complex number has one pair of parts
one_complex : (spelling a b c d : List ℕ) → IsComplexOf spelling a b → IsComplexOf spelling c d → (a ≡ c) × (b ≡ d)
one_complex spelling a b c d g h =
    let v = scans spelling a b g in
    let w = scans spelling c d h in
    let same : v.pair ≡ w.pair = same_Some v.pair w.pair (sym v.found ∙ w.found) in (
      sym v.real_is ∙ (ap (λ (x : Pair). part spelling x.real) same ∙ w.real_is),
      sym v.imaginary_is ∙ (ap (λ (x : Pair). part spelling x.imaginary) same ∙ w.imaginary_is),
    )

-- what stands between the quotes
pub between_quotes : (spelling characters : List ℕ) (end : ℕ) → IsStringOf spelling characters → end ≡ length spelling - 1 → part spelling (record { start = 1; end = end }) ≡ doubled characters
between_quotes spelling characters end h e =
    let size : length spelling ≡ 1 + (length (doubled characters) + 1) = rw h (simp length-append (omega arith)) in
    part_is spelling (39 ∷ []) (doubled characters) (39 ∷ []) 1 end h refl (omega (arith, size, e))

-- the characters of a spelling
one_string : (a b : List ℕ) (spelling : List ℕ) → IsStringOf spelling a → IsStringOf spelling b → a ≡ b
one_string a b spelling g h =
    let x = between_quotes spelling a (length spelling - 1) g refl in
    let y = between_quotes spelling b (length spelling - 1) h refl in
    sym (undoubled-doubled a) ∙ (ap undoubled (sym x ∙ y) ∙ undoubled-doubled b)

-- T is not F
one_flag : (a b : Bool) → ◌≡◌ {A = List ℕ} (cond a (codes "T") (codes "F")) (cond b (codes "T") (codes "F")) → a ≡ b
one_flag true true e = refl
one_flag true false e = let x : ◌≡◌ {A = ℕ} 84 70 = ap (λ (l : List ℕ). get_or l 0 0) e in absurd (omega arith)
one_flag false true e = let x : ◌≡◌ {A = ℕ} 70 84 = ap (λ (l : List ℕ). get_or l 0 0) e in absurd (omega arith)
one_flag false false e = refl

-- a spelling of a kind has one value
pub one_value : (v w : Value) (spelling : List ℕ) → kind_of v ≡ kind_of w → IsValueOf v spelling → IsValueOf w spelling → v ≡ w
one_value Undefined Undefined s e g h = refl
one_value (Logical a) (Logical b) s e g h = ap Logical (one_flag a b (sym g ∙ h))
one_value (Integer a) (Integer b) s e g h = ap Integer (sym g ∙ h)
one_value (Real a) (Real b) s e g h = ap Real (sym g ∙ h)
one_value (Complex a b) (Complex c d) s e g h =
    let p = one_complex s a b c d g h in
    ap (λ (x : List ℕ). Complex x b) p.0 ∙ ap (λ (x : List ℕ). Complex c x) p.1
one_value (Str a) (Str b) s e g h =
    let same : g.0 ≡ h.0 = one_string g.0 h.0 s g.1 h.1 in
    ap Str (g.2 ∙ (ap normal_form same ∙ sym h.2))
one_value v w s e g h = absurd (cc)
