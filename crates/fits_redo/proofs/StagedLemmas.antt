-- What a crash leaves while a redo file is written.
use Rattle.std.proofs.Common.{◌≡◌, ◌≢◌, ◌⊎◌, inl, inr, ⊎_elim, ℕ, ◌≤◌, nat_lt, ◌==◌, Bool, true, false, ◌&&◌, if◌then◌else◌, List, ◌∷◌, ◌++◌, length, take, None, Some, refl, ◌∙◌, ap, arith}
use Rattle.std.proofs.lemmas.Bool.{cases_eq}
use Rattle.std.proofs.lemmas.Bool.Decides.{nat_tests}
use Rattle.std.specs.Str.{bytes_eq}
use Rattle.fits_redo.specs.Pair.{Files, Begins, Grows, Opens, Removes}
use Rattle.fits_redo.specs.Redo.{signature, is_open, is_whole, is_due, told, told_len, made_of, recovered}
use Rattle.fits_redo.specs.Plan.{agrees, redone}
use Rattle.fits_redo.specs.Protocol.{IsStaged}

-- what is joined with a test that fails does
and_false : (a : Bool) → (a && false) ≡ false
and_false true = refl
and_false false = refl

-- also where that is the first
no_and : (a b : Bool) → a ≡ false → (a && b) ≡ false
no_and a b e = rw e refl

-- a redo file that isn't due makes nothing
unmade : (bytes file : List ℕ) (due : Bool) → due ≡ false → (if due then redone (told bytes) file else file) ≡ file
unmade bytes file due e = rw e refl

-- a redo file that isn't open makes nothing
pub closed_made : (bytes file : List ℕ) → is_open bytes ≡ false → made_of (Some bytes) file ≡ file
closed_made bytes file shut =
    unmade bytes file (is_due bytes file)
    (no_and (is_open bytes && is_whole bytes) (agrees (told_len bytes) (told bytes) file) (no_and (is_open bytes) (is_whole bytes) shut))

-- nor does one that is no more than a head
pub short_made : (bytes file : List ℕ) → length bytes ≤ 24 → made_of (Some bytes) file ≡ file
short_made bytes file short =
    let less : nat_lt 24 (length bytes) ≡ false = grind (arith, nat_tests) in
    closed_made bytes file (no_and (nat_lt 24 (length bytes)) (bytes_eq (take 8 bytes) (1 ∷ signature)) less)

-- another gate isn't an open one
other_gate : (gate : ℕ) (rest : List ℕ) → gate ≢ 1 → bytes_eq (take 8 (gate ∷ rest)) (1 ∷ signature) ≡ false
other_gate gate rest other =
    let differs : (gate == 1) ≡ false = grind (arith, nat_tests) in
    no_and (gate == 1) (bytes_eq (take 7 rest) signature) differs

-- so it makes nothing
pub gate_made : (gate : ℕ) (rest file : List ℕ) → gate ≢ 1 → made_of (Some (gate ∷ rest)) file ≡ file
gate_made gate rest file other =
    closed_made (gate ∷ rest) file (ap (λ b. nat_lt 24 (length (gate ∷ rest)) && b) (other_gate gate rest other) ∙ and_false (nat_lt 24 (length (gate ∷ rest))))

-- beside such a redo file the file is staged
pub staged : (file new bytes : List ℕ) (c : Files) → c.file ≡ file → c.redo ≡ Some bytes → (made_of (Some bytes) file ≡ file) ⊎ (made_of (Some bytes) file ≡ new) → IsStaged file new c
staged file new bytes c same is either = record {
  file = same;
  either = ⊎_elim (λ old. inl ((λ i. made_of (is i) (same i)) ∙ old)) (λ made. inr ((λ i. made_of (is i) (same i)) ∙ made)) either;
}

-- where no redo file stands
pub alone_staged : (file new : List ℕ) (c : Files) → c.file ≡ file → c.redo ≡ None → IsStaged file new c
alone_staged file new c same none = record { file = same; either = inl (λ i. made_of (none i) (same i)) }

-- where one was begun
pub begun_staged : (count : ℕ) (new : List ℕ) (f c : Files) → f.redo ≡ None → count ≤ 24 → Begins count f c → IsStaged f.file new c
begun_staged count new f c none short begun = by begun.redo
  where
    by : (c.redo ≡ f.redo) ⊎ ((bytes : List ℕ) × (c.redo ≡ Some bytes) × (length bytes ≤ count)) → IsStaged f.file new c
    by (inl same) = alone_staged f.file new c begun.file (same ∙ none)
    by (inr some) = staged f.file new some.0 c begun.file some.1 (inl (short_made some.0 f.file (omega (arith, some.2))))

-- where its gate is shut, whatever follows
pub grown_staged : (file new rest : List ℕ) (c : Files) → Grows (record { file = file; redo = Some (0 ∷ rest) }) c → IsStaged file new c
grown_staged file new rest c grown =
    staged file new (0 ∷ rest ++ grown.redo.0) c grown.file grown.redo.1 (inl (gate_made 0 (rest ++ grown.redo.0) file (omega arith)))

-- where its gate was being opened
pub opened_staged : (file new rest : List ℕ) (c : Files) → made_of (Some (1 ∷ rest)) file ≡ new → Opens (record { file = file; redo = Some (0 ∷ rest) }) c → IsStaged file new c
opened_staged file new rest c makes opened = staged file new (opened.redo.0 ∷ rest) c opened.file opened.redo.1 (by (cases_eq opened.redo.0 1))
  where
    by : (opened.redo.0 ≡ 1) ⊎ (opened.redo.0 ≢ 1) → (made_of (Some (opened.redo.0 ∷ rest)) file ≡ file) ⊎ (made_of (Some (opened.redo.0 ∷ rest)) file ≡ new)
    by (inl open_gate) = inr (ap (λ g. made_of (Some (g ∷ rest)) file) open_gate ∙ makes)
    by (inr shut) = inl (gate_made opened.redo.0 rest file shut)

-- where it was being removed
pub removed_staged : (file new : List ℕ) (d c : Files) → IsStaged file new d → Removes d c → IsStaged file new c
removed_staged file new d c was removed = by removed.redo
  where
    by : (c.redo ≡ d.redo) ⊎ (c.redo ≡ None) → IsStaged file new c
    by (inl same) = let is : recovered c ≡ recovered d = λ i. made_of (same i) (removed.file i) in record { file = removed.file ∙ was.file; either = ⊎_elim (λ old. inl (is ∙ old)) (λ made. inr (is ∙ made)) was.either }
    by (inr gone) = alone_staged file new c (removed.file ∙ was.file) gone
