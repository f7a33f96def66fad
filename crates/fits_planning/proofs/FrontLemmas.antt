-- Fronts of a file that a plan makes others.
use Rattle.std.proofs.Common.{◌≡◌, ℕ, ◌+◌, ◌≤◌, true, List, [], ◌∷◌, ◌++◌, length, take, drop, refl, ap, sym, subst, ◌∙◌, arith, append_assoc}
use Rattle.std.proofs.lemmas.Bool.{eq-eqb}
use Rattle.std.proofs.lemmas.List.{length-append, length-drop, drop_at, drop-drop, take_at, take-append-drop}
use Rattle.std.proofs.Math.Seq.{take-add}
use Rattle.std.specs.Str.{bytes_eq}
use Rattle.fits_stream.specs.Agree.{IsOf, ReadsOn}
use Rattle.fits_stream.specs.Stored.{ReadLogState}
use Rattle.fits_stream.proofs.AgreeLemmas.{of_read}
use Rattle.fits_redo.specs.Plan.{IsPlanOf}
use Rattle.fits_redo.specs.declared.changed_block.ChangedBlock.{ChangedBlock}
use Rattle.fits_planning.specs.Front.{MakesFront}

-- what was read is what the file has there
pub there_read : (told bytes : List ℕ) (place : ℕ) (log log' : ReadLogState) → ReadsOn place log log' bytes → IsOf told log' → take (length bytes) (drop place told) ≡ bytes
there_read told bytes place log log' read is =
    ap (take (length bytes)) (of_read told place log log' bytes read is) ∙ take_at bytes (drop (place + length bytes) told) (length bytes) refl

-- and as many bytes
pub room_read : (told bytes : List ℕ) (place : ℕ) (log log' : ReadLogState) → ReadsOn place log log' bytes → IsOf told log' → length bytes ≤ length (drop place told)
room_read told bytes place log log' read is =
    omega (arith, ap length (of_read told place log log' bytes read is), length-append bytes (drop (place + length bytes) told))

-- bytes that were read there lengthen the front
pub front_more : (told after old : List ℕ) (place : ℕ) (log log' : ReadLogState) → ReadsOn place log log' old → IsOf told log' → length after ≡ place → take (length after + length old) told ≡ take (length after) told ++ old
front_more told after old place log log' read is here =
    take-add (length after) (length old) told ∙ ap (λ (l : List ℕ). take (length after) told ++ take (length old) l) (ap (λ n. drop n told) here) ∙ ap (λ (l : List ℕ). take (length after) told ++ l) (there_read told old place log log' read is)

-- a front with a block more
pub passed_one : (told after old new : List ℕ) (place : ℕ) (log log' : ReadLogState) (was now : List ChangedBlock) → ReadsOn place log log' old → IsOf told log' → length old ≡ length new → length after ≡ place → MakesFront told after was → IsPlanOf (take (length after) told ++ old) (after ++ new) now → MakesFront told (after ++ new) now
passed_one told after old new place log log' was now read is same here front plan =
    let size : length (after ++ new) ≡ length after + length old = omega (arith, length-append after new, same) in
    let longer : take (length (after ++ new)) told ≡ take (length after) told ++ old = ap (λ n. take n told) size ∙ front_more told after old place log log' read is here in
    record {
      within = omega (arith, size, room_read told old place log log' read is, length-drop place told, here, front.within);
      plan = subst (λ (l : List ℕ). IsPlanOf l (after ++ new) now) (sym longer) plan;
    }

-- bytes are those that they are
pub bytes_same : (xs : List ℕ) → bytes_eq xs xs ≡ true
bytes_same [] = refl
bytes_same (x ∷ xs) = rw (eq-eqb x x refl) (bytes_same xs)

-- what follows bytes that lie there
after_there : (told done : List ℕ) (place at : ℕ) → at ≡ place + length done → drop at told ≡ drop (length done) (drop place told)
after_there told done place at is = ap (λ n. drop n told) is ∙ sym (drop-drop (length done) place told)

-- bytes that lie there as a whole, lie there piece by piece
pub piece_there : (told bytes done piece more : List ℕ) (place at : ℕ) → bytes ≡ done ++ (piece ++ more) → at ≡ place + length done → take (length bytes) (drop place told) ≡ bytes → take (length piece) (drop at told) ≡ piece
piece_there told bytes done piece more place at joined is there =
    let rest : List ℕ = drop (length bytes) (drop place told) in
    let all : drop place told ≡ done ++ (piece ++ (more ++ rest)) =
    sym (take-append-drop (length bytes) (drop place told)) ∙ ap (λ (l : List ℕ). l ++ rest) (there ∙ joined) ∙ append_assoc done (piece ++ more) rest ∙ ap (λ (l : List ℕ). done ++ l) (append_assoc piece more rest) in
    ap (take (length piece)) (after_there told done place at is ∙ ap (drop (length done)) all ∙ drop_at done (piece ++ (more ++ rest)) (length done) refl) ∙ take_at piece (more ++ rest) (length piece) refl

-- one piece more lies there
pub there_more : (told done piece : List ℕ) (place at : ℕ) → at ≡ place + length done → take (length done) (drop place told) ≡ done → take (length piece) (drop at told) ≡ piece → take (length (done ++ piece)) (drop place told) ≡ done ++ piece
there_more told done piece place at is before there =
    ap (λ n. take n (drop place told)) (length-append done piece)
    ∙ take-add (length done) (length piece) (drop place told)
    ∙ ap (λ (l : List ℕ). l ++ take (length piece) (drop (length done) (drop place told))) before
    ∙ ap (λ (l : List ℕ). done ++ take (length piece) l) (sym (after_there told done place at is))
    ∙ ap (λ (l : List ℕ). done ++ l) there

-- a front of three parts
pub front_joined : (told after done block : List ℕ) (blocks : List ChangedBlock) → MakesFront told (after ++ done ++ block) blocks → MakesFront told (after ++ (done ++ block)) blocks
front_joined told after done block blocks front = subst (λ (l : List ℕ). MakesFront told l blocks) (append_assoc after done block) front
