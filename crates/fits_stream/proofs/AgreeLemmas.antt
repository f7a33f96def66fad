-- Reads of a stored file, and files that they may be of.
use Rattle.std.proofs.Common.{◌≡◌, ℕ, zero, suc, ◌+◌, ◌-◌, ◌≤◌, List, [], ◌∷◌, ◌++◌, length, drop, refl, ap, sym, subst, ◌∙◌, arith, Some}
use Rattle.std.specs.List.{slice_get}
use Rattle.std.proofs.lemmas.List.{append-nil}
use Rattle.std.proofs.lemmas.Option.{none-some, same_Some}
use Rattle.fits_stream.specs.Agree.{EndsAt, IsOf, ReadsOn}
use Rattle.fits_stream.specs.Log.{placed, unskipped, Adds, AreThere, Log}
use Rattle.fits_stream.specs.Stored.{ReadLogState}

-- what lies there as a whole, lies there in part
some_there : (at : ℕ) (bytes : List ℕ) (some more : List (ℕ × ℕ)) → AreThere at bytes (some ++ more) → AreThere at bytes some
some_there at bytes [] more p = tt
some_there at bytes (one ∷ some) more p = (p.0, some_there at bytes some more p.1)

-- and the last of them
more_there : (at : ℕ) (bytes : List ℕ) (some more : List (ℕ × ℕ)) → AreThere at bytes (some ++ more) → AreThere at bytes more
more_there at bytes [] more p = p
more_there at bytes (one ∷ some) more p = more_there at bytes some more p.1

-- a file of later reads is one of earlier reads
pub of_before : (xs : List ℕ) (place : ℕ) (old new : ReadLogState) (bytes : List ℕ) → ReadsOn place old new bytes → IsOf xs new → IsOf xs old
of_before xs place old new bytes p is = record {
  came = some_there 0 xs old.came (placed place bytes) (subst (AreThere 0 xs) p.came is.came);
  ends = λ n end there. is.ends n end (p.ends n end there);
}

-- the bytes that follow one
drop_next : (xs : List ℕ) (i x : ℕ) → slice_get xs i ≡ Some x → drop i xs ≡ x ∷ drop (i + 1) xs
drop_next [] i x p = absurd (none-some x p)
drop_next (y ∷ xs) zero x p = let e : 0 + 1 ≡ suc 0 = omega arith in ap (λ t. t ∷ xs) (same_Some y x p) ∙ ap (λ k. x ∷ drop k (y ∷ xs)) (sym e)
drop_next (y ∷ xs) (suc i) x p = let e : suc i + 1 ≡ suc (i + 1) = omega arith in drop_next xs i x p ∙ ap (λ k. x ∷ drop k (y ∷ xs)) (sym e)

-- bytes that lie in a file from a place on begin what it has there
placed_are : (xs : List ℕ) (place : ℕ) (bytes : List ℕ) → AreThere 0 xs (placed place bytes) → drop place xs ≡ bytes ++ drop (place + length bytes) xs
placed_are xs place [] p = let e : place ≡ place + 0 = omega arith in ap (λ k. drop k xs) e
placed_are xs place (b ∷ bytes) p =
    let here : place - 0 ≡ place = omega arith in
    let next : place + 1 + length bytes ≡ place + length (b ∷ bytes) = omega arith in
    drop_next xs place b (ap (slice_get xs) (sym here) ∙ p.0.1) ∙ ap (λ t. b ∷ t) (placed_are xs (place + 1) bytes p.1 ∙ ap (λ k. bytes ++ drop k xs) next)

-- what was read from a place on is what each such file has there
pub of_read : (xs : List ℕ) (place : ℕ) (old new : ReadLogState) (bytes : List ℕ) → ReadsOn place old new bytes → IsOf xs new → drop place xs ≡ bytes ++ drop (place + length bytes) xs
of_read xs place old new bytes p is = placed_are xs place bytes (more_there 0 xs old.came (placed place bytes) (subst (AreThere 0 xs) p.came is.came))

-- nothing lies past the end
drop_over : (xs : List ℕ) (n : ℕ) → length xs ≤ n → drop n xs ≡ []
drop_over [] zero le = refl
drop_over [] (suc n) le = refl
drop_over (x ∷ xs) zero le = absurd (omega (arith, le))
drop_over (x ∷ xs) (suc n) le = drop_over xs n (omega (arith, le))

-- a file that was read from its start to its end is the only one
pub of_whole : (xs : List ℕ) (old new : ReadLogState) (bytes : List ℕ) → ReadsOn 0 old new bytes → EndsAt new (length bytes) → IsOf xs new → xs ≡ bytes
of_whole xs old new bytes p end is =
    let over : length xs ≤ length bytes = is.ends end.0 (length bytes) end.1 in
    of_read xs 0 old new bytes p is ∙ ap (λ t. bytes ++ t) (drop_over xs (0 + length bytes) (omega (arith, over))) ∙ append-nil bytes

-- the reads of a source that reads each byte
pub reads_on : (a b : Log) (old new : ReadLogState) (bytes : List ℕ) → Adds (unskipped a) (unskipped b) bytes → old.came ≡ a.came → old.ends ≡ a.ends → new.came ≡ b.came → new.ends ≡ b.ends → ReadsOn a.at old new bytes
reads_on a b old new bytes p came ends came' ends' = record {
  came = came' ∙ p.joined ∙ ap (λ t. a.came ++ t) (p.whole refl) ∙ ap (λ t. t ++ placed a.at bytes) (sym came);
  ends = λ n end there. ap (λ t. slice_get t n) ends' ∙ p.ends n end (ap (λ t. slice_get t n) (sym ends) ∙ there);
}
