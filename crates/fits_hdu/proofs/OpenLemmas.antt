-- Steps of `open`.
use Rattle.std.proofs.Common.{◌≡◌, ℕ, ◌+◌, ◌-◌, ◌≤◌, ◌++◌, Bool, List, [], length, drop, refl, subst, ap, sym, ◌∙◌, arith}
use Rattle.std.proofs.lemmas.List.{append-nil, drop_at, length-append}
use Rattle.fits_stream.specs.Gave.{FindsAll}
use Rattle.fits_stream.specs.Intake.{Supply, Takes}
use Rattle.fits_stream.proofs.SightLemmas.{takes_ahead}
use Rattle.fits_passing.specs.Hdu.{HasHduFault, HduFails, HduParts, IsHdu, IsHduOf, hdu_bytes}
use Rattle.fits_passing.specs.HduReading.{HduStops}
use Rattle.fits_passing.specs.declared.hdu_fault.HduFault.{HduFault}
use Rattle.fits_passing.specs.declared.hdu_fault.HduFault.TheVariants.{NoEnd, BadShape, ShortData, Memory}
use Rattle.fits_passing.specs.declared.read_hdu_fault.ReadHduFault.TheVariants as read

-- an HDU that was taken of bytes, how many bytes it has, and that they are there
pub hdu_opened : (primary : Bool) (f : List ℕ) (a b : Supply) (hdu : HduParts) (left len : ℕ) → a.ahead ≡ f → a.left ≡ 0 → Takes a b (hdu_bytes hdu) → IsHdu primary hdu → left ≡ length b.ahead + b.left → len ≡ length f - left
    → IsHduOf primary f hdu (drop len f) × (len ≡ length (hdu_bytes hdu)) × (len ≤ length f)
hdu_opened primary f a b hdu left len are none p whole is all =
    let joined : f ≡ hdu_bytes hdu ++ b.ahead = sym are ∙ takes_ahead a b (hdu_bytes hdu) none p in
    let size : len ≡ length (hdu_bytes hdu) = omega (arith, is, all, ap length joined, length-append (hdu_bytes hdu) b.ahead, none, p.drawn.count) in
    let behind : drop len f ≡ b.ahead = ap (drop len) joined ∙ drop_at (hdu_bytes hdu) b.ahead len (sym size) in
    (rw behind (record { whole = whole; joined = joined }), size, omega (arith, all))

-- a fact of all that may follow what was taken is one of all bytes, where nothing may
found_whole : (P : List ℕ → Type 0) (f : List ℕ) (a b : Supply) → a.ahead ≡ f → a.left ≡ 0 → FindsAll a b P → P f
found_whole P f a b are none found =
    subst P (sym (sym are ∙ takes_ahead a b found.bytes none found.taken ∙ ap (λ t. found.bytes ++ t) (sym (append-nil b.ahead)))) (found.all [] (omega arith) (λ _. refl))

-- so is the fault of an HDU that doesn't come
pub open_fails : (primary : Bool) (f : List ℕ) (a b : Supply) (fault : HduFault) → a.ahead ≡ f → a.left ≡ 0 → HduStops primary a b (read.Hdu fault) → HduFails primary f fault
open_fails primary f a b NoEnd are none stops = found_whole (λ bytes. HasHduFault primary bytes NoEnd) f a b are none stops
open_fails primary f a b (BadShape place) are none stops = found_whole (λ bytes. HasHduFault primary bytes (BadShape place)) f a b are none stops
open_fails primary f a b ShortData are none stops = found_whole (λ bytes. HasHduFault primary bytes ShortData) f a b are none stops
open_fails primary f a b Memory are none stops = tt
