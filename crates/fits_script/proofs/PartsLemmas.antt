-- The parts of a text that is cut at a byte.
use Rattle.std.proofs.Common.{◌≡◌, ℕ, List, [], ◌∷◌, ◌++◌, refl, ap, rules, true}
use Rattle.std.specs.Prelude.{◌==◌}
use Rattle.std.specs.List.{list_any, onto_first, slice_split}
use Rattle.std.proofs.lemmas.Bool.{or_parts}
use Rattle.fits_script.specs.Cut.{HasNo}
use Rattle.fits_script.specs.Words.{after_colon, before_colon}

-- a byte is itself
same_byte : (b : ℕ) → (b == b) ≡ true
same_byte b = search rules

-- a text without the byte is one part
pub parts-none : (byte : ℕ) (text : List ℕ) → HasNo byte text → slice_split (λ b. b == byte) text ≡ text ∷ []
parts-none byte [] none = refl
parts-none byte (b ∷ bs) none =
    let parts = or_parts (b == byte) (list_any (λ x. x == byte) bs) none in
    rw parts.0 (ap (onto_first b) (parts-none byte bs parts.1))

-- the part before the byte, and those after it
pub parts-cut : (byte : ℕ) (part rest : List ℕ) → HasNo byte part → slice_split (λ b. b == byte) (part ++ byte ∷ rest) ≡ part ∷ slice_split (λ b. b == byte) rest
parts-cut byte [] rest none = rw (same_byte byte) refl
parts-cut byte (b ∷ bs) rest none =
    let parts = or_parts (b == byte) (list_any (λ x. x == byte) bs) none in
    rw parts.0 (ap (onto_first b) (parts-cut byte bs rest parts.1))

-- all of a text without a colon stands before one
pub before_colon-none : (text : List ℕ) → HasNo 58 text → before_colon text ≡ text
unfolding before_colon
before_colon-none [] none = refl
before_colon-none (b ∷ bs) none =
    let parts = or_parts (b == 58) (list_any (λ x. x == 58) bs) none in
    rw parts.0 (ap (λ t. b ∷ t) (before_colon-none bs parts.1))

-- and nothing after it
pub after_colon-none : (text : List ℕ) → HasNo 58 text → after_colon text ≡ []
unfolding after_colon
after_colon-none [] none = refl
after_colon-none (b ∷ bs) none =
    let parts = or_parts (b == 58) (list_any (λ x. x == 58) bs) none in
    rw parts.0 (after_colon-none bs parts.1)

-- what stands before the first colon
pub before_colon-first : (part rest : List ℕ) → HasNo 58 part → before_colon (part ++ 58 ∷ rest) ≡ part
unfolding before_colon
before_colon-first [] rest none = refl
before_colon-first (b ∷ bs) rest none =
    let parts = or_parts (b == 58) (list_any (λ x. x == 58) bs) none in
    rw parts.0 (ap (λ t. b ∷ t) (before_colon-first bs rest parts.1))

-- and after it
pub after_colon-first : (part rest : List ℕ) → HasNo 58 part → after_colon (part ++ 58 ∷ rest) ≡ rest
unfolding after_colon
after_colon-first [] rest none = refl
after_colon-first (b ∷ bs) rest none =
    let parts = or_parts (b == 58) (list_any (λ x. x == 58) bs) none in
    rw parts.0 (after_colon-first bs rest parts.1)

-- a text with a colon in it
pub before_colon-cut : (text part rest : List ℕ) → HasNo 58 part → text ≡ part ++ 58 ∷ rest → before_colon text ≡ part
before_colon-cut text part rest none e = rw e (before_colon-first part rest none)

-- and what stands after it
pub after_colon-cut : (text part rest : List ℕ) → HasNo 58 part → text ≡ part ++ 58 ∷ rest → after_colon text ≡ rest
after_colon-cut text part rest none e = rw e (after_colon-first part rest none)

pub ruleset colon_steps = (before_colon-none, after_colon-none, before_colon-cut, after_colon-cut)
