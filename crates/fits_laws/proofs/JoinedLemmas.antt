-- Words that are joined, and what each reads as.
use Rattle.std.proofs.Common.{◌≡◌, ℕ, List, [], ◌∷◌, ◌++◌, refl, sym, ◌∙◌, rules, true, false, ap, length, ◌≤◌, arith, Option, Some}
use Rattle.std.specs.Prelude.{◌==◌}
use Rattle.std.specs.List.{list_any, join_with_byte, slice_split}
use Rattle.std.proofs.lemmas.Bool.{or_parts, or_right}
use Rattle.std.proofs.lemmas.List.Folds.{list_any-append}
use Rattle.fits_script.specs.Cut.{HasNo}
use Rattle.std.proofs.lemmas.List.Splits.{join_with_byte-slice_split, length-slice_split}
use Rattle.fits_script.proofs.PartsLemmas.{parts-cut, parts-none}
use Rattle.std.proofs.lemmas.Option.{option_and_then_some}
use Rattle.fits_script.specs.Words.{each_read, list_of_text}

-- a byte is itself
same_byte : (b : ℕ) → (b == b) ≡ true
same_byte b = search rules

-- two texts without a byte, each before that byte, are one
pub one_cut_at : (b : ℕ) (v w r s : List ℕ) → HasNo b v → HasNo b w → v ++ b ∷ r ≡ w ++ b ∷ s → (v ≡ w) × (r ≡ s)
one_cut_at b [] [] r s p q e = (refl, cc)
one_cut_at b [] (c ∷ w) r s p q e =
    let same : b ≡ c = cc in
    absurd (let none : (c == b) ≡ false = (or_parts (c == b) (list_any (λ x. x == b) w) q).0 in let z : true ≡ false = sym (same_byte b) ∙ (rw (sym same) at none) in cc)
one_cut_at b (a ∷ v) [] r s p q e =
    let same : a ≡ b = cc in
    absurd (let none : (a == b) ≡ false = (or_parts (a == b) (list_any (λ x. x == b) v) p).0 in let z : true ≡ false = sym (same_byte b) ∙ (rw same at none) in cc)
one_cut_at b (a ∷ v) (c ∷ w) r s p q e =
    let head : a ≡ c = cc in
    let tail : v ++ b ∷ r ≡ w ++ b ∷ s = cc in
    let more = one_cut_at b v w r s (or_parts (a == b) (list_any (λ x. x == b) v) p).1 (or_parts (c == b) (list_any (λ x. x == b) w) q).1 tail in
    (rw (head, more.0) refl, more.1)

-- a text with the byte in it isn't one without
pub not_without : (b : ℕ) (v r w : List ℕ) → HasNo b w → v ++ b ∷ r ≡ w → ⊥
not_without b v r w q e =
    let here : list_any (λ x. x == b) (b ∷ r) ≡ true = rw (same_byte b) refl in
    let some : list_any (λ x. x == b) (v ++ b ∷ r) ≡ true = rw list_any-append (or_right (list_any (λ x. x == b) v) _ here) in
    absurd (let z : true ≡ false = sym some ∙ (rw e q) in cc)

-- each part is without a byte
abbrev pub EachHasNo : ℕ → List (List ℕ) → Type 0
EachHasNo byte [] = Unit {0}
EachHasNo byte (part ∷ parts) = HasNo byte part × EachHasNo byte parts

-- joined parts are cut into them
pub parts-joined : (byte : ℕ) (parts : List (List ℕ)) → 1 ≤ length parts → EachHasNo byte parts → slice_split (λ b. b == byte) (join_with_byte byte parts) ≡ parts
parts-joined byte [] some all = absurd (omega arith)
parts-joined byte (part ∷ []) some all = parts-none byte part all.0
parts-joined byte (part ∷ next ∷ parts) some all =
    parts-cut byte part (join_with_byte byte (next ∷ parts)) all.0 ∙ ap (λ t. part ∷ t) (parts-joined byte (next ∷ parts) (omega arith) all.1)

-- a text is its parts, joined
pub joined-parts : (byte : ℕ) (text : List ℕ) → text ≡ join_with_byte byte (slice_split (λ b. b == byte) text)
joined-parts byte text = sym (join_with_byte-slice_split byte text)

-- and there is one at least
pub some_parts : (byte : ℕ) (text : List ℕ) → 1 ≤ length (slice_split (λ b. b == byte) text)
some_parts byte text = omega (arith, length-slice_split (λ b. b == byte) text)

-- joined parts are the list that they read as
pub list_of_text-joined : {X : Type 0} (reads : List ℕ → Option X) (byte : ℕ) (text : List ℕ) (parts : List (List ℕ)) (items : List X) → text ≡ join_with_byte byte parts → 1 ≤ length parts → EachHasNo byte parts → each_read reads parts ≡ Some items
    → list_of_text reads byte text ≡ Some items
unfolding list_of_text
list_of_text-joined reads byte text parts items is some bare read = ap (each_read reads) (ap (slice_split (λ b. b == byte)) is ∙ parts-joined byte parts some bare) ∙ read

-- what reads as a first item and others
pub each_read-some : {X P : Type 0} (reads : List ℕ → Option X) (text : List ℕ) (texts : List (List ℕ)) (items : List X) → each_read reads (text ∷ texts) ≡ Some items
    → ((item : X) (others : List X) → reads text ≡ Some item → each_read reads texts ≡ Some others → item ∷ others ≡ items → P) → P
unfolding each_read
each_read-some {X = X} reads text texts items e give =
    option_and_then_some _ (reads text) items e (λ item is e1.
    option_and_then_some _ (each_read reads texts) items e1 (λ others are e2.
    give item others is are (let z : ◌≡◌ {A = Option (List X)} (Some (item ∷ others)) (Some items) = e2 in cc)))

-- nothing reads as nothing
pub each_read-none : {X : Type 0} (reads : List ℕ → Option X) (items : List X) → each_read reads [] ≡ Some items → [] ≡ items
unfolding each_read
each_read-none {X = X} reads items e = let z : ◌≡◌ {A = Option (List X)} (Some []) (Some items) = e in cc
