-- The strings of single cards, in an array with spaces after them.
use Rattle.std.proofs.Common.{◌≡◌, ℕ, ◌≤◌, ◌+◌, ◌-◌, true, List, [], ◌∷◌, ◌++◌, length, take, drop, replicate, Option, None, Some, zero, suc, refl, sym, ◌∙◌, ap, arith, length-append, length-take-le, take-append-drop}
use Rattle.std.specs.List.{list_all}
use Rattle.std.specs.Option.{option_map}
use Rattle.std.proofs.Math.ListN.{set}
use Rattle.std.proofs.lemmas.Bool.{and_parts, and_from, eqb-true}
use Rattle.std.proofs.lemmas.List.{length-drop, drop-drop, drop-set-lt, drop-replicate, drop-append-le}
use Rattle.std.proofs.lemmas.List.Folds.{list_all-append}
use Rattle.fits_value.proofs.ReadLemmas.{Said}
use Rattle.fits_value.proofs.SaysLemmas.{card_reads, with_comment}
use Rattle.fits_value.specs.Spelling.{is_space, IsSpaces, doubled}
use Rattle.fits_value.specs.Field.{ReadsAs, part}
use Rattle.fits_value.specs.Text.{normal_form}
use Rattle.fits_value.specs.Scan.{undoubled, pair_of}
use Rattle.fits_value.specs.Says.{inner, value_spelled, said_string, card_says, card_string}
use Rattle.fits_value.specs.declared.reading.ValueKind.{ValueKind}
use Rattle.fits_value.specs.declared.reading.ValueKind.TheVariants as kind
use Rattle.fits_value.specs.declared.scan_complex.Pair.{Pair}
use Rattle.fits_value.specs.declared.value.Value.TheVariants.{Complex}

-- copies of a space are spaces
spaces-replicate : (n : ℕ) → list_all is_space (replicate n 32) ≡ true
spaces-replicate zero = refl
spaces-replicate (suc n) = spaces-replicate n

-- spaces are copies of a space
spaces_are : (text : List ℕ) → IsSpaces text → text ≡ replicate (length text) 32
spaces_are [] h = refl
spaces_are (b ∷ s) h =
    let both = and_parts (is_space b) (list_all is_space s) h in
    ap (λ (x : ℕ). x ∷ s) (eqb-true b 32 both.0) ∙ ap (λ (x : List ℕ). 32 ∷ x) (spaces_are s both.1)

-- the rest of an array stays where one byte before it is written
pub rest_stays : (now old : List ℕ) (n byte : ℕ) → drop n now ≡ drop n old → drop (n + 1) (set now n byte) ≡ drop (n + 1) old
rest_stays now old n byte e = drop-set-lt (n + 1) now n byte (omega arith) ∙ (sym (drop-drop 1 n now) ∙ (ap (λ (x : List ℕ). drop 1 x) e ∙ drop-drop 1 n old))

-- an array whose rest is spaces, without spaces at the end of what was written
pub padded : (bytes front : List ℕ) (len n : ℕ) → length bytes ≡ 68 → len ≤ 68 → front ≡ take len bytes → IsSpaces (drop n front) → n ≤ length front → drop len bytes ≡ drop len (replicate 68 32)
    → take n bytes ++ replicate (68 - n) 32 ≡ bytes
padded bytes front len n size within e spaces shorter rest =
    let wide : length front ≡ len = ap (λ (x : List ℕ). length x) e ∙ length-take-le len bytes (omega arith) in
    let cut : drop n bytes ≡ drop n front ++ drop len bytes =
    ap (λ (x : List ℕ). drop n x) (sym (take-append-drop len bytes) ∙ ap (λ (x : List ℕ). x ++ drop len bytes) (sym e)) ∙ drop-append-le n front (drop len bytes) shorter in
    let behind : list_all is_space (drop len bytes) ≡ true = ap (λ (x : List ℕ). list_all is_space x) (rest ∙ drop-replicate len 68 32) ∙ spaces-replicate (68 - len) in
    let all : list_all is_space (drop n bytes) ≡ true = ap (λ (x : List ℕ). list_all is_space x) cut ∙ (list_all-append is_space (drop n front) (drop len bytes) ∙ and_from _ _ spaces behind) in
    let left : 68 - n ≡ length (drop n bytes) = omega (arith, length-drop n bytes) in
    ap (λ (k : ℕ). take n bytes ++ replicate k 32) left ∙ (ap (λ (x : List ℕ). take n bytes ++ x) (sym (spaces_are (drop n bytes) all)) ∙ take-append-drop n bytes)

-- the string of a card that reads as one
pub reads_string : (card spelling : List ℕ) (comment : Option (List ℕ)) → ReadsAs card kind.Str spelling comment → card_string card ≡ Some (normal_form (undoubled (inner spelling)))
unfolding card_string
reads_string card spelling comment h = ap (λ (said : Option Said). option_map (λ (link : List ℕ × Option (List ℕ)). link.0) (said_string said)) (card_reads card kind.Str spelling comment h)

-- a complex number is no string
no_string : (pair : Option Pair) (comment : Option (List ℕ)) (f : Pair → List ℕ × List ℕ) → said_string (option_map (with_comment comment) (option_map (λ (p : Pair). Complex (f p).0 (f p).1) pair)) ≡ None
no_string None comment f = refl
no_string (Some p) comment f = refl

-- a value of another kind is no string
other_kind : (k : ValueKind) (spelling : List ℕ) (comment : Option (List ℕ)) → (k ≡ kind.Str → ⊥) → said_string (option_map (with_comment comment) (value_spelled k spelling)) ≡ None
other_kind kind.Undefined spelling comment other = refl
other_kind kind.Logical spelling comment other = refl
other_kind kind.Integer spelling comment other = refl
other_kind kind.Real spelling comment other = refl
other_kind kind.Complex spelling comment other = no_string (pair_of (drop 1 spelling)) comment (λ p. (part spelling p.real, part spelling p.imaginary))
other_kind kind.Str spelling comment other = absurd (other refl)

-- a card that reads as another kind has no string
pub reads_other : (card : List ℕ) (k : ValueKind) (spelling : List ℕ) (comment : Option (List ℕ)) → ReadsAs card k spelling comment → (k ≡ kind.Str → ⊥) → card_string card ≡ None
unfolding card_string
reads_other card k spelling comment h other =
    ap (λ (said : Option Said). option_map (λ (link : List ℕ × Option (List ℕ)). link.0) (said_string said)) (card_reads card k spelling comment h)
    ∙ ap (λ (link : Option (List ℕ × Option (List ℕ))). option_map (λ (x : List ℕ × Option (List ℕ)). x.0) link) (other_kind k spelling comment other)

-- nor has a card that says nothing
pub silent_string : (card : List ℕ) → card_says card ≡ None → card_string card ≡ None
unfolding card_string
silent_string card e = ap (λ (said : Option Said). option_map (λ (link : List ℕ × Option (List ℕ)). link.0) (said_string said)) e

-- a card's string has two quotes
pub string_quotes : (card spelling : List ℕ) (comment : Option (List ℕ)) → ReadsAs card kind.Str spelling comment → 2 ≤ length spelling
string_quotes card spelling comment h = let s = h.reads.spelled in omega (arith, ap length s.1, length-append (39 ∷ doubled s.0) (39 ∷ []))
