-- Bytes as they are shown, written one after another.
use Rattle.std.proofs.Common.{◌≡◌, ℕ, ◌+◌, ◌<◌, ◌≤◌, Bool, List, [], ◌∷◌, ◌++◌, length, take, drop, get_or, sym, ◌∙◌, ap}
use Rattle.std.specs.List.{flat_map}
use Rattle.std.proofs.lemmas.List.{append-nil, take_all, take_more, take-append-drop, drop_more}
use Rattle.std.proofs.lemmas.List.Concat.{flat_map-append}
use Rattle.fits_stream.specs.Stream.{SinkState, Prints, PrintsFront}
use Rattle.fits_stream.proofs.StreamLemmas.{Prints-none, Prints-more, PrintsFront-longer, PrintsFront-more}
use Rattle.fits_script.specs.Wording.{shown_byte}

-- one more byte
pub Prints-byte : (a b c : SinkState) (in_string : Bool) (bytes : List ℕ) (i : ℕ) (byte : ℕ) → i < length bytes → byte ≡ get_or bytes i 0 → Prints (flat_map (shown_byte in_string) (take i bytes)) a b → Prints (shown_byte in_string byte) b c
    → Prints (flat_map (shown_byte in_string) (take (i + 1) bytes)) a c
Prints-byte a b c in_string bytes i byte h e p q =
    let f : ℕ → List ℕ = shown_byte in_string in
    let more : flat_map f (take (i + 1) bytes) ≡ flat_map f (take i bytes) ++ f byte =
    ap (flat_map f) (take_more bytes i 0 h) ∙ flat_map-append f (take i bytes) (get_or bytes i 0 ∷ [])
    ∙ ap (λ (t : List ℕ). flat_map f (take i bytes) ++ t) (append-nil (f (get_or bytes i 0)) ∙ ap f (sym e)) in
    rw more (Prints-more a b c _ _ p q)

-- a prefix of it
pub PrintsFront-byte : (a b c : SinkState) (in_string : Bool) (bytes : List ℕ) (i : ℕ) (byte : ℕ) → i < length bytes → byte ≡ get_or bytes i 0 → Prints (flat_map (shown_byte in_string) (take i bytes)) a b → PrintsFront (shown_byte in_string byte) b c
    → PrintsFront (flat_map (shown_byte in_string) bytes) a c
PrintsFront-byte a b c in_string bytes i byte h e p q =
    let f : ℕ → List ℕ = shown_byte in_string in
    let rest : List ℕ = drop (i + 1) bytes in
    let split : flat_map f bytes ≡ flat_map f (take i bytes) ++ (f byte ++ flat_map f rest) =
    ap (flat_map f) (sym (take-append-drop i bytes)) ∙ flat_map-append f (take i bytes) (drop i bytes)
    ∙ ap (λ (t : List ℕ). flat_map f (take i bytes) ++ t) (ap (flat_map f) (drop_more bytes i 0 h) ∙ ap (λ (n : ℕ). f n ++ flat_map f rest) (sym e)) in
    rw split (PrintsFront-more a b c _ (f byte ++ flat_map f rest) p (PrintsFront-longer b c (f byte) (flat_map f rest) q))

-- none of them yet
pub Prints-no_bytes : (a : SinkState) (in_string : Bool) (bytes : List ℕ) → Prints (flat_map (shown_byte in_string) (take 0 bytes)) a a
Prints-no_bytes a in_string bytes = Prints-none a

-- all of them
pub Prints-bytes : (a b : SinkState) (in_string : Bool) (bytes : List ℕ) (i : ℕ) → length bytes ≤ i → Prints (flat_map (shown_byte in_string) (take i bytes)) a b → Prints (flat_map (shown_byte in_string) bytes) a b
Prints-bytes a b in_string bytes i h p = rw (take_all i bytes h) at p

pub ruleset byte_steps = (Prints-byte, PrintsFront-byte, Prints-no_bytes, Prints-bytes)
