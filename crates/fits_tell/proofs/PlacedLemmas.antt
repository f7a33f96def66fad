-- Lines of HDUs one after another, each with its number and where it begins.
use Rattle.std.proofs.Common.{◌≡◌, ℕ, ◌+◌, ◌<◌, ◌≤◌, List, [], ◌∷◌, ◌++◌, length, take, drop, get_or, ap, sym, ◌∙◌, append_assoc, arith}
use Rattle.std.proofs.lemmas.List.{append-nil, take-append-drop, take_more, length-take-le}
use Rattle.fits_stream.specs.Stream.{SinkState, Prints}
use Rattle.fits_stream.proofs.StreamLemmas.{Prints-more}
use Rattle.fits_tell.specs.Placed.{placed_len, placed_lines}
use Rattle.fits_tell.specs.Telling.{PrintingStops}
use Rattle.fits_tell.specs.declared.fault.Fault.{Fault}
use Rattle.fits_tell.proofs.VerifyingLemmas.{PrintingStops-longer, PrintingStops-more}

-- lines of some, and of more
lines-append : {K : Type 0} (line : ℕ → ℕ → K → List ℕ) (len : K → ℕ) (n start : ℕ) (xs ys : List K)
    → placed_lines line len n start (xs ++ ys) ≡ placed_lines line len n start xs ++ placed_lines line len (n + length xs) (start + placed_len len xs) ys
lines-append line len n start [] ys =
    let number : n ≡ n + 0 = omega arith in
    let here : start ≡ start + 0 = omega arith in
    ap (λ m. placed_lines line len m start ys) number ∙ ap (λ m. placed_lines line len (n + 0) m ys) here
lines-append line len n start (x ∷ xs) ys =
    let next : ℕ = start + len x in
    let number : n + 1 + length xs ≡ n + length (x ∷ xs) = omega arith in
    let end : next + placed_len len xs ≡ start + placed_len len (x ∷ xs) = omega arith in
    ap (λ t. line n start x ++ t) (lines-append line len (n + 1) next xs ys ∙ ap (λ m. placed_lines line len (n + 1) next xs ++ placed_lines line len m (next + placed_len len xs) ys) number
    ∙ ap (λ m. placed_lines line len (n + 1) next xs ++ placed_lines line len (n + length (x ∷ xs)) m ys) end)
    ∙ sym (append_assoc (line n start x) (placed_lines line len (n + 1) next xs) (placed_lines line len (n + length (x ∷ xs)) (start + placed_len len (x ∷ xs)) ys))

-- the length of some after others
len-append : {K : Type 0} (len : K → ℕ) (xs ys : List K) → placed_len len (xs ++ ys) ≡ placed_len len xs + placed_len len ys
len-append len [] ys = omega arith
len-append len (x ∷ xs) ys = omega (arith, len-append len xs ys)

-- lines of the first, and of the others
lines-split : {K : Type 0} (line : ℕ → ℕ → K → List ℕ) (len : K → ℕ) (xs ys : List K) → placed_lines line len 1 0 (xs ++ ys) ≡ placed_lines line len 1 0 xs ++ placed_lines line len (1 + length xs) (placed_len len xs) ys
lines-split line len xs ys =
    let here : 0 + placed_len len xs ≡ placed_len len xs = omega arith in
    lines-append line len 1 0 xs ys ∙ ap (λ n. placed_lines line len 1 0 xs ++ placed_lines line len (1 + length xs) n ys) here

-- one more
lines-more : {K : Type 0} (line : ℕ → ℕ → K → List ℕ) (len : K → ℕ) (ks : List K) (i start : ℕ) (it : K) → i < length ks → it ≡ get_or ks i it → start ≡ placed_len len (take i ks)
    → placed_lines line len 1 0 (take (i + 1) ks) ≡ placed_lines line len 1 0 (take i ks) ++ line (i + 1) start it
lines-more line len ks i start it l e at =
    let number : 1 + length (take i ks) ≡ i + 1 = omega (arith, length-take-le i ks (omega (arith, l))) in
    ap (placed_lines line len 1 0) (take_more ks i it l ∙ ap (λ x. take i ks ++ x ∷ []) (sym e))
    ∙ lines-split line len (take i ks) (it ∷ [])
    ∙ ap (λ n. placed_lines line len 1 0 (take i ks) ++ placed_lines line len n (placed_len len (take i ks)) (it ∷ [])) number
    ∙ ap (λ n. placed_lines line len 1 0 (take i ks) ++ placed_lines line len (i + 1) n (it ∷ [])) (sym at)
    ∙ ap (λ t. placed_lines line len 1 0 (take i ks) ++ t) (append-nil (line (i + 1) start it))

-- where one ends, the next begins
pub placed_next : {K : Type 0} (len : K → ℕ) (ks : List K) (i start : ℕ) (it : K) → i < length ks → it ≡ get_or ks i it → start ≡ placed_len len (take i ks) → start + len it ≡ placed_len len (take (i + 1) ks)
placed_next len ks i start it l e at =
    omega (arith, at, ap (placed_len len) (take_more ks i it l ∙ ap (λ x. take i ks ++ x ∷ []) (sym e)), len-append len (take i ks) (it ∷ []))

-- it ends where all end, or before
pub placed_within : {K : Type 0} (len : K → ℕ) (ks : List K) (i start : ℕ) (it : K) → i < length ks → it ≡ get_or ks i it → start ≡ placed_len len (take i ks) → start + len it ≤ placed_len len ks
placed_within len ks i start it l e at =
    omega (arith, placed_next len ks i start it l e at, ap (placed_len len) (take-append-drop (i + 1) ks), len-append len (take (i + 1) ks) (drop (i + 1) ks))

-- one more line
pub prints_placed : {K : Type 0} (a b c : SinkState) (line : ℕ → ℕ → K → List ℕ) (len : K → ℕ) (ks : List K) (i start : ℕ) (it : K) → i < length ks → it ≡ get_or ks i it → start ≡ placed_len len (take i ks)
    → Prints (placed_lines line len 1 0 (take i ks)) a b → Prints (line (i + 1) start it) b c → Prints (placed_lines line len 1 0 (take (i + 1) ks)) a c
prints_placed a b c line len ks i start it l e at front next =
    rw (lines-more line len ks i start it l e at) (Prints-more a b c (placed_lines line len 1 0 (take i ks)) (line (i + 1) start it) front next)

-- the next line stops the text
pub stops_at_placed : {K : Type 0} (a b c : SinkState) (line : ℕ → ℕ → K → List ℕ) (len : K → ℕ) (ks : List K) (i start : ℕ) (it : K) (fault : Fault) → i < length ks → it ≡ get_or ks i it → start ≡ placed_len len (take i ks)
    → Prints (placed_lines line len 1 0 (take i ks)) a b → PrintingStops (line (i + 1) start it) b c fault → PrintingStops (placed_lines line len 1 0 ks) a c fault
stops_at_placed a b c line len ks i start it fault l e at front stops =
    let here : List ℕ = placed_lines line len 1 0 (take i ks) ++ line (i + 1) start it in
    let rest : List ℕ = placed_lines line len (1 + length (take (i + 1) ks)) (placed_len len (take (i + 1) ks)) (drop (i + 1) ks) in
    let lines : placed_lines line len 1 0 ks ≡ here ++ rest =
    ap (placed_lines line len 1 0) (sym (take-append-drop (i + 1) ks)) ∙ lines-split line len (take (i + 1) ks) (drop (i + 1) ks) ∙ ap (λ t. t ++ rest) (lines-more line len ks i start it l e at) in
    rw lines (PrintingStops-longer a c here rest fault (PrintingStops-more a b c (placed_lines line len 1 0 (take i ks)) (line (i + 1) start it) fault front stops))
