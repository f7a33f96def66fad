-- Pieces of a data unit, of which some are in memory, that are had one after the other.
use Rattle.std.proofs.Common.{refl, ◌≡◌, ◌+◌, ◌-◌, ◌*◌, ◌<◌, ◌≤◌, inl, inr, ℕ, suc, Bool, true, false, List, [], ◌∷◌, ◌++◌, length, get_or, min, take, drop, ap, sym, ◌∙◌, arith, subst, append_assoc, append-nil}
use Rattle.std.proofs.lemmas.Bool.{cases_lt}
use Rattle.std.proofs.lemmas.List.{drop-drop, drop-take, drop_all, drop_at, length-append, length-drop, length-take, take-take, take_all, take_at}
use Rattle.std.proofs.Math.Seq.{drop-cons, take-add}
use Rattle.fits_stream.specs.Agree.{ReadsOn}
use Rattle.fits_stream.specs.Stored.{ReadLogState}
use Rattle.fits_sum.specs.Words.{word_total}
use Rattle.fits_sum.proofs.WordLemmas.{word_total-append}
use Rattle.fits_pieces.specs.Piece.{piece_of, piece_size, pieces_in}
use Rattle.fits_unit.specs.Again.{ReadsRest}
use Rattle.fits_unit.specs.Part.{HasBytes}

-- the pieces before one were had of a unit: with bytes that are had of those from it on, these are had of the unit
pub record ReadsUpTo (place : ℕ) (held : List Bool) (unit : List ℕ) (k : ℕ) (log log' : ReadLogState) (done : List ℕ) : Type 0 where
  pub size : length done ≡ min (length unit) (46080 * k)
  pub on : (end : ReadLogState) (rest : List ℕ) → length done + length rest ≡ length unit → ReadsRest (place + 46080 * k) (drop k held) (drop (46080 * k) unit) log' end rest → ReadsRest place held unit log end (done ++ rest)

-- ---- lists

-- a list of no elements
none_of : (xs : List ℕ) → length xs ≡ 0 → xs ≡ []
none_of [] e = refl
none_of (x ∷ xs) e = absurd (omega (arith, e))

-- the first of two lists is the front of both, where it is full or the other has no elements
front_is : (m : ℕ) (xs ys : List ℕ) → length xs ≤ m → (length xs < m → length ys ≡ 0) → take m (xs ++ ys) ≡ xs
front_is m xs ys most none = elim (cases_lt (length xs) m) [
  | inl short ↦ take_all m (xs ++ ys) (omega (arith, length-append xs ys, most, none short)) ∙ ap (λ t. xs ++ t) (none_of ys (none short)) ∙ append-nil xs
  | inr full ↦ take_at xs ys m (omega (arith, most, full))
]

-- and the other is what follows
back_is : (m : ℕ) (xs ys : List ℕ) → length xs ≤ m → (length xs < m → length ys ≡ 0) → drop m (xs ++ ys) ≡ ys
back_is m xs ys most none = elim (cases_lt (length xs) m) [
  | inl short ↦ drop_all m (xs ++ ys) (omega (arith, length-append xs ys, most, none short)) ∙ sym (none_of ys (none short))
  | inr full ↦ drop_at xs ys m (omega (arith, most, full))
]

-- the front of a front
pub take-take_min : (m n : ℕ) (xs : List ℕ) → take m (take n xs) ≡ take (min m n) xs
take-take_min m n xs = elim (cases_lt n m) [
  | inl less ↦
      let e : n ≡ min m n = omega (arith, less) in
      take_all m (take n xs) (omega (arith, length-take n xs, less)) ∙ ap (λ i. take i xs) e
  | inr more ↦
      let e : m ≡ min m n = omega (arith, more) in
      take-take m n xs more ∙ ap (λ i. take i xs) e
]

-- what follows in a front
drop-take_less : (m n : ℕ) (xs : List ℕ) → drop m (take n xs) ≡ take (n - m) (drop m xs)
drop-take_less m n xs = elim (cases_lt n m) [
  | inl less ↦
      let e : 0 ≡ n - m = omega (arith, less) in
      drop_all m (take n xs) (omega (arith, length-take n xs, less)) ∙ ap (λ i. take i (drop m xs)) e
  | inr more ↦
      let e : n ≡ m + (n - m) = omega (arith, more) in
      ap (λ i. drop m (take i xs)) e ∙ drop-take m (n - m) xs
]

-- ---- pieces

-- how long a piece is
pub length-piece : (xs : List ℕ) (j : ℕ) → length (piece_of xs j) ≡ piece_size (length xs) j
length-piece xs j = omega (arith, length-take 46080 (drop (46080 * j) xs), length-drop (46080 * j) xs)

-- a piece of what a file has at a place is what it has where the piece lies
pub piece_told : (told passed : List ℕ) (place len j : ℕ) → take len (drop place told) ≡ passed → take (piece_size len j) (drop (place + 46080 * j) told) ≡ piece_of passed j
piece_told told passed place len j there =
    sym (ap (λ xs. take 46080 (drop (46080 * j) xs)) (sym there)
    ∙ ap (take 46080) (drop-take_less (46080 * j) len (drop place told))
    ∙ take-take_min 46080 (len - 46080 * j) (drop (46080 * j) (drop place told))
    ∙ ap (take (piece_size len j)) (drop-drop (46080 * j) place told))

-- the pieces before one, and then it, are those before the next
pub pieces_next : (xs : List ℕ) (k : ℕ) → take (46080 * k) xs ++ piece_of xs k ≡ take (46080 * (k + 1)) xs
pieces_next xs k =
    let next : 46080 * k + 46080 ≡ 46080 * (k + 1) = omega arith in
    sym (take-add (46080 * k) 46080 xs) ∙ ap (λ i. take i xs) next

-- all pieces are the bytes
pub pieces_all : (xs : List ℕ) (k : ℕ) → k ≡ pieces_in (length xs) → take (46080 * k) xs ≡ xs
pieces_all xs k many = take_all (46080 * k) xs (omega (arith, many))

-- the total of what was had goes on, where each piece that was had has the total of the unit's
pub pieces_total : (xs done piece : List ℕ) (k : ℕ) → length done ≡ 46080 * k → 46080 * k ≤ length xs → word_total done ≡ word_total (take (46080 * k) xs) → word_total piece ≡ word_total (piece_of xs k)
    → word_total (done ++ piece) ≡ word_total (take (46080 * (k + 1)) xs)
pieces_total xs done piece k size within was is =
    let words : 46080 * k ≡ 4 * (11520 * k) = omega arith in
    let front : length (take (46080 * k) xs) ≡ 46080 * k = omega (arith, length-take (46080 * k) xs, within) in
    word_total-append (11520 * k) done piece (size ∙ words)
    ∙ ap (λ n. n + word_total piece) was ∙ ap (λ n. word_total (take (46080 * k) xs) + n) is
    ∙ sym (word_total-append (11520 * k) (take (46080 * k) xs) (piece_of xs k) (front ∙ words)) ∙ ap word_total (pieces_next xs k)

-- ---- what is had of them

-- the bytes of a piece, and then of those behind it
rest_cons : (b : Bool) (held : List Bool) (place : ℕ) (unit : List ℕ) (log mid end : ReadLogState) (piece rest : List ℕ) → HasBytes b place (take 46080 unit) log mid piece → ReadsRest (place + 46080) held (drop 46080 unit) mid end rest
    → take 46080 (piece ++ rest) ≡ piece → drop 46080 (piece ++ rest) ≡ rest → ReadsRest place (b ∷ held) unit log end (piece ++ rest)
rest_cons true held place unit log mid end piece rest p q front back =
    let on : ReadsRest (place + 46080) held (drop 46080 unit) log end rest = subst (λ l. ReadsRest (place + 46080) held (drop 46080 unit) l end rest) p.1 q in
    (front ∙ p.0, subst (ReadsRest (place + 46080) held (drop 46080 unit) log end) (sym back) on)
rest_cons false held place unit log mid end piece rest p q front back =
    (mid, subst (ReadsOn place log mid) (sym front) p, subst (ReadsRest (place + 46080) held (drop 46080 unit) mid end) (sym back) q)

-- where the pieces behind one lie, and which they are
rest_at : (place k : ℕ) (held : List Bool) (unit : List ℕ) (log end : ReadLogState) (rest : List ℕ) → ReadsRest (place + 46080 * (k + 1)) (drop (k + 1) held) (drop (46080 * (k + 1)) unit) log end rest
    → ReadsRest (place + 46080 * k + 46080) (drop (suc k) held) (drop 46080 (drop (46080 * k) unit)) log end rest
rest_at place k held unit log end rest p =
    let at : place + 46080 * (k + 1) ≡ place + 46080 * k + 46080 = omega arith in
    let next : k + 1 ≡ suc k = omega arith in
    let sum : 46080 * (k + 1) ≡ 46080 + 46080 * k = omega arith in
    let far : drop (46080 * (k + 1)) unit ≡ drop 46080 (drop (46080 * k) unit) = ap (λ i. drop i unit) (sum ∙ omega arith) ∙ sym (drop-drop 46080 (46080 * k) unit) in
    subst (λ i. ReadsRest i (drop (suc k) held) (drop 46080 (drop (46080 * k) unit)) log end rest) at
    (subst (λ i. ReadsRest (place + 46080 * (k + 1)) (drop i held) (drop 46080 (drop (46080 * k) unit)) log end rest) next
    (subst (λ t. ReadsRest (place + 46080 * (k + 1)) (drop (k + 1) held) t log end rest) far p))

-- nothing was had yet
pub reads_begin : (place : ℕ) (held : List Bool) (unit : List ℕ) (log : ReadLogState) → ReadsUpTo place held unit 0 log log []
reads_begin place held unit log =
    let none : 46080 * 0 ≡ 0 = omega arith in
    let at : place + 46080 * 0 ≡ place = omega arith in
    record {
      size = omega arith;
      on = λ end rest long p. subst (λ i. ReadsRest i held unit log end rest) at (subst (λ i. ReadsRest (place + 46080 * 0) held (drop i unit) log end rest) none p);
    }

-- and then one piece more
pub reads_step : (place : ℕ) (held : List Bool) (unit : List ℕ) (k : ℕ) (log mid log' : ReadLogState) (done piece : List ℕ) → k < length held → length held ≡ pieces_in (length unit)
    → HasBytes (get_or held k false) (place + 46080 * k) (piece_of unit k) mid log' piece → length piece ≡ piece_size (length unit) k
    → ReadsUpTo place held unit k log mid done → ReadsUpTo place held unit (k + 1) log log' (done ++ piece)
reads_step place held unit k log mid log' done piece within many had long up = record {
  size = omega (arith, length-append done piece, up.size, long, within, many);
  on = λ end rest all p.
      let most : length piece ≤ 46080 = omega (arith, long) in
      let none : length piece < 46080 → length rest ≡ 0 = λ short. omega (arith, all, length-append done piece, up.size, long, within, many, short) in
      let here = rest_cons (get_or held k false) (drop (suc k) held) (place + 46080 * k) (drop (46080 * k) unit) mid log' end piece rest had
      (rest_at place k held unit log' end rest p) (front_is 46080 piece rest most none) (back_is 46080 piece rest most none) in
      let there : ReadsRest (place + 46080 * k) (drop k held) (drop (46080 * k) unit) mid end (piece ++ rest) =
      subst (λ bs. ReadsRest (place + 46080 * k) bs (drop (46080 * k) unit) mid end (piece ++ rest)) (sym (drop-cons held k false within)) here in
      subst (ReadsRest place held unit log end) (sym (append_assoc done piece rest)) (up.on end (piece ++ rest) (omega (arith, all, length-append done piece, length-append piece rest)) there);
}

-- nothing follows all pieces
reads_nothing : (place : ℕ) (held : List Bool) (unit : List ℕ) (log : ReadLogState) → held ≡ [] → ReadsRest place held unit log log []
reads_nothing place held unit log none =
    let on : ReadsOn place log log [] = record { came = sym (append-nil log.came); ends = λ n end there. there } in
    subst (λ bs. ReadsRest place bs unit log log []) (sym none) on

-- as many were had as the unit has
pub reads_size : (place : ℕ) (held : List Bool) (unit : List ℕ) (k : ℕ) (log log' : ReadLogState) (done : List ℕ) → k ≡ pieces_in (length unit) → ReadsUpTo place held unit k log log' done → length done ≡ length unit
reads_size place held unit k log log' done many up = omega (arith, up.size, many)

-- so they are had of the unit
pub reads_end : (place : ℕ) (held : List Bool) (unit : List ℕ) (k : ℕ) (log log' : ReadLogState) (done : List ℕ) → k ≡ length held → length held ≡ pieces_in (length unit) → ReadsUpTo place held unit k log log' done → ReadsRest place held unit log log' done
reads_end place held unit k log log' done all many up =
    let size : length done ≡ length unit = reads_size place held unit k log log' done (all ∙ many) up in
    let none : drop k held ≡ [] = drop_all k held (omega (arith, all)) in
    subst (ReadsRest place held unit log log') (append-nil done) (up.on log' [] (omega (arith, size)) (reads_nothing (place + 46080 * k) (drop k held) (drop (46080 * k) unit) log' none))
