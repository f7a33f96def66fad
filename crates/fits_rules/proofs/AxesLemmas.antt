-- The axes, one after another.
use Rattle.std.proofs.Common.{◌≡◌, ℕ, zero, suc, ◌+◌, ◌-◌, ◌<◌, ◌≤◌, List, [], ◌∷◌, ◌++◌, length, Option, None, Some, option_and_then, ok_or, Result, Ok, Err, refl, ap, sym, ◌∙◌, arith}
use Rattle.std.specs.List.{range_with_len}
use Rattle.std.proofs.lemmas.Option.{slice_get_within, option_and_then_some}
use Rattle.fits_card.specs.Header.{card_at}
use Rattle.fits_rules.specs.Reads.{integer_said}
use Rattle.fits_rules.specs.Shape.{each, ◌>>=◌, up_to, if_named, card_named, axis_name, axis_of, axes_of}
use Rattle.fits_rules.specs.declared.rules.TheConstants.{LARGEST}
use Rattle.fits_rules.proofs.ShapeLemmas.{reads_header, still_in_range, reads_both}

-- numbers in order, in two parts
range_parts : (first front back : ℕ) → range_with_len first (front + back) ≡ range_with_len first front ++ range_with_len (first + front) back
range_parts first zero back = let same : zero + back ≡ back = omega arith in let start : first + zero ≡ first = omega arith in rw (same, start) refl
range_parts first (suc front) back =
    let size : suc front + back ≡ suc (front + back) = omega arith in
    let start : first + suc front ≡ first + 1 + front = omega arith in
    rw (size, start) (ap (λ (ns : List ℕ). first ∷ ns) (range_parts (first + 1) front back))

-- what a chain of values rests on
pub bind_ok : {X Y : Type 0} (r : Result X ℕ) (next : X → Result Y ℕ) (y : Y) → (r >>= next) ≡ Ok y → (x : X) × (r ≡ Ok x) × (next x ≡ Ok y)
bind_ok (Ok x) next y e = (x, refl, e)
bind_ok (Err place) next y e = absurd (cc)

-- one more after those that are given
each-push : {X Y : Type 0} (give : X → Result Y ℕ) (xs : List X) (ys : List Y) (x : X) (y : Y) → each give xs ≡ Ok ys → give x ≡ Ok y → each give (xs ++ x ∷ []) ≡ Ok (ys ++ y ∷ [])
each-push {X} {Y} give [] ys x y before here =
    let none : [] ≡ ys = cc in
    rw here (ap (λ (l : List Y). Ok (l ++ y ∷ [])) none)
each-push {X} {Y} give (w ∷ xs) ys x y before here =
    let head = bind_ok (give w) (λ (v : Y). each give xs >>= (λ (vs : List Y). Ok (v ∷ vs))) ys before in
    let tail = bind_ok (each give xs) (λ (vs : List Y). Ok (head.0 ∷ vs)) ys head.2 in
    let whole : head.0 ∷ tail.0 ≡ ys = let same : Ok (head.0 ∷ tail.0) ≡ Ok ys = tail.2 in cc in
    rw (head.1, each-push give xs tail.0 x y tail.1 here) (ap (λ (l : List Y). Ok (l ++ y ∷ [])) whole)

-- the first that isn't
each-stop : {X Y : Type 0} (give : X → Result Y ℕ) (xs zs : List X) (ys : List Y) (x : X) (place : ℕ) → each give xs ≡ Ok ys → give x ≡ Err place → each give (xs ++ x ∷ zs) ≡ Err place
each-stop give [] zs ys x place before here = rw here refl
each-stop {X} {Y} give (w ∷ xs) zs ys x place before here =
    let head = bind_ok (give w) (λ (v : Y). each give xs >>= (λ (vs : List Y). Ok (v ∷ vs))) ys before in
    let tail = bind_ok (each give xs) (λ (vs : List Y). Ok (head.0 ∷ vs)) ys head.2 in
    rw (head.1, each-stop give xs zs tail.0 x place tail.1 here) refl

-- what an axis gives
axis_gives : (cards : List (List ℕ)) (n m : ℕ) (o : Option ℕ) → n ≡ m → o ≡ axis_of cards m → ok_or (axis_of cards n) (3 + n) ≡ ok_or o (3 + m)
axis_gives cards n m o same is = ap (λ k. ok_or (axis_of cards k) (3 + k)) same ∙ ap (λ x. ok_or x (3 + m)) (sym is)

-- no axes are there at first
pub axes_begin : (cards : List (List ℕ)) → axes_of cards 0 ≡ Ok []
unfolding axes_of
axes_begin cards = refl

-- one more axis that is there
pub axes_more : (cards : List (List ℕ)) (i axis : ℕ) (axes : List ℕ) → axes_of cards i ≡ Ok axes → Some axis ≡ axis_of cards (i + 1) → axes_of cards (i + 1) ≡ Ok (axes ++ axis ∷ [])
unfolding axes_of
axes_more cards i axis axes before here =
    ap (each (λ n. ok_or (axis_of cards n) (3 + n))) (range_parts 1 i 1)
    ∙ each-push (λ n. ok_or (axis_of cards n) (3 + n)) (range_with_len 1 i) axes (1 + i) axis before (axis_gives cards (1 + i) (i + 1) (Some axis) (omega arith) here)

-- the first axis that breaks its rule
pub axes_stop : (cards : List (List ℕ)) (i naxis : ℕ) (axes : List ℕ) → axes_of cards i ≡ Ok axes → i < naxis → None ≡ axis_of cards (i + 1) → Err (4 + i) ≡ axes_of cards naxis
unfolding axes_of
axes_stop cards i naxis axes before within here =
    let give = λ (n : ℕ). ok_or (axis_of cards n) (3 + n) in
    let size : naxis ≡ i + suc (naxis - i - 1) = omega arith in
    let place : 4 + i ≡ 3 + (i + 1) = omega arith in
    let stops : each give (range_with_len 1 i ++ range_with_len (1 + i) (suc (naxis - i - 1))) ≡ Err (3 + (i + 1)) = each-stop give (range_with_len 1 i) (range_with_len (1 + i + 1) (naxis - i - 1)) axes (1 + i) (3 + (i + 1)) before (axis_gives cards (1 + i) (i + 1) None (omega arith) here) in
    ap Err place ∙ sym (ap (λ k. each give (range_with_len 1 k)) size ∙ (ap (each give) (range_parts 1 i (suc (naxis - i - 1))) ∙ stops))

-- an axis that is there has a card
pub axis_within : (cards : List (List ℕ)) (n axis : ℕ) → Some axis ≡ axis_of cards n → 3 + n ≤ length cards
unfolding axis_of card_named
axis_within cards n axis is =
    option_and_then_some (up_to LARGEST) (option_and_then integer_said (option_and_then (if_named (axis_name n)) (card_at cards (3 + n)))) axis (sym is) (λ number e _.
    option_and_then_some integer_said (option_and_then (if_named (axis_name n)) (card_at cards (3 + n))) number e (λ card f _.
    option_and_then_some (if_named (axis_name n)) (card_at cards (3 + n)) card f (λ found g _.
    let within = slice_get_within cards (3 + n - 1) found g in omega arith)))

pub ruleset axes_steps = (axes_begin, axes_more, axes_stop, axis_within, reads_header, still_in_range, reads_both)
