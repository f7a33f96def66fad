-- Slots in an order: each once, and still so where some change places.
use Rattle.std.proofs.Common.{◌≡◌, ℕ, zero, suc, ◌+◌, ◌-◌, ◌<◌, ◌≤◌, ◌≢◌, Bool, cond, eqb, List, [], ◌∷◌, ◌++◌, length, take, drop, refl, sym, ◌∙◌, ap, arith, length-append, length-take-le, length-drop, take-append-drop, append_assoc}
use Rattle.std.specs.List.{range_with_len}
use Rattle.std.specs.Prelude.{All}
use Rattle.std.proofs.lemmas.Bool.{cond-false, ne_eqb}
use Rattle.std.proofs.lemmas.List.{drop-drop, drop-take, take-take, take-append-le, drop-append-le, take_at, drop_at}
use Rattle.std.proofs.Math.Seq.{take-append-add}
use Rattle.std.proofs.lemmas.List.Elements.{All-append, All-take, All-drop, All-tail}
use Rattle.fits_card.specs.Change.{moved}
use Rattle.fits_card.specs.Order.{AreSlots, times, turned}

-- how many times a slot stands in two lists
times_both : (s : ℕ) (xs ys : List ℕ) → times s (xs ++ ys) ≡ times s xs + times s ys
times_both s [] ys = omega arith
times_both s (x ∷ xs) ys = omega (arith, times_both s xs ys)

-- and among the first and the others
pub times_parts : (s k : ℕ) (xs : List ℕ) → times s xs ≡ times s (take k xs) + times s (drop k xs)
times_parts s k xs = ap (λ (ys : List ℕ). times s ys) (sym (take-append-drop k xs)) ∙ times_both s (take k xs) (drop k xs)

-- a number that is above all of them is none of them
absent : (n : ℕ) (xs : List ℕ) → All (λ x. x < n) xs → times n xs ≡ 0
absent n [] below = refl
absent n (x ∷ xs) below =
    let first : x < n = below 0 0 (omega arith) in
    let other : n ≢ x = λ e. omega (arith, e, first) in
    omega (arith, absent n xs (All-tail (λ y. y < n) x xs below), cond-false {A = ℕ} (eqb n x) 1 0 (ne_eqb n x other))

-- the first of them are slots too
pub front_slots : (xs : List ℕ) (k n : ℕ) → AreSlots xs n → AreSlots (take k xs) n
front_slots xs k n slots = record {
  below = All-take (λ x. x < n) k xs slots.below;
  once = λ s. omega (arith, slots.once s, times_parts s k xs);
}

-- one more stands at most once
once_more : (s n t : ℕ) (xs : List ℕ) (b : Bool) → b ≡ eqb s n → AreSlots xs n → cond b 1 0 + times s xs ≤ 1
once_more s n t xs b same slots = grind (arith, slots.once s, absent n xs slots.below)

-- and one more
pub more_slots : (xs : List ℕ) (n : ℕ) → AreSlots xs n → AreSlots (xs ++ n ∷ []) (n + 1)
more_slots xs n slots =
    let wider : All (λ x. x < n + 1) xs = λ k d within. omega (arith, slots.below k d within) in
    let last : All (λ x. x < n + 1) (n ∷ []) = λ k d within. grind (arith, within) in
    record {
      below = All-append (λ x. x < n + 1) xs (n ∷ []) wider last;
      once = λ s. omega (arith, times_both s xs (n ∷ []), once_more s n 0 xs (eqb s n) refl slots);
    }

-- where the rest changes places, each stands as often
same_times : (s : ℕ) (xs : List ℕ) (f c : ℕ) → times s (turned xs f c) ≡ times s xs
same_times s xs f c = omega (
  arith,
  times_parts s f xs,
  times_parts s c (drop f xs),
  times_both s (take f xs) (drop c (drop f xs) ++ take c (drop f xs)),
  times_both s (drop c (drop f xs)) (take c (drop f xs)),
)

-- and they are still below the same number
still_below : (xs : List ℕ) (f c n : ℕ) → All (λ x. x < n) xs → All (λ x. x < n) (turned xs f c)
still_below xs f c n below =
    let rest = All-drop (λ x. x < n) f xs below in
    All-append (λ x. x < n) (take f xs) _ (All-take (λ x. x < n) f xs below)
    (All-append (λ x. x < n) (drop c (drop f xs)) _ (All-drop (λ x. x < n) c (drop f xs) rest) (All-take (λ x. x < n) c (drop f xs) rest))

-- so they are slots, where some before an end change places, and the others stay
pub turned_slots : (xs : List ℕ) (end f c n : ℕ) → AreSlots xs n → AreSlots (turned (take end xs) f c ++ drop end xs) n
turned_slots xs end f c n slots =
    let front = take end xs in
    record {
      below = All-append (λ x. x < n) (turned front f c) _ (still_below front f c n (All-take (λ x. x < n) end xs slots.below)) (All-drop (λ x. x < n) end xs slots.below);
      once = λ s. omega (arith, slots.once s, times_parts s end xs, same_times s front f c, times_both s (turned front f c) (drop end xs));
    }

-- there are as many
pub turned_size : (xs : List ℕ) (f c : ℕ) → f ≤ length xs → length (turned xs f c) ≡ length xs
turned_size xs f c low = omega (
  arith,
  length-take-le f xs low,
  length-drop f xs,
  length-append (take f xs) (drop c (drop f xs) ++ take c (drop f xs)),
  length-append (drop c (drop f xs)) (take c (drop f xs)),
  ap (λ (ys : List ℕ). length ys) (take-append-drop c (drop f xs)),
  length-append (take c (drop f xs)) (drop c (drop f xs)),
)

-- of those before an end, only they tell which stand first
pub front_told : (xs : List ℕ) (end f c n : ℕ) → end ≤ length xs → f ≤ end → n ≤ end → take n (turned (take end xs) f c ++ drop end xs) ≡ take n (turned (take end xs) f c)
front_told xs end f c n within low few =
    let size = length-take-le end xs within in
    take-append-le n (turned (take end xs) f c) (drop end xs) (omega (arith, size, turned_size (take end xs) f c (omega (arith, size))))

-- what stands in front stays there, where more come behind all
pub front_stays : (xs ys : List ℕ) (n used : ℕ) → used ≤ n → take n ys ≡ xs → take used ys ≡ take used xs
front_stays xs ys n used low same = sym (take-take used n ys low) ∙ ap (take used) same

-- and behind it too
pub grown : (xs : List ℕ) (s n : ℕ) → n ≡ length xs → take n (xs ++ s ∷ []) ≡ xs
grown xs s n is = take_at xs (s ∷ []) n (sym is)

-- numbers in a row, and one more
counted_on : (a n : ℕ) → range_with_len a (suc n) ≡ range_with_len a n ++ (a + n) ∷ []
counted_on a zero = ap (λ (x : ℕ). x ∷ []) (omega arith)
counted_on a (suc n) = ap (λ (xs : List ℕ). a ∷ xs) (counted_on (a + 1) n ∙ ap (λ (j : ℕ). range_with_len (a + 1) n ++ j ∷ []) (omega arith))

-- the numbers from 0 on, and one more
pub one_further : (n : ℕ) (xs : List ℕ) → xs ≡ range_with_len 0 n → xs ++ n ∷ [] ≡ range_with_len 0 (n + 1)
one_further n xs same =
    let next : n + 1 ≡ suc n = omega arith in
    let last : 0 + n ≡ n = omega arith in
    ap (λ (ys : List ℕ). ys ++ n ∷ []) same ∙ sym (ap (range_with_len 0) next ∙ (counted_on 0 n ∙ ap (λ (j : ℕ). range_with_len 0 n ++ j ∷ []) last))

-- the first of the first
front_of_front : (xs : List ℕ) (f used : ℕ) → f ≤ used → take f (take used xs) ≡ take f xs
front_of_front xs f used low = take-take f used xs low

-- the others of the first
rest_of_front : (xs : List ℕ) (f used k : ℕ) → used ≡ f + k → drop f (take used xs) ≡ take k (drop f xs)
rest_of_front xs f used k is = ap (λ (n : ℕ). drop f (take n xs)) is ∙ drop-take f k xs

-- the slots in use, where some of them went behind all others
pub gone : (xs : List ℕ) (f c used : ℕ) → f + c ≤ used → used ≤ length xs
    → take (used - c) (take f xs ++ (drop (f + c) xs ++ take c (drop f xs))) ≡ take f (take used xs) ++ drop (f + c) (take used xs)
gone xs f c used fits within =
    let k = used - c - f in
    let size : length (take f xs) ≡ f = length-take-le f xs (omega arith) in
    let many : used - c ≡ length (take f xs) + k = omega (arith, size) in
    let behind = drop (f + c) xs ++ take c (drop f xs) in
    let few : k ≤ length (drop (f + c) xs) = omega (arith, length-drop (f + c) xs) in
    ap (λ (n : ℕ). take n (take f xs ++ behind)) many
    ∙ (take-append-add (take f xs) behind k
    ∙ (ap (λ (ys : List ℕ). take f xs ++ ys) (take-append-le k (drop (f + c) xs) (take c (drop f xs)) few ∙ sym (rest_of_front xs (f + c) used k (omega arith)))
    ∙ ap (λ (ys : List ℕ). ys ++ drop (f + c) (take used xs)) (sym (front_of_front xs f used (omega arith)))))

-- and so where the free ones stay behind them
pub gone_in_use : (xs : List ℕ) (f c used : ℕ) → f + c ≤ used → used ≤ length xs
    → take (used - c) (turned (take used xs) f c ++ drop used xs) ≡ take f (take used xs) ++ drop (f + c) (take used xs)
gone_in_use xs f c used fits within =
    let front = take used xs in
    let same : take used front ≡ front = take-take used used xs (omega arith) in
    front_told xs used f c (used - c) within (omega arith) (omega arith)
    ∙ (ap (λ (ys : List ℕ). take (used - c) (take f front ++ (ys ++ take c (drop f front)))) (drop-drop c f front)
    ∙ (gone front f c used fits (omega (arith, length-take-le used xs within)) ∙ ap (λ (ys : List ℕ). take f ys ++ drop (f + c) ys) same))

-- the slots in use behind a place, where some came there from behind all others
pub came-after : (xs : List ℕ) (f c used m : ℕ) → f ≤ used → used + c ≤ length xs → m ≡ length xs - f - c
    → drop (f + c) (take (used + c) (take f xs ++ (drop m (drop f xs) ++ take m (drop f xs)))) ≡ drop f (take used xs)
came-after xs f c used m low fits is =
    let last = drop m (drop f xs) in
    let others = take m (drop f xs) in
    let all = take f xs ++ (last ++ others) in
    let size : length (take f xs ++ last) ≡ f + c = omega (arith, length-append (take f xs) last, length-take-le f xs (omega arith), length-drop m (drop f xs), length-drop f xs) in
    drop_take_more all
    ∙ (ap (take (used - f)) (ap (drop (f + c)) (sym (append_assoc (take f xs) last others)) ∙ drop_at (take f xs ++ last) others (f + c) size)
    ∙ (take-take (used - f) m (drop f xs) (omega arith) ∙ sym (rest_of_front xs f used (used - f) (omega arith))))
  where
    drop_take_more : (ys : List ℕ) → drop (f + c) (take (used + c) ys) ≡ take (used - f) (drop (f + c) ys)
    drop_take_more ys = rest_of_front ys (f + c) (used + c) (used - f) (omega arith)

-- and so where the free ones stay behind them
pub came_in_use : (xs : List ℕ) (f c used end : ℕ) → f ≤ used → end ≡ used + c → end ≤ length xs
    → drop (f + c) (take end (turned (take end xs) f (end - f - c) ++ drop end xs)) ≡ drop f (take used xs)
came_in_use xs f c used end low is within =
    let front = take end xs in
    let size = length-take-le end xs within in
    ap (drop (f + c)) (front_told xs end f (end - f - c) end within (omega arith) (omega arith)
    ∙ ap (λ (n : ℕ). take n (turned front f (end - f - c))) is)
    ∙ (came-after front f c used (end - f - c) low (omega (arith, size)) (omega (arith, size))
    ∙ ap (drop f) (take-take used end xs (omega arith)))

-- the first of three parts, of which all of the first two
first_parts : (front one xs : List ℕ) (used k : ℕ) → used ≡ length front + (length one + k) → take used (front ++ (one ++ xs)) ≡ front ++ (one ++ take k xs)
first_parts front one xs used k is =
    ap (λ (n : ℕ). take n (front ++ (one ++ xs))) is
    ∙ (take-append-add front (one ++ xs) (length one + k) ∙ ap (λ (ys : List ℕ). front ++ ys) (take-append-add one xs k))

-- one was put behind all others, and brought from there: so it was moved, among those in use too
module _ (xs : List ℕ) (f t used : ℕ) (first : f < used) (high : t < used) (within : used ≤ length xs) where
  abbrev pub others : List ℕ
  others = take f xs ++ drop (f + 1) xs

  abbrev pub one : List ℕ
  one = take 1 (drop f xs)

  abbrev pub sent : List ℕ
  sent = take f xs ++ (drop (f + 1) xs ++ one)

  sent_apart : sent ≡ others ++ one
  sent_apart = sym (append_assoc (take f xs) (drop (f + 1) xs) one)

  others_size : length others + 1 ≡ length xs
  others_size = omega (arith, length-append (take f xs) (drop (f + 1) xs), length-take-le f xs (omega arith), length-drop (f + 1) xs)

  one_size : length one ≡ 1
  one_size = length-take-le 1 (drop f xs) (omega (arith, length-drop f xs))

  sent_size : length sent ≡ length xs
  sent_size = ap (λ (ys : List ℕ). length ys) sent_apart ∙ omega (arith, length-append others one, one_size, others_size)

  behind : drop t sent ≡ drop t others ++ one
  behind = ap (drop t) sent_apart ∙ drop-append-le t others one (omega (arith, others_size))

  behind_size : (m : ℕ) → m ≡ length xs - t - 1 → length (drop t others) ≡ m
  behind_size m is = omega (arith, length-drop t others, others_size)

  brought : (m : ℕ) → m ≡ length xs - t - 1 → take t sent ++ (drop m (drop t sent) ++ take m (drop t sent)) ≡ take t sent ++ (one ++ drop t others)
  brought m is = rw behind (ap (λ (ys : List ℕ). take t sent ++ (ys ++ take m (drop t others ++ one))) (drop_at (drop t others) one m (behind_size m is))
      ∙ ap (λ (ys : List ℕ). take t sent ++ (one ++ ys)) (take_at (drop t others) one m (behind_size m is)))

  same_one : take 1 (drop f (take used xs)) ≡ one
  same_one = ap (take 1) (rest_of_front xs f used (used - f) (omega arith)) ∙ take-take 1 (used - f) (drop f xs) (omega arith)

  -- those in use without it
  left_in_use : take (used - 1) sent ≡ take f (take used xs) ++ drop (f + 1) (take used xs)
  left_in_use = gone xs f 1 used (omega arith) within

  rest_in_use : drop t (take (used - 1) sent) ≡ take (used - 1 - t) (drop t others)
  rest_in_use = rest_of_front sent t (used - 1) (used - 1 - t) (omega arith)
      ∙ (ap (take (used - 1 - t)) behind ∙ take-append-le (used - 1 - t) (drop t others) one (omega (arith, length-drop t others, others_size)))

  pub moved_on : (m : ℕ) → m ≡ length xs - t - 1 → take used (take t sent ++ (drop m (drop t sent) ++ take m (drop t sent))) ≡ moved (take used xs) (f + 1) (t + 1)
  moved_on m is =
      let parts : used ≡ length (take t sent) + (length one + (used - 1 - t)) = omega (arith, length-take-le t sent (omega (arith, sent_size)), one_size) in
      ap (take used) (brought m is) ∙ (first_parts (take t sent) one (drop t others) used (used - 1 - t) parts ∙ sym right)
    where
      right : moved (take used xs) (f + 1) (t + 1) ≡ take t sent ++ (one ++ take (used - 1 - t) (drop t others))
      right =
          let from_here : f + 1 - 1 ≡ f = omega arith in
          let to_here : t + 1 - 1 ≡ t = omega arith in
          let none_more : t + 0 ≡ t = omega arith in
          rw (from_here, to_here, none_more, same_one, ← left_in_use, front_of_front sent t (used - 1) (omega arith), rest_in_use) refl

-- and so where the free ones stay behind them
pub moved_in_use : (xs ys : List ℕ) (f t used : ℕ) → f < used → t < used → used ≤ length xs → ys ≡ turned (take used xs) f 1 ++ drop used xs
    → take used (turned (take used ys) t (used - t - 1) ++ drop used ys) ≡ moved (take used xs) (f + 1) (t + 1)
moved_in_use xs ys f t used first high within is =
    let front = take used xs in
    let size = length-take-le used xs within in
    let turned_once : turned front f 1 ≡ take f front ++ (drop (f + 1) front ++ take 1 (drop f front)) = ap (λ (zs : List ℕ). take f front ++ (zs ++ take 1 (drop f front))) (drop-drop 1 f front) in
    let there : take used ys ≡ take f front ++ (drop (f + 1) front ++ take 1 (drop f front))
    = ap (take used) is ∙ (take_at (turned front f 1) (drop used xs) used (turned_size front f 1 (omega (arith, size)) ∙ size) ∙ turned_once) in
    let many : used ≤ length ys = omega (arith, ap (λ (zs : List ℕ). length zs) is, length-append (turned front f 1) (drop used xs), turned_size front f 1 (omega (arith, size)), size) in
    front_told ys used t (used - t - 1) used many (omega arith) (omega arith)
    ∙ (ap (λ (zs : List ℕ). take used (turned zs t (used - t - 1))) there
    ∙ (moved_on front f t used first high (omega (arith, size)) (used - t - 1) (omega (arith, size))
    ∙ ap (λ (zs : List ℕ). moved zs (f + 1) (t + 1)) (take-take used used xs (omega arith))))

pub ruleset made_steps = (more_slots, one_further)

pub ruleset front_steps = (front_slots)
