-- How many blocks the pieces have that aren't in memory, and how often nodes above those that came are joined: for who loads pieces and counts what is left to be read.
use Rattle.std.proofs.Common.{◌≡◌, ◌≤◌, ◌<◌, ◌+◌, ◌-◌, ◌*◌, ◌/◌, ◌%◌, ◌^◌, ℕ, zero, suc, Bool, true, false, List, [], ◌∷◌, length, get_or, set, min, drop, refl, arith, sym, ◌∙◌, ap, inl, inr}
use Rattle.std.specs.Prelude.{replicate, if◌then◌else◌}
use Rattle.std.proofs.Math.Nat.{mul-le-mul_right}
use Rattle.std.proofs.Math.Pow.{pow_mono}
use Rattle.std.proofs.Math.Seq.{drop-cons}
use Rattle.std.proofs.lemmas.Bool.{cases_lt}
use Rattle.std.proofs.lemmas.Nat.{pow-add}
use Rattle.fits_pieces.specs.Piece.{piece_size, pieces_in}
use Rattle.fits_pieces.specs.Pieces.{away_blocks}

-- those of the first piece, and those of the others
pub away-cons : (b : Bool) (held : List Bool) (len : ℕ) → away_blocks (b ∷ held) len ≡ (if b then 0 else min 46080 len / 2880) + away_blocks held (len - 46080)
away-cons true held len = omega arith
away-cons false held len = refl

-- those of one piece, and those of the pieces behind it
pub away_step : (held : List Bool) (len j : ℕ) → j < length held
    → away_blocks (drop j held) (len - 46080 * j) ≡ (if get_or held j false then 0 else piece_size len j / 2880) + away_blocks (drop (j + 1) held) (len - 46080 * (j + 1))
away_step held len j b =
    let next : suc j ≡ j + 1 = omega arith in
    let rest : len - 46080 * j - 46080 ≡ len - 46080 * (j + 1) = omega arith in
    ap (λ bs. away_blocks bs (len - 46080 * j)) (drop-cons held j false b)
    ∙ away-cons (get_or held j false) (drop (suc j) held) (len - 46080 * j)
    ∙ ap (λ n. (if get_or held j false then 0 else piece_size len j / 2880) + away_blocks (drop (suc j) held) n) rest
    ∙ ap (λ i. (if get_or held j false then 0 else piece_size len j / 2880) + away_blocks (drop i held) (len - 46080 * (j + 1))) next

-- a piece that comes into memory has its blocks less
pub away_set : (held : List Bool) (len j : ℕ) → j < length held → get_or held j false ≡ false → away_blocks (set held j true) len + piece_size len j / 2880 ≡ away_blocks held len
away_set [] len j b e = absurd (omega (arith, b))
away_set (true ∷ held) len zero b e = absurd (let z = e in (cc))
away_set (false ∷ held) len zero b e =
    let here : min 46080 (len - 46080 * 0) ≡ min 46080 len = omega arith in
    omega (arith, ap (λ n. n / 2880) here)
away_set (true ∷ held) len (suc j) b e =
    let here : min 46080 (len - 46080 - 46080 * j) ≡ min 46080 (len - 46080 * suc j) = omega arith in
    omega (arith, away_set held (len - 46080) j (omega (arith, b)) e, ap (λ n. n / 2880) here)
away_set (false ∷ held) len (suc j) b e =
    let here : min 46080 (len - 46080 - 46080 * j) ≡ min 46080 (len - 46080 * suc j) = omega arith in
    omega (arith, away_set held (len - 46080) j (omega (arith, b)) e, ap (λ n. n / 2880) here)

-- they are no more than all blocks
pub away_most : (held : List Bool) (len : ℕ) → away_blocks held len ≤ len / 2880
away_most [] len = omega arith
away_most (true ∷ held) len = omega (arith, away_most held (len - 46080))
away_most (false ∷ held) len = omega (arith, away_most held (len - 46080))

-- and all of them where no piece is in memory
pub away_none : (n len : ℕ) → away_blocks (replicate n false) len ≡ len / 2880
away_none zero len = refl
away_none (suc n) len = omega (arith, away_none n (len - 46080))

-- a piece has no more blocks than a tree of so many levels has leaves, of four at most
pub piece_few : (len j d : ℕ) → len / 2880 ≤ 2 ^ d → piece_size len j / 2880 ≤ 2 ^ min d 4
piece_few len j d few = elim (cases_lt d 4) [
  | inl low ↦
      let e : min d 4 ≡ d = omega (arith, low) in
      omega (arith, few, ap (λ n. 2 ^ n) e)
  | inr high ↦
      let e : min d 4 ≡ 4 = omega (arith, high) in
      omega (arith, ap (λ n. 2 ^ n) e)
]

-- what such trees of all pieces have is no more than what one of all blocks has
pub pieces_few : (len d : ℕ) → len % 2880 ≡ 0 → len / 2880 ≤ 2 ^ d → pieces_in len * 2 ^ min d 4 ≤ 2 ^ d
pieces_few len d whole few = elim (cases_lt d 4) [
  | inl low ↦
      let e : min d 4 ≡ d = omega (arith, low) in
      let most : 2 ^ d ≤ 2 ^ 4 = pow_mono {i = d} {j = 4} (omega (arith, low)) in
      let one : pieces_in len ≤ 1 = omega (arith, few, most, whole) in
      let less : pieces_in len * 2 ^ min d 4 ≤ 1 * 2 ^ min d 4 = mul-le-mul_right (2 ^ min d 4) one in
      omega (arith, less, ap (λ n. 2 ^ n) e)
  | inr high ↦
      let e : min d 4 ≡ 4 = omega (arith, high) in
      let sum : d - 4 + 4 ≡ d = omega (arith, high) in
      let parts : 2 ^ d ≡ 2 ^ (d - 4) * 2 ^ 4 = sym (ap (λ n. 2 ^ n) sum) ∙ pow-add 2 (d - 4) 4 in
      let all : pieces_in len ≤ 2 ^ (d - 4) = omega (arith, few, parts, whole) in
      let less : pieces_in len * 2 ^ min d 4 ≤ 2 ^ (d - 4) * 2 ^ min d 4 = mul-le-mul_right (2 ^ min d 4) all in
      omega (arith, less, parts, ap (λ n. 2 ^ (d - 4) * 2 ^ n) e)
]

-- nor have those of some pieces
pub loaded_few : (count len d : ℕ) → count ≤ pieces_in len → len % 2880 ≡ 0 → len / 2880 ≤ 2 ^ d → count * 2 ^ min d 4 ≤ 2 ^ d
loaded_few count len d some whole few =
    let less : count * 2 ^ min d 4 ≤ pieces_in len * 2 ^ min d 4 = mul-le-mul_right (2 ^ min d 4) some in
    omega (arith, less, pieces_few len d whole few)
