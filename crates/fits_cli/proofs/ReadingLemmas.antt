-- What a line comes to is decided by as many of its bytes as are kept.
use Rattle.std.proofs.Common.{◌≡◌, ℕ, ◌+◌, ◌-◌, ◌<◌, ◌≤◌, List, ◌++◌, length, take, refl, ap, sym, ◌∙◌, inl, inr, arith, rules, false}
use Rattle.std.specs.Prelude.{nat_le, min}
use Rattle.std.proofs.Math.Seq.{take-append-add}
use Rattle.std.proofs.lemmas.Bool.{cases_lt}
use Rattle.std.proofs.lemmas.List.{take_all, take_min, length-take-le}
use Rattle.fits_script.specs.declared.limits.TheConstants.{LINE_LIMIT}
use Rattle.fits_script.specs.Line.{reading_of}
use Rattle.fits_script.specs.declared.line_reading.LineReading.TheVariants.{TooLong}
use Rattle.fits_cli.specs.Running.{kept_of}

-- a line within the limit is kept whole
pub kept_of-short : (line : List ℕ) → length line ≤ LINE_LIMIT → kept_of line ≡ line
unfolding kept_of
kept_of-short line short = take_all (LINE_LIMIT + 1) line (omega arith)

-- a number past a limit
pub over_limit : (n limit : ℕ) → limit < n → nat_le n limit ≡ false
over_limit n limit over = search rules

-- a longer one is too long
pub reading_of-long : (line : List ℕ) → LINE_LIMIT < length line → reading_of line ≡ TooLong
unfolding reading_of
reading_of-long line long = let over : nat_le (length line) LINE_LIMIT ≡ false = over_limit (length line) LINE_LIMIT long in rw over refl

-- and so is what is kept of it
kept_of-long : (line : List ℕ) → LINE_LIMIT < length line → reading_of (kept_of line) ≡ reading_of line
unfolding kept_of reading_of
kept_of-long line long =
    let size : length (take (LINE_LIMIT + 1) line) ≡ LINE_LIMIT + 1 = length-take-le (LINE_LIMIT + 1) line (omega arith) in
    let kept : nat_le (length (take (LINE_LIMIT + 1) line)) LINE_LIMIT ≡ false = over_limit (length (take (LINE_LIMIT + 1) line)) LINE_LIMIT (omega (arith, size)) in
    let whole : nat_le (length line) LINE_LIMIT ≡ false = over_limit (length line) LINE_LIMIT long in
    rw kept (rw whole refl)

-- what is kept of a line comes to what the line does
pub reading_of-kept_of : (line : List ℕ) → reading_of (kept_of line) ≡ reading_of line
reading_of-kept_of line =
    elim (cases_lt LINE_LIMIT (length line)) [ inl long ↦ kept_of-long line long | inr short ↦ ap reading_of (kept_of-short line short) ]

-- a text and as much more as there is room for
taken_more : (limit room m : ℕ) (line more new : List ℕ) → length line ≤ limit → room ≡ limit - length line → m ≡ min room (length more) → new ≡ line ++ take m more
    → new ≡ take limit (line ++ more)
taken_more limit room m line more new within is least added =
    let whole : limit ≡ length line + room = omega (arith, within, is) in
    added ∙ ap (λ k. line ++ take k more) least ∙ ap (λ t. line ++ t) (take_min room more) ∙ sym (ap (λ k. take k (line ++ more)) whole ∙ take-append-add line more room)

-- what is kept of a line and of what follows
pub kept_more : (room m : ℕ) (line more new : List ℕ) → length line ≤ LINE_LIMIT + 1 → room ≡ LINE_LIMIT + 1 - length line → m ≡ min room (length more) → new ≡ line ++ take m more
    → new ≡ kept_of (line ++ more)
unfolding kept_of
kept_more = taken_more (LINE_LIMIT + 1)
