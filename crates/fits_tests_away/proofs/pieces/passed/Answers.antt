use Rattle.std.proofs.Common.{◌≡◌, ◌+◌, ◌++◌, ◌∙◌, ℕ, List, [], ap, arith, length}
use Rattle.std.proofs.lemmas.Bool.Decides.{nat_tests}
use Rattle.std.proofs.lemmas.List.{length-append}
use Rattle.fits_pixels.specs.declared.layout.Layout.{Layout}
use Rattle.fits_pieces.specs.Passing.{PassingState}
use Rattle.fits_tests_away.proofs.pieces.passed.Goals as goal

-- a piece more passed by
more : (old new : PassingState) (piece : List ℕ) → new ≡ record old { bytes = old.bytes ++ piece } → (length new.bytes ≡ length old.bytes + length piece) × (new.len ≡ old.len)
more old new piece is = (ap (λ (it : PassingState). length it.bytes) is ∙ length-append old.bytes piece, ap (λ (it : PassingState). it.len) is)

-- none did so far
none : (it : PassingState) (layout : Layout) (len : ℕ) → it ≡ record { layout = layout; len = len; bytes = [] } → (length it.bytes ≡ 0) × (it.len ≡ len)
none it layout len is = (ap (λ (it : PassingState). length it.bytes) is, ap (λ (it : PassingState). it.len) is)

pub add-requires-3-clause-size : goal.add-requires-3-clause-size
add-requires-3-clause-size g c =
    let all : length c.args.bytes.now ≡ 95040 = grind (arith, nat_tests, c.holds.ensures) in
    let begun = none c.in_ok-unit.unit _ 95040 c.in_ok-unit.ensures in
    let first = more c.in_ok-unit.unit c.add.new.self c.split_at.result.0.now c.add.ensures in
    let second = more c.add.new.self c.add-2.new.self c.split_at-2.result.0.now c.add-2.ensures in
    omega (arith, all, first.0, first.1, second.0, second.1, begun.0, begun.1, c.split_at.ensures.front_len, c.split_at.ensures.back_len, c.split_at-2.ensures.front_len, c.split_at-2.ensures.back_len)

pub end-requires : goal.end-requires
end-requires g c =
    let all : length c.args.bytes.now ≡ 95040 = grind (arith, nat_tests, c.holds.ensures) in
    let begun = none c.in_ok-unit.unit _ 95040 c.in_ok-unit.ensures in
    let first = more c.in_ok-unit.unit c.add.new.self c.split_at.result.0.now c.add.ensures in
    let second = more c.add.new.self c.add-2.new.self c.split_at-2.result.0.now c.add-2.ensures in
    let third = more c.add-2.new.self c.add-3.new.self c.split_at-2.result.1.now c.add-3.ensures in
    omega (arith, all, first.0, first.1, second.0, second.1, third.0, third.1, begun.0, begun.1, c.split_at.ensures.front_len, c.split_at.ensures.back_len, c.split_at-2.ensures.front_len, c.split_at-2.ensures.back_len)
