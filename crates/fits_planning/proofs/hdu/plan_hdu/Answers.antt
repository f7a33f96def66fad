use Rattle.std.proofs.Common.{◌≡◌, ◌+◌, ◌++◌, ◌∙◌, ap, List, ℕ, length, arith}
use Rattle.std.proofs.lemmas.List.{length-append}
use Rattle.fits_card.specs.Header.{header_bytes}
use Rattle.fits_plane.specs.Plane.{PlaneState}
use Rattle.fits_planning.proofs.HduLemmas.{hdu_passed, header_blocks, still_lies, unit_blocks}
use Rattle.fits_planning.proofs.hdu.plan_hdu.Goals as goal

pub pass_blocks-requires-clause-whole : goal.pass_blocks-requires-clause-whole
pass_blocks-requires-clause-whole g c =
    let is : c.deref.result.now ≡ header_bytes c.args.hdu.now.header.header = c.deref.ensures.value ∙ c.in_ok-header.ensures.value in
    omega (arith, ap length is, header_blocks _ c.card_count-whole.ensures.whole.header)

pub returns-clause-plan : goal.returns-clause-plan
returns-clause-plan g c told after is lies here front =
    let header : List ℕ = c.deref.result.now in
    let same : header ≡ header_bytes c.args.hdu.now.header.header = c.deref.ensures.value ∙ c.in_ok-header.ensures.value in
    let one = c.in_ok-pass_blocks.ensures.plan told after (c.plan_unit.ensures.follows told is) here front in
    let long : length (after ++ header) ≡ c.args.start + c.len.result = omega (arith, length-append after header, here, ap length c.deref.ensures.value, c.len.ensures) in
    hdu_passed told after header _ _ _ _ c.header_of.ensures.work same (c.in_ok-plan_unit.ensures.plan told (after ++ header) is (still_lies told _ _ _ c.header_of.ensures.work lies) long one)

pub returns-clause-follows : goal.returns-clause-follows
returns-clause-follows g c = λ xs is. c.pass_blocks.ensures.follows xs (c.plan_unit.ensures.follows xs is)

pub returns-in_err-plan_unit-clause-follows : goal.returns-in_err-plan_unit-clause-follows
returns-in_err-plan_unit-clause-follows g c = λ xs is. c.pass_blocks.ensures.follows xs (c.plan_unit.ensures.follows xs is)

pub plan_unit-requires-clause-begins : goal.plan_unit-requires-clause-begins
plan_unit-requires-clause-begins g c =
    omega (arith, c.requires.begins, c.len.ensures, ap length c.in_ok-header.ensures.value, header_blocks _ c.card_count-whole.ensures.whole.header)

pub returns-clause-blocks : goal.returns-clause-blocks
returns-clause-blocks g c =
    let whole = c.card_count-whole.ensures.whole in
    let same = ap (λ (plane : PlaneState). length plane.bytes) c.header_of.ensures.work.plane in
    omega (arith, c.requires.begins, c.len.ensures, ap length c.in_ok-header.ensures.value, header_blocks _ whole.header, c.data_len.ensures, same, unit_blocks whole.shape _ whole.size)

pub plan_unit-requires-clause-whole : goal.plan_unit-requires-clause-whole
plan_unit-requires-clause-whole g c =
    let whole = c.card_count-whole.ensures.whole in
    omega (arith, ap (λ (plane : PlaneState). length plane.bytes) c.header_of.ensures.work.plane, unit_blocks whole.shape _ whole.size)
