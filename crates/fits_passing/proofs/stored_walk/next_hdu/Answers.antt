use Rattle.std.proofs.Common.{◌≡◌, ◌+◌, ◌≤◌, arith, length, subst, sym, false}
use Rattle.std.proofs.lemmas.Result.{err_from_is_err_and}
use Rattle.fits_unit.specs.DataUnit.{is_passed}
use Rattle.fits_passing.specs.Met.{hdu_end, OverStops, StandsAt}
use Rattle.fits_passing.specs.declared.limits.TheConstants.{FILE_LIMIT}
use Rattle.fits_passing.proofs.MetLemmas.{end_bound, end_some, hdu_whole, left_passed, met_follows, next_stops, over_stops, passed_there, stops_follow, unread_there}
use Rattle.fits_passing.proofs.StoredLemmas.{limited_after}
use Rattle.fits_passing.proofs.stored_walk.next_hdu.Goals as goal

-- no HDU comes
pub returns-in_err-next-clause-err : goal.returns-in_err-next-clause-err
returns-in_err-next-clause-err g c =
    let p = err_from_is_err_and c.from_residual.result c.from_residual.ensures.1 in
    rw (p.1, p.2) (next_stops (g.F.Stored.bytes c.args.source.now.file) (g.F.Stored.bytes c.read.new.source.file) c.args.source.now c.read.new.source c.args.intake.now c.read.new.intake c.args.primary c.args.place c.in_err-next.field-0.0 c.in_err-next.ensures.err)

pub returns-in_err-next-clause-follows : goal.returns-in_err-next-clause-follows
returns-in_err-next-clause-follows g c = stops_follow (g.F.Stored.bytes c.args.source.now.file) (g.F.Stored.bytes c.read.new.source.file) c.args.source.now c.read.new.source c.args.intake.now c.read.new.intake c.args.primary c.in_err-next.field-0.0 c.in_err-next.ensures.err

pub byte_len-requires : goal.byte_len-requires
byte_len-requires g c = omega (arith, end_bound (g.F.Stored.bytes c.args.source.now.file) (g.F.Stored.bytes c.read.new.source.file) c.args.source.now c.read.new.source c.args.intake.now c.read.new.intake c.args.primary c.args.place FILE_LIMIT c.in_ok-next.next c.in_ok-next.ensures.ok c.in_ok-next.ensures.room c.requires.left)

pub overflow_add-end : goal.overflow_add-end
overflow_add-end g c = omega (arith, c.byte_len.ensures, c.byte_len-2.ensures, end_bound (g.F.Stored.bytes c.args.source.now.file) (g.F.Stored.bytes c.read.new.source.file) c.args.source.now c.read.new.source c.args.intake.now c.read.new.intake c.args.primary c.args.place FILE_LIMIT c.in_ok-next.next c.in_ok-next.ensures.ok c.in_ok-next.ensures.room c.requires.left)

pub overflow_add-end-2 : goal.overflow_add-end-2
overflow_add-end-2 g c = omega (arith, c.byte_len.ensures, c.byte_len-2.ensures, end_bound (g.F.Stored.bytes c.args.source.now.file) (g.F.Stored.bytes c.read.new.source.file) c.args.source.now c.read.new.source c.args.intake.now c.read.new.intake c.args.primary c.args.place FILE_LIMIT c.in_ok-next.next c.in_ok-next.ensures.ok c.in_ok-next.ensures.room c.requires.left)

pub pass_over-requires-clause-some : goal.pass_over-requires-clause-some
pass_over-requires-clause-some g c = omega (arith, c.byte_len.ensures, c.byte_len-2.ensures, end_some c.args.place c.in_ok-next.next c.in_ok-next.ensures.ok.whole)

pub pass_over-requires-clause-within : goal.pass_over-requires-clause-within
pass_over-requires-clause-within g c = omega (arith, c.byte_len.ensures, c.byte_len-2.ensures, end_bound (g.F.Stored.bytes c.args.source.now.file) (g.F.Stored.bytes c.read.new.source.file) c.args.source.now c.read.new.source c.args.intake.now c.read.new.intake c.args.primary c.args.place FILE_LIMIT c.in_ok-next.next c.in_ok-next.ensures.ok c.in_ok-next.ensures.room c.requires.left)

pub pass_over-requires-clause-limited : goal.pass_over-requires-clause-limited
pass_over-requires-clause-limited g c = limited_after c.args.source.now c.read.new.source c.requires.limited (met_follows (g.F.Stored.bytes c.args.source.now.file) (g.F.Stored.bytes c.read.new.source.file) c.args.source.now c.read.new.source c.args.intake.now c.read.new.intake c.args.primary c.in_ok-next.next c.in_ok-next.ensures.ok)

-- its data unit passed by
pub returns-then-has_passed-clause-there : goal.returns-then-has_passed-clause-there
returns-then-has_passed-clause-there g c = λ told is stands. passed_there (g.F.Stored.bytes c.args.source.now.file) (g.F.Stored.bytes c.read.new.source.file) c.args.source.now c.read.new.source c.args.intake.now c.read.new.intake told c.args.primary c.args.place c.in_ok-next.next c.in_ok-next.ensures.ok (sym c.if-has_passed.ensures) is stands

pub returns-then-has_passed-clause-left : goal.returns-then-has_passed-clause-left
returns-then-has_passed-clause-left g c = left_passed (g.F.Stored.bytes c.args.source.now.file) (g.F.Stored.bytes c.read.new.source.file) c.args.source.now c.read.new.source c.args.intake.now c.read.new.intake c.args.primary c.args.place FILE_LIMIT c.in_ok-next.next c.in_ok-next.ensures.ok (sym c.if-has_passed.ensures) c.requires.left

pub returns-then-has_passed-clause-follows : goal.returns-then-has_passed-clause-follows
returns-then-has_passed-clause-follows g c = met_follows (g.F.Stored.bytes c.args.source.now.file) (g.F.Stored.bytes c.read.new.source.file) c.args.source.now c.read.new.source c.args.intake.now c.read.new.intake c.args.primary c.in_ok-next.next c.in_ok-next.ensures.ok

pub returns-then-has_passed-clause-whole : goal.returns-then-has_passed-clause-whole
returns-then-has_passed-clause-whole g c = hdu_whole (g.F.Stored.bytes c.args.source.now.file) (g.F.Stored.bytes c.read.new.source.file) c.args.source.now c.read.new.source c.args.intake.now c.read.new.intake c.args.primary c.in_ok-next.next c.in_ok-next.ensures.ok

-- it stays unread
pub returns-in-Ok-clause-there : goal.returns-in-Ok-clause-there
returns-in-Ok-clause-there g c = λ told is stands.
    let end : c.args.place + (c.byte_len.result + c.byte_len-2.result) ≡ hdu_end c.args.place c.in_ok-next.next = omega (arith, c.byte_len.ensures, c.byte_len-2.ensures) in
    let unread : is_passed c.in_ok-next.next.unit ≡ false = sym c.if-has_passed.ensures in
    let over : StandsAt told (hdu_end c.args.place c.in_ok-next.next) c.pass_over.new.intake c.pass_over.new.source = subst (λ n. StandsAt told n c.pass_over.new.intake c.pass_over.new.source) end (c.in-Ok.ensures.stands told is) in
    let within : hdu_end c.args.place c.in_ok-next.next ≤ length told = omega (arith, end, c.in-Ok.ensures.there told is) in
    unread_there (g.F.Stored.bytes c.args.source.now.file) (g.F.Stored.bytes c.read.new.source.file) c.args.source.now c.read.new.source c.pass_over.new.source c.args.intake.now c.read.new.intake c.pass_over.new.intake told c.args.primary c.args.place c.in_ok-next.next
    c.in_ok-next.ensures.ok unread (c.pass_over.ensures.follows told is) stands within over

pub returns-in-Ok-clause-left : goal.returns-in-Ok-clause-left
returns-in-Ok-clause-left g c = omega (arith, c.byte_len.ensures, c.byte_len-2.ensures, c.in-Ok.ensures.left)

pub returns-in-Ok-clause-follows : goal.returns-in-Ok-clause-follows
returns-in-Ok-clause-follows g c = λ told is. met_follows (g.F.Stored.bytes c.args.source.now.file) (g.F.Stored.bytes c.read.new.source.file) c.args.source.now c.read.new.source c.args.intake.now c.read.new.intake c.args.primary c.in_ok-next.next c.in_ok-next.ensures.ok told (c.pass_over.ensures.follows told is)

pub returns-in-Ok-clause-whole : goal.returns-in-Ok-clause-whole
returns-in-Ok-clause-whole g c = hdu_whole (g.F.Stored.bytes c.args.source.now.file) (g.F.Stored.bytes c.read.new.source.file) c.args.source.now c.read.new.source c.args.intake.now c.read.new.intake c.args.primary c.in_ok-next.next c.in_ok-next.ensures.ok

pub returns-in-Err-clause-err : goal.returns-in-Err-clause-err
returns-in-Err-clause-err g c =
    let end : c.args.place + (c.byte_len.result + c.byte_len-2.result) ≡ hdu_end c.args.place c.in_ok-next.next = omega (arith, c.byte_len.ensures, c.byte_len-2.ensures) in
    let unread : is_passed c.in_ok-next.next.unit ≡ false = sym c.if-has_passed.ensures in
    over_stops (g.F.Stored.bytes c.args.source.now.file) (g.F.Stored.bytes c.read.new.source.file) c.args.source.now c.read.new.source c.pass_over.new.source c.args.intake.now c.read.new.intake c.args.primary c.args.place c.in_ok-next.next c.in-Err.fault
    c.in_ok-next.ensures.ok unread c.pass_over.ensures.follows (subst (λ n. OverStops n c.read.new.source c.pass_over.new.source c.in-Err.fault) end c.in-Err.ensures.err)

pub returns-in-Err-clause-follows : goal.returns-in-Err-clause-follows
returns-in-Err-clause-follows g c = λ told is. met_follows (g.F.Stored.bytes c.args.source.now.file) (g.F.Stored.bytes c.read.new.source.file) c.args.source.now c.read.new.source c.args.intake.now c.read.new.intake c.args.primary c.in_ok-next.next c.in_ok-next.ensures.ok told (c.pass_over.ensures.follows told is)
