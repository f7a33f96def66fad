use Rattle.std.proofs.Common.{◌≡◌, subst, arith}
use Rattle.fits_stream.specs.Intake.{supply}
use Rattle.fits_diff.specs.DiffSteps.{TakesUnits, UnitsStop}
use Rattle.fits_diff.proofs.PassingLemmas.{rest_stops, units_same}
use Rattle.fits_diff.proofs.units.compare_units.Goals as goal

-- the rest of one doesn't come
pub returns-in-Err-skip_units-clause-err : goal.returns-in-Err-skip_units-clause-err
returns-in-Err-skip_units-clause-err g c =
    let len = c.args.lens.first in
    let same : len ≡ c.args.lens.second = omega arith in
    let old = supply (g.F.Source.state c.args.a.now) c.args.first.now in
    let mid = supply (g.F.Source.state c.pass_same.new.a) c.pass_same.new.first in
    let new = supply (g.F.Source.state c.skip_units-2.new.a) c.skip_units-2.new.first in
    let old_other = supply (g.F.Source.state c.args.b.now) c.args.second.now in
    let mid_other = supply (g.F.Source.state c.pass_same.new.b) c.pass_same.new.second in
    let new_other = supply (g.F.Source.state c.skip_units-2.new.b) c.skip_units-2.new.second in
    subst (λ k. UnitsStop len k old new old_other new_other c.in-Err-skip_units.why) same (rest_stops len c.in-Ok.same old mid new old_other mid_other new_other c.in-Err-skip_units.why c.in-Ok.ensures.ok c.in-Err-skip_units.ensures.err)

pub returns-clause-ok : goal.returns-clause-ok
returns-clause-ok g c =
    let len = c.args.lens.first in
    let same : len ≡ c.args.lens.second = omega arith in
    let old = supply (g.F.Source.state c.args.a.now) c.args.first.now in
    let mid = supply (g.F.Source.state c.pass_same.new.a) c.pass_same.new.first in
    let new = supply (g.F.Source.state c.skip_units-2.new.a) c.skip_units-2.new.first in
    let old_other = supply (g.F.Source.state c.args.b.now) c.args.second.now in
    let mid_other = supply (g.F.Source.state c.pass_same.new.b) c.pass_same.new.second in
    let new_other = supply (g.F.Source.state c.skip_units-2.new.b) c.skip_units-2.new.second in
    subst (λ k. TakesUnits c.args.number len k old new old_other new_other c.args.text.now.items c.push_data_line-2.new.text.items) same
    (units_same c.args.number len c.in-Ok.same old mid new old_other mid_other new_other c.args.text.now.items c.push_data_line-2.new.text.items c.in-Ok.ensures.ok c.in-Ok-skip_units.ensures.ok c.in-Ok-skip_units.ensures.ok_other c.in_ok-push_data_line-2.ensures)
