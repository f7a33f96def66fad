use Rattle.std.proofs.Common.{◌≡◌, ◌++◌}
use Rattle.std.specs.Prelude.{◌==◌}
use Rattle.fits_stream.specs.Intake.{supply}
use Rattle.fits_diff.specs.Differences.{end_text}
use Rattle.fits_diff.proofs.HduLemmas.{HasHead, hdus_taken, units_stop}
use Rattle.fits_diff.proofs.hdus.compare_hdus.Goals as goal

pub returns-in-Ok-compare_units-clause-ok : goal.returns-in-Ok-compare_units-clause-ok
returns-in-Ok-compare_units-clause-ok g c =
    let old = supply (g.F.Source.state c.args.a.now) c.args.first.now in
    let mid = supply (g.F.Source.state c.read_described.new.source) c.read_described.new.intake in
    let new = supply (g.F.Source.state c.compare_units.new.a) c.compare_units.new.first in
    let old_other = supply (g.F.Source.state c.args.b.now) c.args.second.now in
    let mid_other = supply (g.F.Source.state c.read_described-2.new.source) c.read_described-2.new.intake in
    let new_other = supply (g.F.Source.state c.compare_units.new.b) c.compare_units.new.second in
    let x = c.in-Ok.head in
    let y = c.in-Ok-read_described.head in
    let head : HasHead (c.args.number == 1) old mid x.cards.header x.shape x.unit_len = record { taken = c.in-Ok.ensures.taken; whole = c.in-Ok.ensures.whole; described = c.in-Ok.ensures.described; size = c.in-Ok.ensures.len } in
    let other : HasHead (c.args.number == 1) old_other mid_other y.cards.header y.shape y.unit_len =
    record { taken = c.in-Ok-read_described.ensures.taken; whole = c.in-Ok-read_described.ensures.whole; described = c.in-Ok-read_described.ensures.described; size = c.in-Ok-read_described.ensures.len } in
    let lines : c.extend_from_slice.new.self.items ≡ c.args.text.now.items ++ c.in_ok-lines.lines.items = rw c.deref.ensures.value at c.in_ok-extend_from_slice.ensures.items in
    let ends : c.push_end_line.new.text.items ≡ c.extend_from_slice.new.self.items ++ end_text c.args.number x.cards.header y.cards.header = rw (c.card_differences.ensures.same, c.card_differences.ensures.same_others) at c.in_ok-push_end_line.ensures in
    hdus_taken c.args.number (c.args.number == 1) old mid new old_other mid_other new_other x.cards.header y.cards.header x.shape y.shape x.unit_len y.unit_len c.in_ok-lines.lines.items c.args.text.now.items c.extend_from_slice.new.self.items c.push_end_line.new.text.items
    c.compare_units.new.text.items head other c.in_ok-lines.ensures.told lines ends c.in-Ok-compare_units.ensures.ok

-- a data unit isn't taken
pub returns-clause-err : goal.returns-clause-err
returns-clause-err g c =
    let old = supply (g.F.Source.state c.args.a.now) c.args.first.now in
    let mid = supply (g.F.Source.state c.read_described.new.source) c.read_described.new.intake in
    let new = supply (g.F.Source.state c.compare_units.new.a) c.compare_units.new.first in
    let old_other = supply (g.F.Source.state c.args.b.now) c.args.second.now in
    let mid_other = supply (g.F.Source.state c.read_described-2.new.source) c.read_described-2.new.intake in
    let new_other = supply (g.F.Source.state c.compare_units.new.b) c.compare_units.new.second in
    let x = c.in-Ok.head in
    let y = c.in-Ok-read_described.head in
    let head : HasHead (c.args.number == 1) old mid x.cards.header x.shape x.unit_len = record { taken = c.in-Ok.ensures.taken; whole = c.in-Ok.ensures.whole; described = c.in-Ok.ensures.described; size = c.in-Ok.ensures.len } in
    let other : HasHead (c.args.number == 1) old_other mid_other y.cards.header y.shape y.unit_len =
    record { taken = c.in-Ok-read_described.ensures.taken; whole = c.in-Ok-read_described.ensures.whole; described = c.in-Ok-read_described.ensures.described; size = c.in-Ok-read_described.ensures.len } in
    units_stop (c.args.number == 1) old mid new old_other mid_other new_other x.cards.header y.cards.header x.shape y.shape x.unit_len y.unit_len c.in-Err-compare_units.why head other c.in-Err-compare_units.ensures.err
