use Rattle.std.proofs.Common.{◌≡◌, ◌+◌, ◌∙◌, arith, length, ap, refl, true, []}
use Rattle.std.specs.Prelude.{nat_eq}
use Rattle.std.proofs.lemmas.Grind.{common_steps}
use Rattle.std.proofs.lemmas.List.Elements.{All-nil}
use Rattle.fits_unit.specs.DataUnit.{is_passed}
use Rattle.fits_passing.specs.Met.{hdu_end, reads_of, IsMet}
use Rattle.fits_passing.specs.declared.limits.TheConstants.{FILE_LIMIT}
use Rattle.fits_passing.specs.declared.passed_hdu.PassedHdu.{PassedHdu}
use Rattle.fits_passing.proofs.FrontLemmas.{front_none}
use Rattle.fits_passing.proofs.StoredLemmas.{grown_follows, limited_after}
use Rattle.fits_passing.proofs.StoredWalkLemmas.{begin_more, begin_none, front_met, held_follows, held_left, met_more, next_place, not_begun, passed_more, stops_by_next, too_many}
use Rattle.fits_passing.proofs.WalkLemmas.{next_first, next_more}
use Rattle.fits_passing.proofs.stored_walk.walk_stored.Goals as goal

-- a call failed at the first
pub returns-in_default-clause-follows : goal.returns-in_default-clause-follows
returns-in_default-clause-follows g c = grown_follows c.args.source.now c.hold.new.source c.in_default.ensures.err.log

-- the file doesn't begin as one
pub returns-then-not-begins_file-clause-err : goal.returns-then-not-begins_file-clause-err
returns-then-not-begins_file-clause-err g c =
    (not_begun (g.F.Stored.bytes c.args.source.now.file) (g.F.Stored.bytes c.hold.new.source.file) c.args.source.now c.hold.new.source c.args.intake.now c.hold.new.self c.requires.none c.requires.left c.requires.start c.requires.limited (held_follows (g.F.Stored.bytes c.args.source.now.file) (g.F.Stored.bytes c.hold.new.source.file) c.args.source.now c.hold.new.source c.args.intake.now c.hold.new.self c.in-Ok.ensures.ok) c.in-Ok.ensures.ok c.in-Ok.ensures.ends (grind (arith, common_steps)), c.in-Ok.ensures.ok.drawn.read.quiet)

pub returns-then-not-begins_file-clause-follows : goal.returns-then-not-begins_file-clause-follows
returns-then-not-begins_file-clause-follows g c = held_follows (g.F.Stored.bytes c.args.source.now.file) (g.F.Stored.bytes c.hold.new.source.file) c.args.source.now c.hold.new.source c.args.intake.now c.hold.new.self c.in-Ok.ensures.ok

pub hdu-init : goal.hdu-init
hdu-init g c =
    let none = c.new-hdus.ensures.items in
    let follows = held_follows (g.F.Stored.bytes c.args.source.now.file) (g.F.Stored.bytes c.hold.new.source.file) c.args.source.now c.hold.new.source c.args.intake.now c.hold.new.self c.in-Ok.ensures.ok in
    record {
      begin = begin_none (g.F.Stored.bytes c.args.source.now.file) (g.F.Stored.bytes c.hold.new.source.file) c.args.source.now c.hold.new.source c.args.intake.now c.hold.new.self c.new-hdus.result.items none c.requires.none c.requires.left c.requires.start c.requires.limited follows c.in-Ok.ensures.ok;
      met = rw none (All-nil (λ (it : PassedHdu). IsMet it.header it.unit));
      seen = λ all. rw none (All-nil (λ (it : PassedHdu). is_passed it.unit ≡ true));
      front = rw none (front_none []);
      few = rw none (omega arith);
      begins = next_first c.new-hdus.result.items c.hold.new.self.ahead none (grind (arith, common_steps));
      place = rw none refl;
      left = held_left (g.F.Stored.bytes c.args.source.now.file) (g.F.Stored.bytes c.hold.new.source.file) c.args.source.now c.hold.new.source c.args.intake.now c.hold.new.self 0 FILE_LIMIT c.in-Ok.ensures.ok (omega (arith, c.requires.left, ap length c.requires.none));
      limited = limited_after c.args.source.now c.hold.new.source c.requires.limited follows;
      quiet = c.in-Ok.ensures.ok.drawn.read.quiet;
      follows = follows;
    }

pub returns-in_err-push-in-Ok-next_hdu-clause-follows : goal.returns-in_err-push-in-Ok-next_hdu-clause-follows
returns-in_err-push-in-Ok-next_hdu-clause-follows g c = λ told is. c.hdu.invariant.follows told (c.next_hdu.ensures.follows told is)

-- no HDU comes
pub returns-in-Err-clause-err : goal.returns-in-Err-clause-err
returns-in-Err-clause-err g c =
    let at : c.is_empty.result ≡ nat_eq (length c.hdu.hdus.items) 0 = grind (arith, common_steps) in
    rw c.file_fault.ensures (stops_by_next c.hdu.hdus.items c.hdu.intake (reads_of c.args.source.now) c.hdu.source c.next_hdu.new.source _ c.hdu.place c.is_empty.result c.in-Err.fault c.hdu.invariant.begin c.hdu.invariant.limited c.next_hdu.ensures.follows c.hdu.invariant.begins c.hdu.invariant.few
    at c.hdu.invariant.place (grind (arith, common_steps)) c.hdu.invariant.quiet c.in-Err.ensures.err)

pub returns-in-Err-clause-follows : goal.returns-in-Err-clause-follows
returns-in-Err-clause-follows g c = λ told is. c.hdu.invariant.follows told (c.next_hdu.ensures.follows told is)

pub returns-in_default-hold-clause-follows : goal.returns-in_default-hold-clause-follows
returns-in_default-hold-clause-follows g c = λ told is. c.hdu.invariant.follows told (c.next_hdu.ensures.follows told (grown_follows c.next_hdu.new.source c.hold-in-hdu.new.source c.in_default-hold.ensures.err.log told is))

-- no extension follows
pub returns-then-not-begins_extension-clause-begin : goal.returns-then-not-begins_extension-clause-begin
returns-then-not-begins_extension-clause-begin g c =
    let at : c.is_empty.result ≡ nat_eq (length c.hdu.hdus.items) 0 = grind (arith, common_steps) in
    begin_more (g.F.Stored.bytes c.next_hdu.new.source.file) (g.F.Stored.bytes c.hold-in-hdu.new.source.file) c.hdu.source c.next_hdu.new.source c.hold-in-hdu.new.source c.hdu.intake c.next_hdu.new.intake c.hold-in-hdu.new.self c.hdu.hdus.items c.push.new.self.items c.in-Ok-next_hdu.next c.hdu.place c.is_empty.result
    c.hdu.invariant.begin c.in_ok-push-in-Ok-next_hdu.ensures.items at c.hdu.invariant.place c.next_hdu.ensures.follows (held_follows (g.F.Stored.bytes c.next_hdu.new.source.file) (g.F.Stored.bytes c.hold-in-hdu.new.source.file) c.next_hdu.new.source c.hold-in-hdu.new.source c.next_hdu.new.intake c.hold-in-hdu.new.self c.in-Ok-hold.ensures.ok) c.in-Ok-next_hdu.ensures.there c.in-Ok-hold.ensures.ok

pub returns-then-not-begins_extension-clause-met : goal.returns-then-not-begins_extension-clause-met
returns-then-not-begins_extension-clause-met g c = met_more c.hdu.hdus.items c.push.new.self.items c.in-Ok-next_hdu.next c.hdu.invariant.met c.in_ok-push-in-Ok-next_hdu.ensures.items c.in-Ok-next_hdu.ensures.met

pub returns-then-not-begins_extension-clause-seen : goal.returns-then-not-begins_extension-clause-seen
returns-then-not-begins_extension-clause-seen g c = λ all. passed_more c.hdu.hdus.items c.push.new.self.items c.in-Ok-next_hdu.next (c.hdu.invariant.seen all) c.in_ok-push-in-Ok-next_hdu.ensures.items (c.in-Ok-next_hdu.ensures.seen all)

pub returns-then-not-begins_extension-clause-front : goal.returns-then-not-begins_extension-clause-front
returns-then-not-begins_extension-clause-front g c =
    let at : c.is_empty.result ≡ nat_eq (length c.hdu.hdus.items) 0 = grind (arith, common_steps) in
    front_met c.hdu.hdus.items c.push.new.self.items c.in-Ok-next_hdu.next c.is_empty.result c.hdu.invariant.front c.in_ok-push-in-Ok-next_hdu.ensures.items at c.in-Ok-next_hdu.ensures.whole

pub returns-then-not-begins_extension-clause-left : goal.returns-then-not-begins_extension-clause-left
returns-then-not-begins_extension-clause-left g c =
    let end = next_place c.hdu.hdus.items c.push.new.self.items c.in-Ok-next_hdu.next c.hdu.place (c.hdu.place + (c.byte_len.result + c.byte_len-in-Ok-next_hdu.result)) c.hdu.invariant.place c.in_ok-push-in-Ok-next_hdu.ensures.items (omega (arith, c.byte_len.ensures, c.byte_len-in-Ok-next_hdu.ensures)) in
    omega (arith, end, c.byte_len.ensures, c.byte_len-in-Ok-next_hdu.ensures, held_left (g.F.Stored.bytes c.next_hdu.new.source.file) (g.F.Stored.bytes c.hold-in-hdu.new.source.file) c.next_hdu.new.source c.hold-in-hdu.new.source c.next_hdu.new.intake c.hold-in-hdu.new.self (hdu_end c.hdu.place c.in-Ok-next_hdu.next) FILE_LIMIT c.in-Ok-hold.ensures.ok c.in-Ok-next_hdu.ensures.left)

pub returns-then-not-begins_extension-clause-follows : goal.returns-then-not-begins_extension-clause-follows
returns-then-not-begins_extension-clause-follows g c = λ told is. c.hdu.invariant.follows told (c.next_hdu.ensures.follows told (held_follows (g.F.Stored.bytes c.next_hdu.new.source.file) (g.F.Stored.bytes c.hold-in-hdu.new.source.file) c.next_hdu.new.source c.hold-in-hdu.new.source c.next_hdu.new.intake c.hold-in-hdu.new.self c.in-Ok-hold.ensures.ok told is))

-- there are as many as may be
pub returns-then-len-eq-HDU_LIMIT-clause-err : goal.returns-then-len-eq-HDU_LIMIT-clause-err
returns-then-len-eq-HDU_LIMIT-clause-err g c =
    let at : c.is_empty.result ≡ nat_eq (length c.hdu.hdus.items) 0 = grind (arith, common_steps) in
    let more = begin_more (g.F.Stored.bytes c.next_hdu.new.source.file) (g.F.Stored.bytes c.hold-in-hdu.new.source.file) c.hdu.source c.next_hdu.new.source c.hold-in-hdu.new.source c.hdu.intake c.next_hdu.new.intake c.hold-in-hdu.new.self c.hdu.hdus.items c.push.new.self.items c.in-Ok-next_hdu.next c.hdu.place c.is_empty.result
    c.hdu.invariant.begin c.in_ok-push-in-Ok-next_hdu.ensures.items at c.hdu.invariant.place c.next_hdu.ensures.follows (held_follows (g.F.Stored.bytes c.next_hdu.new.source.file) (g.F.Stored.bytes c.hold-in-hdu.new.source.file) c.next_hdu.new.source c.hold-in-hdu.new.source c.next_hdu.new.intake c.hold-in-hdu.new.self c.in-Ok-hold.ensures.ok) c.in-Ok-next_hdu.ensures.there c.in-Ok-hold.ensures.ok in
    (too_many c.push.new.self.items c.hold-in-hdu.new.self c.hold-in-hdu.new.source more (grind (arith, common_steps)) (grind (arith, common_steps)), c.in-Ok-hold.ensures.ok.drawn.read.quiet ∙ c.in-Ok-next_hdu.ensures.quiet ∙ c.hdu.invariant.quiet)

pub returns-then-len-eq-HDU_LIMIT-clause-follows : goal.returns-then-len-eq-HDU_LIMIT-clause-follows
returns-then-len-eq-HDU_LIMIT-clause-follows g c = λ told is. c.hdu.invariant.follows told (c.next_hdu.ensures.follows told (held_follows (g.F.Stored.bytes c.next_hdu.new.source.file) (g.F.Stored.bytes c.hold-in-hdu.new.source.file) c.next_hdu.new.source c.hold-in-hdu.new.source c.next_hdu.new.intake c.hold-in-hdu.new.self c.in-Ok-hold.ensures.ok told is))

pub hdu-preserved : goal.hdu-preserved
hdu-preserved g c =
    let at : c.is_empty.result ≡ nat_eq (length c.hdu.hdus.items) 0 = grind (arith, common_steps) in
    let end = next_place c.hdu.hdus.items c.push.new.self.items c.in-Ok-next_hdu.next c.hdu.place (c.hdu.place + (c.byte_len.result + c.byte_len-in-Ok-next_hdu.result)) c.hdu.invariant.place c.in_ok-push-in-Ok-next_hdu.ensures.items (omega (arith, c.byte_len.ensures, c.byte_len-in-Ok-next_hdu.ensures)) in
    let held = held_follows (g.F.Stored.bytes c.next_hdu.new.source.file) (g.F.Stored.bytes c.hold-in-hdu.new.source.file) c.next_hdu.new.source c.hold-in-hdu.new.source c.next_hdu.new.intake c.hold-in-hdu.new.self c.in-Ok-hold.ensures.ok in
    record {
      begin = begin_more (g.F.Stored.bytes c.next_hdu.new.source.file) (g.F.Stored.bytes c.hold-in-hdu.new.source.file) c.hdu.source c.next_hdu.new.source c.hold-in-hdu.new.source c.hdu.intake c.next_hdu.new.intake c.hold-in-hdu.new.self c.hdu.hdus.items c.push.new.self.items c.in-Ok-next_hdu.next c.hdu.place c.is_empty.result
          c.hdu.invariant.begin c.in_ok-push-in-Ok-next_hdu.ensures.items at c.hdu.invariant.place c.next_hdu.ensures.follows (held_follows (g.F.Stored.bytes c.next_hdu.new.source.file) (g.F.Stored.bytes c.hold-in-hdu.new.source.file) c.next_hdu.new.source c.hold-in-hdu.new.source c.next_hdu.new.intake c.hold-in-hdu.new.self c.in-Ok-hold.ensures.ok) c.in-Ok-next_hdu.ensures.there c.in-Ok-hold.ensures.ok;
      met = met_more c.hdu.hdus.items c.push.new.self.items c.in-Ok-next_hdu.next c.hdu.invariant.met c.in_ok-push-in-Ok-next_hdu.ensures.items c.in-Ok-next_hdu.ensures.met;
      seen = λ all. passed_more c.hdu.hdus.items c.push.new.self.items c.in-Ok-next_hdu.next (c.hdu.invariant.seen all) c.in_ok-push-in-Ok-next_hdu.ensures.items (c.in-Ok-next_hdu.ensures.seen all);
      front = front_met c.hdu.hdus.items c.push.new.self.items c.in-Ok-next_hdu.next c.is_empty.result c.hdu.invariant.front c.in_ok-push-in-Ok-next_hdu.ensures.items at c.in-Ok-next_hdu.ensures.whole;
      few = grind (arith, common_steps);
      begins = next_more c.hdu.hdus.items c.push.new.self.items c.in-Ok-next_hdu.next c.hold-in-hdu.new.self.ahead c.in_ok-push-in-Ok-next_hdu.ensures.items (grind (arith, common_steps));
      place = end;
      left = omega (arith, c.byte_len.ensures, c.byte_len-in-Ok-next_hdu.ensures, held_left (g.F.Stored.bytes c.next_hdu.new.source.file) (g.F.Stored.bytes c.hold-in-hdu.new.source.file) c.next_hdu.new.source c.hold-in-hdu.new.source c.next_hdu.new.intake c.hold-in-hdu.new.self (hdu_end c.hdu.place c.in-Ok-next_hdu.next) FILE_LIMIT c.in-Ok-hold.ensures.ok c.in-Ok-next_hdu.ensures.left);
      limited = limited_after c.next_hdu.new.source c.hold-in-hdu.new.source (limited_after c.hdu.source c.next_hdu.new.source c.hdu.invariant.limited c.next_hdu.ensures.follows) held;
      quiet = c.in-Ok-hold.ensures.ok.drawn.read.quiet ∙ c.in-Ok-next_hdu.ensures.quiet ∙ c.hdu.invariant.quiet;
      follows = λ told is. c.hdu.invariant.follows told (c.next_hdu.ensures.follows told (held_follows (g.F.Stored.bytes c.next_hdu.new.source.file) (g.F.Stored.bytes c.hold-in-hdu.new.source.file) c.next_hdu.new.source c.hold-in-hdu.new.source c.next_hdu.new.intake c.hold-in-hdu.new.self c.in-Ok-hold.ensures.ok told is));
    }
