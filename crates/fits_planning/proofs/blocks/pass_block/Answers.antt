use Rattle.std.proofs.Common.{◌≡◌, ◌*◌, length, take, arith, rules}
use Rattle.std.proofs.lemmas.List.{length-take-le}
use Rattle.fits_unit.proofs.AgainLemmas.{follows_on, load_follows}
use Rattle.fits_planning.proofs.FrontLemmas.{passed_one}
use Rattle.fits_planning.proofs.blocks.pass_block.Goals as goal

pub returns-in_err-read_there-clause-follows : goal.returns-in_err-read_there-clause-follows
returns-in_err-read_there-clause-follows g c = load_follows (c.args.index * 2880) _ _ _ c.in_err-read_there.field-0.0 c.in_err-read_there.ensures.err

pub returns-in-Ok-clause-follows : goal.returns-in-Ok-clause-follows
returns-in-Ok-clause-follows g c = follows_on (c.args.index * 2880) _ _ _ c.in_ok-read_there.ensures.are

pub returns-in-Err-clause-follows : goal.returns-in-Err-clause-follows
returns-in-Err-clause-follows g c = follows_on (c.args.index * 2880) _ _ _ c.in_ok-read_there.ensures.are

pub returns-in-Ok-clause-plan : goal.returns-in-Ok-clause-plan
returns-in-Ok-clause-plan g c told after is here front =
    let size : length (take (length after) told) ≡ 2880 * c.args.index = omega (arith, length-take-le (length after) told front.within, here) in
    let same : length c.read_there.new.room ≡ length c.args.new.now = search rules in
    let place : length after ≡ c.args.index * 2880 = omega (arith, here) in
    passed_one told after c.read_there.new.room c.args.new.now (c.args.index * 2880) _ _ _ _ c.in_ok-read_there.ensures.are is same place front (c.in-Ok.ensures.plan (take (length after) told) after size here front.plan)
