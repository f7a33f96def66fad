use Rattle.std.proofs.Common.{Err, ◌≡◌, ◌-◌, ◌∙◌, ap, sym, List, ℕ, length, map, drop, arith, rules}
use Rattle.std.specs.Prelude.{IsErrOf}
use Rattle.fits_unit.specs.declared.again.LoadFault.{LoadFault}
use Rattle.fits_unit.specs.declared.again.LoadFault.TheVariants.{Changed}
use Rattle.fits_passing.specs.File.{joined_hdus}
use Rattle.fits_hdu.specs.State.{hdu_at}
use Rattle.fits_session.specs.Session.{hdus_of}
use Rattle.fits_session.proofs.OverwritingLemmas.{file_agrees, file_made, front_none, joined_long, rest_there, there_rest}
use Rattle.fits_session.proofs.session.overwriting.plan_parts.Goals as goal

pub returns-in_err-plan_hdus-clause-steady : goal.returns-in_err-plan_hdus-clause-steady
returns-in_err-plan_hdus-clause-steady g c told is size rest changed =
    let wrong : IsErrOf {T = Unit {0}} {E = LoadFault} (Err c.in_err-plan_hdus.field-0.0) Changed = search rules in
    c.in_err-plan_hdus.ensures.steady told is (omega (arith, size, c.requires.len)) wrong

pub returns-in_err-lie_there-clause-steady : goal.returns-in_err-lie_there-clause-steady
returns-in_err-lie_there-clause-steady g c told is size rest changed =
    let wrong : IsErrOf {T = Unit {0}} {E = LoadFault} (Err c.in_err-lie_there.field-0.0) Changed = search rules in
    let end : c.args.len - length c.args.tail.now ≡ length (joined_hdus (hdus_of c.args.hdus.now.items)) = omega (arith, c.requires.len) in
    c.in_err-lie_there.ensures.changed told is wrong (there_rest told c.args.tail.now _ (ap (λ n. drop n told) end ∙ rest))

pub returns-in_err-lie_there-clause-follows : goal.returns-in_err-lie_there-clause-follows
returns-in_err-lie_there-clause-follows g c = λ xs is. c.plan_hdus.ensures.follows xs (c.lie_there.ensures.follows xs is)

pub returns-clause-follows : goal.returns-clause-follows
returns-clause-follows g c = λ xs is. c.plan_hdus.ensures.follows xs (c.lie_there.ensures.follows xs is)

pub returns-clause-plan : goal.returns-clause-plan
returns-clause-plan g c told is all size =
    let tail : List ℕ = c.args.tail.now in
    let end : ℕ = c.args.len - length tail in
    let front = c.in_ok-plan_hdus.ensures.plan told (c.lie_there.ensures.follows told is) all (front_none told c.new-plan.result.blocks.items c.new-plan.ensures.plan) in
    let long : length (joined_hdus (hdus_of (map (hdu_at told) c.args.hdus.now.items))) ≡ end = omega (arith, joined_long told c.args.hdus.now.items all, c.requires.len) in
    let rest : drop end told ≡ tail = rest_there told tail end (omega (arith, size, c.requires.len)) (c.in_ok-lie_there.ensures.there told is) in
    record {
      agrees = file_agrees told _ _ _ front (c.plan_hdus.ensures.len ∙ c.new-plan.ensures.len ∙ sym size);
      gives = file_made told tail _ _ end front long rest;
    }
