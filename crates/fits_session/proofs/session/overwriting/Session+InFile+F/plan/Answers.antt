use Rattle.std.specs.Prelude.{All, false}
use Rattle.std.proofs.Common.{None, subst, List, ℕ}
use Rattle.fits_session.specs.Away.{in_file, AllLie}
use Rattle.fits_session.specs.Overwriting.{MakesFile}
use Rattle.fits_session.specs.Session.{IsSeen, state_of}
use Rattle.fits_making.specs.Making.{Holding}
use Rattle.fits_session.proofs.HadLemmas.{kept_in}
use Rattle.fits_session.proofs.KeptLemmas.{seen_same, absences_counted, marked_counted, kept_counted}
use Rattle.fits_session.proofs.SaveLemmas.{once_none}
use Rattle.fits_session.proofs.session.overwriting.Session+InFile+F.plan.Goals as goal

-- the HDUs were read, and nothing else of them changes
pub invariant_of-self : goal.invariant_of-self
invariant_of-self g c =
    let holding : Holding = record { whole = false; told = None } in
    (kept_counted holding c.self.inside.hdus.items c.plan_parts.new.hdus.items c.self.inside.tail.items c.self.inside.len c.self.inside.names.numbers.items c.self.inside.names.room c.plan_parts.ensures.work.hdus c.self.invariant)

pub invariant_of-self-2 : goal.invariant_of-self-2
invariant_of-self-2 g c =
    let holding : Holding = record { whole = false; told = None } in
    (kept_counted holding c.self.inside.hdus.items c.plan_parts.new.hdus.items c.self.inside.tail.items c.self.inside.len c.self.inside.names.numbers.items c.self.inside.names.room c.plan_parts.ensures.work.hdus c.self.invariant)

pub returns-in_err-plan-clause-file : goal.returns-in_err-plan-clause-file
returns-in_err-plan-clause-file g c = rw (← c.self.view_is) (marked_counted c.self.inside.hdus.items c.plan_parts.new.hdus.items c.self.inside.tail.items c.plan_parts.ensures.work.hdus)

pub returns-clause-file : goal.returns-clause-file
returns-clause-file g c = rw (← c.self.view_is) (marked_counted c.self.inside.hdus.items c.plan_parts.new.hdus.items c.self.inside.tail.items c.plan_parts.ensures.work.hdus)

pub returns-in_err-plan-clause-absences : goal.returns-in_err-plan-clause-absences
returns-in_err-plan-clause-absences g c = rw (← c.self.view_is) (absences_counted c.self.inside.hdus.items c.plan_parts.new.hdus.items c.plan_parts.ensures.work.hdus)

pub returns-clause-absences : goal.returns-clause-absences
returns-clause-absences g c = rw (← c.self.view_is) (absences_counted c.self.inside.hdus.items c.plan_parts.new.hdus.items c.plan_parts.ensures.work.hdus)

pub returns-in_err-plan-clause-stays : goal.returns-in_err-plan-clause-stays
returns-in_err-plan-clause-stays g c = record {
  lie = λ bytes lie.
      let own : AllLie bytes c.self.inside.hdus.items = rw (← c.self.view_is) at lie in
      (kept_counted (in_file bytes) c.self.inside.hdus.items c.plan_parts.new.hdus.items c.self.inside.tail.items c.self.inside.len c.self.inside.names.numbers.items c.self.inside.names.room c.plan_parts.ensures.work.hdus (kept_in _ (in_file bytes) _ _ _ _ _ c.self.invariant own)).had;
  seen = λ all.
      let own : All IsSeen c.self.inside.hdus.items = rw (← c.self.view_is) at all in
      seen_same c.plan_parts.new.hdus.items c.self.inside.hdus.items (absences_counted c.self.inside.hdus.items c.plan_parts.new.hdus.items c.plan_parts.ensures.work.hdus) own;
}

pub returns-clause-stays : goal.returns-clause-stays
returns-clause-stays g c = record {
  lie = λ bytes lie.
      let own : AllLie bytes c.self.inside.hdus.items = rw (← c.self.view_is) at lie in
      (kept_counted (in_file bytes) c.self.inside.hdus.items c.plan_parts.new.hdus.items c.self.inside.tail.items c.self.inside.len c.self.inside.names.numbers.items c.self.inside.names.room c.plan_parts.ensures.work.hdus (kept_in _ (in_file bytes) _ _ _ _ _ c.self.invariant own)).had;
  seen = λ all.
      let own : All IsSeen c.self.inside.hdus.items = rw (← c.self.view_is) at all in
      seen_same c.plan_parts.new.hdus.items c.self.inside.hdus.items (absences_counted c.self.inside.hdus.items c.plan_parts.new.hdus.items c.plan_parts.ensures.work.hdus) own;
}

pub returns-then-self-len-clause-work : goal.returns-then-self-len-clause-work
returns-then-self-len-clause-work g c = once_none c.args.self.now.hdus

pub returns-then-not-stay-clause-work : goal.returns-then-not-stay-clause-work
returns-then-not-stay-clause-work g c = once_none c.args.self.now.hdus

pub returns-clause-plan : goal.returns-clause-plan
returns-clause-plan g c told is all size =
    let own : AllLie told c.self.inside.hdus.items = rw (← c.self.view_is) at all in
    rw (← c.self.view_is) (subst (λ (tail : List ℕ). MakesFile told (state_of c.self.inside.hdus.items tail) c.in_ok-plan.plan) c.deref-2.ensures.value (c.in_ok-plan.ensures.plan told is own size))
