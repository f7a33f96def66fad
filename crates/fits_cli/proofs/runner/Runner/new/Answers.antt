use Rattle.std.proofs.Common.{◌∙◌, ap, arith, sym, false}
use Rattle.fits_session.specs.Marked.{Marked}
use Rattle.fits_cli.specs.Answer.{Standing}
use Rattle.fits_cli.specs.Terms.{is_whole}
use Rattle.fits_cli.proofs.FirstLemmas.{first_over, look_sums}
use Rattle.fits_cli.proofs.runner.Runner.new.Goals as goal

pub invariant_of-result : goal.invariant_of-result
invariant_of-result g c = record {
  few = omega arith;
  lie = λ bytes is. c.keep_first.ensures.stays.lie bytes (c.requires.lie bytes is);
  seen = λ all. c.keep_first.ensures.stays.seen (c.requires.seen (sym c.look.ensures ∙ all));
}

pub returns-clause-standing : goal.returns-clause-standing
returns-clause-standing g c told _ =
    let marks = first_over c.args.terms told c.args.session c.keep_first.new.session c.keep_first.ensures.marked c.keep_first.ensures.absences (λ sums. c.requires.seen (look_sums c.args.terms sums)) in
    rw c.whole.ensures
    (ap (λ (it : Marked). let s : Standing = record { marked = it; line = 1; refused = 0; edited = false; whole = is_whole c.args.terms.saves; extended = c.args.terms.extended } in s) marks)
