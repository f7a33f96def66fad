-- Of what is new.
use Rattle.std.proofs.Common.{◌≡◌, true, List, [], ◌∷◌, cond, refl, inl, inr, arith}
use Rattle.std.specs.Prelude.{not, nat_lt}
use Rattle.std.specs.List.{filter}
use Rattle.std.proofs.lemmas.Bool.{and_parts, cases_Bool}
use Rattle.std.proofs.lemmas.List.Sums.{sum_by-cons}
use Rattle.fits_codes.specs.Code.{is_error}
use Rattle.fits_passing.specs.declared.problem.Problem.{Problem}
use Rattle.fits_cli.specs.NewErrors.{count_of, has_more, is_new, stands_in}
use Rattle.fits_tell.specs.Report.{warnings_in}
use Rattle.fits_tell.specs.declared.level.Level.TheVariants.{Errors}

-- it is an error, where warnings don't count
new_error : (before after : List Problem) (it : Problem) → is_new Errors before after it ≡ true → is_error it.code ≡ true
new_error before after it new =
    let more = (and_parts (has_more Errors before after it.code) (not (stands_in before it)) new).0 in
    (and_parts (is_error it.code) (nat_lt (count_of it.code before) (count_of it.code after)) more).0

-- so none is a warning
pub none_warn : (before after report : List Problem) → warnings_in (filter (is_new Errors before after) report) ≡ 0
none_warn before after [] = refl
none_warn before after (it ∷ report) =
    elim (cases_Bool (is_new Errors before after it)) [
      | inl new ↦
          let others : List Problem = filter (is_new Errors before after) report in
          rw new (rw (sum_by-cons (λ (x : Problem). cond (not (is_error x.code)) 1 0) it others, new_error before after it new) (omega (arith, none_warn before after report)))
      | inr old ↦ rw old (none_warn before after report)
    ]
