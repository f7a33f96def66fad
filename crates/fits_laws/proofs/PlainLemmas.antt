-- Lines print and leave what the plain lines do that they stand for.
use Rattle.std.proofs.Common.{◌≡◌, ℕ, List, [], ◌∷◌, ◌++◌, refl, ap, sym, ◌∙◌}
use Rattle.std.specs.Prelude.{Result, Ok, Err}
use Rattle.fits_making.specs.declared.refusal.Refusal.{Refusal}
use Rattle.fits_script.specs.Line.{reading_of}
use Rattle.fits_script.specs.declared.command.Command.{Command}
use Rattle.fits_script.specs.declared.line_reading.LineReading.{LineReading}
use Rattle.fits_script.specs.declared.line_reading.LineReading.TheVariants.{TooLong, NoCommand, Said}
use Rattle.fits_cli.specs.Answer.{Done, Meant, in_turn, of_each, of_none, Standing, after_outcome, answer_of, answer_to, done_last, left_after, left_of, line_answer, line_left, line_stands, outcome_of}
use Rattle.fits_cli.specs.Output.{answers, standing_after}
use Rattle.fits_laws.specs.Runs.{AllStand, ArePlain, IsOne, plain_lines, plain_or, unextended}

-- what a plain line prints is the same whether extended ones are taken
answer_plain : (standing : Standing) (reading : LineReading) → line_answer (unextended standing) reading ≡ line_answer standing reading
unfolding line_answer
answer_plain standing TooLong = refl
answer_plain standing (NoCommand misfit) = refl
answer_plain standing (Said command) = refl

-- what its command leaves
outcome_plain : (standing : Standing) (command : Command) (outcome : Result Done Refusal) → unextended (after_outcome standing command outcome) ≡ after_outcome (unextended standing) command outcome
outcome_plain standing command (Ok done) = refl
outcome_plain standing command (Err why) = refl

-- so is what it leaves
left_plain : (standing : Standing) (reading : LineReading) → unextended (line_left standing reading) ≡ line_left (unextended standing) reading
unfolding line_left
left_plain standing TooLong = refl
left_plain standing (NoCommand misfit) = refl
left_plain standing (Said command) = outcome_plain standing command (outcome_of standing.marked command)

-- a line prints and leaves what the plain line does that it stands for
text_plain : (standing : Standing) (line : List ℕ) (stands : Meant) → line_stands standing line ≡ stands → IsOne stands → answer_to standing line ≡ answer_to (unextended standing) (plain_or line stands)
unfolding answer_to done_last
text_plain standing line (in_turn []) is one = absurd one
text_plain standing line (in_turn (plain ∷ [])) is one = ap (answer_of standing) is ∙ sym (answer_plain standing (reading_of plain))
text_plain standing line (in_turn (plain ∷ (other ∷ others))) is one = absurd one
text_plain standing line (of_each plains) is one = absurd one
text_plain standing line (of_none why) is one = absurd one

-- and leaves what that leaves
stands_plain : (standing : Standing) (line : List ℕ) (stands : Meant) → line_stands standing line ≡ stands → IsOne stands → unextended (left_after standing line) ≡ left_after (unextended standing) (plain_or line stands)
unfolding left_after done_last
stands_plain standing line (in_turn []) is one = absurd one
stands_plain standing line (in_turn (plain ∷ [])) is one = ap (λ it. unextended (left_of standing it)) is ∙ left_plain standing (reading_of plain)
stands_plain standing line (in_turn (plain ∷ (other ∷ others))) is one = absurd one
stands_plain standing line (of_each plains) is one = absurd one
stands_plain standing line (of_none why) is one = absurd one

-- all lines
pub lines_plain : (standing : Standing) (lines : List (List ℕ)) → AllStand standing lines → ArePlain standing lines
unfolding answers standing_after
lines_plain standing [] all = record { text = refl; left = refl }
lines_plain standing (line ∷ lines) all =
    let plain : List ℕ = plain_or line (line_stands standing line) in
    let next : Standing = left_after standing line in
    let others = lines_plain next lines all.1 in
    let first = text_plain standing line (line_stands standing line) refl all.0 in
    let stands = stands_plain standing line (line_stands standing line) refl all.0 in
    record {
      text = ap (λ t. t ++ answers next lines) first ∙ ap (λ t. answer_to (unextended standing) plain ++ t) (others.text ∙ ap (λ s. answers s (plain_lines next lines)) stands);
      left = others.left ∙ ap (λ s. standing_after s (plain_lines next lines)) stands;
    }
