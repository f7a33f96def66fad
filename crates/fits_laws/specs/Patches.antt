-- What a script that is accepted whole by itself comes to in a run (own).
use Rattle.std.specs.Prelude.{◌≡◌, ℕ, List, [], false}
use Rattle.fits_passing.specs.File.{FileParts}
use Rattle.fits_session.specs.Marked.{Marked}
use Rattle.fits_cli.specs.Answer.{at_first_line}
use Rattle.fits_cli.specs.Output.{answers, standing_after}
use Rattle.fits_cli.specs.declared.terms.Terms.{Terms}

-- terms on which each line is plain, and no HDU and no table is kept
pub record ArePlainTerms (terms : Terms) : Type 0 where
  pub plain : terms.extended ≡ false
  pub unkept : terms.sums ≡ false
  pub free : terms.tables ≡ false

-- each of its lines is done, none prints anything, and this is left
pub record RunsWhole (terms : Terms) (file : FileParts) (lines : List (List ℕ)) (end : Marked) : Type 0 where
  pub printed : answers (at_first_line terms file) lines ≡ []
  pub left : (standing_after (at_first_line terms file) lines).marked ≡ end
  pub done : (standing_after (at_first_line terms file) lines).refused ≡ 0
