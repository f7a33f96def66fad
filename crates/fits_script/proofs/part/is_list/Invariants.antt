use Rattle.std.proofs.Common.{◌≡◌, length}
use Rattle.std.specs.Prelude.{is_some}
use Rattle.fits_script.specs.Words.{list_of_text}
use Rattle.fits_script.proofs.part.is_list.Given as goal

abbrev pub invariant-parts : goal.invariant-parts
invariant-parts g l = is_some (list_of_text g.P.Part.reads l.separator l.rest) ≡ is_some (list_of_text g.P.Part.reads l.separator l.text)

abbrev pub decreases-parts : goal.decreases-parts
decreases-parts g l = length l.rest
