use Rattle.std.proofs.Common.{◌≡◌, ◌++◌, length}
use Rattle.std.specs.Option.{option_map}
use Rattle.fits_script.specs.Words.{list_of_text}
use Rattle.fits_script.proofs.part.read_parts.Given as goal

abbrev pub invariant-parts : goal.invariant-parts
invariant-parts g l = list_of_text g.P.Part.reads l.separator l.text ≡ option_map (λ others. l.list.items ++ others) (list_of_text g.P.Part.reads l.separator l.rest)

abbrev pub decreases-parts : goal.decreases-parts
decreases-parts g l = length l.rest
