use Rattle.std.proofs.Common.{◌∙◌, ◌==◌, sym, rules, tests}
use Rattle.std.proofs.lemmas.Iterator.{YieldsList-from_slice}
use Rattle.std.proofs.lemmas.Iterator.Consumers.{YieldsList-from_copied}
use Rattle.std.proofs.lemmas.Iterator.Search.{find_from_yields_List}
use Rattle.std.proofs.lemmas.Iterator.Adapters.{option_map_id}
use Rattle.fits_table.specs.Element.{element_of, element_letter}
use Rattle.fits_table.specs.declared.element.TheConstants.{ELEMENTS}
use Rattle.fits_table.proofs.element.element_of.Goals as goal

pub returns : goal.returns
unfolding element_of
returns c =
    sym (option_map_id c.find.result)
    ∙ find_from_yields_List (λ element. element_letter element == c.args.letter) _ _ _ c.find.ensures.ran (YieldsList-from_copied (YieldsList-from_slice ELEMENTS cc)) (λ x b q k. search (rules, tests))
