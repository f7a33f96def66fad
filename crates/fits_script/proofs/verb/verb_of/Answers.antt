use Rattle.std.proofs.Common.{◌∙◌, sym, rules, tests}
use Rattle.std.specs.Str.{bytes_eq}
use Rattle.std.proofs.lemmas.Iterator.{YieldsList-from_slice}
use Rattle.std.proofs.lemmas.Iterator.Consumers.{YieldsList-from_copied}
use Rattle.std.proofs.lemmas.Iterator.Search.{find_from_yields_List}
use Rattle.std.proofs.lemmas.Iterator.Adapters.{option_map_id}
use Rattle.fits_script.specs.Words.{verb_of, verb_word}
use Rattle.fits_script.specs.declared.verb.TheConstants.{VERBS}
use Rattle.fits_script.proofs.verb.verb_of.Goals as goal

pub returns : goal.returns
unfolding verb_of
returns c =
    sym (option_map_id c.find.result)
    ∙ find_from_yields_List (λ verb. bytes_eq c.args.word.now (verb_word verb)) _ _ _ c.find.ensures.ran (YieldsList-from_copied (YieldsList-from_slice VERBS cc)) (λ x b q k. search (rules, tests))
