use Rattle.std.proofs.Common.{◌∙◌, sym, rules, tests}
use Rattle.std.specs.Str.{bytes_eq}
use Rattle.std.proofs.lemmas.Iterator.{YieldsList-from_slice}
use Rattle.std.proofs.lemmas.Iterator.Consumers.{YieldsList-from_copied}
use Rattle.std.proofs.lemmas.Iterator.Search.{find_from_yields_List}
use Rattle.std.proofs.lemmas.Iterator.Adapters.{option_map_id}
use Rattle.fits_extended.specs.Words.{extended_verb_of, extended_word}
use Rattle.fits_extended.specs.declared.extended_verb.TheConstants.{EXTENDED_VERBS}
use Rattle.fits_extended.proofs.extended_verb.extended_verb_of.Goals as goal

pub returns : goal.returns
unfolding extended_verb_of
returns c =
    sym (option_map_id c.find.result)
    ∙ find_from_yields_List (λ verb. bytes_eq c.args.word.now (extended_word verb)) _ _ _ c.find.ensures.ran (YieldsList-from_copied (YieldsList-from_slice EXTENDED_VERBS cc)) (λ x b q k. search (rules, tests))
