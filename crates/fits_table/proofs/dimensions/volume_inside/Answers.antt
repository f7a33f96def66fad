use Rattle.std.proofs.Common.{rules, tests}
use Rattle.std.proofs.lemmas.Iterator.Consumers.{fold_from_yields_List}
use Rattle.std.proofs.lemmas.Iterator.Splits.{YieldsList-from_slice_split}
use Rattle.fits_table.specs.Dimensions.{is_comma}
use Rattle.fits_table.specs.DimensionSteps.{times}
use Rattle.fits_table.proofs.dimensions.volume_inside.Goals as goal

pub returns : goal.returns
returns c =
    fold_from_yields_List _ times _ _ c.fold.ensures.ran (YieldsList-from_slice_split _ is_comma c.args.inside.now c.split.ensures.rest c.split.ensures.done c.split.ensures.closure (λ x b q k. search (rules, tests)))
    (λ a x b q k. search (rules, tests))
