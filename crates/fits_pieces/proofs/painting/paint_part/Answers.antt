use Rattle.std.proofs.Common.{◌∙◌, None, ap, set}
use Rattle.std.proofs.lemmas.List.{get_or_default}
use Rattle.fits_pieces.proofs.PaintingLemmas.{some_and}
use Rattle.fits_pieces.proofs.painting.paint_part.Goals as goal

-- the piece there is painted
pub returns : goal.returns
returns c = λ it is.
    let here = c.index_mut.ensures.value ∙ get_or_default c.args.pieces.now.items c.args.j _ None c.requires.index ∙ is in
    let w = some_and c.paint_run.new.self _ (c.paint_run.ensures it here) in
    (w.0, w.2, ap (set c.args.pieces.now.items c.args.j) w.1)
