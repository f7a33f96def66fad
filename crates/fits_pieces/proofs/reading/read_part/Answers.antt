use Rattle.std.proofs.Common.{◌≡◌, ◌++◌, ◌∙◌, None, map, subst}
use Rattle.std.specs.List.{range_with_len}
use Rattle.std.proofs.lemmas.Int.{to_z-of_z}
use Rattle.std.specs.Int.{w128}
use Rattle.std.proofs.lemmas.List.{get_or_default}
use Rattle.fits_plane.specs.Rectangle.{value_at}
use Rattle.fits_pieces.proofs.reading.read_part.Goals as goal

-- the pixels are those of the piece there
pub returns-clause-items : goal.returns-clause-items
returns-clause-items c = λ it is.
    let here = c.index_mut.ensures.value ∙ get_or_default c.args.pieces.now.items c.args.j _ None c.requires.index ∙ is in
    subst (λ z. c.read_run.new.values.items ≡ c.args.values.now.items ++ map (value_at it.layout.width it.bytes z) (range_with_len c.args.start c.args.count)) (to_z-of_z w128 c.args.offset c.ranges.offset)
    (c.read_run.ensures.items it here)
