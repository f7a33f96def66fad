use Rattle.std.proofs.Common.{nat_eq, drop, ap, ◌∙◌}
use Rattle.std.specs.List.{list_all}
use Rattle.fits_pixels.proofs.FillLemmas.{are_all, drop-min}
use Rattle.fits_pixels.proofs.filling.is_filled.Goals as goal

pub returns : goal.returns
returns c =
    are_all _ _ _ c.all_are.ensures
    ∙ ap (list_all (nat_eq c.args.fill)) (c.split_at.ensures.back ∙ ap (λ k. drop k c.args.piece.now) c.min.ensures ∙ drop-min c.args.used c.args.piece.now)
