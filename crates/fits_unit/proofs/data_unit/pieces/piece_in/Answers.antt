use Rattle.std.proofs.Common.{◌∙◌, List, ap, take, ℕ}
use Rattle.std.proofs.lemmas.List.{take_min}
use Rattle.fits_unit.proofs.data_unit.pieces.piece_in.Goals as goal

-- as many bytes as it has are left
pub returns : goal.returns
returns c =
    let rest : List ℕ = c.split_at.result.1.now in
    c.split_at-2.ensures.front ∙ ap (λ n. take n rest) c.min.ensures ∙ take_min 46080 rest ∙ ap (take 46080) c.split_at.ensures.back
