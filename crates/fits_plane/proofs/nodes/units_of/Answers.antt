use Rattle.std.proofs.Common.{◌∙◌, ◌++◌, ◌∷◌, [], ap}
use Rattle.std.specs.Prelude.{replicate}
use Rattle.std.proofs.lemmas.List.{replicate_more}
use Rattle.fits_plane.proofs.nodes.units_of.Goals as goal

-- one unit more is pushed
pub loop-i-preserved : goal.loop-i-preserved
loop-i-preserved g c =
    c.in_ok-push.ensures.items ∙ ap (λ xs. xs ++ c.unit.result ∷ []) c.loop-i.invariant
    ∙ ap (λ x. replicate c.loop-i.i g.S.Summary.empty ++ x ∷ []) c.unit.ensures ∙ replicate_more c.loop-i.i g.S.Summary.empty
