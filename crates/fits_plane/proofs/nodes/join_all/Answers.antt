use Rattle.std.proofs.Common.{◌+◌, drop, ℕ, arith, sym, ◌∙◌}
use Rattle.std.proofs.lemmas.List.{ext_get_or, get_or-drop, length-drop}
use Rattle.fits_plane.proofs.nodes.join_all.Goals as goal

pub returns-clause-leaves : goal.returns-clause-leaves
returns-clause-leaves g c =
    let s = g.S.Summary in
    let n : ℕ = c.args.width in
    let old = c.args.nodes.now in
    let new = c.loop-place.nodes in
    ext_get_or s.empty (drop n new) (drop n old)
    (omega (arith, length-drop n new, length-drop n old, c.loop-place.invariant.long, c.requires.long))
    (λ k h. get_or-drop n new k s.empty ∙ c.loop-place.invariant.leaves_kept (n + k) (omega arith) ∙ sym (get_or-drop n old k s.empty))
