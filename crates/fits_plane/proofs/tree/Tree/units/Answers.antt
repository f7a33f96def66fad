use Rattle.std.proofs.Common.{ap, arith, drop, take, ℕ, ◌*◌, ◌-◌, ◌∙◌}
use Rattle.std.proofs.lemmas.List.{drop-replicate, take-replicate}
use Rattle.fits_plane.proofs.tree.Tree.units.Goals as goal

-- the leaves are units
pub returns-clause-leaves : goal.returns-clause-leaves
returns-clause-leaves g c =
    let n : ℕ = c.power_from-width.result in
    ap (λ xs. take c.args.count (drop n xs)) c.in_ok-nodes.ensures ∙ ap (take c.args.count) (drop-replicate n (2 * n) g.S.Summary.empty)
    ∙ take-replicate c.args.count (2 * n - n) g.S.Summary.empty (omega (arith, c.power_from-width.ensures.power.enough))
