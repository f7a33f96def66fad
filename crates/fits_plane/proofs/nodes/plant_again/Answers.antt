use Rattle.std.proofs.Common.{◌≡◌, ◌∙◌, ◌+◌, ◌-◌, ℕ, get_or, arith, sym, subst, inl, inr}
use Rattle.std.proofs.lemmas.Bool.{cases_lt}
use Rattle.fits_plane.proofs.PlantLemmas.{same_leaf}
use Rattle.fits_plane.proofs.nodes.plant_again.Goals as goal

pub join_all-requires-clause-fit : goal.join_all-requires-clause-fit
join_all-requires-clause-fit g c =
    let s = g.S.Summary in
    let n : ℕ = c.args.width in
    λ k p q. let back : n + (k - n) ≡ k = omega (arith, p) in elim (cases_lt (k - n) c.args.used) [
      | inl lt ↦ subst (λ m. s.fits (get_or c.ask_leaves.new.nodes m s.empty)) back (c.requires.fits (k - n) _ lt (c.ask_leaves.ensures.asked (k - n) lt))
      | inr ge ↦ subst s.fits (sym (c.ask_leaves.ensures.past k (omega (arith, ge, p)))) (c.requires.tree.fit k (omega (arith, q)))
    ]

-- the unused place is as before
pub join_all-requires-clause-top : goal.join_all-requires-clause-top
join_all-requires-clause-top g c =
    let s = g.S.Summary in
    subst s.fits (sym (c.ask_leaves.ensures.front 0 (omega (arith, c.requires.some)))) (c.requires.tree.fit 0 (omega (arith, c.requires.some)))

-- the joins leave the leaves alone
pub returns-clause-asked : goal.returns-clause-asked
returns-clause-asked g c = λ k b.
    rw (same_leaf c.args.width k c.ask_leaves.new.nodes c.join_all.new.nodes g.S.Summary.empty c.join_all.ensures.leaves) (c.ask_leaves.ensures.asked k b)

-- and what is past them
pub returns-clause-units : goal.returns-clause-units
returns-clause-units g c = λ k b.
    same_leaf c.args.width k c.ask_leaves.new.nodes c.join_all.new.nodes g.S.Summary.empty c.join_all.ensures.leaves ∙ c.ask_leaves.ensures.past (c.args.width + k) (omega (arith, b))
