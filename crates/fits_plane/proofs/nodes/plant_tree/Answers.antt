use Rattle.std.proofs.Common.{◌≡◌, ◌*◌, ◌+◌, ◌-◌, ℕ, drop, take, length, get_or, arith, ap, sym, ◌∙◌, subst, refl}
use Rattle.std.specs.Prelude.{replicate}
use Rattle.std.proofs.lemmas.List.{get_or-drop}
use borrow.Rule.Slice.PartMut.{put_mid}
use Rattle.fits_plane.proofs.PlantLemmas.{opened}
use Rattle.fits_plane.proofs.nodes.plant_tree.Goals as goal

pub join_all-requires-clause-fit : goal.join_all-requires-clause-fit
join_all-requires-clause-fit g c =
    let s = g.S.Summary in
    let n : ℕ = c.args.width in
    let xs = c.args.leaves.now in
    let o = opened s.empty s.fits n (length xs) (n + length xs - n) xs refl (omega arith) c.requires.within c.requires.fit s.laws.unit_fits in
    let same : put_mid n (n + length xs - n) (replicate (n * 2) s.empty) xs ≡ put_mid n (n + length xs - n) c.args.nodes.now c.copy_from_slice.new.self
    = ap (λ r. put_mid n (n + length xs - n) r xs) (sym c.requires.blank) ∙ ap (put_mid n (n + length xs - n) c.args.nodes.now) (sym c.copy_from_slice.ensures.after) in
    λ k p q. subst (λ r. s.fits (get_or r k s.empty)) same (o.fit k)

pub join_all-requires-clause-top : goal.join_all-requires-clause-top
join_all-requires-clause-top g c =
    let s = g.S.Summary in
    let n : ℕ = c.args.width in
    let xs = c.args.leaves.now in
    let o = opened s.empty s.fits n (length xs) (n + length xs - n) xs refl (omega arith) c.requires.within c.requires.fit s.laws.unit_fits in
    let same : put_mid n (n + length xs - n) (replicate (n * 2) s.empty) xs ≡ put_mid n (n + length xs - n) c.args.nodes.now c.copy_from_slice.new.self
    = ap (λ r. put_mid n (n + length xs - n) r xs) (sym c.requires.blank) ∙ ap (put_mid n (n + length xs - n) c.args.nodes.now) (sym c.copy_from_slice.ensures.after) in
    subst (λ r. s.fits (get_or r 0 s.empty)) same (o.fit 0)

pub returns-clause-leaves : goal.returns-clause-leaves
returns-clause-leaves g c =
    let s = g.S.Summary in
    let n : ℕ = c.args.width in
    let xs = c.args.leaves.now in
    let o = opened s.empty s.fits n (length xs) (n + length xs - n) xs refl (omega arith) c.requires.within c.requires.fit s.laws.unit_fits in
    let same : put_mid n (n + length xs - n) (replicate (n * 2) s.empty) xs ≡ put_mid n (n + length xs - n) c.args.nodes.now c.copy_from_slice.new.self
    = ap (λ r. put_mid n (n + length xs - n) r xs) (sym c.requires.blank) ∙ ap (put_mid n (n + length xs - n) c.args.nodes.now) (sym c.copy_from_slice.ensures.after) in
    ap (take (length xs)) c.join_all.ensures.leaves ∙ ap (λ r. take (length xs) (drop n r)) (sym same) ∙ o.leaves

pub returns-clause-units : goal.returns-clause-units
returns-clause-units g c =
    let s = g.S.Summary in
    let n : ℕ = c.args.width in
    let xs = c.args.leaves.now in
    let o = opened s.empty s.fits n (length xs) (n + length xs - n) xs refl (omega arith) c.requires.within c.requires.fit s.laws.unit_fits in
    let same : put_mid n (n + length xs - n) (replicate (n * 2) s.empty) xs ≡ put_mid n (n + length xs - n) c.args.nodes.now c.copy_from_slice.new.self
    = ap (λ r. put_mid n (n + length xs - n) r xs) (sym c.requires.blank) ∙ ap (put_mid n (n + length xs - n) c.args.nodes.now) (sym c.copy_from_slice.ensures.after) in
    λ k b. sym (get_or-drop n c.join_all.new.nodes k s.empty) ∙ ap (λ r. get_or r k s.empty) (c.join_all.ensures.leaves ∙ ap (drop n) (sym same)) ∙ get_or-drop n _ k s.empty ∙ o.units k b
