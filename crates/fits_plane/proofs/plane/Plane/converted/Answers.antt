use Rattle.std.proofs.Common.{Some, ap, arith, replicate, slice_index, subst, ℕ, ◌≡◌, ◌*◌, ◌-◌, ◌<◌, ◌∙◌}
use Rattle.std.proofs.lemmas.Int.{to_z-of_z}
use Rattle.std.proofs.lemmas.List.{with_items_is}
use Rattle.std.specs.Int.{w128}
use Rattle.fits_plane.proofs.ConvertLemmas.{kept_decides, run_made_none, run_made_some}
use Rattle.fits_plane.specs.Converting.{can_store_run, kept_numbers, run_written}
use Rattle.fits_plane.proofs.plane.Plane.converted.Goals as goal

-- no number: zeros alone
pub returns-then-count-eq0-clause-value : goal.returns-then-count-eq0-clause-value
unfolding can_store_run run_written
returns-then-count-eq0-clause-value c =
    let all : c.args.len ≡ c.args.len - 0 * c.args.width = omega arith in
    rw c.if-count-eq0.true (ap Some (c.in_ok-made.ensures ∙ ap (λ n. replicate n 0) all))

-- one of the numbers can't be stored
pub returns-then-not-stored-clause-value : goal.returns-then-not-stored-clause-value
returns-then-not-stored-clause-value c =
    let a = c.args in
    let width = ap (λ z. z.layout.width) c.self.view_is in
    let bytes = ap (λ z. z.bytes) c.self.view_is in
    let means = rw (to_z-of_z w128 a.shift c.ranges.shift) at c.convert_run-stored.ensures.means in
    run_made_none a.width (kept_numbers a.self.now.layout.width a.self.now.bytes a.count a.shift) a.len _ c.if-not-stored.true
    (kept_decides c.self.inside.layout.width a.self.now.layout.width a.width a.count a.shift c.self.inside.store.bytes a.self.now.bytes _ width bytes means)

-- all of them were
pub returns-clause-value : goal.returns-clause-value
returns-clause-value c =
    let a = c.args in
    let e = c.convert_run-stored.ensures in
    let new = c.convert_run-stored.new.target in
    let width = ap (λ z. z.layout.width) c.self.view_is in
    let bytes = ap (λ z. z.bytes) c.self.view_is in
    let means = rw (to_z-of_z w128 a.shift c.ranges.shift) at e.means in
    let inside = rw (to_z-of_z w128 a.shift c.ranges.shift) at e.inside in
    let tested = kept_decides c.self.inside.layout.width a.self.now.layout.width a.width a.count a.shift c.self.inside.store.bytes a.self.now.bytes _ width bytes means in
    let same = with_items_is c.in_ok-made.made new (omega (arith, e.long, c.as_mut_slice.ensures.len)) in
    let small = subst (λ xs. (k : ℕ) → slice_index xs k < 256) c.as_slice.ensures.value c.read_bytes.ensures in
    run_made_some c.self.inside.layout.width a.self.now.layout.width a.width a.count a.len a.shift c.self.inside.store.bytes a.self.now.bytes c.as_mut_slice.result.now new _ _ width bytes
    c.requires.width c.requires.room c.if-not-stored.false tested (c.as_mut_slice.ensures.value ∙ c.in_ok-made.ensures) e.long (inside c.if-not-stored.false) e.outside same small
