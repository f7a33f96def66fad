use Rattle.std.proofs.Common.{◌≡◌, ◌+◌, ◌++◌, ◌∙◌, length, map, take, ap, arith, sym}
use Rattle.std.proofs.lemmas.List.{length-map, map-append}
use Rattle.std.proofs.Math.Seq.{take-append-add, take-append_seam}
use Rattle.fits_c.proofs.rect_rows.put_row.Goals as goal

pub returns-clause-yes : goal.returns-clause-yes
returns-clause-yes g c e =
    let v = g.N.Number.value in
    let front = c.split_at_mut-rest.result.0.now in
    let back = c.split_at_mut-row.result.1.now in
    let new = c.put.new.room in
    let are : map v new ≡ c.args.values.now = c.put.ensures.yes e in
    let many : length new ≡ length c.args.values.now = sym (length-map new v) ∙ ap length are in
    let cut : c.args.at + length c.args.values.now ≡ length front + length new = omega (arith, c.split_at_mut-rest.ensures.front_len, many) in
    ap (λ n. map v (take n (front ++ (new ++ back)))) cut
    ∙ ap (map v) (take-append-add front (new ++ back) (length new) ∙ ap (λ xs. front ++ xs) (take-append_seam new back))
    ∙ map-append v front new
    ∙ ap (λ xs. map v xs ++ map v new) c.split_at_mut-rest.ensures.front
    ∙ ap (λ xs. map v (take c.args.at c.args.room.now) ++ xs) are
