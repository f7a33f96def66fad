use Rattle.std.proofs.Common.{◌≡◌, ◌<◌, ◌≤◌, ◌+◌, ◌*◌, ◌/◌, ◌++◌, ◌∙◌, ℕ, length, map, take, refl, ap, sym, subst, arith, All}
use Rattle.std.proofs.lemmas.List.{take_all}
use Rattle.fits_plane.specs.Rectangle.{rectangle_size, row_count, row_size}
use Rattle.fits_plane.proofs.RowLemmas.{rectangle_size-rows, row_lies}
use Rattle.fits_session.specs.Marked.{Marked}
use Rattle.fits_session.specs.Query.{rect_in, QueryFails}
use Rattle.fits_session.specs.Session.{file_of}
use Rattle.fits_tell.proofs.ExitLemmas.{at_exit}
use Rattle.fits_c.proofs.AxisLemmas.{corners_like}
use Rattle.fits_c.proofs.RectLemmas.{memory_stops, range_stops, rect_corners, row_length, row_more, row_stops, rows_count, rows_fill}
use Rattle.fits_c.proofs.rect_rows.read_rows.Goals as goal

pub row_len-side-requires : goal.row_len-side-requires
row_len-side-requires g c = rect_corners _ _ _ _ c.requires.lies

pub corner_in_row-requires-clause-lies : goal.corner_in_row-requires-clause-lies
corner_in_row-requires-clause-lies g c = rect_corners _ _ _ _ c.requires.lies

pub returns-in_err-first-clause-err : goal.returns-in_err-first-clause-err
returns-in_err-first-clause-err g c = at_exit c.from_residual.result _ _ c.from_residual.ensures.1 (memory_stops g.N.Number.Fits (file_of c.args.session.now) c.args.h (length c.args.room.now) c.args.lo.now c.args.hi.now c.requires.lies)

pub corner_in_row-requires-in-loop-row-clause-lies : goal.corner_in_row-requires-in-loop-row-clause-lies
corner_in_row-requires-in-loop-row-clause-lies g c = rect_corners _ _ _ _ c.requires.lies

pub corner_in_row-requires-in-loop-row-clause-like : goal.corner_in_row-requires-in-loop-row-clause-like
corner_in_row-requires-in-loop-row-clause-like g c = corners_like c.args.lo.now c.args.hi.now (rect_corners _ _ _ _ c.requires.lies)

pub returns-in_err-last-clause-err : goal.returns-in_err-last-clause-err
returns-in_err-last-clause-err g c = at_exit c.from_residual-in_err-last.result _ _ c.from_residual-in_err-last.ensures.1 (memory_stops g.N.Number.Fits (file_of c.args.session.now) c.args.h (length c.args.room.now) c.args.lo.now c.args.hi.now c.requires.lies)

pub returns-in_err-values-clause-err : goal.returns-in_err-values-clause-err
returns-in_err-values-clause-err g c =
    let counted = rows_count _ _ (length c.args.room.now) c.row_len-side.result (length c.args.room.now / c.row_len-side.result) _ _ c.requires.lies c.requires.size c.row_len-side.ensures.value refl in
    let below : c.loop-row.row < row_count c.args.lo.now c.args.hi.now = omega (arith, c.loop-row-test.true, counted) in
    let same = ap (λ (m : Marked). m.file) c.loop-row.invariant.stays in
    at_exit c.from_residual-in_err-values.result _ _ c.from_residual-in_err-values.ensures.1
    (row_stops g.N.Number.Fits (file_of c.args.session.now) c.args.h (length c.args.room.now) c.args.lo.now c.args.hi.now c.deref.result.now c.deref-in-loop-row.result.now c.loop-row.row c.in_err-values.field-0.0
    c.requires.lies below (c.deref.ensures.value ∙ c.in_ok-first.ensures) (c.deref-in-loop-row.ensures.value ∙ c.in_ok-last.ensures)
    (subst (λ file. QueryFails (rect_in file c.args.h c.deref.result.now c.deref-in-loop-row.result.now) c.in_err-values.field-0.0) same c.in_err-values.ensures.err))

pub put_row-requires : goal.put_row-requires
put_row-requires g c =
    let counted = rows_count _ _ (length c.args.room.now) c.row_len-side.result (length c.args.room.now / c.row_len-side.result) _ _ c.requires.lies c.requires.size c.row_len-side.ensures.value refl in
    let below : c.loop-row.row < row_count c.args.lo.now c.args.hi.now = omega (arith, c.loop-row-test.true, counted) in
    let same = ap (λ (m : Marked). m.file) c.loop-row.invariant.stays in
    let read = ap (λ file. rect_in file c.args.h c.deref.result.now c.deref-in-loop-row.result.now) (sym same) ∙ c.in_ok-values.ensures.ok in
    let many = row_length (file_of c.args.session.now) c.args.h c.args.lo.now c.args.hi.now _ _ c.loop-row.row _ c.requires.lies below
    (c.deref.ensures.value ∙ c.in_ok-first.ensures) (c.deref-in-loop-row.ensures.value ∙ c.in_ok-last.ensures) read in
    let held = ap length c.deref-in-loop-row-2.ensures.value in
    let fits = row_lies c.requires.lies.axes c.args.lo.now c.args.hi.now c.row_len-side.result (row_count c.args.lo.now c.args.hi.now) c.loop-row.row c.requires.lies.lies c.row_len-side.ensures.value refl below in
    omega (arith, fits, many, held, c.row_len-side.ensures.value, c.loop-row.invariant.size, c.requires.size)

pub returns-then-not-put_row-clause-err : goal.returns-then-not-put_row-clause-err
returns-then-not-put_row-clause-err g c =
    let counted = rows_count _ _ (length c.args.room.now) c.row_len-side.result (length c.args.room.now / c.row_len-side.result) _ _ c.requires.lies c.requires.size c.row_len-side.ensures.value refl in
    let below : c.loop-row.row < row_count c.args.lo.now c.args.hi.now = omega (arith, c.loop-row-test.true, counted) in
    let same = ap (λ (m : Marked). m.file) c.loop-row.invariant.stays in
    let read = ap (λ file. rect_in file c.args.h c.deref.result.now c.deref-in-loop-row.result.now) (sym same) ∙ c.in_ok-values.ensures.ok in
    range_stops g.N.Number.Fits (file_of c.args.session.now) c.args.h (length c.args.room.now) c.args.lo.now c.args.hi.now _ _ c.loop-row.row c.in_ok-values.values.items c.requires.lies below
    (c.deref.ensures.value ∙ c.in_ok-first.ensures) (c.deref-in-loop-row.ensures.value ∙ c.in_ok-last.ensures) read
    (λ every. c.put_row.ensures.no c.if-not-put_row.true (subst (All g.N.Number.Fits) (sym c.deref-in-loop-row-2.ensures.value) every))

pub loop-row-preserved : goal.loop-row-preserved
loop-row-preserved g c =
    let v = g.N.Number.value in
    let row : ℕ = c.loop-row.row in
    let side : ℕ = row_size c.args.lo.now c.args.hi.now in
    let counted = rows_count _ _ (length c.args.room.now) c.row_len-side.result (length c.args.room.now / c.row_len-side.result) _ _ c.requires.lies c.requires.size c.row_len-side.ensures.value refl in
    let below : c.loop-row.row < row_count c.args.lo.now c.args.hi.now = omega (arith, c.loop-row-test.true, counted) in
    let same = ap (λ (m : Marked). m.file) c.loop-row.invariant.stays in
    let read = ap (λ file. rect_in file c.args.h c.deref.result.now c.deref-in-loop-row.result.now) (sym same) ∙ c.in_ok-values.ensures.ok in
    let first = c.deref.ensures.value ∙ c.in_ok-first.ensures in
    let last = c.deref-in-loop-row.ensures.value ∙ c.in_ok-last.ensures in
    let many = row_length (file_of c.args.session.now) c.args.h c.args.lo.now c.args.hi.now _ _ row _ c.requires.lies below first last read in
    let held = ap length c.deref-in-loop-row-2.ensures.value in
    let before : row * c.row_len-side.result ≡ row * side = ap (λ n. row * n) c.row_len-side.ensures.value in
    let upto : row * c.row_len-side.result + length c.deref-in-loop-row-2.result.now ≡ (row + 1) * side = omega (arith, many, held, before) in
    let more = ap (λ n. map v (take n c.put_row.new.room)) (sym upto) ∙ c.put_row.ensures.yes c.if-not-put_row.false
    ∙ ap (λ n. map v (take n c.loop-row.room) ++ c.deref-in-loop-row-2.result.now) before
    ∙ ap (λ xs. map v (take (row * side) c.loop-row.room) ++ xs) c.deref-in-loop-row-2.ensures.value in
    record {
      stays = c.in_ok-values.ensures.asks.file ∙ c.loop-row.invariant.stays;
      size = c.put_row.ensures.size ∙ c.loop-row.invariant.size;
      read = λ it. row_more (file_of c.args.session.now) c.args.h c.args.lo.now c.args.hi.now _ _ row c.in_ok-values.values.items _ _ it below first last read (c.loop-row.invariant.read it) more;
    }

pub returns-clause-ok : goal.returns-clause-ok
returns-clause-ok g c =
    let v = g.N.Number.value in
    let side : ℕ = row_size c.args.lo.now c.args.hi.now in
    let counted = rows_count _ _ (length c.args.room.now) c.row_len-side.result (length c.args.room.now / c.row_len-side.result) _ _ c.requires.lies c.requires.size c.row_len-side.ensures.value refl in
    let done : c.loop-row.row ≡ row_count c.args.lo.now c.args.hi.now = omega (arith, c.loop-row-test.false, c.loop-row.auto.row-end, counted) in
    let all : c.loop-row.row * side ≡ rectangle_size c.args.lo.now c.args.hi.now = ap (λ n. n * side) done ∙ omega (arith, rectangle_size-rows c.args.lo.now c.args.hi.now) in
    let whole : length c.loop-row.room ≤ c.loop-row.row * side = omega (arith, all, c.loop-row.invariant.size, c.requires.size) in
    rows_fill (file_of c.args.session.now) c.args.h (length c.args.room.now) c.loop-row.row c.args.lo.now c.args.hi.now _ c.requires.lies done
    (ap (map v) (sym (take_all (c.loop-row.row * side) c.loop-row.room whole)) ∙ c.loop-row.invariant.read c.requires.lies)
