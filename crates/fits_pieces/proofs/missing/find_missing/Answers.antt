use Rattle.std.proofs.Common.{arith, ◌≡◌, ◌<◌, ◌+◌, ◌-◌, ◌/◌, ◌∙◌, max, Bool, List, ℕ, ap, length}
use Rattle.std.specs.Prelude.{is_some, map}
use Rattle.std.proofs.lemmas.Bool.{false≢true}
use Rattle.std.proofs.lemmas.List.{length-map}
use Rattle.fits_plane.specs.Rectangle.{product, row_count, row_size}
use Rattle.fits_plane.proofs.BlockLemmas.{stop_room}
use Rattle.fits_plane.proofs.PlaneLemmas.{layout_width}
use Rattle.fits_pieces.specs.Piece.{piece_pixels}
use Rattle.fits_pieces.proofs.MissingLemmas.{all_found, covered_more, row_found, row_touched}
use Rattle.fits_pieces.proofs.PiecesLemmas.{pixels_room}
use Rattle.fits_pieces.proofs.ReadingLemmas.{piece_pixels_some}
use Rattle.fits_pieces.proofs.missing.find_missing.Goals as goal

-- the pieces of one row more are found
pub loop-row-preserved : goal.loop-row-preserved
loop-row-preserved c =
    let r = c.requires in
    let axes : List ℕ = c.args.axes.now in
    let lo : List ℕ = c.args.lo.now in
    let hi : List ℕ = c.args.hi.now in
    let w : ℕ = c.args.layout.width in
    let per : ℕ = piece_pixels w in
    let v = c.loop-row.invariant in
    let first : ℕ = c.row_start-first.result in
    let held : List Bool = map is_some c.args.pieces.now.items in
    let width = layout_width c.args.layout c.args.gone.now.bytes axes lo hi r.cut.fits r.rectangle r.all in
    let some = piece_pixels_some w width in
    let below : c.loop-row.row < row_count lo hi = omega (arith, c.loop-row-test.true, c.rows-row-end.ensures) in
    let stop : ℕ = (first + c.row_len-side.result - 1) / c.pixels_per_piece-per.result + 1 in
    let start_is = c.max-start.ensures ∙ ap (λ p. max (first / p) c.loop-row.next) c.pixels_per_piece-per.ensures in
    let stop_is : stop ≡ (first + row_size lo hi - 1) / per + 1 = ap (λ p. (first + c.row_len-side.result - 1) / p + 1) c.pixels_per_piece-per.ensures ∙ ap (λ s. (first + s - 1) / per + 1) c.row_len-side.ensures.value in
    let room = stop_room first c.row_len-side.result (row_size lo hi) per (product axes) c.args.layout.pixels (length c.args.pieces.now.items) some c.row_len-side.ensures.value c.row_len-side.ensures.some c.row_start-first.ensures.within r.all
    (pixels_room w c.args.layout.pixels (length c.args.pieces.now.items) width (omega (arith, r.cut.fits.room, r.cut.fits.used, r.cut.count))) in
    let end_is : stop ≡ (first + c.row_len-side.result - 1) / per + 1 = ap (λ p. (first + c.row_len-side.result - 1) / p + 1) c.pixels_per_piece-per.ensures in
    record {
      found = row_found axes lo hi per c.args.layout.pixels c.loop-row.row first c.loop-row.next c.max-start.result stop c.max-next.result held r.rectangle r.all some below c.row_start-first.ensures.value start_is stop_is c.max-next.ensures v.covered
          c.loop-row.found.items c.add_missing.new.found.items v.found c.in_ok-add_missing.ensures.value;
      covered = covered_more axes lo hi per c.args.layout.pixels c.loop-row.row first c.loop-row.next c.max-start.result stop c.max-next.result held r.rectangle r.all some below c.row_start-first.ensures.value start_is stop_is c.max-next.ensures v.covered;
      limit = omega (arith, c.max-next.ensures, v.limit, room, end_is);
    }

-- where all pieces of the rectangle are in memory none of a row is added
pub returns-in_err-add_missing-clause-at_once : goal.returns-in_err-add_missing-clause-at_once
returns-in_err-add_missing-clause-at_once c = λ holds.
    let r = c.requires in
    let axes : List ℕ = c.args.axes.now in
    let lo : List ℕ = c.args.lo.now in
    let hi : List ℕ = c.args.hi.now in
    let w : ℕ = c.args.layout.width in
    let per : ℕ = piece_pixels w in
    let first : ℕ = c.row_start-first.result in
    let some = piece_pixels_some w (layout_width c.args.layout c.args.gone.now.bytes axes lo hi r.cut.fits r.rectangle r.all) in
    let below : c.loop-row.row < row_count lo hi = omega (arith, c.loop-row-test.true, c.rows-row-end.ensures) in
    let stop : ℕ = (first + c.row_len-side.result - 1) / c.pixels_per_piece-per.result + 1 in
    let start_is = c.max-start.ensures ∙ ap (λ p. max (first / p) c.loop-row.next) c.pixels_per_piece-per.ensures in
    let stop_is : stop ≡ (first + row_size lo hi - 1) / per + 1 = ap (λ p. (first + c.row_len-side.result - 1) / p + 1) c.pixels_per_piece-per.ensures ∙ ap (λ s. (first + s - 1) / per + 1) c.row_len-side.ensures.value in
    absurd (false≢true (c.in_err-add_missing.ensures.at_once (λ k low high.
    holds k (row_touched axes lo hi per c.args.layout.pixels c.loop-row.row first c.loop-row.next c.max-start.result stop r.rectangle r.all some below c.row_start-first.ensures.value start_is stop_is k low high))))

-- those of all rows are all
pub returns-clause-value : goal.returns-clause-value
returns-clause-value c =
    let r = c.requires in
    let axes : List ℕ = c.args.axes.now in
    let lo : List ℕ = c.args.lo.now in
    let hi : List ℕ = c.args.hi.now in
    let w : ℕ = c.args.layout.width in
    let v = c.loop-row.invariant in
    let held : List Bool = map is_some c.args.pieces.now.items in
    let width = layout_width c.args.layout c.args.gone.now.bytes axes lo hi r.cut.fits r.rectangle r.all in
    all_found axes lo hi (piece_pixels w) c.args.layout.pixels c.loop-row.row c.loop-row.next (length held) held c.loop-row.found.items r.rectangle r.all (piece_pixels_some w width) (omega (arith, c.loop-row-test.false, c.rows-row-end.ensures))
    v.covered (omega (arith, v.limit, length-map c.args.pieces.now.items is_some)) v.found
