use Rattle.std.proofs.Common.{◌≡◌, ◌<◌, ◌≤◌, ◌+◌, ◌-◌, ◌*◌, ◌/◌, ◌^◌, ℕ}
use Rattle.fits_pixels.specs.Layout.{block_count, block_pixels}
use Rattle.fits_plane.specs.Painting.{number_of}
use Rattle.fits_plane.specs.Rectangle.{place, row_count, row_size}
use Rattle.fits_plane.specs.ShortRows.{IsKeptBut}
use Rattle.fits_plane.specs.Tree.{most_above, nodes_left}
use Rattle.fits_plane.proofs.ApartRowLemmas.{ApartWalk}
use Rattle.fits_plane.proofs.WriteLemmas.{RowsWritten}
use Rattle.fits_plane.proofs.short_rows.paint_rows_apart.Given as goal

abbrev pub invariant-loop-row : goal.invariant-loop-row
invariant-loop-row l = record {
  kept : IsKeptBut l.layout l.store.bytes l.width l.last l.nodes;
  written : RowsWritten l.layout.width l.painting.axes.now l.painting.lo.now l.painting.hi.now (row_size l.painting.lo.now l.painting.hi.now) l.row (number_of l.painting) l.fn.store.bytes l.store.bytes;
  walk : ApartWalk l.painting.axes.now l.painting.lo.now l.painting.hi.now (block_pixels l.layout.width) l.layout.pixels (block_count l.fn.store.bytes) (row_size l.painting.lo.now l.painting.hi.now) l.row (l.store.scans - l.fn.store.scans);
  order : l.row < row_count l.painting.lo.now l.painting.hi.now → l.last ≤ l.width + place l.painting.axes.now l.painting.lo.now l.painting.hi.now (l.row * row_size l.painting.lo.now l.painting.hi.now) / block_pixels l.layout.width;
  reads : l.store.reads ≡ l.fn.store.reads;
  more_scans : l.fn.store.scans ≤ l.store.scans;
  more : l.fn.joins.total ≤ l.joins.total;
  few : (d : ℕ) → l.width ≤ 2 ^ d → l.joins.total + most_above d l.last ≤ l.fn.joins.total + (l.store.scans - l.fn.store.scans) * d;
  most : (h : ℕ) → l.width ≡ 2 ^ h → l.joins.total ≤ l.fn.joins.total + nodes_left h (l.last - l.width);
}
