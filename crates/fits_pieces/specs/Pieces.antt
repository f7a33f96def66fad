-- A data unit of which some pieces are in memory, and the others in its file alone (own).
use Rattle.std.specs.Prelude.{◌≡◌, ◌≢◌, ◌<◌, ◌≤◌, ℕ, ◌+◌, ◌-◌, ◌/◌, ◌^◌, Bool, true, false, Option, None, Some, IfSome, List, [], ◌∷◌, length, map, is_some, get_or, min, set, slice_index, filter, not, ◌&&◌}
use Rattle.std.specs.List.{flat_map, range_with_len, sum_by}
use Rattle.fits_sum.specs.Words.{word_total}
use Rattle.fits_pixels.specs.declared.pixel_summary.PixelSummary.{PixelSummary}
use Rattle.fits_pixels.specs.declared.word_summary.WordSummary.{WordSummary}
use Rattle.fits_pixels.specs.declared.both.Both.{Both}
use Rattle.fits_pixels.specs.declared.layout.Layout.{Layout}
use Rattle.fits_pixels.specs.Layout.{IsLayout, block_count}
use Rattle.fits_pixels.specs.Pixels.{pixels}
use Rattle.fits_pixels.specs.Statistics.{statistics}
use Rattle.fits_plane.specs.Leaves.{leaf_unit}
use Rattle.fits_plane.specs.Plane.{PlaneState}
use Rattle.fits_pieces.specs.Blocks.{IsFresh, PieceState}
use Rattle.fits_plane.specs.Work.{is_touched}
use Rattle.fits_pieces.specs.Piece.{piece_layout, piece_leaf, piece_of, piece_pixels, piece_size, pieces_in}

-- the unit as if all of it were in memory, its bytes as they passed by, and which of its pieces are in memory
pub record PiecedState : Type 0 where
  pub plane : PlaneState
  pub passed : List ℕ
  pub held : List Bool

-- the bytes of a piece: those in memory, or those that passed by
abbrev pub bytes_of : Option PieceState → List ℕ → List ℕ
bytes_of None passed = passed
bytes_of (Some it) passed = it.bytes

-- the bytes of piece j of a unit whose bytes passed by
abbrev pub bytes_at : List (Option PieceState) → List ℕ → ℕ → List ℕ
bytes_at pieces passed j = bytes_of (get_or pieces j None) (piece_of passed j)

-- the bytes of all its pieces, one after the other
abbrev pub bytes_with : List (Option PieceState) → List ℕ → List ℕ
bytes_with pieces passed = flat_map (bytes_at pieces passed) (range_with_len 0 (length pieces))

-- how many blocks of a piece were scanned since it is in memory
abbrev pub scans_of : Option PieceState → ℕ
scans_of None = 0
scans_of (Some it) = it.scans

-- how many of its pixels were read
abbrev pub reads_of : Option PieceState → ℕ
reads_of None = 0
reads_of (Some it) = it.reads

-- how many nodes above its blocks were joined
abbrev pub joins_of : Option PieceState → ℕ
joins_of None = 0
joins_of (Some it) = it.joins

-- a piece in memory is piece j of a unit of so many bytes: it is as long, and read as the unit is
pub record IsPiece (layout : Layout) (len j : ℕ) (it : PieceState) : Type 0 where
  pub size : length it.bytes ≡ piece_size len j
  pub layout_is : it.layout ≡ piece_layout layout j
  pub small : (k : ℕ) → slice_index it.bytes k < 256
  pub blocks : length it.stale ≡ block_count it.bytes

-- a unit whose bytes passed by is cut in these pieces, each in memory or not
pub record IsCut (layout : Layout) (passed : List ℕ) (pieces : List (Option PieceState)) : Type 0 where
  pub fits : IsLayout layout passed
  pub small : (k : ℕ) → slice_index passed k < 256
  pub count : length pieces ≡ pieces_in (length passed)
  pub held : (j : ℕ) → IfSome (get_or pieces j None) (IsPiece layout (length passed) j)

-- no block of a piece in memory is yet to be scanned
abbrev pub AreFresh : List (Option PieceState) → Type 0
AreFresh pieces = (j : ℕ) → IfSome (get_or pieces j None) (λ it. IsFresh it.stale)

-- so it is, and it has so many bytes, and this is kept of each piece
pub record ArePieces (layout : Layout) (passed : List ℕ) (len : ℕ) (pieces : List (Option PieceState)) (leaves : List (Both PixelSummary WordSummary)) : Type 0 where
  pub cut : IsCut layout passed pieces
  pub fresh : AreFresh pieces
  pub len_is : len ≡ length passed
  pub whole : length leaves ≡ pieces_in (length passed)
  pub right : (j : ℕ) → j < length leaves → get_or leaves j leaf_unit ≡ piece_leaf layout j (bytes_at pieces passed j)

-- the unit, of such pieces
abbrev pub unit_of : Layout → List ℕ → List (Option PieceState) → (scans joins : ℕ) → PiecedState
unit_of layout passed pieces scans joins = record {
  plane = record {
    bytes = bytes_with pieces passed;
    layout = layout;
    scans = scans + sum_by scans_of pieces;
    reads = sum_by reads_of pieces;
    joins = joins + sum_by joins_of pieces;
  };
  passed = passed;
  held = map is_some pieces;
}

-- the statistics of its stored numbers
abbrev pub unit_statistics : PlaneState → PixelSummary
unit_statistics it = statistics it.layout.blank (pixels it.layout.width it.bytes 0 it.layout.pixels)

-- piece j of the bytes is this now, and every other is as before
pub record PutsPiece (j : ℕ) (piece old new : List ℕ) : Type 0 where
  pub long : length new ≡ length old
  pub here : piece_of new j ≡ piece
  pub others : (i : ℕ) → i ≢ j → piece_of new i ≡ piece_of old i

-- piece j came into memory, which has these bytes: each of its blocks was scanned once, and the nodes above them were joined once
pub record LoadsPiece (j : ℕ) (piece : List ℕ) (old new : PiecedState) : Type 0 where
  pub held : new.held ≡ set old.held j true
  pub passed : new.passed ≡ old.passed
  pub bytes : PutsPiece j piece old.plane.bytes new.plane.bytes
  pub same : piece ≡ piece_of old.plane.bytes j → new.plane.bytes ≡ old.plane.bytes
  pub layout : new.plane.layout ≡ old.plane.layout
  pub total : word_total new.plane.bytes ≡ word_total old.plane.bytes
  pub stats : unit_statistics new.plane ≡ unit_statistics old.plane
  pub reads : new.plane.reads ≡ old.plane.reads
  pub scans : new.plane.scans ≡ old.plane.scans + block_count piece
  pub more_joins : old.plane.joins ≤ new.plane.joins
  pub joins : (d : ℕ) → block_count piece ≤ 2 ^ d → new.plane.joins ≤ old.plane.joins + 2 ^ d

-- a piece, whatever number of its pixels was read
abbrev pub unread : Option PieceState → Option PieceState
unread None = None
unread (Some it) = Some (record it { reads = 0 })

-- so many pixels of pieces were read, and else nothing
pub record ReadsPieces (count : ℕ) (old new : List (Option PieceState)) : Type 0 where
  pub same : map unread new ≡ map unread old
  pub reads : sum_by reads_of new ≡ sum_by reads_of old + count

-- each piece that has one of so many pixels from one on is in memory
abbrev pub HoldsPixels : (width start count : ℕ) → List (Option PieceState) → Type 0
HoldsPixels width start count pieces = (i : ℕ) → start ≤ i → i < start + count → is_some (get_or pieces (i / piece_pixels width) None) ≡ true

-- each piece that has a pixel of a rectangle is in memory
abbrev pub HoldsRectangle : List ℕ → List ℕ → List ℕ → Layout → List Bool → Type 0
HoldsRectangle axes lo hi layout held = (j : ℕ) → is_touched axes lo hi (piece_pixels layout.width) layout.pixels j ≡ true → get_or held j false ≡ true

-- does piece j have a pixel of a rectangle, and isn't it in memory?
abbrev pub is_missing : List ℕ → List ℕ → List ℕ → Layout → List Bool → ℕ → Bool
is_missing axes lo hi layout held j = is_touched axes lo hi (piece_pixels layout.width) layout.pixels j && not (get_or held j false)

-- the pieces of which that is so, in order
abbrev pub missing_pieces : List ℕ → List ℕ → List ℕ → Layout → List Bool → List ℕ
missing_pieces axes lo hi layout held = filter (is_missing axes lo hi layout held) (range_with_len 0 (length held))

-- how many blocks have the pieces that aren't in memory, and what follows all pieces
abbrev pub away_blocks : List Bool → ℕ → ℕ
away_blocks [] len = len / 2880
away_blocks (true ∷ held) len = away_blocks held (len - 46080)
away_blocks (false ∷ held) len = min 46080 len / 2880 + away_blocks held (len - 46080)
