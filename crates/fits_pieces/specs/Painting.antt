-- Pieces of a data unit that are painted (own).
use Rattle.std.specs.Prelude.{◌≡◌, ◌<◌, ◌≤◌, ℕ, ◌+◌, ◌-◌, ◌*◌, ◌/◌, ◌^◌, Bool, true, false, List, Option, None, Some, IfSome, get_or, length, slice_index, if◌then◌else◌}
use Rattle.fits_pixels.specs.Layout.{block_count, block_pixels}
use Rattle.fits_pixels.specs.Pixels.{IsWidth}
use Rattle.fits_plane.specs.declared.painting.Painting.{Painting}
use Rattle.fits_plane.specs.Painting.{number_of}
use Rattle.fits_plane.specs.ShortRows.{CanPaint, RowWritten}
use Rattle.fits_pieces.specs.Blocks.{stale_count, AreMarked, IsFresh, PieceState}

-- a run of its pixels, the first of which has this rank, can be painted on pixels of blocks
pub record TakesRun (it : Painting) (start count rank : ℕ) (blocks : PieceState) : Type 0 where
  pub width : IsWidth blocks.layout.width
  pub within : start + count ≤ blocks.layout.pixels
  pub paint : CanPaint blocks.layout.width it rank count

-- it was, and the blocks that hold them are yet to be scanned
pub record PaintsRun (it : Painting) (start count rank : ℕ) (old new : PieceState) : Type 0 where
  pub written : RowWritten old.layout.width start count (λ x. number_of it (rank + x)) old.bytes new.bytes
  pub marked : AreMarked (start / block_pixels old.layout.width) ((start + count - 1) / block_pixels old.layout.width + 1) old.stale new.stale
  pub same : new ≡ record old { bytes = new.bytes; stale = new.stale }
  pub small : (k : ℕ) → slice_index new.bytes k < 256

-- a piece is as before, but for its bytes, and those where no block is yet to be scanned
pub record IsRepainted (old new : PieceState) : Type 0 where
  pub size : length new.bytes ≡ length old.bytes
  pub layout_is : new.layout ≡ old.layout
  pub scans : new.scans ≡ old.scans
  pub reads : new.reads ≡ old.reads
  pub joins : new.joins ≡ old.joins
  pub marks : length new.stale ≡ length old.stale
  pub fresh : IsFresh new.stale → IsFresh old.stale
  pub bytes : IsFresh new.stale → new.bytes ≡ old.bytes

-- so is one that may not be in memory
abbrev pub RepaintsPiece : Option PieceState → Option PieceState → Type 0
RepaintsPiece None None = Unit {0}
RepaintsPiece (Some old) (Some new) = IsRepainted old new
RepaintsPiece _ _ = ⊥

-- so is each
pub record RepaintsPieces (old new : List (Option PieceState)) : Type 0 where
  pub long : length new ≡ length old
  pub each : (j : ℕ) → RepaintsPiece (get_or old j None) (get_or new j None)

-- each block that is yet to be scanned passes a test
abbrev pub StaleIn : (ℕ → Bool) → List (Option PieceState) → Type 0
StaleIn test pieces = (j : ℕ) → IfSome (get_or pieces j None) (λ it. (k : ℕ) → get_or it.stale k false ≡ true → test (16 * j + k) ≡ true)

-- each block that holds one of so many pixels from one on passes it
abbrev pub PassesRun : (width start count : ℕ) → (ℕ → Bool) → Type 0
PassesRun width start count test = (b : ℕ) → start / block_pixels width ≤ b → b ≤ (start + count - 1) / block_pixels width → test b ≡ true

-- its blocks that were yet to be scanned were, if it was marked, and nodes were joined above them alone
pub record Rescans (old new : PieceState) (marked : Bool) : Type 0 where
  pub bytes : new.bytes ≡ old.bytes
  pub layout_is : new.layout ≡ old.layout
  pub reads : new.reads ≡ old.reads
  pub marks : length new.stale ≡ length old.stale
  pub fresh : IsFresh new.stale
  pub was : marked ≡ false → IsFresh old.stale
  pub scans : new.scans + stale_count new.stale ≡ old.scans + stale_count old.stale
  pub less : (if marked then 1 else 0) + stale_count new.stale ≤ stale_count old.stale
  pub more : old.joins ≤ new.joins
  pub few : (d : ℕ) → block_count old.bytes ≤ 2 ^ d → new.joins + stale_count new.stale * d ≤ old.joins + stale_count old.stale * d
  pub most : (d : ℕ) → block_count old.bytes ≤ 2 ^ d → new.joins + (if marked then 1 else 0) ≤ old.joins + (if marked then 2 ^ d else 0)

-- so is a piece that may not be in memory
abbrev pub RescansPiece : Option PieceState → Option PieceState → Bool → Type 0
RescansPiece None None marked = marked ≡ false
RescansPiece (Some old) (Some new) marked = Rescans old new marked
RescansPiece _ _ marked = ⊥

-- so is each, by its mark
pub record RescansPieces (old new : List (Option PieceState)) (marks : List Bool) : Type 0 where
  pub long : length new ≡ length old
  pub many : length marks ≡ length old
  pub each : (j : ℕ) → j < length old → RescansPiece (get_or old j None) (get_or new j None) (get_or marks j false)

-- how many blocks of a piece are yet to be scanned
abbrev pub stale_of : Option PieceState → ℕ
stale_of None = 0
stale_of (Some it) = stale_count it.stale
