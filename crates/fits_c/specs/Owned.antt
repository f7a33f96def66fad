-- What handles own (own).
use Rattle.std.specs.Prelude.{Option, Some, None}
use base.Fml.{Fml, ftrue}
use denote.RawPtr.{Ptr}
use Rattle.std_alloc.specs.Box.Ownership.{box_owns}
use Rattle.std_heap.specs.declared.Global.{Global}
use Rattle.std_heap.specs.contracts.GlobalAllocator.TheImpl.{ghosts}
use Rattle.fits_c.specs.contracts.live.Live.{the_row}
use Rattle.fits_c.specs.contracts.outcome.Outcome as outcome
use Rattle.fits_c.specs.declared.live.Live.{Live}
use Rattle.fits_c.specs.declared.outcome.Outcome.{Outcome}

-- a box with this session and the right to free its block, or nothing
abbrev pub owned_if : Global → Ptr → Option Live → Fml
owned_if alloc at None = ftrue
owned_if alloc at (Some live) = box_owns (ghosts.dealloc_token alloc) the_row at live

-- the same of an outcome
abbrev pub outcome_if : Global → Ptr → Option Outcome → Fml
outcome_if alloc at None = ftrue
outcome_if alloc at (Some it) = box_owns (ghosts.dealloc_token alloc) outcome.the_row at it
