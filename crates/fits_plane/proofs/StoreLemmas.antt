-- Bytes of a data unit that were looked at, and not changed.
use Rattle.std.proofs.Common.{◌≡◌, ◌+◌, ℕ, ap, arith, subst, sym, ◌∙◌}
use Rattle.fits_pixels.specs.declared.layout.Layout.{Layout}
use Rattle.fits_pixels.specs.Layout.{IsLayout}
use Rattle.fits_pixels.specs.Block.{leaf_of}
use Rattle.fits_plane.specs.DataBytes.{DataState, IsScanned}

-- they are the same bytes
pub same_bytes : (old new : DataState) → IsScanned old new → new.bytes ≡ old.bytes
same_bytes old new same = ap (λ s. s.bytes) same

-- so they stay when they are scanned again
pub scanned_again : (old mid new : DataState) (n : ℕ) → IsScanned old mid → new ≡ record mid { scans = n } → IsScanned old new
scanned_again old mid new n same e =
    e ∙ ap (λ (s : DataState). record s { scans = n }) same ∙ ap (λ m. record old { scans = m }) (sym (ap (λ (s : DataState). s.scans) e))

-- a layout of theirs fits them still
pub fits_scanned : (layout : Layout) (old new : DataState) → IsScanned old new → IsLayout layout old.bytes → IsLayout layout new.bytes
fits_scanned layout old new same = subst (IsLayout layout) (sym (same_bytes old new same))

-- and their blocks are kept as they were
pub leaf_scanned : (layout : Layout) (k : ℕ) (old new : DataState) → IsScanned old new → leaf_of layout new.bytes k ≡ leaf_of layout old.bytes k
leaf_scanned layout k old new same = ap (λ bytes. leaf_of layout bytes k) (same_bytes old new same)

-- so many more pixels were read
pub read_more : (old mid new : DataState) (n m : ℕ) → mid ≡ record old { reads = old.reads + n } → new ≡ record mid { reads = mid.reads + m } → new ≡ record old { reads = old.reads + (n + m) }
read_more old mid new n m before e =
    e ∙ ap (λ (s : DataState). record s { reads = s.reads + m }) before ∙ ap (λ k. record old { reads = k }) {x = old.reads + n + m} {y = old.reads + (n + m)} (omega arith)
