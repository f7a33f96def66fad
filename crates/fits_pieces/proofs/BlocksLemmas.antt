-- Blocks that are painted, and scanned again.
use Rattle.std.proofs.Common.{◌≡◌, ◌≤◌, ◌<◌, ◌+◌, ◌-◌, ◌*◌, ◌/◌, ◌⊎◌, ℕ, ℤ, Bool, true, false, List, length, slice_index, get_or, arith, sym, ◌∙◌, inl, inr}
use Rattle.std.proofs.lemmas.Bool.{cases_lt, cases_Bool, false≢true}
use Rattle.fits_pixels.specs.declared.pixel_summary.PixelSummary.{PixelSummary}
use Rattle.fits_pixels.specs.declared.word_summary.WordSummary.{WordSummary}
use Rattle.fits_pixels.specs.declared.both.Both.{Both}
use Rattle.fits_pixels.specs.declared.layout.Layout.{Layout}
use Rattle.fits_pixels.specs.Layout.{IsLayout, block_pixels}
use Rattle.fits_pixels.specs.Pixels.{IsWidth}
use Rattle.fits_pixels.specs.Summary.{all_joined, pixels_joined, words_joined, halves_joined}
use Rattle.fits_pixels.specs.SummaryLaws.{same_both}
use Rattle.fits_pixels.proofs.PixelLemmas.{by_width}
use Rattle.fits_pixels.proofs.StatisticsLemmas.{word_leaf}
use Rattle.fits_plane.specs.Leaves.{leaf_unit, IsLeaf}
use Rattle.fits_plane.specs.ShortRows.{RowWritten}
use Rattle.fits_plane.proofs.LeafLemmas.{leaves_statistics, leaves_total}
use Rattle.fits_plane.proofs.PartLemmas.{leaf-same}
use Rattle.fits_plane.proofs.PlaneLemmas.{layout_stays}
use Rattle.fits_pieces.specs.Blocks.{AreMarked, HaveLeaves, IsFresh}
use Rattle.fits_pieces.specs.Piece.{bytes_leaf}

-- what is kept of a part
abbrev Leaf : Type 0
Leaf = Both PixelSummary WordSummary

-- where all leaves are right, they are joined to what is kept of the bytes
pub fresh_leaf : (layout : Layout) (bytes : List ℕ) (leaves : List Leaf) (stale : List Bool) → HaveLeaves layout bytes leaves stale → IsFresh stale → ((k : ℕ) → slice_index bytes k < 256)
    → all_joined leaf_unit (halves_joined pixels_joined words_joined) leaves ≡ bytes_leaf layout bytes
fresh_leaf layout bytes leaves stale v fresh small =
    let right : (k : ℕ) → k < length leaves → IsLeaf layout bytes leaves k = λ k b. v.right k b (fresh k) in
    same_both _ _ _ _ (leaves_statistics layout bytes leaves v.fits v.whole small right) (word_leaf _ _ (leaves_total layout bytes leaves v.fits v.whole small right))

-- a block before those of a run, or behind them, has none of its bytes
block_away : (w start count k j : ℕ) → IsWidth w → 0 < count → (k < start / block_pixels w) ⊎ ((start + count - 1) / block_pixels w + 1 ≤ k) → 2880 * k ≤ j → j < 2880 * k + 2880 → (j < start * w) ⊎ ((start + count) * w ≤ j)
block_away w start count k j h = by_width (λ w. 0 < count → (k < start / block_pixels w) ⊎ ((start + count - 1) / block_pixels w + 1 ≤ k) → 2880 * k ≤ j → j < 2880 * k + 2880 → (j < start * w) ⊎ ((start + count) * w ≤ j))
    (λ some away low high. elim away [ inl p ↦ inl (omega (arith, p, high)) | inr p ↦ inr (omega (arith, p, low, some)) ])
    (λ some away low high. elim away [ inl p ↦ inl (omega (arith, p, high)) | inr p ↦ inr (omega (arith, p, low, some)) ])
    (λ some away low high. elim away [ inl p ↦ inl (omega (arith, p, high)) | inr p ↦ inr (omega (arith, p, low, some)) ])
    (λ some away low high. elim away [ inl p ↦ inl (omega (arith, p, high)) | inr p ↦ inr (omega (arith, p, low, some)) ]) w h

-- the leaves are those of the blocks that weren't painted
pub leaves_painted : (layout : Layout) (old new : List ℕ) (leaves : List Leaf) (stale stale' : List Bool) (start count : ℕ) (value : ℕ → ℤ) → IsWidth layout.width → 0 < count → HaveLeaves layout old leaves stale
    → RowWritten layout.width start count value old new → AreMarked (start / block_pixels layout.width) ((start + count - 1) / block_pixels layout.width + 1) stale stale' → HaveLeaves layout new leaves stale'
leaves_painted layout old new leaves stale stale' start count value h some v row m = record {
  fits = layout_stays layout old new v.fits row.long;
  whole = row.long ∙ v.whole;
  marks = m.long ∙ v.marks;
  right = λ k b fresh.
      let from : ℕ = start / block_pixels layout.width in
      let to : ℕ = (start + count - 1) / block_pixels layout.width + 1 in
      let away : (k < from) ⊎ (to ≤ k) = elim (cases_lt k from) [
        | inl lt ↦ inl lt
        | inr ge ↦ elim (cases_lt k to) [
          | inl lt ↦ absurd (false≢true (sym fresh ∙ m.inside k ge lt))
          | inr far ↦ inr far
        ]
      ] in
      v.right k b (sym (m.outside k away) ∙ fresh)
      ∙ sym (leaf-same layout k old new h row.long (λ j low high. row.outside j (block_away layout.width start count k j h some away low high)));
}
