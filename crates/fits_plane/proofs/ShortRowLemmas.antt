-- A row that is painted in the blocks that hold it.
use Rattle.std.proofs.Common.{◌≡◌, ◌≢◌, ◌<◌, ◌≤◌, ℕ, ◌+◌, ◌-◌, ◌*◌, ◌/◌, ◌%◌, ℤ, List, length, get_or, set, take, drop, slice_index, min, refl, arith, sym, ◌∙◌, ap, subst, inl, inr, ◌⊎◌}
use Rattle.std.proofs.Math.Nat.{mul-le-mul_right, div-mul-le_self, div-lt_iff_lt-mul, div-eq_of_lt-le}
use Rattle.std.proofs.lemmas.Bool.{cases_lt, cases_eq}
use Rattle.std.proofs.lemmas.List.{get_or-set_same, get_or-set_other, get_or-drop, get_or-take, get_or_past, length-drop, length-take}
use Rattle.fits_pixels.specs.declared.pixel_summary.PixelSummary.{PixelSummary}
use Rattle.fits_pixels.specs.declared.word_summary.WordSummary.{WordSummary}
use Rattle.fits_pixels.specs.declared.both.Both.{Both}
use Rattle.fits_pixels.specs.declared.layout.Layout.{Layout}
use Rattle.fits_pixels.specs.Pixels.{pixel, IsWidth, IsStorable}
use Rattle.fits_pixels.specs.Layout.{IsLayout, block_count, block_pixels}
use Rattle.fits_pixels.specs.Block.{leaf_of}
use Rattle.fits_pixels.proofs.PixelLemmas.{by_width}
use Rattle.fits_pixels.proofs.LayoutLemmas.{block_pixels_some}
use Rattle.fits_plane.specs.declared.lent_paint.LentPaint.{LentPaint}
use Rattle.fits_plane.specs.declared.lent_paint.LentPaint.TheVariants.{Fill, Write}
use Rattle.fits_plane.specs.declared.painting.Painting.{Painting}
use Rattle.fits_plane.specs.Paint.{HasValues}
use Rattle.fits_plane.specs.Painting.{number_of}
use Rattle.fits_plane.specs.Leaves.{leaf_unit, IsBlockTree, IsBlockTreeBut}
use Rattle.fits_plane.specs.ShortRows.{IsKept, IsKeptBut, CanPaint, RowWritten}
use Rattle.fits_plane.proofs.PlaneLemmas.{layout_stays}
use Rattle.fits_plane.proofs.JoinLemmas.{tree_begun}
use Rattle.fits_plane.proofs.PartLemmas.{leaf-same}
use Rattle.fits_plane.proofs.TreeLemmas.{leaves_used}
use Rattle.fits_plane.proofs.WriteLemmas.{pixel_away}

-- ---- a run of pixels of one block

-- the groups that hold the run lie in the block, which is one of the data unit's
pub record Groups (w k start count blocks : ℕ) (from to : ℕ) : Type 0 where
  pub low : 360 * k ≤ from
  pub order : from ≤ to
  pub high : to ≤ 360 * k + 360
  pub block : k < blocks
  pub front : 8 * from ≤ start * w
  pub back : (start + count) * w ≤ 8 * to
  pub first : 2880 * k ≤ start * w
  pub last : (start + count) * w ≤ 2880 * k + 2880

-- by the width
groups_of : (w k start count pixels blocks : ℕ) → IsWidth w → 0 < count → k * block_pixels w ≤ start → start + count ≤ (k + 1) * block_pixels w → start + count ≤ pixels → pixels * w ≤ 2880 * blocks
    → Groups w k start count blocks (start * w / 8) ((start + count) * w / 8 + min 1 ((start + count) * w % 8))
groups_of w k start count pixels blocks h = by_width (λ w. 0 < count → k * block_pixels w ≤ start → start + count ≤ (k + 1) * block_pixels w → start + count ≤ pixels → pixels * w ≤ 2880 * blocks
    → Groups w k start count blocks (start * w / 8) ((start + count) * w / 8 + min 1 ((start + count) * w % 8)))
    (λ s a b c d. record { low = omega (arith, a); order = omega (arith, s); high = omega (arith, b); block = omega (arith, s, a, c, d); front = omega arith; back = omega arith; first = omega (arith, a); last = omega (arith, b) })
    (λ s a b c d. record { low = omega (arith, a); order = omega (arith, s); high = omega (arith, b); block = omega (arith, s, a, c, d); front = omega arith; back = omega arith; first = omega (arith, a); last = omega (arith, b) })
    (λ s a b c d. record { low = omega (arith, a); order = omega (arith, s); high = omega (arith, b); block = omega (arith, s, a, c, d); front = omega arith; back = omega arith; first = omega (arith, a); last = omega (arith, b) })
    (λ s a b c d. record { low = omega (arith, a); order = omega (arith, s); high = omega (arith, b); block = omega (arith, s, a, c, d); front = omega arith; back = omega arith; first = omega (arith, a); last = omega (arith, b) })
    w h

-- by the layout
pub part_groups : (layout : Layout) (xs : List ℕ) (k start count to : ℕ) → IsLayout layout xs → IsWidth layout.width → 0 < count
    → k * block_pixels layout.width ≤ start → start + count ≤ (k + 1) * block_pixels layout.width → start + count ≤ layout.pixels
    → to ≡ (start + count) * layout.width / 8 + min 1 ((start + count) * layout.width % 8) → Groups layout.width k start count (block_count xs) (start * layout.width / 8) to
part_groups layout xs k start count to h w some low high within e = subst (Groups layout.width k start count (block_count xs) (start * layout.width / 8)) (sym e)
    (groups_of layout.width k start count layout.pixels (block_count xs) w some low high within (omega (arith, h.room, h.used, h.whole)))

-- what is kept once one block changed, and its leaf was made anew
pub kept_after : (layout : Layout) (k n last place : ℕ) (old new : List ℕ) (nodes nodes' : List (Both PixelSummary WordSummary)) (leaf : Both PixelSummary WordSummary)
    → IsWidth layout.width → IsKeptBut layout old n last nodes → length new ≡ length old → ((j : ℕ) → (j < 2880 * k) ⊎ (2880 * k + 2880 ≤ j) → slice_index new j ≡ slice_index old j)
    → place ≡ n + k → IsBlockTreeBut n place nodes' → drop n nodes' ≡ set (drop n nodes) k leaf → k < block_count old → leaf ≡ leaf_of layout new k → IsKeptBut layout new n place nodes'
kept_after layout k n last place old new nodes nodes' leaf w h long byte at t e room made =
    let blocks : block_count new ≡ block_count old = ap (λ m. m / 2880) long in
    let wide : k < length (drop n nodes) = omega (arith, length-drop n nodes, h.tree.long, h.within, room) in
    let other : (j : ℕ) → j ≢ k → get_or (drop n nodes') j leaf_unit ≡ get_or (drop n nodes) j leaf_unit
    = λ j ne. ap (λ xs. get_or xs j leaf_unit) e ∙ get_or-set_other (drop n nodes) k j leaf leaf_unit ne in
    record {
      fits = layout_stays layout old new h.fits long;
      within = omega (arith, blocks, h.within);
      leaf = inr (omega (arith, at));
      tree = t;
      right = λ j b. elim (cases_eq j k) [
        | inl same ↦
            ap (λ xs. get_or xs j leaf_unit) e ∙ ap (λ i. get_or (set (drop n nodes) k leaf) i leaf_unit) same ∙ get_or-set_same (drop n nodes) k leaf leaf_unit wide ∙ made
            ∙ ap (leaf_of layout new) (sym same)
        | inr ne ↦
            other j ne ∙ h.right j (omega (arith, b, blocks))
            ∙ sym (leaf-same layout j old new w long (λ i x y. byte i (elim (cases_lt j k) [ inl lt ↦ inl (omega (arith, y, lt)) | inr ge ↦ inr (omega (arith, x, ge, ne)) ])))
      ];
      units = λ j b. let ne : j ≢ k = omega (arith, b, blocks, room) in other j ne ∙ h.units j (omega (arith, b, blocks));
    }

-- what is kept of a tree whose nodes are all joined
pub kept_open : (layout : Layout) (bytes : List ℕ) (n used : ℕ) (nodes leaves : List (Both PixelSummary WordSummary)) → 1 ≤ n → used ≤ n → IsBlockTree n nodes
    → ((k : ℕ) → used ≤ k → k < n → get_or nodes (n + k) leaf_unit ≡ leaf_unit) → take used (drop n nodes) ≡ leaves → IsKept layout bytes leaves → IsKeptBut layout bytes n 1 nodes
kept_open layout bytes n used nodes leaves some room t units e h =
    let many = leaves_used n used nodes leaves t.long room e in
    record {
      fits = h.fits;
      within = omega (arith, h.whole, many, room);
      leaf = inl refl;
      tree = tree_begun n nodes some t;
      right = λ k b. sym (get_or-take used (drop n nodes) k leaf_unit (omega (arith, b, h.whole, many))) ∙ ap (λ ls. get_or ls k leaf_unit) e ∙ h.right k (omega (arith, b, h.whole));
      units = λ k b. elim (cases_lt k n) [
        | inl lt ↦ get_or-drop n nodes k leaf_unit ∙ units k (omega (arith, b, h.whole, many)) lt
        | inr ge ↦ get_or_past (drop n nodes) k leaf_unit (omega (arith, length-drop n nodes, t.long, ge))
      ];
    }

-- the last path is joined
pub kept_done : (layout : Layout) (bytes : List ℕ) (n last : ℕ) (nodes nodes' : List (Both PixelSummary WordSummary)) → IsKeptBut layout bytes n last nodes
    → IsBlockTreeBut n 1 nodes' → drop n nodes' ≡ drop n nodes → IsKeptBut layout bytes n 1 nodes'
kept_done layout bytes n last nodes nodes' h t e = record {
  fits = h.fits;
  within = h.within;
  leaf = inl refl;
  tree = t;
  right = λ k b. ap (λ ls. get_or ls k leaf_unit) e ∙ h.right k b;
  units = λ k b. ap (λ ls. get_or ls k leaf_unit) e ∙ h.units k b;
}

-- and its first leaves are those of the bytes
pub kept_closed : (layout : Layout) (bytes : List ℕ) (n used : ℕ) (nodes : List (Both PixelSummary WordSummary)) → used ≡ block_count bytes
    → IsKeptBut layout bytes n 1 nodes → IsKept layout bytes (take used (drop n nodes))
kept_closed layout bytes n used nodes e h =
    let many : length (take used (drop n nodes)) ≡ used = omega (arith, length-take used (drop n nodes), length-drop n nodes, h.tree.long, h.within, e) in
    record {
      fits = h.fits;
      whole = omega (arith, many, e, h.fits.whole);
      right = λ k b. get_or-take used (drop n nodes) k leaf_unit (omega (arith, b, many)) ∙ h.right k (omega (arith, b, many, e));
    }

-- ---- a row in two runs

-- a row is written once both of its runs are
pub row_joined : (w start count here next rest rank : ℕ) (number : ℕ → ℤ) (old mid new : List ℕ) → here ≤ count → start + here ≡ next → rest ≡ count - here → RowWritten w start here (λ x. number (rank + x)) old mid
    → RowWritten w next rest (λ x. number (rank + here + x)) mid new → RowWritten w start count (λ x. number (rank + x)) old new
row_joined w start count here next rest rank number old mid new few at more f g = record {
  long = g.long ∙ f.long;
  inside = λ y b. elim (cases_lt y here) [
    | inl lt ↦ pixel_away w next rest (start + y) mid new g.outside (inl (omega (arith, lt, at))) ∙ f.inside y lt
    | inr ge ↦
        let there : next + (y - here) ≡ start + y = omega (arith, ge, at) in
        let own : rank + here + (y - here) ≡ rank + y = omega (arith, ge) in
        ap (pixel w new) (sym there) ∙ g.inside (y - here) (omega (arith, b, ge, more)) ∙ ap number own
  ];
  outside = λ j away. elim away [
    | inl p ↦ let up = mul-le-mul_right w (let wide : start ≤ next = omega (arith, at) in wide) in g.outside j (inl (omega (arith, p, up))) ∙ f.outside j (inl p)
    | inr p ↦
        let all : start + count ≡ next + rest = omega (arith, few, at, more) in
        let far : (next + rest) * w ≤ j = subst (λ i. i * w ≤ j) all p in
        let up = mul-le-mul_right w (let wide : start + here ≤ next + rest = omega (arith, at) in wide) in
        g.outside j (inr far) ∙ f.outside j (inr (omega (arith, far, up)))
  ];
}

-- with a value for each of some pixels there is one for each of fewer
has_less : (paint : LentPaint) (m n : ℕ) → n ≤ m → HasValues paint m → HasValues paint n
has_less (Fill value) m n l h = tt
has_less (Write values) m n l h = omega (arith, l, h)

-- what can be painted can be painted in part
pub can_paint : (w : ℕ) (it : Painting) (rank count a n : ℕ) → CanPaint w it rank count → a + n ≤ count → CanPaint w it (rank + a) n
can_paint w it rank count a n h room = record {
  ranks = omega (arith, h.ranks, room);
  values = has_less it.paint.now (rank + count) (rank + a + n) (omega (arith, room)) h.values;
  storable = λ x b. let e : rank + (a + x) ≡ rank + a + x = omega arith in subst (λ i. IsStorable w (number_of it i)) e (h.storable (a + x) (omega (arith, b, room)));
}

-- and its first pixels by themselves
pub can_paint_first : (w : ℕ) (it : Painting) (rank count n : ℕ) → CanPaint w it rank count → n ≤ count → CanPaint w it rank n
can_paint_first w it rank count n h room = let e : rank + 0 ≡ rank = omega arith in subst (λ r. CanPaint w it r n) e (can_paint w it rank count 0 n h (omega (arith, room)))

-- a row of two blocks, so much of which lies in the first
pub record InTwo (per p start count here : ℕ) : Type 0 where
  pub less : here < count
  pub cut : start + here ≡ (start / p + 1) * p
  pub blocks : (start + count - 1) / per + 1 - start / per ≡ 2

-- a row of one block
pub record InOne (per start count here : ℕ) : Type 0 where
  pub all : here ≡ count
  pub blocks : (start + count - 1) / per + 1 - start / per ≡ 1

-- a row that is no longer than a block lies in one or two
pub row_blocks : (w p start count here : ℕ) → IsWidth w → p ≡ block_pixels w → 0 < count → count ≤ block_pixels w → here ≡ min count ((start / p + 1) * p - start)
    → InOne (block_pixels w) start count here ⊎ InTwo (block_pixels w) p start count here
row_blocks w p start count here h e any short first =
    let per : ℕ = block_pixels w in
    let some = block_pixels_some w h in
    let k : ℕ = start / per in
    let low : k * per ≤ start = div-mul-le_self start per in
    let high : start < (k + 1) * per = (div-lt_iff_lt-mul some).0 (omega arith) in
    let end : (start / p + 1) * p ≡ (k + 1) * per = ap (λ q. (start / q + 1) * q) e in
    elim (cases_lt here count) [
      | inl lt ↦
          let last : (start + count - 1) / per ≡ k + 1 = div-eq_of_lt-le per (omega (arith, first, end, lt)) (omega (arith, high, low, short, any)) in
          inr (record { less = lt; cut = omega (arith, first, end, lt, high); blocks = omega (arith, last) })
      | inr ge ↦
          let last : (start + count - 1) / per ≡ k = div-eq_of_lt-le per (omega (arith, low, any)) (omega (arith, first, end, ge, any)) in
          inl (record { all = omega (arith, first, ge); blocks = omega (arith, last) })
    ]
