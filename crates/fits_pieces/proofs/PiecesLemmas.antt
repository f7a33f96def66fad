-- The pieces of a data unit, and what is kept of all of them.
use Rattle.std.proofs.Common.{◌≡◌, ◌≢◌, ◌≤◌, ◌<◌, ◌+◌, ◌-◌, ◌*◌, ◌/◌, ◌^◌, ℕ, zero, suc, Bool, List, [], false, Option, None, Some, length, set, slice_index, get_or, min, take, drop, refl, arith, sym, ◌∙◌, ap, subst, inl, inr, ◌⊎◌}
use Rattle.std.specs.Prelude.{IfSome, is_some, map, replicate}
use Rattle.std.proofs.lemmas.Bool.{cases_eq, cases_lt}
use Rattle.std.proofs.lemmas.List.{drop_all, drop-drop, take_all, get_or_past, get_or-map, length-map, length-drop, length-take, get_or-drop, get_or-take, get_or-set_same, get_or-set_other, length-replicate, length-set, map-set}
use Rattle.std.specs.List.{sum_by}
use Rattle.std.proofs.lemmas.List.Sums.{sum_by-set}
use Rattle.fits_sum.specs.Words.{word_total}
use Rattle.fits_sum.proofs.WordLemmas.{word_total-le}
use Rattle.fits_pixels.specs.declared.pixel_summary.PixelSummary.{PixelSummary}
use Rattle.fits_pixels.specs.declared.word_summary.WordSummary.{WordSummary}
use Rattle.fits_pixels.specs.declared.both.Both.{Both}
use Rattle.fits_pixels.specs.declared.layout.Layout.{Layout}
use Rattle.fits_pixels.specs.Block.{held}
use Rattle.fits_pixels.specs.Layout.{IsLayout, block_count}
use Rattle.fits_pixels.specs.Pixels.{pixels, IsWidth}
use Rattle.fits_pixels.specs.Statistics.{statistics}
use Rattle.fits_pixels.specs.Summary.{all_joined, pixels_joined, words_joined, halves_joined}
use Rattle.fits_pixels.proofs.StatisticsLemmas.{pixels_fit}
use Rattle.fits_pixels.proofs.ValueLemmas.{statistics_small, Small}
use Rattle.fits_pixels.proofs.LayoutLemmas.{layout_small}
use Rattle.fits_pixels.proofs.PixelLemmas.{by_width, length-pixels, pixels-part}
use Rattle.fits_plane.proofs.PlaneLemmas.{layout_stays}
use Rattle.fits_plane.specs.Leaves.{leaf_unit}
use Rattle.fits_pieces.specs.Blocks.{IsFresh, PieceState}
use Rattle.fits_pieces.specs.Piece.{piece_layout, piece_leaf, piece_of, piece_pixels, piece_size}
use Rattle.fits_pieces.specs.Pieces.{bytes_of, bytes_at, bytes_with, joins_of, reads_of, scans_of, unit_of, ArePieces, IsCut, IsPiece, LoadsPiece, PutsPiece}
use Rattle.fits_pieces.proofs.PieceLemmas.{length-parts, parts, parts-same, part-parts, small-parts}
use Rattle.fits_pieces.proofs.RootLemmas.{pixels_from, words_from}

-- what is kept of a piece
abbrev Leaf : Type 0
Leaf = Both PixelSummary WordSummary

-- ---- one piece

-- the last piece has what is behind a place in it
pub last_rest : (xs : List ℕ) (used j : ℕ) → length xs ≤ 46080 * (j + 1) → 46080 * j ≤ used → drop (used - 46080 * j) (piece_of xs j) ≡ drop used xs
last_rest xs used j last behind =
    let all : piece_of xs j ≡ drop (46080 * j) xs = take_all 46080 (drop (46080 * j) xs) (omega (arith, length-drop (46080 * j) xs, last)) in
    let sum : 46080 * j + (used - 46080 * j) ≡ used = omega (arith, behind) in
    ap (drop (used - 46080 * j)) all ∙ drop-drop (used - 46080 * j) (46080 * j) xs ∙ ap (λ n. drop n xs) sum

-- behind the last piece there is none
piece_past : (xs : List ℕ) (j : ℕ) → length xs ≤ 46080 * j → piece_of xs j ≡ take 46080 []
piece_past xs j h = ap (take 46080) (drop_all (46080 * j) xs h)

-- a part of bytes is bytes
small-piece : (xs : List ℕ) (j : ℕ) → ((k : ℕ) → slice_index xs k < 256) → (k : ℕ) → slice_index (piece_of xs j) k < 256
small-piece xs j h k = elim (cases_lt k 46080) [
  | inl near ↦ subst (λ b. b < 256) (sym (get_or-take 46080 (drop (46080 * j) xs) k 0 near ∙ get_or-drop (46080 * j) xs k 0)) (h (46080 * j + k))
  | inr far ↦ subst (λ b. b < 256) (sym (get_or_past (piece_of xs j) k 0 (omega (arith, length-take 46080 (drop (46080 * j) xs), far)))) (omega arith)
]

-- how long a piece is, in memory or not
size_of : (layout : Layout) (passed : List ℕ) (j : ℕ) (it : Option PieceState) → IfSome it (IsPiece layout (length passed) j) → length (bytes_of it (piece_of passed j)) ≡ piece_size (length passed) j
size_of layout passed j None h = omega (arith, length-take 46080 (drop (46080 * j) passed), length-drop (46080 * j) passed)
size_of layout passed j (Some it) h = h.size

-- and its bytes are bytes
small_of : (layout : Layout) (passed : List ℕ) (j : ℕ) (it : Option PieceState) → ((k : ℕ) → slice_index passed k < 256) → IfSome it (IsPiece layout (length passed) j) → (k : ℕ) → slice_index (bytes_of it (piece_of passed j)) k < 256
small_of layout passed j None small h = small-piece passed j small
small_of layout passed j (Some it) small h = h.small

-- the pixels have room in the pieces
pub pixels_room : (w n pieces : ℕ) → IsWidth w → n * w ≤ 46080 * pieces → n ≤ pieces * piece_pixels w
pixels_room w n pieces h = by_width (λ w. n * w ≤ 46080 * pieces → n ≤ pieces * piece_pixels w) (λ r. omega (arith, r)) (λ r. omega (arith, r)) (λ r. omega (arith, r)) (λ r. omega (arith, r)) w h

-- those of a piece have room in it
held_room : (w n j : ℕ) → IsWidth w → held (piece_pixels w) n j * w ≤ 46080
held_room w n j h = by_width (λ w. held (piece_pixels w) n j * w ≤ 46080) (omega arith) (omega arith) (omega arith) (omega arith) w h

-- the pixels of a piece are those of the unit there
pub pixels_there : (w n j : ℕ) (xs : List ℕ) → (w ≡ 0) ⊎ IsWidth w → (w ≡ 0 → n ≡ 0)
    → pixels w (piece_of xs j) 0 (held (piece_pixels w) n j) ≡ pixels w xs (j * piece_pixels w) (held (piece_pixels w) n j)
pixels_there w n j xs h none = elim h [
  | inl z ↦
      let few : held (piece_pixels w) n j ≡ 0 = omega (arith, none z) in
      ap (pixels w (piece_of xs j) 0) few ∙ ap (pixels w xs (j * piece_pixels w)) (sym few)
  | inr width ↦ pixels-part w (j * piece_pixels w) 46080 (held (piece_pixels w) n j) (46080 * j) xs (start width) (held_room w n j width)
]
  where
    start : IsWidth w → 46080 * j ≡ j * piece_pixels w * w
    start width = by_width (λ w. 46080 * j ≡ j * piece_pixels w * w) (omega arith) (omega arith) (omega arith) (omega arith) w width

-- the bytes of a piece's pixels stand before the fill
held_used : (w n used j : ℕ) → IsWidth w → n * w ≤ used → held (piece_pixels w) n j * w ≤ min 46080 (used - 46080 * j)
held_used w n used j h = by_width (λ w. n * w ≤ used → held (piece_pixels w) n j * w ≤ min 46080 (used - 46080 * j)) (λ r. omega (arith, r)) (λ r. omega (arith, r)) (λ r. omega (arith, r)) (λ r. omega (arith, r)) w h

-- the layout of a piece fits bytes that are as many as it has
pub piece_fits : (layout : Layout) (xs ys : List ℕ) (j : ℕ) → IsLayout layout xs → length ys ≡ piece_size (length xs) j → IsLayout (piece_layout layout j) ys
piece_fits layout xs ys j h long =
    let e : IsLayout (piece_layout layout j) ys = record {
      width = h.width;
      no_pixels = λ z. omega (arith, h.no_pixels z);
      room = elim h.width [
        | inl z ↦
            let few : held (piece_pixels layout.width) layout.pixels j ≡ 0 = omega (arith, h.no_pixels z) in
            subst (λ m. m * layout.width ≤ min 46080 (layout.used - 46080 * j)) (sym few) (omega arith)
        | inr w ↦ held_used layout.width layout.pixels layout.used j w h.room
      ];
      used = omega (arith, long, h.used);
      whole = omega (arith, long, h.whole);
      limit = omega (arith, long);
    } in
    e

-- ---- all of them

module _ (layout : Layout) (passed : List ℕ) (pieces : List (Option PieceState)) (v : IsCut layout passed pieces) where
  -- how long each is
  size_at : (j : ℕ) → length (bytes_at pieces passed j) ≡ min 46080 (length passed - 46080 * j)
  size_at j = size_of layout passed j (get_or pieces j None) (v.held j)

  -- the unit is as long as what passed by
  pub length-with : length (bytes_with pieces passed) ≡ length passed
  length-with = omega (arith, length-parts 46080 (length passed) (bytes_at pieces passed) 0 (length pieces) size_at, v.count)

  -- its piece is the one that is held, or passed by
  pub piece_of-with : (j : ℕ) → j < length pieces → piece_of (bytes_with pieces passed) j ≡ bytes_at pieces passed j
  piece_of-with j b = let here : 0 + j ≡ j = omega arith in part-parts 46080 (length passed) (bytes_at pieces passed) 0 (length pieces) j size_at b ∙ ap (bytes_at pieces passed) here

  -- its bytes are bytes
  pub small-with : (k : ℕ) → slice_index (bytes_with pieces passed) k < 256
  small-with = small-parts (bytes_at pieces passed) 0 (length pieces) (λ j. small_of layout passed j (get_or pieces j None) v.small (v.held j))

  -- the layout fits it
  pub fits-with : IsLayout layout (bytes_with pieces passed)
  fits-with = layout_stays layout passed (bytes_with pieces passed) v.fits length-with

module _ (layout : Layout) (passed : List ℕ) (len : ℕ) (pieces : List (Option PieceState)) (leaves : List Leaf) (v : ArePieces layout passed len pieces leaves) where
  -- the statistics of its pixels are those of all leaves
  pub root_statistics : (all_joined leaf_unit (halves_joined pixels_joined words_joined) leaves).first ≡ statistics layout.blank (pixels layout.width (bytes_with pieces passed) 0 layout.pixels)
  root_statistics =
      let w : ℕ = layout.width in
      let n : ℕ = layout.pixels in
      let per : ℕ = piece_pixels w in
      let xs : List ℕ = bytes_with pieces passed in
      let small : n < 2 ^ 62 = omega (arith, layout_small layout xs (fits-with layout passed pieces v.cut), (fits-with layout passed pieces v.cut).limit) in
      let from = pixels_from w layout.blank n per xs v.cut.fits.width v.cut.fits.no_pixels (small-with layout passed pieces v.cut) small leaves 0 (λ k l.
      let here : 0 + k ≡ k = omega arith in
      ap (λ z. z.first) (v.right k l)
      ∙ ap (λ ys. statistics layout.blank (pixels w ys 0 (held per n k))) (sym ((piece_of-with layout passed pieces v.cut) k (omega (arith, l, v.whole, v.cut.count))))
      ∙ ap (statistics layout.blank) (pixels_there w n k xs v.cut.fits.width v.cut.fits.no_pixels)
      ∙ ap (λ i. statistics layout.blank (pixels w xs (i * per) (held per n i))) (sym here)) in
      let start : 0 * per ≡ 0 = omega arith in
      let room : n ≤ length leaves * per = elim v.cut.fits.width [
        | inl z ↦ omega (arith, v.cut.fits.no_pixels z)
        | inr width ↦ pixels_room w n (length leaves) width (omega (arith, v.cut.fits.room, v.cut.fits.used, v.whole))
      ] in
      let many : min (length leaves * per) (n - 0 * per) ≡ n = omega (arith, room) in
      from ∙ ap (λ m. statistics layout.blank (pixels w xs (0 * per) m)) many ∙ ap (λ a. statistics layout.blank (pixels w xs a n)) start

  -- they are small enough for an offset
  pub stored_small : Small layout.blank (pixels layout.width (bytes_with pieces passed) 0 layout.pixels)
  stored_small =
      let xs : List ℕ = bytes_with pieces passed in
      let h = fits-with layout passed pieces v.cut in
      let fit = pixels_fit layout.width xs 0 layout.pixels h.width h.no_pixels (small-with layout passed pieces v.cut) in
      let few : length (pixels layout.width xs 0 layout.pixels) ≤ 2 ^ 62 = omega (arith, length-pixels layout.width 0 layout.pixels xs, layout_small layout xs h, h.limit) in
      statistics_small layout.blank (pixels layout.width xs 0 layout.pixels) fit few

  -- the total of its words is that of all leaves
  pub root_total : (all_joined leaf_unit (halves_joined pixels_joined words_joined) leaves).second.total ≡ word_total (bytes_with pieces passed)
  root_total =
      let xs : List ℕ = bytes_with pieces passed in
      let most = word_total-le (length xs / 4) xs (omega arith) (λ i l. (small-with layout passed pieces v.cut) i) in
      let start : 46080 * 0 ≡ 0 = omega arith in
      let whole : word_total (drop (46080 * 0) xs) ≡ word_total xs = ap (λ i. word_total (drop i xs)) start in
      words_from 11520 xs leaves 0 (λ k l.
      let here : 0 + k ≡ k = omega arith in
      ap (λ z. z.second.total) (v.right k l) ∙ ap word_total (sym ((piece_of-with layout passed pieces v.cut) k (omega (arith, l, v.whole, v.cut.count))))
      ∙ ap (λ i. word_total (piece_of xs i)) (sym here)) (omega (arith, (length-with layout passed pieces v.cut), v.whole)) (omega (arith, whole, most, (fits-with layout passed pieces v.cut).limit)) ∙ whole

-- ---- a piece that comes into memory

-- the piece at a place is the one that was put there, and every other is as before
at_put : (pieces : List (Option PieceState)) (passed : List ℕ) (j : ℕ) (it : PieceState) → j < length pieces → bytes_at (set pieces j (Some it)) passed j ≡ it.bytes
at_put pieces passed j it b = ap (λ o. bytes_of o (piece_of passed j)) (get_or-set_same pieces j (Some it) None b)

-- every other piece is as before
at_other : (pieces : List (Option PieceState)) (passed : List ℕ) (i j : ℕ) (it : PieceState) → i ≢ j → bytes_at (set pieces j (Some it)) passed i ≡ bytes_at pieces passed i
at_other pieces passed i j it ne = ap (λ o. bytes_of o (piece_of passed i)) (get_or-set_other pieces j i (Some it) None ne)

-- the unit is cut so still
pub cut_put : (layout : Layout) (passed : List ℕ) (j : ℕ) (pieces : List (Option PieceState)) (it : PieceState) → IsCut layout passed pieces → j < length pieces → IsPiece layout (length passed) j it → IsCut layout passed (set pieces j (Some it))
cut_put layout passed j pieces it v b p = record {
  fits = v.fits;
  small = v.small;
  count = length-set pieces j (Some it) ∙ v.count;
  held = λ i. elim (cases_eq i j) [
    | inl same ↦ subst (λ i. IfSome (get_or (set pieces j (Some it)) i None) (IsPiece layout (length passed) i)) (sym same) (subst (λ o. IfSome o (IsPiece layout (length passed) j)) (sym (get_or-set_same pieces j (Some it) None b)) p)
    | inr ne ↦ subst (λ o. IfSome o (IsPiece layout (length passed) i)) (sym (get_or-set_other pieces j i (Some it) None ne)) (v.held i)
  ];
}

-- and this is kept of the pieces still, where the leaf at the place is that of the new one
pub pieces_put : (layout : Layout) (passed : List ℕ) (len j : ℕ) (pieces : List (Option PieceState)) (leaves : List Leaf) (it : PieceState) → ArePieces layout passed len pieces leaves
    → j < length pieces → IsPiece layout (length passed) j it → IsFresh it.stale → get_or leaves j leaf_unit ≡ piece_leaf layout j it.bytes → ArePieces layout passed len (set pieces j (Some it)) leaves
pieces_put layout passed len j pieces leaves it v b p f e = record {
  cut = cut_put layout passed j pieces it v.cut b p;
  fresh = λ i. elim (cases_eq i j) [
    | inl same ↦ subst (λ i. IfSome (get_or (set pieces j (Some it)) i None) (λ it. IsFresh it.stale)) (sym same) (subst (λ o. IfSome o (λ it. IsFresh it.stale)) (sym (get_or-set_same pieces j (Some it) None b)) f)
    | inr ne ↦ subst (λ o. IfSome o (λ it. IsFresh it.stale)) (sym (get_or-set_other pieces j i (Some it) None ne)) (v.fresh i)
  ];
  len_is = v.len_is;
  whole = v.whole;
  right = λ i l. elim (cases_eq i j) [
    | inl same ↦ subst (λ i. get_or leaves i leaf_unit ≡ piece_leaf layout i (bytes_at (set pieces j (Some it)) passed i)) (sym same) (e ∙ ap (piece_leaf layout j) (sym (at_put pieces passed j it b)))
    | inr ne ↦ v.right i l ∙ ap (piece_leaf layout i) (sym (at_other pieces passed i j it ne))
  ];
}

-- the unit's piece is the new one, and every other is as before
pub puts_piece : (layout : Layout) (passed : List ℕ) (j : ℕ) (pieces : List (Option PieceState)) (it : PieceState) → IsCut layout passed pieces → IsCut layout passed (set pieces j (Some it)) → j < length pieces
    → PutsPiece j it.bytes (bytes_with pieces passed) (bytes_with (set pieces j (Some it)) passed)
puts_piece layout passed j pieces it v w b =
    let put : List (Option PieceState) = set pieces j (Some it) in
    let many : length put ≡ length pieces = length-set pieces j (Some it) in
    let old = length-with layout passed pieces v in
    let new = length-with layout passed put w in
    record {
      long = omega (arith, old, new);
      here = piece_of-with layout passed put w j (omega (arith, b, many)) ∙ at_put pieces passed j it b;
      others = λ i ne. elim (cases_lt i (length pieces)) [
        | inl lt ↦ piece_of-with layout passed put w i (omega (arith, lt, many)) ∙ at_other pieces passed i j it ne ∙ sym (piece_of-with layout passed pieces v i lt)
        | inr ge ↦ piece_past (bytes_with put passed) i (omega (arith, new, ge, v.count)) ∙ sym (piece_past (bytes_with pieces passed) i (omega (arith, old, ge, v.count)))
      ];
    }

-- the unit is the same where the piece is
pub puts_same : (layout : Layout) (passed : List ℕ) (j : ℕ) (pieces : List (Option PieceState)) (it : PieceState) → IsCut layout passed pieces → j < length pieces → it.bytes ≡ piece_of (bytes_with pieces passed) j
    → bytes_with (set pieces j (Some it)) passed ≡ bytes_with pieces passed
puts_same layout passed j pieces it v b e =
    let put : List (Option PieceState) = set pieces j (Some it) in
    parts-same (bytes_at put passed) (bytes_at pieces passed) 0 (length put) (λ i. elim (cases_eq i j) [
      | inl same ↦ subst (λ i. bytes_at put passed i ≡ bytes_at pieces passed i) (sym same) (at_put pieces passed j it b ∙ e ∙ piece_of-with layout passed pieces v j b)
      | inr ne ↦ at_other pieces passed i j it ne
    ]) ∙ ap (parts (bytes_at pieces passed) 0) (length-set pieces j (Some it))

-- ---- which pieces are in memory

-- one that isn't
pub away_at : (pieces : List (Option PieceState)) (j : ℕ) → j < length (map is_some pieces) → get_or (map is_some pieces) j false ≡ false → get_or pieces j None ≡ None
away_at pieces j b e = none_if (get_or pieces j None) (sym (get_or-map is_some pieces j None false (omega (arith, b, length-map pieces is_some))) ∙ e)
  where
    none_if : (o : Option PieceState) → is_some o ≡ false → o ≡ None
    none_if None e = refl
    none_if (Some it) e = absurd (let z = e in (cc))

-- it is as it passed by
pub away_piece : (layout : Layout) (passed : List ℕ) (pieces : List (Option PieceState)) (j : ℕ) → IsCut layout passed pieces → j < length (map is_some pieces) → get_or (map is_some pieces) j false ≡ false
    → piece_of (bytes_with pieces passed) j ≡ piece_of passed j
away_piece layout passed pieces j v b e =
    piece_of-with layout passed pieces v j (omega (arith, b, length-map pieces is_some)) ∙ ap (λ o. bytes_of o (piece_of passed j)) (away_at pieces j b e)

-- one that wasn't comes into memory
pub piece_loaded : (layout : Layout) (passed : List ℕ) (len j scans joins : ℕ) (pieces : List (Option PieceState)) (leaves : List Leaf) (it : PieceState) → ArePieces layout passed len pieces leaves
    → j < length (map is_some pieces) → get_or (map is_some pieces) j false ≡ false → IsPiece layout (length passed) j it → IsFresh it.stale → get_or leaves j leaf_unit ≡ piece_leaf layout j it.bytes
    → it.scans ≡ block_count it.bytes → it.reads ≡ 0 → ((d : ℕ) → block_count it.bytes ≤ 2 ^ d → it.joins ≤ 2 ^ d)
    → LoadsPiece j it.bytes (unit_of layout passed pieces scans joins) (unit_of layout passed (set pieces j (Some it)) scans joins)
piece_loaded layout passed len j scans joins pieces leaves it v room away p f e scanned read joined =
    let put : List (Option PieceState) = set pieces j (Some it) in
    let b : j < length pieces = omega (arith, room, length-map pieces is_some) in
    let none : get_or pieces j None ≡ None = away_at pieces j room away in
    let w = pieces_put layout passed len j pieces leaves it v b p f e in
    let more : (f : Option PieceState → ℕ) → f None ≡ 0 → sum_by f put ≡ sum_by f pieces + f (Some it) = λ f z. omega (arith, sum_by-set f pieces j (Some it) None b, ap f none, z) in
    let joins_more = more joins_of refl in
    record {
      held = map-set is_some pieces j (Some it);
      passed = refl;
      bytes = puts_piece layout passed j pieces it v.cut w.cut b;
      same = puts_same layout passed j pieces it v.cut b;
      layout = refl;
      total = sym (root_total layout passed len put leaves w) ∙ root_total layout passed len pieces leaves v;
      stats = sym (root_statistics layout passed len put leaves w) ∙ root_statistics layout passed len pieces leaves v;
      reads = omega (arith, more reads_of refl, read);
      scans = omega (arith, more scans_of refl, scanned);
      more_joins = omega (arith, joins_more);
      joins = λ d h. omega (arith, joins_more, joined d h);
    }

-- ---- bytes that are to be a piece

-- marks none of which is set
pub fresh_of : (stale : List Bool) (n : ℕ) → stale ≡ replicate n false → IsFresh stale
fresh_of stale n e = λ k. ap (λ bs. get_or bs k false) e ∙ none_set n k
  where
    none_set : (n k : ℕ) → get_or (replicate n false) k false ≡ false
    none_set zero k = refl
    none_set (suc n) zero = refl
    none_set (suc n) (suc k) = none_set n k

-- they are one where they are as many, read as it is, and bytes
pub is_piece : (layout : Layout) (passed bytes lent : List ℕ) (j : ℕ) (it : PieceState) → it.bytes ≡ bytes → lent ≡ bytes → length bytes ≡ piece_size (length passed) j → it.layout ≡ piece_layout layout j
    → ((k : ℕ) → slice_index lent k < 256) → it.stale ≡ replicate (block_count bytes) false → IsPiece layout (length passed) j it
is_piece layout passed bytes lent j it same told long e small marks = record {
  size = ap length same ∙ long;
  layout_is = e;
  small = λ k. subst (λ xs. slice_index xs k < 256) (told ∙ sym same) (small k);
  blocks = ap length marks ∙ length-replicate (block_count bytes) false ∙ ap block_count (sym same);
}

-- the unit's own piece has the right length and leaf
pub right_piece : (layout : Layout) (passed : List ℕ) (len j : ℕ) (pieces : List (Option PieceState)) (leaves : List Leaf) → ArePieces layout passed len pieces leaves → j < length pieces
    → (bytes : List ℕ) → bytes ≡ piece_of (bytes_with pieces passed) j → (length bytes ≡ piece_size (length passed) j) × (get_or leaves j leaf_unit ≡ piece_leaf layout j bytes)
right_piece layout passed len j pieces leaves v b bytes e =
    let same : bytes ≡ bytes_at pieces passed j = e ∙ piece_of-with layout passed pieces v.cut j b in (
      ap length same ∙ size_at layout passed pieces v.cut j,
      v.right j (omega (arith, b, v.whole, v.cut.count)) ∙ ap (piece_leaf layout j) (sym same),
    )
