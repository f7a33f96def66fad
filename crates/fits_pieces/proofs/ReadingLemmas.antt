-- Pixels that are read from pieces.
use Rattle.std.proofs.Common.{◌≡◌, ◌≤◌, ◌<◌, ◌+◌, ◌-◌, ◌*◌, ◌/◌, ◌%◌, ◌^◌, ℕ, ℤ, Bool, List, [], ◌∷◌, ◌++◌, Option, None, Some, true, false, length, set, slice_index, get_or, min, drop, refl, arith, sym, ◌∙◌, ap, subst, inl, inr}
use Rattle.std.specs.Prelude.{is_some, map, IfSome, ◌+ℤ◌}
use Rattle.std.specs.List.{range_with_len, sum_by}
use Rattle.std.proofs.Math.ListN as listn
use Rattle.std.proofs.Math.Nat.{div-add-mod, mod-lt}
use Rattle.std.proofs.Math.Seq.{map-set_same}
use Rattle.std.proofs.lemmas.Bool.{cases_lt}
use Rattle.std.proofs.lemmas.List.{append_assoc, get_or_past, get_or-drop, get_or-take, length-drop, length-map, length-take, map-append}
use Rattle.std.proofs.lemmas.List.Sums.{sum_by-cons, sum_by-set}
use Rattle.fits_pixels.specs.declared.pixel_summary.PixelSummary.{PixelSummary}
use Rattle.fits_pixels.specs.declared.word_summary.WordSummary.{WordSummary}
use Rattle.fits_pixels.specs.declared.both.Both.{Both}
use Rattle.fits_pixels.specs.declared.layout.Layout.{Layout}
use Rattle.fits_pixels.specs.Layout.{block_count}
use Rattle.fits_pixels.specs.Pixels.{pixel, IsWidth}
use Rattle.fits_pixels.proofs.PixelLemmas.{by_width, pixel-same}
use Rattle.fits_pieces.specs.Blocks.{IsFresh, PieceState}
use Rattle.fits_plane.specs.Rectangle.{place, product, row_count, row_size, value_at, IsRectangle}
use Rattle.fits_plane.proofs.RowLemmas.{in_row, row_of}
use Rattle.fits_plane.proofs.BlockLemmas.{range-append, touched_by}
use Rattle.fits_plane.proofs.ReadLemmas.{map-ranges}
use Rattle.fits_pieces.specs.Piece.{piece_layout, piece_leaf, piece_of, piece_pixels, pieces_in}
use Rattle.fits_pieces.specs.Pieces.{bytes_at, bytes_of, bytes_with, joins_of, reads_of, scans_of, unread, ArePieces, HoldsPixels, IsCut, IsPiece, HoldsRectangle, PiecedState, ReadsPieces, unit_of}
use Rattle.fits_pieces.proofs.PieceLemmas.{parts, parts-same}
use Rattle.fits_pieces.proofs.PiecesLemmas.{last_rest, length-with, piece_of-with}

-- so many pixels more of a plane were read
pub plane_read_more : (old mid new : PieceState) (n m : ℕ) → mid ≡ record old { reads = old.reads + n } → new ≡ record mid { reads = mid.reads + m } → new ≡ record old { reads = old.reads + (n + m) }
plane_read_more old mid new n m before e =
    e ∙ ap (λ (s : PieceState). record s { reads = s.reads + m }) before ∙ ap (λ k. record old { reads = k }) {x = old.reads + n + m} {y = old.reads + (n + m)} (omega arith)

-- ---- a pixel of a piece

-- its bytes lie in the piece
pixel_in : (w j i m : ℕ) → IsWidth w → i < piece_pixels w → m < w → (i * w + m < 46080) × (46080 * j + (i * w + m) ≡ (j * piece_pixels w + i) * w + m)
pixel_in w j i m h = by_width (λ w. i < piece_pixels w → m < w → (i * w + m < 46080) × (46080 * j + (i * w + m) ≡ (j * piece_pixels w + i) * w + m))
    (λ a b. (omega (arith, a, b), omega (arith, a, b))) (λ a b. (omega (arith, a, b), omega (arith, a, b)))
    (λ a b. (omega (arith, a, b), omega (arith, a, b))) (λ a b. (omega (arith, a, b), omega (arith, a, b))) w h

-- it is the unit's pixel there
pub pixel_there : (w j i : ℕ) (xs : List ℕ) → IsWidth w → i < piece_pixels w → pixel w (piece_of xs j) i ≡ pixel w xs (j * piece_pixels w + i)
pixel_there w j i xs h b = pixel-same w i (j * piece_pixels w + i) (piece_of xs j) xs (λ m c.
    let at = pixel_in w j i m h b c in
    get_or-take 46080 (drop (46080 * j) xs) (i * w + m) 0 at.0 ∙ get_or-drop (46080 * j) xs (i * w + m) 0 ∙ ap (λ k. slice_index xs k) at.1)

-- ---- pieces of which pixels were read

-- a piece in memory
pub some_of : (o : Option PieceState) → is_some o ≡ true → (it : PieceState) × (o ≡ Some it)
some_of None e = absurd (let z = e in (cc))
some_of (Some it) e = (it, refl)

-- it is as before, but for how many of its pixels were read
pub record IsAsBefore (now before : PieceState) : Type 0 where
  pub bytes : now.bytes ≡ before.bytes
  pub layout : now.layout ≡ before.layout
  pub scans : now.scans ≡ before.scans
  pub joins : now.joins ≡ before.joins

-- the layout of a piece, or another
layout_of : Layout → Option PieceState → Layout
layout_of layout None = layout
layout_of layout (Some it) = it.layout

-- which blocks of a piece are yet to be scanned
stale_of : Option PieceState → List Bool
stale_of None = []
stale_of (Some it) = it.stale

-- a piece that was in memory before is so now
still : (o old : Option PieceState) (before : PieceState) → unread o ≡ unread old → old ≡ Some before → (it : PieceState) × (o ≡ Some it) × IsAsBefore it before
unfolding layout_of
still None old before e was = absurd (let z = e ∙ ap unread was in (cc))
still (Some it) old before e was = let same = e ∙ ap unread was in (
  it,
  refl,
  record {
    bytes = ap (λ o. bytes_of o []) same;
    layout = ap (layout_of before.layout) same;
    scans = ap scans_of same;
    joins = ap joins_of same;
  },
)

-- the piece at each place is as before
at_same : (old new : List (Option PieceState)) (j : ℕ) → map unread new ≡ map unread old → unread (get_or new j None) ≡ unread (get_or old j None)
at_same old new j e = sym (listn.get_or-map unread new j None) ∙ ap (λ ps. get_or ps j None) e ∙ listn.get_or-map unread old j None

-- there are as many
pub as_many : (old new : List (Option PieceState)) → map unread new ≡ map unread old → length new ≡ length old
as_many old new e = sym (length-map new unread) ∙ ap length e ∙ length-map old unread

-- ---- a run of pixels, cut where pieces end

-- a piece in memory is one of the list
pub index_of : (pieces : List (Option PieceState)) (j : ℕ) (it : PieceState) → get_or pieces j None ≡ Some it → j < length pieces
index_of pieces j it is = elim (cases_lt j (length pieces)) [
  | inl inside ↦ inside
  | inr past ↦ absurd (let none = get_or_past pieces j None past in let z = sym none ∙ is in (cc))
]

-- a piece that is held is in memory, and has the unit's bytes there
pub held_piece : (layout : Layout) (passed : List ℕ) (pieces : List (Option PieceState)) (j : ℕ) → IsCut layout passed pieces → get_or (map is_some pieces) j false ≡ true
    → (it : PieceState) × (get_or pieces j None ≡ Some it) × (it.bytes ≡ piece_of (bytes_with pieces passed) j)
held_piece layout passed pieces j v held =
    let was = some_of (get_or pieces j None) (sym (listn.get_or-map is_some pieces j None) ∙ held) in
    (was.0, was.1, sym (ap (λ o. bytes_of o (piece_of passed j)) was.1) ∙ sym (piece_of-with layout passed pieces v j (index_of pieces j was.0 was.1)))

-- piece j is the last, and what is behind the bytes that are used is in it, and there
pub record IsLast (layout : Layout) (passed : List ℕ) (pieces : List (Option PieceState)) (j : ℕ) : Type 0 where
  pub it : PieceState
  pub is : get_or pieces j None ≡ Some it
  pub index : j < length pieces
  pub begun : 46080 * j ≤ layout.used
  pub room : layout.used - 46080 * j ≤ length it.bytes
  pub rest : drop (layout.used - 46080 * j) it.bytes ≡ drop layout.used (bytes_with pieces passed)

-- so it is where it is in memory and begins before them
pub last_held : (layout : Layout) (passed : List ℕ) (pieces : List (Option PieceState)) (scans joins many j : ℕ) (s : PiecedState) → IsCut layout passed pieces → unit_of layout passed pieces scans joins ≡ s → many ≡ length pieces → j ≡ many - 1
    → get_or s.held (pieces_in (length s.plane.bytes) - 1) false ≡ true → 46080 * (pieces_in (length s.plane.bytes) - 1) ≤ s.plane.layout.used → IsLast layout passed pieces j
last_held layout passed pieces scans joins many j s v view e last held within =
    let xs : List ℕ = bytes_with pieces passed in
    let long = length-with layout passed pieces v in
    let at : pieces_in (length s.plane.bytes) - 1 ≡ j = ap (λ (s : PiecedState). pieces_in (length s.plane.bytes) - 1) (sym view) ∙ omega (arith, long, v.count, e, last) in
    let begun : 46080 * j ≤ layout.used = omega (arith, within, ap (λ i. 46080 * i) at, ap (λ (s : PiecedState). s.plane.layout.used) view) in
    let here : get_or (map is_some pieces) j false ≡ true = ap (λ i. get_or (map is_some pieces) i false) (sym at) ∙ ap (λ (z : PiecedState). get_or z.held (pieces_in (length s.plane.bytes) - 1) false) view ∙ held in
    let p = held_piece layout passed pieces j v here in
    record {
      it = p.0;
      is = p.1;
      index = index_of pieces j p.0 p.1;
      begun = begun;
      room = omega (arith, ap length p.2, length-take 46080 (drop (46080 * j) xs), length-drop (46080 * j) xs, long, v.fits.used, v.count, e, last);
      rest = ap (drop (layout.used - 46080 * j)) p.2 ∙ last_rest xs layout.used j (omega (arith, long, v.count, e, last)) begun;
    }

-- a piece has a pixel
pub piece_pixels_some : (w : ℕ) → IsWidth w → 0 < piece_pixels w
piece_pixels_some w h = by_width (λ w. 0 < piece_pixels w) (omega arith) (omega arith) (omega arith) (omega arith) w h

-- a part of a run has a pixel
pub part_some : (w x count p per here : ℕ) → IsWidth w → x < count → per ≡ piece_pixels w → here ≡ min (count - x) (per - p % per) → 0 < here
part_some w x count p per here h b pe e =
    let some : 0 < per = omega (arith, piece_pixels_some w h, pe) in
    omega (arith, e, b, mod-lt p some)

-- and lies in a piece
pub part_small : (w p per here : ℕ) → IsWidth w → per ≡ piece_pixels w → here ≤ per - p % per → p % per + here < 2 ^ 62
part_small w p per here h pe e =
    let some : 0 < per = omega (arith, piece_pixels_some w h, pe) in
    let few : piece_pixels w ≤ 46080 = by_width (λ w. piece_pixels w ≤ 46080) (omega arith) (omega arith) (omega arith) (omega arith) w h in
    omega (arith, e, mod-lt p some, few, pe)

-- pixels of one piece, which are so many of the unit's from one on
pub record IsPart (layout : Layout) (passed : List ℕ) (old pieces : List (Option PieceState)) (j from here p : ℕ) : Type 0 where
  pub it : PieceState
  pub is : get_or pieces j None ≡ Some it
  pub index : j < length pieces
  pub room : from + here ≤ it.layout.pixels
  pub values : (offset : ℤ) → map (value_at it.layout.width it.bytes offset) (range_with_len from here) ≡ map (value_at layout.width (bytes_with old passed) offset) (range_with_len p here)

-- the next pixels of a run that lie in one piece
pub part_of_run : (layout : Layout) (passed : List ℕ) (old pieces : List (Option PieceState)) (start count x per j from here : ℕ) → IsCut layout passed old → IsWidth layout.width → start + count ≤ layout.pixels
    → HoldsPixels layout.width start count old → x < count → map unread pieces ≡ map unread old → per ≡ piece_pixels layout.width → j ≡ (start + x) / per → from ≡ (start + x) % per → here ≤ count - x → here ≤ per - from
    → IsPart layout passed old pieces j from here (start + x)
part_of_run layout passed old pieces start count x per j from here v h within held b same pe je fe short room =
    let w : ℕ = layout.width in
    let xs : List ℕ = bytes_with old passed in
    let p : ℕ = start + x in
    let j_is : j ≡ p / piece_pixels w = je ∙ ap (λ n. p / n) pe in
    let from_is : from ≡ p % piece_pixels w = fe ∙ ap (λ n. p % n) pe in
    let at : piece_pixels w * j + from ≡ p = ap (λ i. piece_pixels w * i + from) j_is ∙ ap (λ m. piece_pixels w * (p / piece_pixels w) + m) from_is ∙ div-add-mod p (piece_pixels w) in
    let begun : j * piece_pixels w + from ≡ p = omega (arith, at) in
    let some = piece_pixels_some w h in
    let small : from < piece_pixels w = omega (arith, from_is, mod-lt p some) in
    let was = some_of (get_or old j None) (ap (λ i. is_some (get_or old i None)) j_is ∙ held p (omega arith) (omega (arith, b))) in
    let now = still (get_or pieces j None) (get_or old j None) was.0 (at_same old pieces j same) was.1 in
    let it : PieceState = now.0 in
    let piece : IsPiece layout (length passed) j was.0 = subst (λ o. IfSome o (IsPiece layout (length passed) j)) was.1 (v.held j) in
    let inside : j < length old = index_of old j was.0 was.1 in
    let layouts : it.layout ≡ piece_layout layout j = now.2.layout ∙ piece.layout_is in
    let bytes : it.bytes ≡ piece_of xs j = now.2.bytes ∙ sym (ap (λ o. bytes_of o (piece_of passed j)) was.1) ∙ sym (piece_of-with layout passed old v j inside) in
    record {
      it = it;
      is = now.1;
      index = omega (arith, inside, as_many old pieces same);
      room = omega (arith, ap (λ (l : Layout). l.pixels) layouts, begun, short, room, pe, b, within, small);
      values = λ offset.
          ap (λ (l : Layout). map (value_at l.width it.bytes offset) (range_with_len from here)) layouts
          ∙ ap (λ ys. map (value_at w ys offset) (range_with_len from here)) bytes
          ∙ map-ranges (value_at w (piece_of xs j) offset) (value_at w xs offset) from p here (λ k c.
          let near : from + k < piece_pixels w = omega (arith, c, room, pe) in
          let there : j * piece_pixels w + (from + k) ≡ p + k = omega (arith, begun) in
          ap (λ z. z +ℤ offset) (pixel_there w j (from + k) xs h near ∙ ap (pixel w xs) there));
    }

-- ---- how many were read

-- so many of one piece were
pub part_read : (count here j : ℕ) (old mid new : List (Option PieceState)) (it : PieceState) → ReadsPieces count old mid → get_or mid j None ≡ Some it → j < length mid
    → new ≡ set mid j (Some (record it { reads = it.reads + here })) → ReadsPieces (count + here) old new
part_read count here j old mid new it v is b e =
    let read : PieceState = record it { reads = it.reads + here } in
    record {
      same = ap (map unread) e ∙ map-set_same unread mid j (Some read) None (ap unread (sym is)) ∙ v.same;
      reads = omega (arith, ap (sum_by reads_of) e, sum_by-set reads_of mid j (Some read) None b, ap reads_of is, v.reads);
    }

-- ---- a run of values

-- those of one part more
pub values_more : (f : ℕ → ℤ) (start x here : ℕ) (part values now new : List ℤ) → now ≡ values ++ map f (range_with_len start x) → part ≡ map f (range_with_len (start + x) here) → new ≡ now ++ part → new ≡ values ++ map f (range_with_len start (x + here))
values_more f start x here part values now new before is e =
    e ∙ ap (λ ys. now ++ ys) is ∙ ap (λ ys. ys ++ map f (range_with_len (start + x) here)) before ∙ append_assoc values (map f (range_with_len start x)) (map f (range_with_len (start + x) here))
    ∙ ap (λ ys. values ++ ys) (sym (map-append f (range_with_len start x) (range_with_len (start + x) here)) ∙ ap (map f) (sym (range-append start x here)))

-- ---- pieces of which pixels were read are as before

-- a piece in memory is
is_some-unread : (o : Option PieceState) → is_some (unread o) ≡ is_some o
is_some-unread None = refl
is_some-unread (Some it) = refl

-- its bytes are the same
bytes_of-unread : (o : Option PieceState) (passed : List ℕ) → bytes_of (unread o) passed ≡ bytes_of o passed
bytes_of-unread None passed = refl
bytes_of-unread (Some it) passed = refl

-- and what is said of them alone
piece-unread : (layout : Layout) (len j : ℕ) (o old : Option PieceState) → unread o ≡ unread old → IfSome old (IsPiece layout len j) → IfSome o (IsPiece layout len j)
unfolding layout_of stale_of
piece-unread layout len j None old e h = tt
piece-unread layout len j (Some it) None e h = absurd (let z = e in (cc))
piece-unread layout len j (Some it) (Some was) e h =
    let bytes : it.bytes ≡ was.bytes = ap (λ o. bytes_of o []) e in
    record { size = ap length bytes ∙ h.size; layout_is = ap (layout_of was.layout) e ∙ h.layout_is; small = λ k. subst (λ xs. slice_index xs k < 256) (sym bytes) (h.small k); blocks = ap length (ap stale_of e) ∙ h.blocks ∙ ap block_count (sym bytes) }

module _ (layout : Layout) (passed : List ℕ) (old new : List (Option PieceState)) (same : map unread new ≡ map unread old) where
  -- the unit is cut so
  pub cut_read : IsCut layout passed old → IsCut layout passed new
  cut_read v = record {
    fits = v.fits;
    small = v.small;
    count = as_many old new same ∙ v.count;
    held = λ j. piece-unread layout (length passed) j (get_or new j None) (get_or old j None) (at_same old new j same) (v.held j);
  }

  -- each piece has the same bytes
  pub bytes_at-read : (j : ℕ) → bytes_at new passed j ≡ bytes_at old passed j
  bytes_at-read j = sym (bytes_of-unread (get_or new j None) (piece_of passed j)) ∙ ap (λ o. bytes_of o (piece_of passed j)) (at_same old new j same) ∙ bytes_of-unread (get_or old j None) (piece_of passed j)

  -- and so has the unit
  pub bytes_with-read : bytes_with new passed ≡ bytes_with old passed
  bytes_with-read = parts-same (bytes_at new passed) (bytes_at old passed) 0 (length new) bytes_at-read ∙ ap (parts (bytes_at old passed) 0) (as_many old new same)

  -- the same pieces are in memory
  pub some-read : (j : ℕ) → is_some (get_or new j None) ≡ is_some (get_or old j None)
  some-read j = sym (is_some-unread (get_or new j None)) ∙ ap is_some (at_same old new j same) ∙ is_some-unread (get_or old j None)

-- what is counted of pieces, but for their reads
counted-unread : (f : Option PieceState → ℕ) (pieces : List (Option PieceState)) → ((o : Option PieceState) → f (unread o) ≡ f o) → sum_by f (map unread pieces) ≡ sum_by f pieces
counted-unread f [] h = refl
counted-unread f (o ∷ pieces) h = omega (arith, sum_by-cons f (unread o) (map unread pieces), sum_by-cons f o pieces, h o, counted-unread f pieces h)

-- which of them are in memory
held-unread : (pieces : List (Option PieceState)) → map is_some (map unread pieces) ≡ map is_some pieces
held-unread [] = refl
held-unread (o ∷ pieces) = ap (λ b. b ∷ map is_some (map unread pieces)) (is_some-unread o) ∙ ap (λ bs. is_some o ∷ bs) (held-unread pieces)

-- units are alike where their parts are
same_units : (layout : Layout) (passed xs ys : List ℕ) (s s' r r' j j' : ℕ) (h h' : List Bool) → xs ≡ ys → s ≡ s' → r ≡ r' → j ≡ j' → h ≡ h'
    → (let x : PiecedState = record { plane = record { bytes = xs; layout = layout; scans = s; reads = r; joins = j }; passed = passed; held = h } in x)
    ≡ record { plane = record { bytes = ys; layout = layout; scans = s'; reads = r'; joins = j' }; passed = passed; held = h' }
same_units layout passed xs ys s s' r r' j j' h h' p q u v w = cc

-- blocks of a piece are scanned as often
scans_of-unread : (o : Option PieceState) → scans_of (unread o) ≡ scans_of o
scans_of-unread None = refl
scans_of-unread (Some it) = refl

-- nodes are joined as often
joins_of-unread : (o : Option PieceState) → joins_of (unread o) ≡ joins_of o
joins_of-unread None = refl
joins_of-unread (Some it) = refl

-- the unit is as before, but for how many of its pixels were read
pub unit_read : (layout : Layout) (passed : List ℕ) (count scans joins : ℕ) (old new : List (Option PieceState)) → ReadsPieces count old new
    → let before = unit_of layout passed old scans joins in unit_of layout passed new scans joins ≡ record before { plane = record before.plane { reads = before.plane.reads + count } }
unit_read layout passed count scans joins old new v =
    let counted : (f : Option PieceState → ℕ) → ((o : Option PieceState) → f (unread o) ≡ f o) → sum_by f new ≡ sum_by f old = λ f h. sym (counted-unread f new h) ∙ ap (sum_by f) v.same ∙ counted-unread f old h in
    same_units layout passed (bytes_with new passed) (bytes_with old passed) _ _ _ _ _ _ (map is_some new) (map is_some old) (bytes_with-read layout passed old new v.same)
    (ap (λ n. scans + n) (counted scans_of scans_of-unread)) v.reads (ap (λ n. joins + n) (counted joins_of joins_of-unread))
    (sym (held-unread new) ∙ ap (map is_some) v.same ∙ held-unread old)

-- ---- a row of a rectangle

-- its pieces are in memory
pub row_held : (axes lo hi : List ℕ) (layout : Layout) (pieces : List (Option PieceState)) (row first : ℕ) → IsRectangle axes lo hi → product axes ≡ layout.pixels → IsWidth layout.width → row < row_count lo hi
    → first ≡ place axes lo hi (row * row_size lo hi) → HoldsRectangle axes lo hi layout (map is_some pieces) → HoldsPixels layout.width first (row_size lo hi) pieces
row_held axes lo hi layout pieces row first r all h b at held = λ i low high.
    let w = row_of axes lo hi row first r b at in
    let inside = in_row axes lo hi (row_size lo hi) row first i r w low high in
    let touched = touched_by axes lo hi (piece_pixels layout.width) layout.pixels (i / piece_pixels layout.width) i (piece_pixels_some layout.width h) (omega (arith, high, w.room, all)) inside.0 refl in
    sym (listn.get_or-map is_some pieces (i / piece_pixels layout.width) None) ∙ held (i / piece_pixels layout.width) touched

-- one row more is counted
pub rows_counted : (row n side : ℕ) (old mid new : List (Option PieceState)) → n ≡ side → ReadsPieces (row * side) old mid → ReadsPieces n mid new → ReadsPieces ((row + 1) * side) old new
rows_counted row n side old mid new e v w =
    let more : (row + 1) * side ≡ row * side + side = omega arith in
    record { same = w.same ∙ v.same; reads = omega (arith, w.reads, v.reads, e, more) }

-- no block is yet to be scanned, as before
fresh-unread : (o old : Option PieceState) → unread o ≡ unread old → IfSome old (λ it. IsFresh it.stale) → IfSome o (λ it. IsFresh it.stale)
unfolding stale_of
fresh-unread None old e h = tt
fresh-unread (Some it) None e h = absurd (let z = e in (cc))
fresh-unread (Some it) (Some was) e h = subst IsFresh (sym (ap stale_of e)) h

-- what is kept of pieces stands where their pixels were read
pub pieces_read : (layout : Layout) (passed : List ℕ) (len : ℕ) (old new : List (Option PieceState)) (leaves : List (Both PixelSummary WordSummary)) → map unread new ≡ map unread old → ArePieces layout passed len old leaves → ArePieces layout passed len new leaves
pieces_read layout passed len old new leaves same v = record {
  cut = cut_read layout passed old new same v.cut;
  fresh = λ j. fresh-unread (get_or new j None) (get_or old j None) (at_same old new j same) (v.fresh j);
  len_is = v.len_is;
  whole = v.whole;
  right = λ j b. v.right j b ∙ ap (piece_leaf layout j) (sym (bytes_at-read layout passed old new same j));
}
