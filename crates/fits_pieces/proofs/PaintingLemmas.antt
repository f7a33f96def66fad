-- Pieces that are painted.
use Rattle.std.proofs.Common.{◌≡◌, ◌≤◌, ◌<◌, ◌+◌, ◌-◌, ◌*◌, ◌/◌, ◌%◌, ◌⊎◌, ℕ, ℤ, Bool, List, Option, None, Some, true, false, length, set, slice_index, get_or, drop, refl, arith, sym, ◌∙◌, ap, subst, inl, inr}
use Rattle.std.specs.Prelude.{is_some, IfSome, IsSomeAnd}
use Rattle.std.proofs.Math.Nat.{div-add-mod}
use Rattle.std.proofs.lemmas.Bool.{cases_eq, cases_lt, false≢true}
use Rattle.std.proofs.lemmas.List.{get_or-drop, get_or-take, get_or-set_same, get_or-set_other, length-set}
use Rattle.fits_pixels.specs.declared.layout.Layout.{Layout}
use Rattle.fits_pixels.specs.Layout.{block_pixels}
use Rattle.fits_pixels.specs.Pixels.{pixel, IsWidth}
use Rattle.fits_pixels.proofs.PixelLemmas.{by_width}
use Rattle.fits_plane.specs.declared.painting.Painting.{Painting}
use Rattle.fits_plane.specs.Painting.{number_of, touches, Suits}
use Rattle.fits_plane.specs.Rectangle.{place, row_count, row_size}
use Rattle.fits_plane.proofs.BlockLemmas.{row_blocks}
use Rattle.fits_plane.proofs.RowLemmas.{row_of}
use Rattle.fits_pixels.proofs.LayoutLemmas.{block_pixels_some}
use Rattle.fits_plane.specs.ShortRows.{RowWritten}
use Rattle.fits_plane.proofs.ShortRowLemmas.{row_joined}
use Rattle.fits_pieces.specs.Blocks.{AreMarked, IsFresh, PieceState}
use Rattle.fits_pieces.specs.Painting.{IsRepainted, PaintsRun, PassesRun, RepaintsPiece, RepaintsPieces, StaleIn}
use Rattle.fits_pieces.specs.Piece.{piece_of, piece_pixels}
use Rattle.fits_pieces.specs.Pieces.{bytes_of, bytes_with, AreFresh, HoldsPixels, IsCut, IsPiece, PutsPiece}
use Rattle.fits_pieces.proofs.PiecesLemmas.{cut_put, piece_of-with, puts_piece}
use Rattle.fits_pieces.proofs.ReadingLemmas.{index_of, pixel_there}

-- ---- bytes by pieces

-- a byte is one of its piece
byte_there : (xs : List ℕ) (i : ℕ) → slice_index xs i ≡ slice_index (piece_of xs (i / 46080)) (i % 46080)
byte_there xs i =
    let near : i % 46080 < 46080 = omega arith in
    let at : 46080 * (i / 46080) + i % 46080 ≡ i = omega arith in
    sym (get_or-take 46080 (drop (46080 * (i / 46080)) xs) (i % 46080) 0 near ∙ get_or-drop (46080 * (i / 46080)) xs (i % 46080) 0 ∙ ap (λ k. slice_index xs k) at)

-- a byte outside a run is outside the part of it that lies in its piece
part_outside : (w j from here p i : ℕ) → IsWidth w → j * piece_pixels w + from ≡ p → from + here ≤ piece_pixels w → i / 46080 ≡ j → (i < p * w) ⊎ ((p + here) * w ≤ i) → (i % 46080 < from * w) ⊎ ((from + here) * w ≤ i % 46080)
part_outside w j from here p i h = by_width (λ w. j * piece_pixels w + from ≡ p → from + here ≤ piece_pixels w → i / 46080 ≡ j → (i < p * w) ⊎ ((p + here) * w ≤ i) → (i % 46080 < from * w) ⊎ ((from + here) * w ≤ i % 46080))
    (λ e room at away. elim away [ inl lt ↦ inl (omega (arith, lt, e, at)) | inr ge ↦ inr (omega (arith, ge, e, at)) ])
    (λ e room at away. elim away [ inl lt ↦ inl (omega (arith, lt, e, at)) | inr ge ↦ inr (omega (arith, ge, e, at)) ])
    (λ e room at away. elim away [ inl lt ↦ inl (omega (arith, lt, e, at)) | inr ge ↦ inr (omega (arith, ge, e, at)) ])
    (λ e room at away. elim away [ inl lt ↦ inl (omega (arith, lt, e, at)) | inr ge ↦ inr (omega (arith, ge, e, at)) ]) w h

-- a run that is written in a piece is written in the unit
pub row_in_unit : (w j from here p : ℕ) (value : ℕ → ℤ) (old new piece : List ℕ) → IsWidth w → j * piece_pixels w + from ≡ p → from + here ≤ piece_pixels w → PutsPiece j piece old new → RowWritten w from here value (piece_of old j) piece → RowWritten w p here value old new
row_in_unit w j from here p value old new piece h e room put row = record {
  long = put.long;
  inside = λ y b.
      let at : j * piece_pixels w + (from + y) ≡ p + y = omega (arith, e) in
      ap (pixel w new) (sym at) ∙ sym (pixel_there w j (from + y) new h (omega (arith, b, room))) ∙ ap (λ xs. pixel w xs (from + y)) put.here ∙ row.inside y b;
  outside = λ i away. elim (cases_eq (i / 46080) j) [
    | inl at ↦
        byte_there new i ∙ ap (λ k. slice_index (piece_of new k) (i % 46080)) at ∙ ap (λ xs. slice_index xs (i % 46080)) put.here
        ∙ row.outside (i % 46080) (part_outside w j from here p i h e room at away)
        ∙ ap (λ k. slice_index (piece_of old k) (i % 46080)) (sym at) ∙ sym (byte_there old i)
    | inr ne ↦ byte_there new i ∙ ap (λ xs. slice_index xs (i % 46080)) (put.others (i / 46080) ne) ∙ sym (byte_there old i)
  ];
}

-- ---- pieces that are as before, but for their bytes

-- a piece that wasn't painted
pub repainted_same : (o : Option PieceState) → RepaintsPiece o o
repainted_same None = tt
repainted_same (Some it) = record { size = refl; layout_is = refl; scans = refl; reads = refl; joins = refl; marks = refl; fresh = λ f. f; bytes = λ f. refl }

-- one that was painted, and again
pub repainted_again : (old mid new : Option PieceState) → RepaintsPiece old mid → RepaintsPiece mid new → RepaintsPiece old new
repainted_again None None None v w = tt
repainted_again None None (Some c) v w = w
repainted_again None (Some b) new v w = elim v [ ]
repainted_again (Some a) None new v w = elim v [ ]
repainted_again (Some a) (Some b) None v w = w
repainted_again (Some a) (Some b) (Some c) v w = record {
  size = w.size ∙ v.size;
  layout_is = w.layout_is ∙ v.layout_is;
  scans = w.scans ∙ v.scans;
  reads = w.reads ∙ v.reads;
  joins = w.joins ∙ v.joins;
  marks = w.marks ∙ v.marks;
  fresh = λ f. v.fresh (w.fresh f);
  bytes = λ f. w.bytes f ∙ v.bytes (w.fresh f);
}

-- a run was painted on one
pub run_repainted : (it : Painting) (start count rank : ℕ) (old new : PieceState) → PaintsRun it start count rank old new → start / block_pixels old.layout.width < (start + count - 1) / block_pixels old.layout.width + 1 → IsRepainted old new
run_repainted it start count rank old new v some =
    let stale : IsFresh new.stale → ⊥ = λ f. false≢true (sym (f (start / block_pixels old.layout.width)) ∙ v.marked.inside (start / block_pixels old.layout.width) (omega arith) some) in
    record {
      size = v.written.long;
      layout_is = ap (λ (s : PieceState). s.layout) v.same;
      scans = ap (λ (s : PieceState). s.scans) v.same;
      reads = ap (λ (s : PieceState). s.reads) v.same;
      joins = ap (λ (s : PieceState). s.joins) v.same;
      marks = v.marked.long;
      fresh = λ f. absurd (stale f);
      bytes = λ f. absurd (stale f);
    }

-- all pieces are as before, but for one that was painted
pub pieces_repainted : (pieces : List (Option PieceState)) (j : ℕ) (old new : PieceState) → j < length pieces → get_or pieces j None ≡ Some old → IsRepainted old new → RepaintsPieces pieces (set pieces j (Some new))
pieces_repainted pieces j old new b is v = record {
  long = length-set pieces j (Some new);
  each = λ i. elim (cases_eq i j) [
    | inl same ↦ subst (λ i. RepaintsPiece (get_or pieces i None) (get_or (set pieces j (Some new)) i None)) (sym same)
        (subst (λ o. RepaintsPiece o (get_or (set pieces j (Some new)) j None)) (sym is) (subst (RepaintsPiece (Some old)) (sym (get_or-set_same pieces j (Some new) None b)) v))
    | inr ne ↦ subst (RepaintsPiece (get_or pieces i None)) (sym (get_or-set_other pieces j i (Some new) None ne)) (repainted_same (get_or pieces i None))
  ];
}

-- and so on
pub all_again : (old mid new : List (Option PieceState)) → RepaintsPieces old mid → RepaintsPieces mid new → RepaintsPieces old new
all_again old mid new v w = record { long = w.long ∙ v.long; each = λ j. repainted_again (get_or old j None) (get_or mid j None) (get_or new j None) (v.each j) (w.each j) }

-- ---- blocks that are yet to be scanned

-- block k of piece j is one of those of the unit's run where it is one of those of the part
stale_there : (w j from here p start count k : ℕ) → IsWidth w → 0 < here → j * piece_pixels w + from ≡ p → start ≤ p → p + here ≤ start + count → from / block_pixels w ≤ k → k < (from + here - 1) / block_pixels w + 1
    → (start / block_pixels w ≤ 16 * j + k) × (16 * j + k ≤ (start + count - 1) / block_pixels w)
stale_there w j from here p start count k h = by_width (λ w. 0 < here → j * piece_pixels w + from ≡ p → start ≤ p → p + here ≤ start + count → from / block_pixels w ≤ k → k < (from + here - 1) / block_pixels w + 1
    → (start / block_pixels w ≤ 16 * j + k) × (16 * j + k ≤ (start + count - 1) / block_pixels w))
    (λ some e low high a b. (omega (arith, e, low, a), omega (arith, e, high, b, some))) (λ some e low high a b. (omega (arith, e, low, a), omega (arith, e, high, b, some)))
    (λ some e low high a b. (omega (arith, e, low, a), omega (arith, e, high, b, some))) (λ some e low high a b. (omega (arith, e, low, a), omega (arith, e, high, b, some))) w h

-- each of them passes a test that the run's blocks pass, and those before
pub stale_more : (test : ℕ → Bool) (w j from here p start count : ℕ) (it : Painting) (rank : ℕ) (pieces : List (Option PieceState)) (old new : PieceState) → IsWidth w → old.layout.width ≡ w → 0 < here → j * piece_pixels w + from ≡ p → start ≤ p → p + here ≤ start + count
    → j < length pieces → get_or pieces j None ≡ Some old → PaintsRun it from here rank old new → StaleIn test pieces → PassesRun w start count test → StaleIn test (set pieces j (Some new))
stale_more test w j from here p start count it rank pieces old new h width some e low high b is v before passes = λ i. elim (cases_eq i j) [
  | inl same ↦ subst (λ i. IfSome (get_or (set pieces j (Some new)) i None) (λ it. (k : ℕ) → get_or it.stale k false ≡ true → test (16 * i + k) ≡ true)) (sym same)
      (subst (λ o. IfSome o (λ it. (k : ℕ) → get_or it.stale k false ≡ true → test (16 * j + k) ≡ true)) (sym (get_or-set_same pieces j (Some new) None b)) here_is)
  | inr ne ↦ subst (λ o. IfSome o (λ it. (k : ℕ) → get_or it.stale k false ≡ true → test (16 * i + k) ≡ true)) (sym (get_or-set_other pieces j i (Some new) None ne)) (before i)
]
  where
    was : (k : ℕ) → get_or old.stale k false ≡ true → test (16 * j + k) ≡ true
    was = subst (λ o. IfSome o (λ it. (k : ℕ) → get_or it.stale k false ≡ true → test (16 * j + k) ≡ true)) is (before j)

    marked : AreMarked (from / block_pixels w) ((from + here - 1) / block_pixels w + 1) old.stale new.stale
    marked = subst (λ w. AreMarked (from / block_pixels w) ((from + here - 1) / block_pixels w + 1) old.stale new.stale) width v.marked

    here_is : (k : ℕ) → get_or new.stale k false ≡ true → test (16 * j + k) ≡ true
    here_is k set_now = elim (cases_lt k (from / block_pixels w)) [
      | inl lt ↦ was k (sym (marked.outside k (inl lt)) ∙ set_now)
      | inr ge ↦ elim (cases_lt k ((from + here - 1) / block_pixels w + 1)) [
        | inl lt ↦ let at = stale_there w j from here p start count k h some e low high ge lt in passes (16 * j + k) at.0 at.1
        | inr far ↦ was k (sym (marked.outside k (inr far)) ∙ set_now)
      ]
    ]

-- a piece of which something is so
pub some_and : (o : Option PieceState) (P : PieceState → Type 0) → IsSomeAnd o P → (it : PieceState) × (o ≡ Some it) × P it
some_and None P h = elim h [ ]
some_and (Some it) P h = (it, refl, h)

-- ---- one part of a run more

-- what is so once it was painted
pub record Turned (layout : Layout) (passed : List ℕ) (painting : Painting) (start count x rank : ℕ) (first pieces : List (Option PieceState)) : Type 0 where
  pub cut : IsCut layout passed pieces
  pub held : HoldsPixels layout.width start count pieces
  pub written : RowWritten layout.width start x (λ y. number_of painting (rank + y)) (bytes_with first passed) (bytes_with pieces passed)
  pub repainted : RepaintsPieces first pieces
  pub stale : (test : ℕ → Bool) → StaleIn test first → PassesRun layout.width start count test → StaleIn test pieces

-- a piece of the unit is read as the unit is
pub piece_there : (layout : Layout) (passed : List ℕ) (j : ℕ) (pieces : List (Option PieceState)) (it : PieceState) → IsCut layout passed pieces → get_or pieces j None ≡ Some it → IsPiece layout (length passed) j it
piece_there layout passed j pieces it v is = subst (λ o. IfSome o (IsPiece layout (length passed) j)) is (v.held j)

-- a part has a block
some_block : (start count per : ℕ) → start / per ≤ (start + count - 1) / per → start / per < (start + count - 1) / per + 1
some_block start count per le = omega (arith, le)

-- those of the last pixel and the first
blocks_order : (w start count : ℕ) → IsWidth w → 0 < count → start / block_pixels w ≤ (start + count - 1) / block_pixels w
blocks_order w start count h some = by_width (λ w. start / block_pixels w ≤ (start + count - 1) / block_pixels w) (omega (arith, some)) (omega (arith, some)) (omega (arith, some)) (omega (arith, some)) w h

-- so it is
pub part_painted : (layout : Layout) (passed : List ℕ) (painting : Painting) (start count x here rank j from : ℕ) (first pieces : List (Option PieceState)) (old new : PieceState) → IsWidth layout.width → 0 < here → x + here ≤ count
    → j * piece_pixels layout.width + from ≡ start + x → from + here ≤ piece_pixels layout.width → get_or pieces j None ≡ Some old → PaintsRun painting from here (rank + x) old new
    → Turned layout passed painting start count x rank first pieces → Turned layout passed painting start count (x + here) rank first (set pieces j (Some new))
part_painted layout passed painting start count x here rank j from first pieces old new h some room at near is v t =
    let w : ℕ = layout.width in
    let b : j < length pieces = index_of pieces j old is in
    let piece = piece_there layout passed j pieces old t.cut is in
    let width : old.layout.width ≡ w = ap (λ (l : Layout). l.width) piece.layout_is in
    let blocks : from / block_pixels old.layout.width < (from + here - 1) / block_pixels old.layout.width + 1 =
    subst (λ w. from / block_pixels w < (from + here - 1) / block_pixels w + 1) (sym width) (some_block from here (block_pixels w) (blocks_order w from here h some)) in
    let same = run_repainted painting from here (rank + x) old new v blocks in
    let now : IsPiece layout (length passed) j new = record { size = same.size ∙ piece.size; layout_is = same.layout_is ∙ piece.layout_is; small = v.small; blocks = same.marks ∙ piece.blocks ∙ ap (λ n. n / 2880) (sym same.size) } in
    let cut = cut_put layout passed j pieces new t.cut b now in
    let bytes : old.bytes ≡ piece_of (bytes_with pieces passed) j = sym (ap (λ o. bytes_of o (piece_of passed j)) is) ∙ sym (piece_of-with layout passed pieces t.cut j b) in
    let own : RowWritten w from here (λ y. number_of painting (rank + x + y)) (piece_of (bytes_with pieces passed) j) new.bytes =
    subst (λ xs. RowWritten w from here (λ y. number_of painting (rank + x + y)) xs new.bytes) bytes
    (subst (λ w. RowWritten w from here (λ y. number_of painting (rank + x + y)) old.bytes new.bytes) width v.written) in
    let row = row_in_unit w j from here (start + x) (λ y. number_of painting (rank + x + y)) (bytes_with pieces passed) (bytes_with (set pieces j (Some new)) passed) new.bytes h at near (puts_piece layout passed j pieces new t.cut cut b) own in
    record {
      cut = cut;
      held = λ i low high. elim (cases_eq (i / piece_pixels w) j) [
        | inl same ↦ ap (λ k. is_some (get_or (set pieces j (Some new)) k None)) same ∙ ap is_some (get_or-set_same pieces j (Some new) None b)
        | inr ne ↦ ap is_some (get_or-set_other pieces j (i / piece_pixels w) (Some new) None ne) ∙ t.held i low high
      ];
      written = row_joined w start (x + here) x (start + x) here rank (number_of painting) (bytes_with first passed) (bytes_with pieces passed) (bytes_with (set pieces j (Some new)) passed) (omega arith) refl (omega arith) t.written row;
      repainted = all_again first pieces (set pieces j (Some new)) t.repainted (pieces_repainted pieces j old new b is same);
      stale = λ test before passes. stale_more test w j from here (start + x) start count painting (rank + x) pieces old new h width some at (omega arith) (omega (arith, room)) b is v (t.stale test before passes) passes;
    }

-- the part of a run that begins where the others end lies in one piece
pub part_at : (w p per : ℕ) → per ≡ piece_pixels w → p / per * piece_pixels w + p % per ≡ p
part_at w p per e = omega (arith, ap (λ n. p / per * n) (sym e), div-add-mod p per)

-- ---- a rectangle

-- pieces that are as before are in memory as before
pub some-repainted : (old new : Option PieceState) → RepaintsPiece old new → is_some new ≡ is_some old
some-repainted None None v = refl
some-repainted None (Some b) v = elim v [ ]
some-repainted (Some a) None v = elim v [ ]
some-repainted (Some a) (Some b) v = refl

-- each block between those of a row's first and last pixel holds one of the rectangle
pub row_touches : (layout : Layout) (it : Painting) (row first : ℕ) → Suits layout it → row < row_count it.lo.now it.hi.now → first ≡ place it.axes.now it.lo.now it.hi.now (row * row_size it.lo.now it.hi.now)
    → PassesRun layout.width first (row_size it.lo.now it.hi.now) (touches it layout)
row_touches layout it row first s b at = λ k low high.
    let side : ℕ = row_size it.lo.now it.hi.now in
    let w = row_of it.axes.now it.lo.now it.hi.now row first s.rectangle b at in
    (row_blocks it.axes.now it.lo.now it.hi.now side (block_pixels layout.width) layout.pixels row first s.rectangle s.all (block_pixels_some layout.width s.width) w).touched k low (omega (arith, high))

-- the pieces of a row are in memory as before
pub row_held_still : (axes lo hi : List ℕ) (layout : Layout) (old pieces : List (Option PieceState)) (row first n : ℕ) → RepaintsPieces old pieces → n ≡ row_size lo hi → HoldsPixels layout.width first (row_size lo hi) old → HoldsPixels layout.width first n pieces
row_held_still axes lo hi layout old pieces row first n v e held = λ i low high.
    some-repainted (get_or old (i / piece_pixels layout.width) None) (get_or pieces (i / piece_pixels layout.width) None) (v.each (i / piece_pixels layout.width)) ∙ held i low (omega (arith, high, e))
