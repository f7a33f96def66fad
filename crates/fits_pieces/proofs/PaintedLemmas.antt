-- A data unit that was painted: its bytes, what is kept of its pieces, and the work.
use Rattle.std.proofs.Common.{◌≡◌, ◌≤◌, ◌<◌, ◌+◌, ◌-◌, ◌*◌, ◌/◌, ◌%◌, ◌^◌, ℕ, zero, suc, Bool, true, false, cond, List, [], ◌∷◌, Option, None, Some, length, slice_index, get_or, min, refl, arith, sym, ◌∙◌, ap, subst, inl, inr}
use Rattle.std.specs.Prelude.{count_by, is_some, map, IfSome, if◌then◌else◌}
use Rattle.std.specs.List.{list_any, range_with_len, sum_by}
use Rattle.std.proofs.Math.Nat.{mul-le-mul_right}
use Rattle.std.proofs.lemmas.Bool.{cases_Bool, cases_lt, false≢true}
use Rattle.std.proofs.lemmas.List.{get_or_past}
use Rattle.std.proofs.lemmas.List.Sums.{sum_by-cons}
use Rattle.std.proofs.lemmas.Nat.{pow-add}
use Rattle.fits_pixels.specs.declared.pixel_summary.PixelSummary.{PixelSummary}
use Rattle.fits_pixels.specs.declared.word_summary.WordSummary.{WordSummary}
use Rattle.fits_pixels.specs.declared.both.Both.{Both}
use Rattle.fits_pixels.specs.declared.layout.Layout.{Layout}
use Rattle.fits_pixels.specs.Layout.{IsLayout, block_count, block_pixels}
use Rattle.fits_pixels.specs.Block.{held}
use Rattle.fits_pixels.proofs.LayoutLemmas.{layout_room}
use Rattle.fits_plane.specs.declared.painting.Painting.{Painting}
use Rattle.fits_plane.specs.Leaves.{leaf_unit}
use Rattle.fits_plane.specs.Painting.{number_of, touches, Paints, Suits}
use Rattle.fits_plane.specs.Rectangle.{is_inside, IsWritten}
use Rattle.fits_plane.specs.Work.{rectangle_blocks, touched_blocks}
use Rattle.fits_plane.proofs.BlockLemmas.{count-append}
use Rattle.fits_plane.proofs.PowerLemmas.{pow_up}
use Rattle.fits_plane.proofs.RectangleLemmas.{written_is}
use Rattle.fits_pieces.specs.Blocks.{stale_count, IsFresh, PieceState}
use Rattle.fits_pieces.specs.Painting.{stale_of, RepaintsPiece, RepaintsPieces, RescansPiece, RescansPieces, StaleIn}
use Rattle.fits_pieces.specs.Piece.{bytes_leaf, piece_leaf, piece_of, pieces_in}
use Rattle.fits_pieces.specs.Pieces.{bytes_at, bytes_of, bytes_with, joins_of, reads_of, scans_of, unit_of, ArePieces, IsCut, IsPiece}
use Rattle.fits_pieces.proofs.PieceLemmas.{parts, parts-same}
use Rattle.fits_pieces.proofs.PiecesLemmas.{length-with, small-with}
use Rattle.fits_pieces.proofs.RescanLemmas.{marks-cons, totals, HaveFew, Totals}

-- what is kept of a part
abbrev Leaf : Type 0
Leaf = Both PixelSummary WordSummary

-- ---- sums over pieces that are alike

-- what is counted of lists that count the same place by place
pub sums_same : (f : Option PieceState → ℕ) (old new : List (Option PieceState)) → length new ≡ length old → ((j : ℕ) → f (get_or new j None) ≡ f (get_or old j None)) → sum_by f new ≡ sum_by f old
sums_same f [] [] e h = refl
sums_same f (x ∷ xs) (y ∷ ys) e h = omega (arith, sum_by-cons f x xs, sum_by-cons f y ys, h 0, sums_same f xs ys (omega (arith, e)) (λ j. h (suc j)))
sums_same f [] (y ∷ ys) e h = absurd (omega (arith, e))
sums_same f (x ∷ xs) [] e h = absurd (omega (arith, e))

-- which are in memory
pub held_same : (old new : List (Option PieceState)) → length new ≡ length old → ((j : ℕ) → is_some (get_or new j None) ≡ is_some (get_or old j None)) → map is_some new ≡ map is_some old
held_same [] [] e h = refl
held_same (x ∷ xs) (y ∷ ys) e h = ap (λ b. b ∷ map is_some ys) (h 0) ∙ ap (λ bs. is_some x ∷ bs) (held_same xs ys (omega (arith, e)) (λ j. h (suc j)))
held_same [] (y ∷ ys) e h = absurd (omega (arith, e))
held_same (x ∷ xs) [] e h = absurd (omega (arith, e))

-- ---- pieces that were painted

-- as many scans
scans-repainted : (old new : Option PieceState) → RepaintsPiece old new → scans_of new ≡ scans_of old
scans-repainted None None v = refl
scans-repainted None (Some b) v = elim v [ ]
scans-repainted (Some a) None v = elim v [ ]
scans-repainted (Some a) (Some b) v = v.scans

-- as many reads
reads-repainted : (old new : Option PieceState) → RepaintsPiece old new → reads_of new ≡ reads_of old
reads-repainted None None v = refl
reads-repainted None (Some b) v = elim v [ ]
reads-repainted (Some a) None v = elim v [ ]
reads-repainted (Some a) (Some b) v = v.reads

-- as many joins
joins-repainted : (old new : Option PieceState) → RepaintsPiece old new → joins_of new ≡ joins_of old
joins-repainted None None v = refl
joins-repainted None (Some b) v = elim v [ ]
joins-repainted (Some a) None v = elim v [ ]
joins-repainted (Some a) (Some b) v = v.joins

-- ---- pieces that were scanned again

-- as many reads
reads-rescanned : (old new : Option PieceState) (b : Bool) → RescansPiece old new b → reads_of new ≡ reads_of old
reads-rescanned None None b v = refl
reads-rescanned None (Some y) b v = elim v [ ]
reads-rescanned (Some x) None b v = elim v [ ]
reads-rescanned (Some x) (Some y) b v = v.reads

-- in memory as before
pub some-rescanned : (old new : Option PieceState) (b : Bool) → RescansPiece old new b → is_some new ≡ is_some old
some-rescanned None None b v = refl
some-rescanned None (Some y) b v = elim v [ ]
some-rescanned (Some x) None b v = elim v [ ]
some-rescanned (Some x) (Some y) b v = refl

-- the same bytes
bytes-rescanned : (old new : Option PieceState) (b : Bool) (passed : List ℕ) → RescansPiece old new b → bytes_of new passed ≡ bytes_of old passed
bytes-rescanned None None b passed v = refl
bytes-rescanned None (Some y) b passed v = elim v [ ]
bytes-rescanned (Some x) None b passed v = elim v [ ]
bytes-rescanned (Some x) (Some y) b passed v = v.bytes

-- a piece of the unit
piece-rescanned : (layout : Layout) (len j : ℕ) (old new : Option PieceState) (b : Bool) → RescansPiece old new b → IfSome old (IsPiece layout len j) → IfSome new (IsPiece layout len j)
piece-rescanned layout len j None None b v h = tt
piece-rescanned layout len j None (Some y) b v h = elim v [ ]
piece-rescanned layout len j (Some x) None b v h = elim v [ ]
piece-rescanned layout len j (Some x) (Some y) b v h = record {
  size = ap length v.bytes ∙ h.size;
  layout_is = v.layout_is ∙ h.layout_is;
  small = λ k. subst (λ xs. slice_index xs k < 256) (sym v.bytes) (h.small k);
  blocks = v.marks ∙ h.blocks ∙ ap block_count (sym v.bytes);
}

-- no block of it is yet to be scanned
fresh-rescanned : (old new : Option PieceState) (b : Bool) → RescansPiece old new b → IfSome new (λ it. IsFresh it.stale)
fresh-rescanned None None b v = tt
fresh-rescanned None (Some y) b v = elim v [ ]
fresh-rescanned (Some x) None b v = elim v [ ]
fresh-rescanned (Some x) (Some y) b v = v.fresh

-- where it isn't marked it wasn't painted
bytes_kept : (first old new : Option PieceState) (b : Bool) (passed : List ℕ) → RepaintsPiece first old → RescansPiece old new b → b ≡ false → bytes_of old passed ≡ bytes_of first passed
bytes_kept None None new b passed u v e = refl
bytes_kept None (Some x) new b passed u v e = elim u [ ]
bytes_kept (Some a) None new b passed u v e = elim u [ ]
bytes_kept (Some a) (Some x) None b passed u v e = elim v [ ]
bytes_kept (Some a) (Some x) (Some y) b passed u v e = u.bytes (v.was e)

-- a piece that is marked is in memory
marked_some : (old new : Option PieceState) (b : Bool) → RescansPiece old new b → b ≡ true → (it : PieceState) × (new ≡ Some it)
marked_some None None b v e = absurd (false≢true (sym v ∙ e))
marked_some None (Some y) b v e = elim v [ ]
marked_some (Some x) None b v e = elim v [ ]
marked_some (Some x) (Some y) b v e = (y, refl)

-- of each place, also past the last
pub each_place : (old new : List (Option PieceState)) (marks : List Bool) → RescansPieces old new marks → (j : ℕ) → RescansPiece (get_or old j None) (get_or new j None) (get_or marks j false)
each_place old new marks v j = elim (cases_lt j (length old)) [
  | inl lt ↦ v.each j lt
  | inr ge ↦
      subst (λ m. RescansPiece (get_or old j None) (get_or new j None) m) (sym (get_or_past marks j false (omega (arith, ge, v.many))))
      (subst (λ o. RescansPiece (get_or old j None) o false) (sym (get_or_past new j None (omega (arith, ge, v.long)))) (subst (λ o. RescansPiece o None false) (sym (get_or_past old j None ge)) refl))
]

module _ (layout : Layout) (passed : List ℕ) (len : ℕ) (first old new : List (Option PieceState)) (marks : List Bool) (leaves leaves' : List Leaf) (v : ArePieces layout passed len first leaves) (cut : IsCut layout passed old) (u : RepaintsPieces first old) (s : RescansPieces old new marks) where
  -- the unit is cut so
  cut_rescanned : IsCut layout passed new
  cut_rescanned = record {
    fits = cut.fits;
    small = cut.small;
    count = s.long ∙ cut.count;
    held = λ j. piece-rescanned layout (length passed) j (get_or old j None) (get_or new j None) (get_or marks j false) (each_place old new marks s j) (cut.held j);
  }

  -- each piece has the same bytes
  bytes_at-rescanned : (j : ℕ) → bytes_at new passed j ≡ bytes_at old passed j
  bytes_at-rescanned j = bytes-rescanned (get_or old j None) (get_or new j None) (get_or marks j false) (piece_of passed j) (each_place old new marks s j)

  -- and so has the unit
  pub bytes_with-rescanned : bytes_with new passed ≡ bytes_with old passed
  bytes_with-rescanned = parts-same (bytes_at new passed) (bytes_at old passed) 0 (length new) bytes_at-rescanned ∙ ap (parts (bytes_at old passed) 0) s.long

  -- this is kept of the pieces, where the leaves of the marked ones were made anew
  pub pieces_painted : length leaves' ≡ length leaves
      → ((j : ℕ) (it : PieceState) → get_or marks j false ≡ true → get_or new j None ≡ Some it → get_or leaves' j leaf_unit ≡ bytes_leaf it.layout it.bytes)
      → ((j : ℕ) → get_or marks j false ≡ false → get_or leaves' j leaf_unit ≡ get_or leaves j leaf_unit) → ArePieces layout passed len new leaves'
  pieces_painted long made kept = record {
    cut = cut_rescanned;
    fresh = λ j. fresh-rescanned (get_or old j None) (get_or new j None) (get_or marks j false) (each_place old new marks s j);
    len_is = v.len_is;
    whole = long ∙ v.whole;
    right = λ j b. elim (cases_Bool (get_or marks j false)) [
      | inl marked ↦
          let p = marked_some (get_or old j None) (get_or new j None) (get_or marks j false) (each_place old new marks s j) marked in
          let piece : IsPiece layout (length passed) j p.0 = subst (λ o. IfSome o (IsPiece layout (length passed) j)) p.1 (cut_rescanned.held j) in
          made j p.0 marked p.1 ∙ ap (λ l. bytes_leaf l p.0.bytes) piece.layout_is ∙ ap (λ o. piece_leaf layout j (bytes_of o (piece_of passed j))) (sym p.1)
      | inr not_marked ↦
          kept j not_marked ∙ v.right j (omega (arith, b, long))
          ∙ ap (piece_leaf layout j) (sym (bytes_at-rescanned j ∙ bytes_kept (get_or first j None) (get_or old j None) (get_or new j None) (get_or marks j false) (piece_of passed j) (u.each j) (each_place old new marks s j) not_marked))
    ];
  }

-- ---- how many blocks are yet to be scanned

-- 1 for one that is set
abbrev one_if : Bool → ℕ
one_if b = if b then 1 else 0

-- a mark that is set only where a test passes
one_few : (b c : Bool) → (b ≡ true → c ≡ true) → one_if b ≤ one_if c
one_few true c h = let e : one_if c ≡ 1 = ap one_if (h refl) in omega (arith, e)
one_few false c h = omega arith

-- marks that are set only where a test passes are no more than pass
piece_few : (bs : List Bool) (test : ℕ → Bool) (o m : ℕ) → length bs ≤ m → ((k : ℕ) → get_or bs k false ≡ true → test (o + k) ≡ true) → stale_count bs ≤ count_by test (range_with_len o m)
piece_few [] test o m room h = omega arith
piece_few (b ∷ bs) test o zero room h = absurd (omega (arith, room))
piece_few (b ∷ bs) test o (suc m) room h =
    let here : o + 0 ≡ o = omega arith in
    let first = one_few b (test o) (λ e. ap test (sym here) ∙ h 0 e) in
    let rest = piece_few bs test (o + 1) m (omega (arith, room)) (λ k e. let at : o + 1 + k ≡ o + suc k = omega arith in ap test at ∙ h (suc k) e) in
    omega (arith, marks-cons b bs, sum_by-cons (λ k. cond (test k) 1 0) o (range_with_len (o + 1) m), first, rest)

-- so are those of a piece
option_few : (o : Option PieceState) (test : ℕ → Bool) (at : ℕ) → IfSome o (λ it. (k : ℕ) → get_or it.stale k false ≡ true → test (at + k) ≡ true) → IfSome o (λ it. length it.stale ≤ 16) → stale_of o ≤ count_by test (range_with_len at 16)
option_few None test at h room = omega arith
option_few (Some it) test at h room = piece_few it.stale test at 16 room h

-- the same test at the same block
test_there : (o : Option PieceState) (test : ℕ → Bool) (a b : ℕ) → a ≡ b → IfSome o (λ it. (k : ℕ) → get_or it.stale k false ≡ true → test (a + k) ≡ true) → IfSome o (λ it. (k : ℕ) → get_or it.stale k false ≡ true → test (b + k) ≡ true)
test_there o test a b e h = subst (λ n. IfSome o (λ it. (k : ℕ) → get_or it.stale k false ≡ true → test (n + k) ≡ true)) e h

-- and those of all pieces from one on
all_few : (pieces : List (Option PieceState)) (test : ℕ → Bool) (a : ℕ) → ((j : ℕ) → IfSome (get_or pieces j None) (λ it. (k : ℕ) → get_or it.stale k false ≡ true → test (16 * (a + j) + k) ≡ true))
    → ((j : ℕ) → IfSome (get_or pieces j None) (λ it. length it.stale ≤ 16)) → sum_by stale_of pieces ≤ count_by test (range_with_len (16 * a) (16 * length pieces))
all_few [] test a h room = omega arith
all_few (x ∷ xs) test a h room =
    let here : 16 * (a + 0) ≡ 16 * a = omega arith in
    let next : 16 * (a + 1) ≡ 16 * a + 16 = omega arith in
    let more : 16 * suc (length xs) ≡ 16 + 16 * length xs = omega arith in
    let first = option_few x test (16 * a) (test_there x test (16 * (a + 0)) (16 * a) here (h 0)) (room 0) in
    let rest = all_few xs test (a + 1) (λ j. let at : 16 * (a + suc j) ≡ 16 * (a + 1 + j) = omega arith in test_there (get_or xs j None) test (16 * (a + suc j)) (16 * (a + 1 + j)) at (h (suc j))) (λ j. room (suc j)) in
    omega (arith, sum_by-cons stale_of x xs, ap (λ n. count_by test (range_with_len (16 * a) n)) more, count-append test (16 * a) 16 (16 * length xs), ap (λ n. count_by test (range_with_len n (16 * length xs))) next, first, rest)

-- none of a range pass that fail
count_none : (p : ℕ → Bool) (a n : ℕ) → ((k : ℕ) → a ≤ k → p k ≡ false) → count_by p (range_with_len a n) ≡ 0
count_none p a zero h = refl
count_none p a (suc n) h =
    let here : one_if (p a) ≡ 0 = ap one_if (h a (omega arith)) in
    omega (arith, sum_by-cons (λ k. cond (p k) 1 0) a (range_with_len (a + 1) n), here, count_none p (a + 1) n (λ k l. h k (omega arith)))

-- behind the last pixel no block holds one
none_behind : (layout : Layout) (it : Painting) (bytes : List ℕ) (k : ℕ) → IsLayout layout bytes → block_count bytes ≤ k → touches it layout k ≡ false
none_behind layout it bytes k h b =
    let per : ℕ = block_pixels layout.width in
    let room = layout_room layout bytes (block_count bytes) h (omega (arith, h.whole)) in
    let up = mul-le-mul_right per b in
    let none : held per layout.pixels k ≡ 0 = omega (arith, room, up) in
    ap (λ n. list_any (is_inside it.axes.now it.lo.now it.hi.now) (range_with_len (k * per) n)) none

-- a piece has no more than sixteen blocks
few_blocks : (layout : Layout) (len j : ℕ) (o : Option PieceState) → IfSome o (IsPiece layout len j) → IfSome o (λ it. length it.stale ≤ 16)
few_blocks layout len j None h = tt
few_blocks layout len j (Some it) h = omega (arith, h.blocks, h.size)

-- they are no more than hold a pixel of the rectangle
pub stale_few : (layout : Layout) (passed : List ℕ) (it : Painting) (pieces : List (Option PieceState)) → IsCut layout passed pieces → StaleIn (touches it layout) pieces
    → sum_by stale_of pieces ≤ rectangle_blocks layout passed it.axes.now it.lo.now it.hi.now
stale_few layout passed it pieces v stale =
    let test = touches it layout in
    let blocks : ℕ = block_count passed in
    let rest : ℕ = 16 * length pieces - blocks in
    let all : 16 * length pieces ≡ blocks + rest = omega (arith, v.count, v.fits.whole) in
    let few = all_few pieces test 0 (λ j. let at : 16 * j ≡ 16 * (0 + j) = omega arith in test_there (get_or pieces j None) test (16 * j) (16 * (0 + j)) at (stale j)) (λ j. few_blocks layout (length passed) j (get_or pieces j None) (v.held j)) in
    let start : 16 * 0 ≡ 0 = omega arith in
    let none = count_none test (0 + blocks) rest (λ k l. none_behind layout it passed k v.fits (omega (arith, l))) in
    omega (arith, few, ap (λ n. count_by test (range_with_len n (16 * length pieces))) start, ap (λ n. count_by test (range_with_len 0 n)) all, count-append test 0 blocks rest, none)

-- ---- how many nodes were joined

-- each piece has no more blocks than the unit, or than sixteen
pub have_few : (layout : Layout) (passed : List ℕ) (pieces : List (Option PieceState)) (most : ℕ) → IsCut layout passed pieces → min 16 (block_count passed) ≤ most → HaveFew most pieces
have_few layout passed pieces most v b = λ j. one j (get_or pieces j None) (v.held j)
  where
    one : (j : ℕ) (o : Option PieceState) → IfSome o (IsPiece layout (length passed) j) → IfSome o (λ it. block_count it.bytes ≤ most)
    one j None h = tt
    one j (Some it) h = omega (arith, h.size, b)

-- a unit of more than a piece has a tree four levels higher
higher : (len pieces d : ℕ) → len % 2880 ≡ 0 → pieces ≡ (len + 46079) / 46080 → 2 ≤ pieces → len / 2880 ≤ 2 ^ d → (e : ℕ) × (d ≡ e + 4) × (2 ^ d ≡ 2 ^ e * 16) × (pieces ≤ 2 ^ e)
higher len pieces d whole count many room = elim (cases_lt d 4) [
  | inl low ↦ let up = pow_up 3 d (omega (arith, low)) in absurd (omega (arith, up, room, count, many, whole))
  | inr high ↦
      let e : ℕ = d - 4 in
      let at : d ≡ e + 4 = omega (arith, high) in
      let power : 2 ^ d ≡ 2 ^ e * 16 = ap (λ n. 2 ^ n) at ∙ pow-add 2 e 4 in
      (e, at, power, omega (arith, power, room, count, whole))
]

-- no more than the tree is high, for each block
few_joins : (len pieces d m st st' jp jp' t t' : ℕ) → len % 2880 ≡ 0 → pieces ≡ (len + 46079) / 46080 → len / 2880 ≤ 2 ^ d → m + st' ≤ st
    → ((e : ℕ) → pieces ≤ 2 ^ e → t' ≤ t + m * e) → ((e : ℕ) → min 16 (len / 2880) ≤ 2 ^ e → jp' + st' * e ≤ jp + st * e) → t' + jp' ≤ t + jp + st * d
few_joins len pieces d m st st' jp jp' t t' whole count room less tree below = elim (cases_lt pieces 2) [
  | inl one ↦ let p = tree 0 (omega (arith, one)) in let q = below d (omega (arith, room)) in omega (arith, p, q)
  | inr many ↦
      let h = higher len pieces d whole count many room in
      let p = tree h.0 h.3 in
      let q = below 4 (omega arith) in
      let up = mul-le-mul_right h.0 (let l : m ≤ st = omega (arith, less) in l) in
      let all : st * d ≡ st * h.0 + st * 4 = ap (λ n. st * n) h.1 ∙ omega arith in
      omega (arith, p, q, up, all)
]

-- nor than it has nodes
most_joins : (len pieces d m jp jp' t t' : ℕ) → len % 2880 ≡ 0 → pieces ≡ (len + 46079) / 46080 → len / 2880 ≤ 2 ^ d → m ≤ pieces
    → ((e : ℕ) → pieces ≤ 2 ^ e → t' + 1 ≤ t + 2 ^ e) → ((e : ℕ) → min 16 (len / 2880) ≤ 2 ^ e → jp' + m ≤ jp + m * 2 ^ e) → t' + jp' ≤ t + jp + 2 ^ d
most_joins len pieces d m jp jp' t t' whole count room few tree below = elim (cases_lt pieces 2) [
  | inl one ↦
      let p = tree 0 (omega (arith, one)) in
      let q = below d (omega (arith, room)) in
      let up = mul-le-mul_right (2 ^ d) (let l : m ≤ 1 = omega (arith, few, one) in l) in
      omega (arith, p, q, up)
  | inr many ↦
      let h = higher len pieces d whole count many room in
      let p = tree h.0 h.3 in
      let q = below 4 (omega arith) in
      omega (arith, p, q, few, h.2, h.3)
]

-- no more marks are set than there are
count_le : (bs : List Bool) → stale_count bs ≤ length bs
count_le [] = omega arith
count_le (b ∷ bs) = let first : one_if b ≤ 1 = one_few b true (λ e. refl) in omega (arith, marks-cons b bs, first, count_le bs)

-- ---- the unit

-- it was painted, and nothing else
pub unit_painted : (layout : Layout) (passed : List ℕ) (it : Painting) (scans t t' : ℕ) (first old new : List (Option PieceState)) (marks : List Bool) → Suits layout it → IsCut layout passed first → IsCut layout passed old
    → IsWritten layout.width it.axes.now it.lo.now it.hi.now (number_of it) (bytes_with first passed) (bytes_with old passed) → RepaintsPieces first old → StaleIn (touches it layout) old → RescansPieces old new marks
    → t ≤ t' → ((d : ℕ) → pieces_in (length passed) ≤ 2 ^ d → t' ≤ t + stale_count marks * d) → ((d : ℕ) → pieces_in (length passed) ≤ 2 ^ d → t' + 1 ≤ t + 2 ^ d)
    → Paints it (unit_of layout passed first scans t).plane (unit_of layout passed new scans t').plane
unit_painted layout passed it scans t t' first old new marks suits fits cut written u stale s more few most =
    let each = each_place old new marks s in
    let done : Totals old new marks = totals old new marks s.long s.many s.each in
    let same : bytes_with new passed ≡ bytes_with old passed =
    parts-same (bytes_at new passed) (bytes_at old passed) 0 (length new) (λ j. bytes-rescanned (get_or old j None) (get_or new j None) (get_or marks j false) (piece_of passed j) (each j)) ∙ ap (parts (bytes_at old passed) 0) s.long in
    let scanned = sums_same scans_of first old u.long (λ j. scans-repainted (get_or first j None) (get_or old j None) (u.each j)) in
    let joined = sums_same joins_of first old u.long (λ j. joins-repainted (get_or first j None) (get_or old j None) (u.each j)) in
    let read = sums_same reads_of first old u.long (λ j. reads-repainted (get_or first j None) (get_or old j None) (u.each j)) in
    let read_again = sums_same reads_of old new s.long (λ j. reads-rescanned (get_or old j None) (get_or new j None) (get_or marks j false) (each j)) in
    let long : length (bytes_with first passed) ≡ length passed = length-with layout passed first fits in
    let blocks : rectangle_blocks layout passed it.axes.now it.lo.now it.hi.now ≡ rectangle_blocks layout (bytes_with first passed) it.axes.now it.lo.now it.hi.now =
    ap (λ n. touched_blocks it.axes.now it.lo.now it.hi.now (block_pixels layout.width) layout.pixels (n / 2880)) (sym long) in
    let stales = stale_few layout passed it old cut stale in
    let marked : stale_count marks ≤ pieces_in (length passed) = omega (arith, count_le marks, s.many, cut.count) in
    let below : (e : ℕ) → min 16 (length passed / 2880) ≤ 2 ^ e → sum_by joins_of new + sum_by stale_of new * e ≤ sum_by joins_of first + sum_by stale_of old * e = λ e h. omega (arith, done.few e (have_few layout passed old (2 ^ e) cut h), joined) in
    let below_most : (e : ℕ) → min 16 (length passed / 2880) ≤ 2 ^ e → sum_by joins_of new + stale_count marks ≤ sum_by joins_of first + stale_count marks * 2 ^ e = λ e h. omega (arith, done.most e (have_few layout passed old (2 ^ e) cut h), joined) in
    record {
      bytes = same ∙ written_is layout.width it.axes.now it.lo.now it.hi.now (number_of it) (bytes_with first passed) (bytes_with old passed) suits.width (small-with layout passed old cut) written;
      layout = refl;
      reads = read_again ∙ read;
      more_scans = omega (arith, done.scans, done.less, scanned);
      scans = omega (arith, done.scans, scanned, stales, blocks);
      more_joins = omega (arith, more, done.more, joined);
      joins = λ d h.
          let all = few_joins (length passed) (pieces_in (length passed)) d (stale_count marks) (sum_by stale_of old) (sum_by stale_of new) (sum_by joins_of first) (sum_by joins_of new) t t' fits.fits.whole refl (omega (arith, h, long)) done.less few below in
          let up = mul-le-mul_right d (let l : sum_by stale_of old ≤ rectangle_blocks layout (bytes_with first passed) it.axes.now it.lo.now it.hi.now = omega (arith, stales, blocks) in l) in
          omega (arith, all, up);
      most = λ d h. most_joins (length passed) (pieces_in (length passed)) d (stale_count marks) (sum_by joins_of first) (sum_by joins_of new) t t' fits.fits.whole refl (omega (arith, h, long)) marked most below_most;
    }
