-- Pieces of a data unit that pass by.
use Rattle.std.proofs.Common.{◌≡◌, ◌≤◌, ◌<◌, ◌+◌, ◌-◌, ◌*◌, ◌%◌, ℕ, zero, suc, false, Option, None, List, [], ◌∷◌, ◌++◌, length, slice_index, get_or, min, take, drop, refl, arith, sym, ◌∙◌, ap, subst}
use Rattle.std.specs.Prelude.{map, replicate, is_some, IfSome}
use Rattle.std.specs.List.{range_with_len, sum_by}
use Rattle.std.proofs.Math.Seq.{take-add}
use Rattle.std.proofs.lemmas.List.{length-append, length-replicate, length-drop, drop-drop, take_all, drop_at, take-append-le, drop-append-le}
use Rattle.std.proofs.lemmas.List.Folds.{sum_by-replicate}
use Rattle.std.proofs.lemmas.List.FromFn.{length-map-range_with_len, get_or-map-range_with_len, map-range_with_len_more}
use Rattle.fits_pixels.specs.declared.pixel_summary.PixelSummary.{PixelSummary}
use Rattle.fits_pixels.specs.declared.word_summary.WordSummary.{WordSummary}
use Rattle.fits_pixels.specs.declared.both.Both.{Both}
use Rattle.fits_pixels.specs.declared.layout.Layout.{Layout}
use Rattle.fits_pixels.specs.Block.{leaf_of}
use Rattle.fits_pixels.specs.Layout.{IsLayout, block_count}
use Rattle.fits_pixels.specs.Summary.{all_joined, pixels_joined, words_joined, halves_joined, HalvesFit, PixelFits, WordFits}
use Rattle.fits_pixels.specs.SummaryLaws.{both_laws, pixel_laws, same_both, word_laws}
use Rattle.fits_pixels.proofs.StatisticsLemmas.{all_joined-append, word_leaf}
use Rattle.fits_plane.proofs.PlaneLemmas.{layout_stays}
use Rattle.fits_plane.specs.Leaves.{leaf_unit}
use Rattle.fits_pieces.specs.Blocks.{IsFresh, PieceState}
use Rattle.fits_plane.proofs.LeafLemmas.{leaves_statistics, leaves_total, pushed}
use Rattle.fits_pieces.specs.Passing.{HavePassed}
use Rattle.fits_pieces.specs.Piece.{bytes_leaf, piece_leaf, piece_layout, piece_of, piece_size, pieces_in}
use Rattle.fits_pieces.specs.Pieces.{bytes_at, bytes_of, bytes_with, ArePieces, IsPiece}
use Rattle.fits_pieces.proofs.PieceLemmas.{small-append, parts, parts-same}
use Rattle.fits_pieces.proofs.PiecesLemmas.{piece_fits}

-- what is kept of a part
abbrev Leaf : Type 0
Leaf = Both PixelSummary WordSummary

-- all of them joined
abbrev pub joined : List Leaf → Leaf
joined leaves = all_joined leaf_unit (halves_joined pixels_joined words_joined) leaves

-- one more leaf is joined to the others
pub joined_more : (f : ℕ → Leaf) (k : ℕ) (old leaf new : Leaf) → old ≡ joined (map f (range_with_len 0 k)) → leaf ≡ f k → HalvesFit PixelFits WordFits leaf
    → new ≡ halves_joined pixels_joined words_joined old leaf → new ≡ joined (map f (range_with_len 0 (k + 1)))
joined_more f k old leaf new before is fit e =
    let laws = both_laws pixel_laws word_laws in
    let fits : HalvesFit PixelFits WordFits (f k) = subst (HalvesFit PixelFits WordFits) is fit in
    let one : joined (f k ∷ []) ≡ f k = laws.right_unit (f k) fits in
    let here : 0 + k ≡ k = omega arith in
    e ∙ ap (λ x. halves_joined pixels_joined words_joined x leaf) before ∙ ap (halves_joined pixels_joined words_joined (joined (map f (range_with_len 0 k)))) (is ∙ sym one)
    ∙ sym (all_joined-append laws (map f (range_with_len 0 k)) (f k ∷ []) (subst (HalvesFit PixelFits WordFits) (sym one) fits))
    ∙ ap joined (sym (map-range_with_len_more f 0 k k here))

-- those of all blocks of bytes, joined, are what is kept of the bytes
pub joined_all : (layout : Layout) (xs : List ℕ) (n : ℕ) → IsLayout layout xs → length xs ≡ 2880 * n → ((k : ℕ) → slice_index xs k < 256) → joined (map (leaf_of layout xs) (range_with_len 0 n)) ≡ bytes_leaf layout xs
joined_all layout xs n h e small =
    let ls : List Leaf = map (leaf_of layout xs) (range_with_len 0 n) in
    let long : length ls ≡ n = length-map-range_with_len (leaf_of layout xs) 0 n in
    let right : (k : ℕ) → k < length ls → get_or ls k leaf_unit ≡ leaf_of layout xs k = λ k b. get_or-map-range_with_len (leaf_of layout xs) 0 n k k leaf_unit (omega (arith, b, long)) (omega arith) in
    same_both _ _ _ _ (leaves_statistics layout xs ls h (omega (arith, e, long)) small right) (word_leaf _ _ (leaves_total layout xs ls h (omega (arith, e, long)) small right))

-- a piece of bytes that others follow
piece_before : (xs ys : List ℕ) (j : ℕ) → 46080 * j + 46080 ≤ length xs → piece_of (xs ++ ys) j ≡ piece_of xs j
piece_before xs ys j h =
    let inside : 46080 * j ≤ length xs = omega (arith, h) in
    let room : 46080 ≤ length (drop (46080 * j) xs) = omega (arith, length-drop (46080 * j) xs, h) in
    ap (take 46080) (drop-append-le (46080 * j) xs ys inside) ∙ take-append-le 46080 (drop (46080 * j) xs) ys room

-- the piece that follows whole ones
piece_behind : (xs ys : List ℕ) (j : ℕ) → length xs ≡ 46080 * j → length ys ≤ 46080 → piece_of (xs ++ ys) j ≡ ys
piece_behind xs ys j e few = ap (take 46080) (drop_at xs ys (46080 * j) e) ∙ take_all 46080 ys few

-- a layout that fits so many bytes fits a piece of them
pub passing_fits : (layout : Layout) (len j : ℕ) (ys : List ℕ) → IsLayout layout (replicate len 0) → length ys ≡ piece_size len j → IsLayout (piece_layout layout j) ys
passing_fits layout len j ys h long = piece_fits layout (replicate len 0) ys j h (long ∙ ap (λ n. piece_size n j) (sym (length-replicate len 0)))

-- one piece more passed by
pub piece_passed : (layout : Layout) (len : ℕ) (bytes piece all : List ℕ) (leaves leaves' : List Leaf) (leaf : Leaf) (room room' scans scans' : ℕ) → HavePassed layout len bytes leaves room scans
    → length bytes < len → length piece ≡ min 46080 (len - length bytes) → ((k : ℕ) → slice_index piece k < 256) → all ≡ bytes ++ piece → leaf ≡ piece_leaf layout (length leaves) piece → HalvesFit PixelFits WordFits leaf
    → leaves' ≡ leaves ++ leaf ∷ [] → room ≤ room' → scans' ≡ scans + block_count piece → HavePassed layout len all leaves' room' scans'
piece_passed layout len bytes piece all leaves leaves' leaf room room' scans scans' v more size small is e fit keeps grows again =
    let m : ℕ = length leaves in
    let whole : length bytes ≡ 46080 * m = omega (arith, v.size, more) in
    let many : length leaves' ≡ m + 1 = ap length keeps ∙ length-append leaves (leaf ∷ []) in
    let long : length all ≡ length bytes + length piece = ap length is ∙ length-append bytes piece in
    let here : piece_of all m ≡ piece = ap (λ xs. piece_of xs m) is ∙ piece_behind bytes piece m whole (omega (arith, size)) in
    let before : (j : ℕ) → j < m → piece_of all j ≡ piece_of bytes j = λ j b. ap (λ xs. piece_of xs j) is ∙ piece_before bytes piece j (omega (arith, whole, b)) in
    let blocks : len % 2880 ≡ 0 = omega (arith, v.fits.whole, length-replicate {A = ℕ} len 0) in
    record {
      fits = v.fits;
      small = λ k. subst (λ xs. slice_index xs k < 256) (sym is) (small-append bytes piece v.small small k);
      size = omega (arith, long, size, many, whole, more);
      many = omega (arith, many, whole, more);
      right = λ j b. pushed (λ j x. x ≡ piece_leaf layout j (piece_of all j)) leaf_unit leaves leaves' leaf m keeps refl
          (λ j b. v.right j b ∙ ap (piece_leaf layout j) (sym (before j b))) (e ∙ ap (piece_leaf layout m) (sym here)) j (omega (arith, b, many));
      fit = λ j b. pushed (λ j x. HalvesFit PixelFits WordFits x) leaf_unit leaves leaves' leaf m keeps refl v.fit fit j (omega (arith, b, many));
      has_room = omega (arith, grows, v.has_room);
      scanned = omega (arith, again, v.scanned, long, whole);
    }

-- ---- a unit of which no piece is in memory

-- so many pieces, none of which is
abbrev pub none_of : ℕ → List (Option PieceState)
none_of n = replicate n None

-- none of them is
none_at : (n j : ℕ) → get_or (none_of n) j None ≡ None
none_at zero j = refl
none_at (suc n) zero = refl
none_at (suc n) (suc j) = none_at n j

-- what is counted of them is nothing
pub none_counted : (f : Option PieceState → ℕ) (n : ℕ) → f None ≡ 0 → sum_by f (none_of n) ≡ 0
none_counted f n e = let zero_each : n * f None ≡ n * 0 = ap (λ k. n * k) e in omega (arith, sum_by-replicate f n None, zero_each)

-- none of them is held
pub none_held : (n : ℕ) → map is_some (none_of n) ≡ replicate n false
none_held zero = refl
none_held (suc n) = ap (λ xs. false ∷ xs) (none_held n)

-- the parts of a list, one after the other, are the list
parts_of : (m : ℕ) (xs : List ℕ) (a n : ℕ) → parts (λ j. take m (drop (m * j) xs)) a n ≡ take (m * n) (drop (m * a) xs)
parts_of m xs a zero = let none : m * 0 ≡ 0 = omega arith in ap (λ k. take k (drop (m * a) xs)) (sym none)
parts_of m xs a (suc n) =
    let more : m * suc n ≡ m + m * n = omega arith in
    let next : m * (a + 1) ≡ m * a + m = omega arith in
    ap (λ ys. take m (drop (m * a) xs) ++ ys) (parts_of m xs (a + 1) n ∙ ap (λ k. take (m * n) (drop k xs)) next ∙ ap (take (m * n)) (sym (drop-drop m (m * a) xs)))
    ∙ sym (take-add m (m * n) (drop (m * a) xs)) ∙ ap (λ k. take k (drop (m * a) xs)) (sym more)

-- the unit has the bytes that passed by
pub bytes_away : (n : ℕ) (bytes : List ℕ) → length bytes ≤ 46080 * n → bytes_with (none_of n) bytes ≡ bytes
bytes_away n bytes room =
    let start : 46080 * 0 ≡ 0 = omega arith in
    parts-same (bytes_at (none_of n) bytes) (piece_of bytes) 0 (length (none_of n)) (λ j. ap (λ o. bytes_of o (piece_of bytes j)) (none_at n j))
    ∙ ap (parts (piece_of bytes) 0) (let long : length (none_of n) ≡ n = length-replicate n None in long) ∙ parts_of 46080 bytes 0 n ∙ ap (λ k. take (46080 * n) (drop k bytes)) start ∙ take_all (46080 * n) bytes room

-- it is a unit of such pieces, with what was kept of them
pub all_passed : (layout : Layout) (len : ℕ) (bytes : List ℕ) (leaves : List Leaf) (room scans : ℕ) → HavePassed layout len bytes leaves room scans → length bytes ≡ len → ArePieces layout bytes len (none_of (length leaves)) leaves
all_passed layout len bytes leaves room scans v all =
    let n : ℕ = length leaves in
    let many : n ≡ pieces_in (length bytes) = omega (arith, v.size, v.many, all) in
    record {
      cut = record {
        fits = layout_stays layout (replicate len 0) bytes v.fits (all ∙ sym (length-replicate len 0));
        small = v.small;
        count = length-replicate n None ∙ many;
        held = λ j. subst (λ o. IfSome o (IsPiece layout (length bytes) j)) (sym (none_at n j)) tt;
      };
      fresh = λ j. subst (λ o. IfSome o (λ it. IsFresh it.stale)) (sym (none_at n j)) tt;
      len_is = sym all;
      whole = many;
      right = λ j b. v.right j b ∙ ap (λ o. piece_leaf layout j (bytes_of o (piece_of bytes j))) (sym (none_at n j));
    }
