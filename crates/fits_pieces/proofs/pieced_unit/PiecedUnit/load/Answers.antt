use Rattle.std.proofs.Common.{arith, length, get_or, set, subst, sym, Some, false, ◌≡◌, ◌<◌, ◌≤◌, ◌^◌, ◌∙◌, ap}
use Rattle.std.specs.Prelude.{is_some, map}
use Rattle.std.proofs.lemmas.List.{length-map, length-set}
use Rattle.fits_pixels.specs.Layout.{IsLayout, block_count}
use Rattle.fits_pieces.specs.Piece.{bytes_leaf, piece_leaf, piece_of, piece_size}
use Rattle.fits_pieces.specs.Pieces.{unit_of, LoadsPiece, PiecedState}
use Rattle.fits_pieces.specs.declared.piece_fault.PieceFault.TheVariants.{Changed}
use Rattle.fits_pieces.proofs.PaintingLemmas.{some_and}
use Rattle.fits_pieces.proofs.PiecesLemmas.{fresh_of, is_piece, length-with, piece_fits, piece_loaded, pieces_put, right_piece}
use Rattle.fits_pieces.proofs.pieced_unit.PiecedUnit.load.Goals as goal

-- the bytes can be read as the piece is
pub take_piece-requires : goal.take_piece-requires
take_piece-requires c = λ long.
    let it = c.self.inside in
    let v = c.self.invariant.are in
    subst (λ l. IsLayout l c.args.bytes.items) (sym c.layout_of_piece-layout.ensures)
    (piece_fits it.layout it.gone.bytes c.args.bytes.items c.args.index v.cut.fits (long ∙ c.size_of_piece-len.ensures ∙ ap (λ n. piece_size n c.args.index) v.len_is))

-- what came is the piece
pub invariant_of-self : goal.invariant_of-self
invariant_of-self c =
    let it = c.self.inside in
    let v = c.self.invariant.are in
    let e = c.in-Ok.ensures in
    let j = c.args.index in
    let room : j < length (map is_some it.pieces.items) = subst (λ (s : PiecedState). j < length s.held) (sym c.self.view_is) c.requires.within in
    let long = e.size ∙ c.size_of_piece-len.ensures ∙ ap (λ n. piece_size n j) v.len_is in
    let w = some_and c.in-Ok.piece _ e.taken in
    let here : c.put.new.pieces.items ≡ set it.pieces.items j (Some w.0) = c.put.ensures ∙ ap (set it.pieces.items j) w.1 in
    let piece = is_piece it.layout it.gone.bytes c.args.bytes.items c.as_slice.result.now j w.0 w.2.bytes_are c.as_slice.ensures.value long (w.2.layout_is ∙ c.layout_of_piece-layout.ensures) c.read_bytes.ensures w.2.stale in
    let leaf = sym c.leaf-known.ensures ∙ e.leaf ∙ ap (λ l. bytes_leaf l c.args.bytes.items) c.layout_of_piece-layout.ensures ∙ ap (piece_leaf it.layout j) (sym w.2.bytes_are) in
    record {
      are = rw here (pieces_put it.layout it.gone.bytes it.len j it.pieces.items it.tree.leaves w.0 v (omega (arith, room, length-map it.pieces.items is_some)) piece (fresh_of w.0.stale _ w.2.stale) leaf);
      marks = c.self.invariant.marks ∙ sym (ap length here ∙ length-set it.pieces.items j (Some w.0));
    }

-- so it came into memory
pub returns-clause-ok : goal.returns-clause-ok
returns-clause-ok c =
    let it = c.self.inside in
    let v = c.self.invariant.are in
    let e = c.in-Ok.ensures in
    let j = c.args.index in
    let room : j < length (map is_some it.pieces.items) = subst (λ (s : PiecedState). j < length s.held) (sym c.self.view_is) c.requires.within in
    let away : get_or (map is_some it.pieces.items) j false ≡ false = subst (λ (s : PiecedState). get_or s.held j false ≡ false) (sym c.self.view_is) c.requires.away in
    let long = e.size ∙ c.size_of_piece-len.ensures ∙ ap (λ n. piece_size n j) v.len_is in
    let w = some_and c.in-Ok.piece _ e.taken in
    let here : c.put.new.pieces.items ≡ set it.pieces.items j (Some w.0) = c.put.ensures ∙ ap (set it.pieces.items j) w.1 in
    let piece = is_piece it.layout it.gone.bytes c.args.bytes.items c.as_slice.result.now j w.0 w.2.bytes_are c.as_slice.ensures.value long (w.2.layout_is ∙ c.layout_of_piece-layout.ensures) c.read_bytes.ensures w.2.stale in
    let leaf = sym c.leaf-known.ensures ∙ e.leaf ∙ ap (λ l. bytes_leaf l c.args.bytes.items) c.layout_of_piece-layout.ensures ∙ ap (piece_leaf it.layout j) (sym w.2.bytes_are) in
    let l = piece_loaded it.layout it.gone.bytes it.len j it.scans.total it.tree.joins it.pieces.items it.tree.leaves w.0 v room away piece (fresh_of w.0.stale _ w.2.stale) leaf
    (w.2.scans ∙ ap block_count (sym w.2.bytes_are)) w.2.reads (λ d h. w.2.joins d (subst (λ xs. block_count xs ≤ 2 ^ d) w.2.bytes_are h)) in
    let put = unit_of it.layout it.gone.bytes (set it.pieces.items j (Some w.0)) it.scans.total it.tree.joins in
    rw here (subst (λ xs. LoadsPiece j xs c.args.self.now put) w.2.bytes_are (subst (λ s. LoadsPiece j w.0.bytes s put) c.self.view_is l))

-- bytes that came are as many as the piece has
pub returns-clause-other_size : goal.returns-clause-other_size
returns-clause-other_size c = λ other.
    let it = c.self.inside in
    let v = c.self.invariant.are in
    absurd (other (c.in-Ok.ensures.size ∙ c.size_of_piece-len.ensures ∙ ap (λ n. piece_size n c.args.index) (v.len_is ∙ sym (length-with it.layout it.gone.bytes it.pieces.items v.cut) ∙ ap (λ (s : PiecedState). length s.plane.bytes) c.self.view_is)))

-- bytes that aren't as many don't come
pub returns-in-Err-clause-other_size : goal.returns-in-Err-clause-other_size
returns-in-Err-clause-other_size c = λ other.
    let it = c.self.inside in
    let v = c.self.invariant.are in
    let why : c.in-Err.fault ≡ Changed = c.in-Err.ensures.other_size (λ long. other (long ∙ c.size_of_piece-len.ensures ∙ ap (λ n. piece_size n c.args.index) (v.len_is ∙ sym (length-with it.layout it.gone.bytes it.pieces.items v.cut) ∙ ap (λ (s : PiecedState). length s.plane.bytes) c.self.view_is))) in
    cc

-- the bytes of the piece come, unless memory is refused
pub returns-in-Err-clause-right : goal.returns-in-Err-clause-right
returns-in-Err-clause-right c = λ same.
    let it = c.self.inside in
    let v = c.self.invariant.are in
    let j = c.args.index in
    let room : j < length (map is_some it.pieces.items) = subst (λ (s : PiecedState). j < length s.held) (sym c.self.view_is) c.requires.within in
    let r = right_piece it.layout it.gone.bytes it.len j it.pieces.items it.tree.leaves v (omega (arith, room, length-map it.pieces.items is_some)) c.args.bytes.items (same ∙ ap (λ (s : PiecedState). piece_of s.plane.bytes j) (sym c.self.view_is)) in
    c.in-Err.ensures.right (r.0 ∙ sym (c.size_of_piece-len.ensures ∙ ap (λ n. piece_size n j) v.len_is))
    (c.leaf-known.ensures ∙ r.1 ∙ ap (λ l. bytes_leaf l c.args.bytes.items) (sym c.layout_of_piece-layout.ensures))
