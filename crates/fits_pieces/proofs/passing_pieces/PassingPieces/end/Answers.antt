use Rattle.std.proofs.Common.{rules, arith, ◌≡◌, ◌≤◌, ◌∙◌, ◌^◌, ◌%◌, ℕ, false, ap, length, refl, subst, sym}
use Rattle.std.specs.Prelude.{is_some, map, replicate}
use Rattle.std.specs.List.{sum_by}
use Rattle.std.proofs.lemmas.List.{length-replicate}
use Rattle.fits_pixels.specs.Layout.{block_count}
use Rattle.fits_pieces.specs.Passing.{PassingState}
use Rattle.fits_pieces.specs.Piece.{pieces_in}
use Rattle.fits_pieces.specs.Pieces.{bytes_with, joins_of, ArePieces, PiecedState}
use Rattle.fits_pieces.proofs.PassingLemmas.{all_passed, bytes_away, none_counted, none_held, none_of}
use Rattle.fits_pieces.proofs.passing_pieces.PassingPieces.end.Goals as goal

-- each piece passed by
pub of-requires-clause-are : goal.of-requires-clause-are
of-requires-clause-are c =
    let it = c.self.inside in
    let v = c.self.invariant in
    let all : length it.gone.bytes ≡ it.len = ap (λ (s : PassingState). length s.bytes) c.self.view_is ∙ c.requires ∙ ap (λ (s : PassingState). s.len) (sym c.self.view_is) in
    let many : c.len.result ≡ length it.leaves.items = search rules in
    let none : c.in_ok-pieces.pieces.items ≡ none_of (length it.leaves.items) = c.in_ok-pieces.ensures ∙ ap none_of many in
    let leaves : c.in_ok-tree.tree.leaves ≡ it.leaves.items = c.in_ok-tree.ensures.leaves in
    subst (ArePieces it.layout it.gone.bytes it.len c.in_ok-pieces.pieces.items) (sym leaves)
    (subst (λ ps. ArePieces it.layout it.gone.bytes it.len ps it.leaves.items) (sym none) (all_passed it.layout it.len it.gone.bytes it.leaves.items _ it.scans.total v all))

pub returns-clause-bytes : goal.returns-clause-bytes
returns-clause-bytes c =
    let it = c.self.inside in
    let v = c.self.invariant in
    let all : length it.gone.bytes ≡ it.len = ap (λ (s : PassingState). length s.bytes) c.self.view_is ∙ c.requires ∙ ap (λ (s : PassingState). s.len) (sym c.self.view_is) in
    let many : c.len.result ≡ length it.leaves.items = search rules in
    ap (λ (s : PiecedState). s.plane.bytes) c.of.ensures ∙ ap (λ ps. bytes_with ps it.gone.bytes) c.in_ok-pieces.ensures
    ∙ bytes_away c.len.result it.gone.bytes (omega (arith, v.size, many)) ∙ ap (λ (s : PassingState). s.bytes) c.self.view_is

pub returns-clause-joins : goal.returns-clause-joins
returns-clause-joins c = λ d h.
    let it = c.self.inside in
    let v = c.self.invariant in
    let all : length it.gone.bytes ≡ it.len = ap (λ (s : PassingState). length s.bytes) c.self.view_is ∙ c.requires ∙ ap (λ (s : PassingState). s.len) (sym c.self.view_is) in
    let few : block_count it.gone.bytes ≤ 2 ^ d = subst (λ (s : PassingState). block_count s.bytes ≤ 2 ^ d) (sym c.self.view_is) h in
    let none : sum_by joins_of c.in_ok-pieces.pieces.items ≡ 0 = ap (sum_by joins_of) c.in_ok-pieces.ensures ∙ none_counted joins_of c.len.result refl in
    let size : it.len % 2880 ≡ 0 = omega (arith, v.fits.whole, length-replicate {A = ℕ} it.len 0) in
    omega (arith, ap (λ (s : PiecedState). s.plane.joins) c.of.ensures, none, c.in_ok-tree.ensures.work d (omega (arith, v.many, few, all, size)))

pub returns-clause-held : goal.returns-clause-held
returns-clause-held c =
    let it = c.self.inside in
    let v = c.self.invariant in
    let all : length it.gone.bytes ≡ it.len = ap (λ (s : PassingState). length s.bytes) c.self.view_is ∙ c.requires ∙ ap (λ (s : PassingState). s.len) (sym c.self.view_is) in
    let many : c.len.result ≡ length it.leaves.items = search rules in
    let count : length it.leaves.items ≡ pieces_in it.len = omega (arith, v.size, v.many, all) in
    ap (λ (s : PiecedState). s.held) c.of.ensures ∙ ap (map is_some) c.in_ok-pieces.ensures ∙ none_held c.len.result
    ∙ ap (λ n. replicate n false) (many ∙ count) ∙ ap (λ (s : PassingState). replicate (pieces_in s.len) false) c.self.view_is
