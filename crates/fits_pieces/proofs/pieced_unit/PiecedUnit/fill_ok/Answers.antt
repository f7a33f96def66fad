use Rattle.std.proofs.Common.{◌≡◌, ◌-◌, ◌*◌, ◌∙◌, ℕ, None, ap, arith, drop, length, nat_eq, rules}
use Rattle.std.specs.List.{list_all}
use Rattle.std.specs.Prelude.{is_some}
use Rattle.std.proofs.lemmas.List.{get_or_default}
use Rattle.fits_pieces.specs.Pieces.{PiecedState}
use Rattle.fits_pieces.proofs.ReadingLemmas.{last_held}
use Rattle.fits_pieces.proofs.pieced_unit.PiecedUnit.fill_ok.Goals as goal

-- the last piece begins before the fill
pub overflow_sub-from : goal.overflow_sub-from
overflow_sub-from c =
    let it = c.self.inside in
    let n : ℕ = c.len-last.result in
    let many : n ≡ length it.pieces.items = search rules in
    let w = last_held it.layout it.gone.bytes it.pieces.items it.scans.total it.tree.joins n (n - 1) c.args.self.now c.self.invariant.are.cut c.self.view_is many (omega arith) c.requires.last c.requires.within in
    w.begun

-- it is in memory
pub bytes-requires : goal.bytes-requires
bytes-requires c =
    let it = c.self.inside in
    let n : ℕ = c.len-last.result in
    let many : n ≡ length it.pieces.items = search rules in
    let w = last_held it.layout it.gone.bytes it.pieces.items it.scans.total it.tree.joins n (n - 1) c.args.self.now c.self.invariant.are.cut c.self.view_is many (omega arith) c.requires.last c.requires.within in
    record { held = ap is_some (c.index.ensures ∙ get_or_default it.pieces.items (n - 1) _ None w.index ∙ w.is) }

-- all of the fill is in it
pub ends_in-requires : goal.ends_in-requires
ends_in-requires c =
    let it = c.self.inside in
    let n : ℕ = c.len-last.result in
    let many : n ≡ length it.pieces.items = search rules in
    let w = last_held it.layout it.gone.bytes it.pieces.items it.scans.total it.tree.joins n (n - 1) c.args.self.now c.self.invariant.are.cut c.self.view_is many (omega arith) c.requires.last c.requires.within in
    let bytes = c.bytes.ensures w.it (c.index.ensures ∙ get_or_default it.pieces.items (n - 1) _ None w.index ∙ w.is) in
    omega (arith, w.room, ap length bytes)

-- it is behind the bytes that are used
pub returns : goal.returns
returns c =
    let it = c.self.inside in
    let n : ℕ = c.len-last.result in
    let many : n ≡ length it.pieces.items = search rules in
    let w = last_held it.layout it.gone.bytes it.pieces.items it.scans.total it.tree.joins n (n - 1) c.args.self.now c.self.invariant.are.cut c.self.view_is many (omega arith) c.requires.last c.requires.within in
    let bytes = c.bytes.ensures w.it (c.index.ensures ∙ get_or_default it.pieces.items (n - 1) _ None w.index ∙ w.is) in
    c.ends_in.ensures ∙ ap (λ xs. list_all (nat_eq it.layout.fill) (drop (it.layout.used - 46080 * (n - 1)) xs)) bytes
    ∙ ap (list_all (nat_eq it.layout.fill)) w.rest
    ∙ ap (λ (s : PiecedState). list_all (nat_eq s.plane.layout.fill) (drop s.plane.layout.used s.plane.bytes)) c.self.view_is
