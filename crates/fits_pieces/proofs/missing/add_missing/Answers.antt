use Rattle.std.proofs.Common.{arith, ◌≡◌, ◌<◌, ◌∙◌, None, false, ap, get_or, length, sym}
use Rattle.std.specs.Prelude.{is_some, map, not}
use Rattle.std.proofs.lemmas.Bool.{false≢true}
use Rattle.std.proofs.lemmas.List.{get_or-map, get_or_default}
use Rattle.fits_pieces.proofs.MissingLemmas.{filter-more}
use Rattle.fits_pieces.proofs.missing.add_missing.Goals as goal

-- one piece more is added, if it isn't in memory
pub loop-j-preserved : goal.loop-j-preserved
loop-j-preserved c =
    let pieces = c.args.pieces.now.items in
    let j = c.loop-j.j in
    let v = c.loop-j.invariant in
    let room : j < length pieces = omega (arith, c.loop-j-test.true, c.requires) in
    let held : get_or (map is_some pieces) j false ≡ c.is_held.result = get_or-map is_some pieces j None false room ∙ ap is_some (sym (c.index.ensures ∙ get_or_default pieces j _ None room)) ∙ sym c.is_held.ensures in
    record {
      found = filter-more (λ i. not (get_or (map is_some pieces) i false)) c.args.from j c.is_held.result c.args.found.now.items c.loop-j.found.items c.add_piece.new.found.items v.low (ap not held) v.found c.in_ok-add_piece.ensures.value;
      low = omega (arith, v.low);
      limit = omega (arith, c.loop-j-test.true);
    }

-- where all are in memory none is added
pub returns-in_err-add_piece-clause-at_once : goal.returns-in_err-add_piece-clause-at_once
returns-in_err-add_piece-clause-at_once c = λ all.
    let pieces = c.args.pieces.now.items in
    let j = c.loop-j.j in
    let room : j < length pieces = omega (arith, c.loop-j-test.true, c.requires) in
    let held : get_or (map is_some pieces) j false ≡ c.is_held.result = get_or-map is_some pieces j None false room ∙ ap is_some (sym (c.index.ensures ∙ get_or_default pieces j _ None room)) ∙ sym c.is_held.ensures in
    absurd (false≢true (c.in_err-add_piece.ensures.at_once (sym held ∙ all j c.loop-j.invariant.low c.loop-j-test.true)))
