use Rattle.std.proofs.Common.{◌<◌, ◌∙◌, None, ap, arith, below_more, false, get_or, length, sym, subst}
use Rattle.std.proofs.lemmas.Result.{err_from_is_err_and}
use Rattle.fits_pixels.specs.declared.layout.Layout.{Layout}
use Rattle.fits_pixels.specs.Layout.{IsLayout}
use Rattle.fits_unit.proofs.PartLoadLemmas.{holds_then, index_is, lies_still, loads_more, loads_part, missing_index, none_missing}
use Rattle.fits_unit.proofs.part_load.load_pieces.Goals as goal

pub load_piece-requires-clause-reach : goal.load_piece-requires-clause-reach
load_piece-requires-clause-reach g c = omega (arith, c.requires.part.within, (c.loop-n.invariant.loads None).size)

pub load_piece-requires-clause-index : goal.load_piece-requires-clause-index
load_piece-requires-clause-index g c =
    let bound : c.loop-n.n < length c.in-Ok.missing.items = omega (arith, c.loop-n-test.true, c.len-n-end.ensures, c.in-Ok.missing.ok.0) in
    missing_index c.args.axes.now c.args.lo.now c.args.hi.now c.args.unit.now.plane.layout c.args.unit.now.held c.loop-n.unit.held c.in-Ok.missing.items c.loop-n.n c.index.result.now c.in-Ok.ensures.value bound (index_is c.in-Ok.missing.items c.loop-n.n c.index.result.now c.index.ensures bound) c.loop-n.invariant.many

pub returns-in_err-load_piece-clause-part : goal.returns-in_err-load_piece-clause-part
returns-in_err-load_piece-clause-part g c = loads_part c.args.place c.args.unit.now c.load_piece.new.unit (λ blank. loads_more _ _ _ (c.loop-n.invariant.loads blank) (c.load_piece.ensures.loads blank)) c.requires.part

pub returns-in_err-load_piece-clause-loads : goal.returns-in_err-load_piece-clause-loads
returns-in_err-load_piece-clause-loads g c = λ blank. loads_more _ _ _ (c.loop-n.invariant.loads blank) (c.load_piece.ensures.loads blank)

pub returns-in_err-load_piece-clause-same : goal.returns-in_err-load_piece-clause-same
returns-in_err-load_piece-clause-same g c = λ told is lies.
    c.load_piece.ensures.same told is (lies_still told c.args.place None c.args.unit.now c.loop-n.unit (c.loop-n.invariant.loads None) lies)
    ∙ c.loop-n.invariant.same told (c.load_piece.ensures.follows told is) lies

pub returns-in_err-load_piece-clause-idle : goal.returns-in_err-load_piece-clause-idle
returns-in_err-load_piece-clause-idle g c = λ holds. absurd (omega (arith, none_missing c.args.axes.now c.args.lo.now c.args.hi.now c.args.unit.now.plane.layout c.args.unit.now.held c.in-Ok.missing.items c.in-Ok.ensures.value holds, c.loop-n-test.true, c.len-n-end.ensures, c.in-Ok.missing.ok.0))

pub returns-in_err-load_piece-clause-at_once : goal.returns-in_err-load_piece-clause-at_once
returns-in_err-load_piece-clause-at_once g c = λ holds. absurd (omega (arith, none_missing c.args.axes.now c.args.lo.now c.args.hi.now c.args.unit.now.plane.layout c.args.unit.now.held c.in-Ok.missing.items c.in-Ok.ensures.value holds, c.loop-n-test.true, c.len-n-end.ensures, c.in-Ok.missing.ok.0))

pub returns-in_err-load_piece-clause-steady : goal.returns-in_err-load_piece-clause-steady
returns-in_err-load_piece-clause-steady g c = λ told is lies.
    let steady = c.in_err-load_piece.ensures.steady told is (lies_still told c.args.place None c.args.unit.now c.loop-n.unit (c.loop-n.invariant.loads None) lies) in
    let exit = err_from_is_err_and c.from_residual.result c.from_residual.ensures.1 in
    rw (exit.1, exit.2) steady

pub returns-in_err-load_piece-clause-follows : goal.returns-in_err-load_piece-clause-follows
returns-in_err-load_piece-clause-follows g c = λ bytes is. c.loop-n.invariant.follows bytes (c.load_piece.ensures.follows bytes is)

pub loop-n-preserved : goal.loop-n-preserved
loop-n-preserved g c =
    let inv = c.loop-n.invariant in
    let bound : c.loop-n.n < length c.in-Ok.missing.items = omega (arith, c.loop-n-test.true, c.len-n-end.ensures, c.in-Ok.missing.ok.0) in
    record {
      loads = λ blank. loads_more _ _ _ (inv.loads blank) (c.load_piece.ensures.loads blank);
      many = c.load_piece.ensures.many ∙ inv.many;
      got = below_more _ _ (λ k b. (c.load_piece.ensures.loads None).more _ (inv.got k b)) (ap (λ i. get_or c.load_piece.new.unit.held i false) (sym (index_is c.in-Ok.missing.items c.loop-n.n c.index.result.now c.index.ensures bound)) ∙ c.in_ok-load_piece.ensures.held);
      same = λ told is lies. c.load_piece.ensures.same told is (lies_still told c.args.place None c.args.unit.now c.loop-n.unit (inv.loads None) lies) ∙ inv.same told (c.load_piece.ensures.follows told is) lies;
      begun = λ e. absurd (omega (arith, e));
      quiet = c.in_ok-load_piece.ensures.quiet ∙ inv.quiet;
      follows = λ bytes is. inv.follows bytes (c.load_piece.ensures.follows bytes is);
      looked = c.load_piece.ensures.looked ∙ inv.looked;
      wide = c.load_piece.ensures.room ∙ inv.wide;
    }

pub returns-clause-part : goal.returns-clause-part
returns-clause-part g c = loads_part c.args.place c.args.unit.now c.loop-n.unit c.loop-n.invariant.loads c.requires.part

pub returns-clause-held : goal.returns-clause-held
returns-clause-held g c =
    let fits : IsLayout c.args.unit.now.plane.layout c.args.unit.now.plane.bytes = subst (λ (l : Layout). IsLayout l c.args.unit.now.plane.bytes) c.layout.ensures.value c.layout.ensures.fits in
    holds_then c.args.axes.now c.args.lo.now c.args.hi.now c.args.place c.loop-n.n c.args.unit.now c.loop-n.unit c.in-Ok.missing.items fits (sym c.piece_count.ensures.held ∙ c.piece_count.ensures.count) c.loop-n.invariant.loads c.in-Ok.ensures.value (omega (arith, c.loop-n-test.false, c.len-n-end.ensures, c.in-Ok.missing.ok.0)) c.loop-n.invariant.got

pub returns-clause-idle : goal.returns-clause-idle
returns-clause-idle g c = λ holds. c.loop-n.invariant.begun (omega (arith, none_missing c.args.axes.now c.args.lo.now c.args.hi.now c.args.unit.now.plane.layout c.args.unit.now.held c.in-Ok.missing.items c.in-Ok.ensures.value holds, c.loop-n.auto.n-end, c.len-n-end.ensures, c.in-Ok.missing.ok.0))
