use Rattle.std.proofs.Common.{◌≡◌, ◌+◌, ◌*◌, ◌++◌, ◌∙◌, arith, length, List, refl, take, ℕ}
use Rattle.std.proofs.lemmas.List.{length-append, length-take}
use Rattle.fits_pieces.specs.Piece.{pieces_in}
use Rattle.fits_unit.specs.DataUnit.{unit_at}
use Rattle.fits_unit.proofs.AgainLemmas.{unit_long}
use Rattle.fits_planning.proofs.HduLemmas.{pieces_end, pieces_more, pieces_none}
use Rattle.fits_planning.proofs.hdu.plan_unit.Goals as goal

pub loop-index-init : goal.loop-index-init
loop-index-init g c = record {
  plan = λ told after is lies here front. pieces_none told after _ front;
  len = refl;
  quiet = refl;
  follows = λ xs is. is;
}

pub loop-index-preserved : goal.loop-index-preserved
loop-index-preserved g c =
    let inv = c.loop-index.invariant in
    let p = c.plan_piece.ensures in
    let j : ℕ = c.loop-index.index in
    record {
      plan = λ told after is lies here front.
          let hdu = c.args.hdu.now in
          let unit : List ℕ = unit_at told hdu.plane.bytes hdu.absent in
          let done : List ℕ = take (46080 * j) unit in
          let at : length (after ++ done) ≡ c.args.place + 46080 * j = omega (arith, here, length-append after done, length-take (46080 * j) unit, unit_long told hdu.plane.bytes hdu.absent lies, c.loop-index-test.true, c.piece_count-index-end.ensures) in
          pieces_more told after unit _ j (c.in_ok-plan_piece.ensures.plan told (after ++ done) is lies at (inv.plan told after (p.follows told is) lies here front));
      len = p.len ∙ inv.len;
      quiet = c.in_ok-plan_piece.ensures.quiet ∙ inv.quiet;
      follows = λ xs is. inv.follows xs (p.follows xs is);
    }

pub returns-in_err-plan_piece-clause-follows : goal.returns-in_err-plan_piece-clause-follows
returns-in_err-plan_piece-clause-follows g c = λ xs is. c.loop-index.invariant.follows xs (c.plan_piece.ensures.follows xs is)

pub returns-clause-plan : goal.returns-clause-plan
returns-clause-plan g c told after is lies here front =
    let hdu = c.args.hdu.now in
    let unit : List ℕ = unit_at told hdu.plane.bytes hdu.absent in
    let j : ℕ = c.loop-index.index in
    let all : j ≡ pieces_in (length unit) = omega (arith, c.loop-index-test.false, c.loop-index.auto.index-end, c.piece_count-index-end.ensures, unit_long told hdu.plane.bytes hdu.absent lies) in
    pieces_end told after unit _ j all (c.loop-index.invariant.plan told after is lies here front)
