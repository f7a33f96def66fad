use Rattle.std.proofs.Common.{◌≡◌, ◌+◌, Some, length, ap, ◌∙◌, Ok, sym, arith, length-append}
use Rattle.fits_rules.specs.Shape.{axis_of}
use Rattle.fits_rules.specs.ShapeSteps.{cards_left}
use Rattle.fits_rules.proofs.ShapeLemmas.{reads_header, reads_both}
use Rattle.fits_rules.proofs.AxesLemmas.{axes_more, axis_within}
use Rattle.fits_rules.proofs.rules.read_axes.Goals as goal

pub loop-i-preserved : goal.loop-i-preserved
loop-i-preserved c =
    let cards = cards_left c.args.cards.now.header.cards c.args.change in
    let here : Some c.in-Some.number ≡ axis_of cards (c.loop-i.i + 1) = c.in-Some.ensures.value ∙ ap (λ cs. axis_of cs (c.loop-i.i + 1)) (reads_header c.args.cards.now c.loop-i.cards c.loop-i.i c.args.change c.loop-i.invariant.work) in
    record {
      work = reads_both c.args.cards.now c.loop-i.cards c.axis.new.cards c.loop-i.i 1 (c.loop-i.i + 1) c.loop-i.invariant.work c.axis.ensures.work (omega arith);
      taken = axes_more cards c.loop-i.i c.in-Some.number c.loop-i.axes c.loop-i.invariant.taken here ∙ ap Ok (sym c.push.ensures);
      count = ap length c.push.ensures ∙ simp length-append (omega arith);
      within = omega (arith, axis_within cards (c.loop-i.i + 1) c.in-Some.number here);
    }
