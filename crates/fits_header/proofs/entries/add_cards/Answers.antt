use Rattle.std.proofs.Common.{◌+◌, ◌∙◌, ap, arith, subst}
use Rattle.std.proofs.lemmas.Grind.{common_steps}
use Rattle.std.proofs.lemmas.List.{take_all}
use Rattle.fits_header.specs.Index.{added, entry_of}
use Rattle.fits_header.specs.Names.{AreNamed}
use Rattle.fits_header.proofs.EntriesLemmas.{same-more, same-done}
use Rattle.fits_header.proofs.OpenLemmas.{named_push}
use Rattle.fits_header.proofs.entries.add_cards.Goals as goal

pub loop-index-preserved : goal.loop-index-preserved
loop-index-preserved c =
    let card = c.index-cards-index.result in
    let is = c.add.ensures.items ∙ ap (added c.loop-index.entries.items) (c.entry_of.ensures.value ∙ ap (λ x. entry_of x (c.args.place + c.loop-index.index)) c.index-cards-index.is) in
    record {
      sorted = c.add.ensures.sorted;
      room = grind (arith, common_steps);
      len = omega arith;
      named = named_push c.args.cards.now c.loop-index.index card c.loop-index-test.true c.loop-index.invariant.named c.index-cards-index.is c.entry_of.ensures.name;
      same = λ xs zs size was.
          same-more c.loop-index.entries.items c.add.new.entries.items c.args.place xs zs c.args.cards.now c.loop-index.index card size c.loop-index-test.true is (c.loop-index.invariant.same xs zs size was);
    }

pub returns-clause-named : goal.returns-clause-named
returns-clause-named c = subst AreNamed (take_all c.loop-index.index c.args.cards.now c.loop-index-test.false) c.loop-index.invariant.named

pub returns-clause-same : goal.returns-clause-same
returns-clause-same c xs zs size was = same-done c.loop-index.entries.items c.args.place xs zs c.args.cards.now c.loop-index.index size c.loop-index-test.false (c.loop-index.invariant.same xs zs size was)
