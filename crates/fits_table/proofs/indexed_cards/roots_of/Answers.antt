use Rattle.std.proofs.Common.{rules, ◌≡◌, ◌+◌, ◌-◌, ◌<◌, length, get_or, ap, sym, ◌∙◌}
use Rattle.fits_table.specs.Marks.{is_marked, root_number}
use Rattle.fits_table.proofs.MarkLemmas.{card_step}
use Rattle.fits_table.proofs.indexed_cards.roots_of.Goals as goal

pub loop-i-preserved : goal.loop-i-preserved
loop-i-preserved c =
    let cards = c.args.cards.now.header.cards in
    let within : c.loop-i.i < length cards = search rules in
    let here : c.card.result ≡ get_or cards (c.loop-i.i + 1 - 1) c.card.result = search rules in
    let number = c.root_number.ensures ∙ ap root_number c.name.ensures in
    record {
      same = search rules;
      marked = card_step cards c.loop-i.i c.card.result c.loop-i.roots c.add.new.self within here c.loop-i.invariant.marked c.add.ensures.kept (ap (is_marked c.add.new.self) (sym number) ∙ c.add.ensures.marked);
    }
