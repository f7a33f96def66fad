use Rattle.std.proofs.Common.{◌-◌, ◌∙◌, ap, arith, length, length-set}
use Rattle.fits_header.proofs.NoteLemmas.{notes-more}
use Rattle.fits_header.proofs.notes.write_notes.Goals as goal

pub loop-index-preserved : goal.loop-index-preserved
loop-index-preserved c = record {
  notes = c.set.ensures.items ∙ notes-more c.args.notes.now.items c.loop-index.notes.items c.args.cards.now (c.args.place - 1) c.loop-index.index c.note_of.result c.index-cards-index.result c.loop-index.invariant.notes (omega arith) c.loop-index-test.true c.note_of.ensures c.index-cards-index.is;
  len = ap length c.set.ensures.items ∙ (length-set c.loop-index.notes.items _ c.note_of.result ∙ c.loop-index.invariant.len);
  room = c.set.ensures.room ∙ c.loop-index.invariant.room;
}
