use Rattle.std.proofs.Common.{◌≡◌, ◌∙◌, [], ap, arith, get_or, length}
use Rattle.std.proofs.lemmas.List.{get_or_default, length-map}
use Rattle.fits_header.specs.Notes.{note_of}
use Rattle.fits_header.proofs.NoteLemmas.{note_there}
use Rattle.fits_header.proofs.OpenLemmas.{entries_push, named_push}
use Rattle.fits_header.proofs.entries.noted_entries.Goals as goal

pub loop-index-preserved : goal.loop-index-preserved
loop-index-preserved c =
    let cards = c.args.cards.now.header.cards in
    let i = c.loop-index.index in
    let card = get_or cards i [] in
    let size : length c.args.notes.now.items ≡ length cards = ap length c.requires ∙ length-map cards note_of in
    let is = note_there c.args.notes.now.items cards i c.at.result.now c.requires (omega arith) c.at.ensures in
    let at : card ≡ get_or cards i card = get_or_default cards i [] card (omega (arith, size)) in
    record {
      value = c.in_ok-push.ensures.items ∙ entries_push cards c.loop-index.entries.items _ i card (omega (arith, size)) c.loop-index.invariant.value at (c.noted_entry.ensures.value card is);
      named = named_push cards i card (omega (arith, size)) c.loop-index.invariant.named at (c.noted_entry.ensures.name card is);
    }
