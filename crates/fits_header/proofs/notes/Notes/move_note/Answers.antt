use Rattle.std.proofs.Common.{◌∙◌, ap, sym}
use Rattle.fits_header.specs.Notes.{total_in}
use Rattle.fits_header.proofs.ChangeLemmas.{All-moved}
use Rattle.fits_header.proofs.TotalLemmas.{IsSmall, total-moved}
use Rattle.fits_header.proofs.notes.Notes.move_note.Goals as goal

pub invariant_of-self : goal.invariant_of-self
invariant_of-self c = record {
  total = c.self.invariant.total ∙ sym (ap total_in c.move_item.ensures.items ∙ total-moved c.self.inside.notes.items c.args.from c.args.to);
  each = rw c.move_item.ensures.items (All-moved IsSmall c.self.inside.notes.items c.args.from c.args.to c.self.invariant.each);
}
