use Rattle.std.proofs.Common.{◌∙◌, ap, arith, length}
use Rattle.std.proofs.lemmas.List.{length-map}
use Rattle.fits_header.specs.Notes.{note_of}
use Rattle.fits_header.proofs.FindingLemmas.{surroundings-found}
use Rattle.fits_header.proofs.MarkedLinkLemmas.{links-of_notes}
use Rattle.fits_header.proofs.survey.mark_all.Goals as goal

pub returns-clause-found : goal.returns-clause-found
returns-clause-found c cards is index =
    surroundings-found cards c.mark_links.new.surroundings c.mark_repeats.new.surroundings
    (omega (arith, c.mark_repeats.ensures.len, c.mark_links.ensures.len, c.requires.each, ap length is, length-map cards note_of))
    (omega (arith, c.mark_links.ensures.len, c.requires.each, ap length is, length-map cards note_of))
    (c.mark_links.ensures.links ∙ links-of_notes c.args.notes.now.items cards is) (c.mark_repeats.ensures.marked cards index)
