use Rattle.std.proofs.Common.{◌-◌, ◌∙◌, ap, arith}
use Rattle.fits_header.proofs.KeyLemmas.{name_in, name_noted}
use Rattle.fits_header.proofs.NoteLemmas.{note_there}
use Rattle.fits_header.proofs.indexing.name_at.Goals as goal

pub returns : goal.returns
returns c cards are = ap name_in (note_there c.args.notes.now.items cards (c.args.place - 1) c.at.result.now are (omega (arith, c.requires.from, c.requires.to)) c.at.ensures) ∙ name_noted _
