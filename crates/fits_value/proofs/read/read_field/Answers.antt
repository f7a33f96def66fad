use Rattle.std.proofs.Common.{rules, ◌≡◌, false, sym}
use Rattle.fits_card.specs.Card.{is_text}
use Rattle.fits_value.proofs.SaysLemmas.{field_says-other}
use Rattle.fits_value.proofs.read.read_field.Goals as goal

pub returns-else-is_text-clause-value : goal.returns-else-is_text-clause-value
returns-else-is_text-clause-value c =
    let other : is_text c.args.text.now ≡ false = search rules in
    sym (field_says-other c.args.text.now other)
