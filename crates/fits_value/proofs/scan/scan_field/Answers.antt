use Rattle.fits_value.proofs.FieldLemmas.{found_said, found_placed}
use Rattle.fits_value.proofs.FieldOnlyLemmas.{scan_only}
use Rattle.fits_value.proofs.scan.scan_field.Goals as goal

pub returns-clause-found : goal.returns-clause-found
returns-clause-found c = found_said c.args.text.now c.scan_parts.result c.requires c.scan_parts.ensures.within c.scan_parts.ensures.value

pub returns-clause-only : goal.returns-clause-only
returns-clause-only c = scan_only c.args.text.now c.scan_parts.result c.scan_parts.ensures.value

pub returns-clause-placed : goal.returns-clause-placed
returns-clause-placed c = found_placed c.args.text.now c.scan_parts.result c.requires c.scan_parts.ensures.within c.scan_parts.ensures.value
