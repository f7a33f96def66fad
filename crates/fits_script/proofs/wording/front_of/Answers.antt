use Rattle.std.proofs.Common.{sym}
use Rattle.std.proofs.lemmas.List.{take_all}
use Rattle.fits_script.proofs.wording.front_of.Goals as goal

pub returns-then-word-le-SHOWN : goal.returns-then-word-le-SHOWN
returns-then-word-le-SHOWN c = sym (take_all 32 c.args.word.now c.if-word-le-SHOWN.true)
