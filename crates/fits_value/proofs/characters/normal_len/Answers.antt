use Rattle.std.proofs.Common.{rules, arith}
use Rattle.fits_value.proofs.NormalLemmas.{normal_form-none, normal_form-other, spaces_behind}
use Rattle.fits_value.proofs.characters.normal_len.Goals as goal

pub returns-then-len-eq0-clause-value : goal.returns-then-len-eq0-clause-value
returns-then-len-eq0-clause-value c = normal_form-none c.args.text.now c.trimmed_len-len.result _ c.trimmed_len-len.ensures.value c.if-len-eq0.true (search rules)

pub returns-then-len-eq0-clause-spaces : goal.returns-then-len-eq0-clause-spaces
returns-then-len-eq0-clause-spaces c = spaces_behind c.args.text.now c.trimmed_len-len.result _ c.trimmed_len-len.ensures.value (omega arith)

pub returns-else-len-eq0-clause-value : goal.returns-else-len-eq0-clause-value
returns-else-len-eq0-clause-value c = normal_form-other c.args.text.now c.trimmed_len-len.result c.trimmed_len-len.ensures.value c.if-len-eq0.false

pub returns-else-len-eq0-clause-spaces : goal.returns-else-len-eq0-clause-spaces
returns-else-len-eq0-clause-spaces c = spaces_behind c.args.text.now c.trimmed_len-len.result _ c.trimmed_len-len.ensures.value (omega arith)
