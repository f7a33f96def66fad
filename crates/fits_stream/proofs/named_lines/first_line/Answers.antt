use Rattle.std.proofs.Common.{ap, ◌∙◌, sym}
use Rattle.std.specs.List.{list_any}
use Rattle.std.specs.Prelude.{◌==◌}
use Rattle.std.proofs.lemmas.List.{take_all}
use Rattle.fits_stream.proofs.NamedLemmas.{one_line-plain}
use Rattle.fits_stream.proofs.named_lines.first_line.Goals as goal

pub returns-clause-line : goal.returns-clause-line
returns-clause-line c =
    let bytes = c.args.bytes.now in
    one_line-plain bytes (ap (λ xs. list_any (λ b. b == 10) xs) (sym (take_all c.loop-i.i bytes c.loop-i-test.false)) ∙ c.loop-i.invariant)
