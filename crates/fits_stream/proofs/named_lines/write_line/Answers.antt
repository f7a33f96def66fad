use Rattle.std.proofs.Common.{rules}
use Rattle.std.proofs.lemmas.Bool.{ne_eqb}
use Rattle.fits_stream.proofs.NamedLemmas.{unnamed-ended, unnamed-going_on}
use Rattle.fits_stream.proofs.named_lines.write_line.Goals as goal

pub returns-then-ends_line-clause-ok : goal.returns-then-ends_line-clause-ok
returns-then-ends_line-clause-ok g c =
    unnamed-ended c.args.name.now c.args.left.now c.args.sent.now.total c.add.new.self.total c.in_ok-n.n _ _ c.args.line.now c.split_at.result.0.now
    c.requires.named c.requires.line (search rules) (ne_eqb c.in_ok-n.n 0 c.if-n-eq0.false) (search rules) (search rules) c.add.ensures c.in_ok-n.ensures.ok.bytes

pub returns-else-ends_line-clause-ok : goal.returns-else-ends_line-clause-ok
returns-else-ends_line-clause-ok g c =
    unnamed-going_on c.args.name.now c.args.left.now c.args.sent.now.total c.add.new.self.total c.in_ok-n.n _ _ c.args.line.now c.split_at.result.0.now
    c.requires.named c.requires.line (search rules) (ne_eqb c.in_ok-n.n 0 c.if-n-eq0.false) (search rules) (search rules) c.add.ensures c.in_ok-n.ensures.ok.bytes
