use Rattle.fits_stream.proofs.NamedLemmas.{told-named}
use Rattle.fits_stream.proofs.named_lines.NamedLines.into_inner.Goals as goal

pub returns-clause-named : goal.returns-clause-named
returns-clause-named g c = told-named c.args.self.name c.args.self.left c.args.self.sent (g.O.Sink.state c.self.inside.sink).contents.told

pub returns-clause-taken : goal.returns-clause-taken
returns-clause-taken g c = told-named c.args.self.name c.args.self.left c.args.self.sent (g.O.Sink.state c.self.inside.sink).contents.taken
