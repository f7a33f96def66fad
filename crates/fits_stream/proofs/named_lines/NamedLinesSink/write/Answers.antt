use Rattle.std.proofs.Common.{rules}
use Rattle.fits_stream.proofs.NamedLemmas.{named_fails, named_writes}
use Rattle.fits_stream.proofs.named_lines.NamedLinesSink.write.Goals as goal

pub returns-clause-ok : goal.returns-clause-ok
returns-clause-ok g c =
    rw (← c.self.view_is) (named_writes c.write_line.result c.self.inside.name.now c.self.inside.left c.write_name.new.left c.write_line.new.left c.self.inside.sent.total c.write_name.new.sent.total c.write_line.new.sent.total
    (g.O.Sink.state c.self.inside.sink) (g.O.Sink.state c.write_name.new.sink) (g.O.Sink.state c.write_line.new.sink) c.self.inside.unflushed.total c.tick.new.self.total c.args.piece.now c.first_line-line.result.now
    c.write_name.ensures.kept c.in_ok-write_name.ensures.quiet c.write_line.ensures.ok c.write_line.ensures.quiet c.write_line.ensures.bound c.first_line-line.ensures.front (search rules) c.tick.ensures)

pub returns-clause-err : goal.returns-clause-err
returns-clause-err g c =
    rw (← c.self.view_is) (named_fails c.write_line.result c.self.inside.name.now c.self.inside.left c.write_name.new.left c.write_line.new.left c.self.inside.sent.total c.write_name.new.sent.total c.write_line.new.sent.total
    (g.O.Sink.state c.self.inside.sink) (g.O.Sink.state c.write_name.new.sink) (g.O.Sink.state c.write_line.new.sink) c.self.inside.unflushed.total c.tick.new.self.total
    c.write_name.ensures.kept c.in_ok-write_name.ensures.quiet c.write_line.ensures.kept c.write_line.ensures.failed c.tick.ensures)
