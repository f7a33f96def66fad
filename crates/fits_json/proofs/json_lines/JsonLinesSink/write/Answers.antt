use Rattle.fits_json.proofs.JsonLemmas.{json_written}
use Rattle.fits_json.proofs.json_lines.JsonLinesSink.write.Goals as goal

pub invariant_of-self : goal.invariant_of-self
invariant_of-self g c =
    json_written c.self.inside.name.now c.self.inside.forms.now c.args.piece.now c.split_at.result.0.now c.self.inside.held.items c.take_line.new.held.items
    c.self.inside.told.bytes c.add.new.self.bytes c.self.inside.passed.bytes c.take_line.new.passed.bytes c.in-Ok.count
    c.self.inside.failed.total c.self.inside.unflushed.total c.tick.new.self.total (g.O.Sink.state c.self.inside.sink) (g.O.Sink.state c.take_line.new.sink)
    c.self.invariant c.in-Ok.ensures.taken c.split_at.ensures.front c.add.ensures c.tick.ensures
