use Rattle.fits_json.proofs.JsonLemmas.{json_flushed}
use Rattle.fits_json.proofs.json_lines.JsonLinesSink.flush.Goals as goal

pub invariant_of-self : goal.invariant_of-self
invariant_of-self g c =
    json_flushed c.self.inside.name.now c.self.inside.forms.now c.self.inside.held.items c.self.inside.told.bytes c.self.inside.passed.bytes c.self.inside.failed.total
    c.self.inside.unflushed.total c.new-self-inside.result.total (g.O.Sink.state c.self.inside.sink) (g.O.Sink.state c.flush.new.self) c.self.invariant c.in-Ok.ensures.ok
