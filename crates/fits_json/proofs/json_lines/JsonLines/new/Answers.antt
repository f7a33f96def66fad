use Rattle.fits_json.proofs.JsonLemmas.{json_begins}
use Rattle.fits_json.proofs.json_lines.JsonLines.new.Goals as goal

pub invariant_of-result : goal.invariant_of-result
invariant_of-result g c =
    json_begins c.args.name.now c.args.forms.now c.new.result.items c.none.result.bytes c.none-2.result.bytes c.new-2.result.total c.new-3.result.total
    (g.O.Sink.state c.args.sink) c.new.ensures.items c.none.ensures c.none-2.ensures
