use Rattle.std.proofs.Common.{◌++◌, ◌∙◌, ap, rules}
use Rattle.fits_json.proofs.JsonLemmas.{takes_end, takes_part}
use Rattle.fits_json.proofs.json_lines.take_line.Goals as goal

pub returns-then-is_empty-clause-taken : goal.returns-then-is_empty-clause-taken
returns-then-is_empty-clause-taken g c =
    takes_part c.args.name.now c.args.forms.now c.args.piece.now c.args.held.now.items c.extend_from_slice.new.self.items c.args.passed.now.bytes
    c.len_before-len.result (g.O.Sink.state c.args.sink.now).contents c.len_before-len.ensures.value
    (c.in_ok-extend_from_slice.ensures.items ∙ ap (λ xs. c.args.held.now.items ++ xs) c.split_at.ensures.front)

pub returns-clause-taken : goal.returns-clause-taken
returns-clause-taken g c =
    takes_end c.args.name.now c.args.forms.now c.args.piece.now c.args.held.now.items c.extend_from_slice.new.self.items c.deref.result.now c.clear.new.self.items
    c.args.passed.now.bytes c.pass_on.new.passed.bytes c.len_before-len.result (g.O.Sink.state c.args.sink.now).contents (g.O.Sink.state c.pass_on.new.sink).contents
    c.len_before-len.ensures.value (search rules)
    (c.in_ok-extend_from_slice.ensures.items ∙ ap (λ xs. c.args.held.now.items ++ xs) c.split_at.ensures.front)
    c.deref.ensures.value c.clear.ensures.items c.in_ok-pass_on.ensures.passed c.in_ok-pass_on.ensures.ok.bytes c.in_ok-pass_on.ensures.reads
