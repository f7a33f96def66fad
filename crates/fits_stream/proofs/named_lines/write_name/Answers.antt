use Rattle.std.proofs.Common.{◌+◌, ◌-◌, ◌≤◌, rules, subst, sym, take, drop, length}
use Rattle.std.proofs.lemmas.List.{take_rest}
use Rattle.fits_stream.specs.Named.{unnamed}
use Rattle.fits_stream.specs.Stream.{Gains, Stays}
use Rattle.fits_stream.proofs.NamedLemmas.{unnamed-names, Stays-more}
use Rattle.fits_stream.proofs.named_lines.write_name.Goals as goal

pub loop-left-preserved : goal.loop-left-preserved
loop-left-preserved g c =
    let name = c.args.name.now in
    let left = c.loop-left.left in
    let n = c.in_ok-n.n in
    let held = (g.O.Sink.state c.loop-left.sink).contents in
    let holds = (g.O.Sink.state c.write.new.self).contents in
    let within : left ≤ length name = c.loop-left.invariant.within in
    let few : n ≤ left = search rules in
    let came : Gains held holds (take n (drop (length name - left) name)) = subst (λ piece. Gains held holds (take n piece)) (take_rest name (length name - left)) c.in_ok-n.ensures.ok.bytes in
    let more : Stays (unnamed name left c.loop-left.sent.total held) (unnamed name (left - n) (c.loop-left.sent.total + n) holds) =
    unnamed-names name left c.loop-left.sent.total n held holds within few (search rules) came in
    record {
      within = search rules;
      kept = Stays-more _ _ _ c.loop-left.invariant.kept (subst (λ k. Stays (unnamed name left c.loop-left.sent.total held) (unnamed name (left - n) k holds)) (sym c.add.ensures) more);
      quiet = search rules;
    }
