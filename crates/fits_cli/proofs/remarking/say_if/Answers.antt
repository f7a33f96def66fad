use Rattle.std.proofs.Common.{List, ℕ, ◌∙◌, subst, sym}
use Rattle.fits_cli.proofs.RemarkLemmas.{said_of_done, said_of_refused, IsSaid-none}
use Rattle.fits_cli.specs.Remark.{IsSaid}
use Rattle.fits_cli.proofs.remarking.say_if.Goals as goal

pub returns-then-counts_as_refused : goal.returns-then-counts_as_refused
returns-then-counts_as_refused g c =
    subst (λ (text : List ℕ). IsSaid text (g.E.Sink.state c.args.sink.now) (g.E.Sink.state c.say_to.new.sink))
    (said_of_refused c.args.line.now c.args.number c.args.reply.now (sym c.counts_as_refused.ensures ∙ c.if-counts_as_refused.true)) c.say_to.ensures

pub returns-else-counts_as_refused : goal.returns-else-counts_as_refused
returns-else-counts_as_refused g c =
    subst (λ (text : List ℕ). IsSaid text (g.E.Sink.state c.args.sink.now) (g.E.Sink.state c.args.sink.now))
    (said_of_done c.args.line.now c.args.number c.args.reply.now (sym c.counts_as_refused.ensures ∙ c.if-counts_as_refused.false)) (IsSaid-none (g.E.Sink.state c.args.sink.now))
