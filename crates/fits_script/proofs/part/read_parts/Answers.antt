use Rattle.std.proofs.Common.{◌∙◌, ap, sym, Some, None}
use Rattle.fits_script.proofs.ListLemmas.{last_read, next_read, not_read}
use Rattle.fits_script.proofs.part.read_parts.Goals as goal

pub returns-in_default-read-clause-none : goal.returns-in_default-read-clause-none
returns-in_default-read-clause-none g c =
    not_read g.P.Part.reads c.args.separator c.args.text.now c.parts.rest.now c.in-Some.part.now c.in-Some.more.now c.parts.list.items c.parts.invariant c.in-Some.ensures.some.0 c.in-Some.ensures.some.1 (sym c.in_default-read.ensures)

pub parts-preserved : goal.parts-preserved
parts-preserved g c =
    next_read g.P.Part.reads c.args.separator c.args.text.now c.parts.rest.now c.in-Some.part.now c.in-Some.more.now c.parts.list.items c.push.new.self.items c.in-Some-read.item c.parts.invariant c.in-Some.ensures.some.0 c.in-Some.ensures.some.1
    (sym c.in-Some-read.ensures) c.in_ok-push.ensures.items

pub returns-in_default-read-2-clause-none : goal.returns-in_default-read-2-clause-none
returns-in_default-read-2-clause-none g c =
    last_read g.P.Part.reads c.args.separator c.args.text.now c.parts.rest.now c.parts.list.items None c.parts.invariant c.in_default.ensures.none (sym c.in_default-read-2.ensures)

pub returns-clause-some : goal.returns-clause-some
returns-clause-some g c =
    last_read g.P.Part.reads c.args.separator c.args.text.now c.parts.rest.now c.parts.list.items (Some c.in-Some-read-2.item) c.parts.invariant c.in_default.ensures.none (sym c.in-Some-read-2.ensures)
    ∙ ap Some (sym c.in_ok-push-2.ensures.items)
