use Rattle.std.proofs.Common.{rules, ◌≡◌, ◌++◌, ◌∷◌, [], ap, sym, Ok}
use Rattle.fits_extended.specs.Stands.{both, lines_in, stood}
use Rattle.fits_extended.proofs.PlainsLemmas.{lines_in-both, lines_in-more}
use Rattle.fits_extended.proofs.each.push_said.Goals as goal

pub returns-in_ok-push-in-Itself-clause-none : goal.returns-in_ok-push-in-Itself-clause-none
returns-in_ok-push-in-Itself-clause-none c =
    let added : c.push.new.self.items ≡ c.args.lines.now.items ++ c.args.line ∷ [] = search rules in
    rw c.in-Itself.is (ap Ok (sym (lines_in-more c.args.lines.now.items c.push.new.self.items c.args.line added)))

pub returns-in_ok-push-in-Line-clause-none : goal.returns-in_ok-push-in-Line-clause-none
returns-in_ok-push-in-Line-clause-none c =
    let added : c.push-in-Line.new.self.items ≡ c.args.lines.now.items ++ c.in-Line.plain ∷ [] = search rules in
    rw c.in-Line.is (ap Ok (sym (lines_in-more c.args.lines.now.items c.push-in-Line.new.self.items c.in-Line.plain added)))

pub returns-in_ok-append-in-Lines-clause-none : goal.returns-in_ok-append-in-Lines-clause-none
returns-in_ok-append-in-Lines-clause-none c =
    let added : c.append.new.self.items ≡ c.args.lines.now.items ++ c.in-Lines.plains.items = search rules in
    rw c.in-Lines.is (ap Ok (sym (lines_in-both c.args.lines.now.items c.in-Lines.plains.items c.append.new.self.items added)))
