use Rattle.std.proofs.Common.{rules, ◌≡◌, sym, ◌∙◌}
use Rattle.fits_table.specs.Print.{print_of_title}
use Rattle.fits_table.proofs.PrintLemmas.{none_marked}
use Rattle.fits_table.proofs.title.Title.may_be_in.Goals as goal

pub returns : goal.returns
returns c = λ names all fails.
    let is : c.self.inside.print ≡ print_of_title c.args.self.now = search rules in
    none_marked c.args.marks.now names c.args.self.now c.self.inside.print is all (sym c.has.ensures ∙ fails)
