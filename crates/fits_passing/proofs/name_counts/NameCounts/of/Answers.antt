use Rattle.std.proofs.Common.{[], ◌∷◌, ◌++◌, take, arith, sym, subst}
use Rattle.std.proofs.lemmas.List.{length-map, length-take-le, take_all}
use Rattle.fits_passing.specs.declared.findings.Findings.{Findings}
use Rattle.fits_passing.specs.NameCounts.{IsTableOf}
use Rattle.fits_passing.specs.Report.{found_names}
use Rattle.fits_passing.proofs.NameLemmas.{names_push}
use Rattle.fits_passing.proofs.NameCountLemmas.{count_push, table_alike, table_empty}
use Rattle.fits_passing.proofs.name_counts.NameCounts.of.Goals as goal

pub enter-requires : goal.enter-requires
enter-requires c = record {
  few = record {
    names = found_names (take c.loop-it.it-index c.args.found.now);
    table = c.loop-it.invariant;
    few = omega (arith, length-map (take c.loop-it.it-index c.args.found.now) (λ (it : Findings). it.name), length-take-le c.loop-it.it-index c.args.found.now c.loop-it.auto.it-index-end);
  };
}

pub loop-it-init : goal.loop-it-init
loop-it-init c = table_empty c.new-counts.result.numbers.entries c.new-counts.ensures

pub loop-it-preserved : goal.loop-it-preserved
loop-it-preserved c =
    let front = found_names (take c.loop-it.it-index c.args.found.now) in
    let fs = c.enter.new.self.numbers.entries in
    let name = c.it-item.result.name in
    subst (λ names. IsTableOf names fs) (sym (names_push c.args.found.now c.loop-it.it-index c.it-item.result c.loop-it-test.true c.it-item.is))
    (table_alike (name ∷ front) (front ++ name ∷ []) fs (λ one. count_push one front name) (c.in_ok-enter.ensures.ok.table front c.loop-it.invariant))

pub returns : goal.returns
returns c = subst (λ found. IsTableOf (found_names found) c.loop-it.counts.numbers.entries) (take_all c.loop-it.it-index c.args.found.now c.loop-it-test.false) c.loop-it.invariant
