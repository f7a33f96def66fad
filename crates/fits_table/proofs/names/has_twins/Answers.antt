use Rattle.std.proofs.Common.{refl}
use Rattle.fits_table.specs.Marks.{is_name_marked}
use Rattle.fits_table.proofs.MarkLemmas.{all_step, name_kept}
use Rattle.fits_table.proofs.NameLemmas.{no_twins, twins_step}
use Rattle.fits_table.proofs.names.has_twins.Goals as goal

pub loop-i-init : goal.loop-i-init
loop-i-init c = record { found = no_twins c.args.names.now; marked = refl }

pub loop-i-preserved : goal.loop-i-preserved
loop-i-preserved c = record {
  found = twins_step c.args.names.now c.loop-i.i _ _ c.loop-i.found c.has_twin-found.result c.loop-i-test.true c.index-names-i.is c.split_at.ensures.front c.has_twin-found.ensures c.loop-i.invariant.found;
  marked = all_step (is_name_marked c.loop-i.marks) (is_name_marked c.mark.new.marks) c.args.names.now c.loop-i.i _ c.loop-i-test.true c.index-names-i.is c.loop-i.invariant.marked (name_kept _ _ c.mark.ensures.kept) c.mark.ensures.marked;
}
