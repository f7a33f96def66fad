use Rattle.fits_cli.proofs.PlacesLemmas.{places_step}
use Rattle.fits_cli.proofs.places_line.places_line.Goals as goal

pub loop-place-preserved : goal.loop-place-preserved
loop-place-preserved c =
    places_step c.args.first c.loop-place.line.items c.push_number-in-loop-place.new.line.items c.args.more.now c.loop-place.place-index _ c.loop-place-test.true
    c.loop-place.invariant c.in_ok-push_number-2.ensures
