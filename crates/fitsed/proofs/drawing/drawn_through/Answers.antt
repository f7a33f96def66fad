use Rattle.std.proofs.Common.{subst}
use Rattle.fits_passing.specs.File.{IsFileOf}
use Rattle.fits_session.specs.Session.{file_of}
use Rattle.fitsed.proofs.drawing.drawn_through.Goals as goal

pub run_patch-requires-clause-whole : goal.run_patch-requires-clause-whole
run_patch-requires-clause-whole g c =
    let given = c.in_ok-session.ensures.ok in
    subst (λ bytes. IsFileOf bytes (file_of c.in_ok-session.session)) given.2.front.joined given.2
