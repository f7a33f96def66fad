use Rattle.std.proofs.Common.{◌∙◌}
use Rattle.fits_unit.proofs.PartLoadLemmas.{known_at, some_begun}
use Rattle.fits_unit.proofs.data_unit.DataUnit.load_away.Goals as goal

pub returns-clause-same : goal.returns-clause-same
returns-clause-same g c = λ told is lies.
    let begun = c.in_ok-begin_part.ensures in
    let mid = c.begin_part.new.self in
    let was = c.load_in_part.ensures.follows told is in
    c.load_in_part.ensures.same told is (begun.lies told was lies)
    ∙ known_at told mid.plane.bytes mid.absent begun.begins.absence begun.begins.is begun.begins.known
    ∙ begun.same told was lies

pub returns-clause-lies : goal.returns-clause-lies
returns-clause-lies g c = λ told is lies. c.load_in_part.ensures.lies told is (c.in_ok-begin_part.ensures.lies told (c.load_in_part.ensures.follows told is) lies)

pub returns-clause-loads : goal.returns-clause-loads
returns-clause-loads g c = some_begun c.args.self.now c.begin_part.new.self c.load_in_part.new.self c.in_ok-begin_part.ensures.begins c.requires.away c.load_in_part.ensures.loads c.layout-fits.ensures.fits.whole

pub returns-clause-steady : goal.returns-clause-steady
returns-clause-steady g c = λ told is lies. c.load_in_part.ensures.steady told is (c.in_ok-begin_part.ensures.lies told (c.load_in_part.ensures.follows told is) lies)

pub returns-clause-follows : goal.returns-clause-follows
returns-clause-follows g c = λ bytes is. c.begin_part.ensures.follows bytes (c.load_in_part.ensures.follows bytes is)
