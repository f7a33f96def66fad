use Rattle.std.proofs.Common.{◌≤◌, List, ap, arith, length, map}
use Rattle.std.proofs.lemmas.Grind.{common_steps}
use Rattle.std.proofs.lemmas.List.{length-append}
use Rattle.fits_hdu.specs.State.{hdu_at}
use Rattle.fits_passing.specs.Hdu.{HduParts}
use Rattle.fits_passing.specs.File.{joined_hdus}
use Rattle.fits_passing.specs.Met.{hdus_end}
use Rattle.fits_passing.specs.declared.limits.TheConstants.{FILE_LIMIT}
use Rattle.fits_passing.proofs.StoredLemmas.{rest_there}
use Rattle.fits_session.specs.Session.{hdus_of}
use Rattle.fits_session.proofs.AwayLemmas.{end_met, known_file, stored_file, tail_follows, tail_within, taken_follows}
use Rattle.fits_session.proofs.session.reading.read_away.Goals as goal

-- in whatever file the reads are of, its HDUs and what follows them are the file
pub returns-clause-ok : goal.returns-clause-ok
returns-clause-ok g c = λ told is.
    let before = taken_follows (g.F.Stored.bytes c.walk_stored.new.source.file) (g.F.Stored.bytes c.read_tail.new.source.file) c.walk_stored.new.source c.read_tail.new.source c.walk_stored.new.intake c.read_tail.new.intake c.in-Ok.tail.items c.in-Ok.ensures.ok told is in
    let begins = c.in_ok-passed.ensures.begin told before in
    let size : length told ≤ FILE_LIMIT = c.in_ok-is_within_limit.ensures.within (grind (arith, common_steps)) told (c.walk_stored.ensures.follows told before) in
    let rest = rest_there (g.F.Stored.bytes c.walk_stored.new.source.file) (g.F.Stored.bytes c.read_tail.new.source.file) c.walk_stored.new.source c.read_tail.new.source c.walk_stored.new.intake c.read_tail.new.intake told c.in-Ok.tail.items (hdus_end 0 c.in_ok-passed.passed.items) c.in-Ok.ensures.ok c.in-Ok.ensures.over is begins.stands in
    stored_file told c.in-Ok.tail.items c.in_ok-passed.passed.items (hdus_of (map (hdu_at told) c.in_ok-hdus.hdus.items)) c.walk_stored.new.intake c.walk_stored.new.source begins (c.in_ok-hdus.ensures.there told begins.lie) rest c.in-Ok.ensures.ends c.in_ok-passed.ensures.some c.in_ok-passed.ensures.few size

pub returns-clause-lie : goal.returns-clause-lie
returns-clause-lie g c = λ told is. c.in_ok-hdus.ensures.lie told (c.in_ok-passed.ensures.begin told (taken_follows (g.F.Stored.bytes c.walk_stored.new.source.file) (g.F.Stored.bytes c.read_tail.new.source.file) c.walk_stored.new.source c.read_tail.new.source c.walk_stored.new.intake c.read_tail.new.intake c.in-Ok.tail.items c.in-Ok.ensures.ok told is)).lie

pub returns-clause-whole : goal.returns-clause-whole
returns-clause-whole g c = known_file c.in_ok-passed.passed.items (hdus_of c.in_ok-hdus.hdus.items) c.in-Ok.tail.items c.in_ok-hdus.ensures.parts c.in_ok-passed.ensures.front c.in-Ok.ensures.ends c.in_ok-passed.ensures.some c.in_ok-passed.ensures.few (tail_within (g.F.Stored.bytes c.walk_stored.new.source.file) (g.F.Stored.bytes c.read_tail.new.source.file) c.walk_stored.new.source c.read_tail.new.source c.walk_stored.new.intake c.read_tail.new.intake c.in-Ok.tail.items (hdus_end 0 c.in_ok-passed.passed.items) FILE_LIMIT c.in-Ok.ensures.ok c.in_ok-passed.ensures.left)

pub returns-clause-len : goal.returns-clause-len
returns-clause-len g c =
    let parts = c.in_ok-hdus.ensures.parts in
    omega (arith, c.end_of.ensures, ap (hdus_end 0) c.deref.ensures.value, c.len.ensures, c.in-Ok.tail.ok.0, end_met 0 c.in_ok-passed.passed.items, ap (λ (us : List HduParts). length (joined_hdus us)) parts, length-append (joined_hdus (hdus_of c.in_ok-hdus.hdus.items)) c.in-Ok.tail.items)

pub returns-clause-follows : goal.returns-clause-follows
returns-clause-follows g c = λ told is. c.is_within_limit.ensures.follows told (c.walk_stored.ensures.follows told (taken_follows (g.F.Stored.bytes c.walk_stored.new.source.file) (g.F.Stored.bytes c.read_tail.new.source.file) c.walk_stored.new.source c.read_tail.new.source c.walk_stored.new.intake c.read_tail.new.intake c.in-Ok.tail.items c.in-Ok.ensures.ok told is))

-- where it isn't opened
pub returns-in_err-passed-clause-follows : goal.returns-in_err-passed-clause-follows
returns-in_err-passed-clause-follows g c = λ told is. c.is_within_limit.ensures.follows told (c.walk_stored.ensures.follows told is)

pub returns-in-Err-clause-follows : goal.returns-in-Err-clause-follows
returns-in-Err-clause-follows g c = λ told is.
    c.is_within_limit.ensures.follows told (c.walk_stored.ensures.follows told (tail_follows (g.F.Stored.bytes c.walk_stored.new.source.file) (g.F.Stored.bytes c.read_tail.new.source.file) c.walk_stored.new.source c.read_tail.new.source c.in-Err.fault c.in-Err.ensures.err told is))

pub returns-in_err-hdus-clause-follows : goal.returns-in_err-hdus-clause-follows
returns-in_err-hdus-clause-follows g c = λ told is.
    c.is_within_limit.ensures.follows told (c.walk_stored.ensures.follows told (taken_follows (g.F.Stored.bytes c.walk_stored.new.source.file) (g.F.Stored.bytes c.read_tail.new.source.file) c.walk_stored.new.source c.read_tail.new.source c.walk_stored.new.intake c.read_tail.new.intake c.in-Ok.tail.items c.in-Ok.ensures.ok told is))
