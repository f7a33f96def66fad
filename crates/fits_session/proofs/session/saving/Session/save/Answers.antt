use Rattle.std.proofs.Common.{[], refl, rules, subst}
use Rattle.fits_stream.specs.Stream.{Prints, PrintsFront}
use Rattle.fits_unit.specs.Again.{CopyFails}
use Rattle.fits_passing.specs.File.{file_bytes, FileParts}
use Rattle.fits_session.specs.Session.{file_of, session_at}
use Rattle.fits_session.proofs.HadLemmas.{held_file}
use Rattle.fits_session.proofs.session.saving.Session.save.Goals as goal

-- all data units are in memory, so it is the file of any bytes
pub returns-in-Ok-clause-ok : goal.returns-in-Ok-clause-ok
returns-in-Ok-clause-ok g c =
    subst (λ (f : FileParts). Prints (file_bytes f) (g.W.Sink.state c.args.sink.now) (g.W.Sink.state c.write.new.sink)) (held_file [] c.args.self.now.hdus c.args.self.now.tail c.are_held.ensures) (c.in-Ok.ensures.ok [] (λ away. absurd (cc)))

pub returns-in-Err-clause-err : goal.returns-in-Err-clause-err
returns-in-Err-clause-err g c =
    let fails = subst (λ why. CopyFails (file_bytes (file_of (session_at [] c.args.self.now))) (g.W.Sink.state c.args.sink.now) (g.W.Sink.state c.write.new.sink) why) (c.in-Err.ensures.written refl) (c.in-Err.ensures.err [] (λ away. absurd (cc))) in
    subst (λ (f : FileParts). PrintsFront (file_bytes f) (g.W.Sink.state c.args.sink.now) (g.W.Sink.state c.write.new.sink)) (held_file [] c.args.self.now.hdus c.args.self.now.tail c.are_held.ensures) fails

-- Said, so that a body that breaks it is refused at once.
pub returns-in-Err-clause-ok : goal.returns-in-Err-clause-ok
returns-in-Err-clause-ok g c = search rules

pub returns-in-Err-clause-all_read : goal.returns-in-Err-clause-all_read
returns-in-Err-clause-all_read g c = search rules
