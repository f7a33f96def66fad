use Rattle.std.proofs.Common.{◌≡◌, ◌∙◌, ap, subst, sym}
use Rattle.std.proofs.lemmas.Result.{err_from_is_err_and}
use Rattle.fits_stream.specs.Stored.{ReadLogState}
use Rattle.fits_unit.specs.Again.{Follows}
use Rattle.fits_passing.specs.File.{FileParts, IsFileOf}
use Rattle.fits_passing.specs.Met.{reads_of}
use Rattle.fits_session.proofs.AwayLemmas.{all_opened, lent_follows, lent_of, lent_stops, stored_had}
use Rattle.fits_session.proofs.session.loading.Session+InFile+F.read_stored.Goals as goal

pub of-requires-clause-opened : goal.of-requires-clause-opened
of-requires-clause-opened g c = all_opened 0 c.in_ok-parts.parts.0.items c.in_ok-parts.ensures.opened

pub of-requires-clause-had : goal.of-requires-clause-had
of-requires-clause-had g c = stored_had 0 c.in_ok-parts.parts.0.items c.in_ok-parts.ensures.opened

-- the file is what came
pub returns-clause-ok : goal.returns-clause-ok
returns-clause-ok g c = λ told is.
    subst (λ (f : FileParts). IsFileOf told f) (sym (c.in_ok-of.ensures.at told)) (c.in_ok-parts.ensures.ok told (lent_of c.read_away-read.new.source c.put_reads.new.self told (ap (λ (l : ReadLogState). l.came) c.put_reads.ensures ∙ ap (λ (l : ReadLogState). l.came) c.into_log.ensures) (ap (λ (l : ReadLogState). l.ends) c.put_reads.ensures ∙ ap (λ (l : ReadLogState). l.ends) c.into_log.ensures) is))

pub returns-clause-lie : goal.returns-clause-lie
returns-clause-lie g c = λ told is.
    c.in_ok-of.ensures.lie told (c.in_ok-parts.ensures.lie told (lent_of c.read_away-read.new.source c.put_reads.new.self told (ap (λ (l : ReadLogState). l.came) c.put_reads.ensures ∙ ap (λ (l : ReadLogState). l.came) c.into_log.ensures) (ap (λ (l : ReadLogState). l.ends) c.put_reads.ensures ∙ ap (λ (l : ReadLogState). l.ends) c.into_log.ensures) is))

pub returns-clause-seen : goal.returns-clause-seen
returns-clause-seen g c = λ all. c.in_ok-of.ensures.seen (c.in_ok-parts.ensures.seen all)

-- where it isn't opened
pub returns-in_err-parts-clause-err : goal.returns-in_err-parts-clause-err
returns-in_err-parts-clause-err g c =
    let was = c.take_reads.ensures.value in
    let p = err_from_is_err_and c.from_residual-in_err-parts.result c.from_residual-in_err-parts.ensures.1 in
    rw (p.1, p.2) (lent_stops c.new-source.result c.read_away-read.new.source c.args.log.now c.put_reads.new.self c.in_err-parts.field-0.0 (ap (λ (l : ReadLogState). l.came) c.put_reads.ensures ∙ ap (λ (l : ReadLogState). l.came) c.into_log.ensures) (ap (λ (l : ReadLogState). l.ends) c.put_reads.ensures ∙ ap (λ (l : ReadLogState). l.ends) c.into_log.ensures)
    (c.new-source.ensures.failures ∙ ap (λ (l : ReadLogState). l.failures) was) (ap (λ (l : ReadLogState). l.failures) c.put_reads.ensures ∙ ap (λ (l : ReadLogState). l.failures) c.into_log.ensures) c.in_err-parts.ensures.err)

pub returns-in_err-parts-clause-follows : goal.returns-in_err-parts-clause-follows
returns-in_err-parts-clause-follows g c =
    let was = c.take_reads.ensures.value in
    lent_follows c.new-source.result c.read_away-read.new.source c.args.log.now c.put_reads.new.self (sym (c.new-source.ensures.came ∙ ap (λ (l : ReadLogState). l.came) was)) (sym (c.new-source.ensures.ends ∙ ap (λ (l : ReadLogState). l.ends) was))
    (ap (λ (l : ReadLogState). l.came) c.put_reads.ensures ∙ ap (λ (l : ReadLogState). l.came) c.into_log.ensures) (ap (λ (l : ReadLogState). l.ends) c.put_reads.ensures ∙ ap (λ (l : ReadLogState). l.ends) c.into_log.ensures) c.read_away-read.ensures.follows

pub returns-in_err-of-clause-follows : goal.returns-in_err-of-clause-follows
returns-in_err-of-clause-follows g c =
    let was = c.take_reads.ensures.value in
    lent_follows c.new-source.result c.read_away-read.new.source c.args.log.now c.put_reads.new.self (sym (c.new-source.ensures.came ∙ ap (λ (l : ReadLogState). l.came) was)) (sym (c.new-source.ensures.ends ∙ ap (λ (l : ReadLogState). l.ends) was))
    (ap (λ (l : ReadLogState). l.came) c.put_reads.ensures ∙ ap (λ (l : ReadLogState). l.came) c.into_log.ensures) (ap (λ (l : ReadLogState). l.ends) c.put_reads.ensures ∙ ap (λ (l : ReadLogState). l.ends) c.into_log.ensures) c.read_away-read.ensures.follows

pub returns-clause-follows : goal.returns-clause-follows
returns-clause-follows g c =
    let was = c.take_reads.ensures.value in
    lent_follows c.new-source.result c.read_away-read.new.source c.args.log.now c.put_reads.new.self (sym (c.new-source.ensures.came ∙ ap (λ (l : ReadLogState). l.came) was)) (sym (c.new-source.ensures.ends ∙ ap (λ (l : ReadLogState). l.ends) was))
    (ap (λ (l : ReadLogState). l.came) c.put_reads.ensures ∙ ap (λ (l : ReadLogState). l.came) c.into_log.ensures) (ap (λ (l : ReadLogState). l.ends) c.put_reads.ensures ∙ ap (λ (l : ReadLogState). l.ends) c.into_log.ensures) c.read_away-read.ensures.follows
