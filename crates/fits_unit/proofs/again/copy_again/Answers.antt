use Rattle.std.proofs.Common.{◌∙◌, ap}
use Rattle.std.proofs.lemmas.Result.{IfErr-weaker}
use Rattle.fits_stream.specs.Stored.{ReadLogState}
use Rattle.fits_unit.proofs.AgainLemmas.{copy_stops}
use Rattle.fits_unit.proofs.again.copy_again.Goals as goal

pub returns-clause-err : goal.returns-clause-err
returns-clause-err g c =
    let reads = c.put_reads.ensures ∙ ap (λ (l : ReadLogState). record l { looked = c.take_reads.new.self.looked }) c.into_log.ensures in
    let came = c.new-source.ensures.came ∙ ap (λ (l : ReadLogState). l.came) c.take_reads.ensures.value ∙ ap (λ (l : ReadLogState). l.came) c.take_looked-looked.ensures.left in
    let ends = c.new-source.ensures.ends ∙ ap (λ (l : ReadLogState). l.ends) c.take_reads.ensures.value ∙ ap (λ (l : ReadLogState). l.ends) c.take_looked-looked.ensures.left in
    IfErr-weaker c.copy_next-copied.result _ _
    (λ why stops. copy_stops c.new-source.result c.copy_next-copied.new.source _ _ _ _ c.args.place c.args.len c.args.log.now c.put_looked.new.self _ _ why c.new-source.ensures.place came ends
    (c.put_looked.ensures ∙ ap (λ (l : ReadLogState). record l { looked = c.copy_next-copied.new.looked.total }) reads) stops)
    c.copy_next-copied.ensures.err
