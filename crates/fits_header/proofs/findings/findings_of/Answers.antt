use Rattle.std.proofs.Common.{ℕ, List, ◌∙◌, ◌+◌, ◌++◌, ap, arith, length}
use Rattle.std.specs.List.{flat_map, range_with_len}
use Rattle.std.proofs.lemmas.List.{length-map}
use Rattle.fits_header.specs.Notes.{note_of}
use Rattle.fits_header.specs.Findings.{codes_at, found_at}
use Rattle.fits_header.specs.declared.finding.Finding.{Finding}
use Rattle.fits_header.proofs.FindingLemmas.{found-more, found-all}
use Rattle.fits_header.proofs.findings.findings_of.Goals as goal

pub loop-index-preserved : goal.loop-index-preserved
loop-index-preserved c cards notes around =
    let found : ℕ → List Finding = λ place. found_at place (codes_at c.args.shape.now cards place) in
    let place = c.loop-index.index + 1 in
    c.in_ok-push_found.ensures
    ∙ (ap (λ xs. xs ++ found_at place c.as_slice.result.now) (c.loop-index.invariant cards notes around)
    ∙ (ap (λ codes. flat_map found (range_with_len 1 c.loop-index.index) ++ found_at place codes) (c.as_slice.ensures.value ∙ c.codes_at-codes.ensures cards notes around)
    ∙ found-more found c.loop-index.index))

pub returns : goal.returns
returns c cards notes around =
    c.loop-index.invariant cards notes around
    ∙ found-all c.args.shape.now cards c.loop-index.index (omega (arith, c.loop-index.auto.index-end, c.loop-index-test.false, ap length notes, length-map cards note_of))
