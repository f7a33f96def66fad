use Rattle.std.proofs.Common.{◌≡◌, ◌∙◌, ap}
use Rattle.fits_card.specs.Header.{Header, header_bytes}
use Rattle.fits_header.specs.Findings.{header_codes_of}
use Rattle.fits_sum.specs.Words.{word_total}
use Rattle.fits_passing.specs.HduReading.{passed_parts}
use Rattle.fits_passing.specs.Sums.{sum_keywords}
use Rattle.fits_passing.proofs.FindingLemmas.{few_codes, fill_of_bytes, marked_codes, whole_known}
use Rattle.fits_passing.proofs.SumLemmas.{verdicts_known}
use Rattle.fits_passing.proofs.found_cards.found_cards_of.Goals as goal

pub with_data_codes-whole-requires : goal.with_data_codes-whole-requires
with_data_codes-whole-requires c =
    let header = c.sum_keywords-said.new.header.header in
    let shape = c.sum_keywords-said.new.header.shape in
    record { room = few_codes c.judge_header_mark-codes.result shape header (marked_codes c.judge_header_mark-codes.result c.mark-mark.result c.shape.result.now shape header c.judge_header_mark-codes.ensures c.mark-mark.ensures.value (c.shape.ensures.value ∙ c.mark-mark.ensures.work.shape)) }

-- the codes of its header, of its data fill and of its sums
pub returns-clause-whole : goal.returns-clause-whole
returns-clause-whole c =
    let shape = c.args.head.shape in
    let header = c.args.head.cards.header in
    let unit = c.args.unit.now in
    let opened = c.in_ok-header.ensures in
    let read = c.sum_keywords-said.ensures.work in
    let now = c.sum_keywords-said.new.header in
    let codes : c.judge_header_mark-codes.result ≡ header_codes_of shape header =
    marked_codes c.judge_header_mark-codes.result c.mark-mark.result c.shape.result.now now.shape now.header c.judge_header_mark-codes.ensures c.mark-mark.ensures.value (c.shape.ensures.value ∙ c.mark-mark.ensures.work.shape)
    ∙ ap (λ s. header_codes_of s now.header) (read.shape ∙ opened.shape) ∙ ap (λ (h : Header). header_codes_of shape h) (read.header ∙ opened.header) in
    let verdicts = verdicts_known c.verdicts_by-verdicts.result c.sum_keywords-said.result c.fold.result c.whole_sum.result c.total.result c.total-total.result (passed_parts header unit) c.verdicts_by-verdicts.ensures
    (c.sum_keywords-said.ensures.value ∙ ap (λ (h : Header). sum_keywords h.cards) opened.header) c.fold.ensures c.total-total.ensures c.whole_sum.ensures
    (c.total.ensures.value ∙ ap (λ (h : Header). word_total (header_bytes h)) (read.header ∙ opened.header)) c.requires.whole in
    whole_known c.with_data_codes-whole.result c.judge_header_mark-codes.result c.fill_ok.result c.verdicts_by-verdicts.result shape (passed_parts header unit) c.with_data_codes-whole.ensures codes
    (fill_of_bytes c.fill_ok.result unit.layout shape unit.bytes c.requires.layout c.fill_ok.ensures) verdicts
