use Rattle.std.proofs.Common.{◌+◌, ap, ◌∙◌, arith, length}
use Rattle.fits_card.specs.Header.{header_bytes}
use Rattle.fits_header.specs.State.{HeaderState}
use Rattle.fits_session.proofs.OffsetLemmas.{ends_within, offsets_all, offsets_more, start_more}
use Rattle.fits_session.proofs.session.queries.offsets_of.Goals as goal

pub loop-hdu-preserved : goal.loop-hdu-preserved
loop-hdu-preserved c = record {
  offsets = c.in_ok-push.ensures.items
      ∙ offsets_more c.args.hdus.now c.loop-hdu.hdu-index c.loop-hdu.start (c.loop-hdu.start + c.byte_len-header_len.result) (c.loop-hdu.start + c.byte_len-header_len.result + c.data_len-data_len.result) c.hdu-item.result c.loop-hdu.offsets.items c.loop-hdu-test.true c.hdu-item.is c.loop-hdu.invariant.offsets c.loop-hdu.invariant.start (ap (λ n. c.loop-hdu.start + n) (c.byte_len-header_len.ensures ∙ ap (λ (h : HeaderState). length (header_bytes h.header)) c.header.ensures)) (ap (λ n. c.loop-hdu.start + c.byte_len-header_len.result + n) c.data_len-data_len.ensures);
  start = start_more c.args.hdus.now c.loop-hdu.hdu-index c.loop-hdu.start (c.loop-hdu.start + c.byte_len-header_len.result) (c.loop-hdu.start + c.byte_len-header_len.result + c.data_len-data_len.result) c.hdu-item.result c.loop-hdu-test.true c.hdu-item.is c.loop-hdu.invariant.start (ap (λ n. c.loop-hdu.start + n) (c.byte_len-header_len.ensures ∙ ap (λ (h : HeaderState). length (header_bytes h.header)) c.header.ensures)) (ap (λ n. c.loop-hdu.start + c.byte_len-header_len.result + n) c.data_len-data_len.ensures);
}

pub overflow_add-data_start : goal.overflow_add-data_start
overflow_add-data_start c =
    omega (arith, c.requires, (c.byte_len-header_len.ensures ∙ ap (λ (h : HeaderState). length (header_bytes h.header)) c.header.ensures), ends_within c.args.hdus.now c.loop-hdu.hdu-index c.loop-hdu.start c.hdu-item.result c.loop-hdu-test.true c.hdu-item.is c.loop-hdu.invariant.start)

pub overflow_add-hdu_end : goal.overflow_add-hdu_end
overflow_add-hdu_end c =
    omega (arith, c.requires, (c.byte_len-header_len.ensures ∙ ap (λ (h : HeaderState). length (header_bytes h.header)) c.header.ensures), c.data_len-data_len.ensures, ends_within c.args.hdus.now c.loop-hdu.hdu-index c.loop-hdu.start c.hdu-item.result c.loop-hdu-test.true c.hdu-item.is c.loop-hdu.invariant.start)

pub byte_len-header_len-requires : goal.byte_len-header_len-requires
byte_len-header_len-requires c =
    omega (arith, ap (λ (h : HeaderState). length (header_bytes h.header)) c.header.ensures, c.requires, ends_within c.args.hdus.now c.loop-hdu.hdu-index c.loop-hdu.start c.hdu-item.result c.loop-hdu-test.true c.hdu-item.is c.loop-hdu.invariant.start)

pub returns : goal.returns
returns c = offsets_all c.args.hdus.now c.loop-hdu.hdu-index c.loop-hdu.offsets.items c.loop-hdu-test.false c.loop-hdu.invariant.offsets
