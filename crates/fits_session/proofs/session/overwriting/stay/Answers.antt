use Rattle.std.proofs.Common.{◌+◌, ◌∙◌, ap, arith, length, sym}
use Rattle.fits_card.specs.Header.{header_bytes}
use Rattle.fits_header.specs.State.{HeaderState}
use Rattle.fits_session.proofs.OffsetLemmas.{ends_within, start_more}
use Rattle.fits_session.proofs.OverwritingLemmas.{stay_all, stay_on}
use Rattle.fits_session.proofs.session.overwriting.stay.Goals as goal

pub byte_len-header_len-requires : goal.byte_len-header_len-requires
byte_len-header_len-requires c =
    omega (arith, ap (λ (h : HeaderState). length (header_bytes h.header)) c.header.ensures, c.requires, ends_within c.args.hdus.now c.loop-hdu.hdu-index c.loop-hdu.start c.hdu-item.result c.loop-hdu-test.true c.hdu-item.is c.loop-hdu.invariant.start)

pub overflow_add-place : goal.overflow_add-place
overflow_add-place c =
    omega (arith, c.requires, (c.byte_len-header_len.ensures ∙ ap (λ (h : HeaderState). length (header_bytes h.header)) c.header.ensures), ends_within c.args.hdus.now c.loop-hdu.hdu-index c.loop-hdu.start c.hdu-item.result c.loop-hdu-test.true c.hdu-item.is c.loop-hdu.invariant.start)

pub overflow_add-start : goal.overflow_add-start
overflow_add-start c =
    omega (arith, c.requires, (c.byte_len-header_len.ensures ∙ ap (λ (h : HeaderState). length (header_bytes h.header)) c.header.ensures), c.data_len-data_len.ensures, ends_within c.args.hdus.now c.loop-hdu.hdu-index c.loop-hdu.start c.hdu-item.result c.loop-hdu-test.true c.hdu-item.is c.loop-hdu.invariant.start)

pub loop-hdu-preserved : goal.loop-hdu-preserved
loop-hdu-preserved c =
    let header = ap (λ n. c.loop-hdu.start + n) (c.byte_len-header_len.ensures ∙ ap (λ (h : HeaderState). length (header_bytes h.header)) c.header.ensures) in
    let unit = ap (λ n. c.loop-hdu.start + c.byte_len-header_len.result + n) c.data_len-data_len.ensures in
    record {
      start = start_more c.args.hdus.now c.loop-hdu.hdu-index c.loop-hdu.start (c.loop-hdu.start + c.byte_len-header_len.result) (c.loop-hdu.start + c.byte_len-header_len.result + c.data_len-data_len.result) c.hdu-item.result c.loop-hdu-test.true c.hdu-item.is c.loop-hdu.invariant.start header unit;
      stays = c.loop-hdu.invariant.stays
          ∙ stay_on c.args.hdus.now c.loop-hdu.hdu-index c.loop-hdu.start (c.loop-hdu.start + c.byte_len-header_len.result) (c.loop-hdu.start + c.byte_len-header_len.result + c.data_len-data_len.result) c.hdu-item.result c.loop-hdu-test.true c.hdu-item.is header unit (sym c.lies_at.ensures ∙ c.if-not-lies_at.false);
    }

pub returns : goal.returns
returns c = sym (c.loop-hdu.invariant.stays ∙ stay_all c.args.hdus.now c.loop-hdu.hdu-index c.loop-hdu.start c.loop-hdu-test.false)
