use Rattle.fits_stream.proofs.SightLemmas.{takes_then_fails, takes_then_quiet}
use Rattle.fits_stream.proofs.StreamLemmas.{quiet_fails}
use Rattle.fits_passing.proofs.HeadersLemmas.{cards_quiet, taking_after, cards_cut, cards_whole, few_more, headers_full, headers_none, headers_stop, headers_whole, is_header}
use Rattle.std.proofs.Common.{◌≡◌, ◌+◌, [], ◌∷◌, length, ap, ◌∙◌, arith}
use Rattle.std.proofs.lemmas.List.{length-append}
use Rattle.std.proofs.lemmas.Grind.{common_steps}
use Rattle.fits_stream.proofs.SightLemmas.{takes_fewer}
use Rattle.fits_passing.proofs.WalkLemmas.{next_more, stops_at_first, walk_shorter, walked_more}
use Rattle.fits_passing.proofs.headers.walk_headers.Goals as goal

-- the bytes don't begin as a file does
pub returns-then-not-begins_file-clause-ok : goal.returns-then-not-begins_file-clause-ok
returns-then-not-begins_file-clause-ok g c =
    headers_none c.args.headers.now.items _ _ c.requires.empty (stops_at_first _ _ c.requires.few c.in-Ok.ensures.ok c.in-Ok.ensures.ends (grind (arith, common_steps)))

pub read-requires : goal.read-requires
read-requires g c = omega (arith, takes_fewer _ _ _ c.hdu.invariant.walked.taken, c.requires.few)

-- an HDU can't be read
pub returns-in-Some-clause-ok : goal.returns-in-Some-clause-ok
returns-in-Some-clause-ok g c =
    headers_stop c.hdu.headers.items c.push.new.self.items c.in-Ok-read.head.cards _ _ _ c.len.result c.is_empty.result c.in-Some.why c.open_fault.result c.requires.few c.hdu.invariant.walked c.hdu.invariant.begins c.hdu.invariant.few
    (grind (arith, common_steps)) c.in-Ok-push.ensures.items (grind (arith, common_steps)) c.open_fault.ensures
    (cards_cut c.is_empty.result c.in-Ok-read.head.cards c.in-Ok-read.head.fault c.in-Some.why _ _ c.in-Ok-read.ensures.ok c.in-Some.is)

-- no extension begins after one more
pub returns-then-not-begins_extension-clause-ok : goal.returns-then-not-begins_extension-clause-ok
returns-then-not-begins_extension-clause-ok g c =
    let count : length c.push.new.self.items ≡ length c.hdu.headers.items + 1 = ap length c.in-Ok-push.ensures.items ∙ length-append c.hdu.headers.items (c.in-Ok-read.head.cards ∷ []) in
    headers_whole c.push.new.self.items _ _ c.requires.few
    (walked_more is_header c.hdu.headers.items c.push.new.self.items c.in-Ok-read.head.cards _ _ _ _ c.is_empty.result c.hdu.invariant.walked
    (cards_whole c.is_empty.result c.in-Ok-read.head.cards c.in-Ok-read.head.fault _ _ c.in-Ok-read.ensures.ok c.in-None.is) (grind (arith, common_steps)) c.in-Ok-push.ensures.items c.in-Ok-hold.ensures.ok)
    (omega (arith, count)) (omega (arith, count, c.hdu.invariant.few)) (grind (arith, common_steps)) c.in-Ok-hold.ensures.ends

-- one begins after the last that a file may have
pub returns-then-len-eq-HDU_LIMIT-clause-ok : goal.returns-then-len-eq-HDU_LIMIT-clause-ok
returns-then-len-eq-HDU_LIMIT-clause-ok g c =
    headers_full c.push.new.self.items _ _ c.requires.few
    (walked_more is_header c.hdu.headers.items c.push.new.self.items c.in-Ok-read.head.cards _ _ _ _ c.is_empty.result c.hdu.invariant.walked
    (cards_whole c.is_empty.result c.in-Ok-read.head.cards c.in-Ok-read.head.fault _ _ c.in-Ok-read.ensures.ok c.in-None.is) (grind (arith, common_steps)) c.in-Ok-push.ensures.items c.in-Ok-hold.ensures.ok)
    (grind (arith, common_steps)) (grind (arith, common_steps))

-- less is left with each HDU
pub hdu-smaller : goal.hdu-smaller
hdu-smaller g c = walk_shorter (is_header c.in-Ok-read.head.cards) c.is_empty.result _ _ _ (cards_whole c.is_empty.result c.in-Ok-read.head.cards c.in-Ok-read.head.fault _ _ c.in-Ok-read.ensures.ok c.in-None.is) c.in-Ok-hold.ensures.ok

-- and one more is walked
pub hdu-preserved : goal.hdu-preserved
hdu-preserved g c = record {
  walked = walked_more is_header c.hdu.headers.items c.push.new.self.items c.in-Ok-read.head.cards _ _ _ _ c.is_empty.result c.hdu.invariant.walked
      (cards_whole c.is_empty.result c.in-Ok-read.head.cards c.in-Ok-read.head.fault _ _ c.in-Ok-read.ensures.ok c.in-None.is) (grind (arith, common_steps)) c.in-Ok-push.ensures.items c.in-Ok-hold.ensures.ok;
  begins = next_more c.hdu.headers.items c.push.new.self.items c.in-Ok-read.head.cards _ c.in-Ok-push.ensures.items (grind (arith, common_steps));
  few = few_more (length c.hdu.headers.items) (length c.push.new.self.items) c.hdu.invariant.few (ap length c.in-Ok-push.ensures.items ∙ length-append c.hdu.headers.items (c.in-Ok-read.head.cards ∷ [])) (grind (arith, common_steps));
}

pub returns-in-Err-clause-err : goal.returns-in-Err-clause-err
returns-in-Err-clause-err g c = taking_after _ _ _ _ c.in-Err.why c.hdu.invariant.walked.taken c.in-Err.ensures.err

pub returns-in_default-push-clause-err : goal.returns-in_default-push-clause-err
returns-in_default-push-clause-err g c = takes_then_quiet _ _ _ _ c.hdu.invariant.walked.taken (cards_quiet _ _ c.in-Ok-read.head.fault _ _ c.in-Ok-read.ensures.ok)

pub returns-in_default-hold-clause-err : goal.returns-in_default-hold-clause-err
returns-in_default-hold-clause-err g c = takes_then_fails _ _ _ _ c.hdu.invariant.walked.taken (quiet_fails _ _ _ (cards_quiet _ _ c.in-Ok-read.head.fault _ _ c.in-Ok-read.ensures.ok) c.in_default-hold.ensures.err)
