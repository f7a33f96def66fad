use Rattle.std.proofs.Common.{refl, arith}
use Rattle.fits_card.proofs.CutLemmas.{header_begins, header_broken, no_end_no_header}
use Rattle.fits_card.proofs.cut.front_len.Goals as goal

pub returns-in_default-clause-none : goal.returns-in_default-clause-none
returns-in_default-clause-none c = no_end_no_header c.args.bytes.now c.in_default.ensures.none

-- its block isn't whole
pub returns-then-bytes-len-clause-none : goal.returns-then-bytes-len-clause-none
returns-then-bytes-len-clause-none c = header_broken c.args.bytes.now c.in-Some.count c.fill_len.result _ c.in-Some.ensures.found c.fill_len.ensures.value refl c.if-bytes-len.true

pub returns-clause-found : goal.returns-clause-found
returns-clause-found c = header_begins c.args.bytes.now c.in-Some.count c.fill_len.result _ c.in-Some.ensures.found c.fill_len.ensures.value refl (omega arith)
