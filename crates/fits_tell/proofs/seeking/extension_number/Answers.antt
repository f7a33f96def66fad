use Rattle.std.proofs.Common.{arith, ◌<◌, ◌+◌, ◌∙◌, sym, length}
use Rattle.std.proofs.lemmas.Grind.{common_steps}
use Rattle.fits_tell.proofs.AskedLemmas.{extension_found, extension_nowhere, none_asked_more}
use Rattle.fits_tell.proofs.CardLemmas.{headers_kept}
use Rattle.fits_tell.proofs.seeking.extension_number.Goals as goal

-- the headers stay
pub returns-in_err-is_asked_extension-clause-same : goal.returns-in_err-is_asked_extension-clause-same
returns-in_err-is_asked_extension-clause-same c =
    headers_kept c.loop-i.headers.items _ (c.loop-i.i + 1) c.index_mut.result.now _ c.loop-i.invariant.same c.index_mut.ensures.value c.is_asked_extension.ensures.same

-- this one is it
pub returns-then-branch-clause-value : goal.returns-then-branch-clause-value
returns-then-branch-clause-value c =
    let l : c.loop-i.i + 1 < length c.loop-i.headers.items = grind (arith, common_steps) in
    extension_found c.loop-i.headers.items _ c.args.asked.now c.loop-i.i c.index_mut.result.now c.loop-i.invariant.same l c.index_mut.ensures.value c.loop-i.invariant.none (sym c.if-branch.true ∙ c.in_ok-is_asked_extension.ensures.value)

pub returns-then-branch-clause-same : goal.returns-then-branch-clause-same
returns-then-branch-clause-same c =
    headers_kept c.loop-i.headers.items _ (c.loop-i.i + 1) c.index_mut.result.now _ c.loop-i.invariant.same c.index_mut.ensures.value c.is_asked_extension.ensures.same

pub loop-i-preserved : goal.loop-i-preserved
loop-i-preserved c =
    let l : c.loop-i.i + 1 < length c.loop-i.headers.items = grind (arith, common_steps) in
    record {
      same = headers_kept c.loop-i.headers.items _ (c.loop-i.i + 1) c.index_mut.result.now _ c.loop-i.invariant.same c.index_mut.ensures.value c.is_asked_extension.ensures.same;
      size = grind (arith, common_steps);
      none = none_asked_more c.loop-i.headers.items _ c.args.asked.now c.loop-i.i c.index_mut.result.now c.loop-i.invariant.same l c.index_mut.ensures.value c.loop-i.invariant.none (sym c.if-branch.false ∙ c.in_ok-is_asked_extension.ensures.value);
    }

-- none is
pub returns-clause-value : goal.returns-clause-value
returns-clause-value c =
    extension_nowhere c.loop-i.headers.items _ c.args.asked.now c.loop-i.i c.loop-i.invariant.same (grind (arith, common_steps)) c.loop-i.invariant.none
