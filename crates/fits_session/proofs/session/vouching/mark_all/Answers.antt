use Rattle.std.proofs.Common.{ap, ◌∙◌, ◌<◌, length, rules, set}
use Rattle.std.proofs.lemmas.List.Edits.{map_over_more}
use Rattle.fits_making.specs.Keeping.{vouched_one}
use Rattle.fits_session.proofs.VouchLemmas.{seen_ahead, small_ahead}
use Rattle.fits_session.proofs.session.vouching.mark_all.Goals as goal

pub mark-requires-clause-seen : goal.mark-requires-clause-seen
mark-requires-clause-seen c =
    let within : c.loop-i.i < length c.args.hdus.now.items = search rules in
    seen_ahead c.args.hdus.now.items c.loop-i.hdus.items c.loop-i.i c.index_mut-hdu.result.now c.requires.seen within c.loop-i.invariant c.index_mut-hdu.ensures.value

pub mark-requires-clause-small : goal.mark-requires-clause-small
mark-requires-clause-small c =
    let within : c.loop-i.i < length c.args.hdus.now.items = search rules in
    small_ahead c.args.hdus.now.items c.loop-i.hdus.items c.loop-i.i c.index_mut-hdu.result.now c.requires.few within c.loop-i.invariant c.index_mut-hdu.ensures.value

pub loop-i-preserved : goal.loop-i-preserved
loop-i-preserved c =
    let within : c.loop-i.i < length c.args.hdus.now.items = search rules in
    ap (set c.loop-i.hdus.items c.loop-i.i) c.mark.ensures
    ∙ map_over_more vouched_one c.args.hdus.now.items c.loop-i.hdus.items c.loop-i.i c.index_mut-hdu.result.now within c.loop-i.invariant c.index_mut-hdu.ensures.value
