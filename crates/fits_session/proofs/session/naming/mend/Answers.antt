use Rattle.std.proofs.Common.{ap, ◌∙◌, ◌<◌, length, rules, set}
use Rattle.std.proofs.lemmas.List.Edits.{map_over_more}
use Rattle.fits_session.specs.NameTable.{mended}
use Rattle.fits_session.proofs.session.naming.mend.Goals as goal

pub loop-i-preserved : goal.loop-i-preserved
loop-i-preserved c =
    let within : c.loop-i.i < length c.args.hdus.now.items = search rules in
    ap (set c.loop-i.hdus.items c.loop-i.i) c.mend_one.ensures
    ∙ map_over_more (mended c.args.gone) c.args.hdus.now.items c.loop-i.hdus.items c.loop-i.i c.index_mut-hdu.result.now within c.loop-i.invariant c.index_mut-hdu.ensures.value
