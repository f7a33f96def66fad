use Rattle.std.proofs.Common.{◌∙◌, arith}
use Rattle.fits_header.proofs.FoundLemmas.{found}
use Rattle.fits_header.proofs.PlaceLemmas.{entry_found}
use Rattle.fits_header.proofs.entries.take_named.Goals as goal

pub remove-requires : goal.remove-requires
remove-requires c =
    let there = found c.args.entries.now.items _ _ c.args.place c.place_for-at.result c.requires.index c.requires.from (omega (arith, c.requires.to, c.args.entries.now.ok))
    c.requires.name c.deref.ensures.value c.place_for-at.ensures.below c.place_for-at.ensures.from in
    omega (arith, there.within, c.args.entries.now.ok)

pub returns-clause-items : goal.returns-clause-items
returns-clause-items c =
    let there = found c.args.entries.now.items _ _ c.args.place c.place_for-at.result c.requires.index c.requires.from (omega (arith, c.requires.to, c.args.entries.now.ok))
    c.requires.name c.deref.ensures.value c.place_for-at.ensures.below c.place_for-at.ensures.from in
    c.remove.ensures.items ∙ there.others

pub returns-clause-value : goal.returns-clause-value
returns-clause-value c cards index =
    let there = found c.args.entries.now.items _ _ c.args.place c.place_for-at.result c.requires.index c.requires.from (omega (arith, c.requires.to, c.args.entries.now.ok))
    c.requires.name c.deref.ensures.value c.place_for-at.ensures.below c.place_for-at.ensures.from in
    c.remove.ensures.value ∙ entry_found c.args.entries.now.items cards c.args.place c.place_for-at.result c.remove.result index there.within (there.here c.remove.result)
