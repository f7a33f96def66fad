use Rattle.std.proofs.Common.{◌∙◌, List, ap, sym, map, filter, take, drop}
use Rattle.fits_header.specs.declared.entry.Entry.{Entry}
use Rattle.fits_header.specs.Index.{shifted, stays}
use Rattle.fits_header.proofs.IndexLemmas.{all_written}
use Rattle.fits_header.proofs.PackLemmas.{parts_same, stay_apart}
use Rattle.fits_header.proofs.entries.take_several.Goals as goal

pub returns-clause-items : goal.returns-clause-items
returns-clause-items c =
    let old = c.args.entries.now.items in
    let first = c.shift_front-first.result in
    let stay = λ (es : List Entry). map (shifted c.args.place c.args.removed c.args.coming) (filter (stays c.args.place c.args.removed) es) in
    let written = all_written _ _ _ (c.shift_front-first.ensures.len ∙ c.deref_mut.ensures.len) in
    let front = ap (take first) written ∙ (c.shift_front-first.ensures.front ∙ ap (λ (es : List Entry). stay (take first es)) c.deref_mut.ensures.value) in
    let rest = ap (drop first) written ∙ (c.shift_front-first.ensures.rest ∙ ap (drop first) c.deref_mut.ensures.value) in
    c.truncate.ensures.items
    ∙ (c.pack_from-kept.ensures.kept
    ∙ (parts_same front (ap stay rest) ∙ sym (stay_apart c.args.place c.args.removed c.args.coming first old)))
