use Rattle.std.proofs.Common.{◌≡◌, ◌+◌, ◌∙◌, ap, sym, subst, arith, get_or, ◌<◌, true, false}
use Rattle.std.proofs.lemmas.List.{length-set}
use Rattle.fits_header.specs.declared.entry.Entry.{Entry}
use Rattle.fits_header.specs.Index.{shifted, stays}
use Rattle.fits_header.proofs.PackLemmas.{same_next, packed-yes, packed_rest}
use Rattle.fits_header.proofs.entries.shift_front.Goals as goal

pub move_on-requires : goal.move_on-requires
move_on-requires c =
    let d : Entry = record { name = 0; place = 0; has_value = false } in
    let kept = c.loop-index.invariant in
    let same = same_next c.loop-index.entries c.args.entries.now c.loop-index.index d kept.rest in
    record { low = subst (λ (e : Entry). e.place + c.args.coming < 18446744073709551616 + c.args.removed) (sym same) (c.requires.low c.loop-index.index d (omega (arith, c.loop-index-test.true, kept.len))) }

pub loop-index-preserved : goal.loop-index-preserved
loop-index-preserved c =
    let old = c.args.entries.now in
    let new = c.loop-index.entries in
    let i = c.loop-index.index in
    let d : Entry = record { name = 0; place = 0; has_value = false } in
    let p = stays c.args.place c.args.removed in
    let f = shifted c.args.place c.args.removed c.args.coming in
    let kept = c.loop-index.invariant in
    let same = same_next new old i d kept.rest in
    let here : p (get_or new i d) ≡ true = sym c.stays.ensures ∙ c.if-stays.true in
    let there : p (get_or old i d) ≡ true = ap p (sym same) ∙ here in
    let size = length-set new i c.move_on.new.entry in
    record {
      front = packed-yes p f old new i i d c.move_on.new.entry (omega arith) (omega (arith, c.loop-index-test.true, kept.len)) kept.len kept.front there (c.move_on.ensures here ∙ ap f same);
      rest = packed_rest old new i i c.move_on.new.entry (omega arith) kept.rest;
      within = omega (arith, size, c.loop-index-test.true);
      len = size ∙ kept.len;
    }
