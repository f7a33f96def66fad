use Rattle.std.proofs.Common.{◌≡◌, ◌+◌, ◌∙◌, ap, sym, subst, arith, get_or, ◌<◌, inl, inr, true, false}
use Rattle.std.proofs.lemmas.Bool.{cases_Bool}
use Rattle.std.proofs.lemmas.List.{length-set}
use Rattle.fits_header.specs.declared.entry.Entry.{Entry}
use Rattle.fits_header.specs.Index.{shifted, stays}
use Rattle.fits_header.proofs.PackLemmas.{same_next, packed-yes, packed-no, packed_rest}
use Rattle.fits_header.proofs.entries.pack.Goals as goal

pub move_on-requires : goal.move_on-requires
move_on-requires c =
    let d : Entry = record { name = 0; place = 0; has_value = false } in
    let same = same_next c.loop-index.entries c.args.entries.now c.loop-index.index d c.loop-index.invariant.rest in
    record { low = subst (λ (e : Entry). e.place + c.args.coming < 18446744073709551616 + c.args.removed) (sym same) (c.requires.low c.loop-index.index d c.loop-index-test.true) }

pub loop-index-preserved : goal.loop-index-preserved
loop-index-preserved c =
    let old = c.args.entries.now in
    let new = c.loop-index.entries in
    let i = c.loop-index.index in
    let kept = c.loop-index.kept in
    let d : Entry = record { name = 0; place = 0; has_value = false } in
    let p = stays c.args.place c.args.removed in
    let f = shifted c.args.place c.args.removed c.args.coming in
    let same = same_next new old i d c.loop-index.invariant.rest in
    let size = length-set new kept c.move_on.new.entry in
    elim (cases_Bool c.stays.result) [
      | inl t ↦
          let here : p (get_or new i d) ≡ true = sym c.stays.ensures ∙ t in
          let there : p (get_or old i d) ≡ true = ap p (sym same) ∙ here in
          rw t (record {
            kept = packed-yes p f old new kept i d c.move_on.new.entry c.loop-index.invariant.within c.loop-index-test.true c.loop-index.invariant.len c.loop-index.invariant.kept there (c.move_on.ensures here ∙ ap f same);
            rest = packed_rest old new kept i c.move_on.new.entry c.loop-index.invariant.within c.loop-index.invariant.rest;
            within = omega arith;
            len = size ∙ c.loop-index.invariant.len;
          })
      | inr t ↦
          let there : p (get_or old i d) ≡ false = ap p (sym same) ∙ (sym c.stays.ensures ∙ t) in
          rw t (record {
            kept = packed-no p f old new kept i d c.move_on.new.entry c.loop-index-test.true c.loop-index.invariant.kept there;
            rest = packed_rest old new kept i c.move_on.new.entry c.loop-index.invariant.within c.loop-index.invariant.rest;
            within = omega arith;
            len = size ∙ c.loop-index.invariant.len;
          })
    ]
