use Rattle.std.proofs.Common.{◌≤◌, arith, false, subst, sym}
use Rattle.std.specs.List.{All}
use Rattle.fits_header.specs.declared.entry.Entry.{Entry}
use Rattle.fits_header.proofs.ChangeLemmas.{places_among}
use Rattle.fits_header.proofs.PlaceLemmas.{places_of_index}
use Rattle.fits_header.proofs.RepeatLemmas.{repeats-more}
use Rattle.fits_header.proofs.SurroundingLemmas.{repeats-marked}
use Rattle.fits_header.proofs.repeats.mark_repeats.Goals as goal

pub overflow_sub-entry : goal.overflow_sub-entry
overflow_sub-entry c = places_of_index c.args.entries.now c.requires.index.cards c.requires.index.theirs c.loop-index.index _ c.loop-index-test.true

pub mark-requires : goal.mark-requires
mark-requires c =
    let within = places_among c.args.entries.now c.requires.index c.loop-index.index (record { name = 0; place = 0; has_value = false }) c.loop-index-test.true in
    omega (arith, c.requires.size, c.loop-index.invariant.marked.len, overflow_sub-entry c, within)

pub loop-index-preserved : goal.loop-index-preserved
loop-index-preserved c =
    let index = c.requires.index in
    let more = repeats-more c.args.entries.now c.args.surroundings.now c.loop-index.surroundings c.mark.new.surroundings c.loop-index.index c.loop-index.seen c.seen_at-here.result c.seen_with-seen.result _
    index.theirs.sorted (places_of_index c.args.entries.now index.cards index.theirs) (subst (λ n. All (λ (x : Entry). x.place ≤ n) c.args.entries.now) (sym c.requires.size) (places_among c.args.entries.now index)) c.loop-index.invariant.seen c.loop-index.invariant.marked c.loop-index-test.true c.seen_at-here.ensures c.mark.ensures c.seen_with-seen.ensures in
    record { seen = more.0; marked = more.1 }

pub returns-clause-marked : goal.returns-clause-marked
returns-clause-marked c cards = repeats-marked c.args.entries.now c.args.surroundings.now c.loop-index.surroundings c.loop-index.index cards c.loop-index.invariant.marked c.loop-index-test.false
