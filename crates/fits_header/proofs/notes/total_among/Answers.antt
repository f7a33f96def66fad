use Rattle.std.proofs.Common.{◌≡◌, ◌*◌, ◌<◌, ◌≤◌, ◌∙◌, sym, drop, get_or, length, length-drop, length-take-le, take, arith}
use Rattle.std.proofs.lemmas.List.{get_or-drop}
use Rattle.fits_header.proofs.TotalLemmas.{small-more, total_in-few, total_in-more}
use Rattle.fits_header.proofs.notes.total_among.Goals as goal

pub overflow_add-total : goal.overflow_add-total
overflow_add-total c =
    let notes = drop c.args.from c.args.notes.now.items in
    let size = length-take-le c.loop-index.index notes (omega (arith, length-drop c.args.from c.args.notes.now.items)) in
    omega (arith, c.loop-index.invariant.value, total_in-few (take c.loop-index.index notes) c.loop-index.invariant.each, size, c.number.ensures.within, c.len-few.ensures.few, c.len-few.ensures.value)

pub loop-index-preserved : goal.loop-index-preserved
loop-index-preserved c =
    let notes = drop c.args.from c.args.notes.now.items in
    let i = c.loop-index.index in
    let note = c.at.result.now in
    let within : i < length notes = omega (arith, length-drop c.args.from c.args.notes.now.items) in
    let there : note ≡ get_or notes i note = c.at.ensures ∙ sym (get_or-drop c.args.from c.args.notes.now.items i note) in
    let small : note.total ≤ 20 * 4294967295 = omega (arith, c.number.ensures.value, c.number.ensures.within) in
    record {
      value = omega (arith, total_in-more notes i note within there, c.loop-index.invariant.value, c.number.ensures.value);
      each = small-more notes i note within there small c.loop-index.invariant.each;
    }
