use Rattle.std.proofs.Common.{◌≡◌, ◌+◌, ◌++◌, ◌∙◌, ℕ, List, ap, arith, length, length-append, map, filter, take, drop}
use Rattle.std.proofs.Math.Seq.{take-append-add}
use Rattle.fits_header.specs.declared.entry.Entry.{Entry}
use Rattle.fits_header.specs.Index.{shifted, stays}
use Rattle.fits_header.proofs.IndexLemmas.{all_written}
use Rattle.fits_header.proofs.entries.pack_from.Goals as goal

pub returns-clause-kept : goal.returns-clause-kept
returns-clause-kept c =
    let front = c.split_at_mut-rest.result.0.now in
    let packed = c.pack.new.entries in
    let stay = λ (es : List Entry). map (shifted c.args.place c.args.removed c.args.coming) (filter (stays c.args.place c.args.removed) es) in
    let size : length front ≡ c.args.first = c.split_at_mut-rest.ensures.front_len in
    let many : c.args.first + c.pack.result ≡ length front + c.pack.result = omega (arith, size) in
    ap (take (c.args.first + c.pack.result)) (all_written _ _ _ (omega (arith, length-append front packed, size, c.pack.ensures.len, c.split_at_mut-rest.ensures.back_len, c.deref_mut.ensures.len)))
    ∙ (ap (λ (n : ℕ). take n (front ++ packed)) many
    ∙ (take-append-add front packed c.pack.result
    ∙ (ap (λ (es : List Entry). front ++ es) (c.pack.ensures.kept ∙ ap stay (c.split_at_mut-rest.ensures.back ∙ ap (drop c.args.first) c.deref_mut.ensures.value))
    ∙ ap (λ (es : List Entry). es ++ stay (drop c.args.first c.args.entries.now.items)) (c.split_at_mut-rest.ensures.front ∙ ap (take c.args.first) c.deref_mut.ensures.value))))
