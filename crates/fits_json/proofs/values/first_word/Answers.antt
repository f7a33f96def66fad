use Rattle.std.proofs.Common.{◌==◌, ℕ, ◌∷◌, ap, sym, ◌∙◌, drop}
use Rattle.std.proofs.lemmas.List.{take_all}
use Rattle.std.specs.List.{list_any, slice_split}
use Rattle.fits_json.proofs.ValueLemmas.{word_at, split_one}
use Rattle.fits_json.proofs.values.first_word.Goals as goal

pub returns-then-byte-separator-clause-parts : goal.returns-then-byte-separator-clause-parts
returns-then-byte-separator-clause-parts c =
    word_at c.args.separator c.loop-i.i c.args.words.now c.loop-i-test.true c.loop-i.invariant c.if-byte-separator.true
    ∙ ap (λ xs. xs ∷ slice_split (λ (it : ℕ). it == c.args.separator) (drop 1 (drop c.loop-i.i c.args.words.now))) (sym c.split_at.ensures.front)
    ∙ ap (λ ys. c.split_at.result.0.now ∷ slice_split (λ (it : ℕ). it == c.args.separator) ys) (sym (c.split_at-then-byte-separator.ensures.back ∙ ap (drop 1) c.split_at.ensures.back))

pub returns-clause-parts : goal.returns-clause-parts
returns-clause-parts c =
    split_one (λ (it : ℕ). it == c.args.separator) c.args.words.now
    (ap (λ xs. list_any (λ (it : ℕ). it == c.args.separator) xs) (sym (take_all c.loop-i.i c.args.words.now c.loop-i-test.false)) ∙ c.loop-i.invariant)
