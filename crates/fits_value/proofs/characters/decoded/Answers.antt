use Rattle.std.proofs.Common.{arith, List, ℕ, ◌++◌, ◌+◌, ◌∙◌, ap, drop}
use Rattle.std.proofs.lemmas.Bool.{ne_eqb}
use Rattle.fits_value.specs.Scan.{undoubled}
use Rattle.fits_value.proofs.QuoteLemmas.{decode_one, decode_two, decode_last, decode_end, undoubled-doubled}
use Rattle.fits_value.proofs.characters.decoded.Goals as goal
use Rattle.fits_value.proofs.characters.decoded.Goals.{else-text-i-eq39-via-then-text-i-eq39+else-i-text, else-text-i-eq39-via-else-text-i-eq39}

pub loop-i-preserved-then-i-text : goal.loop-i-preserved-then-i-text
loop-i-preserved-then-i-text c =
    (omega arith, ap (λ (x : List ℕ). x ++ undoubled (drop (c.loop-i.i + 2) c.args.text.now)) c.in_ok-push.ensures.items ∙ decode_two c.args.text.now c.loop-i.characters.items c.loop-i.i c.if-i-text.true c.if-text-i-eq39.true c.loop-i.invariant.1)

pub loop-i-preserved : goal.loop-i-preserved
loop-i-preserved c = (
  omega arith,
  ap (λ (x : List ℕ). x ++ undoubled (drop (c.loop-i.i + 1) c.args.text.now)) c.in_ok-push.ensures.items ∙ (elim c.else-text-i-eq39.branch [
    | else-text-i-eq39-via-then-text-i-eq39+else-i-text w ↦ decode_last c.args.text.now c.loop-i.characters.items c.loop-i.i c.loop-i-test.true w.if-i-text.false c.loop-i.invariant.1
    | else-text-i-eq39-via-else-text-i-eq39 w ↦ decode_one c.args.text.now c.loop-i.characters.items c.loop-i.i c.loop-i-test.true (ne_eqb _ _ w.if-text-i-eq39.false) c.loop-i.invariant.1
  ]),
)

pub returns-clause-spelled : goal.returns-clause-spelled
returns-clause-spelled c = λ cs e. decode_end c.args.text.now c.loop-i.characters.items c.loop-i.i c.loop-i-test.false c.loop-i.invariant.1 ∙ (ap undoubled e ∙ undoubled-doubled cs)
