use Rattle.std.proofs.Common.{arith, ap, ◌∙◌, ◌++◌, ◌+◌, List, ℕ, drop, take, get_or}
use Rattle.std.proofs.lemmas.Bool.{ne_eqb}
use Rattle.std.proofs.lemmas.List.{take_more_set, length-set}
use Rattle.fits_value.specs.Scan.{undoubled}
use Rattle.fits_value.proofs.QuoteLemmas.{decode_one, decode_two, decode_last}
use Rattle.fits_value.proofs.CardStringLemmas.{rest_stays}
use Rattle.fits_value.proofs.strings.write_decoded.Goals as goal
use Rattle.fits_value.proofs.strings.write_decoded.Goals.{else-text-i-eq39-via-then-text-i-eq39+else-i-text, else-text-i-eq39-via-else-text-i-eq39}

pub loop-i-preserved-then-i-text : goal.loop-i-preserved-then-i-text
loop-i-preserved-then-i-text c =
    let byte = get_or c.args.text.now c.loop-i.i 0 in
    let in_room = c.loop-i.invariant.size in
    record {
      within = omega arith;
      room = omega arith;
      size = length-set c.loop-i.characters c.loop-i.len byte ∙ in_room;
      written =
          ap (λ (x : List ℕ). x ++ undoubled (drop (c.loop-i.i + 2) c.args.text.now)) (take_more_set c.loop-i.characters c.loop-i.len byte (omega arith))
          ∙ decode_two c.args.text.now (take c.loop-i.len c.loop-i.characters) c.loop-i.i c.if-i-text.true c.if-text-i-eq39.true c.loop-i.invariant.written;
      rest = rest_stays c.loop-i.characters c.args.characters.now c.loop-i.len byte c.loop-i.invariant.rest;
    }

pub loop-i-preserved : goal.loop-i-preserved
loop-i-preserved c =
    let byte = get_or c.args.text.now c.loop-i.i 0 in
    record {
      within = omega arith;
      room = omega arith;
      size = length-set c.loop-i.characters c.loop-i.len byte ∙ c.loop-i.invariant.size;
      written =
          ap (λ (x : List ℕ). x ++ undoubled (drop (c.loop-i.i + 1) c.args.text.now)) (take_more_set c.loop-i.characters c.loop-i.len byte (omega arith))
          ∙ elim c.else-text-i-eq39.branch [
            | else-text-i-eq39-via-then-text-i-eq39+else-i-text w ↦ decode_last c.args.text.now (take c.loop-i.len c.loop-i.characters) c.loop-i.i c.loop-i-test.true w.if-i-text.false c.loop-i.invariant.written
            | else-text-i-eq39-via-else-text-i-eq39 w ↦ decode_one c.args.text.now (take c.loop-i.len c.loop-i.characters) c.loop-i.i c.loop-i-test.true (ne_eqb _ _ w.if-text-i-eq39.false) c.loop-i.invariant.written
          ];
      rest = rest_stays c.loop-i.characters c.args.characters.now c.loop-i.len byte c.loop-i.invariant.rest;
    }
