use Rattle.std.proofs.Common.{arith, length-take-le}
use Rattle.fits_value.proofs.CardStringLemmas.{padded}
use Rattle.fits_value.proofs.strings.decoded.Goals as goal

pub invariant_of-result : goal.invariant_of-result
invariant_of-result c =
    let size = c.write_decoded-len.array_long in
    record {
      within = omega arith;
      size = length-take-le c.normal_len-len.result c.write_decoded-len.new.characters (omega arith);
      padded =
          padded c.write_decoded-len.new.characters c.split_at.result.0.now c.write_decoded-len.result c.normal_len-len.result size c.write_decoded-len.ensures.within c.split_at.ensures.front
          c.normal_len-len.ensures.spaces c.normal_len-len.ensures.within c.write_decoded-len.ensures.rest;
    }
