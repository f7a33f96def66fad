use Rattle.std.proofs.Common.{◌≡◌, ◌<◌, ◌+◌, List, ap, arith, length, length-take-le}
use Rattle.std.proofs.lemmas.List.{length-set}
use Rattle.fits_codes.specs.declared.code_set.TheConstants.{MOST_CODES}
use Rattle.fits_codes.specs.declared.code.Code.{Code}
use Rattle.fits_codes.specs.declared.code.Code.TheVariants.{NotText}
use Rattle.fits_codes.proofs.SetLemmas.{filled_size, pushed}
use Rattle.fits_codes.proofs.code_set.CodeSet.push.Goals as goal

pub invariant_of-self : goal.invariant_of-self
invariant_of-self c =
    let codes = c.self.inside.codes in
    let len = c.self.inside.len in
    let kept = c.self.invariant in
    let size : length codes ≡ MOST_CODES = filled_size codes NotText len MOST_CODES kept.within kept.size kept.padded in
    let below : len < MOST_CODES = omega (arith, c.requires, kept.size, ap (λ (xs : List Code). length xs) c.self.view_is) in
    record {
      within = omega arith;
      size = length-take-le (len + 1) _ (omega (arith, length-set codes len c.args.code));
      padded = pushed codes NotText c.args.code len MOST_CODES below size kept.padded;
    }
