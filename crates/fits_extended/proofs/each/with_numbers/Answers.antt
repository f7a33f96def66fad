use Rattle.std.proofs.Common.{rules, ◌≡◌, ◌<◌, ◌≤◌, ◌+◌, ◌-◌, ◌++◌, ◌∷◌, [], ℕ, suc, List, Option, arith, ap, sym, ◌∙◌, refl}
use Rattle.std.specs.Option.{option_copied}
use Rattle.fits_extended.specs.Stands.{lines_in, with_number, with_numbers}
use Rattle.fits_extended.proofs.PlainsLemmas.{with_numbers-last, with_numbers-more}
use Rattle.fits_extended.proofs.each.with_numbers.Goals as goal

pub hdus-preserved : goal.hdus-preserved
hdus-preserved c =
    let inv = c.hdus.invariant in
    let verb : List ℕ = c.args.verb.now in
    let rest : Option (List ℕ) = option_copied c.args.rest in
    let h : ℕ = c.hdus.before + 1 in
    let more : ℕ = c.args.count - h in
    let fewer : c.hdus.before < c.args.count = search rules in
    let count : c.args.count - c.hdus.before ≡ suc more = omega (arith, fewer) in
    let added : c.push.new.self.items ≡ c.hdus.lines.items ++ c.in_ok-with_number.field-0 ∷ [] = search rules in
    record {
      so_far = with_numbers-more verb rest (c.args.count - c.hdus.before) more h c.hdus.lines.items c.push.new.self.items c.in_ok-with_number.field-0 _ count added c.in_ok-with_number.ensures inv.so_far;
      within = omega (arith, fewer);
    }

pub returns : goal.returns
returns c =
    let inv = c.hdus.invariant in
    with_numbers-last c.args.verb.now (option_copied c.args.rest) (c.args.count - c.hdus.before) (c.hdus.before + 1) c.hdus.lines.items _ (search rules) inv.so_far
