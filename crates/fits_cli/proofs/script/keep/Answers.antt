use Rattle.std.proofs.Common.{◌≡◌, ◌∙◌, refl, ap, arith, rules, length, ◌≤◌, ◌-◌, ◌+◌, ◌++◌}
use Rattle.std.specs.Prelude.{min}
use Rattle.fits_script.specs.declared.limits.TheConstants.{LINE_LIMIT}
use Rattle.fits_cli.proofs.ReadingLemmas.{kept_more}
use Rattle.fits_cli.proofs.script.keep.Goals as goal

pub returns-clause-kept : goal.returns-clause-kept
returns-clause-kept c =
    let within : length c.args.line.now.items ≤ LINE_LIMIT + 1 = omega (arith, c.requires.within, c.args.line.now.ok.0) in
    let least : c.min.result ≡ min (LINE_LIMIT + 1 - length c.args.line.now.items) (length c.args.more.now) = search rules in
    kept_more (LINE_LIMIT + 1 - length c.args.line.now.items) c.min.result c.args.line.now.items c.args.more.now c.extend_from_slice.new.self.items within refl least
    (c.in-Ok.ensures.items ∙ ap (λ t. c.args.line.now.items ++ t) c.split_at.ensures.front)
