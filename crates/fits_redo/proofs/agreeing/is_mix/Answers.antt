use Rattle.std.proofs.Common.{rules, ◌≡◌, ◌+◌, ◌==◌, true, ◌&&◌, ◌||◌, length, get_or, drop, sym, ap, ◌∙◌, arith}
use Rattle.fits_redo.specs.Blocks.{is_mix}
use Rattle.fits_redo.proofs.MixLemmas.{mix_next}
use Rattle.fits_redo.proofs.agreeing.is_mix.Goals as goal

pub loop-i-preserved : goal.loop-i-preserved
loop-i-preserved c =
    let old = c.args.old.now in
    let new = c.args.new.now in
    let bytes = c.args.bytes.now in
    let i = c.loop-i.i in
    let long_old : length old ≡ 2880 = search rules in
    let long_new : length new ≡ 2880 = search rules in
    let long_bytes : length bytes ≡ 2880 = search rules in
    let next = mix_next old new bytes i (omega (arith, long_old)) (omega (arith, long_new)) (omega (arith, long_bytes)) in
    let here : (get_or bytes i 0 == get_or old i 0 || get_or bytes i 0 == get_or new i 0) ≡ true = sym c.is_either.ensures ∙ c.if-not-is_either.false in
    let step : is_mix (drop i old) (drop i new) (drop i bytes) ≡ is_mix (drop (i + 1) old) (drop (i + 1) new) (drop (i + 1) bytes) = next ∙ ap (λ t. t && is_mix (drop (i + 1) old) (drop (i + 1) new) (drop (i + 1) bytes)) here in
    let so_far : is_mix (drop i old) (drop i new) (drop i bytes) ≡ is_mix old new bytes = c.loop-i.invariant in
    sym step ∙ so_far
