use Rattle.std.proofs.Common.{◌<◌, ◌^◌, ◌∙◌, IsTrue, ap, rules}
use Rattle.fits_pixels.specs.Summary.{pixels_joined, words_joined}
use Rattle.fits_plane.proofs.ExchangeLemmas.{leaves_exchanged}
use Rattle.fits_plane.proofs.exchange.exchanged.Goals as goal

-- each part is exchanged
pub returns : goal.returns
returns c =
    let defined : c.args.gone.first.defined < 2 ^ 64 = search rules in
    let blank : c.args.gone.first.blank < 2 ^ 64 = search rules in
    let total : c.args.gone.second.total < 2 ^ 64 = search rules in
    let low : IsTrue c.knows_least.result = search rules in
    let high : IsTrue c.knows_greatest.result = search rules in
    leaves_exchanged c.args.all c.args.gone c.args.come _ defined blank total (c.knows_least.ensures low) (c.knows_greatest.ensures high)
    (c.join.ensures ∙ ap (λ z. pixels_joined z c.args.come.first) c.pixels_less.ensures) (c.join-2.ensures ∙ ap (λ z. words_joined z c.args.come.second) c.words_less.ensures)
