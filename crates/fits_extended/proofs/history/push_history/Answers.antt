use Rattle.std.proofs.Common.{rules, ◌≡◌, ◌++◌, ◌∷◌, [], ◌∙◌, ap, codes}
use Rattle.fits_extended.specs.Stands.{added_after, lines_in}
use Rattle.fits_extended.proofs.PlainsLemmas.{lines_in-more}
use Rattle.fits_extended.proofs.history.push_history.Goals as goal

pub returns : goal.returns
returns c =
    let card : c.deref.result.now ≡ codes "HISTORY " ++ c.args.piece.now = search rules in
    lines_in-more c.args.lines.now.items c.push.new.self.items c.in_ok-added_after.field-0 (search rules)
    ∙ ap (λ t. lines_in c.args.lines.now.items ++ t ∷ []) (c.in_ok-added_after.ensures ∙ ap (λ t. added_after c.args.hdu t c.args.count c.args.place) card)
