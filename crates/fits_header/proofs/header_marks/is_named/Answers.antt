use Rattle.std.proofs.Common.{rules, ◌≡◌, ◌∙◌, arith}
use Rattle.std.specs.Str.{bytes_eq}
use Rattle.fits_card.specs.Card.{keyword_name}
use Rattle.fits_header.proofs.HeaderMarkLemmas.{named-there, named-past}
use Rattle.fits_header.proofs.header_marks.is_named.Goals as goal

pub returns-clause-value : goal.returns-clause-value
returns-clause-value c =
    let same : c.eq.result ≡ bytes_eq (keyword_name c.card.result) c.args.name.now = search rules in
    same ∙ named-there c.args.cards.now.header.cards c.args.place c.args.name.now c.card.result (omega arith) (omega arith) c.card.ensures.value

pub returns-then-place-len-clause-value : goal.returns-then-place-len-clause-value
returns-then-place-len-clause-value c = named-past c.args.cards.now.header.cards c.args.place c.args.name.now (omega arith) (omega arith)
