use Rattle.std.proofs.Common.{◌≡◌, subst}
use Rattle.fits_card.specs.Change.{moved}
use Rattle.fits_header.specs.Index.{IsIndexOf}
use Rattle.fits_header.proofs.key_index.KeyIndex.move_named.Goals as goal

pub invariant_of-self : goal.invariant_of-self
invariant_of-self c =
    let index = c.self.invariant in
    record { cards = moved index.cards c.args.from c.args.to; theirs = c.move_entry.ensures.index index.cards index.theirs }

pub returns-clause-index : goal.returns-clause-index
returns-clause-index c cards is =
    let same : c.args.self.now.entries ≡ c.self.inside.entries.items = cc in
    c.move_entry.ensures.index cards (subst (λ es. IsIndexOf es cards) same is)
