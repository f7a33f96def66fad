use Rattle.std.proofs.Common.{◌≡◌, ap, subst, sym}
use Rattle.fits_card.specs.Change.{moved}
use Rattle.fits_header.specs.Index.{IsIndexOf}
use Rattle.fits_header.specs.declared.entry.Entry.{Entry}
use Rattle.fits_header.proofs.FoundLemmas.{named_at}
use Rattle.fits_header.proofs.key_index.KeyIndex.move_place.Goals as goal

pub invariant_of-self : goal.invariant_of-self
invariant_of-self c =
    let index = c.self.invariant in
    record { cards = moved index.cards c.args.from c.args.to; theirs = c.move_entry.ensures.index index.cards index.theirs }

pub returns-clause-index : goal.returns-clause-index
returns-clause-index c cards is =
    let same : c.args.self.now.entries ≡ c.self.inside.entries.items = cc in
    c.move_entry.ensures.index cards (subst (λ es. IsIndexOf es cards) same is)

pub move_entry-requires-clause-name : goal.move_entry-requires-clause-name
move_entry-requires-clause-name c =
    let index = c.self.invariant in
    let there : IsIndexOf c.deref.result.now index.cards = subst (λ es. IsIndexOf es index.cards) (sym c.deref.ensures.value) index.theirs in
    named_at c.self.inside.entries.items index.cards c.args.from _ index.theirs (ap (λ (e : Entry). e.name) (c.entry_at-name.ensures index.cards there))
