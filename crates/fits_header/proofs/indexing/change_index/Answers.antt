use Rattle.std.proofs.Common.{ap, arith, length, subst, sym}
use Rattle.std.proofs.lemmas.List.{length-map}
use Rattle.fits_card.specs.Change.{spliced}
use Rattle.fits_header.specs.Index.{IsIndexOf}
use Rattle.fits_header.specs.Names.{name_number}
use Rattle.fits_header.specs.Notes.{note_of}
use Rattle.fits_header.proofs.FoundLemmas.{named_at}
use Rattle.fits_header.proofs.HeaderLemmas.{index_after-splice, index_after-move, range_of-splice, range_of-move}
use Rattle.fits_header.proofs.KeyLemmas.{index-same}
use Rattle.fits_header.proofs.indexing.change_index.Goals as goal

pub keep_keys-requires-clause-to : goal.keep_keys-requires-clause-to
keep_keys-requires-clause-to c =
    let cards = c.args.cards.now.header.cards in
    let range = range_of-splice cards c.args.change.now c.in-Splice.place c.in-Splice.removed _ c.in-Splice.is c.requires.in_range in
    omega (arith, range.1, ap length c.requires.notes, length-map cards note_of)

pub returns-then-keep_keys-clause-index : goal.returns-then-keep_keys-clause-index
returns-then-keep_keys-clause-index c =
    let cards = c.args.cards.now.header.cards in
    let range = range_of-splice cards c.args.change.now c.in-Splice.place c.in-Splice.removed _ c.in-Splice.is c.requires.in_range in
    let same = c.keep_keys.ensures.keys c.if-keep_keys.true cards c.requires.notes in
    index_after-splice c.args.index.now.entries cards c.args.change.now c.in-Splice.place c.in-Splice.removed _ c.in-Splice.is
    (subst (λ come. IsIndexOf c.args.index.now.entries (spliced cards c.in-Splice.place c.in-Splice.removed come)) c.as_slice-new.ensures
    (index-same c.args.index.now.entries cards c.as_slice-new.result.now c.in-Splice.place c.in-Splice.removed range.0 range.1 same c.requires.index))

pub name_at-requires-clause-to : goal.name_at-requires-clause-to
name_at-requires-clause-to c =
    let cards = c.args.cards.now.header.cards in
    let range = range_of-splice cards c.args.change.now c.in-Splice.place c.in-Splice.removed _ c.in-Splice.is c.requires.in_range in
    omega (arith, range.1, c.if-removed-eq1.true, ap length c.requires.notes, length-map cards note_of)

pub replace-requires-clause-name : goal.replace-requires-clause-name
replace-requires-clause-name c =
    let cards = c.args.cards.now.header.cards in
    named_at c.args.index.now.entries cards c.in-Splice.place (name_number c.name_at.result.now) c.requires.index (ap name_number (c.name_at.ensures cards c.requires.notes))

pub returns-then-removed-eq1-clause-index : goal.returns-then-removed-eq1-clause-index
returns-then-removed-eq1-clause-index c =
    let cards = c.args.cards.now.header.cards in
    index_after-splice c.replace.new.self.entries cards c.args.change.now c.in-Splice.place c.in-Splice.removed _ c.in-Splice.is
    (subst (λ come. IsIndexOf c.replace.new.self.entries (spliced cards c.in-Splice.place c.in-Splice.removed come)) c.as_slice-new.ensures
    (subst (λ gone. IsIndexOf c.replace.new.self.entries (spliced cards c.in-Splice.place gone c.as_slice-new.result.now)) (sym c.if-removed-eq1.true) (c.replace.ensures.index cards c.requires.index)))

pub returns-else-removed-eq1-clause-index : goal.returns-else-removed-eq1-clause-index
returns-else-removed-eq1-clause-index c =
    let cards = c.args.cards.now.header.cards in
    index_after-splice c.splice.new.self.entries cards c.args.change.now c.in-Splice.place c.in-Splice.removed _ c.in-Splice.is
    (subst (λ come. IsIndexOf c.splice.new.self.entries (spliced cards c.in-Splice.place c.in-Splice.removed come)) c.as_slice-new.ensures
    (c.splice.ensures.index cards c.requires.index))

pub name_at-requires-in-Move-clause-to : goal.name_at-requires-in-Move-clause-to
name_at-requires-in-Move-clause-to c =
    let cards = c.args.cards.now.header.cards in
    let range = range_of-move cards c.args.change.now c.in-Move.from c.in-Move.to c.in-Move.is c.requires.in_range in
    omega (arith, range.1, ap length c.requires.notes, length-map cards note_of)

pub move_named-requires-clause-name : goal.move_named-requires-clause-name
move_named-requires-clause-name c =
    let cards = c.args.cards.now.header.cards in
    named_at c.args.index.now.entries cards c.in-Move.from (name_number c.name_at-in-Move.result.now) c.requires.index (ap name_number (c.name_at-in-Move.ensures cards c.requires.notes))

pub returns-in-Move-clause-index : goal.returns-in-Move-clause-index
returns-in-Move-clause-index c =
    let cards = c.args.cards.now.header.cards in
    index_after-move c.move_named.new.self.entries cards c.args.change.now c.in-Move.from c.in-Move.to c.in-Move.is (c.move_named.ensures.index cards c.requires.index)
