use Rattle.std.proofs.Common.{◌≡◌, ◌∙◌, ap, arith, length, map, refl, subst, sym, vec_len}
use Rattle.fits_card.specs.Card.{keyword_name}
use Rattle.fits_header.specs.declared.entry.Entry.{Entry}
use Rattle.fits_header.specs.Findings.{card_of}
use Rattle.fits_header.specs.Index.{IsSortedIndex, added, entry_of, shifted, turned}
use Rattle.fits_header.specs.Names.{IsName}
use Rattle.fits_header.proofs.ChangeLemmas.{All-moved, index-out, left_by, left-sorted, one_goes, out_written, same-moved, sorted-gap, turned-out}
use Rattle.fits_header.proofs.CountLemmas.{length-index}
use Rattle.fits_header.proofs.key_index.move_entry.Goals as goal

pub add-requires-clause-sorted : goal.add-requires-clause-sorted
add-requires-clause-sorted c =
    let old = c.args.entries.now.items in
    let all = out_written (turned c.args.from c.args.to) old c.take_named-entry.new.entries.items c.deref_mut.result.now c.turn.new.entries
    c.args.from (vec_len c.take_named-entry.new.entries) c.take_named-entry.ensures.items (omega (arith, c.take_named-entry.new.entries.ok)) c.deref_mut.ensures.value c.turn.ensures
    ∙ turned-out old c.args.from c.args.to in
    subst IsSortedIndex (sym all) (sorted-gap (left_by c.args.from 1 0 old) c.args.to (left-sorted old (left_by c.args.from 1 0 old) c.args.from 1 0 c.requires.index refl))

pub add-requires-clause-room : goal.add-requires-clause-room
add-requires-clause-room c =
    let one = one_goes c.args.entries.now.items c.args.from c.requires.from_first (omega (arith, c.requires.from_last, c.args.entries.now.ok)) c.requires.index in
    omega (arith, ap length c.take_named-entry.ensures.items, one, c.take_named-entry.ensures.room, c.args.entries.now.ok, c.take_named-entry.new.entries.ok)

pub returns-clause-index : goal.returns-clause-index
returns-clause-index c cards index =
    let old = c.args.entries.now.items in
    let size = length-index old cards index in
    let left = left_by c.args.from 1 0 old in
    let all = out_written (turned c.args.from c.args.to) old c.take_named-entry.new.entries.items c.deref_mut.result.now c.turn.new.entries
    c.args.from (vec_len c.take_named-entry.new.entries) c.take_named-entry.ensures.items (omega (arith, c.take_named-entry.new.entries.ok)) c.deref_mut.ensures.value c.turn.ensures
    ∙ turned-out old c.args.from c.args.to in
    let entry : record c.take_named-entry.result { place = c.args.to } ≡ entry_of (card_of cards c.args.from) c.args.to =
    ap (λ (e : Entry). record e { place = c.args.to }) (c.take_named-entry.ensures.value cards index) in
    let is = c.add.ensures.items ∙ (ap (λ es. added es (record c.take_named-entry.result { place = c.args.to })) all ∙ ap (added (map (shifted c.args.to 0 1) left)) entry) in
    record {
      sorted = c.add.ensures.sorted;
      same = same-moved left c.add.new.entries.items cards c.args.from c.args.to c.requires.from_first (omega (arith, size, c.requires.from_last, c.args.entries.now.ok))
          c.requires.to_first (omega (arith, size, c.requires.to_last, c.args.entries.now.ok))
          (index-out old left cards c.args.from c.requires.from_first (omega (arith, c.requires.from_last, c.args.entries.now.ok)) index refl) is;
      named = All-moved (λ card. IsName (keyword_name card)) cards c.args.from c.args.to index.named;
    }

pub returns-clause-len : goal.returns-clause-len
returns-clause-len c =
    let one = one_goes c.args.entries.now.items c.args.from c.requires.from_first (omega (arith, c.requires.from_last, c.args.entries.now.ok)) c.requires.index in
    omega (arith, c.add.ensures.len, ap length c.take_named-entry.ensures.items, one, c.args.entries.now.ok, c.take_named-entry.new.entries.ok)
