use Rattle.std.proofs.Common.{◌≡◌, ◌∙◌, ◌+◌, ◌-◌, ◌≤◌, ℕ, List, ap, sym, drop, length, length-drop, map, take, arith, get_or}
use Rattle.std.proofs.lemmas.List.{drop-map, get_or-drop, take-map, take_all}
use Rattle.fits_card.specs.Card.{keyword_name, has_value}
use Rattle.fits_header.specs.Notes.{note_of, notes_of}
use Rattle.fits_header.specs.declared.note.Note.{Note}
use Rattle.fits_header.proofs.KeyLemmas.{name_in, value_in, names_in-notes, values_in-notes, alike-more}
use Rattle.fits_header.proofs.indexing.have_same_keys.Goals as goal

pub returns : goal.returns
returns c told old notes =
    let cards = c.args.cards.now in
    let i = c.loop-index.index in
    let from : ℕ = c.args.place - 1 in
    let all : i ≡ length cards = omega (arith, c.loop-index.auto.index-end, c.loop-index-test.false) in
    let all_cards = take_all i cards c.loop-index-test.false in
    let gone = take (length cards) (drop from old) in
    let theirs : take i (drop from c.args.notes.now.items) ≡ notes_of gone =
    ap (λ (ns : List Note). take i (drop from ns)) notes
    ∙ (ap (take i) (drop-map note_of from old) ∙ (take-map note_of i (drop from old) ∙ ap (λ (n : ℕ). notes_of (take n (drop from old))) all)) in
    record {
      names = sym (ap (map keyword_name) (sym all_cards) ∙ (c.loop-index.invariant.names ∙ (ap (map name_in) theirs ∙ names_in-notes gone)));
      values = sym (ap (map has_value) (sym all_cards) ∙ (c.loop-index.invariant.values ∙ (ap (map value_in) theirs ∙ values_in-notes gone)));
    }

pub loop-index-preserved : goal.loop-index-preserved
loop-index-preserved c =
    let cards = c.args.cards.now in
    let notes = drop (c.args.place - 1) c.args.notes.now.items in
    let i = c.loop-index.index in
    let card = c.index-cards-index.result in
    let note = c.at.result.now in
    let there : note ≡ get_or notes i note = c.at.ensures ∙ sym (get_or-drop (c.args.place - 1) c.args.notes.now.items i note) in
    let many : i + 1 ≤ length notes = omega (arith, length-drop (c.args.place - 1) c.args.notes.now.items) in
    let name : keyword_name (get_or cards i card) ≡ name_in (get_or notes i note) =
    ap keyword_name (sym c.index-cards-index.is) ∙ (c.has_same_key.ensures.name c.if-not-has_same_key.false ∙ ap name_in there) in
    let value : has_value (get_or cards i card) ≡ value_in (get_or notes i note) =
    ap has_value (sym c.index-cards-index.is) ∙ (c.has_same_key.ensures.value c.if-not-has_same_key.false ∙ ap value_in there) in
    record {
      names = alike-more keyword_name name_in cards notes i card note (omega arith) many c.loop-index.invariant.names name;
      values = alike-more has_value value_in cards notes i card note (omega arith) many c.loop-index.invariant.values value;
    }
