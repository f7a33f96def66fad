use Rattle.std.proofs.Common.{◌≡◌, ◌-◌, ap, arith, length, subst, sym, vec_capacity, vec_len}
use Rattle.fits_card.specs.Change.{spliced}
use Rattle.fits_header.specs.Index.{IsIndexOf, shifted}
use Rattle.fits_header.specs.KeyIndex.{KeyStore}
use Rattle.fits_header.proofs.ChangeLemmas.{index-spliced, left-sorted, one_goes, out_written, places_out}
use Rattle.fits_header.proofs.key_index.KeyIndex.replace.Goals as goal

pub close_gap-requires-clause-low : goal.close_gap-requires-clause-low
close_gap-requires-clause-low c k d l =
    let room : c.args.self.now.room ≡ vec_capacity c.self.inside.entries - vec_len c.self.inside.entries = ap (λ (s : KeyStore). s.room) (sym c.self.view_is) in
    omega (
      arith,
      places_out c.self.inside.entries.items c.take_named.new.entries.items c.deref_mut.result.now c.args.place c.self.invariant
          c.take_named.ensures.items c.deref_mut.ensures.value k d l,
      room,
      c.requires.room,
      c.self.inside.entries.ok,
    )

pub add_cards-requires-clause-sorted : goal.add_cards-requires-clause-sorted
add_cards-requires-clause-sorted c =
    let all = out_written (shifted c.args.place 1 (length c.args.cards.now)) c.self.inside.entries.items c.take_named.new.entries.items c.deref_mut.result.now c.close_gap.new.entries
    c.args.place (vec_len c.take_named.new.entries) c.take_named.ensures.items (omega (arith, c.take_named.new.entries.ok)) c.deref_mut.ensures.value c.close_gap.ensures in
    left-sorted c.self.inside.entries.items _ c.args.place 1 (length c.args.cards.now) c.self.invariant all

pub add_cards-requires-clause-room : goal.add_cards-requires-clause-room
add_cards-requires-clause-room c =
    let seen : c.args.self.now.entries ≡ c.self.inside.entries.items = cc in
    let room : c.args.self.now.room ≡ vec_capacity c.self.inside.entries - vec_len c.self.inside.entries = ap (λ (s : KeyStore). s.room) (sym c.self.view_is) in
    let one = one_goes c.self.inside.entries.items c.args.place c.requires.from (omega (arith, ap length seen, c.requires.to)) c.self.invariant in
    omega (arith, ap length c.take_named.ensures.items, one, room, c.requires.room, c.take_named.ensures.room, c.self.inside.entries.ok, c.take_named.new.entries.ok)

pub invariant_of-self : goal.invariant_of-self
invariant_of-self c =
    let seen : c.args.self.now.entries ≡ c.self.inside.entries.items = cc in
    let index = c.self.invariant in
    let all = out_written (shifted c.args.place 1 (length c.args.cards.now)) c.self.inside.entries.items c.take_named.new.entries.items c.deref_mut.result.now c.close_gap.new.entries
    c.args.place (vec_len c.take_named.new.entries) c.take_named.ensures.items (omega (arith, c.take_named.new.entries.ok)) c.deref_mut.ensures.value c.close_gap.ensures in
    record {
      cards = spliced index.cards c.args.place 1 c.args.cards.now;
      theirs = index-spliced c.self.inside.entries.items _ c.add_cards.new.entries.items index.cards c.args.cards.now c.args.place 1 index.theirs
          c.requires.from (omega (arith, ap length seen, c.requires.to)) all c.add_cards.ensures.sorted c.add_cards.ensures.named c.add_cards.ensures.same;
    }

pub returns-clause-index : goal.returns-clause-index
returns-clause-index c old is =
    let seen : c.args.self.now.entries ≡ c.self.inside.entries.items = cc in
    let all = out_written (shifted c.args.place 1 (length c.args.cards.now)) c.self.inside.entries.items c.take_named.new.entries.items c.deref_mut.result.now c.close_gap.new.entries
    c.args.place (vec_len c.take_named.new.entries) c.take_named.ensures.items (omega (arith, c.take_named.new.entries.ok)) c.deref_mut.ensures.value c.close_gap.ensures in
    index-spliced c.self.inside.entries.items _ c.add_cards.new.entries.items old c.args.cards.now c.args.place 1 (subst (λ es. IsIndexOf es old) seen is)
    c.requires.from (omega (arith, ap length seen, c.requires.to)) all c.add_cards.ensures.sorted c.add_cards.ensures.named c.add_cards.ensures.same

pub returns-clause-room : goal.returns-clause-room
returns-clause-room c =
    let seen : c.args.self.now.entries ≡ c.self.inside.entries.items = cc in
    let room : c.args.self.now.room ≡ vec_capacity c.self.inside.entries - vec_len c.self.inside.entries = ap (λ (s : KeyStore). s.room) (sym c.self.view_is) in
    let one = one_goes c.self.inside.entries.items c.args.place c.requires.from (omega (arith, ap length seen, c.requires.to)) c.self.invariant in
    omega (
      arith,
      ap length c.take_named.ensures.items,
      one,
      room,
      c.requires.room,
      c.take_named.ensures.room,
      c.add_cards.ensures.room,
      c.add_cards.ensures.len,
      c.self.inside.entries.ok,
      c.take_named.new.entries.ok,
    )
