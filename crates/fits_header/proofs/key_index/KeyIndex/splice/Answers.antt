use Rattle.std.proofs.Common.{◌≡◌, ◌-◌, ap, arith, length, subst, sym, vec_capacity, vec_len}
use Rattle.fits_card.specs.Change.{spliced}
use Rattle.fits_header.specs.Index.{IsIndexOf}
use Rattle.fits_header.specs.KeyIndex.{KeyStore}
use Rattle.fits_header.proofs.ChangeLemmas.{index-spliced, left-length, left-sorted, places_among}
use Rattle.fits_header.proofs.key_index.KeyIndex.splice.Goals as goal

pub make_way-requires-clause-low : goal.make_way-requires-clause-low
make_way-requires-clause-low c k d l =
    let room : c.args.self.now.room ≡ vec_capacity c.self.inside.entries - vec_len c.self.inside.entries = ap (λ (s : KeyStore). s.room) (sym c.self.view_is) in
    omega (arith, places_among c.self.inside.entries.items c.self.invariant k d l, room, c.requires.room, c.self.inside.entries.ok)

pub make_way-requires-clause-within : goal.make_way-requires-clause-within
make_way-requires-clause-within c = places_among c.self.inside.entries.items c.self.invariant

pub add_cards-requires-clause-sorted : goal.add_cards-requires-clause-sorted
add_cards-requires-clause-sorted c = left-sorted c.self.inside.entries.items c.make_way.new.entries.items c.args.place c.args.removed (length c.args.cards.now) c.self.invariant c.make_way.ensures.items

pub add_cards-requires-clause-room : goal.add_cards-requires-clause-room
add_cards-requires-clause-room c =
    let seen : c.args.self.now.entries ≡ c.self.inside.entries.items = cc in
    let room : c.args.self.now.room ≡ vec_capacity c.self.inside.entries - vec_len c.self.inside.entries = ap (λ (s : KeyStore). s.room) (sym c.self.view_is) in
    let left = left-length c.self.inside.entries.items c.make_way.new.entries.items c.args.place c.args.removed (length c.args.cards.now) c.self.invariant
    c.requires.from (omega (arith, ap length seen, c.requires.to)) c.make_way.ensures.items in
    omega (arith, left, room, c.requires.room, c.make_way.ensures.room, c.self.inside.entries.ok, c.make_way.new.entries.ok)

pub invariant_of-self : goal.invariant_of-self
invariant_of-self c =
    let seen : c.args.self.now.entries ≡ c.self.inside.entries.items = cc in
    let index = c.self.invariant in
    record {
      cards = spliced index.cards c.args.place c.args.removed c.args.cards.now;
      theirs = index-spliced c.self.inside.entries.items c.make_way.new.entries.items c.add_cards.new.entries.items index.cards c.args.cards.now c.args.place c.args.removed index.theirs
          c.requires.from (omega (arith, ap length seen, c.requires.to)) c.make_way.ensures.items c.add_cards.ensures.sorted c.add_cards.ensures.named c.add_cards.ensures.same;
    }

pub returns-clause-index : goal.returns-clause-index
returns-clause-index c old is =
    let seen : c.args.self.now.entries ≡ c.self.inside.entries.items = cc in
    index-spliced c.self.inside.entries.items c.make_way.new.entries.items c.add_cards.new.entries.items old c.args.cards.now c.args.place c.args.removed (subst (λ es. IsIndexOf es old) seen is)
    c.requires.from (omega (arith, ap length seen, c.requires.to)) c.make_way.ensures.items c.add_cards.ensures.sorted c.add_cards.ensures.named c.add_cards.ensures.same

pub returns-clause-room : goal.returns-clause-room
returns-clause-room c =
    let seen : c.args.self.now.entries ≡ c.self.inside.entries.items = cc in
    let room : c.args.self.now.room ≡ vec_capacity c.self.inside.entries - vec_len c.self.inside.entries = ap (λ (s : KeyStore). s.room) (sym c.self.view_is) in
    let left = left-length c.self.inside.entries.items c.make_way.new.entries.items c.args.place c.args.removed (length c.args.cards.now) c.self.invariant
    c.requires.from (omega (arith, ap length seen, c.requires.to)) c.make_way.ensures.items in
    omega (arith, left, room, c.requires.room, c.make_way.ensures.room, c.add_cards.ensures.room, c.add_cards.ensures.len, c.self.inside.entries.ok, c.make_way.new.entries.ok)
