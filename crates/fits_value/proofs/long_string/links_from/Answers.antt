use Rattle.std.proofs.Common.{arith, ap, sym, ◌∙◌, ◌≡◌, ◌+◌, List, ℕ, length, drop}
use Rattle.fits_card.specs.Header.{Header}
use Rattle.fits_value.proofs.FrontLemmas.{option_map_some}
use Rattle.fits_value.specs.Says.{links_of, links_after}
use Rattle.fits_value.specs.Chaining.{next_link}
use Rattle.fits_value.proofs.ChainingLemmas.{Link, links_step, next_within}
use Rattle.fits_value.proofs.long_string.links_from.Goals as goal

pub overflow_add-place : goal.overflow_add-place
overflow_add-place c = let fits = rw c.in-Some.is at c.next_text.ensures.fits in omega (arith, fits)

pub links-preserved : goal.links-preserved
links-preserved c =
    let cards = c.links.cards.header.cards in
    let same : c.next_text.new.cards.header.cards ≡ cards = ap (λ (h : Header). h.cards) c.next_text.ensures.work.header in
    let found = option_map_some (λ (x : Link). x.0) (next_link c.links.text (drop c.links.place cards)) c.in-Some.next (sym c.next_text.ensures.value ∙ c.in-Some.is) in
    let within = next_within c.links.text found.0 cards c.links.place found.1 in
    let step = links_step c.links.text found.0 cards c.links.place within found.1 in
    let whole = ap (λ (x : List (List ℕ)). links_after c.args.text (links_of (drop c.args.first x))) same in
    let rest = ap (λ (x : List (List ℕ)). links_after c.in-Some.next (links_of (drop (c.links.place + 1) x))) same in
    let next = ap (λ (x : List ℕ). links_after x (links_of (drop (c.links.place + 1) cards))) found.2 in
    record {
      header = c.next_text.ensures.work.header ∙ c.links.invariant.header;
      room = c.next_text.ensures.work.room ∙ c.links.invariant.room;
      from = omega arith;
      within = omega (arith, within, ap (λ (x : List (List ℕ)). length x) same);
      links = omega (arith, step, whole, rest, next, c.links.invariant.links);
      least = omega arith;
      most = omega arith;
    }
