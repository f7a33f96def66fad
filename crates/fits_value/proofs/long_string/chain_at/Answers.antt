use Rattle.std.proofs.Common.{arith, ap, sym, subst, ◌∙◌, ◌≡◌, ◌+◌, ◌++◌, List, ℕ, length, drop, Some}
use Rattle.fits_card.specs.Header.{Header}
use Rattle.fits_value.specs.LongString.{without_last}
use Rattle.fits_value.specs.Says.{links_of, links_after, joined}
use Rattle.fits_value.specs.Chaining.{next_link, JoinsTo}
use Rattle.fits_value.proofs.ChainingLemmas.{Link, links_step, joins_step, next_within}
use Rattle.fits_value.proofs.long_string.chain_at.Goals as goal

pub overflow_add-place : goal.overflow_add-place
overflow_add-place c = let fits = rw c.in-Some.is at c.in_ok-more.ensures.fits in omega (arith, fits)

pub links-preserved : goal.links-preserved
links-preserved c =
    let cards = c.links.cards.header.cards in
    let same : c.next_piece.new.cards.header.cards ≡ cards = ap (λ (h : Header). h.cards) c.next_piece.ensures.work.header in
    let link : Link = (c.in-Some.more, c.in-Some.more_comment) in
    let found : next_link c.links.piece (drop c.links.place cards) ≡ Some link =
    ap (λ (x : List ℕ). next_link x (drop c.links.place cards)) (sym c.as_bytes.ensures) ∙ (sym c.in_ok-more.ensures.value ∙ c.in-Some.is) in
    let within = next_within c.links.piece link cards c.links.place found in
    let step = links_step c.links.piece link cards c.links.place within found in
    let whole = ap (λ (x : List (List ℕ)). links_after c.args.piece (links_of (drop c.args.first x))) same in
    let rest = ap (λ (x : List (List ℕ)). links_after c.in-Some.more (links_of (drop (c.links.place + 1) x))) same in
    record {
      header = c.next_piece.ensures.work.header ∙ c.links.invariant.header;
      room = c.next_piece.ensures.work.room ∙ c.links.invariant.room;
      within = omega (arith, within, ap (λ (x : List (List ℕ)). length x) same);
      joins =
          subst (λ (x : List (List ℕ)). JoinsTo (joined c.args.piece c.args.comment (links_of (drop c.args.first x))) c.join.new.joined.items c.in-Some.more c.in-Some.more_comment (drop (c.links.place + 1) x)) (sym same)
          (subst (λ (x : List ℕ). JoinsTo (joined c.args.piece c.args.comment (links_of (drop c.args.first cards))) x c.in-Some.more c.in-Some.more_comment (drop (c.links.place + 1) cards))
          (sym (c.in_ok-join.ensures ∙ ap (λ (x : List ℕ). c.links.joined.items ++ without_last x) c.as_bytes-in-links.ensures))
          (joins_step (joined c.args.piece c.args.comment (links_of (drop c.args.first cards))) link c.links.joined.items c.links.piece c.links.comment cards c.links.place within c.links.invariant.joins found));
      links = omega (arith, step, whole, rest, c.links.invariant.links);
      least = omega arith;
      most = omega arith;
    }
