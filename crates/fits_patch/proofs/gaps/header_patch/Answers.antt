use Rattle.std.proofs.Common.{◌≡◌, ◌+◌, ◌-◌, ◌∙◌, length, ap, arith}
use Rattle.fits_card.specs.Header.{Header}
use Rattle.fits_diff.specs.Matching.{IsNext, NoneNearer}
use Rattle.fits_patch.proofs.GapLemmas.{drawn_all, drawn_more}
use Rattle.fits_patch.proofs.gaps.header_patch.Goals as goal

-- no more are matched
pub returns-in_default-clause-drawn : goal.returns-in_default-clause-drawn
returns-in_default-clause-drawn c =
    let it = c.pair.invariant in
    let xs = c.args.cards.now.header.cards in
    let ys = c.args.others.now.header.cards in
    let none : NoneNearer xs ys c.pair.at.first c.pair.at.second (length xs + length ys) = rw (it.same, it.same_others) at c.in_default.ensures.none in
    let all : c.len.result ≡ length xs = c.len.ensures.value ∙ ap (λ (h : Header). length h.cards) (c.next_pair.ensures.same ∙ it.same) in
    let end : c.len-end.result ≡ length ys = c.len-end.ensures.value ∙ ap (λ (h : Header). length h.cards) (c.next_pair.ensures.same_others ∙ it.same_others) in
    drawn_all c.args.h xs ys c.pair.at.first c.pair.at.second (c.len.result - c.pair.at.first) c.len-end.result c.pair.text.items c.push_gap.new.text.items it.so_far none (ap (λ n. n - c.pair.at.first) all) end
    (rw (c.next_pair.ensures.same_others, it.same_others) at c.in_ok-push_gap.ensures.drawn)

pub overflow_add-at : goal.overflow_add-at
overflow_add-at c = omega (arith, c.in-Some.ensures.found.within, ap (λ (h : Header). length h.cards) c.pair.invariant.same, c.len-few.ensures.value, c.len-few.ensures.few)

pub overflow_add-at-in-pair : goal.overflow_add-at-in-pair
overflow_add-at-in-pair c = omega (arith, c.in-Some.ensures.found.within_other, ap (λ (h : Header). length h.cards) c.pair.invariant.same_others, c.len-few-2.ensures.value, c.len-few-2.ensures.few)

pub pair-preserved : goal.pair-preserved
pair-preserved c =
    let it = c.pair.invariant in
    let xs = c.args.cards.now.header.cards in
    let ys = c.args.others.now.header.cards in
    let next : IsNext xs ys c.pair.at.first c.pair.at.second c.in-Some.next.first c.in-Some.next.second = rw (it.same, it.same_others) at c.in-Some.ensures.found in
    record {
      so_far = drawn_more c.args.h xs ys c.pair.at.first c.pair.at.second c.in-Some.next.first c.in-Some.next.second c.pair.text.items c.push_gap-in-pair.new.text.items it.so_far next
          (rw (c.next_pair.ensures.same_others, it.same_others) at c.in_ok-push_gap-2.ensures.drawn);
      within = omega (arith, next.within);
      within_other = omega (arith, next.within_other);
      same = c.next_pair.ensures.same ∙ it.same;
      same_others = c.push_gap-in-pair.ensures.same ∙ c.next_pair.ensures.same_others ∙ it.same_others;
    }
