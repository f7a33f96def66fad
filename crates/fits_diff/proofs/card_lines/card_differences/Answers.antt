use Rattle.std.proofs.Common.{◌≡◌, ◌+◌, ◌∙◌, length, ap, arith}
use Rattle.fits_card.specs.Header.{Header}
use Rattle.fits_diff.specs.Matching.{IsNext, NoneNearer}
use Rattle.fits_diff.proofs.MatchLemmas.{told_all, told_more}
use Rattle.fits_diff.proofs.card_lines.card_differences.Goals as goal

-- no more are matched
pub returns-in_default-clause-told : goal.returns-in_default-clause-told
returns-in_default-clause-told c =
    let it = c.pair.invariant in
    let xs = c.args.cards.now.header.cards in
    let ys = c.args.others.now.header.cards in
    let none : NoneNearer xs ys c.pair.at.first c.pair.at.second (length xs + length ys) = rw (it.same, it.same_others) at c.in_default.ensures.none in
    let end : c.len.result ≡ length xs = c.len.ensures.value ∙ ap (λ (h : Header). length h.cards) (c.next_pair.ensures.same ∙ it.same) in
    let end_other : c.len-in_default.result ≡ length ys = c.len-in_default.ensures.value ∙ ap (λ (h : Header). length h.cards) (c.next_pair.ensures.same_others ∙ it.same_others) in
    told_all c.args.number xs ys c.pair.at.first c.pair.at.second c.len.result c.len-in_default.result c.pair.text.items c.push_before.new.text.items it.so_far none end end_other
    (rw (c.next_pair.ensures.same, it.same, c.next_pair.ensures.same_others, it.same_others) at c.in_ok-push_before.ensures.told)

pub overflow_add-at : goal.overflow_add-at
overflow_add-at c = omega (arith, c.in-Some.ensures.found.within, ap (λ (h : Header). length h.cards) c.pair.invariant.same, c.len-few.ensures.value, c.len-few.ensures.few)

pub overflow_add-at-in-pair : goal.overflow_add-at-in-pair
overflow_add-at-in-pair c = omega (arith, c.in-Some.ensures.found.within_other, ap (λ (h : Header). length h.cards) c.pair.invariant.same_others, c.len-few-2.ensures.value, c.len-few-2.ensures.few)

pub pair-preserved : goal.pair-preserved
pair-preserved c =
    let it = c.pair.invariant in
    let xs = c.args.cards.now.header.cards in
    let ys = c.args.others.now.header.cards in
    let next : IsNext xs ys c.pair.at.first c.pair.at.second c.in-Some.next.first c.in-Some.next.second = rw (it.same, it.same_others) at c.in-Some.ensures.found in
    record {
      so_far = told_more c.args.number xs ys c.pair.at.first c.pair.at.second c.in-Some.next.first c.in-Some.next.second c.pair.text.items c.push_before-in-pair.new.text.items it.so_far next
          (rw (c.next_pair.ensures.same, it.same, c.next_pair.ensures.same_others, it.same_others) at c.in_ok-push_before-2.ensures.told);
      within = omega (arith, next.within);
      within_other = omega (arith, next.within_other);
      same = c.push_before-in-pair.ensures.same ∙ c.next_pair.ensures.same ∙ it.same;
      same_others = c.push_before-in-pair.ensures.same_others ∙ c.next_pair.ensures.same_others ∙ it.same_others;
    }
