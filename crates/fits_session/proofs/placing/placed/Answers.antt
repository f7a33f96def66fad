use Rattle.std.proofs.Common.{All, ◌≡◌, ◌∙◌, ◌∷◌, ◌+◌, ◌≤◌, ◌^◌, ◌++◌, [], List, ℕ, ap, arith, length, map, subst, sym, true}
use Rattle.std.proofs.lemmas.List.{length-append}
use Rattle.std.proofs.lemmas.List.Elements.{All-head, All-nil, All-push, All-tail}
use Rattle.fits_card.specs.Header.{header_bytes}
use Rattle.fits_passing.specs.Hdu.{hdu_bytes}
use Rattle.fits_passing.specs.Met.{all_there, parts_met, hdu_end, hdus_end, unit_place, AllLieThere, AllPassed, AreMet, IsMet}
use Rattle.fits_hdu.specs.State.{HduState, hdu_at, parts_of, IsSeen}
use Rattle.fits_hdu.specs.Work.{IsOpenedAt}
use Rattle.fits_making.specs.Making.{IsHad}
use Rattle.fits_passing.specs.declared.passed_hdu.PassedHdu.{PassedHdu}
use Rattle.fits_session.specs.Away.{in_file, AllLie, AreOpenedFrom}
use Rattle.fits_passing.specs.File.{joined_hdus}
use Rattle.fits_session.specs.Session.{hdus_of}
use Rattle.fits_unit.specs.DataUnit.{is_passed}
use Rattle.fits_session.proofs.AwayLemmas.{end_least, had_placed, joined_push, opened_push, parts_placed, pushed_met, pushed_there, seen_placed}
use Rattle.fits_session.proofs.placing.placed.Goals as goal

pub loop-it-init : goal.loop-it-init
loop-it-init c =
    let none : c.new-hdus.result.items ≡ [] = c.new-hdus.ensures.items in
    let rest : List PassedHdu = c.into_iter-it-iterator.result.rest.items in
    let same : rest ≡ c.args.passed.items = c.into_iter-it-iterator.ensures.into_iter_gives.0 in
    record {
      there = λ told lie. ap (λ (hdus : List HduState). hdus_of (map (hdu_at told) hdus) ++ all_there told 0 rest) none ∙ ap (all_there told 0) same;
      lie = λ told lie. (subst (AllLie told) (sym none) (All-nil (IsHad (in_file told))), subst (AllLieThere told 0) (sym same) lie);
      parts = ap (λ (hdus : List HduState). hdus_of hdus ++ map parts_met rest) none ∙ ap (map parts_met) same;
      end = sym (ap (λ (hdus : List HduState). length (joined_hdus (hdus_of hdus))) none);
      few = subst (λ (ks : List PassedHdu). hdus_end 0 ks ≤ 2 ^ 34) (sym same) c.requires.few;
      opened = subst (AreOpenedFrom 0) (sym none) tt;
      met = subst AreMet (sym same) c.requires.met;
      seen = λ passed. (subst (All IsSeen) (sym none) (All-nil IsSeen), subst AllPassed (sym same) passed);
    }

pub byte_len-requires : goal.byte_len-requires
byte_len-requires c =
    let it : PassedHdu = c.in-Some.it in
    let next = c.in-Some.ensures.steps.0 in
    let few : hdus_end c.loop-it.end (it ∷ c.next.new.self.rest.items) ≤ 2 ^ 34 = subst (λ (ks : List PassedHdu). hdus_end c.loop-it.end ks ≤ 2 ^ 34) next c.loop-it.invariant.few in
    let least = end_least (hdu_end c.loop-it.end it) c.next.new.self.rest.items in
    omega (arith, few, least)

pub overflow_add-place : goal.overflow_add-place
overflow_add-place c =
    let it : PassedHdu = c.in-Some.it in
    let next = c.in-Some.ensures.steps.0 in
    let few : hdus_end c.loop-it.end (it ∷ c.next.new.self.rest.items) ≤ 2 ^ 34 = subst (λ (ks : List PassedHdu). hdus_end c.loop-it.end ks ≤ 2 ^ 34) next c.loop-it.invariant.few in
    let least = end_least (hdu_end c.loop-it.end it) c.next.new.self.rest.items in
    omega (arith, few, least, c.byte_len.ensures)

pub overflow_add-end : goal.overflow_add-end
overflow_add-end c =
    let it : PassedHdu = c.in-Some.it in
    let next = c.in-Some.ensures.steps.0 in
    let few : hdus_end c.loop-it.end (it ∷ c.next.new.self.rest.items) ≤ 2 ^ 34 = subst (λ (ks : List PassedHdu). hdus_end c.loop-it.end ks ≤ 2 ^ 34) next c.loop-it.invariant.few in
    let least = end_least (hdu_end c.loop-it.end it) c.next.new.self.rest.items in
    omega (arith, few, least, c.byte_len.ensures, c.byte_len-in-loop-it.ensures)

pub away-requires : goal.away-requires
away-requires c =
    let next = c.in-Some.ensures.steps.0 in
    All-head (λ (k : PassedHdu). IsMet k.header k.unit) c.in-Some.it c.next.new.self.rest.items (subst AreMet next c.loop-it.invariant.met)

pub loop-it-preserved : goal.loop-it-preserved
loop-it-preserved c =
    let it : PassedHdu = c.in-Some.it in
    let one : HduState = c.in_ok-away.field-0 in
    let made = c.in_ok-away.ensures in
    let next = c.in-Some.ensures.steps.0 in
    let start : ℕ = c.loop-it.end in
    let place : ℕ = start + c.byte_len.result in
    let place_is : place ≡ unit_place start it = ap (λ n. start + n) c.byte_len.ensures in
    let last : place + c.byte_len-in-loop-it.result ≡ hdu_end start it = ap (λ n. n + c.byte_len-in-loop-it.result) place_is ∙ ap (λ n. unit_place start it + n) c.byte_len-in-loop-it.ensures in
    let header : length (header_bytes one.header.header) ≡ c.byte_len.result = ap (λ h. length (header_bytes h)) made.header ∙ sym c.byte_len.ensures in
    let size : length (hdu_bytes (parts_of one)) ≡ c.byte_len.result + c.byte_len-in-loop-it.result = omega (arith, header, length-append (header_bytes one.header.header) one.plane.bytes, ap length made.unit, c.byte_len-in-loop-it.ensures) in
    let there : place ≡ 0 + length (joined_hdus (hdus_of c.loop-it.hdus.items)) + length (header_bytes one.header.header) = omega (arith, c.loop-it.invariant.end, header) in
    let few : hdus_end start (it ∷ c.next.new.self.rest.items) ≤ 2 ^ 34 = subst (λ (ks : List PassedHdu). hdus_end start ks ≤ 2 ^ 34) next c.loop-it.invariant.few in
    record {
      there = λ told lie.
          let was = c.loop-it.invariant.lie told lie in
          let mine : AllLieThere told start (it ∷ c.next.new.self.rest.items) = subst (AllLieThere told start) next was.1 in
          pushed_there told c.loop-it.hdus.items c.push.new.self.items one start (place + c.byte_len-in-loop-it.result) it c.loop-it.it-iterator.rest.items c.next.new.self.rest.items _ c.in_ok-push.ensures.items (parts_placed told start place it one made.header made.unit made.known made.opened place_is mine.0) last next (c.loop-it.invariant.there told lie);
      lie = λ told lie.
          let was = c.loop-it.invariant.lie told lie in
          let mine : AllLieThere told start (it ∷ c.next.new.self.rest.items) = subst (AllLieThere told start) next was.1 in
          (subst (AllLie told) (sym c.in_ok-push.ensures.items) (All-push (IsHad (in_file told)) c.loop-it.hdus.items one was.0 (had_placed told start place it one made.unit made.known made.opened place_is mine.0)), subst (λ n. AllLieThere told n c.next.new.self.rest.items) (sym last) mine.1);
      parts = pushed_met c.loop-it.hdus.items c.push.new.self.items one it c.loop-it.it-iterator.rest.items c.next.new.self.rest.items _ c.in_ok-push.ensures.items made.header made.unit next c.loop-it.invariant.parts;
      end = omega (arith, c.loop-it.invariant.end, size, joined_push c.loop-it.hdus.items one, ap (λ (us : List HduState). length (joined_hdus (hdus_of us))) c.in_ok-push.ensures.items);
      few = subst (λ n. hdus_end n c.next.new.self.rest.items ≤ 2 ^ 34) (sym last) few;
      opened = subst (AreOpenedFrom 0) (sym c.in_ok-push.ensures.items) (opened_push 0 c.loop-it.hdus.items one c.loop-it.invariant.opened (subst (λ n. IsOpenedAt n one) there made.opened));
      met = All-tail (λ (k : PassedHdu). IsMet k.header k.unit) it c.next.new.self.rest.items (subst AreMet next c.loop-it.invariant.met);
      seen = λ passed.
          let was = c.loop-it.invariant.seen passed in
          let mine = subst AllPassed next was.1 in
          (subst (All IsSeen) (sym c.in_ok-push.ensures.items) (All-push IsSeen c.loop-it.hdus.items one was.0 (seen_placed place it one made.known made.opened (All-head (λ (k : PassedHdu). is_passed k.unit ≡ true) it c.next.new.self.rest.items mine))), All-tail (λ (k : PassedHdu). is_passed k.unit ≡ true) it c.next.new.self.rest.items mine);
    }
