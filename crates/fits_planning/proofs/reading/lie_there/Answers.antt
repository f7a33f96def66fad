use Rattle.std.proofs.Common.{◌≡◌, ◌++◌, ◌∙◌, Err, List, ℕ, length, ap, sym, arith, append_assoc, rules}
use Rattle.std.specs.Prelude.{IsErrOf}
use Rattle.std.proofs.lemmas.List.{length-append, length-drop}
use Rattle.fits_unit.specs.declared.again.LoadFault.{LoadFault}
use Rattle.fits_unit.specs.declared.again.LoadFault.TheVariants.{Changed}
use Rattle.fits_planning.proofs.FrontLemmas.{piece_there, room_read, there_more, there_read}
use Rattle.fits_planning.proofs.reading.lie_there.Goals as goal

pub returns-in_err-same_there-clause-follows : goal.returns-in_err-same_there-clause-follows
returns-in_err-same_there-clause-follows g c = λ xs is. c.loop-rest.invariant.follows xs (c.same_there.ensures.follows xs is)

pub returns-in_err-same_there-clause-changed : goal.returns-in_err-same_there-clause-changed
returns-in_err-same_there-clause-changed g c told is changed there =
    let inv = c.loop-rest.invariant in
    let piece : List ℕ = c.split_at.result.0.now in
    let more : List ℕ = c.split_at.result.1.now in
    let split : c.loop-rest.rest.now ≡ piece ++ more = search rules in
    let wrong : IsErrOf {T = Unit {0}} {E = LoadFault} (Err c.in_err-same_there.field-0.0) Changed = search rules in
    c.in_err-same_there.ensures.changed told is wrong (piece_there told c.args.bytes.now inv.done piece more c.args.place c.loop-rest.place (inv.joined ∙ ap (λ (l : List ℕ). inv.done ++ l) split) inv.place_is there)

pub loop-rest-preserved : goal.loop-rest-preserved
loop-rest-preserved g c =
    let inv = c.loop-rest.invariant in
    let piece : List ℕ = c.split_at.result.0.now in
    let more : List ℕ = c.split_at.result.1.now in
    let split : c.loop-rest.rest.now ≡ piece ++ more = search rules in
    let long : length piece ≡ c.min-most.result = search rules in
    record {
      done = inv.done ++ piece;
      joined = inv.joined ∙ ap (λ (l : List ℕ). inv.done ++ l) split ∙ sym (append_assoc inv.done piece more);
      place_is = omega (arith, inv.place_is, length-append inv.done piece, long);
      there = λ told is. there_more told inv.done piece c.args.place c.loop-rest.place inv.place_is (inv.there told (c.same_there.ensures.follows told is)) (there_read told piece c.loop-rest.place _ _ c.in_ok-same_there.ensures.are is);
      within = λ told is.
          omega (arith, inv.within told (c.same_there.ensures.follows told is), inv.place_is, room_read told piece c.loop-rest.place _ _ c.in_ok-same_there.ensures.are is, length-append inv.done piece, length-drop c.loop-rest.place told, length-drop c.args.place told);
      quiet = c.in_ok-same_there.ensures.quiet ∙ inv.quiet;
      follows = λ xs is. inv.follows xs (c.same_there.ensures.follows xs is);
    }
