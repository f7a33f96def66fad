use Rattle.std.proofs.Common.{◌≡◌, ◌++◌, ◌∙◌, List, ℕ, length, drop, ap, sym, arith, append_assoc}
use Rattle.std.proofs.lemmas.List.{length-append, take-append-drop}
use Rattle.fits_planning.proofs.FrontLemmas.{front_joined}
use Rattle.fits_planning.proofs.blocks.pass_blocks.Goals as goal

pub returns-in_err-pass_block-clause-follows : goal.returns-in_err-pass_block-clause-follows
returns-in_err-pass_block-clause-follows g c = λ xs is. c.loop-block.invariant.follows xs (c.pass_block.ensures.follows xs is)

pub loop-block-preserved : goal.loop-block-preserved
loop-block-preserved g c =
    let inv = c.loop-block.invariant in
    let block : List ℕ = c.in-Some.block.now in
    let more : List ℕ = c.in-Some.more.now in
    let rest : List ℕ = c.loop-block.rest.now in
    let cut = c.in-Some.ensures.cases in
    let split : rest ≡ block ++ more = sym (take-append-drop 2880 rest) ∙ ap (λ (l : List ℕ). l ++ drop 2880 rest) (sym cut.0) ∙ ap (λ (l : List ℕ). block ++ l) (sym cut.1) in
    let long : length block ≡ 2880 = omega (arith, ap length split, length-append block more, cut.2) in
    record {
      done = inv.done ++ block;
      joined = inv.joined ∙ ap (λ (l : List ℕ). inv.done ++ l) split ∙ sym (append_assoc inv.done block more);
      place_is = omega (arith, inv.place_is, length-append inv.done block, long);
      whole = omega (arith, inv.whole, ap length split, length-append block more, long);
      plan = λ told after is here front.
          front_joined told after inv.done block _
          (c.in_ok-pass_block.ensures.plan told (after ++ inv.done) is (omega (arith, length-append after inv.done, here, inv.place_is)) (inv.plan told after (c.pass_block.ensures.follows told is) here front));
      len = c.pass_block.ensures.len ∙ inv.len;
      quiet = c.in_ok-pass_block.ensures.quiet ∙ inv.quiet;
      follows = λ xs is. inv.follows xs (c.pass_block.ensures.follows xs is);
    }
