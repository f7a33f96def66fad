use Rattle.std.proofs.Common.{◌≢◌, ◌+◌, ◌∙◌, arith}
use Rattle.std.proofs.lemmas.List.{length-set, get_or-set_other}
use Rattle.fits_plane.proofs.LeafLemmas.{set_next}
use Rattle.fits_plane.proofs.nodes.ask_leaves.Goals as goal

-- one leaf more is asked, and written
pub loop-i-preserved : goal.loop-i-preserved
loop-i-preserved g c =
    let s = g.S.Summary in
    let v = c.loop-i.invariant in
    let at = c.args.width + c.loop-i.i in
    record {
      long = length-set c.loop-i.nodes at c.leaf.result ∙ v.long;
      asked = set_next (λ k x. g.F.Fn.post c.args.leaf.now (k, tt) x) s.empty c.loop-i.nodes c.args.width c.loop-i.i c.leaf.result (omega (arith, v.long, c.requires.long, c.requires.within, c.loop-i-test.true)) v.asked c.leaf.ensures;
      past = λ k b. let ne : k ≢ at = omega (arith, b) in get_or-set_other c.loop-i.nodes at k c.leaf.result s.empty ne ∙ v.past k (omega (arith, b));
      front = λ k b. let ne : k ≢ at = omega (arith, b) in get_or-set_other c.loop-i.nodes at k c.leaf.result s.empty ne ∙ v.front k b;
    }
