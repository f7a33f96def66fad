use Rattle.std.proofs.Common.{◌≡◌, ◌∙◌, ℕ, suc, ◌+◌, ◌-◌, Bool, false, ap, arith, sym}
use Rattle.std.specs.Prelude.{if◌then◌else◌}
use Rattle.fits_passing.specs.File.{FileParts}
use Rattle.fits_session.specs.Marked.{Marked}
use Rattle.fits_extended.specs.Stands.{first_from, is_called}
use Rattle.fits_extended.proofs.StillLemmas.{still_more}
use Rattle.fits_extended.proofs.naming.number_called.Goals as goal

-- where it isn't so of a number, the first of which it is comes after it
first_next : (is : ℕ → Bool) (n more h found : ℕ) → n ≡ suc more → is h ≡ false → first_from is n h ≡ found → first_from is more (h + 1) ≡ found
unfolding first_from
first_next is n more h found count none so_far =
    let next : first_from is (suc more) h ≡ first_from is more (h + 1) = ap (λ (b : Bool). if b then h else first_from is more (h + 1)) none in
    sym next ∙ ap (λ (m : ℕ). first_from is m h) (sym count) ∙ so_far

pub returns-in_err-is_called-clause-stays : goal.returns-in_err-is_called-clause-stays
returns-in_err-is_called-clause-stays g c = still_more c.hdus.invariant.stays c.is_called.ensures.stays

pub returns-then-branch-clause-stays : goal.returns-then-branch-clause-stays
returns-then-branch-clause-stays g c = still_more c.hdus.invariant.stays c.is_called.ensures.stays

pub hdus-preserved : goal.hdus-preserved
hdus-preserved g c =
    let inv = c.hdus.invariant in
    let h : ℕ = c.hdus.before + 1 in
    let fewer : c.hdus-count.result - c.hdus.before ≡ suc (c.hdus-count.result - h) = omega (arith, c.hdus-test.true) in
    record {
      found = first_next _ _ (c.hdus-count.result - h) h _ fewer
          (ap (λ (m : Marked). is_called m.file c.args.name.now c.args.version h) (sym inv.same) ∙ sym c.in_ok-is_called.ensures.value ∙ c.if-branch.false) inv.found;
      same = c.is_called.ensures.same ∙ inv.same;
      stays = still_more inv.stays c.is_called.ensures.stays;
      absences = c.is_called.ensures.absences ∙ inv.absences;
    }
