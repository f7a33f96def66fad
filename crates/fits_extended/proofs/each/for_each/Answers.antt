use Rattle.std.proofs.Common.{rules, ◌≡◌, ◌<◌, ◌+◌, ◌-◌, ℕ, suc, List, Option, arith, ap, sym, ◌∙◌, Ok, Err}
use Rattle.std.specs.Prelude.{Result}
use Rattle.std.specs.Option.{option_copied}
use Rattle.fits_passing.specs.File.{FileParts}
use Rattle.fits_session.specs.Session.{file_of}
use Rattle.fits_extended.specs.Stands.{both, for_each, lines_in, said_in, stood, with_number}
use Rattle.fits_extended.specs.declared.unmet.Unmet.{Unmet}
use Rattle.fits_extended.proofs.PlainsLemmas.{both_last, both_next, both_unmet, for_each-next, for_each-none}
use Rattle.fits_extended.proofs.StillLemmas.{still_more}
use Rattle.fits_extended.proofs.each.for_each.Goals as goal

-- what is wanted of an HDU isn't so
pub returns-in-Some-clause-ok : goal.returns-in-Some-clause-ok
returns-in-Some-clause-ok g c any =
    let inv = c.hdus.invariant in
    let file : FileParts = file_of c.args.session.now in
    let verb : List ℕ = c.cut_word.result.0.now in
    let rest : Option (List ℕ) = option_copied c.next_of.result.1 in
    let h : ℕ = c.hdus.before + 1 in
    let more : ℕ = c.hdus-count.result - h in
    let fewer : c.hdus.before < c.hdus-count.result = search rules in
    let count : c.hdus-count.result - c.hdus.before ≡ suc more = omega (arith, fewer) in
    let said : stood c.in_ok-text.text.items c.in_ok-said.said ≡ said_in file (with_number verb h rest) = search rules in
    let so_far = ap (both (Ok (lines_in c.hdus.lines.items))) (sym (for_each-next file verb rest (c.hdus-count.result - c.hdus.before) more h count)) ∙ inv.so_far in
    let unmet : said_in file (with_number verb h rest) ≡ Err c.in-Some.why = sym said ∙ (rw c.in-Some.is at c.in_ok-why.ensures.some) in
    let all = both_unmet (lines_in c.hdus.lines.items) (said_in file (with_number verb h rest)) (for_each file verb rest more (h + 1)) _ c.in-Some.why so_far unmet in
    search (rules, all)

pub hdus-preserved : goal.hdus-preserved
hdus-preserved g c =
    let inv = c.hdus.invariant in
    let file : FileParts = file_of c.args.session.now in
    let verb : List ℕ = c.cut_word.result.0.now in
    let rest : Option (List ℕ) = option_copied c.next_of.result.1 in
    let h : ℕ = c.hdus.before + 1 in
    let more : ℕ = c.hdus-count.result - h in
    let fewer : c.hdus.before < c.hdus-count.result = search rules in
    let count : c.hdus-count.result - c.hdus.before ≡ suc more = omega (arith, fewer) in
    let said : stood c.in_ok-text.text.items c.in_ok-said.said ≡ said_in file (with_number verb h rest) = search rules in
    let so_far = ap (both (Ok (lines_in c.hdus.lines.items))) (sym (for_each-next file verb rest (c.hdus-count.result - c.hdus.before) more h count)) ∙ inv.so_far in
    let added : both (Ok (lines_in c.hdus.lines.items)) (said_in file (with_number verb h rest)) ≡ Ok (lines_in c.push_said.new.lines.items) =
    ap (both (Ok (lines_in c.hdus.lines.items))) (sym said) ∙ (rw c.in_default.is at c.in_ok-why.ensures.none) in
    record {
      so_far = both_next (lines_in c.hdus.lines.items) (lines_in c.push_said.new.lines.items) (said_in file (with_number verb h rest)) (for_each file verb rest more (h + 1)) _ so_far added;
      within = omega (arith, fewer);
      same = c.said_in.ensures.same ∙ inv.same;
      stays = still_more inv.stays c.said_in.ensures.stays;
      absences = c.said_in.ensures.absences ∙ inv.absences;
    }

pub returns-clause-ok : goal.returns-clause-ok
returns-clause-ok g c any =
    let inv = c.hdus.invariant in
    let file : FileParts = file_of c.args.session.now in
    let verb : List ℕ = c.cut_word.result.0.now in
    let rest : Option (List ℕ) = option_copied c.next_of.result.1 in
    let none : c.hdus-count.result - c.hdus.before ≡ 0 = search rules in
    let all = both_last (lines_in c.hdus.lines.items) _ _ inv.so_far (for_each-none file verb rest (c.hdus-count.result - c.hdus.before) (c.hdus.before + 1) none) in
    search (rules, all)

pub returns-in_err-said-clause-stays : goal.returns-in_err-said-clause-stays
returns-in_err-said-clause-stays g c = still_more c.hdus.invariant.stays c.said_in.ensures.stays

pub returns-in_err-why-clause-stays : goal.returns-in_err-why-clause-stays
returns-in_err-why-clause-stays g c = still_more c.hdus.invariant.stays c.said_in.ensures.stays

pub returns-in-Some-clause-stays : goal.returns-in-Some-clause-stays
returns-in-Some-clause-stays g c = still_more c.hdus.invariant.stays c.said_in.ensures.stays
