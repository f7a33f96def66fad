use Rattle.std.proofs.Common.{◌∙◌, length, sym}
use Rattle.std.proofs.lemmas.List.{length-map}
use Rattle.fits_passing.specs.Headers.{read_cards}
use Rattle.fits_session.specs.Session.{file_of, marked_of}
use Rattle.fits_patch.proofs.MakingLemmas.{script_is}
use Rattle.fits_patch.proofs.patch.patch.Goals as goal

-- there are more HDUs of one
pub returns-then-hdus-len-clause-err : goal.returns-then-hdus-len-clause-err
returns-then-hdus-len-clause-err g c = record {
  cards = read_cards c.in-Ok.headers.items;
  read = c.in-Ok.ensures.ok;
  other = λ same. c.if-hdus-len.true (c.hdus.ensures ∙ sym same ∙ length-map c.in-Ok.headers.items _ ∙ sym (c.len.ensures ∙ c.in-Ok.headers.ok.0));
}

pub returns-clause-ok : goal.returns-clause-ok
returns-clause-ok g c =
    let is = script_is (file_of c.args.session.now) (marked_of c.patch_text.new.session) c.deref.result.now c.in_ok-text.text.items (c.patch_text.ensures.same ∙ c.requires.unmarked) c.deref.ensures.value in
    record {
      cards = read_cards c.in-Ok.headers.items;
      drawn = record { read = c.in-Ok.ensures.ok; lines = c.in_ok-text.ensures.drawn };
      makes = record { end = marked_of c.make_script.new.session; accepted = sym is ∙ c.in-Ok-make_script.ensures.ok; are = c.in_ok-are_cards.ensures.0 c.if-not-branch.false ∙ c.patch_text.ensures.same_headers };
    }
