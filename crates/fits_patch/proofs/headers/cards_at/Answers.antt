use Rattle.std.proofs.Common.{◌≡◌, ◌+◌, ◌∙◌, ap, sym, Ok, Err}
use Rattle.fits_passing.specs.File.{FileParts}
use Rattle.fits_session.specs.Query.{card_in}
use Rattle.fits_session.specs.Session.{file_of}
use Rattle.fits_patch.proofs.HeaderLemmas.{card_taken, cards_taken, same_file}
use Rattle.fits_patch.proofs.headers.cards_at.Goals as goal

pub card-preserved : goal.card-preserved
card-preserved g c =
    let it = c.card.invariant in
    let file : FileParts = file_of c.args.session.now in
    let read : card_in file c.args.h (c.len.result + 1) ≡ Ok c.in-Ok.card = ap (λ (f : FileParts). card_in f c.args.h (c.len.result + 1)) (sym (same_file c.card.session c.args.session.now it.same)) ∙ sym c.in-Ok.ensures.value in
    record {
      taken = card_taken file c.args.h c.len.result c.card.cards.items c.push.new.self.items c.in-Ok.card (c.len.ensures ∙ c.card.cards.ok.0) read it.taken c.in_ok-push.ensures.items;
      same = c.in-Ok.ensures.asks.file ∙ it.same;
    }

pub returns-clause-ok : goal.returns-clause-ok
returns-clause-ok g c =
    let it = c.card.invariant in
    let file : FileParts = file_of c.args.session.now in
    let read : card_in file c.args.h (c.len.result + 1) ≡ Err c.in_default.field-0 = ap (λ (f : FileParts). card_in f c.args.h (c.len.result + 1)) (sym (same_file c.card.session c.args.session.now it.same)) ∙ sym c.in_default.ensures.value in
    cards_taken file c.args.h c.len.result c.card.cards.items c.in_default.field-0 (c.len.ensures ∙ c.card.cards.ok.0) read it.taken
