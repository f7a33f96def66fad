use Rattle.std.proofs.Common.{◌≡◌, ◌+◌, ◌<◌, ◌∙◌, [], length, get_or, ap, sym, rules, arith}
use Rattle.std.proofs.lemmas.Bool.{false≢true}
use Rattle.std.proofs.lemmas.List.{length-map}
use Rattle.fits_card.specs.CardList.{CardStore}
use Rattle.fits_passing.specs.File.{FileParts}
use Rattle.fits_passing.specs.Headers.{read_cards}
use Rattle.fits_session.specs.Session.{file_of}
use Rattle.fits_patch.specs.Patch.{cards_at}
use Rattle.fits_patch.proofs.HeaderLemmas.{cards_kept, hdus_alike, hdus_differ, read_get, same_file}
use Rattle.fits_patch.proofs.headers.are_cards.Goals as goal

-- the cards of an HDU are others
pub returns-then-not-are_same : goal.returns-then-not-are_same
returns-then-not-are_same g c =
    let it = c.loop-index.invariant in
    let file : FileParts = file_of c.args.session.now in
    let others = read_cards c.args.headers.now.items in
    let k = c.loop-index.index in
    let one : CardStore = c.index_mut-others.result.now in
    let within : k < length c.loop-index.headers.items = search rules in
    let is : one ≡ get_or c.loop-index.headers.items k one = search rules in
    let here : get_or others k [] ≡ one.header.cards = ap (λ t. get_or t k []) (sym it.same_headers) ∙ read_get c.loop-index.headers.items k one within is in
    let cards : c.in_ok-cards.cards.items ≡ cards_at file (k + 1) = c.in_ok-cards.ensures.ok ∙ ap (λ (f : FileParts). cards_at f (k + 1)) (same_file c.loop-index.session c.args.session.now it.same) in
    let test = rw c.deref.ensures.value at c.are_same.ensures.value in
    (λ so. absurd (false≢true so), hdus_differ file others k c.in_ok-cards.cards.items one.header.cards c.are_same.result c.if-not-are_same.true test.1 cards here)

pub loop-index-preserved : goal.loop-index-preserved
loop-index-preserved g c =
    let it = c.loop-index.invariant in
    let file : FileParts = file_of c.args.session.now in
    let others = read_cards c.args.headers.now.items in
    let k = c.loop-index.index in
    let one : CardStore = c.index_mut-others.result.now in
    let within : k < length c.loop-index.headers.items = search rules in
    let is : one ≡ get_or c.loop-index.headers.items k one = search rules in
    let here : get_or others k [] ≡ one.header.cards = ap (λ t. get_or t k []) (sym it.same_headers) ∙ read_get c.loop-index.headers.items k one within is in
    let cards : c.in_ok-cards.cards.items ≡ cards_at file (k + 1) = c.in_ok-cards.ensures.ok ∙ ap (λ (f : FileParts). cards_at f (k + 1)) (same_file c.loop-index.session c.args.session.now it.same) in
    let test = rw c.deref.ensures.value at c.are_same.ensures.value in
    let many : length others ≡ length c.args.headers.now.items = length-map c.args.headers.now.items _ in
    let count : length c.args.headers.now.items ≡ length file.hdus = sym (c.len.ensures ∙ c.args.headers.now.ok.0) ∙ sym c.if-hdus-len.false ∙ c.hdus.ensures in
    record {
      alike = hdus_alike file others k c.in_ok-cards.cards.items one.header.cards (many ∙ count) (omega (arith, within, it.size, many)) (test.0 c.if-not-are_same.false) cards here it.alike;
      same = c.cards_at.ensures.same ∙ it.same;
      same_headers = cards_kept c.loop-index.headers.items k one c.are_same.new.others is c.are_same.ensures.same ∙ it.same_headers;
      size = search rules;
    }
