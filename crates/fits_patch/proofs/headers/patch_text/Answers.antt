use Rattle.std.proofs.Common.{◌≡◌, ◌+◌, ◌<◌, ◌++◌, ◌∙◌, [], length, get_or, ap, sym, subst, rules, arith}
use Rattle.std.proofs.lemmas.List.{length-map}
use Rattle.fits_card.specs.CardList.{CardStore}
use Rattle.fits_passing.specs.File.{FileParts}
use Rattle.fits_passing.specs.Headers.{read_cards}
use Rattle.fits_session.specs.Session.{file_of}
use Rattle.fits_patch.specs.Patch.{cards_at, PatchesCards}
use Rattle.fits_patch.proofs.HeaderLemmas.{cards_kept, patches_more, read_get, same_file}
use Rattle.fits_patch.proofs.headers.patch_text.Goals as goal

pub returns-in_err-lines-clause-same_headers : goal.returns-in_err-lines-clause-same_headers
returns-in_err-lines-clause-same_headers g c =
    let one : CardStore = c.index_mut-others.result.now in
    let is : one ≡ get_or c.loop-index.headers.items c.loop-index.index one = search rules in
    cards_kept c.loop-index.headers.items c.loop-index.index one c.hdu_patch.new.others is c.hdu_patch.ensures.same_others ∙ c.loop-index.invariant.same_headers

pub returns-in_err-extend_from_slice-clause-same_headers : goal.returns-in_err-extend_from_slice-clause-same_headers
returns-in_err-extend_from_slice-clause-same_headers g c =
    let one : CardStore = c.index_mut-others.result.now in
    let is : one ≡ get_or c.loop-index.headers.items c.loop-index.index one = search rules in
    cards_kept c.loop-index.headers.items c.loop-index.index one c.hdu_patch.new.others is c.hdu_patch.ensures.same_others ∙ c.loop-index.invariant.same_headers

pub loop-index-preserved : goal.loop-index-preserved
loop-index-preserved g c =
    let it = c.loop-index.invariant in
    let file : FileParts = file_of c.args.session.now in
    let others = read_cards c.args.headers.now.items in
    let k = c.loop-index.index in
    let one : CardStore = c.index_mut-others.result.now in
    let within : k < length c.loop-index.headers.items = search rules in
    let is : one ≡ get_or c.loop-index.headers.items k one = search rules in
    let here : get_or others k [] ≡ one.header.cards = ap (λ t. get_or t k []) (sym it.same_headers) ∙ read_get c.loop-index.headers.items k one within is in
    let many : length others ≡ length c.args.headers.now.items = length-map c.args.headers.now.items _ in
    let drawn : PatchesCards (k + 1) (cards_at file (k + 1)) one.header.cards c.in_ok-lines.lines.items =
    subst (λ (f : FileParts). PatchesCards (k + 1) (cards_at f (k + 1)) one.header.cards c.in_ok-lines.lines.items) (same_file c.loop-index.session c.args.session.now it.same) c.in_ok-lines.ensures.drawn in
    let added : c.extend_from_slice.new.self.items ≡ c.loop-index.text.items ++ c.in_ok-lines.lines.items = rw c.deref.ensures.value at c.in_ok-extend_from_slice.ensures.items in
    record {
      drawn = patches_more file others k one.header.cards c.loop-index.text.items c.in_ok-lines.lines.items c.extend_from_slice.new.self.items (many ∙ c.requires.count) (omega (arith, within, it.size, many)) here it.drawn drawn added;
      same = c.hdu_patch.ensures.same ∙ it.same;
      same_headers = cards_kept c.loop-index.headers.items k one c.hdu_patch.new.others is c.hdu_patch.ensures.same_others ∙ it.same_headers;
      size = search rules;
    }
