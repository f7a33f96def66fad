use Rattle.std.specs.Prelude.{All}
use Rattle.std.proofs.Common.{ap, length, ◌<◌, ◌∙◌, arith, refl, subst, sym}
use Rattle.std.specs.List.{remove}
use Rattle.std.proofs.lemmas.List.Edits.{length-remove}
use Rattle.fits_session.specs.Away.{in_file, AllLie}
use Rattle.fits_passing.specs.File.{FileParts, file_bytes, IsFile}
use Rattle.fits_session.specs.NameTable.{Stands}
use Rattle.fits_making.specs.Keeping.{IsSound}
use Rattle.fits_session.specs.Session.{IsSeen, without_entries}
use Rattle.fits_making.specs.Making.{IsHad}
use Rattle.fits_session.proofs.HadLemmas.{had_moved}
use Rattle.fits_session.proofs.KeptLemmas.{seen_same, absences_moved, count_moved, described_moved, file_of-unentered, right_unentered}
use Rattle.fits_session.proofs.StandingLemmas.{removed_leaves}
use Rattle.std.proofs.lemmas.List.{length-append}
use Rattle.fits_card.specs.Header.{header_bytes}
use Rattle.fits_header.specs.State.{HeaderState}
use Rattle.std.proofs.lemmas.Result.{err_from_is_err_and}
use Rattle.fits_hdu.specs.State.{HduState, parts_of, IsDescribed}
use Rattle.fits_session.proofs.ListEditLemmas.{all_left, primary_stays, removed_left, removed_size, removes, removes_nowhere}
use Rattle.fits_session.proofs.StateLemmas.{file_within, is_at, part_there}
use Rattle.fits_session.proofs.session.Session.take_out.Goals as goal

pub returns-in_err-i-clause-edits : goal.returns-in_err-i-clause-edits
returns-in_err-i-clause-edits g c =
    let p = err_from_is_err_and c.from_residual.result c.from_residual.ensures.1 in
    rw (p.1, p.2, c.in_err-i.ensures.why, ← c.self.view_is) (removes_nowhere c.self.inside.hdus.items c.self.inside.tail.items c.args.h (rw c.deref.ensures.value at c.in_err-i.ensures.none))

pub returns-then-i-eq0-clause-edits : goal.returns-then-i-eq0-clause-edits
returns-then-i-eq0-clause-edits g c = rw (← c.self.view_is) (primary_stays c.self.inside.hdus.items c.self.inside.tail.items c.args.h c.in_ok-i.i (rw c.deref.ensures.value at c.in_ok-i.ensures.found) (grind (arith, c.if-i-eq0.true)))

pub byte_len-header_len-requires : goal.byte_len-header_len-requires
byte_len-header_len-requires g c =
    let hdu = (parts_of c.remove-hdu.result) in
    let part = part_there c.self.inside.hdus.items c.self.inside.tail.items c.args.h c.in_ok-i.i c.remove-hdu.result
    (is_at c.self.inside.hdus.items c.deref.result.now c.args.h c.args.h c.in_ok-i.i c.remove-hdu.result c.deref.ensures.value refl c.in_ok-i.ensures.found c.remove-hdu.ensures.value) in
    let size = (file_within c.self.inside.hdus.items c.self.inside.tail.items c.self.invariant.whole).0 in
    omega (arith, part, size, length-append (header_bytes hdu.header) hdu.data_unit, ap (λ (h : HeaderState). length (header_bytes h.header)) c.header.ensures)

pub overflow_add-self : goal.overflow_add-self
overflow_add-self g c =
    let hdu = (parts_of c.remove-hdu.result) in
    let part = part_there c.self.inside.hdus.items c.self.inside.tail.items c.args.h c.in_ok-i.i c.remove-hdu.result
    (is_at c.self.inside.hdus.items c.deref.result.now c.args.h c.args.h c.in_ok-i.i c.remove-hdu.result c.deref.ensures.value refl c.in_ok-i.ensures.found c.remove-hdu.ensures.value) in
    let size = (file_within c.self.inside.hdus.items c.self.inside.tail.items c.self.invariant.whole).0 in
    omega (arith, part, size, length-append (header_bytes hdu.header) hdu.data_unit, c.byte_len-header_len.ensures, ap (λ (h : HeaderState). length (header_bytes h.header)) c.header.ensures, c.data_len-data_len.ensures)

pub overflow_sub-self : goal.overflow_sub-self
overflow_sub-self g c =
    let hdu = (parts_of c.remove-hdu.result) in
    let part = part_there c.self.inside.hdus.items c.self.inside.tail.items c.args.h c.in_ok-i.i c.remove-hdu.result
    (is_at c.self.inside.hdus.items c.deref.result.now c.args.h c.args.h c.in_ok-i.i c.remove-hdu.result c.deref.ensures.value refl c.in_ok-i.ensures.found c.remove-hdu.ensures.value) in
    let size = (file_within c.self.inside.hdus.items c.self.inside.tail.items c.self.invariant.whole).0 in
    omega (arith, part, c.self.invariant.len, length-append (header_bytes hdu.header) hdu.data_unit, c.byte_len-header_len.ensures, ap (λ (h : HeaderState). length (header_bytes h.header)) c.header.ensures, c.data_len-data_len.ensures)

pub leave-requires : goal.leave-requires
leave-requires g c =
    let at = (is_at c.self.inside.hdus.items c.deref.result.now c.args.h c.args.h c.in_ok-i.i c.remove-hdu.result c.deref.ensures.value refl c.in_ok-i.ensures.found c.remove-hdu.ensures.value) in
    rw (c.remove-hdu.ensures.items, c.entry-entry.ensures) (removed_leaves c.self.inside.hdus.items c.in_ok-i.i c.remove-hdu.result c.self.inside.names.numbers.items at.index.within at.is c.self.invariant.names)

pub invariant_of-self : goal.invariant_of-self
invariant_of-self g c =
    let hdus = c.self.inside.hdus.items in
    let hdu = (parts_of c.remove-hdu.result) in
    let behind : 0 < c.in_ok-i.i = grind (arith, c.if-i-eq0.false) in
    let at = (is_at c.self.inside.hdus.items c.deref.result.now c.args.h c.args.h c.in_ok-i.i c.remove-hdu.result c.deref.ensures.value refl c.in_ok-i.ensures.found c.remove-hdu.ensures.value) in
    let moved = c.leave.ensures.hdus ∙ ap without_entries c.remove-hdu.ensures.items in
    let same = file_of-unentered c.leave.new.hdus.items (remove hdus c.in_ok-i.i) c.self.inside.tail.items moved in
    let left = removed_left hdus c.self.inside.tail.items c.args.h c.in_ok-i.i c.remove-hdu.result c.self.invariant.whole at behind in
    let less = removed_size hdus c.self.inside.tail.items c.args.h c.in_ok-i.i c.remove-hdu.result at in
    record {
      whole = subst (λ (f : FileParts). IsFile f) (sym same) left;
      len = omega (arith, ap (λ (f : FileParts). length (file_bytes f)) same, less, c.self.invariant.len, length-append (header_bytes hdu.header) hdu.data_unit, c.byte_len-header_len.ensures, ap (λ (h : HeaderState). length (header_bytes h.header)) c.header.ensures, c.data_len-data_len.ensures);
      described = described_moved c.leave.new.hdus.items (remove hdus c.in_ok-i.i) moved (all_left IsDescribed hdus c.in_ok-i.i c.self.invariant.described);
      right = right_unentered c.leave.new.hdus.items (remove hdus c.in_ok-i.i) moved (all_left IsSound hdus c.in_ok-i.i c.self.invariant.right);
      names = subst (Stands c.leave.new.hdus.items) (sym c.release.ensures.names) c.leave.ensures.stands;
      roomy = omega (arith, c.self.invariant.roomy, c.leave.ensures.room, c.release.ensures.room, count_moved c.leave.new.hdus.items (remove hdus c.in_ok-i.i) moved, length-remove hdus c.in_ok-i.i at.index.within);
      had = had_moved _ c.leave.new.hdus.items (remove hdus c.in_ok-i.i) moved (all_left (IsHad _) hdus c.in_ok-i.i c.self.invariant.had);
    }

pub returns-clause-edits : goal.returns-clause-edits
returns-clause-edits g c =
    let behind : 0 < c.in_ok-i.i = grind (arith, c.if-i-eq0.false) in
    let at = (is_at c.self.inside.hdus.items c.deref.result.now c.args.h c.args.h c.in_ok-i.i c.remove-hdu.result c.deref.ensures.value refl c.in_ok-i.ensures.found c.remove-hdu.ensures.value) in
    rw (← c.self.view_is) (removes c.self.inside.hdus.items c.leave.new.hdus.items c.self.inside.tail.items c.args.h c.in_ok-i.i tt c.remove-hdu.result at behind (c.leave.ensures.hdus ∙ ap without_entries c.remove-hdu.ensures.items))

pub returns-clause-stays : goal.returns-clause-stays
returns-clause-stays g c = record {
  lie = λ bytes lie.
      let hdus = c.self.inside.hdus.items in
      let own : AllLie bytes hdus = rw (← c.self.view_is) at lie in
      let moved = c.leave.ensures.hdus ∙ ap without_entries c.remove-hdu.ensures.items in
      had_moved (in_file bytes) c.leave.new.hdus.items (remove hdus c.in_ok-i.i) moved (all_left (IsHad (in_file bytes)) hdus c.in_ok-i.i own);
  seen = λ all.
      let own : All IsSeen c.self.inside.hdus.items = rw (← c.self.view_is) at all in
      let moved = c.leave.ensures.hdus ∙ ap without_entries c.remove-hdu.ensures.items in
      seen_same c.leave.new.hdus.items (remove c.self.inside.hdus.items c.in_ok-i.i) (absences_moved c.leave.new.hdus.items (remove c.self.inside.hdus.items c.in_ok-i.i) moved) (all_left (λ (one : HduState). IsSeen one) c.self.inside.hdus.items c.in_ok-i.i own);
}
