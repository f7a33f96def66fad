use Rattle.fits_session.proofs.HadLemmas.{seen_held}
use Rattle.fits_session.specs.Session.{IsSeen}
use Rattle.std.specs.Prelude.{All}
use Rattle.std.proofs.Common.{◌≡◌, ◌+◌, ◌-◌, inl, inr, length, arith, ap, sym, ◌∙◌, refl}
use Rattle.std.proofs.lemmas.Result.{err_from_is_err_and}
use Rattle.fits_passing.specs.Hdu.{hdu_bytes}
use Rattle.fits_image.specs.ImageCards.{are_axes}
use Rattle.fits_hdu.specs.NewImage.{new_image}
use Rattle.fits_rules.specs.declared.array_shape.Shape.{Shape}
use Rattle.fits_session.specs.Away.{in_file, AllLie}
use Rattle.fits_making.specs.CardEdit.{is_within}
use Rattle.fits_making.specs.Making.{IsHad}
use Rattle.fits_making.proofs.HadLemmas.{had_held}
use Rattle.fits_session.proofs.ListEditLemmas.{all_inserted, is_placed, new_first, new_fits, new_left, new_made, new_memory, new_nowhere, new_shapeless, new_size, new_too_large, placed_at}
use Rattle.std.proofs.lemmas.List.{length-map}
use Rattle.std.proofs.lemmas.List.Edits.{length-insert}
use Rattle.fits_hdu.specs.State.{HduState, name_of, IsDescribed}
use Rattle.fits_session.specs.NameTable.{names_of}
use Rattle.fits_session.proofs.KeptLemmas.{kept_as}
use Rattle.fits_session.proofs.StandingLemmas.{unnamed_stands}
use Rattle.fits_session.proofs.TableLemmas.{names_within}
use Rattle.fits_making.specs.Keeping.{IsSound}
use Rattle.fits_session.proofs.StateLemmas.{file_within, unkept_right}
use Rattle.fits_session.proofs.session.Session.put_image.Goals as goal

pub returns-then-not-is_within-clause-edits : goal.returns-then-not-is_within-clause-edits
returns-then-not-is_within-clause-edits g c =
    let many : length c.self.inside.hdus.items ≡ c.len.result = omega (arith, c.len.ensures, c.self.inside.hdus.ok.0) in
    rw (← c.self.view_is) (new_nowhere c.self.inside.hdus.items c.self.inside.tail.items c.args.at c.args.kind c.args.axes.now (ap (λ n. is_within c.args.at (n + 1)) many ∙ sym c.is_within.ensures ∙ c.if-not-is_within.true))

pub returns-then-at-eq1-clause-edits : goal.returns-then-at-eq1-clause-edits
returns-then-at-eq1-clause-edits g c =
    let many : length c.self.inside.hdus.items ≡ c.len.result = omega (arith, c.len.ensures, c.self.inside.hdus.ok.0) in
    rw (← c.self.view_is) (new_first c.self.inside.hdus.items c.self.inside.tail.items c.args.at c.args.kind c.args.axes.now (ap (λ n. is_within c.args.at (n + 1)) many ∙ sym c.is_within.ensures ∙ c.if-not-is_within.false) c.if-at-eq1.true)

pub returns-then-not-are_axes-clause-edits : goal.returns-then-not-are_axes-clause-edits
returns-then-not-are_axes-clause-edits g c =
    let many : length c.self.inside.hdus.items ≡ c.len.result = omega (arith, c.len.ensures, c.self.inside.hdus.ok.0) in
    rw (← c.self.view_is) (new_shapeless c.self.inside.hdus.items c.self.inside.tail.items c.args.at c.args.kind c.args.axes.now (ap (λ n. is_within c.args.at (n + 1)) many ∙ sym c.is_within.ensures ∙ c.if-not-is_within.false) c.if-at-eq1.false (ap are_axes (sym c.as_slice.ensures) ∙ sym c.are_axes.ensures ∙ c.if-not-are_axes.true))

pub returns-then-len-ge-HDU_LIMIT-clause-edits : goal.returns-then-len-ge-HDU_LIMIT-clause-edits
returns-then-len-ge-HDU_LIMIT-clause-edits g c =
    let many : length c.self.inside.hdus.items ≡ c.len.result = omega (arith, c.len.ensures, c.self.inside.hdus.ok.0) in
    let placed = is_placed (length c.self.inside.hdus.items) c.len.result c.args.at c.args.axes.now c.as_slice.result.now many (sym c.is_within.ensures ∙ c.if-not-is_within.false) c.if-at-eq1.false c.as_slice.ensures (sym c.are_axes.ensures ∙ c.if-not-are_axes.false) in
    rw (← c.self.view_is) (new_too_large c.self.inside.hdus.items c.self.inside.tail.items c.args.at c.args.kind c.args.axes.now placed (inl (grind (arith, c.if-len-ge-HDU_LIMIT.true, c.len-2.ensures, c.self.inside.hdus.ok.0))))

pub returns-in_err-shape-clause-edits : goal.returns-in_err-shape-clause-edits
returns-in_err-shape-clause-edits g c =
    let many : length c.self.inside.hdus.items ≡ c.len.result = omega (arith, c.len.ensures, c.self.inside.hdus.ok.0) in
    let placed = is_placed (length c.self.inside.hdus.items) c.len.result c.args.at c.args.axes.now c.as_slice.result.now many (sym c.is_within.ensures ∙ c.if-not-is_within.false) c.if-at-eq1.false c.as_slice.ensures (sym c.are_axes.ensures ∙ c.if-not-are_axes.false) in
    let p = err_from_is_err_and c.from_residual.result c.from_residual.ensures.1 in
    rw (p.1, p.2, ← c.self.view_is) (new_memory c.self.inside.hdus.items c.self.inside.tail.items c.args.at c.args.kind c.args.axes.now placed)

pub returns-in_err-hdu-clause-edits : goal.returns-in_err-hdu-clause-edits
returns-in_err-hdu-clause-edits g c =
    let many : length c.self.inside.hdus.items ≡ c.len.result = omega (arith, c.len.ensures, c.self.inside.hdus.ok.0) in
    let placed = is_placed (length c.self.inside.hdus.items) c.len.result c.args.at c.args.axes.now c.as_slice.result.now many (sym c.is_within.ensures ∙ c.if-not-is_within.false) c.if-at-eq1.false c.as_slice.ensures (sym c.are_axes.ensures ∙ c.if-not-are_axes.false) in
    let p = err_from_is_err_and c.from_residual-in_err-hdu.result c.from_residual-in_err-hdu.ensures.1 in
    rw (p.1, p.2, ← c.self.view_is) (new_memory c.self.inside.hdus.items c.self.inside.tail.items c.args.at c.args.kind c.args.axes.now placed)

pub returns-in_err-reserve-clause-edits : goal.returns-in_err-reserve-clause-edits
returns-in_err-reserve-clause-edits g c =
    let many : length c.self.inside.hdus.items ≡ c.len.result = omega (arith, c.len.ensures, c.self.inside.hdus.ok.0) in
    let placed = is_placed (length c.self.inside.hdus.items) c.len.result c.args.at c.args.axes.now c.as_slice.result.now many (sym c.is_within.ensures ∙ c.if-not-is_within.false) c.if-at-eq1.false c.as_slice.ensures (sym c.are_axes.ensures ∙ c.if-not-are_axes.false) in
    let p = err_from_is_err_and c.from_residual-in_err-reserve.result c.from_residual-in_err-reserve.ensures.1 in
    rw (p.1, p.2, c.reserve.ensures.items, ← c.self.view_is) (new_memory c.self.inside.hdus.items c.self.inside.tail.items c.args.at c.args.kind c.args.axes.now placed)

pub returns-in_err-reserve-2-clause-edits : goal.returns-in_err-reserve-2-clause-edits
returns-in_err-reserve-2-clause-edits g c =
    let many : length c.self.inside.hdus.items ≡ c.len.result = omega (arith, c.len.ensures, c.self.inside.hdus.ok.0) in
    let placed = is_placed (length c.self.inside.hdus.items) c.len.result c.args.at c.args.axes.now c.as_slice.result.now many (sym c.is_within.ensures ∙ c.if-not-is_within.false) c.if-at-eq1.false c.as_slice.ensures (sym c.are_axes.ensures ∙ c.if-not-are_axes.false) in
    let p = err_from_is_err_and c.from_residual-in_err-reserve-2.result c.from_residual-in_err-reserve-2.ensures.1 in
    rw (p.1, p.2, c.reserve.ensures.items, ← c.self.view_is) (new_memory c.self.inside.hdus.items c.self.inside.tail.items c.args.at c.args.kind c.args.axes.now placed)

pub reserve-requires-2 : goal.reserve-requires-2
reserve-requires-2 g c =
    omega (arith, names_within (names_of c.self.inside.hdus.items) c.self.inside.names.numbers.items c.self.invariant.names.table, length-map c.self.inside.hdus.items name_of, c.self.inside.hdus.ok.0, ap length c.reserve.ensures.items, c.len-3.ensures)

-- the table is as it was
pub invariant_of-self-in_err-reserve-2 : goal.invariant_of-self-in_err-reserve-2
invariant_of-self-in_err-reserve-2 g c =
    rw c.reserve.ensures.items (kept_as _ c.self.inside.hdus.items c.self.inside.tail.items c.self.inside.len c.self.inside.names.numbers.items c.reserve-2.new.self.numbers.items c.self.inside.names.room c.reserve-2.new.self.room c.reserve-2.ensures.names c.in_err-reserve-2.ensures.err c.self.invariant)

pub returns-in_default-clause-edits : goal.returns-in_default-clause-edits
returns-in_default-clause-edits g c =
    let many : length c.self.inside.hdus.items ≡ c.len.result = omega (arith, c.len.ensures, c.self.inside.hdus.ok.0) in
    let placed = is_placed (length c.self.inside.hdus.items) c.len.result c.args.at c.args.axes.now c.as_slice.result.now many (sym c.is_within.ensures ∙ c.if-not-is_within.false) c.if-at-eq1.false c.as_slice.ensures (sym c.are_axes.ensures ∙ c.if-not-are_axes.false) in
    let axes_are : c.in_ok-shape.shape.axes ≡ c.args.axes.now = ap (λ (shape : Shape). shape.axes) c.in_ok-shape.ensures ∙ c.as_slice-2.ensures in
    let long : length (hdu_bytes (new_image c.args.kind c.in_ok-shape.shape.axes)) ≡ length (hdu_bytes (new_image c.args.kind c.args.axes.now)) = ap (λ axes. length (hdu_bytes (new_image c.args.kind axes))) axes_are in
    let size = (file_within c.self.inside.hdus.items c.self.inside.tail.items c.self.invariant.whole).0 in
    rw (← c.self.view_is) (new_too_large c.self.inside.hdus.items c.self.inside.tail.items c.args.at c.args.kind c.args.axes.now placed (inr (omega (arith, size, long, c.self.invariant.len, c.in_default.ensures.too_large refl))))

pub invariant_of-self-2 : goal.invariant_of-self-2
invariant_of-self-2 g c =
    let many : length c.self.inside.hdus.items ≡ c.len.result = omega (arith, c.len.ensures, c.self.inside.hdus.ok.0) in
    let placed = is_placed (length c.self.inside.hdus.items) c.len.result c.args.at c.args.axes.now c.as_slice.result.now many (sym c.is_within.ensures ∙ c.if-not-is_within.false) c.if-at-eq1.false c.as_slice.ensures (sym c.are_axes.ensures ∙ c.if-not-are_axes.false) in
    let axes_are : c.in_ok-shape.shape.axes ≡ c.args.axes.now = ap (λ (shape : Shape). shape.axes) c.in_ok-shape.ensures ∙ c.as_slice-2.ensures in
    let long : length (hdu_bytes (new_image c.args.kind c.in_ok-shape.shape.axes)) ≡ length (hdu_bytes (new_image c.args.kind c.args.axes.now)) = ap (λ axes. length (hdu_bytes (new_image c.args.kind axes))) axes_are in
    let size = (file_within c.self.inside.hdus.items c.self.inside.tail.items c.self.invariant.whole).0 in
    let fits = new_fits c.self.inside.hdus.items c.self.inside.tail.items c.args.at c.args.kind c.args.axes.now placed (grind (arith, c.if-len-ge-HDU_LIMIT.false, c.len-2.ensures, c.self.inside.hdus.ok.0)) (omega (arith, size, long, c.self.invariant.len, c.in-Some.ensures.len, c.in-Some.ensures.within)) in
    let is = c.in_ok-hdu.ensures.hdu ∙ ap (new_image c.args.kind) axes_are in
    let left = new_left c.self.inside.hdus.items c.self.inside.tail.items c.args.at c.args.kind c.args.axes.now c.in_ok-hdu.hdu c.self.invariant.whole placed fits is in
    let more = new_size c.self.inside.hdus.items c.self.inside.tail.items c.args.at (new_image c.args.kind c.args.axes.now) c.in_ok-hdu.hdu is in
    let hdus = c.self.inside.hdus.items in
    let at = c.args.at - 1 in
    let new = c.in_ok-hdu.hdu in
    let es = c.self.inside.names.numbers.items in
    rw (c.in-Ok.ensures.items, c.reserve.ensures.items, c.reserve-2.ensures.names) (record {
      whole = left;
      len = omega (arith, more, long, c.self.invariant.len, c.in-Some.ensures.len);
      described = all_inserted IsDescribed hdus at new c.in_ok-hdu.ensures.described c.self.invariant.described;
      right = all_inserted IsSound hdus at new (unkept_right new c.in_ok-hdu.ensures.kept) c.self.invariant.right;
      names = unnamed_stands hdus at new es c.in_ok-hdu.ensures.unnamed c.in_ok-hdu.ensures.entry c.self.invariant.names;
      roomy = omega (arith, c.in_ok-reserve-2.ensures.ok, c.len-3.ensures, c.self.inside.hdus.ok.0, ap length c.reserve.ensures.items, length-insert hdus at new (placed_at (length hdus) c.args.at c.args.axes.now placed).1);
      had = all_inserted (IsHad _) hdus at new (had_held _ new c.in_ok-hdu.ensures.held) c.self.invariant.had;
    })

pub returns-clause-edits : goal.returns-clause-edits
returns-clause-edits g c =
    let many : length c.self.inside.hdus.items ≡ c.len.result = omega (arith, c.len.ensures, c.self.inside.hdus.ok.0) in
    let placed = is_placed (length c.self.inside.hdus.items) c.len.result c.args.at c.args.axes.now c.as_slice.result.now many (sym c.is_within.ensures ∙ c.if-not-is_within.false) c.if-at-eq1.false c.as_slice.ensures (sym c.are_axes.ensures ∙ c.if-not-are_axes.false) in
    let axes_are : c.in_ok-shape.shape.axes ≡ c.args.axes.now = ap (λ (shape : Shape). shape.axes) c.in_ok-shape.ensures ∙ c.as_slice-2.ensures in
    let long : length (hdu_bytes (new_image c.args.kind c.in_ok-shape.shape.axes)) ≡ length (hdu_bytes (new_image c.args.kind c.args.axes.now)) = ap (λ axes. length (hdu_bytes (new_image c.args.kind axes))) axes_are in
    let size = (file_within c.self.inside.hdus.items c.self.inside.tail.items c.self.invariant.whole).0 in
    let fits = new_fits c.self.inside.hdus.items c.self.inside.tail.items c.args.at c.args.kind c.args.axes.now placed (grind (arith, c.if-len-ge-HDU_LIMIT.false, c.len-2.ensures, c.self.inside.hdus.ok.0)) (omega (arith, size, long, c.self.invariant.len, c.in-Some.ensures.len, c.in-Some.ensures.within)) in
    let is = c.in_ok-hdu.ensures.hdu ∙ ap (new_image c.args.kind) axes_are in
    rw (c.in-Ok.ensures.items, c.reserve.ensures.items, ← c.self.view_is) (new_made c.self.inside.hdus.items c.self.inside.tail.items c.args.at tt c.args.kind c.args.axes.now c.in_ok-hdu.hdu placed fits is c.in_ok-hdu.ensures.kept c.in_ok-hdu.ensures.held c.in_ok-hdu.ensures.work c.in_ok-hdu.ensures.scans)

pub returns-clause-stays : goal.returns-clause-stays
returns-clause-stays g c = record {
  lie = λ bytes lie.
      let own : AllLie bytes c.self.inside.hdus.items = rw (← c.self.view_is) at lie in
      rw (c.in-Ok.ensures.items, c.reserve.ensures.items) (all_inserted (IsHad (in_file bytes)) c.self.inside.hdus.items (c.args.at - 1) c.in_ok-hdu.hdu (had_held (in_file bytes) c.in_ok-hdu.hdu c.in_ok-hdu.ensures.held) own);
  seen = λ all.
      let own : All IsSeen c.self.inside.hdus.items = rw (← c.self.view_is) at all in
      rw (c.in-Ok.ensures.items, c.reserve.ensures.items) (all_inserted (λ (one : HduState). IsSeen one) c.self.inside.hdus.items (c.args.at - 1) c.in_ok-hdu.hdu (seen_held c.in_ok-hdu.hdu c.in_ok-hdu.ensures.held) own);
}

-- there is room for one more, and none of them changes
pub returns-in_err-reserve-clause-stays : goal.returns-in_err-reserve-clause-stays
returns-in_err-reserve-clause-stays g c = rw (c.reserve.ensures.items, ← c.self.view_is) (record { lie = λ bytes lie. lie; seen = λ all. all })

-- there is room for one more, and none of them changes
pub returns-in_err-reserve-2-clause-stays : goal.returns-in_err-reserve-2-clause-stays
returns-in_err-reserve-2-clause-stays g c = rw (c.reserve.ensures.items, ← c.self.view_is) (record { lie = λ bytes lie. lie; seen = λ all. all })
