-- Steps of naming HDUs, one after another, and of following one that changed.
use Rattle.std.proofs.Common.{◌≡◌, ℕ, ◌+◌, ◌<◌, List, [], ◌∷◌, length, get_or, take, drop, set, refl, ap, sym, subst, ◌∙◌, arith, Option, zero, suc, add-one}
use Rattle.std.specs.Prelude.{All, Err, Ok, OnOk, Result}
use Rattle.std.specs.Map.{keys_of}
use Rattle.std.proofs.lemmas.List.{get_or-drop, get_or-set_same, length-set, set-set, take_more_set}
use Rattle.std.proofs.lemmas.List.Elements.{All-push}
use Rattle.fits_hdu.specs.State.{HduState, ReadsUpTo, name_of}
use Rattle.fits_passing.specs.Work.{name_reads}
use Rattle.fits_hdu.specs.Work.{IsOpened}
use Rattle.fits_passing.specs.declared.called.ExtensionName.{ExtensionName}
use Rattle.fits_passing.specs.NameCounts.{Enters, PointsAt}
use Rattle.fits_session.specs.NameTable.{Leaves, Stands, Stood}
use Rattle.fits_session.proofs.StandingLemmas.{entered_as, renamed_leaves, stands_same}

-- what holds anyhow holds where there is no error
pub ok_or : {X E P : Type 0} (result : Result X E) → P → OnOk result P
ok_or (Ok x) p = p
ok_or (Err e) p = tt

-- an HDU whose cards were read is called as before
pub name_kept : (old new : HduState) (most : ℕ) → ReadsUpTo old new most → name_of new ≡ name_of old
name_kept old new most read = rw (read.header.header, read.header.shape) refl

-- an HDU that gets an entry
abbrev pub with_entry : HduState → Option ℕ → HduState
with_entry hdu entry = record hdu { entry = entry }

-- the elements past one that is changed stay
drop_past : {X : Type 0} (xs : List X) (i : ℕ) (x : X) → drop (suc i) (set xs i x) ≡ drop (suc i) xs
drop_past [] i x = refl
drop_past (y ∷ xs) zero x = refl
drop_past (y ∷ xs) (suc i) x = drop_past xs i x

-- the elements past one are those after it
drop_next : {X : Type 0} (xs : List X) (i : ℕ) → drop (suc i) xs ≡ drop 1 (drop i xs)
drop_next xs zero = refl
drop_next [] (suc i) = refl
drop_next (x ∷ xs) (suc i) = drop_next xs i

-- so lists that are the same from an element on are the same from the next on
pub rest_after : (hdus old : List HduState) (i : ℕ) (new : HduState) → drop i hdus ≡ drop i old → drop (i + 1) (set hdus i new) ≡ drop (i + 1) old
rest_after hdus old i new same =
    ap (λ n. drop n (set hdus i new)) (add-one i) ∙ drop_past hdus i new ∙ drop_next hdus i ∙ ap (drop 1) same ∙ sym (drop_next old i) ∙ ap (λ n. drop n old) (sym (add-one i))

-- and so is that element
pub first_after : (hdus old : List HduState) (i : ℕ) (hdu : HduState) → drop i hdus ≡ drop i old → hdu ≡ get_or hdus i hdu → hdu ≡ get_or old i hdu
first_after hdus old i hdu same there =
    let place : i + 0 ≡ i = omega arith in
    there ∙ sym (get_or-drop i hdus 0 hdu ∙ ap (λ n. get_or hdus n hdu) place) ∙ ap (λ us. get_or us 0 hdu) same ∙ get_or-drop i old 0 hdu ∙ ap (λ n. get_or old n hdu) place

-- one more of the first HDUs has what each has
pub all_more : (P : HduState → Type 0) (hdus : List HduState) (i : ℕ) (new : HduState) → i < length hdus → All P (take i hdus) → P new → All P (take (i + 1) (set hdus i new))
all_more P hdus i new within p q = subst (All P) (sym (take_more_set hdus i new within)) (All-push P (take i hdus) new p q)

-- an HDU that was opened, and whose name was read
pub opened_more : (hdu read : HduState) (entry : Option ℕ) → IsOpened 0 hdu → ReadsUpTo hdu read name_reads → IsOpened name_reads (with_entry read entry)
opened_more hdu read entry opened r = record {
  reads = rw r.header.header (omega (arith, opened.reads, r.header.most));
  scans = rw (r.absent, r.plane) opened.scans;
  kept = r.kept ∙ opened.kept;
}

module _ (hdus : List HduState) (i : ℕ) (es : List (ExtensionName × ℕ)) (s : Stood hdus i es) (within : i < length hdus) (now read : HduState) (there : now ≡ get_or hdus i now) (r : ReadsUpTo now read name_reads) where
  -- its entry is that of the name that it had
  entry_was : read.entry ≡ s.was.entry
  entry_was = r.entry ∙ s.entry now there

  -- it stood there
  was_there : s.was ≡ get_or (set hdus i s.was) i s.was
  was_there = sym (get_or-set_same hdus i s.was s.was within)

  was_within : i < length (set hdus i s.was)
  was_within = omega (arith, within, length-set hdus i s.was)

  -- so its entry points at the name that it had
  pub points_was : PointsAt (keys_of es) (name_of s.was) read.entry
  points_was =
      let placed : PointsAt (keys_of es) (name_of s.was) s.was.entry = subst (λ (one : HduState). PointsAt (keys_of es) (name_of one) one.entry) (sym was_there) (s.stood.placed i s.was was_within) in
      subst (PointsAt (keys_of es) (name_of s.was)) (sym entry_was) placed

  -- where it is called as before the table stands
  pub follows_same : name_of now ≡ name_of s.was → Stands (set hdus i read) es
  follows_same same =
      subst (λ (us : List HduState). Stands us es) (set-set hdus i s.was read)
      (stands_same (set hdus i s.was) i s.was read es was_within was_there (name_kept now read name_reads r ∙ same) entry_was s.stood)

  -- else its old name is left
  pub follows_leaves : (fs : List (ExtensionName × ℕ)) (entry : Option ℕ) → Enters es fs (name_of now) entry → Leaves (set hdus i (with_entry read entry)) fs read.entry
  follows_leaves fs entry enters =
      let new : HduState = with_entry read entry in
      subst (λ e. Leaves (set hdus i new) fs e) (sym entry_was)
      (subst (λ (us : List HduState). Leaves us fs s.was.entry) (set-set hdus i s.was new)
      (renamed_leaves (set hdus i s.was) i s.was new es fs was_within was_there s.stood (entered_as es fs (name_of now) entry new (name_kept now read name_reads r) refl enters)))
