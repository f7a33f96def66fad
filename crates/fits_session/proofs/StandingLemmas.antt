-- HDUs whose names come and go, and the table that stands for them.
use Rattle.std.proofs.Common.{◌≡◌, ℕ, ◌+◌, ◌<◌, ◌≤◌, ◌^◌, true, List, [], ◌∷◌, ◌++◌, length, get_or, take, drop, set, map, refl, ap, sym, subst, ◌∙◌, arith, Option, None, Some, zero, suc}
use Rattle.std.specs.Prelude.{All}
use Rattle.std.specs.List.{insert, remove, slice_get, sum_by}
use Rattle.std.specs.Map.{keys_of, lookup}
use Rattle.std.specs.Option.{is_some, IsSome}
use Rattle.std.proofs.lemmas.List.Elements.{All-append, All-cons, All-drop, All-map, All-push, All-set, All-take, All-weaker}
use Rattle.std.proofs.lemmas.List.Sums.{sum_by-insert, sum_by-remove, sum_by-set}
use Rattle.std.proofs.lemmas.List.{get_or-map, length-map, map-append, map-set, set-get_or, take_more_set}
use Rattle.indexmap.proofs.SetLemmas.{map-insert, map-remove}
use Rattle.fits_passing.specs.ExtensionName.{is_same_name}
use Rattle.fits_hdu.specs.State.{name_of, HduState}
use Rattle.fits_passing.specs.declared.called.ExtensionName.{ExtensionName}
use Rattle.fits_session.specs.NameTable.{entry_moved, mended, moved, names_of, ArePlaced, Leaves, Stands}
use Rattle.fits_passing.specs.NameCounts.{said_of, Enters, IsTableOf, PointsAt, TellsOf, TellsOfFew}
use Rattle.fits_passing.specs.Report.{called_count, is_called}
use Rattle.fits_passing.proofs.NameLemmas.{count_called, name_itself}
use Rattle.fits_passing.proofs.NameCountLemmas.{one_if, count_sum, count_cons, table_alike, count_push}

-- a name in place of another
pub count_set : (name : ExtensionName) (names : List (Option ExtensionName)) (i : ℕ) (new : Option ExtensionName) → i < length names → called_count name (get_or names i new ∷ set names i new) ≡ called_count name (new ∷ names)
count_set name names i new within =
    omega (arith, count_cons name (get_or names i new) (set names i new), count_cons name new names, count_sum name (set names i new), count_sum name names, sum_by-set (one_if name) names i new new within)

-- a name that is put in
pub count_insert : (name : ExtensionName) (names : List (Option ExtensionName)) (i : ℕ) (new : Option ExtensionName) → called_count name (new ∷ names) ≡ called_count name (insert names i new)
count_insert name names i new = omega (arith, count_cons name new names, count_sum name (insert names i new), count_sum name names, sum_by-insert (one_if name) names i new)

-- a name that goes
pub count_remove : (name : ExtensionName) (names : List (Option ExtensionName)) (i : ℕ) (d : Option ExtensionName) → i < length names → called_count name names ≡ called_count name (get_or names i d ∷ remove names i)
count_remove name names i d within =
    omega (arith, count_cons name (get_or names i d) (remove names i), count_sum name (remove names i), count_sum name names, sum_by-remove (one_if name) names i d within)

-- an HDU that isn't called anything changes nothing
pub table_unnamed : (names : List (Option ExtensionName)) (es : List (ExtensionName × ℕ)) → IsTableOf names es → IsTableOf (None ∷ names) es
table_unnamed names es p = record { told = λ name. p.told name; once = p.once }

-- and an entry points where its name stands
pub points_on : (keys more : List ExtensionName) → ((at : ℕ) (other : ExtensionName) → slice_get keys at ≡ Some other → slice_get more at ≡ Some other) → (name : Option ExtensionName) (entry : Option ℕ) → PointsAt keys name entry → PointsAt more name entry
points_on keys more on None entry points = points
points_on keys more on (Some name) None points = points
points_on keys more on (Some name) (Some place) points = on place name points

-- so that of each HDU does
pub placed_on : (keys more : List ExtensionName) (hdus : List HduState) → ((at : ℕ) (other : ExtensionName) → slice_get keys at ≡ Some other → slice_get more at ≡ Some other) → ArePlaced keys hdus
    → ArePlaced more hdus
placed_on keys more hdus on placed = All-weaker (λ (it : HduState). PointsAt keys (name_of it) it.entry) (λ (it : HduState). PointsAt more (name_of it) it.entry) (λ it points. points_on keys more on (name_of it) it.entry points) hdus placed

-- where a table tells of a name, it is found
found_told : (names : List (Option ExtensionName)) (es : List (ExtensionName × ℕ)) (name : ExtensionName) → TellsOf names es → 1 ≤ called_count name names → IsSome (lookup (is_same_name name) es)
found_told names es name told one = ap is_some (told name) ∙ by (called_count name names) one
  where
    by : (n : ℕ) → 1 ≤ n → is_some (said_of n) ≡ true
    by zero l = absurd (omega (arith, l))
    by (suc n) l = refl

-- an HDU's name is one of those that are counted
counted_there : (hdus : List HduState) (i : ℕ) (d : HduState) (name : ExtensionName) → i < length hdus → name_of (get_or hdus i d) ≡ Some name → 1 ≤ called_count name (names_of hdus)
counted_there [] i d name within is = absurd (omega (arith, within))
counted_there (hdu ∷ hdus) zero d name within is = omega (arith, count_called name (name_of hdu) (names_of hdus) (ap (is_called name) is ∙ name_itself name))
counted_there (hdu ∷ hdus) (suc i) d name within is = omega (arith, count_cons name (name_of hdu) (names_of hdus), counted_there hdus i d name (omega (arith, within)) is)

-- an entry that is mended points at its name
mended_points : (keys kept : List ExtensionName) (gone : ℕ) (name : Option ExtensionName) (entry : Option ℕ) → PointsAt keys name entry
    → ((at : ℕ) (other : ExtensionName) → name ≡ Some other → slice_get keys at ≡ Some other → slice_get kept (moved gone at) ≡ Some other) → PointsAt kept name (entry_moved gone entry)
mended_points keys kept gone None None points on = points
mended_points keys kept gone None (Some at) points on = cc
mended_points keys kept gone (Some name) None points on = points
mended_points keys kept gone (Some name) (Some at) points on = on at name refl points

-- what HDUs are called whose entries are mended
pub names_mended : (gone : ℕ) (hdus : List HduState) → names_of (map (mended gone) hdus) ≡ names_of hdus
names_mended gone [] = refl
names_mended gone (hdu ∷ hdus) = ap (λ names. name_of hdu ∷ names) (names_mended gone hdus)

-- a name that is at an entry
pub record Named (hdus : List HduState) (entries : List (ExtensionName × ℕ)) (place : ℕ) : Type 0 where
  pub name : ExtensionName
  pub there : slice_get (keys_of entries) place ≡ Some name
  pub table : IsTableOf (Some name ∷ names_of hdus) entries

-- what leaves an entry has the name there
pub leaves_name : (hdus : List HduState) (entries : List (ExtensionName × ℕ)) (entry : Option ℕ) (place : ℕ) → Leaves hdus entries entry → entry ≡ Some place → Named hdus entries place
leaves_name hdus entries entry place it is = by it.name it.points it.table
  where
    by : (name : Option ExtensionName) → PointsAt (keys_of entries) name entry → IsTableOf (name ∷ names_of hdus) entries → Named hdus entries place
    by None points table = let none : None ≡ Some place = sym points ∙ is in cc
    by (Some name) points table = record { name = name; there = subst (PointsAt (keys_of entries) (Some name)) is points; table = table }

-- the table stands for the HDUs with their entries mended
pub mended_stand : (hdus : List HduState) (es fs : List (ExtensionName × ℕ)) (gone : ℕ) → IsTableOf (names_of hdus) fs → ArePlaced (keys_of es) hdus
    → ((at : ℕ) (other : ExtensionName) → slice_get (keys_of es) at ≡ Some other → IsSome (lookup (is_same_name other) fs) → slice_get (keys_of fs) (moved gone at) ≡ Some other) → Stands (map (mended gone) hdus) fs
mended_stand hdus es fs gone table placed others = record {
  table = subst (λ names. IsTableOf names fs) (sym (names_mended gone hdus)) table;
  placed = All-map (λ (it : HduState). PointsAt (keys_of fs) (name_of it) it.entry) (mended gone) hdus (λ i d within.
      let hdu : HduState = get_or hdus i d in
      mended_points (keys_of es) (keys_of fs) gone (name_of hdu) hdu.entry (placed i d within)
      (λ at other is stands. others at other stands (found_told (names_of hdus) fs other table.told (counted_there hdus i d other within is))));
}

-- and as they are, where no name came to another place
pub kept_stand : (hdus : List HduState) (es fs : List (ExtensionName × ℕ)) → IsTableOf (names_of hdus) fs → ArePlaced (keys_of es) hdus
    → ((at : ℕ) (other : ExtensionName) → slice_get (keys_of es) at ≡ Some other → IsSome (lookup (is_same_name other) fs) → slice_get (keys_of fs) at ≡ Some other) → Stands hdus fs
kept_stand hdus es fs table placed others = record {
  table = table;
  placed = λ i d within.
      let hdu : HduState = get_or hdus i d in
      by (name_of hdu) hdu.entry (λ other is. found_told (names_of hdus) fs other table.told (counted_there hdus i d other within is)) (placed i d within);
}
  where
    by : (name : Option ExtensionName) (entry : Option ℕ) → ((other : ExtensionName) → name ≡ Some other → IsSome (lookup (is_same_name other) fs)) → PointsAt (keys_of es) name entry → PointsAt (keys_of fs) name entry
    by None entry found points = points
    by (Some name) None found points = points
    by (Some name) (Some at) found points = others at name points (found name refl)

-- what HDUs are called, where one gets an entry
pub names_entered : (hdus : List HduState) (i : ℕ) (hdu new : HduState) → i < length hdus → hdu ≡ get_or hdus i hdu → name_of new ≡ name_of hdu → names_of (set hdus i new) ≡ names_of hdus
names_entered hdus i hdu new within there same =
    let name : name_of new ≡ get_or (names_of hdus) i (name_of hdu) = same ∙ ap name_of there ∙ sym (get_or-map name_of hdus i hdu (name_of hdu) within) in
    map-set name_of hdus i new ∙ ap (set (names_of hdus) i) name ∙ set-get_or (names_of hdus) i (name_of hdu)

-- the same of an HDU that got them
pub entered_as : (es fs : List (ExtensionName × ℕ)) (name : Option ExtensionName) (entry : Option ℕ) (new : HduState) → name_of new ≡ name → new.entry ≡ entry → Enters es fs name entry → Enters es fs (name_of new) new.entry
entered_as es fs name entry new called is it =
    let also : Enters es fs (name_of new) entry = subst (λ n. Enters es fs n entry) (sym called) it in
    subst (λ e. Enters es fs (name_of new) e) (sym is) also

-- the table stands for one more HDU, which gets its entry
pub one_more_stands : (hdus : List HduState) (i : ℕ) (new : HduState) (es fs : List (ExtensionName × ℕ)) → i < length hdus → Stands (take i hdus) es → Enters es fs (name_of new) new.entry → Stands (take (i + 1) (set hdus i new)) fs
one_more_stands hdus i new es fs within stands it =
    let front : List HduState = take i hdus in
    let pushed : take (i + 1) (set hdus i new) ≡ front ++ new ∷ [] = take_more_set hdus i new within in
    subst (λ (all : List HduState). Stands all fs) (sym pushed) (record {
      table = subst (λ names. IsTableOf names fs) (sym (map-append name_of front (new ∷ []))) (table_alike (name_of new ∷ names_of front) (names_of front ++ name_of new ∷ []) fs (λ name. count_push name (names_of front) (name_of new)) (it.table (names_of front) stands.table));
      placed = All-push (λ (one : HduState). PointsAt (keys_of fs) (name_of one) one.entry) front new (placed_on (keys_of es) (keys_of fs) front it.others stands.placed) it.points;
    })

-- so few are called anything
pub few_told : (hdus : List HduState) (es : List (ExtensionName × ℕ)) → length hdus < 2 ^ 63 → Stands hdus es → TellsOfFew es
few_told hdus es few stands = record { names = names_of hdus; table = stands.table; few = omega (arith, few, length-map hdus name_of) }

-- what one HDU of these is called
name_read : (hdus : List HduState) (i : ℕ) (hdu : HduState) (d : Option ExtensionName) → i < length hdus → hdu ≡ get_or hdus i hdu → get_or (names_of hdus) i d ≡ name_of hdu
name_read hdus i hdu d within there = get_or-map name_of hdus i hdu d within ∙ ap name_of (sym there)

-- its entry points at its name
pub points_there : (hdus : List HduState) (keys : List ExtensionName) (i : ℕ) (hdu : HduState) → i < length hdus → hdu ≡ get_or hdus i hdu → ArePlaced keys hdus → PointsAt keys (name_of hdu) hdu.entry
points_there hdus keys i hdu within there placed = subst (λ (it : HduState). PointsAt keys (name_of it) it.entry) (sym there) (placed i hdu within)

-- an HDU that got another name and its entry leaves the old one
pub renamed_leaves : (hdus : List HduState) (i : ℕ) (old new : HduState) (es fs : List (ExtensionName × ℕ)) → i < length hdus → old ≡ get_or hdus i old → Stands hdus es → Enters es fs (name_of new) new.entry → Leaves (set hdus i new) fs old.entry
renamed_leaves hdus i old new es fs within there stands it =
    let names : List (Option ExtensionName) = names_of hdus in
    let called : get_or names i (name_of new) ∷ set names i (name_of new) ≡ name_of old ∷ names_of (set hdus i new) =
    (λ j. name_read hdus i old (name_of new) within there j ∷ sym (map-set name_of hdus i new) j)
    in
    let within' : i < length names = omega (arith, within, length-map hdus name_of) in
    record {
      name = name_of old;
      points = points_on (keys_of es) (keys_of fs) it.others (name_of old) old.entry (points_there hdus (keys_of es) i old within there stands.placed);
      table = table_alike (name_of new ∷ names) (name_of old ∷ names_of (set hdus i new)) fs (λ name. sym (count_set name names i (name_of new) within') ∙ ap (called_count name) called) (it.table names stands.table);
      placed = All-set (λ (one : HduState). PointsAt (keys_of fs) (name_of one) one.entry) hdus i new it.points (placed_on (keys_of es) (keys_of fs) hdus it.others stands.placed);
    }

-- the table stands for HDUs into which one was put
pub inserted_stands : (hdus : List HduState) (i : ℕ) (new : HduState) (es fs : List (ExtensionName × ℕ)) → Stands hdus es → Enters es fs (name_of new) new.entry → Stands (insert hdus i new) fs
inserted_stands hdus i new es fs stands it =
    let names : List (Option ExtensionName) = names_of hdus in
    let P : HduState → Type 0 = λ one. PointsAt (keys_of fs) (name_of one) one.entry in
    let placed : All P hdus = placed_on (keys_of es) (keys_of fs) hdus it.others stands.placed in
    record {
      table = table_alike (name_of new ∷ names) (names_of (insert hdus i new)) fs (λ name. count_insert name names i (name_of new) ∙ ap (called_count name) (sym (map-insert name_of hdus i new))) (it.table names stands.table);
      placed = All-append P (take i hdus) (new ∷ drop i hdus) (All-take P i hdus placed) (All-cons P new (drop i hdus) it.points (All-drop P i hdus placed));
    }

-- an HDU that goes leaves its entry
pub removed_leaves : (hdus : List HduState) (i : ℕ) (old : HduState) (es : List (ExtensionName × ℕ)) → i < length hdus → old ≡ get_or hdus i old → Stands hdus es → Leaves (remove hdus i) es old.entry
removed_leaves hdus i old es within there stands =
    let names : List (Option ExtensionName) = names_of hdus in
    let P : HduState → Type 0 = λ it. PointsAt (keys_of es) (name_of it) it.entry in
    let within' : i < length names = omega (arith, within, length-map hdus name_of) in
    let called : get_or names i (name_of old) ∷ remove names i ≡ name_of old ∷ names_of (remove hdus i) =
    (λ j. name_read hdus i old (name_of old) within there j ∷ sym (map-remove name_of hdus i) j)
    in
    record {
      name = name_of old;
      points = points_there hdus (keys_of es) i old within there stands.placed;
      table = table_alike names (name_of old ∷ names_of (remove hdus i)) es (λ name. count_remove name names i (name_of old) within' ∙ ap (called_count name) called) stands.table;
      placed = All-append P (take i hdus) (drop (suc i) hdus) (All-take P i hdus stands.placed) (All-drop P (suc i) hdus stands.placed);
    }

-- an HDU whose name and entry stay leaves the table standing
pub stands_same : (hdus : List HduState) (i : ℕ) (old new : HduState) (es : List (ExtensionName × ℕ)) → i < length hdus → old ≡ get_or hdus i old → name_of new ≡ name_of old → new.entry ≡ old.entry → Stands hdus es → Stands (set hdus i new) es
stands_same hdus i old new es within there called entry stands =
    let P : HduState → Type 0 = λ it. PointsAt (keys_of es) (name_of it) it.entry in
    let points : PointsAt (keys_of es) (name_of old) old.entry = points_there hdus (keys_of es) i old within there stands.placed in
    record {
      table = subst (λ names. IsTableOf names es) (sym (names_entered hdus i old new within there called)) stands.table;
      placed = All-set P hdus i new (subst (λ n. PointsAt (keys_of es) n new.entry) (sym called) (subst (PointsAt (keys_of es) (name_of old)) (sym entry) points)) stands.placed;
    }

-- an HDU that isn't called anything needs no entry
pub unnamed_stands : (hdus : List HduState) (i : ℕ) (new : HduState) (es : List (ExtensionName × ℕ)) → name_of new ≡ None → new.entry ≡ None → Stands hdus es → Stands (insert hdus i new) es
unnamed_stands hdus i new es called entry stands =
    inserted_stands hdus i new es es stands (subst (λ n. Enters es es n new.entry) (sym called) (record { table = λ names p. table_unnamed names es p; points = entry; others = λ at other p. p }))
