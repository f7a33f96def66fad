-- What a session keeps, where counts grow and entries move.
use Rattle.std.proofs.Common.{◌≡◌, ℕ, Bool, false, List, [], ◌∷◌, length, map, get_or, replicate, set, refl, ap, sym, subst, ◌∙◌, arith, Option}
use Rattle.std.specs.Prelude.{All}
use Rattle.std.proofs.lemmas.List.{get_or-map, length-map}
use Rattle.std.proofs.lemmas.List.Elements.{All-cons, All-head, All-map, All-nil, All-tail}
use Rattle.fits_passing.specs.Hdu.{HduParts}
use Rattle.fits_unit.specs.DataUnit.{unit_at, Absence, IsKnown}
use Rattle.fits_hdu.specs.State.{HduState, ReadsUpTo, hdu_at, name_of, parts_of, IsDescribed, IsSeen}
use Rattle.fits_hdu.specs.Work.{IsOpened, PixelWork, plane_work}
use Rattle.fits_passing.specs.declared.called.ExtensionName.{ExtensionName}
use Rattle.std.specs.Map.{keys_of}
use Rattle.fits_passing.specs.File.{FileParts, file_bytes, IsFile}
use Rattle.fits_session.specs.NameTable.{mended, names_of, Stands}
use Rattle.fits_passing.specs.NameCounts.{IsTableOf, PointsAt}
use Rattle.fits_making.specs.Keeping.{IsSound}
use Rattle.fits_session.specs.Marked.{Marked, unmarked}
use Rattle.fits_session.specs.Session.{absences_of, file_of, hdus_of, kept_of, marked_of, reads_of, state_of, uncounted, unentered, without_counts, without_entries, works_of, AreNamed, IsKept}
use Rattle.fits_making.specs.Making.{Holding, IsHad}
use Rattle.fits_session.proofs.StateLemmas.{IsHduAt, parts_same, unkept_right}

-- the parts of HDUs are no counts
hdus_of-uncounted : (hdus : List HduState) → hdus_of (without_counts hdus) ≡ hdus_of hdus
hdus_of-uncounted [] = refl
hdus_of-uncounted (hdu ∷ hdus) = ap (λ us. parts_of hdu ∷ us) (hdus_of-uncounted hdus)

-- nor is what they are called
names_of-uncounted : (hdus : List HduState) → names_of (without_counts hdus) ≡ names_of hdus
names_of-uncounted [] = refl
names_of-uncounted (hdu ∷ hdus) = ap (λ names. name_of hdu ∷ names) (names_of-uncounted hdus)

-- nor are the marks of those that are kept stamped
kept_of-uncounted : (hdus : List HduState) → kept_of (without_counts hdus) ≡ kept_of hdus
kept_of-uncounted [] = refl
kept_of-uncounted (hdu ∷ hdus) = ap (λ (marks : List Bool). hdu.kept ∷ marks) (kept_of-uncounted hdus)

-- so HDUs that differ in counts alone have the same parts
pub hdus_as : (hdus others : List HduState) → without_counts hdus ≡ without_counts others → hdus_of hdus ≡ hdus_of others
hdus_as hdus others same = sym (hdus_of-uncounted hdus) ∙ ap hdus_of same ∙ hdus_of-uncounted others

-- files with the same HDUs are the same
pub file_with : (us vs : List HduParts) (tail : List ℕ) → us ≡ vs → (let file : FileParts = record { hdus = us; tail = tail } in file) ≡ record { hdus = vs; tail = tail }
file_with us vs tail same = ap (λ (hdus : List HduParts). let file : FileParts = record { hdus = hdus; tail = tail } in file) same

-- and with the same marks too
pub marked_with : (us vs : List HduParts) (tail : List ℕ) (a b : List Bool) → us ≡ vs → a ≡ b → (let it : Marked = record { file = record { hdus = us; tail = tail }; kept = a; tables = false } in it) ≡ record { file = record { hdus = vs; tail = tail }; kept = b; tables = false }
marked_with us vs tail a b same marks =
    ap (λ (hdus : List HduParts). let it : Marked = record { file = record { hdus = hdus; tail = tail }; kept = a; tables = false } in it) same
    ∙ ap (λ (kept : List Bool). let it : Marked = record { file = record { hdus = vs; tail = tail }; kept = kept; tables = false } in it) marks

-- what holds of HDUs seen another way holds of them
pub all_seen : (P : HduState → Type 0) (see : HduState → HduState) → ((one : HduState) → P (see one) → P one) → (hdus : List HduState) → All P (map see hdus) → All P hdus
all_seen P see back hdus p = λ i d within. back (get_or hdus i d) (subst P (get_or-map see hdus i d (see d) within) (p i (see d) (omega (arith, within, length-map hdus see))))

-- and what holds of HDUs holds of them seen another way
pub seen_all : (P : HduState → Type 0) (see : HduState → HduState) → ((one : HduState) → P one → P (see one)) → (hdus : List HduState) → All P hdus → All P (map see hdus)
seen_all P see on hdus p = All-map P see hdus (λ i d within. on (get_or hdus i d) (p i d within))

-- the entry of one is the place of its name
unfoldable pub IsPlaced : List ExtensionName → HduState → Type 0
IsPlaced keys hdu = PointsAt keys (name_of hdu) hdu.entry

-- what is kept of HDUs is kept of them without their counts
kept_without : (holding : Holding) (hdus : List HduState) (tail : List ℕ) (bytes : ℕ) (entries : List (ExtensionName × ℕ)) (room : ℕ) → IsKept holding hdus tail bytes entries room → IsKept holding (without_counts hdus) tail bytes entries room
unfolding IsPlaced
kept_without holding hdus tail bytes entries room kept =
    let same = sym (file_with (hdus_of (without_counts hdus)) (hdus_of hdus) tail (hdus_of-uncounted hdus)) in
    record {
      whole = subst (λ (f : FileParts). IsFile f) same kept.whole;
      len = kept.len ∙ ap (λ (f : FileParts). length (file_bytes f)) same;
      described = seen_all IsDescribed uncounted (λ one p. p) hdus kept.described;
      right = seen_all IsSound uncounted (λ one p. p) hdus kept.right;
      names = record {
        table = subst (λ names. IsTableOf names entries) (sym (names_of-uncounted hdus)) kept.names.table;
        placed = seen_all (IsPlaced (keys_of entries)) uncounted (λ one p. p) hdus kept.names.placed;
      };
      roomy = omega (arith, kept.roomy, length-map hdus uncounted);
      had = seen_all (IsHad holding) uncounted (λ one p. record { held = p.held; lies = p.lies; kept = p.kept }) hdus kept.had;
    }

-- and back
kept_with : (holding : Holding) (hdus : List HduState) (tail : List ℕ) (bytes : ℕ) (entries : List (ExtensionName × ℕ)) (room : ℕ) → IsKept holding (without_counts hdus) tail bytes entries room → IsKept holding hdus tail bytes entries room
unfolding IsPlaced
kept_with holding hdus tail bytes entries room kept =
    let same = file_with (hdus_of (without_counts hdus)) (hdus_of hdus) tail (hdus_of-uncounted hdus) in
    record {
      whole = subst (λ (f : FileParts). IsFile f) same kept.whole;
      len = kept.len ∙ ap (λ (f : FileParts). length (file_bytes f)) same;
      described = all_seen IsDescribed uncounted (λ one p. p) hdus kept.described;
      right = all_seen IsSound uncounted (λ one p. p) hdus kept.right;
      names = record {
        table = subst (λ names. IsTableOf names entries) (names_of-uncounted hdus) kept.names.table;
        placed = all_seen (IsPlaced (keys_of entries)) uncounted (λ one p. p) hdus kept.names.placed;
      };
      roomy = omega (arith, kept.roomy, length-map hdus uncounted);
      had = all_seen (IsHad holding) uncounted (λ one p. record { held = p.held; lies = p.lies; kept = p.kept }) hdus kept.had;
    }

-- so it is kept where counts alone change
pub kept_counted : (holding : Holding) (hdus others : List HduState) (tail : List ℕ) (bytes : ℕ) (entries : List (ExtensionName × ℕ)) (room : ℕ) → without_counts others ≡ without_counts hdus → IsKept holding hdus tail bytes entries room → IsKept holding others tail bytes entries room
kept_counted holding hdus others tail bytes entries room same kept =
    kept_with holding others tail bytes entries room (subst (λ (us : List HduState). IsKept holding us tail bytes entries room) (sym same) (kept_without holding hdus tail bytes entries room kept))

-- an HDU whose cards were read is the same without its counts
pub uncounted_read : (old new : HduState) (most : ℕ) → ReadsUpTo old new most → uncounted new ≡ uncounted old
uncounted_read old new most read = rw (read.header.header, read.header.shape, read.header.room, read.plane, read.entry, read.kept, read.absent) refl

-- so what is kept is kept where one HDU was read
pub kept_read : (holding : Holding) (hdus : List HduState) (tail : List ℕ) (h i bytes : ℕ) (entries : List (ExtensionName × ℕ)) (room : ℕ) (old new : HduState) → IsHduAt hdus h i old → uncounted new ≡ uncounted old → IsKept holding hdus tail bytes entries room → IsKept holding (set hdus i new) tail bytes entries room
kept_read holding hdus tail h i bytes entries room old new at same kept = kept_counted holding hdus (set hdus i new) tail bytes entries room (parts_same uncounted hdus i old new at.index.within at.is same) kept

-- the parts of HDUs are no entries
hdus_of-unentered : (hdus : List HduState) → hdus_of (without_entries hdus) ≡ hdus_of hdus
hdus_of-unentered [] = refl
hdus_of-unentered (hdu ∷ hdus) = ap (λ us. parts_of hdu ∷ us) (hdus_of-unentered hdus)

-- nor are their counts
pub reads_of-unentered : (hdus : List HduState) → reads_of (without_entries hdus) ≡ reads_of hdus
reads_of-unentered [] = refl
reads_of-unentered (hdu ∷ hdus) = ap (λ (reads : List ℕ). hdu.header.reads ∷ reads) (reads_of-unentered hdus)

-- nor the work on their data units
pub works_of-unentered : (hdus : List HduState) → works_of (without_entries hdus) ≡ works_of hdus
works_of-unentered [] = refl
works_of-unentered (hdu ∷ hdus) = ap (λ (works : List PixelWork). plane_work hdu.plane ∷ works) (works_of-unentered hdus)

-- nor are the marks of those that are kept stamped
kept_of-unentered : (hdus : List HduState) → kept_of (without_entries hdus) ≡ kept_of hdus
kept_of-unentered [] = refl
kept_of-unentered (hdu ∷ hdus) = ap (λ (marks : List Bool). hdu.kept ∷ marks) (kept_of-unentered hdus)

-- so HDUs that differ in entries alone have the same parts
pub hdus_moved : (hdus others : List HduState) → without_entries hdus ≡ without_entries others → hdus_of hdus ≡ hdus_of others
hdus_moved hdus others same = sym (hdus_of-unentered hdus) ∙ ap hdus_of same ∙ hdus_of-unentered others

-- and the same counts
pub reads_moved : (hdus others : List HduState) → without_entries hdus ≡ without_entries others → reads_of hdus ≡ reads_of others
reads_moved hdus others same = sym (reads_of-unentered hdus) ∙ ap reads_of same ∙ reads_of-unentered others

-- and the same work on their data units
pub works_moved : (hdus others : List HduState) → without_entries hdus ≡ without_entries others → works_of hdus ≡ works_of others
works_moved hdus others same = sym (works_of-unentered hdus) ∙ ap works_of same ∙ works_of-unentered others

-- and the same marks
pub kept_moved : (hdus others : List HduState) → without_entries hdus ≡ without_entries others → kept_of hdus ≡ kept_of others
kept_moved hdus others same = sym (kept_of-unentered hdus) ∙ ap kept_of same ∙ kept_of-unentered others

-- where data units lie is no entry
absences_of-unentered : (hdus : List HduState) → absences_of (without_entries hdus) ≡ absences_of hdus
absences_of-unentered [] = refl
absences_of-unentered (hdu ∷ hdus) = ap (λ (places : List (Option Absence)). hdu.absent ∷ places) (absences_of-unentered hdus)

-- so they lie where they lay
pub absences_moved : (hdus others : List HduState) → without_entries hdus ≡ without_entries others → absences_of hdus ≡ absences_of others
absences_moved hdus others same = sym (absences_of-unentered hdus) ∙ ap absences_of same ∙ absences_of-unentered others

-- what lies where others do is seen where they are
pub seen_same : (new old : List HduState) → absences_of new ≡ absences_of old → All IsSeen old → All IsSeen new
seen_same [] old same all = All-nil IsSeen
seen_same (one ∷ new) [] same all = absurd (cc)
seen_same (one ∷ new) (was ∷ old) same all =
    let here : was.absent ≡ one.absent = cc in
    let rest : absences_of new ≡ absences_of old = cc in
    All-cons IsSeen one new (subst IsKnown here (All-head IsSeen was old all)) (seen_same new old rest (All-tail IsSeen was old all))

-- and the same parts are the same in a file
pub parts_same_at : (told : List ℕ) (new old : List HduState) → hdus_of new ≡ hdus_of old → absences_of new ≡ absences_of old → hdus_of (map (hdu_at told) new) ≡ hdus_of (map (hdu_at told) old)
parts_same_at told [] [] parts same = refl
parts_same_at told [] (was ∷ old) parts same = absurd (cc)
parts_same_at told (one ∷ new) [] parts same = absurd (cc)
parts_same_at told (one ∷ new) (was ∷ old) parts same =
    let own : parts_of one ≡ parts_of was = cc in
    let here : one.absent ≡ was.absent = cc in
    let others : hdus_of new ≡ hdus_of old = cc in
    let rest : absences_of new ≡ absences_of old = cc in
    let first : parts_of (hdu_at told one) ≡ parts_of (hdu_at told was) =
    ap (λ (u : HduParts). let v : HduParts = record { header = u.header; data_unit = unit_at told u.data_unit one.absent } in v) own
    ∙ ap (λ (absent : Option Absence). let v : HduParts = record { header = was.header.header; data_unit = unit_at told was.plane.bytes absent } in v) here in
    ap (λ (u : HduParts). u ∷ hdus_of (map (hdu_at told) new)) first ∙ ap (λ (us : List HduParts). parts_of (hdu_at told was) ∷ us) (parts_same_at told new old others rest)

-- an HDU of a session has the shape that its cards describe
pub described_at : (hdus : List HduState) (h i : ℕ) (hdu : HduState) → All IsDescribed hdus → IsHduAt hdus h i hdu → IsDescribed hdu
described_at hdus h i hdu all at = subst IsDescribed (sym at.is) (all i hdu at.index.within)

-- their cards describe their shapes alike
pub described_moved : (hdus others : List HduState) → without_entries hdus ≡ without_entries others → All IsDescribed others → All IsDescribed hdus
described_moved hdus others same p =
    all_seen IsDescribed unentered (λ one q. q) hdus (subst (All IsDescribed) (sym same) (seen_all IsDescribed unentered (λ one q. q) others p))

-- the sums of those that are kept stamped vouch for them
pub right_unentered : (hdus others : List HduState) → without_entries hdus ≡ without_entries others → All IsSound others → All IsSound hdus
right_unentered hdus others same p =
    all_seen IsSound unentered (λ one q. q) hdus (subst (All IsSound) (sym same) (seen_all IsSound unentered (λ one q. q) others p))

-- and they are as many
pub count_moved : (hdus others : List HduState) → without_entries hdus ≡ without_entries others → length hdus ≡ length others
count_moved hdus others same = sym (length-map hdus unentered) ∙ ap length same ∙ length-map others unentered

-- the file is the same
pub file_of-unentered : (hdus others : List HduState) (tail : List ℕ) → without_entries hdus ≡ without_entries others → file_of (state_of hdus tail) ≡ file_of (state_of others tail)
file_of-unentered hdus others tail same = file_with (hdus_of hdus) (hdus_of others) tail (hdus_moved hdus others same)

-- HDUs that were opened aren't kept stamped
opened_marks : (more : ℕ) (hdus : List HduState) → All (IsOpened more) hdus → kept_of hdus ≡ replicate (length (hdus_of hdus)) false
opened_marks more [] all = refl
opened_marks more (one ∷ hdus) all =
    ap (λ mark. mark ∷ kept_of hdus) (All-head (IsOpened more) one hdus all).kept ∙ ap (λ (marks : List Bool). false ∷ marks) (opened_marks more hdus (All-tail (IsOpened more) one hdus all))

-- so a file that was opened has no marks
pub opened_unmarked : (more : ℕ) (hdus : List HduState) (tail : List ℕ) → All (IsOpened more) hdus → marked_of (state_of hdus tail) ≡ unmarked (file_of (state_of hdus tail))
opened_unmarked more hdus tail all = marked_with (hdus_of hdus) (hdus_of hdus) tail (kept_of hdus) (replicate (length (hdus_of hdus)) false) refl (opened_marks more hdus all)

-- and no sums that have to vouch for it
pub opened_right : (more : ℕ) (hdus : List HduState) → All (IsOpened more) hdus → All IsSound hdus
opened_right more hdus all = λ i d within. unkept_right (get_or hdus i d) (all i d within).kept

pub ruleset opened_steps = (opened_unmarked, opened_right)

-- HDUs that are kept are named
pub kept_named : (holding : Holding) (hdus : List HduState) (tail : List ℕ) (bytes : ℕ) (entries : List (ExtensionName × ℕ)) (room : ℕ) → IsKept holding hdus tail bytes entries room → AreNamed hdus entries
kept_named holding hdus tail bytes entries room kept = record { tail = tail; whole = kept.whole; described = kept.described; names = kept.names }

-- entries that are mended are no other HDUs
pub unentered_mended : (gone : ℕ) (hdus : List HduState) → without_entries (map (mended gone) hdus) ≡ without_entries hdus
unentered_mended gone [] = refl
unentered_mended gone (hdu ∷ hdus) = ap (λ (us : List HduState). unentered hdu ∷ us) (unentered_mended gone hdus)

-- a session keeps what it kept where its table is as it was
pub kept_as : (holding : Holding) (hdus : List HduState) (tail : List ℕ) (bytes : ℕ) (entries others : List (ExtensionName × ℕ)) (room now : ℕ) → others ≡ entries → now ≡ room → IsKept holding hdus tail bytes entries room → IsKept holding hdus tail bytes others now
kept_as holding hdus tail bytes entries others room now same still kept = record {
  whole = kept.whole;
  len = kept.len;
  described = kept.described;
  right = kept.right;
  names = subst (Stands hdus) (sym same) kept.names;
  roomy = still ∙ kept.roomy;
  had = kept.had;
}

-- where data units lie is no count
absences_of-uncounted : (hdus : List HduState) → absences_of (without_counts hdus) ≡ absences_of hdus
absences_of-uncounted [] = refl
absences_of-uncounted (hdu ∷ hdus) = ap (λ (places : List (Option Absence)). hdu.absent ∷ places) (absences_of-uncounted hdus)

-- so they lie where they lay
pub absences_counted : (hdus others : List HduState) → without_counts others ≡ without_counts hdus → absences_of others ≡ absences_of hdus
absences_counted hdus others same = sym (absences_of-uncounted others) ∙ ap absences_of same ∙ absences_of-uncounted hdus

-- the file and its marks stay where counts alone change
pub marked_counted : (hdus others : List HduState) (tail : List ℕ) → without_counts others ≡ without_counts hdus → marked_of (state_of others tail) ≡ marked_of (state_of hdus tail)
marked_counted hdus others tail same =
    marked_with (hdus_of others) (hdus_of hdus) tail (kept_of others) (kept_of hdus) (hdus_as others hdus same) (sym (kept_of-uncounted others) ∙ ap kept_of same ∙ kept_of-uncounted hdus)
