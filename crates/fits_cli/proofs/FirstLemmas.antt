-- How things stand before the first line, over each file that the reads of the one that was opened may be of.
use Rattle.std.proofs.Common.{◌≡◌, ℕ, Bool, true, false, List, [], ◌∷◌, length, map, replicate, All, refl, ap, sym, ◌∙◌}
use Rattle.std.specs.Prelude.{if◌then◌else◌}
use Rattle.fits_hdu.specs.State.{HduState, hdu_at, IsSeen}
use Rattle.fits_making.specs.Keeping.{vouched_one}
use Rattle.fits_passing.specs.File.{FileParts}
use Rattle.fits_passing.specs.Hdu.{HduParts}
use Rattle.fits_session.specs.Marked.{guarded, unmarked, vouched, Marked}
use Rattle.fits_session.specs.Session.{absences_of, file_of, hdus_of, kept_of, marked_of, session_at, SessionState}
use Rattle.fits_session.proofs.LoadedLemmas.{kept_at_told}
use Rattle.fits_session.proofs.HeaderLemmas.{headers_told, number_alike}
use Rattle.fits_session.proofs.KeptLemmas.{parts_same_at}
use Rattle.fits_passing.specs.declared.look.Look.TheVariants.{All as LookAll}
use Rattle.fits_cli.specs.Answer.{marked_first}
use Rattle.fits_cli.specs.Terms.{look_of}
use Rattle.fits_cli.specs.declared.terms.Terms.{Terms}
use Rattle.fits_cli.proofs.OverLemmas.{seen_file}

-- marks leave a file where its data units lie
pub vouched_away : (hdus : List HduState) → absences_of (map vouched_one hdus) ≡ absences_of hdus
vouched_away [] = refl
vouched_away (one ∷ hdus) = ap (λ away. one.absent ∷ away) (vouched_away hdus)

-- the marks before the first line
abbrev first_kept : Bool → FileParts → List Bool
first_kept sums file = if sums then (vouched file).kept else (unmarked file).kept

-- they are those of another file that has as many HDUs, and is the same where sums vouch for them
kept_alike : (sums : Bool) (file other : FileParts) → (sums ≡ true → other ≡ file) → length other.hdus ≡ length file.hdus → first_kept sums file ≡ first_kept sums other
kept_alike true file other same count = ap (λ (it : FileParts). (vouched it).kept) (sym (same refl))
kept_alike false file other same count = ap (λ (n : ℕ). replicate n false) (sym count)

-- the parts of a file with its marks
with_parts : (tables : Bool) (us vs : List HduParts) (tail others : List ℕ) (kept marks : List Bool) → us ≡ vs → tail ≡ others → kept ≡ marks
    → (let it : Marked = record { file = record { hdus = us; tail = tail }; kept = kept; tables = tables } in it) ≡ record { file = record { hdus = vs; tail = others }; kept = marks; tables = tables }
with_parts tables us vs tail others kept marks same_parts same_tail same_marks = rw (same_parts, same_tail, same_marks) refl

-- a file with its first marks has them over each that its reads may be of
pub first_over : (terms : Terms) (told : List ℕ) (old new : SessionState) → guarded terms.tables (marked_of new) ≡ marked_first terms (file_of old) → absences_of new.hdus ≡ absences_of old.hdus
    → (terms.sums ≡ true → All IsSeen old.hdus) → guarded terms.tables (marked_of (session_at told new)) ≡ marked_first terms (file_of (session_at told old))
first_over terms told old new marks away seen =
    let count : length (hdus_of (map (hdu_at told) old.hdus)) ≡ length (hdus_of old.hdus) = number_alike (file_of (session_at told old)) (file_of old) (headers_told told old) in
    let kept : kept_of (map (hdu_at told) new.hdus) ≡ first_kept terms.sums (file_of (session_at told old)) =
    kept_at_told told new.hdus ∙ ap (λ (it : Marked). it.kept) marks
    ∙ kept_alike terms.sums (file_of old) (file_of (session_at told old)) (λ all. seen_file told old (seen all)) count in
    with_parts terms.tables (hdus_of (map (hdu_at told) new.hdus)) (hdus_of (map (hdu_at told) old.hdus)) new.tail old.tail (kept_of (map (hdu_at told) new.hdus)) (first_kept terms.sums (file_of (session_at told old)))
    (parts_same_at told new.hdus old.hdus (ap (λ (it : Marked). it.file.hdus) marks) away) (ap (λ (it : Marked). it.file.tail) marks) kept

-- where sums are kept right all is looked at first
pub look_sums : (terms : Terms) → terms.sums ≡ true → look_of terms ≡ LookAll
look_sums terms sums = rw sums refl
