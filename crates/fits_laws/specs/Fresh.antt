-- A fresh reading of a file, all that queries answer of it; and what edits, one after another, come to (own).
use Rattle.std.specs.Prelude.{◌≡◌, ℕ, ℤ, List, [], ◌∷◌, length, Option, Result, Ok, Err}
use Rattle.fits_header.specs.declared.counts.Counts.{Counts}
use Rattle.fits_value.specs.declared.value.Value.{Value}
use Rattle.fits_image.specs.declared.kind.Kind.{Kind}
use Rattle.fits_passing.specs.Stats.{Stats}
use Rattle.fits_passing.specs.declared.verdicts.Verdicts.{Verdicts}
use Rattle.fits_rules.specs.declared.array_shape.Shape.{Shape}
use Rattle.fits_passing.specs.File.{FileParts, file_bytes, offsets_from, IsFileOf}
use Rattle.fits_session.specs.Marked.{marked_after, Marked}
use Rattle.fits_session.specs.Query.{card_count_in, datasum_in, kind_in, names_in, positions_in, rect_in, shape_in, stats_in, value_in, verdicts_in}
use Rattle.fits_passing.specs.Report.{counts_in, report_of}
use Rattle.fits_session.specs.Session.{marked_of, EditsTo, SessionState}
use Rattle.fits_edit.specs.declared.edit.Edit.{Edit}
use Rattle.fits_passing.specs.declared.offsets.HduOffsets.{HduOffsets}
use Rattle.fits_passing.specs.declared.problem.Problem.{Problem}
use Rattle.fits_making.specs.declared.refusal.Refusal.{Refusal}

-- all that queries answer of a file: of the whole, and of HDU h, or its refusal
pub record Fresh : Type 0 where
  pub bytes : List ℕ
  pub hdus : ℕ
  pub offsets : List HduOffsets
  pub report : List Problem
  pub counts : Counts
  pub card_count : ℕ → Result ℕ Refusal
  pub shape : ℕ → Result Shape Refusal
  pub kind : ℕ → Result Kind Refusal
  pub names : ℕ → Result (List (List ℕ)) Refusal
  pub positions : ℕ → List ℕ → Result (List ℕ) Refusal
  pub value : ℕ → List ℕ → Result (Value × Option (List ℕ)) Refusal
  pub stats : ℕ → Result Stats Refusal
  pub datasum : ℕ → Result ℕ Refusal
  pub verdicts : ℕ → Result Verdicts Refusal
  pub rect : ℕ → List ℕ → List ℕ → Result (List ℤ) Refusal

-- the answers of a file
abbrev pub fresh : FileParts → Fresh
fresh file = record {
  bytes = file_bytes file;
  hdus = length file.hdus;
  offsets = offsets_from 0 file.hdus;
  report = report_of file;
  counts = counts_in (report_of file);
  card_count = card_count_in file;
  shape = shape_in file;
  kind = kind_in file;
  names = names_in file;
  positions = positions_in file;
  value = value_in file;
  stats = stats_in file;
  datasum = datasum_in file;
  verdicts = verdicts_in file;
  rect = rect_in file;
}

-- bytes read afresh answer so: they are a file, and these are its answers
pub record ReadsAs (bytes : List ℕ) (answers : Fresh) : Type 0 where
  pub file : FileParts
  pub opened : IsFileOf bytes file
  pub is : answers ≡ fresh file

-- an edit was answered so: accepted, or refused
abbrev pub Answered : Type 0
Answered = Edit × Result (Unit {0}) Refusal

-- the file, and which of its HDUs are kept stamped, after an edit that was answered so
abbrev pub after_answer : Marked → Edit → Result (Unit {0}) Refusal → Marked
after_answer it edit (Ok done) = marked_after it edit
after_answer it edit (Err why) = it

-- both after those of these edits that were accepted, in their order
abbrev pub marked_after_all : Marked → List Answered → Marked
marked_after_all it [] = it
marked_after_all it (step ∷ steps) = marked_after_all (after_answer it step.0 step.1) steps

-- edits of a session, one after another, and what was answered to each; between them both stay, as queries and savings leave them
abbrev pub EditsInTurn : List Answered → SessionState → SessionState → Type 0
EditsInTurn [] old new = marked_of new ≡ marked_of old
EditsInTurn (step ∷ steps) old new =
    (start : SessionState) × (next : SessionState) × (marked_of start ≡ marked_of old) × EditsTo step.0 start next step.1 × EditsInTurn steps next new
