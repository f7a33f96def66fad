-- A data unit of which some pieces are in memory, copied piece after piece.
use Rattle.std.proofs.Common.{refl, ◌≡◌, ◌+◌, ◌-◌, ◌*◌, ◌/◌, ◌<◌, ◌≤◌, ℕ, Bool, true, false, Option, Some, List, [], ◌++◌, length, get_or, min, take, drop, ap, sym, ◌∙◌, arith, subst}
use Rattle.std.specs.Prelude.{ℤ, if◌then◌else◌}
use Rattle.std.proofs.lemmas.List.{drop_all, take-append-drop}
use Rattle.std.proofs.Math.Seq.{take-add}
use Rattle.fits_stream.specs.Agree.{IsOf, ReadsOn}
use Rattle.fits_stream.specs.Stored.{ReadLogState}
use Rattle.fits_stream.specs.Stream.{SinkState, Prints, PrintsFront}
use Rattle.fits_stream.proofs.StreamLemmas.{Prints-more, Prints-none, PrintsFront-longer, PrintsFront-more}
use Rattle.fits_sum.specs.Words.{word_total}
use Rattle.fits_pieces.specs.Piece.{piece_of, piece_size, pieces_in}
use Rattle.fits_pieces.specs.Pieces.{away_blocks, PiecedState}
use Rattle.fits_pieces.proofs.AwayLemmas.{away_step}
use Rattle.fits_unit.specs.Absence.{part_at, part_of}
use Rattle.fits_unit.specs.Again.{CopiesUnit, CopyFails, CopyStops, CopyWrites}
use Rattle.fits_unit.specs.Part.{CopiesPiece, HasBytes}
use Rattle.fits_unit.specs.declared.again.CopyFault.{CopyFault}
use Rattle.fits_unit.specs.declared.again.CopyFault.TheVariants.{Failed, Changed, Write}
use Rattle.fits_unit.proofs.AgainLemmas.{copy_fails, unit_read}
use Rattle.fits_unit.proofs.PartReadLemmas.{length-piece, piece_told, take-take_min, pieces_all, pieces_next, pieces_total, reads_begin, reads_end, reads_size, reads_step, ReadsUpTo}

-- ---- one piece

-- one in memory was written as it is
pub copied_held : (place j : ℕ) (it : PiecedState) (log : ReadLogState) (old new : SinkState) → get_or it.held j false ≡ true → Prints (piece_of it.plane.bytes j) old new → CopiesPiece place j it log log old new
copied_held place j it log old new held p =
    let none : log.looked ≡ log.looked + 0 = omega arith in
    record {
      bytes = piece_of it.plane.bytes j;
      had = subst (λ b. HasBytes b (place + 46080 * j) (piece_of it.plane.bytes j) log log (piece_of it.plane.bytes j)) (sym held) (refl, refl);
      size = length-piece it.plane.bytes j;
      total = refl;
      written = p;
      looked = none ∙ ap (λ (b : Bool). log.looked + (if b then 0 else piece_size (length it.plane.bytes) j / 2880)) (sym held);
    }

-- a file has a piece where it passed by
pub piece_there : (xs passed piece : List ℕ) (place len at size j : ℕ) → take len (drop place xs) ≡ passed → piece ≡ piece_of passed j → at ≡ place + 46080 * j → size ≡ piece_size len j → size ≡ length (piece_of passed j)
    → take (length piece) (drop at xs) ≡ piece
piece_there xs passed piece place len at size j lies is there long same =
    let few : length piece ≡ piece_size len j = ap length is ∙ sym same ∙ long in
    ap (λ n. take n (drop at xs)) few ∙ ap (λ i. take (piece_size len j) (drop i xs)) there ∙ piece_told xs passed place len j lies ∙ sym is

-- so what was read there is it
pub piece_read : (xs passed piece bytes : List ℕ) (place len at size j : ℕ) (log log' : ReadLogState) → IsOf xs log' → take len (drop place xs) ≡ passed → piece ≡ piece_of passed j → at ≡ place + 46080 * j → size ≡ piece_size len j → size ≡ length (piece_of passed j)
    → ReadsOn at log log' bytes → length bytes ≡ size → bytes ≡ piece
piece_read xs passed piece bytes place len at size j log log' is lies same there long passes p few =
    unit_read xs piece bytes at log log' p is (piece_there xs passed piece place len at size j lies same there long passes) (few ∙ passes ∙ sym (ap length same))

-- and it isn't copied whole for these reasons alone
pub piece_fails : (xs passed piece : List ℕ) (place len at size j : ℕ) (log log' : ReadLogState) (old new : SinkState) (why : CopyFault) → IsOf xs log' → take len (drop place xs) ≡ passed → piece ≡ piece_of passed j → at ≡ place + 46080 * j → size ≡ piece_size len j → size ≡ length (piece_of passed j)
    → CopyStops at size log log' old new why → CopyFails piece old new why
piece_fails xs passed piece place len at size j log log' old new why is lies same there long passes p =
    let few : size ≡ length piece = passes ∙ sym (ap length same) in
    copy_fails xs piece at log log' old new why is (piece_there xs passed piece place len at size j lies same there long passes) (subst (λ n. CopyStops at n log log' old new why) few p)

-- ---- all pieces

-- the pieces before one were copied: as many bytes, with the same total, and so they were had; each block of these that isn't in memory was
-- looked at once
pub record CopiesUpTo (place k : ℕ) (it : PiecedState) (log log' : ReadLogState) (old new : SinkState) : Type 0 where
  pub done : List ℕ
  pub had : ReadsUpTo place it.held it.plane.bytes k log log' done
  pub total : word_total done ≡ word_total (take (46080 * k) it.plane.bytes)
  pub written : Prints done old new
  pub looked : log'.looked + away_blocks (drop k it.held) (length it.plane.bytes - 46080 * k) ≡ log.looked + away_blocks it.held (length it.plane.bytes)

-- none was yet
pub copies_begin : (place : ℕ) (it : PiecedState) (log : ReadLogState) (sink : SinkState) → CopiesUpTo place 0 it log log sink sink
copies_begin place it log sink =
    let all : length it.plane.bytes - 46080 * 0 ≡ length it.plane.bytes = omega arith in
    let none : 46080 * 0 ≡ 0 = omega arith in
    record {
      done = [];
      had = reads_begin place it.held it.plane.bytes log;
      total = ap (λ i. word_total (take i it.plane.bytes)) (sym none);
      written = Prints-none sink;
      looked = ap (λ n. log.looked + away_blocks it.held n) all;
    }

-- and then one more
pub copies_step : (place k : ℕ) (it : PiecedState) (log mid log' : ReadLogState) (old now new : SinkState) → k < length it.held → length it.held ≡ pieces_in (length it.plane.bytes)
    → CopiesUpTo place k it log mid old now → CopiesPiece place k it mid log' now new → CopiesUpTo place (k + 1) it log log' old new
copies_step place k it log mid log' old now new within many up piece =
    let before : 46080 * k ≤ length it.plane.bytes = omega (arith, within, many) in
    let size : length up.done ≡ 46080 * k = omega (arith, up.had.size, before) in
    record {
      done = up.done ++ piece.bytes;
      had = reads_step place it.held it.plane.bytes k log mid log' up.done piece.bytes within many piece.had piece.size up.had;
      total = pieces_total it.plane.bytes up.done piece.bytes k size before up.total piece.total;
      written = Prints-more old now new up.done piece.bytes up.written piece.written;
      looked = omega (arith, up.looked, piece.looked, away_step it.held (length it.plane.bytes) k within);
    }

-- the first pieces of a file that has what passed by were written, and then one more
pub front_step : (xs : List ℕ) (k : ℕ) (old now new : SinkState) → Prints (take (46080 * k) xs) old now → Prints (piece_of xs k) now new → Prints (take (46080 * (k + 1)) xs) old new
front_step xs k old now new p q = subst (λ t. Prints t old new) (pieces_next xs k) (Prints-more old now new (take (46080 * k) xs) (piece_of xs k) p q)

-- the pieces before one, and a front of it, are a front of the bytes
front_of : (xs : List ℕ) (k n : ℕ) → take (46080 * k) xs ++ take n (piece_of xs k) ≡ take (46080 * k + min n 46080) xs
front_of xs k n = ap (λ t. take (46080 * k) xs ++ t) (take-take_min n 46080 (drop (46080 * k) xs)) ∙ sym (take-add (46080 * k) (min n 46080) xs)

-- or not all of it
pub front_fails : (xs : List ℕ) (k : ℕ) (old now new : SinkState) (why : CopyFault) → Prints (take (46080 * k) xs) old now → CopyFails (piece_of xs k) now new why → CopyFails xs old new why
front_fails xs k old now new Failed p q =
    (46080 * k + min q.0 46080, subst (λ t. Prints t old new) (front_of xs k q.0) (Prints-more old now new (take (46080 * k) xs) (take q.0 (piece_of xs k)) p q.1))
front_fails xs k old now new Changed p q = q
front_fails xs k old now new Write p q =
    let front : PrintsFront (take (46080 * k) xs ++ piece_of xs k) old new = PrintsFront-more old now new (take (46080 * k) xs) (piece_of xs k) p q in
    let longer = PrintsFront-longer old new (take (46080 * k) xs ++ piece_of xs k) (drop (46080 * (k + 1)) xs) front in
    subst (λ t. PrintsFront t old new) (ap (λ t. t ++ drop (46080 * (k + 1)) xs) (pieces_next xs k) ∙ take-append-drop (46080 * (k + 1)) xs) longer

-- whatever the file did, what was written then
pub writes_on : (done : List ℕ) (old now new : SinkState) (why : CopyFault) → Prints done old now → CopyWrites now new why → CopyWrites old new why
writes_on done old now new Failed p q = (done ++ q.0, Prints-more old now new done q.0 p q.1)
writes_on done old now new Changed p q = (done ++ q.0, Prints-more old now new done q.0 p q.1)
writes_on done old now new Write p q = (done ++ q.0, PrintsFront-more old now new done q.0 p q.1)

-- so were all
pub copies_end : (place k : ℕ) (blank : Option ℤ) (it : PiecedState) (log log' : ReadLogState) (old new : SinkState) → k ≡ length it.held → length it.held ≡ pieces_in (length it.plane.bytes)
    → CopiesUpTo place k it log log' old new → CopiesUnit it.plane (Some (part_at (part_of place blank it))) log log' old new
copies_end place k blank it log log' old new all many up =
    let whole : word_total up.done ≡ word_total it.plane.bytes = up.total ∙ ap word_total (pieces_all it.plane.bytes k (all ∙ many)) in
    let nothing : away_blocks (drop k it.held) (length it.plane.bytes - 46080 * k) ≡ 0 = ap (λ bs. away_blocks bs (length it.plane.bytes - 46080 * k)) (drop_all k it.held (omega (arith, all))) ∙ omega (arith, all, many) in
    record {
      bytes = up.done;
      are = record { read = reads_end place it.held it.plane.bytes k log log' up.done all many up.had; size = reads_size place it.held it.plane.bytes k log log' up.done (all ∙ many) up.had; total = λ known. whole };
      written = up.written;
      looked = omega (arith, up.looked, nothing);
    }
