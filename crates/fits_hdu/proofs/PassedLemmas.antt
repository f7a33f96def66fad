-- An HDU whose data unit passed by: what is copied of it, and its sums.
use Rattle.std.proofs.Common.{◌≡◌, ℕ, ◌+◌, Bool, List, ◌++◌, ◌%◌, ap, length, sym, take, refl, ◌∙◌, arith, Option}
use Rattle.std.proofs.Math.Seq.{take-append-add}
use Rattle.std.proofs.lemmas.List.{length-append}
use Rattle.fits_card.specs.Header.{Header, IsHeader, header_bytes}
use Rattle.fits_stream.specs.Stream.{SinkState, Prints}
use Rattle.fits_stream.proofs.StreamLemmas.{Prints-more, PrintsFront-more}
use Rattle.fits_unit.specs.Again.{CopyFails, CopyWrites, HasTotal, PrintsAs}
use Rattle.fits_unit.specs.DataUnit.{Absence, IsKnown}
use Rattle.fits_unit.specs.declared.again.CopyFault.{CopyFault}
use Rattle.fits_unit.specs.declared.again.CopyFault.TheVariants.{Failed, Changed, Write}
use Rattle.fits_sum.specs.OnesComplement.{ones_complement}
use Rattle.fits_sum.specs.Words.{word_total}
use Rattle.fits_sum.proofs.WordLemmas.{totals_add}
use Rattle.fits_passing.specs.Hdu.{HduParts, hdu_bytes, IsHdu}
use Rattle.fits_passing.specs.Sums.{data_sum, hdu_sum, sum_keywords, verdicts_by, verdicts_of}
use Rattle.fits_passing.proofs.PassingLemmas.{header_words, unit_words}

-- what was copied of an HDU before a copy failed: its header, and a prefix of its data unit
pub copy_more : (xs ys : List ℕ) (a b c : SinkState) (why : CopyFault) → Prints xs a b → CopyFails ys b c why → CopyFails (xs ++ ys) a c why
copy_more xs ys a b c Failed p q = (length xs + q.0, rw (take-append-add xs ys q.0) (Prints-more a b c xs (take q.0 ys) p q.1))
copy_more xs ys a b c Changed p q = absurd q
copy_more xs ys a b c Write p q = PrintsFront-more a b c xs ys p q

-- a header, and then what was written before a copy failed
pub writes_more : (xs : List ℕ) (a b c : SinkState) (why : CopyFault) → Prints xs a b → CopyWrites b c why → CopyWrites a c why
writes_more xs a b c Failed p q = (xs ++ q.0, Prints-more a b c xs q.0 p q.1)
writes_more xs a b c Changed p q = (xs ++ q.0, Prints-more a b c xs q.0 p q.1)
writes_more xs a b c Write p q = (xs ++ q.0, PrintsFront-more a b c xs q.0 p q.1)

-- a header, and then bytes that are as many as a data unit, with its total where it is known
pub like_more : (header : Header) (unit : List ℕ) (absent : Option Absence) (a b c : SinkState) → IsHeader header → Prints (header_bytes header) a b → PrintsAs (HasTotal unit absent) (length unit) b c
    → PrintsAs (λ bytes. IsKnown absent → word_total bytes ≡ word_total (header_bytes header ++ unit)) (length (header_bytes header ++ unit)) a c
like_more header unit absent a b c whole p q =
    let words = header_words header whole in
    record {
      like = header_bytes header ++ q.like;
      size = omega (arith, length-append (header_bytes header) q.like, length-append (header_bytes header) unit, q.size);
      is = λ known. omega (arith, totals_add (header_bytes header) q.like words, totals_add (header_bytes header) unit words, q.is known);
      written = Prints-more a b c (header_bytes header) q.like p q.written;
    }

-- bytes like some, and then bytes like others
pub like_append : (P Q R : List ℕ → Type 0) (m n : ℕ) (a b c : SinkState) → ((xs ys : List ℕ) → length xs ≡ m → length ys ≡ n → P xs → Q ys → R (xs ++ ys)) → PrintsAs P m a b → PrintsAs Q n b c → PrintsAs R (m + n) a c
like_append P Q R m n a b c both p q = record {
  like = p.like ++ q.like;
  size = omega (arith, length-append p.like q.like, p.size, q.size);
  is = both p.like q.like p.size q.size p.is q.is;
  written = Prints-more a b c p.like q.like p.written q.written;
}

-- these are like themselves
pub like_printed : (ys : List ℕ) (a b : SinkState) → Prints ys a b → PrintsAs (λ bytes. bytes ≡ ys) (length ys) a b
like_printed ys a b p = record { like = ys; size = refl; is = refl; written = p }

-- an HDU is of whole words
pub hdu_words : (primary : Bool) (hdu : HduParts) → IsHdu primary hdu → length (hdu_bytes hdu) % 4 ≡ 0
hdu_words primary hdu whole =
    omega (arith, length-append (header_bytes hdu.header) hdu.data_unit, header_words hdu.header whole.header, unit_words whole.shape, whole.size)

-- data units of the same total, after the same header, have the same verdicts
pub same_verdicts : (old new : HduParts) → IsHeader old.header → new.header ≡ old.header → word_total new.data_unit ≡ word_total old.data_unit → verdicts_of new ≡ verdicts_of old
unfolding verdicts_of data_sum hdu_sum
same_verdicts old new whole header total =
    let words = header_words old.header whole in
    let all : word_total (hdu_bytes new) ≡ word_total (hdu_bytes old) =
    ap (λ (h : Header). word_total (header_bytes h ++ new.data_unit)) header ∙ totals_add (header_bytes old.header) new.data_unit words
    ∙ ap (λ n. word_total (header_bytes old.header) + n) total ∙ sym (totals_add (header_bytes old.header) old.data_unit words) in
    ap (λ (h : Header). verdicts_by (sum_keywords h.cards) (ones_complement (word_total new.data_unit)) (ones_complement (word_total (hdu_bytes new)))) header
    ∙ ap (λ n. verdicts_by (sum_keywords old.header.cards) (ones_complement n) (ones_complement (word_total (hdu_bytes new)))) total
    ∙ ap (λ n. verdicts_by (sum_keywords old.header.cards) (ones_complement (word_total old.data_unit)) (ones_complement n)) all
