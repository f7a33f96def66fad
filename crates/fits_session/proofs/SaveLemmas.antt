-- Steps of saving: HDU after HDU, then the tail.
use Rattle.std.proofs.Common.{◌≡◌, Bool, ℕ, ◌+◌, ◌%◌, ◌<◌, ◌≤◌, List, [], ◌∷◌, ◌++◌, length, map, take, drop, get_or, set, refl, ap, sym, subst, ◌∙◌, arith, zero, suc, add-one, inl, inr}
use Rattle.std.proofs.lemmas.Bool.{cases_lt}
use Rattle.std.proofs.Math.Seq.{take-append_seam}
use Rattle.std.proofs.lemmas.List.{append-nil, get_or-map, length-append, length-map, take_all, take_more, drop_more, take-append-drop, take-append-le}
use Rattle.std.proofs.lemmas.List.Concat.{flat_map-append}
use Rattle.std.specs.Prelude.{All}
use Rattle.fits_sum.specs.Words.{word_total}
use Rattle.fits_sum.proofs.WordLemmas.{totals_add}
use Rattle.fits_unit.specs.Again.{CopyFails, PrintsAs}
use Rattle.fits_unit.specs.declared.again.CopyFault.{CopyFault}
use Rattle.fits_unit.specs.declared.again.CopyFault.TheVariants.{Failed, Changed, Write}
use Rattle.fits_stream.specs.Stream.{SinkState, Prints, PrintsFront}
use Rattle.fits_stream.proofs.StreamLemmas.{Prints-none, Prints-more, PrintsFront-longer, PrintsFront-more}
use Rattle.fits_header.specs.State.{HeaderState}
use Rattle.fits_passing.specs.Hdu.{HduParts, hdu_bytes, IsHdu}
use Rattle.fits_hdu.specs.State.{HduState, ReadsUpTo, hdu_at, parts_of, IsSeen}
use Rattle.fits_hdu.specs.Work.{PixelWork, plane_work, HasHduTotal, WritesHdu}
use Rattle.fits_session.specs.Away.{WritesHdus}
use Rattle.fits_stream.specs.Stored.{ReadLogState}
use Rattle.fits_hdu.proofs.PassedLemmas.{copy_more, hdu_words, like_append, like_printed}
use Rattle.fits_passing.specs.File.{joined_hdus}
use Rattle.fits_session.specs.Session.{absences_of, hdus_of, reads_of, works_of, once_read, each_read, uncounted, without_counts, ReadsOnceAtMost}
use Rattle.fits_session.proofs.KeptLemmas.{seen_same, uncounted_read}
use Rattle.fits_session.proofs.StateLemmas.{get_or-hdus_of, hdus_of-same, length-hdus_of, parts_same, works_of-same}

-- HDU i of those that are there
hdu_here : (hdus : List HduState) (us : List HduParts) (i : ℕ) (hdu : HduState) → hdus_of hdus ≡ us → i < length hdus → hdu ≡ get_or hdus i hdu → get_or us i (parts_of hdu) ≡ parts_of hdu
hdu_here hdus us i hdu same l e =
    ap (λ (t : List HduParts). get_or t i (parts_of hdu)) (sym same) ∙ get_or-hdus_of hdus i hdu l e

-- their number
within : (hdus : List HduState) (us : List HduParts) (i : ℕ) → hdus_of hdus ≡ us → i < length hdus → i < length us
within hdus us i same l = omega (arith, ap length same, length-hdus_of hdus)

-- the bytes of one HDU more
pub joined_more : (hdus : List HduState) (us : List HduParts) (i : ℕ) (hdu : HduState) → hdus_of hdus ≡ us → i < length hdus → hdu ≡ get_or hdus i hdu → joined_hdus (take (i + 1) us) ≡ joined_hdus (take i us) ++ hdu_bytes (parts_of hdu)
joined_more hdus us i hdu same l e =
    ap joined_hdus (take_more us i (parts_of hdu) (within hdus us i same l)) ∙ flat_map-append hdu_bytes (take i us) (get_or us i (parts_of hdu) ∷ [])
    ∙ ap (λ t. joined_hdus (take i us) ++ t) (append-nil (hdu_bytes (get_or us i (parts_of hdu))) ∙ ap hdu_bytes (hdu_here hdus us i hdu same l e))

-- one more HDU
pub Prints-hdu : (a b c : SinkState) (hdus : List HduState) (us : List HduParts) (i : ℕ) (hdu : HduState) → hdus_of hdus ≡ us → i < length hdus → hdu ≡ get_or hdus i hdu → Prints (joined_hdus (take i us)) a b → Prints (hdu_bytes (parts_of hdu)) b c → Prints (joined_hdus (take (i + 1) us)) a c
Prints-hdu a b c hdus us i hdu same l e p q = rw (joined_more hdus us i hdu same l e) (Prints-more a b c _ _ p q)

-- a prefix of it
pub PrintsFront-hdu : (a b c : SinkState) (hdus : List HduState) (us : List HduParts) (i : ℕ) (hdu : HduState) → hdus_of hdus ≡ us → i < length hdus → hdu ≡ get_or hdus i hdu → Prints (joined_hdus (take i us)) a b → PrintsFront (hdu_bytes (parts_of hdu)) b c → PrintsFront (joined_hdus us) a c
PrintsFront-hdu a b c hdus us i hdu same l e p q =
    let rest : List HduParts = drop (i + 1) us in
    let split : joined_hdus us ≡ joined_hdus (take i us) ++ (hdu_bytes (parts_of hdu) ++ joined_hdus rest) =
    ap joined_hdus (sym (take-append-drop i us)) ∙ flat_map-append hdu_bytes (take i us) (drop i us)
    ∙ ap (λ t. joined_hdus (take i us) ++ t) (ap joined_hdus (drop_more us i (parts_of hdu) (within hdus us i same l)) ∙ ap (λ u. hdu_bytes u ++ joined_hdus rest) (hdu_here hdus us i hdu same l e)) in
    rw split (PrintsFront-more a b c _ (hdu_bytes (parts_of hdu) ++ joined_hdus rest) p (PrintsFront-longer b c (hdu_bytes (parts_of hdu)) (joined_hdus rest) q))

-- bytes that weren't all copied stay so with more after them
copy_longer : (xs rest : List ℕ) (a c : SinkState) (why : CopyFault) → CopyFails xs a c why → CopyFails (xs ++ rest) a c why
copy_longer xs rest a c Failed p =
    elim (cases_lt (length xs) p.0) [
      | inl all ↦ (length xs, subst (λ (bytes : List ℕ). Prints bytes a c) (take_all p.0 xs (omega (arith, all)) ∙ sym (take-append_seam xs rest)) p.1)
      | inr few ↦ (p.0, subst (λ (bytes : List ℕ). Prints bytes a c) (sym (take-append-le p.0 xs rest few)) p.1)
    ]
copy_longer xs rest a c Changed p = absurd p
copy_longer xs rest a c Write p = PrintsFront-longer a c xs rest p

-- so of one of the HDUs, after those before it
pub copy_hdu : (a b c : SinkState) (hdus : List HduState) (us : List HduParts) (i : ℕ) (hdu : HduState) (why : CopyFault) → hdus_of hdus ≡ us → i < length hdus → hdu ≡ get_or hdus i hdu → Prints (joined_hdus (take i us)) a b → CopyFails (hdu_bytes (parts_of hdu)) b c why → CopyFails (joined_hdus us) a c why
copy_hdu a b c hdus us i hdu why same l e p q =
    let rest : List HduParts = drop (i + 1) us in
    let split : joined_hdus us ≡ joined_hdus (take i us) ++ (hdu_bytes (parts_of hdu) ++ joined_hdus rest) =
    ap joined_hdus (sym (take-append-drop i us)) ∙ flat_map-append hdu_bytes (take i us) (drop i us)
    ∙ ap (λ t. joined_hdus (take i us) ++ t) (ap joined_hdus (drop_more us i (parts_of hdu) (within hdus us i same l)) ∙ ap (λ u. hdu_bytes u ++ joined_hdus rest) (hdu_here hdus us i hdu same l e)) in
    rw split (copy_more (joined_hdus (take i us)) (hdu_bytes (parts_of hdu) ++ joined_hdus rest) a b c why p (copy_longer (hdu_bytes (parts_of hdu)) (joined_hdus rest) b c why q))

-- and of all of them, with a tail after them
pub copy_hdus : (us : List HduParts) (tail : List ℕ) (a c : SinkState) (why : CopyFault) → CopyFails (joined_hdus us) a c why → CopyFails (joined_hdus us ++ tail) a c why
copy_hdus us tail a c why p = copy_longer (joined_hdus us) tail a c why p

-- bytes have the total of these, where all of the HDUs are known
abbrev pub HaveTotal : List HduState → List ℕ → List ℕ → Type 0
HaveTotal hdus whole bytes = All IsSeen hdus → word_total bytes ≡ word_total whole

-- those of two, one after the other
both_total : (hdus : List HduState) (front own : List ℕ) (one : HduState) → (All IsSeen hdus → IsSeen one) → own ≡ hdu_bytes (parts_of one) → length front % 4 ≡ 0 → (xs ys : List ℕ) → length xs ≡ length front → length ys ≡ length own → HaveTotal hdus front xs → HasHduTotal one ys → HaveTotal hdus (front ++ own) (xs ++ ys)
both_total hdus front own one sees is words xs ys m n p q seen =
    totals_add xs ys (omega (arith, m, words)) ∙ ap (λ k. k + word_total ys) (p seen) ∙ ap (λ k. word_total front + k) (q (sees seen) ∙ ap word_total (sym is)) ∙ sym (totals_add front own words)

-- bytes like one HDU more
pub like_hdu : (a b c : SinkState) (hdus old : List HduState) (us : List HduParts) (i : ℕ) (hdu : HduState) → hdus_of hdus ≡ us → absences_of hdus ≡ absences_of old → i < length hdus → hdu ≡ get_or hdus i hdu → length (joined_hdus (take i us)) % 4 ≡ 0
    → PrintsAs (HaveTotal old (joined_hdus (take i us))) (length (joined_hdus (take i us))) a b → PrintsAs (HasHduTotal hdu) (length (hdu_bytes (parts_of hdu))) b c → PrintsAs (HaveTotal old (joined_hdus (take (i + 1) us))) (length (joined_hdus (take (i + 1) us))) a c
like_hdu a b c hdus old us i hdu same lie l e words p q =
    let front : List ℕ = joined_hdus (take i us) in
    let own : List ℕ = hdu_bytes (parts_of hdu) in
    let sees : All IsSeen old → IsSeen hdu = λ seen. subst (λ (one : HduState). IsSeen one) (sym e) (seen_same hdus old lie seen i hdu l) in
    let both : PrintsAs (HaveTotal old (front ++ own)) (length front + length own) a c = like_append (HaveTotal old front) (HasHduTotal hdu) (HaveTotal old (front ++ own)) (length front) (length own) a b c (λ xs ys m n. both_total old front own hdu sees refl words xs ys m n) p q in
    rw (joined_more hdus us i hdu same l e) (subst (λ n. PrintsAs (HaveTotal old (front ++ own)) n a c) (sym (length-append front own)) both)

-- those of one HDU more are of whole words
pub words_hdu : (hdus : List HduState) (us : List HduParts) (i : ℕ) (hdu : HduState) (primary : Bool) → hdus_of hdus ≡ us → i < length hdus → hdu ≡ get_or hdus i hdu → IsHdu primary (parts_of hdu) → length (joined_hdus (take i us)) % 4 ≡ 0 → length (joined_hdus (take (i + 1) us)) % 4 ≡ 0
words_hdu hdus us i hdu primary same l e whole words =
    omega (arith, ap length (joined_more hdus us i hdu same l e), length-append (joined_hdus (take i us)) (hdu_bytes (parts_of hdu)), hdu_words primary (parts_of hdu) whole, words)

-- none of them yet
pub like_none : (a : SinkState) (hdus : List HduState) (us : List HduParts) → PrintsAs (HaveTotal hdus (joined_hdus (take 0 us))) (length (joined_hdus (take 0 us))) a a
like_none a hdus us = record { like = []; size = refl; is = λ seen. refl; written = Prints-none a }

-- nor their words
pub words_none : (us : List HduParts) → length (joined_hdus (take 0 us)) % 4 ≡ 0
words_none us = refl

-- all of them
pub like_hdus : (a b : SinkState) (hdus : List HduState) (us : List HduParts) (i : ℕ) → length us ≤ i → PrintsAs (HaveTotal hdus (joined_hdus (take i us))) (length (joined_hdus (take i us))) a b → PrintsAs (HaveTotal hdus (joined_hdus us)) (length (joined_hdus us)) a b
like_hdus a b hdus us i l p = rw (take_all i us l) at p

-- and their words
pub words_hdus : (us : List HduParts) (i : ℕ) → length us ≤ i → length (joined_hdus (take i us)) % 4 ≡ 0 → length (joined_hdus us) % 4 ≡ 0
words_hdus us i l p = rw (take_all i us l) at p

-- and then the tail
pub like_tail : (hdus : List HduState) (us : List HduParts) (tail : List ℕ) (a b c : SinkState) → length (joined_hdus us) % 4 ≡ 0 → PrintsAs (HaveTotal hdus (joined_hdus us)) (length (joined_hdus us)) a b → Prints tail b c → PrintsAs (HaveTotal hdus (joined_hdus us ++ tail)) (length (joined_hdus us ++ tail)) a c
like_tail hdus us tail a b c words p q =
    let front : List ℕ = joined_hdus us in
    let both : PrintsAs (HaveTotal hdus (front ++ tail)) (length front + length tail) a c =
    like_append (HaveTotal hdus front) (λ bytes. bytes ≡ tail) (HaveTotal hdus (front ++ tail)) (length front) (length tail) a b c
    (λ xs ys m n P Q seen. totals_add xs ys (omega (arith, m, words)) ∙ ap (λ k. k + word_total ys) (P seen) ∙ ap (λ (t : List ℕ). word_total front + word_total t) Q ∙ sym (totals_add front tail words)) p (like_printed tail b c q) in
    subst (λ n. PrintsAs (HaveTotal hdus (front ++ tail)) n a c) (sym (length-append front tail)) both

-- none of them yet
pub Prints-no_hdus : (a : SinkState) (us : List HduParts) → Prints (joined_hdus (take 0 us)) a a
Prints-no_hdus a us = Prints-none a

-- one more HDU, as a file has it
pub Prints-hdu_at : (told : List ℕ) (a b c : SinkState) (hdus : List HduState) (us : List HduParts) (i : ℕ) (hdu : HduState) → hdus_of (map (hdu_at told) hdus) ≡ us → i < length hdus → hdu ≡ get_or hdus i hdu → Prints (joined_hdus (take i us)) a b → Prints (hdu_bytes (parts_of (hdu_at told hdu))) b c
    → Prints (joined_hdus (take (i + 1) us)) a c
Prints-hdu_at told a b c hdus us i hdu same l e p q =
    Prints-hdu a b c (map (hdu_at told) hdus) us i (hdu_at told hdu) same (omega (arith, l, length-map hdus (hdu_at told))) (ap (hdu_at told) e ∙ sym (get_or-map (hdu_at told) hdus i hdu (hdu_at told hdu) l)) p q

-- one of them wasn't copied whole
pub copy_hdu_at : (told : List ℕ) (a b c : SinkState) (hdus : List HduState) (us : List HduParts) (i : ℕ) (hdu : HduState) (why : CopyFault) → hdus_of (map (hdu_at told) hdus) ≡ us → i < length hdus → hdu ≡ get_or hdus i hdu → Prints (joined_hdus (take i us)) a b → CopyFails (hdu_bytes (parts_of (hdu_at told hdu))) b c why
    → CopyFails (joined_hdus us) a c why
copy_hdu_at told a b c hdus us i hdu why same l e p q =
    copy_hdu a b c (map (hdu_at told) hdus) us i (hdu_at told hdu) why same (omega (arith, l, length-map hdus (hdu_at told))) (ap (hdu_at told) e ∙ sym (get_or-map (hdu_at told) hdus i hdu (hdu_at told hdu) l)) p q

-- all of them
pub Prints-hdus : (a b : SinkState) (us : List HduParts) (i : ℕ) → length us ≤ i → Prints (joined_hdus (take i us)) a b → Prints (joined_hdus us) a b
Prints-hdus a b us i l p = rw (take_all i us l) at p

-- the HDUs stay
pub hdus_kept : (hdus : List HduState) (us : List HduParts) (i : ℕ) (old new : HduState) → hdus_of hdus ≡ us → i < length hdus → old ≡ get_or hdus i old → parts_of new ≡ parts_of old → hdus_of (set hdus i new) ≡ us
hdus_kept hdus us i old new same l e p = hdus_of-same hdus i old new l e p ∙ same

-- the same HDUs, with the cards of the first so many read once more
abbrev pub first_read : ℕ → List HduState → List HduState
first_read zero before = before
first_read (suc i) [] = []
first_read (suc i) (one ∷ before) = once_read one ∷ first_read i before

-- none of them yet
pub first_read_none : (before : List HduState) → before ≡ first_read 0 before
first_read_none before = refl

-- two states of the same parts are one
state_is : (a b : HduState) → a.header.header ≡ b.header.header → a.header.shape ≡ b.header.shape → a.header.reads ≡ b.header.reads → a.header.room ≡ b.header.room → a.plane ≡ b.plane → a.entry ≡ b.entry → a.kept ≡ b.kept → a.absent ≡ b.absent → a ≡ b
state_is a b p q r s t u v w =
    let header : HeaderState = record { header = a.header.header; shape = a.header.shape; reads = a.header.reads; room = a.header.room } in
    let same : (let state : HduState = record { header = header; plane = a.plane; entry = a.entry; kept = a.kept; absent = a.absent } in state) ≡ b = rw (p, q, r, s, t, u, v, w) refl in
    same

-- an HDU whose cards all were read
read_as : (one hdu new : HduState) (most : ℕ) → hdu ≡ one → ReadsUpTo hdu new most → new.header.reads ≡ hdu.header.reads + length hdu.header.header.cards → new ≡ once_read one
read_as one hdu new most e r more = state_is new (once_read hdu) r.header.header r.header.shape more r.header.room r.plane r.entry r.kept r.absent ∙ ap once_read e

-- one more HDU was read
read_next : (before hdus : List HduState) (i : ℕ) (old new : HduState) (most : ℕ) → hdus ≡ first_read i before → i < length hdus → old ≡ get_or hdus i old → ReadsUpTo old new most → new.header.reads ≡ old.header.reads + length old.header.header.cards → set hdus i new ≡ first_read (suc i) before
read_next before [] i old new most e l is r more = absurd (omega arith)
read_next [] (hdu ∷ hdus) zero old new most e l is r more = absurd (cc)
read_next [] (hdu ∷ hdus) (suc i) old new most e l is r more = absurd (cc)
read_next (one ∷ before) (hdu ∷ hdus) zero old new most e l is r more =
    let head : hdu ≡ one = cc in
    let tail : hdus ≡ before = cc in
    let at : new ≡ once_read one = read_as one hdu new most head (subst (λ (state : HduState). ReadsUpTo state new most) is r) (rw is at more) in
    cc
read_next (one ∷ before) (hdu ∷ hdus) (suc i) old new most e l is r more =
    let head : hdu ≡ once_read one = cc in
    let tail : hdus ≡ first_read i before = cc in
    let next : set hdus i new ≡ first_read (suc i) before = read_next before hdus i old new most tail (omega arith) is r more in
    cc

-- the same in the loop's words
pub first_read_more : (before hdus : List HduState) (i : ℕ) (old new : HduState) (most : ℕ) → hdus ≡ first_read i before → i < length hdus → old ≡ get_or hdus i old → ReadsUpTo old new most → new.header.reads ≡ old.header.reads + length old.header.header.cards → set hdus i new ≡ first_read (i + 1) before
first_read_more before hdus i old new most e l is r more = rw (add-one i) (read_next before hdus i old new most e l is r more)

-- one more is written
written_more : (before hdus : List HduState) (i : ℕ) (hdu : HduState) (a b c : ReadLogState) (s t u : SinkState) → hdus ≡ first_read i before → i < length hdus → hdu ≡ get_or hdus i hdu → WritesHdus (take i before) a b s t → WritesHdu hdu b c t u → WritesHdus (take (suc i) before) a c s u
written_more before [] i hdu a b c s t u e l is p q = absurd (omega arith)
written_more [] (one ∷ hdus) zero hdu a b c s t u e l is p q = absurd (cc)
written_more [] (one ∷ hdus) (suc i) hdu a b c s t u e l is p q = absurd (cc)
written_more (one ∷ before) (first ∷ hdus) zero hdu a b c s t u e l is p q =
    let head : first ≡ one = cc in
    (c, u, subst (λ (h : HduState). WritesHdu h a c s u) (is ∙ head) (rw (p.0, p.1) at q), (refl, refl))
written_more (one ∷ before) (first ∷ hdus) (suc i) hdu a b c s t u e l is p q =
    let tail : hdus ≡ first_read i before = cc in
    (p.0, p.1, p.2, written_more before hdus i hdu p.0 b c p.1 t u tail (omega arith) is p.3 q)

-- the same in the loop's words
pub WritesHdus-more : (before hdus : List HduState) (i : ℕ) (hdu : HduState) (a b c : ReadLogState) (s t u : SinkState) → hdus ≡ first_read i before → i < length hdus → hdu ≡ get_or hdus i hdu → WritesHdus (take i before) a b s t → WritesHdu hdu b c t u → WritesHdus (take (i + 1) before) a c s u
WritesHdus-more before hdus i hdu a b c s t u e l is p q = rw (add-one i) (written_more before hdus i hdu a b c s t u e l is p q)

-- in the end all are
pub WritesHdus-all : (before : List HduState) (i : ℕ) (a b : ReadLogState) (s t : SinkState) → length before ≤ i → WritesHdus (take i before) a b s t → WritesHdus before a b s t
WritesHdus-all before i a b s t l p = rw (take_all i before l) at p

-- in the end all were read
first_read_all : (before : List HduState) (i : ℕ) → length before ≤ i → first_read i before ≡ each_read before
first_read_all [] zero l = refl
first_read_all [] (suc i) l = refl
first_read_all (one ∷ before) zero l = absurd (omega arith)
first_read_all (one ∷ before) (suc i) l = ap (λ (more : List HduState). once_read one ∷ more) (first_read_all before i (omega arith))

-- also those under edits
pub all_read : (before hdus : List HduState) (i : ℕ) → hdus ≡ first_read i before → length hdus ≡ length before → length hdus ≤ i → hdus ≡ each_read before
all_read before hdus i e same l = e ∙ first_read_all before i (omega arith)

-- a read of each card is no fall
read_grows : (before : List HduState) (j : ℕ) → get_or (reads_of before) j 0 ≤ get_or (reads_of (each_read before)) j 0
read_grows [] j = omega arith
read_grows (one ∷ before) zero = omega arith
read_grows (one ∷ before) (suc j) = read_grows before j

-- nor are the HDUs others
read_same : (before : List HduState) → without_counts (each_read before) ≡ without_counts before
read_same [] = refl
read_same (one ∷ before) = ap (λ (hdus : List HduState). uncounted one ∷ hdus) (read_same before)

-- nor is the work on their data units
work_same : (before : List HduState) → works_of (each_read before) ≡ works_of before
work_same [] = refl
work_same (one ∷ before) = ap (λ (works : List PixelWork). plane_work one.plane ∷ works) (work_same before)

-- none was read
pub once_none : (before : List HduState) → ReadsOnceAtMost before before
once_none before = record { hdus = refl; pixel_work = refl; least = λ j. omega arith; most = λ j. read_grows before j }

-- so each card was read once at most
pub once_at_end : (before after : List HduState) → after ≡ each_read before → ReadsOnceAtMost before after
once_at_end before after e = rw e (record { hdus = read_same before; pixel_work = work_same before; least = λ j. read_grows before j; most = λ j. omega arith })

-- no count falls where one HDU is being read
least_read : (before hdus : List HduState) (i : ℕ) (old new : HduState) → hdus ≡ first_read i before → i < length hdus → old ≡ get_or hdus i old → old.header.reads ≤ new.header.reads → (j : ℕ) → get_or (reads_of before) j 0 ≤ get_or (reads_of (set hdus i new)) j 0
least_read before [] i old new e l is le j = absurd (omega arith)
least_read [] (hdu ∷ hdus) zero old new e l is le j = absurd (cc)
least_read [] (hdu ∷ hdus) (suc i) old new e l is le j = absurd (cc)
least_read (one ∷ before) (hdu ∷ hdus) zero old new e l is le zero =
    let head : hdu ≡ one = cc in
    omega (arith, ap (λ (one : HduState). one.header.reads) head, ap (λ (state : HduState). state.header.reads) is)
least_read (one ∷ before) (hdu ∷ hdus) zero old new e l is le (suc j) =
    let tail : hdus ≡ before = cc in
    omega (arith, ap (λ (before : List HduState). get_or (reads_of before) j 0) tail)
least_read (one ∷ before) (hdu ∷ hdus) (suc i) old new e l is le zero =
    let head : hdu ≡ once_read one = cc in
    omega (arith, ap (λ (one : HduState). one.header.reads) head)
least_read (one ∷ before) (hdu ∷ hdus) (suc i) old new e l is le (suc j) =
    let tail : hdus ≡ first_read i before = cc in
    least_read before hdus i old new tail (omega arith) is le j

-- and none grows past one read of each card
most_read : (before hdus : List HduState) (i : ℕ) (old new : HduState) → hdus ≡ first_read i before → i < length hdus → old ≡ get_or hdus i old → new.header.reads ≤ old.header.reads + length old.header.header.cards → (j : ℕ) → get_or (reads_of (set hdus i new)) j 0 ≤ get_or (reads_of (each_read before)) j 0
most_read before [] i old new e l is le j = absurd (omega arith)
most_read [] (hdu ∷ hdus) zero old new e l is le j = absurd (cc)
most_read [] (hdu ∷ hdus) (suc i) old new e l is le j = absurd (cc)
most_read (one ∷ before) (hdu ∷ hdus) zero old new e l is le zero =
    let head : hdu ≡ one = cc in
    omega (arith, ap (λ (one : HduState). one.header.reads + length one.header.header.cards) head, ap (λ (state : HduState). state.header.reads + length state.header.header.cards) is)
most_read (one ∷ before) (hdu ∷ hdus) zero old new e l is le (suc j) =
    let tail : hdus ≡ before = cc in
    omega (arith, ap (λ (before : List HduState). get_or (reads_of before) j 0) tail, read_grows before j)
most_read (one ∷ before) (hdu ∷ hdus) (suc i) old new e l is le zero =
    let head : hdu ≡ once_read one = cc in
    omega (arith, ap (λ (one : HduState). one.header.reads) head)
most_read (one ∷ before) (hdu ∷ hdus) (suc i) old new e l is le (suc j) =
    let tail : hdus ≡ first_read i before = cc in
    most_read before hdus i old new tail (omega arith) is le j

-- the reads of cards of the first so many leave the work on their data units
first_work : (i : ℕ) (before : List HduState) → works_of (first_read i before) ≡ works_of before
first_work zero before = refl
first_work (suc i) [] = refl
first_work (suc i) (one ∷ before) = ap (λ (works : List PixelWork). plane_work one.plane ∷ works) (first_work i before)

-- nor are the HDUs others
first_same : (i : ℕ) (before : List HduState) → without_counts (first_read i before) ≡ without_counts before
first_same zero before = refl
first_same (suc i) [] = refl
first_same (suc i) (one ∷ before) = ap (λ (hdus : List HduState). uncounted one ∷ hdus) (first_same i before)

-- so each card is read once at most, also where a call fails
pub once_at_most : (before hdus : List HduState) (i : ℕ) (old new : HduState) → hdus ≡ first_read i before → i < length hdus → old ≡ get_or hdus i old → ReadsUpTo old new (length old.header.header.cards) → ReadsOnceAtMost before (set hdus i new)
once_at_most before hdus i old new e l is work = record {
  hdus = parts_same uncounted hdus i old new l is (uncounted_read old new _ work) ∙ ap without_counts e ∙ first_same i before;
  pixel_work = works_of-same hdus i old new l is (ap plane_work work.plane) ∙ ap works_of e ∙ first_work i before;
  least = λ j. least_read before hdus i old new e l is work.header.least j;
  most = λ j. most_read before hdus i old new e l is work.header.most j;
}

pub ruleset save_steps = (like_none, like_hdus, like_tail, words_none, words_hdus, Prints-no_hdus, Prints-more, Prints-hdus, PrintsFront-hdu, PrintsFront-longer, PrintsFront-more, first_read_none)
