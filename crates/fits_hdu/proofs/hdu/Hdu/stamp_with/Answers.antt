use Rattle.std.proofs.Common.{ap, refl, inl, inr, length, ◌∙◌, arith, codes, decimal, List, ℕ, [], ◌∷◌}
use Rattle.fits_rules.specs.Class.{is_primary}
use Rattle.fits_sum.specs.ChecksumText.{checksum_text, zeros}
use Rattle.fits_hdu.specs.Work.{keyword_reads}
use Rattle.fits_hdu.specs.State.{parts_of}
use Rattle.fits_image.proofs.PlainTextLemmas.{plain_card}
use Rattle.fits_hdu.proofs.StampingLemmas.{checksum_count, checksum_reads, checksum_written, datasum_count, datasum_one, datasum_reads, datasum_written, stamp_bytes, stamp_most, stamped_by, text_one, text_size, zeros_one}
use Rattle.fits_hdu.proofs.hdu.Hdu.stamp_with.Goals as goal

pub set_card-requires-clause-keyword : goal.set_card-requires-clause-keyword
set_card-requires-clause-keyword c = inr refl

pub set_card-requires-2-clause-keyword : goal.set_card-requires-2-clause-keyword
set_card-requires-2-clause-keyword c = inl refl

pub set_card-requires-3-clause-keyword : goal.set_card-requires-3-clause-keyword
set_card-requires-3-clause-keyword c = inr refl

-- the three cards
pub set_card-requires-clause-one : goal.set_card-requires-clause-one
set_card-requires-clause-one c = zeros_one c.holding.result (c.holding.ensures ∙ ap (λ (card : List ℕ). card ∷ []) (c.checksum_card.ensures ∙ checksum_written zeros refl))

pub set_card-requires-2-clause-one : goal.set_card-requires-2-clause-one
set_card-requires-2-clause-one c =
    let sum = c.datasum_card-sum.ensures ∙ (datasum_written c.datasum.result ∙ ap (λ n. plain_card (codes "DATASUM ") (decimal n)) c.datasum.ensures) in
    datasum_one (parts_of c.args.self.now) c.holding-2.result (c.holding-2.ensures ∙ ap (λ (card : List ℕ). card ∷ []) sum)

pub set_card-requires-3-clause-one : goal.set_card-requires-3-clause-one
set_card-requires-3-clause-one c =
    let text = c.checksum_card-2.ensures ∙ (checksum_written c.encode-text.result (ap length (c.encode-text.ensures ∙ ap checksum_text c.sum.ensures) ∙ text_size (parts_of c.set_card-2.new.self)) ∙ ap (plain_card (codes "CHECKSUM")) (c.encode-text.ensures ∙ ap checksum_text c.sum.ensures)) in
    text_one (parts_of c.set_card-2.new.self) c.holding-3.result (c.holding-3.ensures ∙ ap (λ (card : List ℕ). card ∷ []) text)

pub set_card-requires-2-clause-room : goal.set_card-requires-2-clause-room
set_card-requires-2-clause-room c =
    let first = c.holding.ensures ∙ ap (λ (card : List ℕ). card ∷ []) (c.checksum_card.ensures ∙ checksum_written zeros refl) in
    omega (arith, c.requires.room, c.set_card.ensures.room, datasum_count (parts_of c.args.self.now) (parts_of c.set_card.new.self) c.holding.result first c.set_card.ensures.hdu)

pub sum-requires-clause-small : goal.sum-requires-clause-small
sum-requires-clause-small c =
    let first = c.holding.ensures ∙ ap (λ (card : List ℕ). card ∷ []) (c.checksum_card.ensures ∙ checksum_written zeros refl) in
    let sum = c.holding-2.ensures ∙ ap (λ (card : List ℕ). card ∷ []) (c.datasum_card-sum.ensures ∙ (datasum_written c.datasum.result ∙ ap (λ n. plain_card (codes "DATASUM ") (decimal n)) c.datasum.ensures)) in
    stamp_bytes (is_primary c.args.self.now.header.shape.class) (parts_of c.args.self.now) (parts_of c.set_card.new.self) (parts_of c.set_card-2.new.self) c.holding.result c.holding-2.result c.card_count-described.ensures.whole c.requires.small first c.set_card.ensures.hdu sum c.set_card-2.ensures.hdu

pub set_card-requires-3-clause-room : goal.set_card-requires-3-clause-room
set_card-requires-3-clause-room c =
    let first = c.holding.ensures ∙ ap (λ (card : List ℕ). card ∷ []) (c.checksum_card.ensures ∙ checksum_written zeros refl) in
    let sum = c.holding-2.ensures ∙ ap (λ (card : List ℕ). card ∷ []) (c.datasum_card-sum.ensures ∙ (datasum_written c.datasum.result ∙ ap (λ n. plain_card (codes "DATASUM ") (decimal n)) c.datasum.ensures)) in
    omega (arith, checksum_count (parts_of c.args.self.now) (parts_of c.set_card.new.self) (parts_of c.set_card-2.new.self) c.holding.result c.holding-2.result first c.set_card.ensures.hdu sum c.set_card-2.ensures.hdu)

-- they make the sums right
pub returns-clause-hdu : goal.returns-clause-hdu
returns-clause-hdu c =
    let first = c.holding.ensures ∙ ap (λ (card : List ℕ). card ∷ []) (c.checksum_card.ensures ∙ checksum_written zeros refl) in
    let sum = c.holding-2.ensures ∙ ap (λ (card : List ℕ). card ∷ []) (c.datasum_card-sum.ensures ∙ (datasum_written c.datasum.result ∙ ap (λ n. plain_card (codes "DATASUM ") (decimal n)) c.datasum.ensures)) in
    let long = ap length (c.encode-text.ensures ∙ ap checksum_text c.sum.ensures) ∙ text_size (parts_of c.set_card-2.new.self) in
    let text = c.holding-3.ensures ∙ ap (λ (card : List ℕ). card ∷ []) (c.checksum_card-2.ensures ∙ (checksum_written c.encode-text.result long ∙ ap (plain_card (codes "CHECKSUM")) (c.encode-text.ensures ∙ ap checksum_text c.sum.ensures))) in
    stamped_by (parts_of c.args.self.now) (parts_of c.set_card.new.self) (parts_of c.set_card-2.new.self) (parts_of c.set_card-3.new.self) c.holding.result c.holding-2.result c.holding-3.result first c.set_card.ensures.hdu sum c.set_card-2.ensures.hdu text c.set_card-3.ensures.hdu

pub returns-clause-work : goal.returns-clause-work
returns-clause-work c =
    let first = c.holding.ensures ∙ ap (λ (card : List ℕ). card ∷ []) (c.checksum_card.ensures ∙ checksum_written zeros refl) in
    let sum = c.holding-2.ensures ∙ ap (λ (card : List ℕ). card ∷ []) (c.datasum_card-sum.ensures ∙ (datasum_written c.datasum.result ∙ ap (λ n. plain_card (codes "DATASUM ") (decimal n)) c.datasum.ensures)) in
    let old = c.args.self.now in
    let a = c.set_card.new.self in
    let b = c.set_card-2.new.self in
    stamp_most old.header.header.cards old.header.reads a.header.reads b.header.reads c.set_card-3.new.self.header.reads (keyword_reads old.header.header.cards (codes "CHECKSUM")) (keyword_reads a.header.header.cards (codes "DATASUM ")) (keyword_reads b.header.header.cards (codes "CHECKSUM"))
    c.set_card.ensures.work c.set_card-2.ensures.work c.set_card-3.ensures.work refl
    (datasum_reads (parts_of old) (parts_of a) c.holding.result first c.set_card.ensures.hdu)
    (checksum_reads (parts_of old) (parts_of a) (parts_of b) c.holding.result c.holding-2.result first c.set_card.ensures.hdu sum c.set_card-2.ensures.hdu)
