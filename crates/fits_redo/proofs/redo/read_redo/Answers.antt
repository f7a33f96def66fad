use Rattle.std.proofs.Common.{◌≡◌, ◌==◌, ◌*◌, true, length, sym, ◌∙◌}
use Rattle.fits_redo.specs.Redo.{told_blocks}
use Rattle.fits_redo.proofs.TellsLemmas.{head_told, whole_told, size_told}
use Rattle.fits_redo.proofs.redo.read_redo.Goals as goal

pub returns : goal.returns
returns c =
    let bytes = c.args.bytes.now in
    let entries = c.in-Some-split_first_chunk-2.entries.now in
    let one = c.in-Some.ensures.cases in
    let two = c.in-Some-split_first_chunk.ensures.cases in
    let three = c.in-Some-split_first_chunk-2.ensures.cases in
    let parts = head_told bytes c.in-Some.rest.now c.in-Some-split_first_chunk.len.now c.in-Some-split_first_chunk.rest.now c.in-Some-split_first_chunk-2.count.now entries one.1 two.0 two.1 three.0 three.1 in
    let count = c.from_big_endian.result in
    let told_n = c.from_big_endian.ensures ∙ parts.1 in
    let sized : (length entries == 5768 * count) ≡ true = sym c.has_length.ensures ∙ c.if-not-has_length.false in (
      sym c.is_open.ensures.value ∙ c.if-not-is_open.false,
      whole_told bytes entries count parts.2 told_n sized,
      c.from_big_endian-2.ensures ∙ parts.0,
      c.in_ok-read_blocks.ensures count (size_told (length entries) (5768 * count) sized) ∙ (λ i. told_blocks (told_n i) (parts.2 i)),
    )
