use Rattle.std.proofs.Common.{◌≡◌, ◌+◌, ◌-◌, ◌∙◌, length, take, drop, ap, sym, arith}
use Rattle.std.proofs.Math.Seq.{paste}
use Rattle.std.proofs.lemmas.List.{drop-take, length-drop}
use Rattle.std.proofs.lemmas.List.Edits.{take-paste}
use Rattle.fits_stream.proofs.piece.drop_front.Goals as goal

pub returns-clause-value : goal.returns-clause-value
returns-clause-value c =
    let all = c.args.room.now in
    let len = c.args.len in
    let left = c.args.end - len in
    let size : length (drop len all) ≡ length all - len = length-drop len all in
    let whole : len + left ≡ c.args.end = omega arith in
    let same : left ≡ 0 + left = omega arith in
    ap (take left) c.copy_within.ensures.after ∙ (ap (λ n. take n (paste all 0 (drop len all) left)) same
    ∙ (take-paste all 0 (drop len all) left (omega arith) (omega arith)
    ∙ (sym (drop-take len left all) ∙ ap (λ k. drop len (take k all)) whole)))
