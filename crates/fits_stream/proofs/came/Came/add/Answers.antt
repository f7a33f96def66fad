use Rattle.std.proofs.Common.{◌≡◌, ◌∙◌, ◌++◌, ◌∷◌, [], ap, sym, ◌+◌, take, suc, arith, slice_index_or}
use Rattle.std.proofs.Math.Seq.{take-suc}
use Rattle.fits_stream.specs.Log.{grown}
use Rattle.fits_stream.proofs.LogLemmas.{grown-more}
use Rattle.fits_stream.proofs.came.Came.add.Goals as goal

pub loop-byte-preserved : goal.loop-byte-preserved
loop-byte-preserved c =
    let log = c.args.self.now.log in
    let piece = c.args.piece.now in
    let i = c.loop-byte.byte-index in
    let more : take (i + 1) piece ≡ take i piece ++ (slice_index_or piece i 0 ∷ []) =
    let e : i + 1 ≡ suc i = omega arith in ap (λ n. take n piece) e ∙ take-suc piece i 0 c.loop-byte-test.true in
    c.push.ensures ∙ ap (λ l. grown l (slice_index_or piece i 0 ∷ [])) c.loop-byte.invariant ∙ grown-more log (take i piece) (slice_index_or piece i 0 ∷ []) ∙ ap (grown log) (sym more)
