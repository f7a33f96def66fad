use Rattle.std.proofs.Common.{◌≡◌, ◌∙◌, ◌↔◌, ap, subst, arith, drop, length, List, ℕ}
use Rattle.std.specs.Prelude.{All, IsTrue}
use Rattle.std.proofs.lemmas.Slice.{between_to_end}
use Rattle.fits_plane.proofs.data_bytes.DataBytes.ends_in.Goals as goal

pub returns : goal.returns
returns c =
    let xs : List ℕ = c.as_slice.result.now in
    let rest = between_to_end xs c.args.from (length xs) (omega (arith, c.requires, ap length c.as_slice.ensures.value, ap (λ s. length s.bytes) c.self.view_is)) ∙ ap (drop c.args.from) c.as_slice.ensures.value ∙ ap (λ s. drop c.args.from s.bytes) c.self.view_is in
    subst (λ ys. IsTrue c.all_are.result ↔ All (λ b. b ≡ c.args.byte) ys) rest c.all_are.ensures
