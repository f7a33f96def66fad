use Rattle.std.proofs.Common.{◌≡◌, ℕ, ◌-◌, List, ◌∷◌, [], length, take, drop, refl, sym, ◌∙◌, ap, arith}
use Rattle.fits_value.specs.Spelling.{doubled}
use Rattle.fits_value.specs.Text.{normal_form}
use Rattle.fits_value.specs.Scan.{undoubled}
use Rattle.fits_value.specs.Says.{inner, ends_in_ampersand}
use Rattle.fits_value.proofs.OpenLemmas.{bytes_eq-swap, open_spelled}
use Rattle.fits_value.proofs.QuoteLemmas.{undoubled-doubled}
use Rattle.fits_value.proofs.SayLemmas.{between_quotes}
use Rattle.fits_value.proofs.strings.is_open_string.Goals as goal

-- src/strings.rt:137:1
pub returns : goal.returns
returns c =
    let spelling = c.args.spelling.now in
    let n = c.trimmed_len.result in
    let quoted = take (length spelling - 1 - 1) (drop 1 spelling) in
    let text = c.split_at.result.0.now in
    let cs = c.requires.0 in
    let between : quoted ≡ doubled cs = between_quotes spelling cs (length spelling - 1) c.requires.1 refl in
    let same : inner spelling ≡ quoted = ap (λ (k : ℕ). take k (drop 1 spelling)) (omega arith) in
    let decoded : undoubled (inner spelling) ≡ cs = ap undoubled (same ∙ between) ∙ undoubled-doubled cs in
    c.ends_with.ensures.value ∙ (bytes_eq-swap (38 ∷ []) (drop (length text - 1) text) ∙ (ap ends_in_ampersand c.split_at.ensures.front
    ∙ (open_spelled quoted cs n between c.trimmed_len.ensures.value ∙ ap (λ (x : List ℕ). ends_in_ampersand (normal_form x)) (sym decoded))))
