use Rattle.std.proofs.Common.{◌≡◌, ◌+◌, ◌-◌, ◌<◌, ℕ, false, List, length, get_or, ◌∙◌, ap, sym, arith, inl, inr}
use Rattle.std.specs.List.{suffix_len}
use Rattle.std.specs.Simd.Lanes.{chunk}
use Rattle.std.proofs.lemmas.Bool.{cases_lt, ne_eqb}
use Rattle.std.proofs.lemmas.List.Sums.{prefix_len_passes, suffix_len_is}
use Rattle.std.proofs.lemmas.Simd.{get_or-chunk}
use Rattle.fits_value.specs.Spelling.{is_space}
use Rattle.fits_value.proofs.spaces.trimmed_len.Invariants.{IsTrimmedTo}
use Rattle.fits_value.proofs.spaces.trimmed_len.Goals as goal

-- sixteen spaces more stand at the end
pub lanes-preserved : goal.lanes-preserved
lanes-preserved c =
    let text = c.args.text.now in
    let at = c.lanes.len - 16 in (
      omega arith,
      λ k from to. elim (cases_lt k c.lanes.len) [
        | inl among ↦
            let place : at + (k - at) ≡ k = omega arith in
            let same = get_or-chunk at 16 text (k - at) 0 (omega arith) ∙ ap (λ j. get_or text j 0) place in
            ap is_space (sym same) ∙ prefix_len_passes is_space (chunk at 16 text) (k - at) 0 (omega arith)
        | inr behind ↦ c.lanes.invariant.1 k behind to
      ],
    )

-- behind so many bytes stand spaces alone, and the last of those is none
trimmed : (text : List ℕ) (n : ℕ) → IsTrimmedTo text n → (0 < n → is_space (get_or text (n - 1) 0) ≡ false) → n + suffix_len is_space text ≡ length text
trimmed text n behind last = let e = suffix_len_is is_space text n 0 behind.0 behind.1 last in omega (arith, behind.0)

pub returns-else-text-len-eq32-clause-value : goal.returns-else-text-len-eq32-clause-value
returns-else-text-len-eq32-clause-value c = trimmed c.args.text.now c.bytes.len c.bytes.invariant (λ some. ne_eqb _ _ c.if-text-len-eq32.false)

pub returns-after-bytes-clause-value : goal.returns-after-bytes-clause-value
returns-after-bytes-clause-value c = trimmed c.args.text.now c.bytes.len c.bytes.invariant (λ some. absurd (omega arith))
