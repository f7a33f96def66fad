-- The report, by what is found of each HDU.
use Rattle.std.proofs.Common.{◌≡◌, ℕ, ◌<◌, List, length, get_or, set, ap, sym, subst, arith, ◌∙◌}
use Rattle.std.specs.Prelude.{All}
use Rattle.std.proofs.lemmas.List.{set-get_or}
use Rattle.fits_hdu.specs.State.{HduState, IsSeen}

-- HDUs stay where the one written stays
pub hdus_stay : (hdus old : List HduState) (i : ℕ) (hdu new : HduState) → hdus ≡ old → i < length hdus → hdu ≡ get_or hdus i hdu → new ≡ hdu → set hdus i new ≡ old
hdus_stay hdus old i hdu new same l e stays = ap (set hdus i) (stays ∙ e) ∙ set-get_or hdus i hdu ∙ same

-- and one of them is seen where all are
pub seen_here : (hdus old : List HduState) (i : ℕ) (hdu : HduState) → hdus ≡ old → All IsSeen old → i < length hdus → hdu ≡ get_or hdus i hdu → IsSeen hdu
seen_here hdus old i hdu same seen l e = subst (λ (one : HduState). IsSeen one) (sym (e ∙ ap (λ (us : List HduState). get_or us i hdu) same)) (seen i hdu (omega (arith, l, ap length same)))
