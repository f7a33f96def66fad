-- Where HDUs stand.
use Rattle.std.proofs.Common.{◌≡◌, ℕ, ◌+◌, ◌<◌, ◌≤◌, List, [], ◌∷◌, ◌++◌, length, take, get_or, ap, sym, ◌∙◌, arith, add-zero, zero-add}
use Rattle.std.proofs.lemmas.List.{length-append, take_more, take_all}
use Rattle.std.proofs.lemmas.List.Concat.{flat_map-append}
use Rattle.std.proofs.lemmas.List.Folds.{length-flat_map-take}
use Rattle.fits_card.specs.Header.{header_bytes}
use Rattle.fits_passing.specs.Hdu.{HduParts, hdu_bytes}
use Rattle.fits_hdu.specs.State.{HduState, parts_of}
use Rattle.fits_passing.specs.File.{joined_hdus, offsets_from}
use Rattle.fits_session.specs.Session.{hdus_of}
use Rattle.fits_session.proofs.StateLemmas.{get_or-hdus_of, length-hdus_of}
use Rattle.fits_passing.specs.declared.offsets.HduOffsets.{HduOffsets}

-- the offsets of one HDU that begins here
abbrev offsets_at : ℕ → HduParts → HduOffsets
offsets_at start hdu = record { header_start = start; data_start = start + length (header_bytes hdu.header); hdu_end = start + length (header_bytes hdu.header) + length hdu.data_unit }

-- one HDU more
offsets-push : (start : ℕ) (us : List HduParts) (u : HduParts) → offsets_from start (us ++ u ∷ []) ≡ offsets_from start us ++ offsets_at (start + length (joined_hdus us)) u ∷ []
offsets-push start [] u = ap (λ n. offsets_at n u ∷ []) (sym (add-zero start))
offsets-push start (v ∷ vs) u =
    let next : ℕ = start + length (header_bytes v.header) + length v.data_unit in
    let same : next + length (joined_hdus vs) ≡ start + length (joined_hdus (v ∷ vs)) = omega (arith, length-append (hdu_bytes v) (joined_hdus vs), length-append (header_bytes v.header) v.data_unit) in
    ap (λ xs. offsets_at start v ∷ xs) (offsets-push next vs u ∙ ap (λ n. offsets_from next vs ++ offsets_at n u ∷ []) same)

-- the HDUs through number i + 1
pub hdus_more : (hdus : List HduState) (i : ℕ) (hdu : HduState) → i < length hdus → hdu ≡ get_or hdus i hdu → take (i + 1) (hdus_of hdus) ≡ take i (hdus_of hdus) ++ (parts_of hdu) ∷ []
hdus_more hdus i hdu l e =
    let within : i < length (hdus_of hdus) = omega (arith, length-hdus_of hdus) in
    take_more (hdus_of hdus) i (parts_of hdu) within ∙ ap (λ u. take i (hdus_of hdus) ++ u ∷ []) (get_or-hdus_of hdus i hdu l e)

-- their offsets
pub offsets_more : (hdus : List HduState) (i start data_start over : ℕ) (hdu : HduState) (offsets : List HduOffsets) → i < length hdus → hdu ≡ get_or hdus i hdu
    → offsets ≡ offsets_from 0 (take i (hdus_of hdus)) → start ≡ length (joined_hdus (take i (hdus_of hdus))) → data_start ≡ start + length (header_bytes hdu.header.header) → over ≡ data_start + length hdu.plane.bytes
    → offsets ++ (let here : HduOffsets = record { header_start = start; data_start = data_start; hdu_end = over } in here) ∷ [] ≡ offsets_from 0 (take (i + 1) (hdus_of hdus))
offsets_more hdus i start data_start over hdu offsets l e p q r s =
    rw (p, s, r, q) (sym (ap (offsets_from 0) (hdus_more hdus i hdu l e) ∙ offsets-push 0 (take i (hdus_of hdus)) (parts_of hdu) ∙ ap (λ n. offsets_from 0 (take i (hdus_of hdus)) ++ offsets_at n (parts_of hdu) ∷ []) (zero-add (length (joined_hdus (take i (hdus_of hdus)))))))

-- and where the next one begins
pub start_more : (hdus : List HduState) (i start data_start over : ℕ) (hdu : HduState) → i < length hdus → hdu ≡ get_or hdus i hdu
    → start ≡ length (joined_hdus (take i (hdus_of hdus))) → data_start ≡ start + length (header_bytes hdu.header.header) → over ≡ data_start + length hdu.plane.bytes
    → over ≡ length (joined_hdus (take (i + 1) (hdus_of hdus)))
start_more hdus i start data_start over hdu l e q r s =
    omega (
      arith,
      q,
      r,
      s,
      ap (λ us. length (joined_hdus us)) (hdus_more hdus i hdu l e),
      ap length (flat_map-append hdu_bytes (take i (hdus_of hdus)) ((parts_of hdu) ∷ [])),
      length-append (joined_hdus (take i (hdus_of hdus))) (joined_hdus ((parts_of hdu) ∷ [])),
      length-append (hdu_bytes (parts_of hdu)) [],
      length-append (header_bytes hdu.header.header) hdu.plane.bytes,
    )

-- it ends within its file
pub ends_within : (hdus : List HduState) (i start : ℕ) (hdu : HduState) → i < length hdus → hdu ≡ get_or hdus i hdu → start ≡ length (joined_hdus (take i (hdus_of hdus)))
    → start + length (header_bytes hdu.header.header) + length hdu.plane.bytes ≤ length (joined_hdus (hdus_of hdus))
ends_within hdus i start hdu l e q =
    let here : get_or (hdus_of hdus) i (parts_of hdu) ≡ (parts_of hdu) = get_or-hdus_of hdus i hdu l e in
    let within : i < length (hdus_of hdus) = omega (arith, length-hdus_of hdus) in
    omega (arith, q, length-flat_map-take hdu_bytes (hdus_of hdus) i (parts_of hdu) within, ap (λ u. length (hdu_bytes u)) here, length-append (header_bytes hdu.header.header) hdu.plane.bytes)

-- the offsets of all
pub offsets_all : (hdus : List HduState) (i : ℕ) (offsets : List HduOffsets) → length hdus ≤ i → offsets ≡ offsets_from 0 (take i (hdus_of hdus)) → offsets ≡ offsets_from 0 (hdus_of hdus)
offsets_all hdus i offsets l p = p ∙ ap (offsets_from 0) (take_all i (hdus_of hdus) (omega (arith, length-hdus_of hdus)))

pub ruleset offset_steps = (ends_within, offsets_all)
