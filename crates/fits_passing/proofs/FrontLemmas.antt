-- The HDUs that begin bytes.
use Rattle.std.proofs.Common.{◌≡◌, ℕ, ◌<◌, ◌≤◌, Bool, true, false, List, [], ◌∷◌, ◌++◌, length, refl, ap, sym, ◌∙◌, append_assoc, arith}
use Rattle.std.proofs.lemmas.List.{append-nil, length-append}
use Rattle.std.proofs.lemmas.List.Elements.{All-push}
use Rattle.std.proofs.lemmas.List.Concat.{flat_map-append}
use Rattle.fits_card.specs.Header.{header_bytes, joined_cards}
use Rattle.fits_passing.specs.Hdu.{HduParts, hdu_bytes, IsHdu, IsHduOf}
use Rattle.fits_passing.proofs.HduLemmas.{primary_begins}
use Rattle.fits_passing.specs.File.{joined_hdus, begins_extension, is_first, goes_on, IsFrontOf}
use Rattle.fits_passing.specs.Opening.{BeginsAsFits}

-- an HDU has bytes
pub hdu_long : (primary : Bool) (hdu : HduParts) → IsHdu primary hdu → 80 ≤ length (hdu_bytes hdu)
hdu_long primary hdu p =
    omega (arith, length-append (header_bytes hdu.header) hdu.data_unit, length-append (joined_cards hdu.header.cards) (hdu.header.end ++ hdu.header.fill), length-append hdu.header.end hdu.header.fill, p.header.end_size)

-- the bytes of an HDU, and then those of others
pub joined-first : (u : HduParts) (us : List HduParts) (s : List ℕ) → joined_hdus (u ∷ us) ++ s ≡ hdu_bytes u ++ (joined_hdus us ++ s)
joined-first u us s = append_assoc (hdu_bytes u) (joined_hdus us) s

-- one HDU more before a rest
joined-push : (us : List HduParts) (u : HduParts) (s : List ℕ) → joined_hdus (us ++ u ∷ []) ++ s ≡ joined_hdus us ++ (hdu_bytes u ++ s)
joined-push us u s =
    ap (λ t. t ++ s) (flat_map-append hdu_bytes us (u ∷ []) ∙ ap (λ t. joined_hdus us ++ t) (append-nil (hdu_bytes u)))
    ∙ append_assoc (joined_hdus us) (hdu_bytes u) s

-- no HDU yet
pub front_none : (f : List ℕ) → IsFrontOf f [] f
front_none f = record { joined = refl; first = λ k d l. absurd (omega arith); others = λ k d l. absurd (omega arith) }

-- one more
pub front_push : (f : List ℕ) (us : List HduParts) (u : HduParts) (rest after : List ℕ) → IsFrontOf f us rest → IsHduOf (is_first us) rest u after → IsFrontOf f (us ++ u ∷ []) after
front_push f [] u rest after p q = record {
  joined = p.joined ∙ q.joined ∙ sym (joined-push [] u after);
  first = All-push (IsHdu true) [] u (λ k d l. absurd (omega arith)) q.whole;
  others = λ k d l. absurd (omega arith);
}
front_push f (v ∷ vs) u rest after p q = record {
  joined = p.joined ∙ ap (λ t. joined_hdus (v ∷ vs) ++ t) q.joined ∙ sym (joined-push (v ∷ vs) u after);
  first = p.first;
  others = All-push (IsHdu false) vs u p.others q.whole;
}

-- after any HDU the next one is an extension
pub goes_on-some : (us : List HduParts) (rest : List ℕ) → 0 < length us → goes_on us rest ≡ begins_extension rest
goes_on-some [] rest l = absurd (omega arith)
goes_on-some (u ∷ us) rest l = refl

-- the first HDU, and what follows it
pub first_hdu : (f : List ℕ) (u : HduParts) (us : List HduParts) (s : List ℕ) → IsFrontOf f (u ∷ us) s → IsHduOf true f u (joined_hdus us ++ s)
first_hdu f u us s p = record { whole = p.first 0 u (omega arith); joined = p.joined ∙ joined-first u us s }

-- bytes with an HDU at their front begin as a file does
pub front_begins : (f : List ℕ) (us : List HduParts) (rest : List ℕ) → IsFrontOf f us rest → 0 < length us → BeginsAsFits f
front_begins f [] rest p l = absurd (omega arith)
front_begins f (u ∷ us) rest p l = primary_begins f u (joined_hdus us ++ rest) (first_hdu f u us rest p)

-- a file has an HDU
pub some_hdus : (us : List HduParts) (rest : List ℕ) → goes_on us rest ≡ false → 0 < length us
some_hdus [] rest e = cc
some_hdus (u ∷ us) rest e = omega arith
