-- How the HDUs of two readings of one file go along.
use Rattle.std.proofs.Common.{◌≡◌, ℕ, ◌<◌, true, false, List, [], ◌∷◌, ◌++◌, length, refl, sym, ◌∙◌, arith, All, suc}
use Rattle.fits_passing.specs.Hdu.{HduParts, IsHdu, IsHduOf}
use Rattle.fits_laws.proofs.HduLemmas.{one_hdu, extension_begins, BeginsWithHdu}
use Rattle.fits_passing.specs.File.{FileParts, joined_hdus, begins_extension, is_first, goes_on, IsFrontOf, IsFileOf}
use Rattle.fits_passing.specs.Opening.{BeginsAsFits}
use Rattle.fits_passing.proofs.FrontLemmas.{first_hdu, front_begins, joined-first, some_hdus}

-- after one more HDU the next one is an extension
pub goes_on-push : (us : List HduParts) (u : HduParts) (rest : List ℕ) → goes_on (us ++ u ∷ []) rest ≡ begins_extension rest
goes_on-push [] u rest = refl
goes_on-push (v ∷ vs) u rest = refl

-- lists are one where their heads and tails are
cons_eq : (u v : HduParts) (us vs : List HduParts) → u ≡ v → us ≡ vs → u ∷ us ≡ v ∷ vs
cons_eq u v us vs p q = rw (p, q) refl

-- the first of extensions, and the first HDU, at their front
first_extension : (f : List ℕ) (u : HduParts) (us : List HduParts) (s : List ℕ) → All (IsHdu false) (u ∷ us) → f ≡ joined_hdus (u ∷ us) ++ s → IsHduOf false f u (joined_hdus us ++ s)
first_extension f u us s p e = record { whole = p 0 u (omega arith); joined = e ∙ joined-first u us s }

-- as many extensions that begin the same bytes are the same ones
extensions_level : (us vs : List HduParts) (s t : List ℕ) → All (IsHdu false) us → All (IsHdu false) vs → joined_hdus us ++ s ≡ joined_hdus vs ++ t → length us ≡ length vs → (us ≡ vs) × (s ≡ t)
extensions_level [] [] s t p q e l = (refl, e)
extensions_level [] (v ∷ vs) s t p q e l = absurd (omega arith)
extensions_level (u ∷ us) [] s t p q e l = absurd (omega arith)
extensions_level (u ∷ us) (v ∷ vs) s t p q e l =
    let one = one_hdu false (joined_hdus (u ∷ us) ++ s) u v (joined_hdus us ++ s) (joined_hdus vs ++ t) (first_extension (joined_hdus (u ∷ us) ++ s) u us s p refl) (first_extension (joined_hdus (u ∷ us) ++ s) v vs t q e) in
    let more = extensions_level us vs s t (λ k d h. p (suc k) d (omega arith)) (λ k d h. q (suc k) d (omega arith)) one.1 (omega arith) in
    (cons_eq u v us vs one.0 more.0, more.1)

-- after fewer of them another one follows
extensions_ahead : (us vs : List HduParts) (s t : List ℕ) → All (IsHdu false) us → All (IsHdu false) vs → joined_hdus us ++ s ≡ joined_hdus vs ++ t → length us < length vs → BeginsWithHdu false s
extensions_ahead [] [] s t p q e l = absurd (omega arith)
extensions_ahead [] (v ∷ vs) s t p q e l = (v, joined_hdus vs ++ t, first_extension s v vs t q e)
extensions_ahead (u ∷ us) [] s t p q e l = absurd (omega arith)
extensions_ahead (u ∷ us) (v ∷ vs) s t p q e l =
    let one = one_hdu false (joined_hdus (u ∷ us) ++ s) u v (joined_hdus us ++ s) (joined_hdus vs ++ t) (first_extension (joined_hdus (u ∷ us) ++ s) u us s p refl) (first_extension (joined_hdus (u ∷ us) ++ s) v vs t q e) in
    extensions_ahead us vs s t (λ k d h. p (suc k) d (omega arith)) (λ k d h. q (suc k) d (omega arith)) one.1 (omega arith)

-- two fronts of as many HDUs are the same one
pub fronts_level : (f : List ℕ) (a b : List HduParts) (s t : List ℕ) → IsFrontOf f a s → IsFrontOf f b t → length a ≡ length b → (a ≡ b) × (s ≡ t)
fronts_level f [] [] s t p q l = (refl, sym p.joined ∙ q.joined)
fronts_level f [] (v ∷ vs) s t p q l = absurd (omega arith)
fronts_level f (u ∷ us) [] s t p q l = absurd (omega arith)
fronts_level f (u ∷ us) (v ∷ vs) s t p q l =
    let one = one_hdu true f u v (joined_hdus us ++ s) (joined_hdus vs ++ t) (first_hdu f u us s p) (first_hdu f v vs t q) in
    let more = extensions_level us vs s t p.others q.others one.1 (omega arith) in
    (cons_eq u v us vs one.0 more.0, more.1)

-- after the shorter one another HDU follows
pub fronts_ahead : (f : List ℕ) (a b : List HduParts) (s t : List ℕ) → IsFrontOf f a s → IsFrontOf f b t → length a < length b → BeginsWithHdu (is_first a) s
fronts_ahead f [] [] s t p q l = absurd (omega arith)
fronts_ahead f [] (v ∷ vs) s t p q l =
    let first = first_hdu f v vs t q in
    (v, joined_hdus vs ++ t, record { whole = first.whole; joined = sym p.joined ∙ first.joined })
fronts_ahead f (u ∷ us) [] s t p q l = absurd (omega arith)
fronts_ahead f (u ∷ us) (v ∷ vs) s t p q l =
    let one = one_hdu true f u v (joined_hdus us ++ s) (joined_hdus vs ++ t) (first_hdu f u us s p) (first_hdu f v vs t q) in
    extensions_ahead us vs s t p.others q.others one.1 (omega arith)

-- where the HDUs of a file end no other stands
pub none_beyond : (a : List HduParts) (s : List ℕ) → goes_on a s ≡ false → BeginsWithHdu (is_first a) s → ⊥
unfolding begins_extension
none_beyond [] s e p = cc
none_beyond (u ∷ us) s e p = let begins = extension_begins s p.0 p.1 p.2 in cc

-- so it begins as a file does
pub file_begins : (f : List ℕ) (file : FileParts) → IsFileOf f file → BeginsAsFits f
file_begins f file p = front_begins f file.hdus file.tail p.front (some_hdus file.hdus file.tail p.ends)
