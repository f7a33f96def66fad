-- Numbers, put together in a line.
use Rattle.std.proofs.Common.{◌≡◌, ℕ, ◌+◌, ◌<◌, List, [], ◌∷◌, ◌++◌, length, take, get_or, ap, sym, ◌∙◌, append_assoc}
use Rattle.std.specs.Prelude.{ℤ, codes}
use Rattle.std.specs.Fmt.{signed_decimal}
use Rattle.std.proofs.lemmas.List.{append-nil, take_more}
use Rattle.std.proofs.lemmas.List.Concat.{flat_map-append}
use Rattle.fits_tell.specs.PixelLines.{numbers_spaced}

-- numbers, and one more
numbers_spaced-more : (numbers : List ℤ) (i : ℕ) (d : ℤ) → i < length numbers → numbers_spaced (take (i + 1) numbers) ≡ numbers_spaced (take i numbers) ++ (codes " " ++ signed_decimal (get_or numbers i d))
numbers_spaced-more numbers i d l =
    let number : List ℕ = codes " " ++ signed_decimal (get_or numbers i d) in
    ap numbers_spaced (take_more numbers i d l) ∙ flat_map-append (λ number. codes " " ++ signed_decimal number) (take i numbers) (get_or numbers i d ∷ [])
    ∙ ap (λ t. numbers_spaced (take i numbers) ++ t) (append-nil number)

-- one more number is added
pub numbers_step : (start line new : List ℕ) (numbers : List ℤ) (i : ℕ) (d : ℤ) → i < length numbers → line ≡ start ++ numbers_spaced (take i numbers)
    → new ≡ line ++ (codes " " ++ signed_decimal (get_or numbers i d)) → new ≡ start ++ numbers_spaced (take (i + 1) numbers)
numbers_step start line new numbers i d l before added =
    let number : List ℕ = codes " " ++ signed_decimal (get_or numbers i d) in
    added ∙ ap (λ t. t ++ number) before ∙ append_assoc start (numbers_spaced (take i numbers)) number ∙ ap (λ t. start ++ t) (sym (numbers_spaced-more numbers i d l))
