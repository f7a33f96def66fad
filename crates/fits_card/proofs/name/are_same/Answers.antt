use Rattle.std.proofs.Common.{◌≡◌, ◌<◌, ℕ, List, length, get_or, eqb, eqb-true, eq-eqb, sym, ap, ◌∙◌, w64}
use Rattle.std.specs.Bool.{one_answer}
use Rattle.std.specs.Int.{from_be_bytes, to_be_bytes}
use Rattle.std.specs.Str.{bytes_eq}
use Rattle.std.proofs.lemmas.Nat.{be_bytes_8}
use Rattle.std.proofs.lemmas.Slice.Eq.{bytes_eq-Decides}
use Rattle.fits_card.proofs.name.are_same.Goals as goal

-- numbers that eight bytes each write are equal exactly where the bytes are the same
same_numbers : (xs ys : List ℕ) (m n : ℕ) → length xs ≡ 8 → length ys ≡ 8 → ((i : ℕ) → get_or xs i 0 < 256) → ((i : ℕ) → get_or ys i 0 < 256) → m ≡ from_be_bytes w64 xs → n ≡ from_be_bytes w64 ys → eqb m n ≡ bytes_eq xs ys
same_numbers xs ys m n long far low high is_m is_n =
    one_answer (eqb m n) (bytes_eq xs ys) (
      λ t. sym (be_bytes_8 xs m long low is_m) ∙ ap (to_be_bytes w64) (eqb-true m n t) ∙ be_bytes_8 ys n far high is_n,
      λ e. eq-eqb m n (is_m ∙ ap (from_be_bytes w64) e ∙ sym is_n),
    )
    (bytes_eq-Decides xs ys)

pub returns : goal.returns
returns c = same_numbers c.args.name.now c.args.other.now c.from_be_bytes.result c.from_be_bytes-2.result c.told-name c.told-other c.fits-name c.fits-other c.from_be_bytes.ensures c.from_be_bytes-2.ensures
