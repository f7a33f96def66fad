-- Bytes begin with one HDU, or have one fault.
use Rattle.std.proofs.Common.{◌≡◌, ◌⊎◌, ℕ, ◌≤◌, Bool, false, List, ◌++◌, length, take, drop, refl, ap, sym, ◌∙◌, append_assoc, inl, inr, arith}
use Rattle.std.specs.Prelude.{Result, Ok, Err, IsTrue, nat_eq, codes}
use Rattle.std.specs.List.{starts_with}
use Rattle.std.specs.Str.{bytes_eq}
use Rattle.std.proofs.lemmas.Bool.{cases_lt}
use Rattle.std.proofs.lemmas.List.{length-append, length-take-le, take_at, drop_at, take-append-drop}
use Rattle.fits_card.specs.Header.{Header, IsHeaderOf, header_bytes}
use Rattle.fits_card.proofs.CutLemmas.{one_header, header_or_none}
use Rattle.fits_rules.specs.Shape.{shape_of}
use Rattle.fits_rules.specs.Size.{data_length}
use Rattle.fits_rules.specs.declared.array_shape.Shape.{Shape}
use Rattle.fits_passing.specs.declared.hdu_fault.HduFault.{HduFault}
use Rattle.fits_passing.specs.declared.hdu_fault.HduFault.TheVariants.{NoEnd, BadShape, ShortData, Memory}
use Rattle.fits_passing.specs.Hdu.{HduParts, IsHduOf, BreaksShape, LacksData, HasHduFault}
use Rattle.fits_passing.proofs.HduLemmas.{hdu_begins, header_of_hdu}

-- the same cards have one shape
one_shape : (primary : Bool) (a b : Header) (s t : Shape) → a ≡ b → shape_of primary a.cards ≡ Ok s → shape_of primary b.cards ≡ Ok t → s ≡ t
one_shape primary a b s t e p q =
    let same : Result.Ok s ≡ Ok t = sym p ∙ ap (λ (h : Header). shape_of primary h.cards) e ∙ q in
    cc

-- an HDU is its parts
same_hdu : (a b : Header) (s t : List ℕ) → a ≡ b → s ≡ t → (let u : HduParts = record { header = a; data_unit = s } in u) ≡ (let u : HduParts = record { header = b; data_unit = t } in u)
same_hdu a b s t e p = rw (e, p) refl

-- bytes begin with one HDU at most
pub one_hdu : (primary : Bool) (f : List ℕ) (a b : HduParts) (s t : List ℕ) → IsHduOf primary f a s → IsHduOf primary f b t → (a ≡ b) × (s ≡ t)
one_hdu primary f a b s t p q =
    let headers = one_header f a.header b.header (a.data_unit ++ s) (b.data_unit ++ t) (header_of_hdu primary f a s p) (header_of_hdu primary f b t q) in
    let shapes : p.whole.shape ≡ q.whole.shape = one_shape primary a.header b.header p.whole.shape q.whole.shape headers.0 p.whole.described q.whole.described in
    let size : length a.data_unit ≡ length b.data_unit = p.whole.size ∙ ap data_length shapes ∙ sym q.whole.size in
    let units : a.data_unit ≡ b.data_unit =
    sym (take_at a.data_unit s (length a.data_unit) refl) ∙ ap (take (length a.data_unit)) headers.1 ∙ take_at b.data_unit t (length a.data_unit) (sym size) in (
      same_hdu a.header b.header a.data_unit b.data_unit headers.0 units,
      sym (drop_at a.data_unit s (length a.data_unit) refl) ∙ ap (drop (length a.data_unit)) headers.1 ∙ drop_at b.data_unit t (length a.data_unit) (sym size),
    )

-- two headers at the front, of which one breaks a rule and the other none
not_both : (primary : Bool) (f : List ℕ) (a b : Header) (s t : List ℕ) (place : ℕ) (shape : Shape) → IsHeaderOf f a s → IsHeaderOf f b t → shape_of primary a.cards ≡ Err place → shape_of primary b.cards ≡ Ok shape → ⊥
not_both primary f a b s t place shape p q broken described =
    let same = one_header f a b s t p q in
    let no : Result.Err place ≡ Ok shape = sym broken ∙ ap (λ (h : Header). shape_of primary h.cards) same.0 ∙ described in
    cc

-- where an HDU stands there is no fault
pub no_fault : (primary : Bool) (f : List ℕ) (hdu : HduParts) (rest : List ℕ) (fault : HduFault) → IsHduOf primary f hdu rest → HasHduFault primary f fault → ⊥
no_fault primary f hdu rest NoEnd p none = none hdu.header (hdu.data_unit ++ rest) (header_of_hdu primary f hdu rest p)
no_fault primary f hdu rest (BadShape place) p q =
    not_both primary f q.header hdu.header q.rest (hdu.data_unit ++ rest) place p.whole.shape q.cut (header_of_hdu primary f hdu rest p) q.broken p.whole.described
no_fault primary f hdu rest ShortData p q =
    let headers = one_header f q.header hdu.header q.rest (hdu.data_unit ++ rest) q.cut (header_of_hdu primary f hdu rest p) in
    let shapes : q.shape ≡ p.whole.shape = one_shape primary q.header hdu.header q.shape p.whole.shape headers.0 q.described p.whole.described in
    omega (arith, q.short, ap data_length shapes, p.whole.size, ap length headers.1, length-append hdu.data_unit rest)
no_fault primary f hdu rest Memory p q = q

-- the same header breaks the rules at one place
one_place : (primary : Bool) (f : List ℕ) (m n : ℕ) → BreaksShape primary f m → BreaksShape primary f n → m ≡ n
one_place primary f m n p q =
    let same = one_header f p.header q.header p.rest q.rest p.cut q.cut in
    let places = sym p.broken ∙ ap (λ (h : Header). shape_of primary h.cards) same.0 ∙ q.broken in
    cc

-- a header with a broken rule is not short of data
shape_or_data : (primary : Bool) (f : List ℕ) (place : ℕ) → BreaksShape primary f place → LacksData primary f → ⊥
shape_or_data primary f place p q = not_both primary f p.header q.header p.rest q.rest place q.shape p.cut q.cut p.broken q.described

-- bytes have one fault at most
pub one_fault : (primary : Bool) (f : List ℕ) (d e : HduFault) → HasHduFault primary f d → HasHduFault primary f e → d ≡ e
one_fault primary f NoEnd NoEnd p q = refl
one_fault primary f NoEnd (BadShape place) p q = absurd (p q.header q.rest q.cut)
one_fault primary f NoEnd ShortData p q = absurd (p q.header q.rest q.cut)
one_fault primary f NoEnd Memory p q = absurd q
one_fault primary f (BadShape place) NoEnd p q = absurd (q p.header p.rest p.cut)
one_fault primary f (BadShape place) (BadShape other) p q = ap BadShape (one_place primary f place other p q)
one_fault primary f (BadShape place) ShortData p q = absurd (shape_or_data primary f place p q)
one_fault primary f (BadShape place) Memory p q = absurd q
one_fault primary f ShortData NoEnd p q = absurd (q p.header p.rest p.cut)
one_fault primary f ShortData (BadShape place) p q = absurd (shape_or_data primary f place q p)
one_fault primary f ShortData ShortData p q = refl
one_fault primary f ShortData Memory p q = absurd q
one_fault primary f Memory e p q = absurd p

-- an HDU at the front, and what follows it
abbrev pub BeginsWithHdu : Bool → List ℕ → Type 0
BeginsWithHdu primary f = (hdu : HduParts) × (rest : List ℕ) × IsHduOf primary f hdu rest

-- an HDU begins the bytes, or they have a fault
abbrev HduOrFault : Bool → List ℕ → Type 0
HduOrFault primary f = BeginsWithHdu primary f ⊎ ((fault : HduFault) × HasHduFault primary f fault)

-- a header, and as many bytes after it as its cards describe
pub hdu_there : (primary : Bool) (f : List ℕ) (header : Header) (rest : List ℕ) (shape : Shape) → IsHeaderOf f header rest → shape_of primary header.cards ≡ Ok shape → data_length shape ≤ length rest
    → IsHduOf primary f (record { header = header; data_unit = take (data_length shape) rest }) (drop (data_length shape) rest)
hdu_there primary f header rest shape cut described enough = record {
  whole = record { shape = shape; header = cut.whole; described = described; size = length-take-le (data_length shape) rest enough };
  joined = cut.joined ∙ ap (λ t. header_bytes header ++ t) (sym (take-append-drop (data_length shape) rest)) ∙ sym (append_assoc (header_bytes header) (take (data_length shape) rest) (drop (data_length shape) rest));
}

-- by what its cards describe
by_shape : (primary : Bool) (f : List ℕ) (header : Header) (rest : List ℕ) (described : Result Shape ℕ) → IsHeaderOf f header rest → shape_of primary header.cards ≡ described → HduOrFault primary f
by_shape primary f header rest (Err place) cut e = inr (BadShape place, record { header = header; rest = rest; cut = cut; broken = e })
by_shape primary f header rest (Ok shape) cut e =
    elim (cases_lt (length rest) (data_length shape)) [
      | inl short ↦ inr (ShortData, record { header = header; rest = rest; shape = shape; cut = cut; described = e; short = short })
      | inr enough ↦ inl (record { header = header; data_unit = take (data_length shape) rest }, drop (data_length shape) rest, hdu_there primary f header rest shape cut e enough)
    ]

-- by the header that begins them, or none
pub hdu_or_fault : (primary : Bool) (f : List ℕ) → HduOrFault primary f
hdu_or_fault primary f =
    elim (header_or_none f) [
      | inl cut ↦ by_shape primary f cut.0 cut.1 (shape_of primary cut.0.cards) cut.2 refl
      | inr none ↦ inr (NoEnd, none)
    ]

-- an extension begins with XTENSION
pub extension_begins : (f : List ℕ) (hdu : HduParts) (rest : List ℕ) → IsHduOf false f hdu rest → IsTrue (starts_with nat_eq f (codes "XTENSION"))
extension_begins f hdu rest p = ap (bytes_eq (codes "XTENSION")) (hdu_begins false f hdu rest p)
