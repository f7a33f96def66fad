-- Edits of a file of which some data units stand for others that are as long: those that look at none of them.
use Rattle.std.proofs.Common.{◌≡◌, ℕ, ◌+◌, ◌-◌, Bool, true, false, List, [], ◌∷◌, ◌++◌, length, map, get_or, refl, ap, sym, ◌∙◌, subst, arith, Option, None, Some, zero, suc, inl, inr}
use Rattle.std.specs.Prelude.{◌⊎◌, Result, Ok, Err, if◌then◌else◌}
use Rattle.std.proofs.lemmas.List.Elements.{All-head, All-tail}
use Rattle.std.specs.List.{slice_get}
use Rattle.std.proofs.lemmas.List.{length-append}
use Rattle.fits_card.specs.Change.{cards_after}
use Rattle.fits_card.specs.Header.{Header, header_bytes}
use Rattle.fits_card.specs.declared.change.Change.{Change}
use Rattle.fits_rules.specs.Shape.{shape_of}
use Rattle.fits_rules.specs.declared.array_shape.Shape.{Shape}
use Rattle.fits_image.specs.Kind.{array_kind, kind_in}
use Rattle.fits_plane.specs.declared.lent_paint.LentPaint.{LentPaint}
use Rattle.fits_passing.specs.Hdu.{HduParts, hdu_after, hdu_bytes, keeps_shape}
use Rattle.fits_passing.specs.File.{is_primary_hdu, file_bytes, joined_hdus}
use Rattle.fits_hdu.specs.Pixels.{painted, painted_by}
use Rattle.fits_hdu.specs.Reshape.{reshaped}
use Rattle.fits_image.specs.declared.kind.Kind.{Kind}
use Rattle.fits_making.specs.CardEdit.{change_of}
use Rattle.fits_making.specs.HduEdit.{hdu_changed, hdu_made, hdu_reshaped, pixels_made, shaped}
use Rattle.fits_edit.specs.Paint.{plane_paint}
use Rattle.fits_edit.specs.declared.hdu_edit.HduEdit.{HduEdit}
use Rattle.fits_edit.specs.declared.hdu_edit.HduEdit.TheVariants.{Cards, Keep, Pixels, Release, Reshape, Stamp}
use Rattle.fits_making.specs.declared.refusal.Refusal.{Refusal}
use Rattle.fits_making.specs.declared.refusal.Refusal.TheVariants as refusal
use Rattle.fits_unit.specs.DataUnit.{unit_at}
use Rattle.fits_unit.proofs.AgainLemmas.{unit_long}
use Rattle.fits_hdu.specs.State.{HduState, hdu_at, parts_of}
use Rattle.fits_making.specs.Making.{IsHad}
use Rattle.fits_session.specs.Away.{in_file, AllLie}
use Rattle.fits_session.specs.Session.{hdus_of}
use Rattle.fits_making.specs.Keeping.{padded, padded_if}
use Rattle.fits_making.specs.Refusal.{limit_refusal}
use Rattle.fits_session.proofs.ChangeLemmas.{length-changed}
use Rattle.fits_session.specs.Refusal.{made_refusal, refusal_in, size_refusal}
use Rattle.fits_session.specs.Edit.{changed_at, hdu_of, with_hdu}

-- an HDU with other data, if there are others
abbrev pub filled : Option (List ℕ) → HduParts → HduParts
filled None hdu = hdu
filled (Some unit) hdu = record hdu { data_unit = unit }

-- the same of each
abbrev pub all_filled : List (Option (List ℕ)) → List HduParts → List HduParts
all_filled [] hdus = hdus
all_filled (fill ∷ fills) [] = []
all_filled (fill ∷ fills) (hdu ∷ hdus) = filled fill hdu ∷ all_filled fills hdus

-- they are as long
abbrev pub AreAsLong : List (Option (List ℕ)) → List HduParts → Type 0
AreAsLong [] hdus = Unit {0}
AreAsLong (fill ∷ fills) [] = Unit {0}
AreAsLong (fill ∷ fills) (hdu ∷ hdus) = (length (filled fill hdu).data_unit ≡ length hdu.data_unit) × AreAsLong fills hdus

-- what is made of an HDU, with other data
abbrev pub made_filled : Option (List ℕ) → Result HduParts Refusal → Result HduParts Refusal
made_filled fill (Ok made) = Ok (filled fill made)
made_filled fill (Err why) = Err why

-- it is no image of integers
abbrev pub HasNoKind : (Shape → List (List ℕ) → Option Kind) → Result Shape ℕ → List (List ℕ) → Type 0
HasNoKind kind (Ok shape) cards = kind shape cards ≡ None
HasNoKind kind (Err place) cards = Unit {0}

-- an edit of an HDU looks at none of its data
abbrev pub LooksAtNone : Bool → HduEdit → HduParts → Type 0
LooksAtNone primary (Cards edit) hdu = Unit {0}
LooksAtNone primary (Pixels lo hi paint) hdu = HasNoKind kind_in (shape_of primary hdu.header.cards) hdu.header.cards
LooksAtNone primary (Reshape kind axes) hdu = HasNoKind array_kind (shape_of primary hdu.header.cards) hdu.header.cards
LooksAtNone primary Stamp hdu = ⊥
LooksAtNone primary Keep hdu = ⊥
LooksAtNone primary Release hdu = Unit {0}

-- ---- one HDU

-- a choice between what is made and a refusal
chosen_filled : (unit : List ℕ) (b : Bool) (made : HduParts) (why : Refusal) → (if b then Ok (filled (Some unit) made) else Err why) ≡ made_filled (Some unit) (if b then Ok made else Err why)
chosen_filled unit true made why = refl
chosen_filled unit false made why = refl

-- a change of cards
changed_filled : (primary : Bool) (hdu : HduParts) (unit : List ℕ) (change : Result Change Refusal) → hdu_changed primary (filled (Some unit) hdu) change ≡ made_filled (Some unit) (hdu_changed primary hdu change)
changed_filled primary hdu unit (Err why) = refl
changed_filled primary hdu unit (Ok change) = chosen_filled unit (keeps_shape primary hdu.header.cards (cards_after hdu.header.cards change)) (hdu_after change hdu) refusal.Shape

-- no image is painted
painted_none : (kind : Option Kind) (shape : Shape) (lo hi : List ℕ) (paint : LentPaint) (hdu : HduParts) (unit : List ℕ) → kind ≡ None → pixels_made (painted_by kind shape lo hi paint (filled (Some unit) hdu)) ≡ made_filled (Some unit) (pixels_made (painted_by kind shape lo hi paint hdu))
painted_none None shape lo hi paint hdu unit none = refl
painted_none (Some kind) shape lo hi paint hdu unit none = cc

painted_filled : (found : Result Shape ℕ) (lo hi : List ℕ) (paint : LentPaint) (hdu : HduParts) (unit : List ℕ) → HasNoKind kind_in found hdu.header.cards
    → shaped found (λ shape. painted shape lo hi paint (filled (Some unit) hdu)) ≡ made_filled (Some unit) (shaped found (λ shape. painted shape lo hi paint hdu))
unfolding painted
painted_filled (Ok shape) lo hi paint hdu unit none = painted_none (kind_in shape hdu.header.cards) shape lo hi paint hdu unit none
painted_filled (Err place) lo hi paint hdu unit none = refl

-- no array is made another
unlooked_array : (found : Result Shape ℕ) (kind : Kind) (axes : List ℕ) (hdu : HduParts) (unit : List ℕ) → HasNoKind array_kind found hdu.header.cards
    → hdu_reshaped found kind axes (filled (Some unit) hdu) ≡ made_filled (Some unit) (hdu_reshaped found kind axes hdu)
unfolding reshaped
unlooked_array (Ok shape) kind axes hdu unit none = rw none refl
unlooked_array (Err place) kind axes hdu unit none = refl

-- ---- the list

-- how many bytes they have
pub joined_filled : (fills : List (Option (List ℕ))) (hdus : List HduParts) → AreAsLong fills hdus → length (joined_hdus (all_filled fills hdus)) ≡ length (joined_hdus hdus)
joined_filled [] hdus p = refl
joined_filled (fill ∷ fills) [] p = refl
joined_filled (None ∷ fills) (hdu ∷ hdus) p =
    omega (arith, length-append (hdu_bytes hdu) (joined_hdus (all_filled fills hdus)), length-append (hdu_bytes hdu) (joined_hdus hdus), joined_filled fills hdus p.1)
joined_filled (Some unit ∷ fills) (hdu ∷ hdus) p =
    omega (arith, length-append (header_bytes hdu.header ++ unit) (joined_hdus (all_filled fills hdus)), length-append (hdu_bytes hdu) (joined_hdus hdus), length-append (header_bytes hdu.header) unit, length-append (header_bytes hdu.header) hdu.data_unit, p.0, joined_filled fills hdus p.1)

-- how many they are
pub length_filled : (fills : List (Option (List ℕ))) (hdus : List HduParts) → length (all_filled fills hdus) ≡ length hdus
length_filled [] hdus = refl
length_filled (fill ∷ fills) [] = refl
length_filled (fill ∷ fills) (hdu ∷ hdus) = omega (arith, length_filled fills hdus)

-- one of them
pub filled_there : (fills : List (Option (List ℕ))) (hdus : List HduParts) (i : ℕ) (hdu : HduParts) → slice_get hdus i ≡ Some hdu → slice_get (all_filled fills hdus) i ≡ Some (filled (get_or fills i None) hdu)
filled_there [] hdus i hdu there = there
filled_there (fill ∷ fills) [] i hdu there = cc
filled_there (fill ∷ fills) (one ∷ hdus) zero hdu there = let same : one ≡ hdu = cc in ap (λ (u : HduParts). Some (filled fill u)) same
filled_there (fill ∷ fills) (one ∷ hdus) (suc i) hdu there = filled_there fills hdus i hdu there

-- or none is there
pub filled_nowhere : (fills : List (Option (List ℕ))) (hdus : List HduParts) (i : ℕ) → slice_get hdus i ≡ None → slice_get (all_filled fills hdus) i ≡ None
filled_nowhere [] hdus i none = none
filled_nowhere (fill ∷ fills) [] i none = none
filled_nowhere (fill ∷ fills) (one ∷ hdus) zero none = cc
filled_nowhere (fill ∷ fills) (one ∷ hdus) (suc i) none = filled_nowhere fills hdus i none

-- ---- an edit

-- what an edit makes of an HDU, where it looks at none of its data
pub unlooked : (primary : Bool) (edit : HduEdit) (hdu : HduParts) (unit : List ℕ) → LooksAtNone primary edit hdu → hdu_made primary edit (filled (Some unit) hdu) ≡ made_filled (Some unit) (hdu_made primary edit hdu)
unfolding hdu_made reshaped
unlooked primary (Cards edit) hdu unit p = changed_filled primary hdu unit (change_of hdu.header.cards edit)
unlooked primary (Pixels lo hi paint) hdu unit p = painted_filled (shape_of primary hdu.header.cards) lo hi (plane_paint paint) hdu unit p
unlooked primary (Reshape kind axes) hdu unit p = unlooked_array (shape_of primary hdu.header.cards) kind axes hdu unit p
unlooked primary Stamp hdu unit p = absurd p
unlooked primary Keep hdu unit p = absurd p
unlooked primary Release hdu unit p = refl

-- ---- a session over a file

-- the bytes of a data unit in a file stand in place of those that are in memory, or known
abbrev pub fill_of : List ℕ → HduState → Option (List ℕ)
fill_of told one = Some (unit_at told one.plane.bytes one.absent)

abbrev pub fills_of : List ℕ → List HduState → List (Option (List ℕ))
fills_of told hdus = map (fill_of told) hdus

-- so HDUs are filled in a file
pub filled_at : (told : List ℕ) (hdus : List HduState) → hdus_of (map (hdu_at told) hdus) ≡ all_filled (fills_of told hdus) (hdus_of hdus)
filled_at told [] = refl
filled_at told (hdu ∷ hdus) = ap (λ (us : List HduParts). filled (fill_of told hdu) (parts_of hdu) ∷ us) (filled_at told hdus)

-- they are as long where they lie there
pub long_at : (told : List ℕ) (hdus : List HduState) → AllLie told hdus → AreAsLong (fills_of told hdus) (hdus_of hdus)
long_at told [] lie = tt
long_at told (hdu ∷ hdus) lie =
    (unit_long told hdu.plane.bytes hdu.absent (All-head (IsHad (in_file told)) hdu hdus lie).lies, long_at told hdus (All-tail (IsHad (in_file told)) hdu hdus lie))

-- ---- the tests and the file after an edit of one HDU

-- how long a file is of which some data units stand for others
pub long_filled : (fills : List (Option (List ℕ))) (hdus : List HduParts) (tail : List ℕ) → AreAsLong fills hdus → length (file_bytes (record { hdus = all_filled fills hdus; tail = tail })) ≡ length (file_bytes (record { hdus = hdus; tail = tail }))
long_filled fills hdus tail long = omega (arith, length-append (joined_hdus (all_filled fills hdus)) tail, length-append (joined_hdus hdus) tail, joined_filled fills hdus long)

-- ---- when an edit is refused

-- what two edits made has the same cards and is as long, or the same test refuses both
abbrev pub AreAlike : Result HduParts Refusal → Result HduParts Refusal → Type 0
AreAlike (Ok made) (Ok other) = (other.header ≡ made.header) × (length other.data_unit ≡ length made.data_unit)
AreAlike (Ok made) (Err how) = ⊥
AreAlike (Err why) (Ok other) = ⊥
AreAlike (Err why) (Err how) = how ≡ why

-- so what one made is like itself
alike_same : (made : Result HduParts Refusal) → AreAlike made made
alike_same (Ok made) = (refl, refl)
alike_same (Err why) = refl

-- and like itself with other data that are as long
alike_chosen : (b : Bool) (made : HduParts) (why : Refusal) (unit : List ℕ) → length unit ≡ length made.data_unit → AreAlike (if b then Ok made else Err why) (made_filled (Some unit) (if b then Ok made else Err why))
alike_chosen true made why unit long = (refl, long)
alike_chosen false made why unit long = refl

alike_changed : (primary : Bool) (hdu : HduParts) (unit : List ℕ) (change : Result Change Refusal) → length unit ≡ length hdu.data_unit → AreAlike (hdu_changed primary hdu change) (made_filled (Some unit) (hdu_changed primary hdu change))
alike_changed primary hdu unit (Err why) long = refl
alike_changed primary hdu unit (Ok change) long = alike_chosen (keeps_shape primary hdu.header.cards (cards_after hdu.header.cards change)) (hdu_after change hdu) refusal.Shape unit long

alike_none : (kind : Option Kind) (shape : Shape) (lo hi : List ℕ) (paint : LentPaint) (hdu : HduParts) (unit : List ℕ) → kind ≡ None → AreAlike (pixels_made (painted_by kind shape lo hi paint hdu)) (made_filled (Some unit) (pixels_made (painted_by kind shape lo hi paint hdu)))
alike_none None shape lo hi paint hdu unit none = refl
alike_none (Some kind) shape lo hi paint hdu unit none = cc

alike_painted : (found : Result Shape ℕ) (lo hi : List ℕ) (paint : LentPaint) (hdu : HduParts) (unit : List ℕ) → HasNoKind kind_in found hdu.header.cards
    → AreAlike (shaped found (λ shape. painted shape lo hi paint hdu)) (made_filled (Some unit) (shaped found (λ shape. painted shape lo hi paint hdu)))
unfolding painted
alike_painted (Ok shape) lo hi paint hdu unit none = alike_none (kind_in shape hdu.header.cards) shape lo hi paint hdu unit none
alike_painted (Err place) lo hi paint hdu unit none = refl

alike_array : (found : Result Shape ℕ) (kind : Kind) (axes : List ℕ) (hdu : HduParts) (unit : List ℕ) → HasNoKind array_kind found hdu.header.cards → AreAlike (hdu_reshaped found kind axes hdu) (made_filled (Some unit) (hdu_reshaped found kind axes hdu))
unfolding reshaped
alike_array (Ok shape) kind axes hdu unit none = rw none refl
alike_array (Err place) kind axes hdu unit none = refl

-- so is what an edit makes that looks at none of them
pub alike_made : (primary : Bool) (edit : HduEdit) (hdu : HduParts) (unit : List ℕ) → LooksAtNone primary edit hdu → length unit ≡ length hdu.data_unit → AreAlike (hdu_made primary edit hdu) (made_filled (Some unit) (hdu_made primary edit hdu))
unfolding hdu_made reshaped
alike_made primary (Cards edit) hdu unit p long = alike_changed primary hdu unit (change_of hdu.header.cards edit) long
alike_made primary (Pixels lo hi paint) hdu unit p long = alike_painted (shape_of primary hdu.header.cards) lo hi (plane_paint paint) hdu unit p
alike_made primary (Reshape kind axes) hdu unit p long = alike_array (shape_of primary hdu.header.cards) kind axes hdu unit p
alike_made primary Stamp hdu unit p long = absurd p
alike_made primary Keep hdu unit p long = absurd p
alike_made primary Release hdu unit p long = (refl, long)

-- an edit that looks at none of an HDU's data, or whose data are known
pub alike_filled : (primary : Bool) (edit : HduEdit) (hdu : HduParts) (fill : Option (List ℕ)) → LooksAtNone primary edit hdu ⊎ (filled fill hdu ≡ hdu) → length (filled fill hdu).data_unit ≡ length hdu.data_unit → AreAlike (hdu_made primary edit hdu) (hdu_made primary edit (filled fill hdu))
alike_filled primary edit hdu fill (inr same) long = subst (λ (u : HduParts). AreAlike (hdu_made primary edit hdu) (hdu_made primary edit u)) (sym same) (alike_same (hdu_made primary edit hdu))
alike_filled primary edit hdu None (inl none) long = alike_same (hdu_made primary edit hdu)
alike_filled primary edit hdu (Some unit) (inl none) long = subst (AreAlike (hdu_made primary edit hdu)) (sym (unlooked primary edit hdu unit none)) (alike_made primary edit hdu unit none long)

-- how long an HDU is with other data
filled_bytes : (fill : Option (List ℕ)) (hdu : HduParts) → length (filled fill hdu).data_unit ≡ length hdu.data_unit → length (hdu_bytes (filled fill hdu)) ≡ length (hdu_bytes hdu)
filled_bytes None hdu long = refl
filled_bytes (Some unit) hdu long = omega (arith, length-append (header_bytes hdu.header) unit, length-append (header_bytes hdu.header) hdu.data_unit, long)

-- and what was made, with the cards of a stamp
padded_alike : (stamps : Bool) (made other : HduParts) → other.header ≡ made.header → length other.data_unit ≡ length made.data_unit → length (hdu_bytes (padded_if stamps other)) ≡ length (hdu_bytes (padded_if stamps made))
padded_alike false made other header long =
    omega (arith, length-append (header_bytes other.header) other.data_unit, length-append (header_bytes made.header) made.data_unit, ap (λ (h : Header). length (header_bytes h)) header, long)
padded_alike true made other header long =
    let more : Header → ℕ = λ h. let one : HduParts = record { header = h; data_unit = [] } in length (header_bytes (padded one).header) in
    let a : length (hdu_bytes (padded other)) ≡ more other.header + length other.data_unit = length-append (header_bytes (padded other).header) other.data_unit in
    let b : length (hdu_bytes (padded made)) ≡ more made.header + length made.data_unit = length-append (header_bytes (padded made).header) made.data_unit in
    omega (arith, a, b, ap more header, long)

-- how many bytes HDUs have of which one was changed
changed_bytes : (fills : List (Option (List ℕ))) (hdus : List HduParts) (i : ℕ) (made other : HduParts) → AreAsLong fills hdus → length (hdu_bytes other) ≡ length (hdu_bytes made)
    → length (joined_hdus (changed_at i (λ (hdu : HduParts). other) (all_filled fills hdus))) ≡ length (joined_hdus (changed_at i (λ (hdu : HduParts). made) hdus))
changed_bytes [] [] i made other p long = refl
changed_bytes [] (hdu ∷ hdus) zero made other p long = omega (arith, length-append (hdu_bytes other) (joined_hdus hdus), length-append (hdu_bytes made) (joined_hdus hdus), long)
changed_bytes [] (hdu ∷ hdus) (suc i) made other p long =
    omega (arith, length-append (hdu_bytes hdu) (joined_hdus (changed_at i (λ (one : HduParts). other) hdus)), length-append (hdu_bytes hdu) (joined_hdus (changed_at i (λ (one : HduParts). made) hdus)), changed_bytes [] hdus i made other p long)
changed_bytes (fill ∷ fills) [] i made other p long = refl
changed_bytes (fill ∷ fills) (hdu ∷ hdus) zero made other p long =
    omega (arith, length-append (hdu_bytes other) (joined_hdus (all_filled fills hdus)), length-append (hdu_bytes made) (joined_hdus hdus), joined_filled fills hdus p.1, long)
changed_bytes (fill ∷ fills) (hdu ∷ hdus) (suc i) made other p long =
    omega (arith, length-append (hdu_bytes (filled fill hdu)) (joined_hdus (changed_at i (λ (one : HduParts). other) (all_filled fills hdus))), length-append (hdu_bytes hdu) (joined_hdus (changed_at i (λ (one : HduParts). made) hdus)), filled_bytes fill hdu p.0, changed_bytes fills hdus i made other p.1 long)

-- so both keep to the limits, or neither does
same_size : (fills : List (Option (List ℕ))) (hdus : List HduParts) (tail : List ℕ) (i : ℕ) (made other : HduParts) → AreAsLong fills hdus → length (hdu_bytes other) ≡ length (hdu_bytes made)
    → size_refusal (with_hdu (record { hdus = all_filled fills hdus; tail = tail }) (suc i) (λ (hdu : HduParts). other)) ≡ size_refusal (with_hdu (record { hdus = hdus; tail = tail }) (suc i) (λ (hdu : HduParts). made))
same_size fills hdus tail i made other p long =
    let us : List HduParts = changed_at i (λ (hdu : HduParts). other) (all_filled fills hdus) in
    let vs : List HduParts = changed_at i (λ (hdu : HduParts). made) hdus in
    let bytes : length (joined_hdus us ++ tail) ≡ length (joined_hdus vs ++ tail) = omega (arith, length-append (joined_hdus us) tail, length-append (joined_hdus vs) tail, changed_bytes fills hdus i made other p long) in
    let count : length us ≡ length vs = length-changed i (λ (hdu : HduParts). other) (all_filled fills hdus) ∙ length_filled fills hdus ∙ sym (length-changed i (λ (hdu : HduParts). made) hdus) in
    ap (λ n. limit_refusal n (length us)) bytes ∙ ap (limit_refusal (length (joined_hdus vs ++ tail))) count

same_refusal : (fills : List (Option (List ℕ))) (hdus : List HduParts) (tail : List ℕ) (i : ℕ) (stamps : Bool) (made other : Result HduParts Refusal) → AreAsLong fills hdus → AreAlike made other
    → made_refusal stamps (record { hdus = all_filled fills hdus; tail = tail }) (suc i) other ≡ made_refusal stamps (record { hdus = hdus; tail = tail }) (suc i) made
same_refusal fills hdus tail i stamps (Ok made) (Ok other) p like = same_size fills hdus tail i (padded_if stamps made) (padded_if stamps other) p (padded_alike stamps made other like.0 like.1)
same_refusal fills hdus tail i stamps (Ok made) (Err how) p like = absurd like
same_refusal fills hdus tail i stamps (Err why) (Ok other) p like = absurd like
same_refusal fills hdus tail i stamps (Err why) (Err how) p like = ap (λ (it : Refusal). Option.Some it) like

-- the refusal of an edit of an HDU, by whether it is there
refusal_found : (fills : List (Option (List ℕ))) (hdus : List HduParts) (tail : List ℕ) (i : ℕ) (stamps : Bool) (edit : HduEdit) (found : Option HduParts) → AreAsLong fills hdus → slice_get hdus i ≡ found
    → ((hdu : HduParts) → slice_get hdus i ≡ Some hdu → AreAlike (hdu_made (is_primary_hdu (suc i)) edit hdu) (hdu_made (is_primary_hdu (suc i)) edit (filled (get_or fills i None) hdu)))
    → refusal_in stamps (record { hdus = all_filled fills hdus; tail = tail }) (suc i) edit (slice_get (all_filled fills hdus) i) ≡ refusal_in stamps (record { hdus = hdus; tail = tail }) (suc i) edit (slice_get hdus i)
refusal_found fills hdus tail i stamps edit None p is like =
    ap (refusal_in stamps (record { hdus = all_filled fills hdus; tail = tail }) (suc i) edit) (filled_nowhere fills hdus i is) ∙ ap (refusal_in stamps (record { hdus = hdus; tail = tail }) (suc i) edit) (sym is)
refusal_found fills hdus tail i stamps edit (Some hdu) p is like =
    let primary : Bool = is_primary_hdu (suc i) in
    let other : HduParts = filled (get_or fills i None) hdu in
    ap (refusal_in stamps (record { hdus = all_filled fills hdus; tail = tail }) (suc i) edit) (filled_there fills hdus i hdu is)
    ∙ same_refusal fills hdus tail i stamps (hdu_made primary edit hdu) (hdu_made primary edit other) p (like hdu is)
    ∙ ap (refusal_in stamps (record { hdus = hdus; tail = tail }) (suc i) edit) (sym is)

-- it is the same of a file of which some data units stand for others, where the edit is ready for them
pub refusal_filled : (fills : List (Option (List ℕ))) (hdus : List HduParts) (tail : List ℕ) (h : ℕ) (stamps : Bool) (edit : HduEdit) → AreAsLong fills hdus
    → ((i : ℕ) (hdu : HduParts) → h ≡ suc i → slice_get hdus i ≡ Some hdu → AreAlike (hdu_made (is_primary_hdu h) edit hdu) (hdu_made (is_primary_hdu h) edit (filled (get_or fills i None) hdu)))
    → refusal_in stamps (record { hdus = all_filled fills hdus; tail = tail }) h edit (hdu_of (record { hdus = all_filled fills hdus; tail = tail }) h) ≡ refusal_in stamps (record { hdus = hdus; tail = tail }) h edit (hdu_of (record { hdus = hdus; tail = tail }) h)
refusal_filled fills hdus tail zero stamps edit p like = refl
refusal_filled fills hdus tail (suc i) stamps edit p like = refusal_found fills hdus tail i stamps edit (slice_get hdus i) p refl (λ hdu is. like i hdu refl is)
