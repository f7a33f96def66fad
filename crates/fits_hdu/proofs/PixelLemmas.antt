-- The pixels of an image of integers: their layout by the kind, and their values.
use Rattle.std.proofs.Common.{nat_lt, ◌≡◌, ◌≤◌, ◌<◌, ℕ, ◌+◌, ◌*◌, ◌/◌, ◌^◌, Bool, true, false, cond, List, length, inl, inr, refl, ap, sym, ◌∙◌, subst, arith, Option, None, Some, ℤ, pos, negsuc}
use Rattle.std.specs.Prelude.{Result, Ok, Err, IsOk, IsTrue, not}
use Rattle.std.proofs.Math.Nat.{mul-le-mul_left}
use Rattle.std.proofs.lemmas.Bool.{eqb-true, or_cases}
use Rattle.fits_value.proofs.FrontLemmas.{option_map_some}
use Rattle.fits_card.specs.Header.{Header, IsHeader}
use Rattle.fits_pixels.specs.Layout.{IsLayout, block_count}
use Rattle.fits_pixels.specs.Pixels.{IsWidth, pixels}
use Rattle.fits_pixels.specs.Statistics.{value_statistics}
use Rattle.fits_pixels.specs.declared.layout.Layout.{Layout}
use Rattle.fits_pixels.specs.declared.value_summary.ValueSummary.{ValueSummary}
use Rattle.fits_pixels.proofs.PixelLemmas.{width_range}
use Rattle.fits_plane.specs.Paint.{can_store_paint, has_count, painted_number}
use Rattle.fits_plane.specs.Rectangle.{lies_within, product, rectangle_size, rectangle_values, rectangle_written}
use Rattle.fits_plane.specs.Work.{rectangle_blocks}
use Rattle.fits_plane.specs.declared.lent_paint.LentPaint.{LentPaint}
use Rattle.fits_plane.proofs.RectangleLemmas.{length-rectangle_written}
use Rattle.fits_rules.specs.Class.{is_primary}
use Rattle.fits_rules.specs.Image.{array_bits, image_bits, integer_bits}
use Rattle.fits_rules.specs.Shape.{shape_of, is_bitpix}
use Rattle.fits_rules.specs.declared.array_shape.Shape.{Shape}
use Rattle.fits_rules.proofs.LawLemmas.{shape_bounded}
use Rattle.fits_passing.specs.Hdu.{HduParts, IsHdu}
use Rattle.fits_image.specs.Kind.{kind_in, kind_of, convention, has_offset, offset_of, width_of}
use Rattle.fits_passing.proofs.LayoutLemmas.{kept}
use Rattle.fits_passing.specs.Layout.{layout_by, layout_of}
use Rattle.fits_hdu.specs.Pixels.{painted, painted_by, rect_by, rect_of, with_numbers}
use Rattle.fits_passing.specs.Stats.{stats_of}
use Rattle.fits_hdu.specs.Work.{IsPatched, PixelWork}
use Rattle.fits_image.specs.declared.kind.Kind.{Kind}
use Rattle.fits_image.specs.declared.kind.Kind.TheVariants.{U8, I8, I16, U16, I32, U32, I64, U64}
use Rattle.fits_hdu.specs.declared.pixel_fault.PixelFault.{PixelFault}
use Rattle.fits_hdu.specs.declared.pixel_fault.PixelFault.TheVariants.{NotImage, BadRectangle, WrongCount, OutOfRange}
use Rattle.fits_passing.proofs.StatsLemmas.{small_offset}

-- ---- the layout of an image

-- the bits of an image are what BITPIX says
bits_said : (b : Bool) (bitpix : ℤ) (bits : ℕ) → cond b (integer_bits bitpix) None ≡ Some bits → bitpix ≡ pos bits
bits_said true (pos n) bits e = ap pos (cc)
bits_said true (negsuc n) bits e = absurd (cc)
bits_said false bitpix bits e = absurd (cc)

-- an image of integers
image_bitpix : (shape : Shape) (bits : ℕ) → image_bits shape ≡ Some bits → shape.bitpix ≡ pos bits
unfolding image_bits array_bits
image_bitpix shape bits e = bits_said _ shape.bitpix bits (kept (nat_lt 0 (length shape.axes)) (array_bits shape) bits e).1

-- a kind has the width of its bits
width_of_bits : (bits : ℕ) (offset : Bool) → IsTrue (is_bitpix (pos bits)) → bits / 8 ≡ width_of (kind_of bits offset)
width_of_bits bits offset e = elim (or_cases _ _ e) [
  | inl e ↦ elim (or_cases _ _ e) [
    | inl e ↦ elim (or_cases _ _ e) [
      | inl e ↦ known 8 (eqb-true bits 8 e) (λ b. of_8 b)
      | inr e ↦ known 16 (eqb-true bits 16 e) (λ b. of_16 b)
    ]
    | inr e ↦ known 32 (eqb-true bits 32 e) (λ b. of_32 b)
  ]
  | inr e ↦ known 64 (eqb-true bits 64 e) (λ b. of_64 b)
]
  where
    known : (n : ℕ) → bits ≡ n → ((b : Bool) → n / 8 ≡ width_of (kind_of n b)) → bits / 8 ≡ width_of (kind_of bits offset)
    known n same h = subst (λ m. m / 8 ≡ width_of (kind_of m offset)) (sym same) (h offset)

    of_8 : (b : Bool) → 8 / 8 ≡ width_of (kind_of 8 b)
    of_8 true = refl
    of_8 false = refl

    of_16 : (b : Bool) → 16 / 8 ≡ width_of (kind_of 16 b)
    of_16 true = refl
    of_16 false = refl

    of_32 : (b : Bool) → 32 / 8 ≡ width_of (kind_of 32 b)
    of_32 true = refl
    of_32 false = refl

    of_64 : (b : Bool) → 64 / 8 ≡ width_of (kind_of 64 b)
    of_64 true = refl
    of_64 false = refl

-- the layout of an image has the width of its kind
pub layout_width : (shape : Shape) (cards : List (List ℕ)) (kind : Kind) → shape_of (is_primary shape.class) cards ≡ Ok shape → kind_in shape cards ≡ Some kind → (layout_of shape cards).width ≡ width_of kind
unfolding kind_in layout_of
layout_width shape cards kind described e =
    let found = option_map_some (λ bits. kind_of bits (has_offset cards (convention bits))) (image_bits shape) kind e in
    let bitpix = (shape_bounded (is_primary shape.class) cards shape described).bitpix in
    let known : IsTrue (is_bitpix (pos found.0)) = subst (λ z. IsTrue (is_bitpix z)) (image_bitpix shape found.0 found.1) bitpix in
    ap (λ o. (layout_by o shape cards).width) found.1 ∙ width_of_bits found.0 (has_offset cards (convention found.0)) known ∙ ap width_of found.2

-- and a pixel for each place in its axes
pub layout_pixels : (shape : Shape) (cards : List (List ℕ)) (kind : Kind) → kind_in shape cards ≡ Some kind → product shape.axes ≡ (layout_of shape cards).pixels
unfolding kind_in layout_of
layout_pixels shape cards kind e =
    let found = option_map_some (λ bits. kind_of bits (has_offset cards (convention bits))) (image_bits shape) kind e in
    sym (ap (λ o. (layout_by o shape cards).pixels) found.1)

-- the plane of an image has it
pub plane_width : (layout : Layout) (shape : Shape) (cards : List (List ℕ)) (kind : Kind) (o : Option Kind) (width : ℕ) → layout ≡ layout_of shape cards → shape_of (is_primary shape.class) cards ≡ Ok shape → o ≡ kind_in shape cards → o ≡ Some kind → width ≡ width_of kind → layout.width ≡ width
plane_width layout shape cards kind o width is described found some w =
    ap (λ (l : Layout). l.width) is ∙ layout_width shape cards kind described (sym found ∙ some) ∙ sym w

-- and its pixels
pub plane_pixels : (layout : Layout) (shape : Shape) (cards : List (List ℕ)) (kind : Kind) (o : Option Kind) → layout ≡ layout_of shape cards → o ≡ kind_in shape cards → o ≡ Some kind → product shape.axes ≡ layout.pixels
plane_pixels layout shape cards kind o is found some = layout_pixels shape cards kind (sym found ∙ some) ∙ ap (λ (l : Layout). l.pixels) (sym is)

-- a pixel of any kind has 1, 2, 4 or 8 bytes
pub kind_width : (kind : Kind) → IsWidth (width_of kind)
kind_width U8 = inl refl
kind_width I8 = inl refl
kind_width I16 = inr (inl refl)
kind_width U16 = inr (inl refl)
kind_width I32 = inr (inr (inl refl))
kind_width U32 = inr (inr (inl refl))
kind_width I64 = inr (inr (inr refl))
kind_width U64 = inr (inr (inr refl))

-- the work of a write, by that of its plane
pub patched : (layout : Layout) (shape : Shape) (cards : List (List ℕ)) (bytes axes lo hi : List ℕ) (old new : PixelWork) → layout ≡ layout_of shape cards → axes ≡ shape.axes
    → new.reads ≡ old.reads → old.scans ≤ new.scans → new.scans ≤ old.scans + rectangle_blocks layout bytes axes lo hi → old.joins ≤ new.joins
    → ((d : ℕ) → block_count bytes ≤ 2 ^ d → new.joins ≤ old.joins + rectangle_blocks layout bytes axes lo hi * d)
    → IsPatched (rectangle_blocks (layout_of shape cards) bytes shape.axes lo hi) (block_count bytes) old new
patched layout shape cards bytes axes lo hi old new is same reads more_scans scans more_joins joins =
    let blocks : rectangle_blocks layout bytes axes lo hi ≡ rectangle_blocks (layout_of shape cards) bytes shape.axes lo hi =
    ap (λ l. rectangle_blocks l bytes axes lo hi) is ∙ ap (λ xs. rectangle_blocks (layout_of shape cards) bytes xs lo hi) same in
    subst (λ n. IsPatched n (block_count bytes) old new) blocks (record { reads = reads; more_scans = more_scans; scans = scans; more_joins = more_joins; joins = joins })

-- ---- numbers that are small, and pixels that are few

-- as many pixels as a data unit has bytes at most
few_pixels : (layout : Layout) (bytes : List ℕ) → IsLayout layout bytes → layout.pixels ≤ 17179869184
few_pixels layout bytes fits = elim fits.width [
  | inl zero ↦ let no = fits.no_pixels zero in omega (arith, no)
  | inr width ↦ let more = mul-le-mul_left layout.pixels (width_range layout.width width).0 in omega (arith, more, fits.room, fits.used, fits.limit)
]

-- so its axes span few
pub few_places : (layout : Layout) (bytes axes : List ℕ) → IsLayout layout bytes → product axes ≡ layout.pixels → product axes < 4611686018427387904
few_places layout bytes axes fits all = omega (arith, all, few_pixels layout bytes fits)

-- ---- what is read

-- the statistics of an image
pub stats_of-image : (shape : Shape) (hdu : HduParts) (kind : Kind) (layout : Layout) (values : ValueSummary) → kind_in shape hdu.header.cards ≡ Some kind → layout ≡ layout_of shape hdu.header.cards
    → values ≡ value_statistics (offset_of kind) layout.blank (pixels layout.width hdu.data_unit 0 layout.pixels)
    → Some values ≡ stats_of shape hdu
unfolding stats_of
stats_of-image shape hdu kind layout values e is found = rw (e, found, is) refl

-- no image
pub stats_of-none : (shape : Shape) (hdu : HduParts) → kind_in shape hdu.header.cards ≡ None → None ≡ stats_of shape hdu
unfolding stats_of
stats_of-none shape hdu e = rw e refl

-- no image
pub rect_of-not_image : (shape : Shape) (hdu : HduParts) (lo hi : List ℕ) → kind_in shape hdu.header.cards ≡ None → rect_of shape lo hi hdu ≡ Err NotImage
unfolding rect_of
rect_of-not_image shape hdu lo hi e = ap (λ o. rect_by o shape lo hi hdu) e

-- a bad rectangle
pub rect_of-bad : (shape : Shape) (hdu : HduParts) (lo hi : List ℕ) (kind : Kind) → kind_in shape hdu.header.cards ≡ Some kind → lies_within shape.axes lo hi ≡ false → rect_of shape lo hi hdu ≡ Err BadRectangle
unfolding rect_of
rect_of-bad shape hdu lo hi kind e bad = rw (e, bad) refl

-- its values
pub rect_of-values : (shape : Shape) (hdu : HduParts) (lo hi : List ℕ) (kind : Kind) → kind_in shape hdu.header.cards ≡ Some kind → lies_within shape.axes lo hi ≡ true
    → rect_of shape lo hi hdu ≡ Ok (rectangle_values (width_of kind) hdu.data_unit shape.axes lo hi (offset_of kind))
unfolding rect_of
rect_of-values shape hdu lo hi kind e within = rw (e, within) refl

-- ---- what is painted

-- no image
pub painted-not_image : (shape : Shape) (hdu : HduParts) (lo hi : List ℕ) (paint : LentPaint) → kind_in shape hdu.header.cards ≡ None → painted shape lo hi paint hdu ≡ Err NotImage
unfolding painted
painted-not_image shape hdu lo hi paint e = ap (λ o. painted_by o shape lo hi paint hdu) e

-- a bad rectangle
pub painted-bad : (shape : Shape) (hdu : HduParts) (lo hi : List ℕ) (paint : LentPaint) (kind : Kind) → kind_in shape hdu.header.cards ≡ Some kind → lies_within shape.axes lo hi ≡ false → painted shape lo hi paint hdu ≡ Err BadRectangle
unfolding painted
painted-bad shape hdu lo hi paint kind e bad = rw (e, bad) refl

-- too many values, or too few
pub painted-count : (shape : Shape) (hdu : HduParts) (lo hi : List ℕ) (paint : LentPaint) (kind : Kind) → kind_in shape hdu.header.cards ≡ Some kind → lies_within shape.axes lo hi ≡ true → has_count paint (rectangle_size lo hi) ≡ false → painted shape lo hi paint hdu ≡ Err WrongCount
unfolding painted
painted-count shape hdu lo hi paint kind e within wrong = rw (e, within, wrong) refl

-- one that isn't stored
pub painted-out : (shape : Shape) (hdu : HduParts) (lo hi : List ℕ) (paint : LentPaint) (kind : Kind) → kind_in shape hdu.header.cards ≡ Some kind → lies_within shape.axes lo hi ≡ true → has_count paint (rectangle_size lo hi) ≡ true → can_store_paint (width_of kind) (offset_of kind) paint ≡ false → painted shape lo hi paint hdu ≡ Err OutOfRange
unfolding painted
painted-out shape hdu lo hi paint kind e within count out = rw (e, within, count, out) refl

-- it is painted
pub painted-may : (shape : Shape) (hdu : HduParts) (lo hi : List ℕ) (paint : LentPaint) (kind : Kind) → kind_in shape hdu.header.cards ≡ Some kind → lies_within shape.axes lo hi ≡ true → has_count paint (rectangle_size lo hi) ≡ true → can_store_paint (width_of kind) (offset_of kind) paint ≡ true
    → IsOk (painted shape lo hi paint hdu)
unfolding painted
painted-may shape hdu lo hi paint kind e within count can = rw (e, within, count, can) refl

-- and is painted
pub painted-done : (shape : Shape) (header : Header) (old new : List ℕ) (lo hi : List ℕ) (paint : LentPaint) (kind : Kind) (width : ℕ) → kind_in shape header.cards ≡ Some kind → lies_within shape.axes lo hi ≡ true → width ≡ width_of kind
    → has_count paint (rectangle_size lo hi) ≡ true → can_store_paint (width_of kind) (offset_of kind) paint ≡ true → new ≡ rectangle_written width shape.axes lo hi (painted_number paint (offset_of kind)) old
    → painted shape lo hi paint (record { header = header; data_unit = old }) ≡ Ok (record { header = header; data_unit = new })
unfolding painted
painted-done shape header old new lo hi paint kind width e within w count can put = rw (e, within, count, can, put, w) refl

-- ---- what is painted is an HDU

-- the header is the same, and the data unit as long
abbrev pub KeepsSize : HduParts → HduParts → Type 0
KeepsSize hdu new = (new.header ≡ hdu.header) × (length new.data_unit ≡ length hdu.data_unit)

-- what was let through by a test
passed : {X E : Type 0} (b : Bool) (fault : E) (r : Result X E) (x : X) → cond b (Err fault) r ≡ Ok x → r ≡ Ok x
passed true fault r x e = absurd (cc)
passed false fault r x e = e

-- with numbers in a rectangle
keeps : (shape : Shape) (kind : Kind) (lo hi : List ℕ) (number : ℕ → ℤ) (hdu new : HduParts) (r : Result HduParts PixelFault) → r ≡ Ok (with_numbers shape kind lo hi number hdu) → r ≡ Ok new → KeepsSize hdu new
keeps shape kind lo hi number hdu new r is e =
    let both : Result.Ok (with_numbers shape kind lo hi number hdu) ≡ Ok new = sym is ∙ e in
    let same : with_numbers shape kind lo hi number hdu ≡ new = cc in
    subst (λ (h : HduParts). KeepsSize hdu h) same (refl, length-rectangle_written (width_of kind) shape.axes lo hi number hdu.data_unit)

-- painted
keeps_painted : (o : Option Kind) (shape : Shape) (lo hi : List ℕ) (paint : LentPaint) (hdu new : HduParts) → painted_by o shape lo hi paint hdu ≡ Ok new → KeepsSize hdu new
keeps_painted None shape lo hi paint hdu new e = absurd (cc)
keeps_painted (Some kind) shape lo hi paint hdu new e =
    let within = passed (not (lies_within shape.axes lo hi)) BadRectangle _ new e in
    let counted = passed (not (has_count paint (rectangle_size lo hi))) WrongCount _ new within in
    let stored = passed (not (can_store_paint (width_of kind) (offset_of kind) paint)) OutOfRange _ new counted in
    keeps shape kind lo hi (painted_number paint (offset_of kind)) hdu new _ refl stored

-- so it is an HDU
kept_whole : (primary : Bool) (hdu new : HduParts) → IsHdu primary hdu → KeepsSize hdu new → IsHdu primary new × (new.header ≡ hdu.header) × (length new.data_unit ≡ length hdu.data_unit)
kept_whole primary hdu new p k = (
  record {
    shape = p.shape;
    header = subst (λ (h : Header). IsHeader h) (sym k.0) p.header;
    described = subst (λ (h : Header). shape_of primary h.cards ≡ Ok p.shape) (sym k.0) p.described;
    size = k.1 ∙ p.size;
  },
  k.0,
  k.1,
)

-- an HDU that was painted
pub painted_hdu : (primary : Bool) (shape : Shape) (hdu : HduParts) (lo hi : List ℕ) (paint : LentPaint) (new : HduParts) → IsHdu primary hdu → shape_of primary hdu.header.cards ≡ Ok shape → painted shape lo hi paint hdu ≡ Ok new
    → IsHdu primary new × (new.header ≡ hdu.header) × (length new.data_unit ≡ length hdu.data_unit)
unfolding painted
painted_hdu primary shape hdu lo hi paint new p described e = kept_whole primary hdu new p (keeps_painted (kind_in shape hdu.header.cards) shape lo hi paint hdu new e)

pub ruleset pixel_steps = (layout_width, layout_pixels, kind_width, small_offset, length-rectangle_written)
