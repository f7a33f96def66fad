use Rattle.std.proofs.Common.{◌∙◌, false, List, ℕ, ap, arith, length, sym}
use Rattle.std.proofs.lemmas.List.{length-replicate}
use Rattle.fits_card.specs.Header.{Header, new_header}
use Rattle.fits_rules.specs.Size.{data_length}
use Rattle.fits_rules.specs.Class.{is_primary}
use Rattle.fits_rules.specs.declared.array_shape.Shape.{Shape}
use Rattle.fits_plane.specs.Plane.{PlaneState}
use Rattle.fits_unit.specs.DataUnit.{UnitState}
use Rattle.fits_passing.specs.ExtensionName.{extension_name}
use Rattle.fits_image.specs.ImageCards.{image_cards}
use Rattle.fits_hdu.specs.State.{parts_of}
use Rattle.fits_image.proofs.ImageHeaderLemmas.{new_described}
use Rattle.fits_hdu.proofs.NewImageLemmas.{new_made, size_more}
use Rattle.fits_hdu.proofs.NewImageLemmas.{new_unnamed}
use Rattle.fits_hdu.proofs.hdu.Hdu.new_image.Goals as goal

pub returns-in-Ok-zero_plane-clause-hdu : goal.returns-in-Ok-zero_plane-clause-hdu
returns-in-Ok-zero_plane-clause-hdu c =
    let axes = ap (λ (xs : List ℕ). new_header (image_cards c.args.kind xs)) c.as_slice.ensures in
    new_made c.args.kind c.args.shape (parts_of c.joined.result) c.in-Ok.len c.requires.shape
    (c.joined.ensures.header ∙ (c.zero_plane.ensures.work.header ∙ (c.in_ok-header.ensures.header ∙ (c.in_ok-cards.ensures.header ∙ axes))))
    (ap (λ (plane : PlaneState). plane.bytes) (c.joined.ensures.unit ∙ ap (λ (unit : UnitState). unit.plane) c.held.ensures) ∙ c.in-Ok-zero_plane.ensures.bytes) c.in-Ok.ensures.ok

pub returns-in-Ok-zero_plane-clause-shape : goal.returns-in-Ok-zero_plane-clause-shape
returns-in-Ok-zero_plane-clause-shape c = c.joined.ensures.shape ∙ (c.zero_plane.ensures.work.shape ∙ c.in_ok-header.ensures.shape)

pub open-requires : goal.open-requires
open-requires c =
    let axes = ap (λ (xs : List ℕ). new_header (image_cards c.args.kind xs)) c.as_slice.ensures in
    record { described = new_described c.args.kind c.args.shape c.in_ok-cards.cards.header c.requires.shape c.requires.axes (c.in_ok-cards.ensures.header ∙ axes) }

pub joined-requires-clause-described : goal.joined-requires-clause-described
joined-requires-clause-described c =
    let axes = ap (λ (xs : List ℕ). new_header (image_cards c.args.kind xs)) c.as_slice.ensures in
    rw (c.zero_plane.ensures.work.header, c.zero_plane.ensures.work.shape, c.in_ok-header.ensures.header, c.in_ok-header.ensures.shape)
    (new_described c.args.kind c.args.shape c.in_ok-cards.cards.header c.requires.shape c.requires.axes (c.in_ok-cards.ensures.header ∙ axes))

pub joined-requires-clause-size : goal.joined-requires-clause-size
joined-requires-clause-size c =
    rw c.held.ensures (ap length c.in-Ok-zero_plane.ensures.bytes ∙ (length-replicate {A = ℕ} c.in-Ok.len 0 ∙ (c.in-Ok.ensures.ok ∙ ap data_length (sym (c.zero_plane.ensures.work.shape ∙ c.in_ok-header.ensures.shape)))))

pub joined-requires-clause-layout : goal.joined-requires-clause-layout
joined-requires-clause-layout c = rw (c.held.ensures, c.zero_plane.ensures.work.header, c.zero_plane.ensures.work.shape) c.in-Ok-zero_plane.ensures.layout

pub zero_plane-requires-clause-size : goal.zero_plane-requires-clause-size
zero_plane-requires-clause-size c = c.in-Ok.ensures.ok ∙ ap data_length (sym c.in_ok-header.ensures.shape)

pub zero_plane-requires-clause-small : goal.zero_plane-requires-clause-small
zero_plane-requires-clause-small c = omega (arith, c.in-Ok.ensures.within)

pub image_header-requires : goal.image_header-requires
image_header-requires c = record { axes = rw c.as_slice.ensures c.requires.axes }

pub returns-in-Ok-zero_plane-clause-work : goal.returns-in-Ok-zero_plane-clause-work
returns-in-Ok-zero_plane-clause-work c =
    let same = c.joined.ensures.header ∙ (c.zero_plane.ensures.work.header ∙ c.in_ok-header.ensures.header) in
    omega (arith, ap (λ (header : Header). length header.cards) same, c.joined.ensures.work, c.zero_plane.ensures.work.most, c.in_ok-header.ensures.work, c.in_ok-cards.ensures.unread)

pub returns-in-Ok-zero_plane-clause-scans : goal.returns-in-Ok-zero_plane-clause-scans
returns-in-Ok-zero_plane-clause-scans c = rw (c.joined.ensures.unit, c.held.ensures, c.in-Ok-zero_plane.ensures.bytes) c.in-Ok-zero_plane.ensures.scans

pub returns-in-Ok-zero_plane-clause-held : goal.returns-in-Ok-zero_plane-clause-held
returns-in-Ok-zero_plane-clause-held c = c.joined.ensures.absent ∙ ap (λ (unit : UnitState). unit.absent) c.held.ensures

-- it isn't called anything
pub returns-in-Ok-zero_plane-clause-unnamed : goal.returns-in-Ok-zero_plane-clause-unnamed
returns-in-Ok-zero_plane-clause-unnamed c =
    let axes = ap (λ (xs : List ℕ). new_header (image_cards c.args.kind xs)) c.as_slice.ensures in
    let header = c.joined.ensures.header ∙ (c.zero_plane.ensures.work.header ∙ (c.in_ok-header.ensures.header ∙ (c.in_ok-cards.ensures.header ∙ axes))) in
    let shape = c.joined.ensures.shape ∙ (c.zero_plane.ensures.work.shape ∙ c.in_ok-header.ensures.shape) in
    ap (λ (s : Shape). extension_name (is_primary s.class) c.joined.result.header.header.cards) (shape ∙ c.requires.shape)
    ∙ (ap (λ (h : Header). extension_name false h.cards) header ∙ new_unnamed c.args.kind c.args.shape.axes c.requires.axes)

-- the data unit isn't longer than the whole
pub unreachable-requires : goal.unreachable-requires
unreachable-requires c = omega (arith, c.requires.small, size_more c.args.kind c.args.shape 17179869184 c.requires.shape c.requires.axes c.in_default.ensures.short)
