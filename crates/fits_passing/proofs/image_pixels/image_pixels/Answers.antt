use Rattle.std.proofs.Common.{◌∙◌, ap}
use Rattle.fits_card.specs.Header.{Header}
use Rattle.fits_image.specs.Kind.{convention, has_offset, kind_of}
use Rattle.fits_passing.specs.Layout.{layout_of}
use Rattle.fits_passing.proofs.StatsLemmas.{image_some}
use Rattle.fits_passing.proofs.image_pixels.image_pixels.Goals as goal

-- what was opened has the cards and the shape, and what is read of it leaves them
pub returns : goal.returns
returns c =
    let head = c.args.head in
    let opened = c.in_ok-header.ensures in
    let bits = c.in-Some.bits in
    let layout = c.layout_of-layout.ensures.value ∙ ap (λ shape. layout_of shape c.in_ok-header.header.header.cards) opened.shape ∙ ap (λ (header : Header). layout_of head.shape header.cards) opened.header in
    let kind = c.pixel_kind-kind.ensures.value ∙ ap (λ (header : Header). kind_of bits (has_offset header.cards (convention bits))) (c.layout_of-layout.ensures.work.header ∙ opened.header) in
    image_some head.shape head.cards.header.cards bits c.layout_of-layout.result c.pixel_kind-kind.result c.in-Some.ensures layout kind
