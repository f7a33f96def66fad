use Rattle.std.proofs.Common.{◌≡◌, ℕ, length, replicate, arith, sym, subst, ◌∙◌}
use Rattle.std.proofs.lemmas.List.{length-replicate}
use Rattle.fits_pixels.specs.Layout.{IsLayout}
use Rattle.fits_passing.proofs.LayoutLemmas.{layout_fits}
use Rattle.fits_hdu.proofs.planes.zero_plane.Goals as goal

pub zeroed-requires : goal.zeroed-requires
zeroed-requires c =
    let long : length (replicate {A = ℕ} c.args.len 0) ≡ c.args.len = length-replicate {A = ℕ} c.args.len 0 in
    record {
      layout = subst (λ layout. IsLayout layout (replicate {A = ℕ} c.args.len 0)) (sym c.layout_of-layout.ensures.value)
          (layout_fits c.args.header.now.shape c.args.header.now.header.cards (replicate {A = ℕ} c.args.len 0) c.layout_of-layout.ensures.described (long ∙ c.requires.size) (omega (arith, long, c.requires.small)));
    }
