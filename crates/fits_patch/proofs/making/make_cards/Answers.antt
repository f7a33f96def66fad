use Rattle.fits_patch.proofs.making.make_cards.Goals as goal

pub make-requires : goal.make-requires
make-requires g c = λ i one at there. tt
