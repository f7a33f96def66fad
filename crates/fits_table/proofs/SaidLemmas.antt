-- What a card that has a value says alone.
use Rattle.fits_codes.proofs.SaidLemmas.{kind-no_field, kind-unread, kind-read}

pub ruleset kind_steps = (kind-no_field, kind-unread, kind-read)
