use Rattle.std.proofs.Common.{◌≡◌, take}
use Rattle.std.specs.List.{list_all}
use Rattle.fits_card.specs.Card.{is_text_byte}
use Rattle.fits_card.proofs.text.are_characters.Given as goal

abbrev pub invariant-loop-byte : goal.invariant-loop-byte
invariant-loop-byte l = l.all ≡ list_all is_text_byte (take l.byte-index l.bytes)
