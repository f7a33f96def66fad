use Rattle.std.proofs.Common.{◌≡◌, ◌++◌, take}
use Rattle.fits_keys.specs.Keys.{fields_of}
use Rattle.fits_keys.proofs.fields.push_fields.Given as goal

abbrev pub invariant-loop-name : goal.invariant-loop-name
invariant-loop-name l = record {
  text : l.line.items ≡ l.fn.line.items ++ fields_of l.fn.cards.header.cards (take l.name-index l.names);
  same : l.cards.header ≡ l.fn.cards.header;
}
