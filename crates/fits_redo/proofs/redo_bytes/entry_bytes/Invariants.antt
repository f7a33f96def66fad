use Rattle.std.proofs.Common.{◌≡◌, ◌*◌, ◌++◌, length, drop}
use Rattle.std.specs.List.{flat_map}
use Rattle.fits_redo.specs.Redo.{entry}
use Rattle.fits_redo.proofs.redo_bytes.entry_bytes.Given as goal

abbrev pub invariant-loop-block : goal.invariant-loop-block
invariant-loop-block l = record {
  value : l.bytes.items ++ flat_map entry (drop l.block-index l.blocks) ≡ flat_map entry l.blocks;
  len : length l.bytes.items ≡ 5768 * l.block-index;
}
