use Rattle.std.proofs.Common.{length, ◌-◌, ◌≡◌, ◌≤◌, ◌++◌, take, drop}
use Rattle.fits_value.specs.Scan.{undoubled}
use Rattle.fits_value.proofs.strings.write_decoded.Given as goal

abbrev pub invariant-loop-i : goal.invariant-loop-i
invariant-loop-i l = record {
  within : l.i ≤ length l.text;
  room : l.len ≤ l.i;
  size : length l.characters ≡ 68;
  written : take l.len l.characters ++ undoubled (drop l.i l.text) ≡ undoubled l.text;
  rest : drop l.len l.characters ≡ drop l.len l.initial.characters;
}

abbrev pub decreases-loop-i : goal.decreases-loop-i
decreases-loop-i l = length l.text - l.i
