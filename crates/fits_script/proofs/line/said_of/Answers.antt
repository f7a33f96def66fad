use Rattle.std.proofs.Common.{rules}
use Rattle.fits_script.specs.Line.{said_of}
use Rattle.fits_script.proofs.line.said_of.Goals as goal
use Rattle.fits_script.proofs.line.said_of.Goals.{in-Insert, in-Put, in-Delete, in-Move, in-Set+in_ok-field_words-in-Set, in-Unset, in-Fill+in_ok-fill_words-in-Fill, in-Write+in_ok-write_words-in-Write, in-Reshape+in_ok-array_words-in-Reshape, in-New+in_ok-array_words-in-New, in-Remove, in-Stamp, in-Keep, in-Release, in-Kept, in-Get, in-Positions, in-Statistics, in-Rectangle+in_ok-rectangle_word-in-Rectangle, in-Sums, in-Offsets, in-Report}

pub returns-clause-ok : goal.returns-clause-ok
unfolding said_of
returns-clause-ok c = elim c.match-verb.branch [ in-Insert w ↦ search rules | in-Put w ↦ search rules | in-Delete w ↦ search rules | in-Move w ↦ search rules | in-Set+in_ok-field_words-in-Set w ↦ search rules | in-Unset w ↦ search rules | in-Fill+in_ok-fill_words-in-Fill w ↦ search rules | in-Write+in_ok-write_words-in-Write w ↦ search rules | in-Reshape+in_ok-array_words-in-Reshape w ↦ search rules | in-New+in_ok-array_words-in-New w ↦ search rules | in-Remove w ↦ search rules | in-Stamp w ↦ search rules | in-Keep w ↦ search rules | in-Release w ↦ search rules | in-Kept w ↦ search rules | in-Get w ↦ search rules | in-Positions w ↦ search rules | in-Statistics w ↦ search rules | in-Rectangle+in_ok-rectangle_word-in-Rectangle w ↦ search rules | in-Sums w ↦ search rules | in-Offsets w ↦ search rules | in-Report w ↦ search rules ]
