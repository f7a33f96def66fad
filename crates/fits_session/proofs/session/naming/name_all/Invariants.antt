use Rattle.std.proofs.Common.{◌≡◌, drop, length, take}
use Rattle.std.specs.Prelude.{All}
use Rattle.fits_hdu.specs.State.{IsDescribed}
use Rattle.fits_passing.specs.Work.{name_reads}
use Rattle.fits_hdu.specs.Work.{IsOpened}
use Rattle.fits_session.specs.NameTable.{Stands}
use Rattle.fits_session.specs.Session.{absences_of, hdus_of}
use Rattle.fits_making.specs.Making.{Holding, IsHad}
use Rattle.fits_session.proofs.session.naming.name_all.Given as goal

abbrev pub invariant-loop-i : goal.invariant-loop-i
invariant-loop-i l = record {
  hdus : hdus_of l.hdus.items ≡ hdus_of l.fn.hdus.items;
  absences : absences_of l.hdus.items ≡ absences_of l.fn.hdus.items;
  count : length l.hdus.items ≡ length l.fn.hdus.items;
  rest : drop l.i l.hdus.items ≡ drop l.i l.fn.hdus.items;
  stands : Stands (take l.i l.hdus.items) l.counts.numbers.entries;
  described : All IsDescribed (take l.i l.hdus.items);
  had : (holding : Holding) → All (IsHad holding) l.fn.hdus.items → All (IsHad holding) l.hdus.items;
  opened : All (IsOpened 0) l.fn.hdus.items → All (IsOpened name_reads) (take l.i l.hdus.items);
}
