use Rattle.std.proofs.Common.{map}
use Rattle.fits_hdu.specs.State.{hdu_at}
use Rattle.fits_session.specs.Session.{hdus_of}
use Rattle.fits_passing.specs.Work.{name_reads}
use Rattle.fits_session.proofs.KeptLemmas.{file_with, opened_right, opened_unmarked, parts_same_at, seen_same}
use Rattle.fits_session.proofs.session.Session.of.Goals as goal

pub returns-clause-unmarked : goal.returns-clause-unmarked
returns-clause-unmarked g c = opened_unmarked name_reads c.name_all.new.hdus.items c.args.parts.2.items (c.in_ok-names.ensures.opened c.requires.opened)

pub invariant_of-result : goal.invariant_of-result
invariant_of-result g c = record {
  whole = rw c.in_ok-names.ensures.hdus c.requires.whole;
  len = rw c.in_ok-names.ensures.hdus c.requires.len;
  described = c.in_ok-names.ensures.described;
  right = opened_right name_reads c.name_all.new.hdus.items (c.in_ok-names.ensures.opened c.requires.opened);
  names = c.in_ok-names.ensures.stands;
  roomy = c.in_ok-names.ensures.room;
  had = c.in_ok-names.ensures.had _ c.requires.had;
}

pub returns-clause-lie : goal.returns-clause-lie
returns-clause-lie g c = λ bytes lie. c.in_ok-names.ensures.had _ lie

-- wherever data units lie
pub returns-clause-at : goal.returns-clause-at
returns-clause-at g c = λ told. file_with (hdus_of (map (hdu_at told) c.name_all.new.hdus.items)) (hdus_of (map (hdu_at told) c.args.parts.0.items)) c.args.parts.2.items (parts_same_at told c.name_all.new.hdus.items c.args.parts.0.items c.in_ok-names.ensures.hdus c.in_ok-names.ensures.absences)

pub returns-clause-seen : goal.returns-clause-seen
returns-clause-seen g c = λ seen. seen_same c.name_all.new.hdus.items c.args.parts.0.items c.in_ok-names.ensures.absences seen
