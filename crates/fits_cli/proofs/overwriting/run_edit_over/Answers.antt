use Rattle.std.proofs.Common.{inl, refl}
use Rattle.fits_cli.specs.Ends.{stored_file}
use Rattle.fits_cli.proofs.EditingLemmas.{StopsBy-opening}
use Rattle.fits_cli.proofs.StoredLemmas.{gave_of, opened_of, stops_of}
use Rattle.fits_cli.proofs.UnderWayLemmas.{follows_more}
use Rattle.fits_cli.proofs.FrameLemmas.{leaves_unread}
use Rattle.fits_cli.proofs.overwriting.run_edit_over.Goals as goal

pub edit_over-requires-clause-lie : goal.edit_over-requires-clause-lie
edit_over-requires-clause-lie g c = λ bytes is. c.in-Ok.ensures.lie bytes is

pub returns-in-Ok-clause-ends : goal.returns-in-Ok-clause-ends
returns-in-Ok-clause-ends g c bytes is =
    c.edit_over.ensures.ends bytes is (stored_file bytes c.args.log.now) (stored_file bytes c.edit_over.new.log)
    (opened_of bytes c.args.log.now c.edit_over.new.log _ (c.in-Ok.ensures.ok bytes (c.edit_over.ensures.follows bytes is))) (inl refl)

pub returns-in-Ok-clause-told : goal.returns-in-Ok-clause-told
returns-in-Ok-clause-told g c bytes is =
    c.edit_over.ensures.told bytes is (stored_file bytes c.args.log.now) (stored_file bytes c.edit_over.new.log)
    (opened_of bytes c.args.log.now c.edit_over.new.log _ (c.in-Ok.ensures.ok bytes (c.edit_over.ensures.follows bytes is))) (inl refl)

pub returns-in-Err-clause-ends : goal.returns-in-Err-clause-ends
returns-in-Err-clause-ends g c bytes is =
    rw c.from.ensures (inl (StopsBy-opening _ _ _ refl refl (stops_of bytes c.args.log.now c.read_stored.new.log _ is c.in-Err.ensures.err) (gave_of bytes c.args.log.now c.read_stored.new.log _ is c.in-Err.ensures.err), refl))

pub returns-in-Ok-clause-follows : goal.returns-in-Ok-clause-follows
returns-in-Ok-clause-follows g c = follows_more _ _ _ c.in-Ok.ensures.follows c.edit_over.ensures.follows

pub returns-in-Err-clause-leaves : goal.returns-in-Err-clause-leaves
returns-in-Err-clause-leaves g c = rw c.from.ensures (leaves_unread _ _ _ _ _)
