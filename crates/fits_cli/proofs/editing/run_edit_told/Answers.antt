use Rattle.std.proofs.Common.{inl, inr, refl, subst, sym, []}
use Rattle.fits_passing.specs.File.{FileParts}
use Rattle.fits_session.proofs.HadLemmas.{held_file}
use Rattle.fits_cli.specs.Ends.{GaveFile}
use Rattle.fits_cli.proofs.EditingLemmas.{gave_file, StopsBy-opening}
use Rattle.fits_cli.proofs.editing.run_edit_told.Goals as goal

pub returns-in-Err-clause-ends : goal.returns-in-Err-clause-ends
returns-in-Err-clause-ends g c = inl (rw c.from.ensures (StopsBy-opening _ _ _ refl refl c.in-Err.ensures.err c.in-Err.ensures.gave), refl)

pub returns-in-Ok-clause-ends : goal.returns-in-Ok-clause-ends
returns-in-Ok-clause-ends g c = c.edit.ensures.ends [] (λ lies. absurd (cc)) (g.F.Source.state c.args.file.now) (g.F.Source.state c.read.new.source) (subst (λ (parts : FileParts). GaveFile (g.F.Source.state c.args.file.now) (g.F.Source.state c.read.new.source) parts) (sym (held_file [] c.in-Ok.session.hdus c.in-Ok.session.tail (c.is_sound.ensures.held refl)))
    (gave_file _ _ _ c.in-Ok.ensures.ok c.in-Ok.ensures.came)) (inr c.in-Ok.ensures.quiet)

pub returns-in-Ok-clause-told : goal.returns-in-Ok-clause-told
returns-in-Ok-clause-told g c = c.edit.ensures.told [] (λ lies. absurd (cc)) (g.F.Source.state c.args.file.now) (g.F.Source.state c.read.new.source) (subst (λ (parts : FileParts). GaveFile (g.F.Source.state c.args.file.now) (g.F.Source.state c.read.new.source) parts) (sym (held_file [] c.in-Ok.session.hdus c.in-Ok.session.tail (c.is_sound.ensures.held refl)))
    (gave_file _ _ _ c.in-Ok.ensures.ok c.in-Ok.ensures.came)) (inr c.in-Ok.ensures.quiet)
