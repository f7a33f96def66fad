use Rattle.std.proofs.Common.{◌+◌, set, sym, ap, subst, ◌∙◌, refl, arith}
use Rattle.std.proofs.lemmas.List.{length-map, length-set}
use Rattle.std.proofs.lemmas.List.Elements.{All-set}
use Rattle.fits_hdu.specs.State.{name_of, IsDescribed}
use Rattle.fits_passing.specs.Work.{name_reads}
use Rattle.fits_hdu.specs.Work.{plane_work}
use Rattle.fits_hdu.proofs.StateLemmas.{parts_read}
use Rattle.fits_session.specs.NameTable.{names_of}
use Rattle.fits_session.specs.Session.{reads_of, ReadsOnly}
use Rattle.fits_making.specs.Making.{StaysHad}
use Rattle.fits_session.proofs.HadLemmas.{had_at, had_moved}
use Rattle.fits_making.proofs.HadLemmas.{had_read}
use Rattle.fits_session.proofs.KeptLemmas.{absences_moved, described_moved, hdus_moved, kept_moved, reads_moved, works_moved}
use Rattle.fits_making.proofs.MakingLemmas.{lasts_read}
use Rattle.fits_session.proofs.NamingLemmas.{follows_leaves, follows_same, points_was}
use Rattle.fits_session.proofs.StateLemmas.{IsHduAt, absences_of-same, hdus_of-same, kept_of-same, reads_more, works_of-same}
use Rattle.fits_session.proofs.TableLemmas.{names_within}
use Rattle.fits_session.proofs.session.naming.follow.Goals as goal

pub returns-then-is_entry_of-clause-stands : goal.returns-then-is_entry_of-clause-stands
returns-then-is_entry_of-clause-stands c =
    let hdus = c.args.hdus.now.items in
    let es = c.args.table.now.numbers.items in
    let now = c.index_mut-hdu.result.now in
    let read = c.extension_name-name.new.self in
    let r = c.extension_name-name.ensures.work in
    let s = c.requires.stood in
    follows_same hdus c.args.i es s c.requires.within now read c.index_mut-hdu.ensures.value r
    (sym c.extension_name-name.ensures.value ∙ c.if-is_entry_of.ensures.same refl (name_of s.was) (rw c.entry-old.ensures (points_was hdus c.args.i es s c.requires.within now read c.index_mut-hdu.ensures.value r)))

pub returns-then-is_entry_of-clause-described : goal.returns-then-is_entry_of-clause-described
returns-then-is_entry_of-clause-described c described =
    All-set IsDescribed c.args.hdus.now.items c.args.i c.extension_name-name.new.self (lasts_read c.index_mut-hdu.result.now c.extension_name-name.new.self name_reads c.extension_name-name.ensures.described c.extension_name-name.ensures.work).described described

pub returns-then-is_entry_of-clause-hdus : goal.returns-then-is_entry_of-clause-hdus
returns-then-is_entry_of-clause-hdus c = hdus_of-same c.args.hdus.now.items c.args.i c.index_mut-hdu.result.now c.extension_name-name.new.self c.requires.within c.index_mut-hdu.ensures.value (parts_read c.index_mut-hdu.result.now c.extension_name-name.new.self name_reads c.extension_name-name.ensures.work)

pub returns-then-is_entry_of-clause-reads : goal.returns-then-is_entry_of-clause-reads
returns-then-is_entry_of-clause-reads c =
    let read = c.extension_name-name.ensures.work.header in
    let at : IsHduAt c.args.hdus.now.items (c.args.i + 1) c.args.i c.index_mut-hdu.result.now = record { index = record { at = refl; within = c.requires.within }; is = c.index_mut-hdu.ensures.value } in
    reads_more c.args.hdus.now.items (c.args.i + 1) c.args.i name_reads c.index_mut-hdu.result.now c.extension_name-name.new.self at read.least read.most

pub returns-then-is_entry_of-clause-works : goal.returns-then-is_entry_of-clause-works
returns-then-is_entry_of-clause-works c = works_of-same c.args.hdus.now.items c.args.i c.index_mut-hdu.result.now c.extension_name-name.new.self c.requires.within c.index_mut-hdu.ensures.value (ap plane_work c.extension_name-name.ensures.work.plane)

pub returns-then-is_entry_of-clause-kept : goal.returns-then-is_entry_of-clause-kept
returns-then-is_entry_of-clause-kept c = kept_of-same c.args.hdus.now.items c.args.i c.index_mut-hdu.result.now c.extension_name-name.new.self c.requires.within c.index_mut-hdu.ensures.value c.extension_name-name.ensures.work.kept

pub returns-then-is_entry_of-clause-absences : goal.returns-then-is_entry_of-clause-absences
returns-then-is_entry_of-clause-absences c = absences_of-same c.args.hdus.now.items c.args.i c.index_mut-hdu.result.now c.extension_name-name.new.self c.requires.within c.index_mut-hdu.ensures.value c.extension_name-name.ensures.work.absent

pub returns-then-is_entry_of-clause-had : goal.returns-then-is_entry_of-clause-had
returns-then-is_entry_of-clause-had c holding had =
    let at : IsHduAt c.args.hdus.now.items (c.args.i + 1) c.args.i c.index_mut-hdu.result.now = record { index = record { at = refl; within = c.requires.within }; is = c.index_mut-hdu.ensures.value } in
    had_at holding c.args.hdus.now.items (c.args.i + 1) c.args.i c.index_mut-hdu.result.now c.extension_name-name.new.self at (had_read _ _ _ c.extension_name-name.ensures.work) had

pub enter-entry-requires-clause-few : goal.enter-entry-requires-clause-few
enter-entry-requires-clause-few c =
    let base = set c.args.hdus.now.items c.args.i c.requires.stood.was in
    record { names = names_of base; table = c.requires.stood.stood.table; few = omega (arith, length-map base name_of, length-set c.args.hdus.now.items c.args.i c.requires.stood.was, c.requires.few) }

pub enter-entry-requires-clause-room : goal.enter-entry-requires-clause-room
enter-entry-requires-clause-room c =
    let base = set c.args.hdus.now.items c.args.i c.requires.stood.was in
    omega (arith, names_within (names_of base) c.args.table.now.numbers.items c.requires.stood.stood.table, length-map base name_of, length-set c.args.hdus.now.items c.args.i c.requires.stood.was, c.requires.room)

pub leave-requires : goal.leave-requires
leave-requires c =
    let hdus = c.args.hdus.now.items in
    let es = c.args.table.now.numbers.items in
    let fs = c.enter-entry.new.self.numbers.items in
    let now = c.index_mut-hdu.result.now in
    let read = c.extension_name-name.new.self in
    rw (c.set_entry.ensures, c.entry-old.ensures) (follows_leaves hdus c.args.i es c.requires.stood c.requires.within now read c.index_mut-hdu.ensures.value c.extension_name-name.ensures.work fs c.enter-entry.result (rw c.extension_name-name.ensures.value at c.enter-entry.ensures.entered))

pub returns-clause-described : goal.returns-clause-described
returns-clause-described c described =
    described_moved c.leave.new.hdus.items (set c.args.hdus.now.items c.args.i c.set_entry.new.self) c.leave.ensures.hdus
    (All-set IsDescribed c.args.hdus.now.items c.args.i c.set_entry.new.self (rw c.set_entry.ensures (lasts_read c.index_mut-hdu.result.now c.extension_name-name.new.self name_reads c.extension_name-name.ensures.described c.extension_name-name.ensures.work).described) described)

pub returns-clause-hdus : goal.returns-clause-hdus
returns-clause-hdus c =
    hdus_moved c.leave.new.hdus.items (set c.args.hdus.now.items c.args.i c.set_entry.new.self) c.leave.ensures.hdus
    ∙ hdus_of-same c.args.hdus.now.items c.args.i c.index_mut-hdu.result.now c.set_entry.new.self c.requires.within c.index_mut-hdu.ensures.value
    (rw c.set_entry.ensures (parts_read c.index_mut-hdu.result.now c.extension_name-name.new.self name_reads c.extension_name-name.ensures.work))

pub returns-clause-reads : goal.returns-clause-reads
returns-clause-reads c =
    let read = c.extension_name-name.ensures.work.header in
    let at : IsHduAt c.args.hdus.now.items (c.args.i + 1) c.args.i c.index_mut-hdu.result.now = record { index = record { at = refl; within = c.requires.within }; is = c.index_mut-hdu.ensures.value } in
    let same = reads_moved c.leave.new.hdus.items (set c.args.hdus.now.items c.args.i c.set_entry.new.self) c.leave.ensures.hdus in
    subst (ReadsOnly (c.args.i + 1) name_reads (reads_of c.args.hdus.now.items)) (sym same)
    (reads_more c.args.hdus.now.items (c.args.i + 1) c.args.i name_reads c.index_mut-hdu.result.now c.set_entry.new.self at (rw c.set_entry.ensures read.least) (rw c.set_entry.ensures read.most))

pub returns-clause-works : goal.returns-clause-works
returns-clause-works c =
    works_moved c.leave.new.hdus.items (set c.args.hdus.now.items c.args.i c.set_entry.new.self) c.leave.ensures.hdus
    ∙ works_of-same c.args.hdus.now.items c.args.i c.index_mut-hdu.result.now c.set_entry.new.self c.requires.within c.index_mut-hdu.ensures.value
    (rw c.set_entry.ensures (ap plane_work c.extension_name-name.ensures.work.plane))

pub returns-clause-kept : goal.returns-clause-kept
returns-clause-kept c =
    kept_moved c.leave.new.hdus.items (set c.args.hdus.now.items c.args.i c.set_entry.new.self) c.leave.ensures.hdus
    ∙ kept_of-same c.args.hdus.now.items c.args.i c.index_mut-hdu.result.now c.set_entry.new.self c.requires.within c.index_mut-hdu.ensures.value
    (rw c.set_entry.ensures c.extension_name-name.ensures.work.kept)

pub returns-clause-absences : goal.returns-clause-absences
returns-clause-absences c =
    absences_moved c.leave.new.hdus.items (set c.args.hdus.now.items c.args.i c.set_entry.new.self) c.leave.ensures.hdus
    ∙ absences_of-same c.args.hdus.now.items c.args.i c.index_mut-hdu.result.now c.set_entry.new.self c.requires.within c.index_mut-hdu.ensures.value
    (rw c.set_entry.ensures c.extension_name-name.ensures.work.absent)

pub returns-clause-had : goal.returns-clause-had
returns-clause-had c holding had =
    let at : IsHduAt c.args.hdus.now.items (c.args.i + 1) c.args.i c.index_mut-hdu.result.now = record { index = record { at = refl; within = c.requires.within }; is = c.index_mut-hdu.ensures.value } in
    let read : StaysHad c.index_mut-hdu.result.now c.extension_name-name.new.self = had_read _ _ _ c.extension_name-name.ensures.work in
    had_moved holding c.leave.new.hdus.items (set c.args.hdus.now.items c.args.i c.set_entry.new.self) c.leave.ensures.hdus
    (had_at holding c.args.hdus.now.items (c.args.i + 1) c.args.i c.index_mut-hdu.result.now c.set_entry.new.self at (λ holding it. rw c.set_entry.ensures (let read_it = read holding it in record { held = read_it.held; lies = read_it.lies; kept = read_it.kept })) had)
