use Rattle.std.proofs.Common.{Some}
use Rattle.fits_rules.proofs.PartLemmas.{no_front, read_on, broken_differs, axes_differ, reading_decides}
use Rattle.fits_rules.proofs.ShapeLemmas.{reads_header}
use Rattle.fits_rules.proofs.mandatory.keeps_shape.Goals as goal

pub returns-in_default-clause-value : goal.returns-in_default-clause-value
returns-in_default-clause-value c =
    let front = rw c.is_primary-primary.ensures at c.in_default.ensures.value in
    broken_differs c.args.shape.now _ _ (no_front _ _ _ front)

pub returns-then-front-as_slice-clause-value : goal.returns-then-front-as_slice-clause-value
returns-then-front-as_slice-clause-value c =
    let front = rw c.is_primary-primary.ensures at c.in-Ok.ensures.value in
    axes_differ _ _ c.in-Ok.front c.args.shape.now front (rw c.as_slice.ensures at c.if-front-as_slice.true)

pub returns-in-Ok-read_shape-clause-value : goal.returns-in-Ok-read_shape-clause-value
returns-in-Ok-read_shape-clause-value c =
    let front = rw c.is_primary-primary.ensures at c.in-Ok.ensures.value in
    let one = reads_header _ _ _ (Some c.args.change) c.read_front.ensures.work in
    let read = rw (c.is_primary-primary.ensures, one) at c.in-Ok-read_shape.ensures.value in
    reading_decides _ c.args.shape.now c.read_shape.new.reading _ _ c.is_shape.ensures (read_on _ _ c.args.leads.now c.in-Ok.front _ c.requires.leads front read)

pub returns-in-Err-clause-value : goal.returns-in-Err-clause-value
returns-in-Err-clause-value c =
    let front = rw c.is_primary-primary.ensures at c.in-Ok.ensures.value in
    let one = reads_header _ _ _ (Some c.args.change) c.read_front.ensures.work in
    let read = rw (c.is_primary-primary.ensures, one) at c.in-Err.ensures.value in
    broken_differs c.args.shape.now _ _ (read_on _ _ c.args.leads.now c.in-Ok.front _ c.requires.leads front read)
