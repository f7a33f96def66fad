use Rattle.std.proofs.Common.{◌∙◌, ◌-◌, None, ap, drop, length, refl, sym, take}
use Rattle.std.proofs.lemmas.Result.{err_from_is_err_and}
use Rattle.fits_pixels.specs.declared.layout.Layout.{Layout}
use Rattle.fits_pieces.specs.Piece.{pieces_in}
use Rattle.fits_unit.proofs.AgainLemmas.{follows_on, load_follows}
use Rattle.fits_unit.proofs.PartLoadLemmas.{begun_joins, begun_part, begun_scans, loads_layout, whole_read}
use Rattle.fits_unit.proofs.part_load.part_of_file.Goals as goal

pub returns-in_err-unit-clause-follows : goal.returns-in_err-unit-clause-follows
returns-in_err-unit-clause-follows g c = load_follows c.args.place c.args.len _ _ c.in_err-unit.field-0.0 c.in_err-unit.ensures.err

pub returns-in_err-load_piece-clause-steady : goal.returns-in_err-load_piece-clause-steady
returns-in_err-load_piece-clause-steady g c = λ told is there.
    let unit = c.in_ok-unit.unit in
    let lies = whole_read told unit.plane.bytes c.args.place (length unit.plane.bytes) _ _ c.in_ok-unit.ensures.are (c.load_piece.ensures.follows told is) refl in
    let steady = c.in_err-load_piece.ensures.steady told is (lies ∙ sym c.in_ok-unit.ensures.passed) in
    let exit = err_from_is_err_and c.from_residual-in_err-load_piece.result c.from_residual-in_err-load_piece.ensures.1 in
    rw (exit.1, exit.2) steady

pub returns-in_err-load_piece-clause-follows : goal.returns-in_err-load_piece-clause-follows
returns-in_err-load_piece-clause-follows g c = λ bytes is. follows_on c.args.place _ _ _ c.in_ok-unit.ensures.are bytes (c.load_piece.ensures.follows bytes is)

pub of-requires : goal.of-requires
of-requires g c = begun_part c.args.place c.args.len _ c.args.layout c.in_ok-unit.unit c.load_piece.new.unit c.load_piece.ensures.loads c.in_ok-unit.ensures.len c.in_ok-unit.ensures.layout c.requires.within (ap (λ n. n - 1) (c.piece_count-last.ensures.count ∙ ap pieces_in c.in_ok-unit.ensures.len)) c.in_ok-load_piece.ensures.held c.requires.fill

pub returns-clause-size : goal.returns-clause-size
returns-clause-size g c = rw c.of.ensures ((c.load_piece.ensures.loads None).size ∙ c.in_ok-unit.ensures.len)

pub returns-clause-layout : goal.returns-clause-layout
returns-clause-layout g c = rw c.of.ensures (loads_layout c.args.place c.in_ok-unit.unit c.load_piece.new.unit c.load_piece.ensures.loads ∙ c.in_ok-unit.ensures.layout)

pub returns-clause-blank : goal.returns-clause-blank
returns-clause-blank g c = rw c.of.ensures ((c.load_piece.ensures.loads None).blank ∙ ap (λ (l : Layout). l.blank) c.in_ok-unit.ensures.layout)

-- what passed by is what the file has there
pub returns-clause-same : goal.returns-clause-same
returns-clause-same g c = λ told is.
    let unit = c.in_ok-unit.unit in
    let lies = whole_read told unit.plane.bytes c.args.place (length unit.plane.bytes) _ _ c.in_ok-unit.ensures.are (c.load_piece.ensures.follows told is) refl in
    rw c.of.ensures (c.load_piece.ensures.same told is (lies ∙ sym c.in_ok-unit.ensures.passed) ∙ sym lies ∙ ap (λ n. take n (drop c.args.place told)) c.in_ok-unit.ensures.len)

pub returns-clause-passed : goal.returns-clause-passed
returns-clause-passed g c = λ told is.
    let unit = c.in_ok-unit.unit in
    let lies = whole_read told unit.plane.bytes c.args.place c.args.len _ _ c.in_ok-unit.ensures.are (c.load_piece.ensures.follows told is) c.in_ok-unit.ensures.len in
    rw c.of.ensures ((c.load_piece.ensures.loads None).passed ∙ c.in_ok-unit.ensures.passed ∙ sym lies)

pub returns-clause-reads : goal.returns-clause-reads
returns-clause-reads g c = rw c.of.ensures ((c.load_piece.ensures.loads None).reads ∙ c.in_ok-unit.ensures.reads)

pub returns-clause-scans : goal.returns-clause-scans
returns-clause-scans g c = rw c.of.ensures (begun_scans c.args.place c.args.len None c.in_ok-unit.unit c.load_piece.new.unit (c.load_piece.ensures.loads None) c.in_ok-unit.ensures.len c.in_ok-unit.ensures.held c.in_ok-unit.ensures.scans)

pub returns-clause-joins : goal.returns-clause-joins
returns-clause-joins g c = rw c.of.ensures (begun_joins c.args.place c.args.len None c.in_ok-unit.unit c.load_piece.new.unit (c.load_piece.ensures.loads None) c.in_ok-unit.ensures.held c.in_ok-unit.ensures.joins)

pub returns-clause-follows : goal.returns-clause-follows
returns-clause-follows g c = λ bytes is. follows_on c.args.place _ _ _ c.in_ok-unit.ensures.are bytes (c.load_piece.ensures.follows bytes is)
