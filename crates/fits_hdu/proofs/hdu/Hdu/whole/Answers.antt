use Rattle.fits_hdu.proofs.ReportLemmas.{fill_known}
use Rattle.fits_passing.proofs.FindingLemmas.{marked_codes, whole_known}
use Rattle.fits_hdu.proofs.hdu.Hdu.whole.Goals as goal

pub returns : goal.returns
returns c =
    let verdicts = (rw (← c.self.view_is) at c.verdicts.ensures) in
    let filled = fill_known c.fill_ok.result c.self.inside.unit.plane.layout c.self.inside.header.shape _ c.self.inside.unit.plane.bytes c.self.invariant.layout c.fill_ok.ensures in
    let codes = marked_codes c.judge_header_mark-codes.result c.self.inside.mark c.shape.result.now c.self.inside.header.shape c.self.inside.header.header c.judge_header_mark-codes.ensures c.self.invariant.mark c.shape.ensures.value in
    rw (← c.self.view_is) (whole_known c.with_data_codes.result c.judge_header_mark-codes.result c.fill_ok.result c.verdicts.result c.self.inside.header.shape _ c.with_data_codes.ensures codes filled verdicts)
