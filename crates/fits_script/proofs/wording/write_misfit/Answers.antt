use Rattle.fits_script.proofs.wording.write_misfit.Goals as goal

pub returns-in-NotHdu-clause-ok : goal.returns-in-NotHdu-clause-ok
returns-in-NotHdu-clause-ok g c = rw (c.in-NotHdu.is) (rw (c.as_bytes-in-NotHdu.ensures) at c.write_word-in-NotHdu.ensures.ok)

pub returns-in-NotHdu-clause-err : goal.returns-in-NotHdu-clause-err
returns-in-NotHdu-clause-err g c = rw (c.in-NotHdu.is) (rw (c.as_bytes-in-NotHdu.ensures) at c.write_word-in-NotHdu.ensures.err)

pub returns-in-NotPlace-clause-ok : goal.returns-in-NotPlace-clause-ok
returns-in-NotPlace-clause-ok g c = rw (c.in-NotPlace.is) (rw (c.as_bytes-in-NotPlace.ensures) at c.write_word-in-NotPlace.ensures.ok)

pub returns-in-NotPlace-clause-err : goal.returns-in-NotPlace-clause-err
returns-in-NotPlace-clause-err g c = rw (c.in-NotPlace.is) (rw (c.as_bytes-in-NotPlace.ensures) at c.write_word-in-NotPlace.ensures.err)

pub returns-in-NotPixelValue-clause-ok : goal.returns-in-NotPixelValue-clause-ok
returns-in-NotPixelValue-clause-ok g c = rw (c.in-NotPixelValue.is) (rw (c.as_bytes-in-NotPixelValue.ensures) at c.write_word-in-NotPixelValue.ensures.ok)

pub returns-in-NotPixelValue-clause-err : goal.returns-in-NotPixelValue-clause-err
returns-in-NotPixelValue-clause-err g c = rw (c.in-NotPixelValue.is) (rw (c.as_bytes-in-NotPixelValue.ensures) at c.write_word-in-NotPixelValue.ensures.err)

pub returns-in-LongName-clause-ok : goal.returns-in-LongName-clause-ok
returns-in-LongName-clause-ok g c = rw (c.in-LongName.is) c.write_all-in-LongName.ensures.ok

pub returns-in-LongName-clause-err : goal.returns-in-LongName-clause-err
returns-in-LongName-clause-err g c = rw (c.in-LongName.is) c.write_all-in-LongName.ensures.err

pub returns-in-WordMissing-clause-ok : goal.returns-in-WordMissing-clause-ok
returns-in-WordMissing-clause-ok g c = rw (c.in-WordMissing.is) c.write_all-in-WordMissing.ensures.ok

pub returns-in-WordMissing-clause-err : goal.returns-in-WordMissing-clause-err
returns-in-WordMissing-clause-err g c = rw (c.in-WordMissing.is) c.write_all-in-WordMissing.ensures.err
