use Rattle.fits_script.proofs.wording.write_unreadable.Goals as goal

pub returns-in-Unquoted-clause-ok : goal.returns-in-Unquoted-clause-ok
returns-in-Unquoted-clause-ok g c = rw (c.in-Unquoted.is) (rw (c.as_bytes.ensures) at c.write_around.ensures.ok)

pub returns-in-NoValue-clause-ok : goal.returns-in-NoValue-clause-ok
returns-in-NoValue-clause-ok g c = rw (c.in-NoValue.is) (rw (c.as_bytes-in-NoValue.ensures) at c.write_word.ensures.ok)

pub returns-in-Unquoted-clause-err : goal.returns-in-Unquoted-clause-err
returns-in-Unquoted-clause-err g c = rw (c.in-Unquoted.is) (rw (c.as_bytes.ensures) at c.write_around.ensures.err)

pub returns-in-NoValue-clause-err : goal.returns-in-NoValue-clause-err
returns-in-NoValue-clause-err g c = rw (c.in-NoValue.is) (rw (c.as_bytes-in-NoValue.ensures) at c.write_word.ensures.err)

pub returns-in-NoText-clause-ok : goal.returns-in-NoText-clause-ok
returns-in-NoText-clause-ok g c = rw (c.in-NoText.is) c.write_all.ensures.ok

pub returns-in-NoText-clause-err : goal.returns-in-NoText-clause-err
returns-in-NoText-clause-err g c = rw (c.in-NoText.is) c.write_all.ensures.err

pub returns-in-OpenString-clause-ok : goal.returns-in-OpenString-clause-ok
returns-in-OpenString-clause-ok g c = rw (c.in-OpenString.is) c.write_all-in-OpenString.ensures.ok

pub returns-in-OpenString-clause-err : goal.returns-in-OpenString-clause-err
returns-in-OpenString-clause-err g c = rw (c.in-OpenString.is) c.write_all-in-OpenString.ensures.err

pub returns-in-BareQuote-clause-ok : goal.returns-in-BareQuote-clause-ok
returns-in-BareQuote-clause-ok g c = rw (c.in-BareQuote.is) c.write_all-in-BareQuote.ensures.ok

pub returns-in-BareQuote-clause-err : goal.returns-in-BareQuote-clause-err
returns-in-BareQuote-clause-err g c = rw (c.in-BareQuote.is) c.write_all-in-BareQuote.ensures.err

pub returns-in-TextAfter-clause-ok : goal.returns-in-TextAfter-clause-ok
returns-in-TextAfter-clause-ok g c = rw (c.in-TextAfter.is) c.write_all-in-TextAfter.ensures.ok

pub returns-in-TextAfter-clause-err : goal.returns-in-TextAfter-clause-err
returns-in-TextAfter-clause-err g c = rw (c.in-TextAfter.is) c.write_all-in-TextAfter.ensures.err

pub returns-in-SmallExponent-clause-ok : goal.returns-in-SmallExponent-clause-ok
returns-in-SmallExponent-clause-ok g c = rw (c.in-SmallExponent.is) c.write_all-in-SmallExponent.ensures.ok

pub returns-in-SmallExponent-clause-err : goal.returns-in-SmallExponent-clause-err
returns-in-SmallExponent-clause-err g c = rw (c.in-SmallExponent.is) c.write_all-in-SmallExponent.ensures.err

pub returns-in-LogicalWord-clause-ok : goal.returns-in-LogicalWord-clause-ok
returns-in-LogicalWord-clause-ok g c = rw (c.in-LogicalWord.is) c.write_all-in-LogicalWord.ensures.ok

pub returns-in-LogicalWord-clause-err : goal.returns-in-LogicalWord-clause-err
returns-in-LogicalWord-clause-err g c = rw (c.in-LogicalWord.is) c.write_all-in-LogicalWord.ensures.err

pub returns-in-EqualsSign-clause-ok : goal.returns-in-EqualsSign-clause-ok
returns-in-EqualsSign-clause-ok g c = rw (c.in-EqualsSign.is) c.write_all-in-EqualsSign.ensures.ok

pub returns-in-EqualsSign-clause-err : goal.returns-in-EqualsSign-clause-err
returns-in-EqualsSign-clause-err g c = rw (c.in-EqualsSign.is) c.write_all-in-EqualsSign.ensures.err

pub returns-in-DoubleQuote-clause-ok : goal.returns-in-DoubleQuote-clause-ok
returns-in-DoubleQuote-clause-ok g c = rw (c.in-DoubleQuote.is) c.write_all-in-DoubleQuote.ensures.ok

pub returns-in-DoubleQuote-clause-err : goal.returns-in-DoubleQuote-clause-err
returns-in-DoubleQuote-clause-err g c = rw (c.in-DoubleQuote.is) c.write_all-in-DoubleQuote.ensures.err
