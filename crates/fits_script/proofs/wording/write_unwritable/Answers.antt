use Rattle.fits_script.proofs.wording.write_unwritable.Goals as goal

pub returns-in-NotNumber-clause-ok : goal.returns-in-NotNumber-clause-ok
returns-in-NotNumber-clause-ok g c = rw (c.in-NotNumber.is) c.write_all.ensures.ok

pub returns-in-NotNumber-clause-err : goal.returns-in-NotNumber-clause-err
returns-in-NotNumber-clause-err g c = rw (c.in-NotNumber.is) c.write_all.ensures.err

pub returns-in-StringBytes-clause-ok : goal.returns-in-StringBytes-clause-ok
returns-in-StringBytes-clause-ok g c = rw (c.in-StringBytes.is) c.write_all-in-StringBytes.ensures.ok

pub returns-in-StringBytes-clause-err : goal.returns-in-StringBytes-clause-err
returns-in-StringBytes-clause-err g c = rw (c.in-StringBytes.is) c.write_all-in-StringBytes.ensures.err

pub returns-in-StringSpaces-clause-ok : goal.returns-in-StringSpaces-clause-ok
returns-in-StringSpaces-clause-ok g c = rw (c.in-StringSpaces.is) c.write_all-in-StringSpaces.ensures.ok

pub returns-in-StringSpaces-clause-err : goal.returns-in-StringSpaces-clause-err
returns-in-StringSpaces-clause-err g c = rw (c.in-StringSpaces.is) c.write_all-in-StringSpaces.ensures.err

pub returns-in-StringAmpersand-clause-ok : goal.returns-in-StringAmpersand-clause-ok
returns-in-StringAmpersand-clause-ok g c = rw (c.in-StringAmpersand.is) c.write_all-in-StringAmpersand.ensures.ok

pub returns-in-StringAmpersand-clause-err : goal.returns-in-StringAmpersand-clause-err
returns-in-StringAmpersand-clause-err g c = rw (c.in-StringAmpersand.is) c.write_all-in-StringAmpersand.ensures.err

pub returns-in-CommentBytes-clause-ok : goal.returns-in-CommentBytes-clause-ok
returns-in-CommentBytes-clause-ok g c = rw (c.in-CommentBytes.is) c.write_all-in-CommentBytes.ensures.ok

pub returns-in-CommentBytes-clause-err : goal.returns-in-CommentBytes-clause-err
returns-in-CommentBytes-clause-err g c = rw (c.in-CommentBytes.is) c.write_all-in-CommentBytes.ensures.err

pub returns-in-CommentSpaces-clause-ok : goal.returns-in-CommentSpaces-clause-ok
returns-in-CommentSpaces-clause-ok g c = rw (c.in-CommentSpaces.is) c.write_all-in-CommentSpaces.ensures.ok

pub returns-in-CommentSpaces-clause-err : goal.returns-in-CommentSpaces-clause-err
returns-in-CommentSpaces-clause-err g c = rw (c.in-CommentSpaces.is) c.write_all-in-CommentSpaces.ensures.err

pub returns-in-LongNumber-clause-ok : goal.returns-in-LongNumber-clause-ok
returns-in-LongNumber-clause-ok g c = rw (c.in-LongNumber.is) c.write_all-in-LongNumber.ensures.ok

pub returns-in-LongNumber-clause-err : goal.returns-in-LongNumber-clause-err
returns-in-LongNumber-clause-err g c = rw (c.in-LongNumber.is) c.write_all-in-LongNumber.ensures.err

pub returns-in-NoRoom-clause-ok : goal.returns-in-NoRoom-clause-ok
returns-in-NoRoom-clause-ok g c = rw (c.in-NoRoom.is) c.write_all-in-NoRoom.ensures.ok

pub returns-in-NoRoom-clause-err : goal.returns-in-NoRoom-clause-err
returns-in-NoRoom-clause-err g c = rw (c.in-NoRoom.is) c.write_all-in-NoRoom.ensures.err

pub returns-in-LongComment-clause-ok : goal.returns-in-LongComment-clause-ok
returns-in-LongComment-clause-ok g c = rw (c.in-LongComment.is) c.write_counts.ensures.ok

pub returns-in-LongComment-clause-err : goal.returns-in-LongComment-clause-err
returns-in-LongComment-clause-err g c = rw (c.in-LongComment.is) c.write_counts.ensures.err
