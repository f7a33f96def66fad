use Rattle.fits_cli.proofs.reply.print_reply.Goals as goal

pub returns-in-NoCommand-clause-ok : goal.returns-in-NoCommand-clause-ok
returns-in-NoCommand-clause-ok g c = rw (c.in-NoCommand.is) c.print_complaint-in-NoCommand.ensures.ok

pub returns-in-NoCommand-clause-err : goal.returns-in-NoCommand-clause-err
returns-in-NoCommand-clause-err g c = rw (c.in-NoCommand.is) c.print_complaint-in-NoCommand.ensures.err
