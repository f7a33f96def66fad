use Rattle.fits_value.specs.Unreadable.{before_comment}
use Rattle.fits_value.proofs.UnreadableLemmas.{comment_never}
use Rattle.fits_value.proofs.unreadable.before_comment.Goals as goal

pub returns : goal.returns
returns c = comment_never c.args.text.now (before_comment c.args.text.now) c.loop-i.i c.loop-i-test.false c.loop-i.invariant
