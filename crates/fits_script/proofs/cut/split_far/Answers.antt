use Rattle.fits_script.proofs.CutLemmas.{HasNo-all, HasNo-before, cut_there}
use Rattle.fits_script.proofs.cut.split_far.Goals as goal

pub returns-in_default-memchr-clause-none : goal.returns-in_default-memchr-clause-none
returns-in_default-memchr-clause-none c = HasNo-all c.args.separator c.args.text.now c.in_default-memchr.ensures

pub returns-clause-some : goal.returns-clause-some
returns-clause-some c =
    let found = c.in-Some.ensures in (
      rw c.split_at.ensures.front (HasNo-before c.args.separator c.args.text.now c.in-Some.at found.0.high found.0.before),
      cut_there c.args.separator c.args.text.now _ _ _ c.in-Some.at found.0.high found.1 c.split_at.ensures.front c.split_at.ensures.back c.split_at-2.ensures.back,
    )
