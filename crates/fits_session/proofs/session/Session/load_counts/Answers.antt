use Rattle.std.proofs.lemmas.Result.{on_ok_weaker}
use Rattle.fits_session.proofs.LoadedLemmas.{held_known, held_stats, so_known}
use Rattle.fits_session.proofs.session.Session.load_counts.Goals as goal

-- it is no image
pub returns-then-not-is_image-clause-known : goal.returns-then-not-is_image-clause-known
returns-then-not-is_image-clause-known g c = held_known c.args.self.now.hdus c.args.h (c.is_image.ensures.none c.if-not-is_image.true)

-- it passes by
pub returns-then-is_unread-clause-known : goal.returns-then-is_unread-clause-known
returns-then-is_unread-clause-known g c = c.know.ensures.fresh (c.is_unread.ensures c.if-is_unread.true)

pub returns-then-is_unread-clause-idle : goal.returns-then-is_unread-clause-idle
returns-then-is_unread-clause-idle g c known = absurd (c.is_unread.ensures c.if-is_unread.true (so_known c.args.self.now.hdus c.args.h (c.is_image.ensures.held c.if-not-is_image.false (c.has_counts.ensures.held c.if-has_counts.false known))))

pub returns-then-is_unread-clause-at_once : goal.returns-then-is_unread-clause-at_once
returns-then-is_unread-clause-at_once g c known = absurd (c.is_unread.ensures c.if-is_unread.true (so_known c.args.self.now.hdus c.args.h (c.is_image.ensures.held c.if-not-is_image.false (c.has_counts.ensures.held c.if-has_counts.false known))))

-- it is loaded
pub returns-clause-known : goal.returns-clause-known
returns-clause-known g c = on_ok_weaker c.load.result (held_stats c.load.new.self.hdus c.args.h) c.load.ensures.held

pub returns-clause-idle : goal.returns-clause-idle
returns-clause-idle g c known = c.load.ensures.idle (c.is_image.ensures.held c.if-not-is_image.false (c.has_counts.ensures.held c.if-has_counts.false known))

pub returns-clause-at_once : goal.returns-clause-at_once
returns-clause-at_once g c known = c.load.ensures.at_once (c.is_image.ensures.held c.if-not-is_image.false (c.has_counts.ensures.held c.if-has_counts.false known))
