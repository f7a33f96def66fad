use Rattle.std.proofs.lemmas.Grind.{common_steps}
use Rattle.std.proofs.Common.{arith, not, sym, ap, ◌∙◌}
use Rattle.fits_session.proofs.CountLemmas.{counts_alone, counts_followed}
use Rattle.fits_session.proofs.KeptLemmas.{kept_named}
use Rattle.fits_session.proofs.WalkLemmas.{followed_seen}
use Rattle.fits_session.proofs.session.Session.known_counts.Goals as goal

pub counts_of-counts-requires-clause-seen : goal.counts_of-counts-requires-clause-seen
counts_of-counts-requires-clause-seen g c = rw (← c.self.view_is) at c.requires

pub counts_of-counts-requires-clause-named : goal.counts_of-counts-requires-clause-named
counts_of-counts-requires-clause-named g c = kept_named _ c.self.inside.hdus.items c.self.inside.tail.items c.self.inside.len c.self.inside.names.numbers.items c.self.inside.names.room c.self.invariant

pub returns-then-is_empty-clause-value : goal.returns-then-is_empty-clause-value
returns-then-is_empty-clause-value g c =
    rw (← c.self.view_is) (counts_alone c.self.inside.hdus.items c.self.inside.tail.items c.counts_of-counts.result c.counts_of-counts.ensures.value (sym (followed_seen c.self.inside.tail.items c.is_empty.result (grind (arith, common_steps))) ∙ ap not c.if-is_empty.true))

pub returns-clause-value : goal.returns-clause-value
returns-clause-value g c =
    rw (← c.self.view_is) (counts_followed c.self.inside.hdus.items c.self.inside.tail.items c.counts_of-counts.result c.of.result c.plus.result c.counts_of-counts.ensures.value (sym (followed_seen c.self.inside.tail.items c.is_empty.result (grind (arith, common_steps))) ∙ ap not c.if-is_empty.false) c.of.ensures.value c.plus.ensures)
