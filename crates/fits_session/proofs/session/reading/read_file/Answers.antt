use Rattle.std.proofs.lemmas.Result.{IfOk-weaker}
use Rattle.fits_session.proofs.WalkLemmas.{whole_came, whole_given, whole_held, whole_is, whole_long, whole_opened}
use Rattle.fits_session.proofs.session.reading.read_file.Goals as goal

pub returns-clause-ok : goal.returns-clause-ok
returns-clause-ok g c = IfOk-weaker c.read_whole.result _ _ (λ parts r. whole_given parts.0.items parts.1 parts.2.items _ _ r) c.read_whole.ensures.ok

pub returns-clause-whole : goal.returns-clause-whole
returns-clause-whole g c = IfOk-weaker c.read_whole.result _ _ (λ parts r. whole_is parts.0.items parts.1 parts.2.items _ _ r) c.read_whole.ensures.ok

pub returns-clause-len : goal.returns-clause-len
returns-clause-len g c = IfOk-weaker c.read_whole.result _ _ (λ parts r. whole_long parts.0.items parts.1 parts.2.items _ _ r) c.read_whole.ensures.ok

pub returns-clause-opened : goal.returns-clause-opened
returns-clause-opened g c = IfOk-weaker c.read_whole.result _ _ (λ parts r. whole_opened parts.0.items parts.1 parts.2.items _ _ r) c.read_whole.ensures.ok

pub returns-clause-held : goal.returns-clause-held
returns-clause-held g c = IfOk-weaker c.read_whole.result _ _ (λ parts r. whole_held parts.0.items parts.1 parts.2.items _ _ r) c.read_whole.ensures.ok

pub returns-clause-came : goal.returns-clause-came
returns-clause-came g c = IfOk-weaker c.read_whole.result _ _ (λ parts r. whole_came parts.0.items parts.1 parts.2.items _ _ r) c.read_whole.ensures.ok
