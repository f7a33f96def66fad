use Rattle.std.proofs.Common.{◌≡◌, ◌∙◌, ℕ, List, ap, length, replicate}
use Rattle.std.proofs.lemmas.List.{length-replicate}
use Rattle.fits_stream.proofs.SightLemmas.{takes_none}
use Rattle.fits_unit.specs.Unread.{UnreadState}
use Rattle.fits_passing.proofs.passed_hdu.meet_unit.Goals as goal

-- nothing of it is taken
pub returns-then-leaves-clause-ok : goal.returns-then-leaves-clause-ok
returns-then-leaves-clause-ok g c = takes_none _

pub returns-then-leaves-clause-size : goal.returns-then-leaves-clause-size
returns-then-leaves-clause-size g c =
    let zeros : List ℕ = replicate c.args.len 0 in
    let long : length zeros ≡ c.args.len = length-replicate c.args.len 0 in
    ap (λ (u : UnreadState). length u.bytes) c.new.ensures ∙ long
