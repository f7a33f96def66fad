use Rattle.std.proofs.Common.{ap, length}
use Rattle.fits_header.proofs.FindingLemmas.{context-found}
use Rattle.fits_header.proofs.findings.context_at.Goals as goal

pub returns : goal.returns
returns c cards is =
    context-found c.args.shape.now c.args.surroundings.now cards c.args.place _ c.is_link-next_is_link.result _ is c.requires.from c.requires.to (ap length c.as_slice.ensures) (c.is_link-next_is_link.ensures cards is)
