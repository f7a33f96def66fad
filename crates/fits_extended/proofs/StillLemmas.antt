-- Looks at a session, one after another: its data units stay where they lie.
use Rattle.std.proofs.Common.{List}
use Rattle.fits_hdu.specs.State.{HduState}
use Rattle.fits_session.specs.Away.{LieStill}

-- one after another leaves them where they lay
pub still_more : {a b c : List HduState} → LieStill a b → LieStill b c → LieStill a c
still_more first next = record { lie = λ bytes lie. next.lie bytes (first.lie bytes lie); seen = λ all. next.seen (first.seen all) }
