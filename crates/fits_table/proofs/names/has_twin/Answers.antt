use Rattle.std.proofs.Common.{rules, ◌≡◌, false, sym}
use Rattle.fits_table.proofs.names.has_twin.Goals as goal

pub returns-then-not-may_be_in : goal.returns-then-not-may_be_in
returns-then-not-may_be_in c =
    let not_in : c.may_be_in.result ≡ false = search rules in
    sym (c.may_be_in.ensures c.args.names.now c.requires not_in)
