use Rattle.std.proofs.Common.{is_some, List, ℕ, Option, sym, ap, subst}
use Rattle.std.specs.Option.{option_map}
use Rattle.fits_value.proofs.CardStringLemmas.{reads_string, reads_other}
use Rattle.fits_value.specs.Field.{ReadsAs, part}
use Rattle.fits_value.specs.declared.reading.ValueKind.{ValueKind}
use Rattle.fits_codes.proofs.said.is_string.Goals as goal

pub returns-in-Str : goal.returns-in-Str
returns-in-Str c =
    let card = c.args.card.now in
    let spelling = part card c.args.reading.now.value in
    let comment = option_map (part card) c.args.reading.now.comment in
    let reads = subst (λ (k : ValueKind). ReadsAs card k spelling comment) c.in-Str.is c.requires in
    sym (ap (λ (o : Option (List ℕ)). is_some o) (reads_string card spelling comment reads))

pub returns-in_default : goal.returns-in_default
returns-in_default c = sym (ap (λ (o : Option (List ℕ)). is_some o) (reads_other c.args.card.now c.args.reading.now.kind _ _ c.requires c.in_default.not-Str))
