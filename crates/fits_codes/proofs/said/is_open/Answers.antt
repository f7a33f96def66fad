use Rattle.std.proofs.Common.{◌≡◌, false, List, ℕ, Option, sym, ◌∙◌, ap, subst}
use Rattle.std.specs.Option.{option_map, option_map_or}
use Rattle.fits_value.proofs.CardStringLemmas.{reads_string, reads_other}
use Rattle.fits_value.specs.Field.{ReadsAs, part}
use Rattle.fits_value.specs.Says.{inner, ends_in_ampersand}
use Rattle.fits_value.specs.Scan.{undoubled}
use Rattle.fits_value.specs.Text.{normal_form}
use Rattle.fits_value.specs.declared.reading.ValueKind.{ValueKind}
use Rattle.fits_codes.proofs.said.is_open.Goals as goal

pub returns-in_default : goal.returns-in_default
returns-in_default c =
    sym (ap (λ (o : Option (List ℕ)). option_map_or ends_in_ampersand o false) (reads_other c.args.card.now c.args.reading.now.kind _ _ c.requires.read c.in_default.not-Str))

pub returns : goal.returns
returns c =
    let card = c.args.card.now in
    let spelling = part card c.args.reading.now.value in
    let comment = option_map (part card) c.args.reading.now.comment in
    let reads = subst (λ (k : ValueKind). ReadsAs card k spelling comment) c.in-Str.is c.requires.read in
    let spelled : c.part.result.now ≡ spelling = c.part.ensures ∙ ap (λ (x : List ℕ). part x c.args.reading.now.value) c.bytes.ensures.value in
    c.is_open_string.ensures ∙ (ap (λ (x : List ℕ). ends_in_ampersand (normal_form (undoubled (inner x)))) spelled
    ∙ sym (ap (λ (o : Option (List ℕ)). option_map_or ends_in_ampersand o false) (reads_string card spelling comment reads)))
