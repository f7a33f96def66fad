use Rattle.std.proofs.Common.{◌∙◌, sym, length}
use Rattle.fits_script.specs.Misfit.{values_misfit}
use Rattle.fits_script.proofs.ValuesLemmas.{spaced, bad_word, good_word, last_bad, last_good}
use Rattle.fits_script.proofs.misfits.values_misfit.Goals as goal

pub returns-in_default-read_value : goal.returns-in_default-read_value
returns-in_default-read_value c =
    c.no_value.ensures
    ∙ bad_word c.args.size c.words.rest.now c.in-Some.word.now c.in-Some.more.now (values_misfit c.args.size (length c.args.text.now) (spaced c.args.text.now)) c.in-Some.ensures.some.0 c.in-Some.ensures.some.1 (sym c.in_default-read_value.ensures) c.words.invariant

pub words-preserved : goal.words-preserved
words-preserved c =
    good_word c.args.size c.words.rest.now c.in-Some.word.now c.in-Some.more.now c.in-Some-read_value.field-0 (values_misfit c.args.size (length c.args.text.now) (spaced c.args.text.now)) c.in-Some.ensures.some.0 c.in-Some.ensures.some.1 (sym c.in-Some-read_value.ensures) c.words.invariant

pub returns-in-Some-read_value-2 : goal.returns-in-Some-read_value-2
returns-in-Some-read_value-2 c =
    last_good c.args.size c.words.rest.now c.in-Some-read_value-2.field-0 (values_misfit c.args.size (length c.args.text.now) (spaced c.args.text.now)) c.in_default.ensures.none (sym c.in-Some-read_value-2.ensures) c.words.invariant

pub returns-in-None : goal.returns-in-None
returns-in-None c =
    c.no_value-in-None.ensures
    ∙ last_bad c.args.size c.words.rest.now (values_misfit c.args.size (length c.args.text.now) (spaced c.args.text.now)) c.in_default.ensures.none (sym c.in-None.ensures) c.words.invariant
