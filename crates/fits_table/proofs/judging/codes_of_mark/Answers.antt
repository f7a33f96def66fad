use Rattle.std.proofs.Common.{sym, ◌∙◌}
use Rattle.fits_table.specs.Table.{has_table_code}
use Rattle.fits_table.specs.declared.table_code.TheConstants.{TABLE_CODES}
use Rattle.fits_table.proofs.CodeLemmas.{code_more, code_none}
use Rattle.fits_table.proofs.judging.codes_of_mark.Goals as goal
use Rattle.fits_table.proofs.judging.codes_of_mark.Goals.{then-has_table_code+in_ok-push, else-has_table_code}

pub loop-code-preserved : goal.loop-code-preserved
loop-code-preserved c =
    let p = has_table_code c.args.kind c.args.shape.now c.args.mark.now in
    let own = sym c.has_table_code.ensures in
    elim c.if-has_table_code.branch [
      | then-has_table_code+in_ok-push w ↦
          rw w.codes-is (code_more p TABLE_CODES c.loop-code.codes.items _ c.loop-code.code-index _ c.loop-code-test.true (own ∙ w.if-has_table_code.true) c.loop-code.invariant w.in_ok-push.ensures.items)
      | else-has_table_code w ↦
          rw w.codes-is (code_none p TABLE_CODES c.loop-code.codes.items c.loop-code.code-index _ c.loop-code-test.true (own ∙ w.if-has_table_code.false) c.loop-code.invariant)
    ]
