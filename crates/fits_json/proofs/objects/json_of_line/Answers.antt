use Rattle.std.proofs.Common.{◌≡◌, ◌++◌, ◌∷◌, [], ℕ, List, false, ap, sym, subst, ◌∙◌, ◌≤◌, Some}
use Rattle.serde_json.specs.Data.{Data, depth}
use Rattle.serde_json.specs.Read.{max_depth, read}
use Rattle.serde_json.specs.View.{view}
use Rattle.serde_json.specs.Written.{compact_text, has_float}
use Rattle.fits_json.specs.Objects.{data_of_line}
use Rattle.fits_json.proofs.ObjectLemmas.{depth-line, float-line, unended-line}
use Rattle.fits_json.proofs.objects.json_of_line.Goals as goal

-- the bytes of the object are its compact text
object_text : (d e : Data) (bytes : List ℕ) → d ≡ e → has_float e ≡ false → (has_float d ≡ false → bytes ≡ compact_text d) → bytes ≡ compact_text e
object_text d e bytes is plain text = text (ap has_float is ∙ plain) ∙ ap compact_text is

-- which reads as the object
object_reads : (d e : Data) (bytes : List ℕ) → d ≡ e → has_float e ≡ false → depth e ≤ max_depth → (has_float d ≡ false → bytes ≡ compact_text d) → (depth d ≤ max_depth → read bytes ≡ Some d)
    → read (compact_text e) ≡ Some e
object_reads d e bytes is plain shallow text reads =
    ap read (sym (object_text d e bytes is plain text)) ∙ reads (subst (λ n. n ≤ max_depth) (sym (ap depth is)) shallow) ∙ ap Some is

pub returns-clause-value : goal.returns-clause-value
returns-clause-value c =
    c.in_ok-push.ensures.items
    ∙ ap (λ xs. xs ++ 10 ∷ []) (object_text (view c.in_ok-object.object) (data_of_line c.args.name.now c.args.forms.now c.args.line.now) c.in_ok-text.text.items
    c.in_ok-object.ensures (float-line c.args.name.now c.args.forms.now c.args.line.now) c.in_ok-text.ensures.text)

pub returns-clause-reads : goal.returns-clause-reads
returns-clause-reads c = record {
  reads =
      object_reads (view c.in_ok-object.object) (data_of_line c.args.name.now c.args.forms.now c.args.line.now) c.in_ok-text.text.items
      c.in_ok-object.ensures (float-line c.args.name.now c.args.forms.now c.args.line.now) (depth-line c.args.name.now c.args.forms.now c.args.line.now) c.in_ok-text.ensures.text c.in_ok-text.ensures.reads_back;
  one_line = unended-line c.args.name.now c.args.forms.now c.args.line.now;
}
