use Rattle.std.proofs.Common.{◌≡◌, drop}
use Rattle.serde_json.specs.View.{members_view}
use Rattle.fits_json.specs.Objects.{with_fields}
use Rattle.fits_json.proofs.objects.put_fields.Given as goal

abbrev pub invariant-loop-column : goal.invariant-loop-column
invariant-loop-column l =
    with_fields (drop l.column-index l.columns) l.rest (members_view l.members.entries) ≡ with_fields l.columns l.line (members_view l.fn.members.entries)
