use Rattle.std.proofs.Common.{◌≡◌, ◌∙◌, ap, sym, true, length, take, drop, rules, List, ℕ}
use Rattle.std.specs.Prelude.{not}
use Rattle.std.specs.Str.{bytes_eq}
use Rattle.fits_unit.proofs.AgainLemmas.{follows_on, load_follows}
use Rattle.fits_planning.proofs.FrontLemmas.{bytes_same, there_read}
use Rattle.fits_planning.proofs.reading.same_there.Goals as goal

pub returns-in_err-read_there-clause-follows : goal.returns-in_err-read_there-clause-follows
returns-in_err-read_there-clause-follows g c = load_follows c.args.place _ _ _ c.in_err-read_there.field-0.0 c.in_err-read_there.ensures.err

pub returns-then-ne-clause-follows : goal.returns-then-ne-clause-follows
returns-then-ne-clause-follows g c = follows_on c.args.place _ _ _ c.in_ok-read_there.ensures.are

pub returns-clause-follows : goal.returns-clause-follows
returns-clause-follows g c = follows_on c.args.place _ _ _ c.in_ok-read_there.ensures.are

pub returns-then-ne-clause-changed : goal.returns-then-ne-clause-changed
returns-then-ne-clause-changed g c told is changed same =
    let room : List ℕ = c.read_there.new.room in
    let read : take (length room) (drop c.args.place told) ≡ room = there_read told room c.args.place _ _ c.in_ok-read_there.ensures.are is in
    let long : length room ≡ length c.args.bytes.now = search rules in
    let alike : room ≡ c.args.bytes.now = sym read ∙ ap (λ n. take n (drop c.args.place told)) long ∙ same in
    let equal : bytes_eq room c.args.bytes.now ≡ true = ap (λ (l : List ℕ). bytes_eq room l) (sym alike) ∙ bytes_same room in
    let never : true ≡ not true = sym c.if-ne.true ∙ c.ne.ensures ∙ ap not equal in
    cc
