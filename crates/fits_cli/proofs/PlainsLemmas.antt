-- Plain lines that one line stands for, each done in its turn.
use Rattle.std.proofs.Common.{◌≡◌, ℕ, List, [], ◌∷◌, length, Bool, true, false, refl, ap, sym, ◌∙◌, inl, inr}
use Rattle.std.specs.Prelude.{◌==◌, ◌||◌, nat_lt, if◌then◌else◌}
use Rattle.fits_script.specs.Line.{reading_of}
use Rattle.fits_cli.specs.Answer.{Standing, done_last, is_last_done, line_left, still_at, AtOne, PlainNeedsMemory, PlainWantsData}
use Rattle.fits_cli.specs.Faults.{IsUnchanged}
use Rattle.fits_cli.specs.Running.{Heard, LacksOne, StopsAs}
use Rattle.fits_tell.specs.declared.fault.Fault.{Fault}
use Rattle.fits_tell.specs.declared.fault.Fault.TheVariants.{Refused, ScriptTooLong, Memory, ReadFailed, WriteFailed, Reread as RereadFault}

-- of one plain line that one is the last
pub done_last-one : (s : Standing) (plain : List ℕ) → done_last s (plain ∷ []) ≡ (s, plain)
unfolding done_last
done_last-one s plain = refl

-- they end at one after which they aren't gone on with
pub done_last-end : (s : Standing) (plain : List ℕ) (others : List (List ℕ)) → is_last_done s plain others ≡ true → done_last s (plain ∷ others) ≡ (s, plain)
unfolding done_last
done_last-end s plain others last = ap (λ (is : Bool). if is then (s, plain) else done_last (still_at s (reading_of plain)) others) last

-- and go on after another
pub done_last-more : (s : Standing) (plain : List ℕ) (others : List (List ℕ)) → is_last_done s plain others ≡ false → done_last s (plain ∷ others) ≡ done_last (still_at s (reading_of plain)) others
unfolding done_last
done_last-more s plain others more = ap (λ (is : Bool). if is then (s, plain) else done_last (still_at s (reading_of plain)) others) more

-- where there is none it is an empty one
pub done_last-none : (s : Standing) → done_last s [] ≡ (s, [])
unfolding done_last
done_last-none s = refl

-- so the last of all is this one, once the others before it are done
pub last_of : (first s : Standing) (plains rest others : List (List ℕ)) (plain : List ℕ) → done_last first plains ≡ done_last s rest → rest ≡ plain ∷ others
    → is_last_done s plain others ≡ true → done_last first plains ≡ (s, plain)
last_of first s plains rest others plain so_far cut last = so_far ∙ ap (done_last s) cut ∙ done_last-end s plain others last

-- or it is one of those after it
pub last_after : (first s next : Standing) (plains rest others : List (List ℕ)) (plain : List ℕ) → done_last first plains ≡ done_last s rest → rest ≡ plain ∷ others
    → is_last_done s plain others ≡ false → next ≡ still_at s (reading_of plain) → done_last first plains ≡ done_last next others
last_after first s next plains rest others plain so_far cut more is =
    so_far ∙ ap (done_last s) cut ∙ done_last-more s plain others more ∙ ap (λ (st : Standing). done_last st others) (sym is)

-- whether it is told by how many lines were refused
pub told_last : (s now : Standing) (plain : List ℕ) (others : List (List ℕ)) (count : ℕ) (last : Bool) (before after : ℕ) → last ≡ ((count == 0) || nat_lt before after)
    → count ≡ length others → before ≡ s.refused → after ≡ now.refused → now ≡ line_left s (reading_of plain) → is_last_done s plain others ≡ last
told_last s now plain others count last before after is count_is before_is after_is left =
    sym (is ∙ ap (λ (n : ℕ). (n == 0) || nat_lt before after) count_is ∙ ap (λ (n : ℕ). (length others == 0) || nat_lt n after) before_is
    ∙ ap (λ (n : ℕ). (length others == 0) || nat_lt s.refused n) (after_is ∙ ap (λ (st : Standing). st.refused) left))

-- how things stand as the next one comes
pub stays_at : (s now next : Standing) (plain : List ℕ) (number : ℕ) → now ≡ line_left s (reading_of plain) → next ≡ record now { line = number } → number ≡ s.line → next ≡ still_at s (reading_of plain)
stays_at s now next plain number left is at_line =
    is ∙ ap (λ (st : Standing). record st { line = number }) left ∙ ap (λ (n : ℕ). record (line_left s (reading_of plain)) { line = n }) at_line

-- what is so at one line alone
pub at_one : (Is : Standing → List ℕ → Type 0) (s : Standing) (plain : List ℕ) → AtOne Is s (plain ∷ []) → Is s plain
unfolding AtOne
at_one Is s plain (inl is) = is
at_one Is s plain (inr later) = absurd (let e : true ≡ false = later.0 in cc)

-- what is so at the first is at one
pub at_first : (Is : Standing → List ℕ → Type 0) (s : Standing) (plain : List ℕ) (others : List (List ℕ)) → Is s plain → AtOne Is s (plain ∷ others)
unfolding AtOne
at_first Is s plain others is = inl is

-- so is what is so at a later one
pub at_later : (Is : Standing → List ℕ → Type 0) (s : Standing) (plain : List ℕ) (others : List (List ℕ)) → is_last_done s plain others ≡ false
    → AtOne Is (still_at s (reading_of plain)) others → AtOne Is s (plain ∷ others)
unfolding AtOne
at_later Is s plain others more is = inr (more, is)

-- where there is none, at an empty one
pub at_none : (Is : Standing → List ℕ → Type 0) (s : Standing) → Is s [] → AtOne Is s []
unfolding AtOne
at_none Is s is = is

-- what follows from it is so there
AtOne-weaker : (Is So : Standing → List ℕ → Type 0) (f : (s : Standing) (plain : List ℕ) → Is s plain → So s plain) (s : Standing) (plains : List (List ℕ)) → AtOne Is s plains → AtOne So s plains
unfolding AtOne
AtOne-weaker Is So f s [] is = f s [] is
AtOne-weaker Is So f s (plain ∷ others) (inl is) = inl (f s plain is)
AtOne-weaker Is So f s (plain ∷ others) (inr later) = inr (later.0, AtOne-weaker Is So f (still_at s (reading_of plain)) others later.1)

-- and what follows whatever the line
AtOne-so : (Is : Standing → List ℕ → Type 0) (So : Type 0) (f : (s : Standing) (plain : List ℕ) → Is s plain → So) (s : Standing) (plains : List (List ℕ)) → AtOne Is s plains → So
unfolding AtOne
AtOne-so Is So f s [] is = f s [] is
AtOne-so Is So f s (plain ∷ others) (inl is) = f s plain is
AtOne-so Is So f s (plain ∷ others) (inr later) = AtOne-so Is So f (still_at s (reading_of plain)) others later.1

-- one of plain lines has no answer
pub StopsAs-one : (text : List ℕ) (s : Standing) (plains : List (List ℕ)) (held : Heard) (fault : Fault) → AtOne (LacksOne fault) s plains
    → StopsAs text (AtOne PlainNeedsMemory s plains) (AtOne PlainWantsData s plains) held held fault
StopsAs-one text s plains held (Refused why) lacks = AtOne-so (LacksOne (Refused why)) ⊥ (λ s plain is. is) s plains lacks
StopsAs-one text s plains held ScriptTooLong lacks = AtOne-so (LacksOne ScriptTooLong) ⊥ (λ s plain is. is) s plains lacks
StopsAs-one text s plains held Memory lacks = (AtOne-weaker (LacksOne Memory) PlainNeedsMemory (λ s plain is. is) s plains lacks, refl)
StopsAs-one text s plains held ReadFailed lacks = AtOne-so (LacksOne ReadFailed) ⊥ (λ s plain is. is) s plains lacks
StopsAs-one text s plains held WriteFailed lacks = absurd (AtOne-so (LacksOne WriteFailed) ⊥ (λ s plain is. is) s plains lacks)
StopsAs-one text s plains held (RereadFault why) lacks = (
  AtOne-so (LacksOne (RereadFault why)) (IsUnchanged why) (λ s plain is. is.0) s plains lacks,
  (AtOne-weaker (LacksOne (RereadFault why)) PlainWantsData (λ s plain is. is.1) s plains lacks, refl),
)
