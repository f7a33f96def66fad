-- A shape that is read in two parts: its first three cards, and what stands behind them.
use Rattle.std.proofs.Common.{◌≡◌, ℕ, Bool, false, List, length, codes, Option, None, Some, ok_or, Result, Ok, Err, refl, ap, sym, ◌∙◌}
use Rattle.std.specs.Prelude.{ℤ, IsTrue, ◌↔◌, IfOk, IfErr, OnOk}
use Rattle.std.proofs.lemmas.Bool.Decides.{same_from_decides}
use Rattle.fits_rules.specs.Lead.{AreLeads, lead_card, lead_or_end}
use Rattle.fits_rules.specs.SameShape.{same_shape}
use Rattle.fits_rules.specs.Shape.{◌>>=◌, first_card, bitpix_of, naxis_of, axes_of, class_of, count_of, shape_of}
use Rattle.fits_rules.specs.ShapeSteps.{front_of, reading_of, shape_read, written, IsReadingOf}
use Rattle.fits_rules.specs.declared.array_shape.Shape.{Shape}
use Rattle.fits_rules.specs.declared.class.Class.{Class}
use Rattle.fits_rules.specs.declared.reading.Front.{Front}
use Rattle.fits_rules.specs.declared.shape_leads.ShapeLeads.{ShapeLeads}
use Rattle.fits_rules.specs.declared.shape_reading.ShapeReading.{ShapeReading}
use Rattle.fits_rules.proofs.AxesLemmas.{bind_ok}
use Rattle.fits_rules.proofs.DescribesLemmas.{ok_or_ok, described}
use Rattle.fits_rules.proofs.SameShapeLemmas.{parts_of, same_shape-Decides}

-- the first three cards, where each is read after the ones before it
pub no_first : (primary : Bool) (cards : List (List ℕ)) → None ≡ first_card primary cards → Err 1 ≡ front_of primary cards
unfolding front_of
no_first primary cards none = rw (← none) refl

-- BITPIX breaks its rule
pub no_bitpix : (primary : Bool) (cards named : List (List ℕ)) (first : List ℕ) → named ≡ cards → Some first ≡ first_card primary cards → None ≡ bitpix_of named → Err 2 ≡ front_of primary cards
unfolding front_of
no_bitpix primary cards named first same f none = let b = rw same at none in rw (← f, ← b) refl

-- NAXIS breaks its rule
pub no_naxis : (primary : Bool) (cards named bits : List (List ℕ)) (first : List ℕ) (bitpix : ℤ) → named ≡ cards → bits ≡ cards → Some first ≡ first_card primary cards → Some bitpix ≡ bitpix_of named → None ≡ naxis_of bits → Err 3 ≡ front_of primary cards
unfolding front_of
no_naxis primary cards named bits first bitpix same still f b none =
    let b2 = rw same at b in let n = rw still at none in rw (← f, ← b2, ← n) refl

-- all three keep their rules
pub front_is : (primary : Bool) (cards named bits : List (List ℕ)) (first : List ℕ) (bitpix : ℤ) (naxis : ℕ) → named ≡ cards → bits ≡ cards → Some first ≡ first_card primary cards → Some bitpix ≡ bitpix_of named → Some naxis ≡ naxis_of bits
    → Ok (record { first = first; bitpix = bitpix; naxis = naxis }) ≡ front_of primary cards
unfolding front_of
front_is primary cards named bits first bitpix naxis same still f b n =
    let b2 = rw same at b in let n2 = rw still at n in rw (← f, ← b2, ← n2) refl

pub ruleset front_steps = (no_first, no_bitpix, no_naxis, front_is)

-- an axis breaks its rule
pub no_axes : (primary : Bool) (cards : List (List ℕ)) (leads : ShapeLeads) (front : Front) (place : ℕ) → Err place ≡ axes_of cards front.naxis → Err place ≡ reading_of primary cards leads front
unfolding reading_of
no_axes primary cards leads front place broken = rw (← broken) refl

-- the axes keep their rules
pub reading_is : (primary : Bool) (cards : List (List ℕ)) (leads : ShapeLeads) (front : Front) (axes slice : List ℕ) (class : Class) (pcount gcount : Option ℕ)
    → slice ≡ axes → Ok axes ≡ axes_of cards front.naxis → class ≡ class_of primary front.first slice leads.groups → pcount ≡ count_of class leads.pcount 0 → gcount ≡ count_of class leads.gcount 1
    → Ok (record { class = class; bitpix = front.bitpix; axes = axes; pcount = pcount; gcount = gcount }) ≡ reading_of primary cards leads front
unfolding reading_of
reading_is primary cards leads front axes slice class pcount gcount seen a c p g =
    let k = rw seen at c in
    rw (← a, p, g, k) refl

pub ruleset reading_steps = (no_axes, reading_is)

-- the lead of PCOUNT says no count
pub no_pcount : (cards : List (List ℕ)) (reading : ShapeReading) → reading.pcount ≡ None → shape_read cards reading ≡ Err (lead_or_end cards (codes "PCOUNT  "))
unfolding shape_read
no_pcount cards reading none = rw none refl

-- that of GCOUNT says none
pub no_gcount : (cards : List (List ℕ)) (reading : ShapeReading) (pcount : ℕ) → reading.pcount ≡ Some pcount → reading.gcount ≡ None → shape_read cards reading ≡ Err (lead_or_end cards (codes "GCOUNT  "))
unfolding shape_read
no_gcount cards reading pcount some none = rw (some, none) refl

-- both say one
pub both_counts : (cards : List (List ℕ)) (reading : ShapeReading) (pcount gcount : ℕ) → reading.pcount ≡ Some pcount → reading.gcount ≡ Some gcount
    → shape_read cards reading ≡ Ok (record { class = reading.class; bitpix = reading.bitpix; axes = reading.axes; pcount = pcount; gcount = gcount })
unfolding shape_read
both_counts cards reading pcount gcount p g = rw (p, g) refl

pub ruleset count_steps = (no_pcount, no_gcount, both_counts)

-- a reading of a shape is that shape
reading_shape : (cards : List (List ℕ)) (shape : Shape) (reading : ShapeReading) → IsReadingOf shape reading → shape_read cards reading ≡ Ok shape
reading_shape cards shape reading of =
    both_counts cards reading shape.pcount shape.gcount of.pcount of.gcount
    ∙ ap Ok (parts_of reading.class shape.class reading.bitpix shape.bitpix reading.axes shape.axes shape.pcount shape.pcount shape.gcount shape.gcount of.class of.bitpix of.axes refl refl)

-- and a shape that was read is that of its reading
shape_reading : (cards : List (List ℕ)) (shape : Shape) (reading : ShapeReading) → shape_read cards reading ≡ Ok shape → IsReadingOf shape reading
unfolding shape_read
shape_reading cards shape reading e =
    let pcount = bind_ok (ok_or reading.pcount (lead_or_end cards (codes "PCOUNT  "))) _ shape e in
    let gcount = bind_ok (ok_or reading.gcount (lead_or_end cards (codes "GCOUNT  "))) _ shape pcount.2 in
    let same : Path Shape (record { class = reading.class; bitpix = reading.bitpix; axes = reading.axes; pcount = pcount.0; gcount = gcount.0 }) shape = cc in
    let p = ok_or_ok reading.pcount (lead_or_end cards (codes "PCOUNT  ")) pcount.0 pcount.1 in
    let g = ok_or_ok reading.gcount (lead_or_end cards (codes "GCOUNT  ")) gcount.0 gcount.1 in
    record {
      class = ap (λ (s : Shape). s.class) same;
      bitpix = ap (λ (s : Shape). s.bitpix) same;
      axes = ap (λ (s : Shape). s.axes) same;
      pcount = p ∙ ap (λ (s : Shape). Some s.pcount) same;
      gcount = g ∙ ap (λ (s : Shape). Some s.gcount) same;
    }

-- values that follow one another, as parts of one
abbrev one_front : Result (List ℕ) ℕ → Result ℤ ℕ → Result ℕ ℕ → Result Front ℕ
one_front f b n = f >>= (λ first. b >>= (λ bitpix. n >>= (λ naxis. Ok (record { first = first; bitpix = bitpix; naxis = naxis }))))

-- what follows from them, taken one by one or together
in_front : {X : Type 0} (f : Result (List ℕ) ℕ) (b : Result ℤ ℕ) (n : Result ℕ ℕ) (next : List ℕ → ℤ → ℕ → Result X ℕ)
    → (f >>= (λ first. b >>= (λ bitpix. n >>= (λ naxis. next first bitpix naxis)))) ≡ (one_front f b n >>= (λ front. next front.first front.bitpix front.naxis))
in_front (Err place) b n next = refl
in_front (Ok first) (Err place) n next = refl
in_front (Ok first) (Ok bitpix) (Err place) next = refl
in_front (Ok first) (Ok bitpix) (Ok naxis) next = refl

-- from the axes
in_axes : (a : Result (List ℕ) ℕ) (reading : List ℕ → ShapeReading) (next : ShapeReading → Result Shape ℕ) → ((a >>= (λ axes. Ok (reading axes))) >>= next) ≡ (a >>= (λ axes. next (reading axes)))
in_axes (Err place) reading next = refl
in_axes (Ok axes) reading next = refl

-- what is left of a shape after its first three cards
abbrev behind : Bool → List (List ℕ) → List ℕ → ℤ → ℕ → Result Shape ℕ
behind primary cards first bitpix naxis =
    axes_of cards naxis >>= (λ axes.
    let class = class_of primary first axes (lead_card cards (codes "GROUPS  ")) in
    ok_or (count_of class (lead_card cards (codes "PCOUNT  ")) 0) (lead_or_end cards (codes "PCOUNT  ")) >>= (λ pcount.
    ok_or (count_of class (lead_card cards (codes "GCOUNT  ")) 1) (lead_or_end cards (codes "GCOUNT  ")) >>= (λ gcount.
    Ok (record { class = class; bitpix = bitpix; axes = axes; pcount = pcount; gcount = gcount }))))

-- a shape with its first three cards
by_front : (primary : Bool) (cards : List (List ℕ)) → shape_of primary cards ≡ (front_of primary cards >>= (λ front. behind primary cards front.first front.bitpix front.naxis))
unfolding shape_of front_of
by_front primary cards = in_front (ok_or (first_card primary cards) 1) (ok_or (bitpix_of cards) 2) (ok_or (naxis_of cards) 3) (behind primary cards)

-- what is left of it is read by the leads
by_leads : (primary : Bool) (cards : List (List ℕ)) (leads : ShapeLeads) (front : Front) → AreLeads cards leads → behind primary cards front.first front.bitpix front.naxis ≡ (reading_of primary cards leads front >>= shape_read cards)
unfolding reading_of shape_read
by_leads primary cards leads front are =
    rw (are.groups, are.pcount, are.gcount) (sym (in_axes (axes_of cards front.naxis)
    (λ axes.
    let class = class_of primary front.first axes (lead_card cards (codes "GROUPS  ")) in
    record { class = class; bitpix = front.bitpix; axes = axes; pcount = count_of class (lead_card cards (codes "PCOUNT  ")) 0; gcount = count_of class (lead_card cards (codes "GCOUNT  ")) 1 })
    (shape_read cards)))

-- the first three cards break a rule
pub no_front : (primary : Bool) (cards : List (List ℕ)) (place : ℕ) → Err place ≡ front_of primary cards → shape_of primary cards ≡ Err place
no_front primary cards place broken = by_front primary cards ∙ rw (← broken) refl

-- what was read behind them decides
pub read_on : (primary : Bool) (cards : List (List ℕ)) (leads : ShapeLeads) (front : Front) (r : Result ShapeReading ℕ) → AreLeads cards leads → Ok front ≡ front_of primary cards → r ≡ reading_of primary cards leads front → shape_of primary cards ≡ (r >>= shape_read cards)
read_on primary cards leads front r are f is =
    by_front primary cards ∙ rw (← f) (by_leads primary cards leads front are ∙ ap (λ (x : Result ShapeReading ℕ). x >>= shape_read cards) (sym is))

-- where it is read to its end
pub reads_on : (primary : Bool) (cards : List (List ℕ)) (leads : ShapeLeads) (front : Front) (r : Result ShapeReading ℕ) → AreLeads cards leads → Ok front ≡ front_of primary cards → r ≡ reading_of primary cards leads front → IfOk r (λ reading. shape_of primary cards ≡ shape_read cards reading)
reads_on primary cards leads front (Ok reading) are f is = read_on primary cards leads front (Ok reading) are f is
reads_on primary cards leads front (Err place) are f is = tt

-- and where an axis is broken
pub stops_on : (primary : Bool) (cards : List (List ℕ)) (leads : ShapeLeads) (front : Front) (r : Result ShapeReading ℕ) → AreLeads cards leads → Ok front ≡ front_of primary cards → r ≡ reading_of primary cards leads front → IfErr r (λ place. shape_of primary cards ≡ Err place)
stops_on primary cards leads front (Ok reading) are f is = tt
stops_on primary cards leads front (Err place) are f is = read_on primary cards leads front (Err place) are f is

-- what holds of what was written
pub written_ok : (r : Result Unit ℕ) (reading : ShapeReading) (P : ShapeReading → Type 0) → IfOk (written r reading) P → OnOk r (P reading)
written_ok (Ok done) reading P holds = holds
written_ok (Err place) reading P holds = tt

-- and of the place that broke its rule
pub written_err : (r : Result Unit ℕ) (reading : ShapeReading) (P : ℕ → Type 0) → IfErr (written r reading) P → IfErr r P
written_err (Ok done) reading P holds = tt
written_err (Err place) reading P holds = holds

-- NAXIS is among the first three cards
front_naxis : (primary : Bool) (cards : List (List ℕ)) (front : Front) → Ok front ≡ front_of primary cards → naxis_of cards ≡ Some front.naxis
unfolding front_of
front_naxis primary cards front e =
    let first = bind_ok (ok_or (first_card primary cards) 1) _ front (sym e) in
    let bitpix = bind_ok (ok_or (bitpix_of cards) 2) _ front first.2 in
    let naxis = bind_ok (ok_or (naxis_of cards) 3) _ front bitpix.2 in
    let same : Path Front (record { first = first.0; bitpix = bitpix.0; naxis = naxis.0 }) front = let e : Ok (record { first = first.0; bitpix = bitpix.0; naxis = naxis.0 }) ≡ Ok front = naxis.2 in cc in
    ok_or_ok (naxis_of cards) 3 naxis.0 naxis.1 ∙ ap (λ (f : Front). Some f.naxis) same

-- a broken rule leaves no shape
pub broken_differs : (shape : Shape) (described : Result Shape ℕ) (place : ℕ) → described ≡ Err place → false ≡ same_shape (Ok shape) described
unfolding same_shape
broken_differs shape described place broken = sym (ap (same_shape (Ok shape)) broken)

-- another number of axes is that of another shape
pub axes_differ : (primary : Bool) (cards : List (List ℕ)) (front : Front) (shape : Shape) → Ok front ≡ front_of primary cards → (front.naxis ≡ length shape.axes → ⊥) → false ≡ same_shape (Ok shape) (shape_of primary cards)
axes_differ primary cards front shape f other =
    same_from_decides false (same_shape (Ok shape) (shape_of primary cards)) (
      λ no. cc,
      λ e. absurd (other (let same : Some front.naxis ≡ Some (length shape.axes) = sym (front_naxis primary cards front f) ∙ (described primary cards shape e).naxis in cc)),
    )
    (same_shape-Decides shape (shape_of primary cards))

-- a comparison of what was read decides
pub reading_decides : (cards : List (List ℕ)) (shape : Shape) (reading : ShapeReading) (described : Result Shape ℕ) (r : Bool) → (IsTrue r ↔ IsReadingOf shape reading) → described ≡ shape_read cards reading → r ≡ same_shape (Ok shape) described
reading_decides cards shape reading described r exact is =
    same_from_decides r (same_shape (Ok shape) described) (
      λ yes. is ∙ reading_shape cards shape reading (exact.0 yes),
      λ e. exact.1 (shape_reading cards shape reading (sym is ∙ e)),
    )
    (same_shape-Decides shape described)
