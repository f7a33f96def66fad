-- What a header says of each part of the shape that it describes.
use Rattle.std.proofs.Common.{◌≡◌, ℕ, zero, suc, ◌+◌, ◌<◌, ◌≤◌, Bool, List, [], ◌∷◌, length, take, get_or, codes, Option, None, Some, ok_or, Ok, refl, ap, sym, ◌∙◌, subst, arith}
use Rattle.std.specs.Prelude.{ℤ}
use Rattle.std.specs.List.{EachIndex, range_with_len, slice_get}
use Rattle.std.proofs.lemmas.List.{take_more, take_all}
use Rattle.std.proofs.lemmas.Option.{slice_get-get_or}
use Rattle.fits_rules.specs.Lead.{lead_card, lead_or_end}
use Rattle.fits_rules.specs.Shape.{each, ◌>>=◌, first_card, bitpix_of, naxis_of, axis_of, axes_of, class_of, count_of, shape_of, Describes}
use Rattle.fits_rules.specs.declared.array_shape.Shape.{Shape}
use Rattle.fits_rules.proofs.AxesLemmas.{bind_ok, axes_begin, axes_more}

-- an option is there where no error stands for it
pub ok_or_ok : {X : Type 0} (o : Option X) (place : ℕ) (x : X) → ok_or o place ≡ Ok x → o ≡ Some x
ok_or_ok None place x e = absurd (cc)
ok_or_ok (Some y) place x e = cc

-- so many axes, each at its place
pub record AreAxes (cards : List (List ℕ)) (axes : List ℕ) (first count : ℕ) : Type 0 where
  pub count_is : length axes ≡ count
  pub placed : (n : ℕ) → n < count → axis_of cards (first + n) ≡ slice_get axes n

-- one more axis ahead of the others
axes_ahead : (cards : List (List ℕ)) (axes : List ℕ) (first count axis : ℕ) → axis_of cards first ≡ Some axis → AreAxes cards axes (first + 1) count → AreAxes cards (axis ∷ axes) first (suc count)
axes_ahead cards axes first count axis here rest = record { count_is = ap suc rest.count_is; placed = at }
  where
    at : (n : ℕ) → n < suc count → axis_of cards (first + n) ≡ slice_get (axis ∷ axes) n
    at zero within = let same : first + 0 ≡ first = omega arith in ap (axis_of cards) same ∙ here
    at (suc n) within = let same : first + suc n ≡ first + 1 + n = omega arith in ap (axis_of cards) same ∙ rest.placed n (omega arith)

-- the axes that were found, one after another
axes_from : (cards : List (List ℕ)) (count first : ℕ) (axes : List ℕ) → each (λ n. ok_or (axis_of cards n) (3 + n)) (range_with_len first count) ≡ Ok axes → AreAxes cards axes first count
axes_from cards zero first axes e =
    let none : [] ≡ axes = cc in
    subst (λ (xs : List ℕ). AreAxes cards xs first 0) none (record { count_is = refl; placed = λ n within. absurd (omega arith) })
axes_from cards (suc count) first axes e =
    let head = bind_ok (ok_or (axis_of cards first) (3 + first)) (λ (y : ℕ). each (λ n. ok_or (axis_of cards n) (3 + n)) (range_with_len (first + 1) count) >>= (λ (ys : List ℕ). Ok (y ∷ ys))) axes e in
    let tail = bind_ok (each (λ n. ok_or (axis_of cards n) (3 + n)) (range_with_len (first + 1) count)) (λ (ys : List ℕ). Ok (head.0 ∷ ys)) axes head.2 in
    let whole : head.0 ∷ tail.0 ≡ axes = let same : Ok (head.0 ∷ tail.0) ≡ Ok axes = tail.2 in cc in
    subst (λ (xs : List ℕ). AreAxes cards xs first (suc count)) whole
    (axes_ahead cards tail.0 first count head.0 (ok_or_ok (axis_of cards first) (3 + first) head.0 head.1) (axes_from cards count (first + 1) tail.0 tail.1))

-- axes that were found are as many as NAXIS says
axes_are : (cards : List (List ℕ)) (naxis : ℕ) (axes : List ℕ) → axes_of cards naxis ≡ Ok axes → AreAxes cards axes 1 naxis
unfolding axes_of
axes_are cards naxis axes e = axes_from cards naxis 1 axes e

-- axes that are there are found
axes_to : (cards : List (List ℕ)) (axes : List ℕ) → EachIndex axes (λ n. axis_of cards (n + 1) ≡ slice_get axes n) → (i : ℕ) → i ≤ length axes → axes_of cards i ≡ Ok (take i axes)
axes_to cards axes there zero within = axes_begin cards
axes_to cards axes there (suc i) within =
    let here : Some (get_or axes i 0) ≡ axis_of cards (i + 1) = sym (there i (omega arith) ∙ slice_get-get_or axes i 0 (omega arith)) in
    let next : suc i ≡ i + 1 = omega arith in
    ap (axes_of cards) next ∙ (axes_more cards i (get_or axes i 0) (take i axes) (axes_to cards axes there i (omega arith)) here
    ∙ ap Ok (sym (take_more axes i 0 (omega arith)) ∙ ap (λ (k : ℕ). take k axes) (sym next)))

-- as many as there are
axes_found : (cards : List (List ℕ)) (axes : List ℕ) → EachIndex axes (λ n. axis_of cards (n + 1) ≡ slice_get axes n) → axes_of cards (length axes) ≡ Ok axes
axes_found cards axes there = axes_to cards axes there (length axes) (omega arith) ∙ ap Ok (take_all (length axes) axes (omega arith))

-- the parts of a shape are what the cards say
parts_described : (primary : Bool) (cards : List (List ℕ)) (first : List ℕ) (bitpix : ℤ) (naxis : ℕ) (axes : List ℕ) (pcount gcount : ℕ)
    → first_card primary cards ≡ Some first → bitpix_of cards ≡ Some bitpix → naxis_of cards ≡ Some naxis → axes_of cards naxis ≡ Ok axes
    → (let class = class_of primary first axes (lead_card cards (codes "GROUPS  ")) in
    count_of class (lead_card cards (codes "PCOUNT  ")) 0 ≡ Some pcount → count_of class (lead_card cards (codes "GCOUNT  ")) 1 ≡ Some gcount
    → Describes primary cards (record { class = class; bitpix = bitpix; axes = axes; pcount = pcount; gcount = gcount }))
parts_described primary cards first bitpix naxis axes pcount gcount f b n a p g =
    let are : AreAxes cards axes 1 naxis = axes_are cards naxis axes a in
    record {
      first = first;
      begins = f;
      bitpix = b;
      naxis = n ∙ ap Some (sym are.count_is);
      axes = λ i within. let same : i + 1 ≡ 1 + i = omega arith in ap (axis_of cards) same ∙ are.placed i (omega (arith, are.count_is));
      class = refl;
      pcount = p;
      gcount = g;
    }

-- a header that has a shape describes it
pub described : (primary : Bool) (cards : List (List ℕ)) (shape : Shape) → shape_of primary cards ≡ Ok shape → Describes primary cards shape
unfolding shape_of
described primary cards shape e =
    let first = bind_ok (ok_or (first_card primary cards) 1) _ shape e in
    let bitpix = bind_ok (ok_or (bitpix_of cards) 2) _ shape first.2 in
    let naxis = bind_ok (ok_or (naxis_of cards) 3) _ shape bitpix.2 in
    let axes = bind_ok (axes_of cards naxis.0) _ shape naxis.2 in
    let class = class_of primary first.0 axes.0 (lead_card cards (codes "GROUPS  ")) in
    let p = count_of class (lead_card cards (codes "PCOUNT  ")) 0 in
    let g = count_of class (lead_card cards (codes "GCOUNT  ")) 1 in
    let pcount = bind_ok (ok_or p (lead_or_end cards (codes "PCOUNT  "))) _ shape axes.2 in
    let gcount = bind_ok (ok_or g (lead_or_end cards (codes "GCOUNT  "))) _ shape pcount.2 in
    let same : Path Shape (record { class = class; bitpix = bitpix.0; axes = axes.0; pcount = pcount.0; gcount = gcount.0 }) shape = cc in
    subst (Describes primary cards) same
    (parts_described primary cards first.0 bitpix.0 naxis.0 axes.0 pcount.0 gcount.0
    (ok_or_ok (first_card primary cards) 1 first.0 first.1) (ok_or_ok (bitpix_of cards) 2 bitpix.0 bitpix.1) (ok_or_ok (naxis_of cards) 3 naxis.0 naxis.1) axes.1
    (ok_or_ok p (lead_or_end cards (codes "PCOUNT  ")) pcount.0 pcount.1) (ok_or_ok g (lead_or_end cards (codes "GCOUNT  ")) gcount.0 gcount.1))

-- and what a header describes is its shape
pub describes : (primary : Bool) (cards : List (List ℕ)) (shape : Shape) → Describes primary cards shape → shape_of primary cards ≡ Ok shape
unfolding shape_of
describes primary cards shape d =
    rw (d.begins, d.bitpix, d.naxis, axes_found cards shape.axes d.axes, d.class, d.pcount, d.gcount) refl
