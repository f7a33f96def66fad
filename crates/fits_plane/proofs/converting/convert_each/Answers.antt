use Rattle.std.proofs.Common.{ap, arith, inl, inr, of_z, refl, rules, subst, sym, to_z, ℕ, ℤ, ◌+◌, ◌<◌, ◌∙◌, ◌≡◌, ◌≤◌}
use Rattle.std.proofs.Math.Nat.{mul-le-mul_right}
use Rattle.std.proofs.lemmas.Bool.{cases_lt}
use Rattle.std.proofs.lemmas.Int.{to_z-of_z}
use Rattle.std.specs.Int.{w128, w64}
use Rattle.std.specs.Prelude.{◌+ℤ◌}
use Rattle.fits_pixels.proofs.PixelLemmas.{storable_fits}
use Rattle.fits_pixels.specs.Pixels.{IsStorable, pixel}
use Rattle.fits_plane.proofs.StoreLemmas.{read_more}
use Rattle.fits_plane.proofs.WriteLemmas.{row_more}
use Rattle.fits_plane.specs.DataBytes.{DataState}
use Rattle.fits_plane.proofs.converting.convert_each.Goals as goal

-- one number more is stored
pub loop-x-preserved : goal.loop-x-preserved
loop-x-preserved c =
    let v = c.loop-x.invariant in
    let e = c.put.ensures in
    let w : ℕ = c.args.width in
    let shift : ℤ = to_z w128 (of_z w128 c.args.shift) in
    let seen : c.pixel.result ≡ pixel c.args.from c.args.store.now.bytes (c.args.start + c.loop-x.x) =
    c.pixel.ensures.value ∙ ap (λ (s : DataState). pixel c.args.from s.bytes (c.args.start + c.loop-x.x)) v.work in
    let value : c.value_of-number.result ≡ pixel c.args.from c.args.store.now.bytes (c.args.start + c.loop-x.x) +ℤ shift = search rules in
    let z : ℤ = to_z w128 (of_z w128 c.value_of-number.result) in
    let whole : z ≡ pixel c.args.from c.args.store.now.bytes (c.args.start + c.loop-x.x) +ℤ shift = to_z-of_z w128 c.value_of-number.result (record { sfits = c.value_of-number.type_inv }) ∙ value in
    let stored : IsStorable w z = c.is_storable.ensures.means.0 c.if-not-is_storable.false in
    let small = to_z-of_z w64 z (storable_fits w z c.requires.width stored) in
    record {
      same_reference = e.same_reference ∙ v.same_reference;
      stored = row_more w c.args.start c.loop-x.x _ _ c.args.pixels.now.bytes.now c.loop-x.pixels.bytes.now c.put.new.self.bytes.now v.stored (small ∙ whole) e.long e.here e.other;
      fit = λ y b. elim (cases_lt y c.loop-x.x) [
        | inl lt ↦ v.fit y lt
        | inr ge ↦
            let here : c.loop-x.x ≡ y = omega (arith, b, ge) in
            subst (λ m. IsStorable w (pixel c.args.from c.args.store.now.bytes (c.args.start + m) +ℤ shift)) here (subst (IsStorable w) whole stored)
      ];
      work = read_more c.args.store.now c.loop-x.store c.pixel.new.self c.loop-x.x 1 v.work c.pixel.ensures.work;
    }

-- a number that can be stored is small
pub overflow_cast-number : goal.overflow_cast-number
overflow_cast-number c = storable_fits c.args.width _ c.requires.width (c.is_storable.ensures.means.0 c.if-not-is_storable.false)

pub put-requires-clause-storable : goal.put-requires-clause-storable
put-requires-clause-storable c =
    let z : ℤ = to_z w128 (of_z w128 c.value_of-number.result) in
    let stored : IsStorable c.args.width z = c.is_storable.ensures.means.0 c.if-not-is_storable.false in
    subst (IsStorable c.args.width) (sym (to_z-of_z w64 z (storable_fits c.args.width z c.requires.width stored))) stored

-- the number at hand can't be stored
pub returns-then-not-is_storable-clause-means : goal.returns-then-not-is_storable-clause-means
returns-then-not-is_storable-clause-means c =
    let w : ℕ = c.args.width in
    let shift : ℤ = to_z w128 (of_z w128 c.args.shift) in
    let seen : c.pixel.result ≡ pixel c.args.from c.args.store.now.bytes (c.args.start + c.loop-x.x) =
    c.pixel.ensures.value ∙ ap (λ (s : DataState). pixel c.args.from s.bytes (c.args.start + c.loop-x.x)) c.loop-x.invariant.work in
    let value : c.value_of-number.result ≡ pixel c.args.from c.args.store.now.bytes (c.args.start + c.loop-x.x) +ℤ shift = search rules in
    let whole = to_z-of_z w128 c.value_of-number.result (record { sfits = c.value_of-number.type_inv }) ∙ value
    ∙ ap (λ s. pixel c.args.from c.args.store.now.bytes (c.args.start + c.loop-x.x) +ℤ s) (to_z-of_z w128 c.args.shift c.ranges.shift) in (
      λ t. absurd (cc t),
      λ all.
          let good = c.is_storable.ensures.means.1 (subst (IsStorable w) (sym whole) (all c.loop-x.x c.loop-x-test.true)) in
          let bad = c.if-not-is_storable.true in
          absurd (cc (good, bad)),
    )

-- those before it are stored
pub returns-then-not-is_storable-clause-outside : goal.returns-then-not-is_storable-clause-outside
returns-then-not-is_storable-clause-outside c = λ j away.
    let w : ℕ = c.args.width in
    let wide : c.args.start + c.loop-x.x ≤ c.args.start + c.args.count = omega (arith, c.loop-x-test.true) in
    let up = mul-le-mul_right w wide in
    c.loop-x.invariant.stored.outside j (elim away [ inl p ↦ inl p | inr p ↦ inr (omega (arith, up, p)) ])

-- all of them can be
pub returns-clause-means : goal.returns-clause-means
returns-clause-means c = (
  λ t x b.
      let near : x < c.loop-x.x = omega (arith, b, c.loop-x-test.false) in
      subst (λ s. IsStorable c.args.width (pixel c.args.from c.args.store.now.bytes (c.args.start + x) +ℤ s)) (to_z-of_z w128 c.args.shift c.ranges.shift) (c.loop-x.invariant.fit x near),
  λ all. refl,
)

-- and are
pub returns-clause-inside : goal.returns-clause-inside
returns-clause-inside c = λ t x b.
    let near : x < c.loop-x.x = omega (arith, b, c.loop-x-test.false) in
    c.loop-x.invariant.stored.inside x near ∙ ap (λ s. pixel c.args.from c.args.store.now.bytes (c.args.start + x) +ℤ s) (to_z-of_z w128 c.args.shift c.ranges.shift)
