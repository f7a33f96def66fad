-- One axis of the walk that finds where a row of a rectangle begins.
use Rattle.std.proofs.Common.{◌≡◌, ◌<◌, ◌≤◌, ℕ, zero, suc, ◌+◌, ◌-◌, ◌*◌, ◌/◌, ◌%◌, List, [], ◌∷◌, length, drop, get_or, refl, arith, sym, ◌∙◌}
use Rattle.std.proofs.Math.Nat.{mul-le-mul_left, div-lt_iff_lt-mul}
use Rattle.std.proofs.lemmas.List.{drop_more, length-drop}
use Rattle.fits_plane.proofs.RowLemmas.{product_some, rectangle_size_some}
use Rattle.fits_plane.specs.Rectangle.{product, place, rectangle_size, IsRectangle}

-- each axis has its two corners
pub record SameLengths (axs ls hs : List ℕ) : Type 0 where
  pub low : length ls ≡ length axs
  pub high : length hs ≡ length axs

-- by the corners
pub same_lengths : (axs ls hs : List ℕ) → IsRectangle axs ls hs → SameLengths axs ls hs
same_lengths [] [] [] r = record { low = refl; high = refl }
same_lengths (a ∷ axs) (l ∷ ls) (h ∷ hs) r = let ih = same_lengths axs ls hs r.3 in record { low = omega (arith, ih.low); high = omega (arith, ih.high) }
same_lengths _ _ _ r = elim r [ ]

-- what one axis with its corners gives
pub record Turn (a l h : ℕ) (axs ls hs : List ℕ) (start stride left whole target : ℕ) : Type 0 where
  pub some : 1 ≤ l
  pub side : l ≤ h
  pub room : h ≤ a
  pub rest : IsRectangle axs ls hs
  pub within : left / (h + 1 - l) < rectangle_size ls hs
  pub step_fits : stride * (l - 1 + left % (h + 1 - l)) ≤ target
  pub start_fits : start + stride * (l - 1 + left % (h + 1 - l)) ≤ target
  pub stride_fits : stride * a ≤ whole
  pub span : stride * a * product axs ≡ whole
  pub found : start + stride * (l - 1 + left % (h + 1 - l)) + stride * a * place axs ls hs (left / (h + 1 - l)) ≡ target

-- by the first axis that is left
turn_of : (a l h : ℕ) (axs ls hs : List ℕ) (start stride left whole target : ℕ) → IsRectangle (a ∷ axs) (l ∷ ls) (h ∷ hs) → left < rectangle_size (l ∷ ls) (h ∷ hs)
    → stride * product (a ∷ axs) ≡ whole → start + stride * place (a ∷ axs) (l ∷ ls) (h ∷ hs) left ≡ target → Turn a l h axs ls hs start stride left whole target
turn_of a l h axs ls hs start stride left whole target r w s f =
    let n : ℕ = h + 1 - l in
    let some : 0 < n = omega (arith, r.0, r.1) in
    let c : ℕ = l - 1 + left % n in
    let p : ℕ = place axs ls hs (left / n) in
    let more = mul-le-mul_left (stride * a) (product_some axs ls hs r.3) in
    let out : stride * (c + a * p) ≡ stride * c + stride * a * p = omega arith in
    let across : stride * (a * product axs) ≡ stride * a * product axs = omega arith in
    record {
      some = r.0;
      side = r.1;
      room = r.2;
      rest = r.3;
      within = (div-lt_iff_lt-mul some).1 (omega (arith, w));
      step_fits = omega (arith, f, out);
      start_fits = omega (arith, f, out);
      stride_fits = omega (arith, s, across, more);
      span = sym across ∙ s;
      found = omega (arith, f, out);
    }

-- by the axis at a place
pub turn : (axes lo hi : List ℕ) (i start stride left whole target : ℕ) → i < length axes → IsRectangle (drop i axes) (drop i lo) (drop i hi)
    → left < rectangle_size (drop i lo) (drop i hi) → stride * product (drop i axes) ≡ whole
    → start + stride * place (drop i axes) (drop i lo) (drop i hi) left ≡ target
    → Turn (get_or axes i 0) (get_or lo i 0) (get_or hi i 0) (drop (i + 1) axes) (drop (i + 1) lo) (drop (i + 1) hi) start stride left whole target
turn axes lo hi i start stride left whole target h r w s f =
    let same = same_lengths (drop i axes) (drop i lo) (drop i hi) r in
    let hl : i < length lo = omega (arith, same.low, length-drop i lo, length-drop i axes) in
    let hh : i < length hi = omega (arith, same.high, length-drop i hi, length-drop i axes) in
    let ea = drop_more axes i 0 h in
    let el = drop_more lo i 0 hl in
    let eh = drop_more hi i 0 hh in
    turn_of _ _ _ _ _ _ start stride left whole target (rw (ea, el, eh) at r) (rw (el, eh) at w) (rw ea at s) (rw (ea, el, eh) at f)

-- the axis lies in the whole, where the stride is above zero or the whole is
pub room_whole : (a l h : ℕ) (axs ls hs : List ℕ) (start stride left whole target : ℕ) → Turn a l h axs ls hs start stride left whole target → 1 ≤ stride → a ≤ whole
room_whole a l h axs ls hs start stride left whole target t p = let more = mul-le-mul_left a p in omega (arith, t.stride_fits, more)

-- what one axis with its corners gives to the size
pub record Side (l h : ℕ) (axs ls hs : List ℕ) (size all : ℕ) : Type 0 where
  pub side : l ≤ h + 1
  pub rest : IsRectangle axs ls hs
  pub fits : size * (h + 1 - l) ≤ all
  pub whole : size * (h + 1 - l) * rectangle_size ls hs ≡ all

-- by the first axis that is left
side_at : (a l h : ℕ) (axs ls hs : List ℕ) (size whole : ℕ) → IsRectangle (a ∷ axs) (l ∷ ls) (h ∷ hs) → size * rectangle_size (l ∷ ls) (h ∷ hs) ≡ whole → Side l h axs ls hs size whole
side_at a l h axs ls hs size whole r e =
    let across : size * ((h + 1 - l) * rectangle_size ls hs) ≡ size * (h + 1 - l) * rectangle_size ls hs = omega arith in
    let more = mul-le-mul_left (size * (h + 1 - l)) (rectangle_size_some axs ls hs r.3) in
    record { side = omega (arith, r.1); rest = r.3; fits = omega (arith, e, across, more); whole = sym across ∙ e }

-- by the axis at a place
pub side_of : (axes lo hi : List ℕ) (i size whole : ℕ) → i < length axes → IsRectangle (drop i axes) (drop i lo) (drop i hi) → size * rectangle_size (drop i lo) (drop i hi) ≡ whole
    → Side (get_or lo i 0) (get_or hi i 0) (drop (i + 1) axes) (drop (i + 1) lo) (drop (i + 1) hi) size whole
side_of axes lo hi i size whole h r w =
    let same = same_lengths (drop i axes) (drop i lo) (drop i hi) r in
    let hl : i < length lo = omega (arith, same.low, length-drop i lo, length-drop i axes) in
    let hh : i < length hi = omega (arith, same.high, length-drop i hi, length-drop i axes) in
    let ea = drop_more axes i 0 h in
    let el = drop_more lo i 0 hl in
    let eh = drop_more hi i 0 hh in
    side_at (get_or axes i 0) _ _ _ _ _ size whole (rw (ea, el, eh) at r) (rw (el, eh) at w)

-- a corner lies in the whole
pub corner_room : (axs ls hs : List ℕ) (i : ℕ) → IsRectangle axs ls hs → i < length axs → get_or hs i 0 ≤ product axs
corner_room [] [] [] i r b = absurd (omega arith)
corner_room (a ∷ axs) (l ∷ ls) (h ∷ hs) zero r b = let more = mul-le-mul_left a (product_some axs ls hs r.3) in omega (arith, more, r.2)
corner_room (a ∷ axs) (l ∷ ls) (h ∷ hs) (suc i) r b =
    let ih = corner_room axs ls hs i r.3 (omega arith) in
    let some : 1 ≤ a = omega (arith, r.0, r.1, r.2) in
    let more = mul-le-mul_left (product axs) some in
    omega (arith, ih, more)
corner_room _ _ _ i r b = elim r [ ]
