-- Entries after a pass that shifts them.
use Rattle.std.proofs.Common.{◌≡◌, ℕ, ◌+◌, ◌-◌, ◌<◌, ◌≤◌, List, [], ◌∷◌, ◌++◌, length, length-append, length-drop, take, drop, get_or, map, ap, sym, refl, ◌∙◌, arith}
use Rattle.std.proofs.Math.ListN.{set}
use Rattle.std.proofs.lemmas.Bool.Decides.{nat_tests}
use Rattle.std.proofs.lemmas.List.{get_or_default, length-map, length-take-le}
use Rattle.std.proofs.lemmas.List.Edits.{map_over_more}
use Rattle.fits_header.specs.declared.entry.Entry.{Entry}
use Rattle.fits_header.specs.Index.{shifted}
use Rattle.fits_header.proofs.IndexLemmas.{all_written}

-- one more is mapped
pub mapped_more : (f : Entry → Entry) (old new : List Entry) (i : ℕ) (d moved : Entry) → i < length old → new ≡ map f (take i old) ++ drop i old → moved ≡ f (get_or new i d) → set new i moved ≡ map f (take (i + 1) old) ++ drop (i + 1) old
mapped_more f old new i d moved within so_far is =
    let size : length new ≡ length old = ap length so_far ∙ omega (arith, length-append (map f (take i old)) (drop i old), length-map (take i old) f, length-take-le i old (omega arith), length-drop i old) in
    ap (set new i) is ∙ map_over_more f old new i (get_or new i d) within so_far (get_or_default new i d (get_or new i d) (omega (arith, size, within)))

pub ruleset pass_steps = (mapped_more)

-- where a pass over all entries wrote what a function gives of each, that is what the vector has
pub pass_written : (f : Entry → Entry) (old seen new : List Entry) (n : ℕ) → n ≡ length old → seen ≡ old → new ≡ map f seen → take n (new ++ drop (length new) old) ≡ map f old
pass_written f old seen new n size same is =
    let all : new ≡ map f old = is ∙ ap (map f) same in
    all_written new old n (ap length all ∙ (length-map old f ∙ sym size)) ∙ all

-- an entry is as it was where none come
none_comes : (place : ℕ) (e : Entry) → shifted place 0 0 e ≡ e
none_comes place e = ap (λ (n : ℕ). record { name = e.name; place = n; has_value = e.has_value }) (grind (arith, nat_tests))

-- so all are
pub none_come : (place coming : ℕ) (es : List Entry) → coming ≡ 0 → es ≡ map (shifted place 0 coming) es
none_come place coming [] none = refl
none_come place coming (e ∷ es) none =
    let here : e ≡ shifted place 0 coming e = rw none (sym (none_comes place e)) in
    ap (λ (x : Entry). x ∷ es) here ∙ ap (λ (xs : List Entry). shifted place 0 coming e ∷ xs) (none_come place coming es none)

-- one that goes is made up for by one that comes
one_less : (place coming : ℕ) (e : Entry) → 1 ≤ place → 1 ≤ coming → shifted place 0 (coming - 1) e ≡ shifted place 1 coming e
one_less place coming e first some = ap (λ (n : ℕ). record { name = e.name; place = n; has_value = e.has_value }) (grind (arith, nat_tests))

-- so it is of all
pub one_less_comes : (place coming : ℕ) (es : List Entry) → 1 ≤ place → 1 ≤ coming → map (shifted place 0 (coming - 1)) es ≡ map (shifted place 1 coming) es
one_less_comes place coming [] first some = refl
one_less_comes place coming (e ∷ es) first some =
    ap (λ (x : Entry). x ∷ map (shifted place 0 (coming - 1)) es) (one_less place coming e first some) ∙ ap (λ (xs : List Entry). shifted place 1 coming e ∷ xs) (one_less_comes place coming es first some)

pub ruleset gap_steps = (none_come, one_less_comes)
