-- Elements of a list packed at its front, those that stay, one by one.
use Rattle.std.proofs.Common.{◌≡◌, ℕ, ◌+◌, ◌<◌, ◌≤◌, Bool, true, false, List, [], ◌∷◌, ◌++◌, length, take, drop, get_or, map, filter, ap, sym, ◌∙◌, arith}
use Rattle.std.proofs.Math.ListN.{set}
use Rattle.std.proofs.lemmas.Bool.{cond-true, cond-false}
use Rattle.std.proofs.lemmas.List.{append-nil, take-set, take_more_set, drop-set-lt, get_or-drop, map-append, drop-drop}
use Rattle.std.proofs.lemmas.List.{take-append-drop}
use Rattle.std.proofs.lemmas.List.Elements.{filter_more, filter-append}
use Rattle.fits_header.specs.declared.entry.Entry.{Entry}
use Rattle.fits_header.specs.Index.{shifted, stays}

-- where the rests are the same, so are their first elements
pub same_next : {X : Type 0} (xs ys : List X) (i : ℕ) (d : X) → drop i xs ≡ drop i ys → get_or xs i d ≡ get_or ys i d
same_next {X = X} xs ys i d e =
    let at : i + 0 ≡ i = omega arith in
    ap (λ (k : ℕ). get_or xs k d) (sym at) ∙ (sym (get_or-drop i xs 0 d) ∙ (ap (λ (zs : List X). get_or zs 0 d) e ∙ (get_or-drop i ys 0 d ∙ ap (λ (k : ℕ). get_or ys k d) at)))

-- one more that stays
pub packed-yes : {X : Type 0} (p : X → Bool) (f : X → X) (old new : List X) (kept i : ℕ) (d moved : X) → kept ≤ i → i < length old → length new ≡ length old → take kept new ≡ map f (filter p (take i old))
    → p (get_or old i d) ≡ true → moved ≡ f (get_or old i d) → take (kept + 1) (set new kept moved) ≡ map f (filter p (take (i + 1) old))
packed-yes {X = X} p f old new kept i d moved few within size packed stays is =
    take_more_set new kept moved (omega (arith, size))
    ∙ (ap (λ (xs : List X). xs ++ moved ∷ []) packed
    ∙ (ap (λ (x : X). map f (filter p (take i old)) ++ x ∷ []) is
    ∙ (sym (map-append f (filter p (take i old)) (get_or old i d ∷ []))
    ∙ ap (map f) (sym (filter_more p old i d within ∙ ap (λ (xs : List X). filter p (take i old) ++ xs) (cond-true (p (get_or old i d)) (get_or old i d ∷ []) [] stays))))))

-- one more that goes
pub packed-no : {X : Type 0} (p : X → Bool) (f : X → X) (old new : List X) (kept i : ℕ) (d moved : X) → i < length old → take kept new ≡ map f (filter p (take i old))
    → p (get_or old i d) ≡ false → take (kept + 0) (set new kept moved) ≡ map f (filter p (take (i + 1) old))
packed-no {X = X} p f old new kept i d moved within packed goes =
    let same : kept + 0 ≡ kept = omega arith in
    ap (λ (k : ℕ). take k (set new kept moved)) same
    ∙ (take-set new kept moved
    ∙ (packed
    ∙ ap (map f) (sym (filter_more p old i d within ∙ (ap (λ (xs : List X). filter p (take i old) ++ xs) (cond-false (p (get_or old i d)) (get_or old i d ∷ []) [] goes) ∙ append-nil (filter p (take i old)))))))

-- the rest is as it was
pub packed_rest : {X : Type 0} (old new : List X) (kept i : ℕ) (moved : X) → kept ≤ i → drop i new ≡ drop i old → drop (i + 1) (set new kept moved) ≡ drop (i + 1) old
packed_rest {X = X} old new kept i moved few rest =
    drop-set-lt (i + 1) new kept moved (omega arith) ∙ (sym (drop-drop 1 i new) ∙ (ap (drop 1) rest ∙ drop-drop 1 i old))

-- what stays of the first ones and of the others
pub stay_apart : (place removed coming first : ℕ) (es : List Entry)
    → map (shifted place removed coming) (filter (stays place removed) es) ≡ map (shifted place removed coming) (filter (stays place removed) (take first es)) ++ map (shifted place removed coming) (filter (stays place removed) (drop first es))
stay_apart place removed coming first es =
    ap (λ (xs : List Entry). map (shifted place removed coming) (filter (stays place removed) xs)) (sym (take-append-drop first es))
    ∙ (ap (map (shifted place removed coming)) (filter-append (stays place removed) (take first es) (drop first es))
    ∙ map-append (shifted place removed coming) (filter (stays place removed) (take first es)) (filter (stays place removed) (drop first es)))

-- two parts that are the same are the same together
pub parts_same : {X : Type 0} {xs us ys vs : List X} → xs ≡ us → ys ≡ vs → xs ++ ys ≡ us ++ vs
parts_same {X = X} {us = us} {ys = ys} e f = ap (λ (zs : List X). zs ++ ys) e ∙ ap (λ (zs : List X). us ++ zs) f
