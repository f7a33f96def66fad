-- Cards of the same names and values: their entries are the same.
use Rattle.std.proofs.Common.{◌≡◌, ℕ, ◌+◌, ◌-◌, ◌≤◌, ◌<◌, List, [], ◌∷◌, ◌++◌, length, take, drop, get_or, map, filter, ap, sym, ◌∙◌, refl, arith, subst, Bool, false}
use Rattle.std.proofs.lemmas.List.{length-map, take_more, map-append, get_or-map}
use Rattle.std.proofs.lemmas.List.Elements.{All-take, All-drop}
use Rattle.fits_card.specs.Card.{keyword_name, has_value}
use Rattle.fits_card.specs.Change.{spliced}
use Rattle.fits_codes.specs.Mark.{mark_of}
use Rattle.fits_header.specs.Index.{HaveSameKeys, IsIndexOf, entry_of, entries_from, is_named}
use Rattle.fits_header.specs.Names.{AreNamed, IsName, name_number}
use Rattle.fits_header.specs.Notes.{note_of, notes_of}
use Rattle.fits_header.specs.declared.note.Note.{Note}
use Rattle.fits_header.specs.declared.entry.Entry.{Entry}
use Rattle.fits_header.proofs.ChangeLemmas.{All-spliced}
use Rattle.fits_header.proofs.EntriesLemmas.{entries-append, parts_of}

-- the name that a note keeps, and whether there is a value
abbrev pub name_in : Note → List ℕ
name_in note = note.mark.name

abbrev pub value_in : Note → Bool
value_in note = note.mark.has_value

-- one more of two lists that are alike so far
pub alike-more : {X Y Z : Type 0} (f : X → Z) (g : Y → Z) (xs : List X) (ys : List Y) (i : ℕ) (d : X) (e : Y) → i + 1 ≤ length xs → i + 1 ≤ length ys
    → map f (take i xs) ≡ map g (take i ys) → f (get_or xs i d) ≡ g (get_or ys i e) → map f (take (i + 1) xs) ≡ map g (take (i + 1) ys)
alike-more {Z = Z} f g xs ys i d e fits reach before here =
    ap (map f) (take_more xs i d (omega arith)) ∙ (map-append f (take i xs) (get_or xs i d ∷ [])
    ∙ (ap (λ (zs : List Z). zs ++ f (get_or xs i d) ∷ []) before ∙ (ap (λ (z : Z). map g (take i ys) ++ z ∷ []) here
    ∙ sym (ap (map g) (take_more ys i e (omega arith)) ∙ map-append g (take i ys) (get_or ys i e ∷ [])))))

-- a card's own name is in its note
pub name_noted : (card : List ℕ) → name_in (note_of card) ≡ keyword_name card
unfolding mark_of
name_noted card = refl

-- the names in the notes of cards are theirs
pub names_in-notes : (cards : List (List ℕ)) → map name_in (notes_of cards) ≡ map keyword_name cards
unfolding mark_of
names_in-notes [] = refl
names_in-notes (card ∷ cards) = ap (λ (names : List (List ℕ)). keyword_name card ∷ names) (names_in-notes cards)

-- and so are the values
pub values_in-notes : (cards : List (List ℕ)) → map value_in (notes_of cards) ≡ map has_value cards
unfolding mark_of
values_in-notes [] = refl
values_in-notes (card ∷ cards) = ap (λ (values : List Bool). has_value card ∷ values) (values_in-notes cards)

-- cards of the same keys have the same entries
entries-same : (p : ℕ) (xs ys : List (List ℕ)) → HaveSameKeys xs ys → entries_from p ys ≡ entries_from p xs
entries-same p [] [] same = refl
entries-same p [] (y ∷ ys) same = let sizes = ap length same.names in absurd (omega (arith, sizes))
entries-same p (x ∷ xs) [] same = let sizes = ap length same.names in absurd (omega (arith, sizes))
entries-same p (x ∷ xs) (y ∷ ys) same =
    let name : keyword_name x ≡ keyword_name y = ap (λ (names : List (List ℕ)). get_or names 0 []) same.names in
    let value : has_value x ≡ has_value y = ap (λ (values : List Bool). get_or values 0 false) same.values in
    let others : HaveSameKeys xs ys = record { names = ap (drop 1) same.names; values = ap (drop 1) same.values } in
    let first : entry_of y p ≡ entry_of x p =
    ap (λ (n : List ℕ). record { name = name_number n; place = p; has_value = has_value y }) (sym name)
    ∙ ap (λ (v : Bool). record { name = name_number (keyword_name x); place = p; has_value = v }) (sym value) in
    ap (λ (e : Entry). e ∷ entries_from (p + 1) ys) first ∙ ap (λ (es : List Entry). entry_of x p ∷ es) (entries-same (p + 1) xs ys others)

-- and their names are spelled alike
named-same : (xs ys : List (List ℕ)) → HaveSameKeys xs ys → AreNamed xs → AreNamed ys
named-same xs ys same named k d within =
    let sizes : length xs ≡ length ys = sym (length-map xs keyword_name) ∙ (ap length same.names ∙ length-map ys keyword_name) in
    let here : k < length xs = omega (arith, sizes, within) in
    let name : keyword_name (get_or xs k d) ≡ keyword_name (get_or ys k d) =
    sym (get_or-map keyword_name xs k d [] here) ∙ (ap (λ (names : List (List ℕ)). get_or names k []) same.names ∙ get_or-map keyword_name ys k d [] within) in
    subst IsName name (named k d here)

-- so the index of cards is that of others of the same keys in place of some
pub index-same : (es : List Entry) (old new : List (List ℕ)) (place removed : ℕ) → 1 ≤ place → place + removed ≤ length old + 1 → HaveSameKeys (take removed (drop (place - 1) old)) new
    → IsIndexOf es old → IsIndexOf es (spliced old place removed new)
index-same es old new place removed first fits same index =
    let front = take (place - 1) old in
    let gone = take removed (drop (place - 1) old) in
    let rest = drop (place - 1 + removed) old in
    let parts : old ≡ front ++ (gone ++ rest) = parts_of old place removed in
    let sizes : length gone ≡ length new = sym (length-map gone keyword_name) ∙ (ap length same.names ∙ length-map new keyword_name) in
    let entries : entries_from 1 old ≡ entries_from 1 (front ++ (new ++ rest)) =
    ap (entries_from 1) parts ∙ (entries-append 1 front (gone ++ rest) ∙ (ap (λ (es : List Entry). entries_from 1 front ++ es) (entries-append (1 + length front) gone rest
    ∙ (ap (λ (es : List Entry). es ++ entries_from (1 + length front + length gone) rest) (sym (entries-same (1 + length front) gone new same))
    ∙ (ap (λ (n : ℕ). entries_from (1 + length front) new ++ entries_from (1 + length front + n) rest) sizes ∙ sym (entries-append (1 + length front) new rest))))
    ∙ sym (entries-append 1 front (new ++ rest)))) in
    let named : AreNamed new = named-same gone new same (All-take (λ (card : List ℕ). IsName (keyword_name card)) removed (drop (place - 1) old) (All-drop (λ (card : List ℕ). IsName (keyword_name card)) (place - 1) old index.named)) in
    record {
      sorted = index.sorted;
      same = λ name. index.same name ∙ ap (filter (is_named name)) entries;
      named = All-spliced (λ (card : List ℕ). IsName (keyword_name card)) old new place removed index.named named;
    }
