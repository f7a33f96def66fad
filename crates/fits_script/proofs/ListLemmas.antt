-- Lists of words, one part after another.
use Rattle.std.proofs.Common.{◌≡◌, ℕ, List, [], ◌∷◌, ◌++◌, refl, ap, sym, ◌∙◌, append_assoc, false, Option, None, Some}
use Rattle.std.specs.Prelude.{is_some}
use Rattle.std.specs.Option.{option_map}
use Rattle.fits_script.specs.Cut.{HasNo}
use Rattle.fits_script.specs.Words.{◌>>=◌, each_read, list_of_text}
use Rattle.fits_script.proofs.PartsLemmas.{parts-none, parts-cut}

-- a text without the byte is one part
pub list_of_text-one : {X : Type 0} (reads : List ℕ → Option X) (separator : ℕ) (text : List ℕ) (read : Option X) → HasNo separator text → reads text ≡ read → list_of_text reads separator text ≡ option_map (λ item. item ∷ []) read
unfolding list_of_text each_read
list_of_text-one reads separator text None none e = rw (parts-none separator text none, e) refl
list_of_text-one reads separator text (Some item) none e = rw (parts-none separator text none, e) refl

-- a text whose first part is none is no list
pub list_of_text-none : {X : Type 0} (reads : List ℕ → Option X) (separator : ℕ) (text part rest : List ℕ) → HasNo separator part → text ≡ part ++ separator ∷ rest → reads part ≡ None → list_of_text reads separator text ≡ None
unfolding list_of_text each_read
list_of_text-none reads separator text part rest none e is = rw (e, parts-cut separator part rest none, is) refl

-- what is added to what others read as
more_read : {X : Type 0} (item : X) (others : Option (List X)) → (others >>= (λ items. Some (item ∷ items))) ≡ option_map (λ items. item ∷ items) others
more_read item None = refl
more_read item (Some items) = refl

-- a part and more of them
pub list_of_text-some : {X : Type 0} (reads : List ℕ → Option X) (separator : ℕ) (text part rest : List ℕ) (item : X) → HasNo separator part → text ≡ part ++ separator ∷ rest → reads part ≡ Some item
    → list_of_text reads separator text ≡ option_map (λ items. item ∷ items) (list_of_text reads separator rest)
unfolding list_of_text each_read
list_of_text-some reads separator text part rest item none e is = rw (e, parts-cut separator part rest none, is) (more_read item _)

-- one more part doesn't say whether the others are parts
is_some-map : {X Y : Type 0} (f : X → Y) (read : Option X) → is_some (option_map f read) ≡ is_some read
is_some-map f None = refl
is_some-map f (Some x) = refl

-- a part that is none makes no list
pub not_list : {X : Type 0} (reads : List ℕ → Option X) (separator : ℕ) (text rest part more : List ℕ) → is_some (list_of_text reads separator rest) ≡ is_some (list_of_text reads separator text) → HasNo separator part → rest ≡ part ++ separator ∷ more
    → reads part ≡ None → false ≡ is_some (list_of_text reads separator text)
not_list reads separator text rest part more before none e is = sym (ap is_some (list_of_text-none reads separator rest part more none e is)) ∙ before

-- and one that is leaves the question to the rest
pub still_list : {X : Type 0} (reads : List ℕ → Option X) (separator : ℕ) (text rest part more : List ℕ) (item : X) → is_some (list_of_text reads separator rest) ≡ is_some (list_of_text reads separator text) → HasNo separator part
    → rest ≡ part ++ separator ∷ more → reads part ≡ Some item → is_some (list_of_text reads separator more) ≡ is_some (list_of_text reads separator text)
still_list reads separator text rest part more item before none e is =
    sym (ap is_some (list_of_text-some reads separator rest part more item none e is) ∙ is_some-map (λ items. item ∷ items) (list_of_text reads separator more)) ∙ before

-- the last part decides it
pub last_of_list : {X : Type 0} (reads : List ℕ → Option X) (separator : ℕ) (text rest : List ℕ) (read : Option X) → is_some (list_of_text reads separator rest) ≡ is_some (list_of_text reads separator text) → HasNo separator rest → reads rest ≡ read
    → is_some read ≡ is_some (list_of_text reads separator text)
last_of_list reads separator text rest read before none is =
    sym (ap is_some (list_of_text-one reads separator rest read none is) ∙ is_some-map (λ item. item ∷ []) read) ∙ before

-- a part that is none, after others
pub not_read : {X : Type 0} (reads : List ℕ → Option X) (separator : ℕ) (text rest part more : List ℕ) (items : List X) → list_of_text reads separator text ≡ option_map (λ others. items ++ others) (list_of_text reads separator rest)
    → HasNo separator part → rest ≡ part ++ separator ∷ more → reads part ≡ None → list_of_text reads separator text ≡ None
not_read reads separator text rest part more items before none e is =
    before ∙ ap (option_map (λ others. items ++ others)) (list_of_text-none reads separator rest part more none e is)

-- one more stands before what is read
after_one : {X : Type 0} (items new : List X) (item : X) (read : Option (List X)) → new ≡ items ++ item ∷ [] → option_map (λ others. items ++ others) (option_map (λ others. item ∷ others) read) ≡ option_map (λ others. new ++ others) read
after_one items new item None added = refl
after_one items new item (Some others) added = ap Some (sym (append_assoc items (item ∷ []) others) ∙ ap (λ t. t ++ others) (sym added))

-- a part that is read after others
pub next_read : {X : Type 0} (reads : List ℕ → Option X) (separator : ℕ) (text rest part more : List ℕ) (items new : List X) (item : X) → list_of_text reads separator text ≡ option_map (λ others. items ++ others) (list_of_text reads separator rest)
    → HasNo separator part → rest ≡ part ++ separator ∷ more → reads part ≡ Some item → new ≡ items ++ item ∷ [] → list_of_text reads separator text ≡ option_map (λ others. new ++ others) (list_of_text reads separator more)
next_read reads separator text rest part more items new item before none e is added =
    before ∙ ap (option_map (λ others. items ++ others)) (list_of_text-some reads separator rest part more item none e is) ∙ after_one items new item (list_of_text reads separator more) added

-- the last part, after others
pub last_read : {X : Type 0} (reads : List ℕ → Option X) (separator : ℕ) (text rest : List ℕ) (items : List X) (read : Option X) → list_of_text reads separator text ≡ option_map (λ others. items ++ others) (list_of_text reads separator rest)
    → HasNo separator rest → reads rest ≡ read → list_of_text reads separator text ≡ option_map (λ item. items ++ item ∷ []) read
last_read reads separator text rest items None before none is = before ∙ ap (option_map (λ others. items ++ others)) (list_of_text-one reads separator rest None none is)
last_read reads separator text rest items (Some item) before none is = before ∙ ap (option_map (λ others. items ++ others)) (list_of_text-one reads separator rest (Some item) none is)
