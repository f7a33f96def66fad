-- A line's words, put together and taken apart.
use Rattle.std.proofs.Common.{◌≡◌, ℕ, ◌≤◌, List, [], ◌∷◌, ◌++◌, length, refl, ap, sym, ◌∙◌, inl, inr, rules, true, false, Bool, Option, None, Some, Result, Ok, Err}
use Rattle.std.specs.Prelude.{◌==◌, ◌&&◌, nat_le, unwrap_or, if◌then◌else◌}
use Rattle.std.specs.List.{list_all, list_any}
use Rattle.std.specs.Option.{ok_or}
use Rattle.std.proofs.lemmas.Bool.{and_parts, cases_Bool, leb-true, or_from}
use Rattle.std.proofs.lemmas.List.{append-nil}
use Rattle.fits_card.specs.Card.{card_of_text}
use Rattle.fits_value.specs.Number.{value_of}
use Rattle.fits_value.specs.Spelling.{is_digit, is_space}
use Rattle.fits_script.specs.Cut.{HasNo}
use Rattle.fits_laws.specs.Forms.{followed, IsNumber, IsName, IsCard}
use Rattle.fits_script.specs.Line.{◌>>=◌, card_last, ended, next_word}
use Rattle.fits_script.specs.Misfit.{more_misfit}
use Rattle.fits_script.specs.Words.{after_next, after_word, first_word, name_of_text, name_of_word, number_of_word}
use Rattle.fits_script.specs.declared.misfit.Misfit.{Misfit}
use Rattle.fits_script.specs.declared.misfit.Misfit.TheVariants.{LongCard, WordMissing}
use Rattle.fits_script.proofs.WordLemmas.{first_word-alone, after_word-alone, first_word-cut, after_word-cut}

-- a word is what comes first of it and what follows
pub first_word-followed : (word : List ℕ) (rest : Option (List ℕ)) → HasNo 32 word → first_word (word ++ followed rest) ≡ word
first_word-followed word None bare = ap first_word (append-nil word) ∙ first_word-alone word bare
first_word-followed word (Some rest) bare = first_word-cut (word ++ 32 ∷ rest) word rest bare refl

-- and what follows it is the rest
pub after_word-followed : (word : List ℕ) (rest : Option (List ℕ)) → HasNo 32 word → after_word (word ++ followed rest) ≡ rest
after_word-followed word None bare = ap after_word (append-nil word) ∙ after_word-alone word bare
after_word-followed word (Some rest) bare = after_word-cut (word ++ 32 ∷ rest) word rest bare refl

-- a byte that is a space
is_space-same : (byte : ℕ) → is_space byte ≡ true → byte ≡ 32
is_space-same byte is = search rules

-- a text is its first word and what follows it
pub followed-after_word : (text : List ℕ) → text ≡ first_word text ++ followed (after_word text)
unfolding first_word after_word
followed-after_word [] = refl
followed-after_word (b ∷ bs) =
    elim (cases_Bool (is_space b)) [
      | inl space ↦ rw space (ap (λ c. c ∷ bs) (is_space-same b space))
      | inr other ↦ rw other (ap (λ t. b ∷ t) (followed-after_word bs))
    ]

-- the first word has no space
pub first_word-bare : (text : List ℕ) → HasNo 32 (first_word text)
unfolding first_word
first_word-bare [] = refl
first_word-bare (b ∷ bs) =
    elim (cases_Bool (is_space b)) [
      | inl space ↦ rw space refl
      | inr other ↦ rw other (or_from (is_space b) (list_any is_space (first_word bs)) other (first_word-bare bs))
    ]

-- a digit is no space
digit_bare : (byte : ℕ) → is_digit byte ≡ true → (byte == 32) ≡ false
digit_bare byte is = let low : 48 ≤ byte = leb-true 48 byte (and_parts (nat_le 48 byte) (nat_le byte 57) is).0 in search rules

-- digits have no space
pub digits_bare : (word : List ℕ) → list_all is_digit word ≡ true → HasNo 32 word
digits_bare [] all = refl
digits_bare (b ∷ bs) all =
    let parts = and_parts (is_digit b) (list_all is_digit bs) all in
    or_from (b == 32) (list_any (λ byte. byte == 32) bs) (digit_bare b parts.0) (digits_bare bs parts.1)

-- the number of a word that is one
pub number_of_word-is : (word : List ℕ) (number : ℕ) → IsNumber word number → number_of_word word ≡ Some number
unfolding number_of_word
number_of_word-is word number is =
    let some : nat_le 1 (length word) ≡ true = search (rules, is.some) in
    let few : nat_le (length word) 18 ≡ true = search (rules, is.few) in
    let digits : list_all is_digit word ≡ true = is.digits in
    rw (digits, some, few) (ap Some (sym is.is))

-- three tests
pub three_parts : (a b c : Bool) → (a && b && c) ≡ true → (a ≡ true) × (b ≡ true) × (c ≡ true)
three_parts true true true e = (refl, refl, refl)
three_parts true true false e = absurd (let z : false ≡ true = e in cc)
three_parts true false true e = absurd (let z : false ≡ true = e in cc)
three_parts true false false e = absurd (let z : false ≡ true = e in cc)
three_parts false b c e = absurd (let z : false ≡ true = e in cc)

-- what passes a test is there, and what is there passed it
pub tested_some : {X P : Type 0} (test : Bool) (x y : X) → (if test then Some x else None) ≡ Some y → (test ≡ true → x ≡ y → P) → P
tested_some {X = X} true x y e give = give refl (let z : ◌≡◌ {A = Option X} (Some x) (Some y) = e in cc)
tested_some {X = X} false x y e give = absurd (let z : ◌≡◌ {A = Option X} None (Some y) = e in cc)

-- a word with a number is one
pub IsNumber-is : (word : List ℕ) (number : ℕ) → number_of_word word ≡ Some number → IsNumber word number
unfolding number_of_word
IsNumber-is word number is =
    tested_some (list_all is_digit word && nat_le 1 (length word) && nat_le (length word) 18) (value_of word) number is (λ all same.
    let parts = three_parts (list_all is_digit word) (nat_le 1 (length word)) (nat_le (length word) 18) all in
    record { digits = parts.0; some = leb-true 1 (length word) parts.1; few = leb-true (length word) 18 parts.2; is = sym same })

-- the name of a word that is one
pub name_of_word-is : (word name : List ℕ) → IsName word name → name_of_word word ≡ Some name
unfolding name_of_word
name_of_word-is word name is =
    let some : nat_le 1 (length word) ≡ true = search (rules, is.some) in
    let few : nat_le (length word) 8 ≡ true = search (rules, is.few) in
    rw (some, few) (ap Some (sym is.is))

-- a word without a space that has a name is one
pub IsName-is : (word name : List ℕ) → HasNo 32 word → name_of_word word ≡ Some name → IsName word name
unfolding name_of_word
IsName-is word name bare is =
    tested_some (nat_le 1 (length word) && nat_le (length word) 8) (name_of_text word) name is (λ all same.
    let parts = and_parts (nat_le 1 (length word)) (nat_le (length word) 8) all in
    record { unspaced = bare; some = leb-true 1 (length word) parts.0; few = leb-true (length word) 8 parts.1; is = sym same })

-- the same of what is said, or why nothing is
tested_ok : {X P : Type 0} (test : Bool) (x y : X) (why : Misfit) → (if test then Ok x else Err why) ≡ Ok y → (test ≡ true → x ≡ y → P) → P
tested_ok {X = X} true x y why e give = give refl (let z : ◌≡◌ {A = Result X Misfit} (Ok x) (Ok y) = e in cc)
tested_ok {X = X} false x y why e give = absurd (let z : ◌≡◌ {A = Result X Misfit} (Err why) (Ok y) = e in cc)

-- what is there is said
pub was_some : {X : Type 0} (found : Option X) (why : Misfit) (x : X) → ok_or found why ≡ Ok x → found ≡ Some x
was_some {X = X} None why x e = absurd (let z : ◌≡◌ {A = Result X Misfit} (Err why) (Ok x) = e in cc)
was_some {X = X} (Some y) why x e = ap Some (let z : ◌≡◌ {A = Result X Misfit} (Ok y) (Ok x) = e in let same : y ≡ x = cc in same)

-- a part and what follows from it are said
pub both_said : {X Y P : Type 0} (part : Result X Misfit) (next : X → Result Y Misfit) (y : Y) → (part >>= next) ≡ Ok y → ((x : X) → part ≡ Ok x → next x ≡ Ok y → P) → P
both_said {Y = Y} (Err why) next y e give = absurd (let z : ◌≡◌ {A = Result Y Misfit} (Err why) (Ok y) = e in cc)
both_said (Ok x) next y e give = give x refl e

-- the card of a text that is one
pub card_last-is : (rest : Option (List ℕ)) (card : List ℕ) → IsCard (unwrap_or rest []) card → card_last rest ≡ Ok card
unfolding card_last
card_last-is rest card is = let short : nat_le (length (unwrap_or rest [])) 80 ≡ true = search (rules, is.short) in rw short (ap Ok (sym is.is))

-- a text that has a card is one
pub IsCard-is : (rest : Option (List ℕ)) (card : List ℕ) → card_last rest ≡ Ok card → IsCard (unwrap_or rest []) card
unfolding card_last
IsCard-is rest card is =
    let text = unwrap_or rest [] in
    tested_ok (nat_le (length text) 80) (card_of_text text) card (LongCard (length text)) is (λ short same. record { short = leb-true (length text) 80 short; is = sym same })

-- what a word reads as, where it is written next
pub next_is : {X : Type 0} (reads : List ℕ → Option X) (another : List ℕ → Misfit) (size : ℕ) (rest : Option (List ℕ)) (word : List ℕ) (more : Option (List ℕ)) (x : X) → rest ≡ Some (word ++ followed more) → HasNo 32 word → reads word ≡ Some x
    → (next_word reads another size rest ≡ Ok x) × (after_next rest ≡ more)
unfolding next_word
next_is reads another size rest word more x is bare read = rw is (rw (first_word-followed word more bare, read) refl, after_word-followed word more bare)

-- where the next word is read, it is written there
pub record NextSays {X : Type 0} (reads : List ℕ → Option X) (rest : Option (List ℕ)) (x : X) : Type 0 where
  pub word : List ℕ
  pub is : rest ≡ Some (word ++ followed (after_next rest))
  pub bare : HasNo 32 word
  pub read : reads word ≡ Some x

-- what is read of a text
pub next_says : {X : Type 0} (reads : List ℕ → Option X) (another : List ℕ → Misfit) (size : ℕ) (rest : Option (List ℕ)) (x : X) → next_word reads another size rest ≡ Ok x → NextSays reads rest x
unfolding next_word
next_says {X = X} reads another size None x e = absurd (let z : ◌≡◌ {A = Result X Misfit} (Err WordMissing) (Ok x) = e in cc)
next_says reads another size (Some text) x e =
    record { word = first_word text; is = ap Some (followed-after_word text); bare = first_word-bare text; read = was_some (reads (first_word text)) _ x e }

-- nothing follows where a line ends
pub ended-says : {X : Type 0} (size : ℕ) (rest : Option (List ℕ)) (x y : X) → ended size rest x ≡ Ok y → (rest ≡ None) × (x ≡ y)
unfolding ended
ended-says {X = X} size None x y e = (refl, let z : ◌≡◌ {A = Result X Misfit} (Ok x) (Ok y) = e in cc)
ended-says {X = X} size (Some text) x y e = absurd (let z : ◌≡◌ {A = Result X Misfit} (Err (more_misfit size text)) (Ok y) = e in cc)

-- and there all is said
pub ended-is : {X : Type 0} (size : ℕ) (rest : Option (List ℕ)) (x : X) → rest ≡ None → ended size rest x ≡ Ok x
unfolding ended
ended-is size rest x is = rw is refl

-- nothing follows a word that ends a text
pub followed-nothing : (rest : Option (List ℕ)) (word : List ℕ) (more : Option (List ℕ)) → rest ≡ Some (word ++ followed more) → more ≡ None → rest ≡ Some word
followed-nothing rest word more is none = is ∙ rw none (ap Some (append-nil word))

-- a word that ends a text is one that nothing follows
pub nothing-followed : (rest : Option (List ℕ)) (word : List ℕ) → rest ≡ Some word → rest ≡ Some (word ++ followed None)
nothing-followed rest word is = is ∙ ap Some (sym (append-nil word))
