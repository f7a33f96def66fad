-- A line says a command exactly where it has its form.
use Rattle.std.proofs.Common.{◌≡◌, ℕ, List, [], ◌∷◌, ◌++◌, length, refl, ap, sym, ◌∙◌, inl, inr, rules, true, false, Bool, Option, None, Some, Result, Ok, Err}
use Rattle.std.specs.Prelude.{◌==◌, ℤ, codes, if◌then◌else◌}
use Rattle.std.proofs.lemmas.List.{append-nil}
use Rattle.fits_value.specs.declared.value.Value.{Value}
use Rattle.fits_image.specs.declared.kind.Kind.{Kind}
use Rattle.fits_edit.specs.declared.card_edit.CardEdit.TheVariants.{Insert, Put, Delete, Move, Set, Unset}
use Rattle.fits_edit.specs.declared.edit.Edit.TheVariants.{Hdu, NewImage, RemoveHdu}
use Rattle.fits_edit.specs.declared.hdu_edit.HduEdit.TheVariants.{Cards, Keep, Pixels, Release, Reshape, Stamp}
use Rattle.fits_edit.specs.declared.paint.Paint.{Paint}
use Rattle.fits_edit.specs.declared.paint.Paint.TheVariants.{Fill, Write}
use Rattle.fits_script.specs.Cut.{HasNo}
use Rattle.fits_laws.specs.Forms.{IsAlone, IsAxes, IsCardForm, IsFieldForm, IsMoveForm, IsNameForm, IsArrayForm, IsNumber, IsPaintForm, IsPlaceForm, IsRectangle, IsRectangleForm, IsValue, IsName, Names, Says, followed, kind_word, paint_word}
use Rattle.fits_script.specs.Line.{◌>>=◌, array_words, axes_last, card_last, card_words, cards_command, command_by, command_of, ended, field_last, field_words, fill_words, hdu_said, move_words, name_word, next_area, next_axes, next_hdu, next_kind, next_name, next_place, next_value, next_word, place_word, rectangle_word, said_by, said_of, value_last, values_last, verb_said, write_words}
use Rattle.fits_script.specs.Misfit.{no_verb}
use Rattle.fits_script.specs.Words.{after_next, after_word, axes_of_word, corners_of_word, first_word, kind_of_word, name_of_word, number_of_word, value_of_word, verb_of, verb_word}
use Rattle.fits_script.specs.declared.command.Command.{Command}
use Rattle.fits_script.specs.declared.command.Command.TheVariants.{Nothing, Edit, Offsets, Get, Positions, Report, Statistics, Rectangle, Sums, Kept}
use Rattle.fits_script.specs.declared.misfit.Misfit.{Misfit}
use Rattle.fits_script.specs.declared.misfit.Misfit.TheVariants.{LongName, NotAxes, NotHdu, NotKind, NotPixelValue, NotPlace, NotRectangle}
use Rattle.fits_script.specs.declared.verb.Verb.{Verb}
use Rattle.fits_script.specs.declared.verb.Verb.TheVariants as verb
use Rattle.fits_laws.proofs.FormLemmas.{after_word-followed, both_said, card_last-is, digits_bare, ended-is, ended-says, first_word-followed, followed-after_word, followed-nothing, name_of_word-is, next_is, next_says, nothing-followed, number_of_word-is, was_some, IsCard-is, IsName-is, IsNumber-is}
use Rattle.fits_laws.proofs.ImageFormLemmas.{axes_bare, axes_of_word-is, kind_of_word-is, kind_of_word-says, kind_word-bare, IsAxes-is}
use Rattle.fits_laws.proofs.PixelFormLemmas.{corners_of_word-is, rectangle_bare, value_bare, value_of_word-is, values_last-is, values_last-says, IsRectangle-is, IsValue-is}
use Rattle.fits_script.proofs.VerbLemmas.{verb_of-says}

-- a number is read where it is written next
number_next : (another : List ℕ → Misfit) (size : ℕ) (rest : Option (List ℕ)) (word : List ℕ) (more : Option (List ℕ)) (number : ℕ) → rest ≡ Some (word ++ followed more) → IsNumber word number
    → (next_word number_of_word another size rest ≡ Ok number) × (after_next rest ≡ more)
number_next another size rest word more number is number_is = next_is number_of_word another size rest word more number is (digits_bare word number_is.digits) (number_of_word-is word number number_is)

-- a keyword name likewise
name_next : (size : ℕ) (rest : Option (List ℕ)) (word : List ℕ) (more : Option (List ℕ)) (name : List ℕ) → rest ≡ Some (word ++ followed more) → IsName word name → (next_name size rest ≡ Ok name) × (after_next rest ≡ more)
name_next size rest word more name is name_is = next_is name_of_word (λ w. LongName) size rest word more name is name_is.unspaced (name_of_word-is word name name_is)

-- and a rectangle
area_next : (size : ℕ) (rest : Option (List ℕ)) (word : List ℕ) (more : Option (List ℕ)) (lo hi : List ℕ) → rest ≡ Some (word ++ followed more) → IsRectangle word lo hi → (next_area size rest ≡ Ok (lo, hi)) × (after_next rest ≡ more)
area_next size rest word more lo hi is area_is = next_is corners_of_word NotRectangle size rest word more (lo, hi) is (rectangle_bare word lo hi area_is) (corners_of_word-is word lo hi area_is)

-- `P CARD`, where it is written so
card_words-is : (p : ℕ) (card : List ℕ) (size : ℕ) (rest : Option (List ℕ)) → IsCardForm p card rest → card_words size rest ≡ Ok (p, card)
unfolding card_words
card_words-is p card size rest form =
    let place = number_next NotPlace size rest form.place form.rest p form.is form.is_place in
    rw (place.0, place.1, card_last-is form.rest card form.is_card) refl

-- and where it is read
card_words-says : (size : ℕ) (rest : Option (List ℕ)) (words : ℕ × List ℕ) → card_words size rest ≡ Ok words → IsCardForm words.0 words.1 rest
unfolding card_words
card_words-says size rest words e =
    both_said (next_place size rest) _ words e (λ place is_place e1.
    both_said (card_last (after_next rest)) _ words e1 (λ card is_card e2.
    let same : ◌≡◌ {A = ℕ × List ℕ} words (place, card) = cc in
    let p = next_says number_of_word NotPlace size rest place is_place in
    rw same (record { place = p.word; rest = after_next rest; is = p.is; is_place = IsNumber-is p.word place p.read; is_card = IsCard-is (after_next rest) card is_card })))

-- `P`, where it is written so
place_word-is : (p size : ℕ) (rest : Option (List ℕ)) → IsPlaceForm p rest → place_word size rest ≡ Ok p
unfolding place_word ended
place_word-is p size rest form =
    let place = number_next NotPlace size rest form.place None p (nothing-followed rest form.place form.is) form.is_place in rw (place.0, place.1) refl

-- and where it is read
place_word-says : (size : ℕ) (rest : Option (List ℕ)) (p : ℕ) → place_word size rest ≡ Ok p → IsPlaceForm p rest
unfolding place_word
place_word-says size rest p e =
    both_said (next_place size rest) _ p e (λ place is_place e1.
    let last = ended-says size (after_next rest) place p e1 in
    let n = next_says number_of_word NotPlace size rest place is_place in
    rw (sym last.1) (record { place = n.word; is = followed-nothing rest n.word (after_next rest) n.is last.0; is_place = IsNumber-is n.word place n.read }))

-- `P Q`, where it is written so
move_words-is : (p q size : ℕ) (rest : Option (List ℕ)) → IsMoveForm p q rest → move_words size rest ≡ Ok (p, q)
unfolding move_words
move_words-is p q size rest form =
    let from = number_next NotPlace size rest form.from (Some form.to) p form.is form.is_from in
    rw (from.0, from.1, place_word-is q size (Some form.to) (record { place = form.to; is = refl; is_place = form.is_to })) refl

-- and where it is read
move_words-says : (size : ℕ) (rest : Option (List ℕ)) (words : ℕ × ℕ) → move_words size rest ≡ Ok words → IsMoveForm words.0 words.1 rest
unfolding move_words
move_words-says size rest words e =
    both_said (next_place size rest) _ words e (λ from is_from e1.
    both_said (place_word size (after_next rest)) _ words e1 (λ to is_to e2.
    let same : ◌≡◌ {A = ℕ × ℕ} words (from, to) = cc in
    let p = next_says number_of_word NotPlace size rest from is_from in
    let q = place_word-says size (after_next rest) to is_to in
    rw same (record { from = p.word; to = q.place; is = p.is ∙ ap (λ r. Some (p.word ++ followed r)) q.is; is_from = IsNumber-is p.word from p.read; is_to = q.is_place })))

-- `NAME`, where it is written so
name_word-is : (name : List ℕ) (size : ℕ) (rest : Option (List ℕ)) → IsNameForm name rest → name_word size rest ≡ Ok name
unfolding name_word ended
name_word-is name size rest form = let word = name_next size rest form.word None name (nothing-followed rest form.word form.is) form.is_name in rw (word.0, word.1) refl

-- and where it is read
name_word-says : (size : ℕ) (rest : Option (List ℕ)) (name : List ℕ) → name_word size rest ≡ Ok name → IsNameForm name rest
unfolding name_word
name_word-says size rest name e =
    both_said (next_name size rest) _ name e (λ word is_word e1.
    let last = ended-says size (after_next rest) word name e1 in
    let n = next_says name_of_word (λ w. LongName) size rest word is_word in
    rw (sym last.1) (record { word = n.word; is = followed-nothing rest n.word (after_next rest) n.is last.0; is_name = IsName-is n.word word n.bare n.read }))

-- `NAME FIELD`, where it is written so
field_words-is : (name : List ℕ) (value : Value) (comment : Option (List ℕ)) (size : ℕ) (rest : Option (List ℕ)) → IsFieldForm name value comment rest → field_words size rest ≡ Ok (name, value, comment)
unfolding field_words field_last
field_words-is name value comment size rest form = let word = name_next size rest form.word form.rest name form.is form.is_name in rw (word.0, word.1, form.says) refl

-- and where it is read
field_words-says : (size : ℕ) (rest : Option (List ℕ)) (words : List ℕ × Value × Option (List ℕ)) → field_words size rest ≡ Ok words → IsFieldForm words.0 words.1 words.2 rest
unfolding field_words field_last
field_words-says size rest words e =
    both_said (next_name size rest) _ words e (λ name is_name e1.
    both_said (field_last (after_next rest)) _ words e1 (λ said is_said e2.
    let same : ◌≡◌ {A = List ℕ × Value × Option (List ℕ)} words (name, said.0, said.1) = cc in
    let n = next_says name_of_word (λ w. LongName) size rest name is_name in
    rw same (record { word = n.word; rest = after_next rest; is = n.is; is_name = IsName-is n.word name n.bare n.read; says = was_some _ _ said is_said })))

-- `RECT`, where it is written so
rectangle_word-is : (lo hi : List ℕ) (size : ℕ) (rest : Option (List ℕ)) → IsRectangleForm lo hi rest → rectangle_word size rest ≡ Ok (lo, hi)
unfolding rectangle_word ended
rectangle_word-is lo hi size rest form = let area = area_next size rest form.area None lo hi (nothing-followed rest form.area form.is) form.is_area in rw (area.0, area.1) refl

-- and where it is read
rectangle_word-says : (size : ℕ) (rest : Option (List ℕ)) (words : List ℕ × List ℕ) → rectangle_word size rest ≡ Ok words → IsRectangleForm words.0 words.1 rest
unfolding rectangle_word
rectangle_word-says size rest words e =
    both_said (next_area size rest) _ words e (λ area is_area e1.
    let last = ended-says size (after_next rest) area words e1 in
    let a = next_says corners_of_word NotRectangle size rest area is_area in
    rw (sym last.1) (record { area = a.word; is = followed-nothing rest a.word (after_next rest) a.is last.0; is_area = IsRectangle-is a.word area a.read }))

-- a value that ends a line, where it is written there
value_last-is : (size : ℕ) (text : List ℕ) (number : ℤ) → IsValue text number → value_last size (Some text) ≡ Ok (Fill number)
unfolding value_last ended
value_last-is size text number is =
    let value = next_is value_of_word NotPixelValue size (Some text) text None number (nothing-followed (Some text) text refl) (value_bare text number is) (value_of_word-is text number is) in
    rw (value.0, value.1) refl

-- and where one ends it, it is written there
value_last-says : (size : ℕ) (rest : Option (List ℕ)) (paint : Paint) → value_last size rest ≡ Ok paint → (text : List ℕ) × (number : ℤ) × (rest ≡ Some text) × IsValue text number × (paint ≡ Fill number)
unfolding value_last
value_last-says size rest paint e =
    both_said (next_value size rest) _ paint e (λ value is_value e1.
    let last = ended-says size (after_next rest) (Fill value) paint e1 in
    let v = next_says value_of_word NotPixelValue size rest value is_value in
    (v.word, value, followed-nothing rest v.word (after_next rest) v.is last.0, IsValue-is v.word value v.read, sym last.1))

-- `RECT V`, where it is written so
fill_words-is : (lo hi : List ℕ) (value : ℤ) (size : ℕ) (rest : Option (List ℕ)) → IsPaintForm lo hi (Fill value) rest → fill_words size rest ≡ Ok (lo, hi, Fill value)
unfolding fill_words
fill_words-is lo hi value size rest form =
    let area = area_next size rest form.area (Some form.words) lo hi form.is form.is_area in rw (area.0, area.1, value_last-is size form.words value form.are_paint) refl

-- and where it is read
fill_words-says : (size : ℕ) (rest : Option (List ℕ)) (words : List ℕ × List ℕ × Paint) → fill_words size rest ≡ Ok words → IsPaintForm words.0 words.1 words.2 rest × (paint_word words.2 ≡ codes "fill")
unfolding fill_words
fill_words-says size rest words e =
    both_said (next_area size rest) _ words e (λ area is_area e1.
    both_said (value_last size (after_next rest)) _ words e1 (λ paint is_paint e2.
    let a = next_says corners_of_word NotRectangle size rest area is_area in
    let v = value_last-says size (after_next rest) paint is_paint in
    let same : ◌≡◌ {A = List ℕ × List ℕ × Paint} words (area.0, area.1, Fill v.1) = let z = v.4 in cc in
    rw same (record { area = a.word; words = v.0; is = a.is ∙ ap (λ r. Some (a.word ++ followed r)) v.2; is_area = IsRectangle-is a.word area a.read; are_paint = v.3 }, refl)))

-- `RECT V V ..`, where it is written so
write_words-is : (lo hi : List ℕ) (values : List ℤ) (size : ℕ) (rest : Option (List ℕ)) → IsPaintForm lo hi (Write values) rest → write_words size rest ≡ Ok (lo, hi, Write values)
unfolding write_words
write_words-is lo hi values size rest form =
    let area = area_next size rest form.area (Some form.words) lo hi form.is form.is_area in rw (area.0, area.1, values_last-is size form.words values form.are_paint) refl

-- and where it is read
write_words-says : (size : ℕ) (rest : Option (List ℕ)) (words : List ℕ × List ℕ × Paint) → write_words size rest ≡ Ok words → IsPaintForm words.0 words.1 words.2 rest × (paint_word words.2 ≡ codes "write")
unfolding write_words
write_words-says size rest words e =
    both_said (next_area size rest) _ words e (λ area is_area e1.
    both_said (values_last size (after_next rest)) _ words e1 (λ paint is_paint e2.
    let a = next_says corners_of_word NotRectangle size rest area is_area in
    let v = values_last-says size (after_next rest) paint is_paint in
    let same : ◌≡◌ {A = List ℕ × List ℕ × Paint} words (area.0, area.1, Write v.1) = let z = v.4 in cc in
    rw same (record { area = a.word; words = v.0; is = a.is ∙ ap (λ r. Some (a.word ++ followed r)) v.2; is_area = IsRectangle-is a.word area a.read; are_paint = v.3 }, refl)))

-- axes that end a line, where they are written there
axes_last-is : (size : ℕ) (text axes : List ℕ) → IsAxes text axes → axes_last size (Some text) ≡ Ok axes
unfolding axes_last ended
axes_last-is size text axes is =
    let word = next_is axes_of_word NotAxes size (Some text) text None axes (nothing-followed (Some text) text refl) (axes_bare text axes is) (axes_of_word-is text axes is) in
    rw (word.0, word.1) refl

-- and where some end it, they are written there
axes_last-says : (size : ℕ) (rest : Option (List ℕ)) (axes : List ℕ) → axes_last size rest ≡ Ok axes → (text : List ℕ) × (rest ≡ Some text) × IsAxes text axes
unfolding axes_last
axes_last-says size rest axes e =
    both_said (next_axes size rest) _ axes e (λ lengths are_axes e1.
    let last = ended-says size (after_next rest) lengths axes e1 in
    let a = next_says axes_of_word NotAxes size rest lengths are_axes in
    (a.word, followed-nothing rest a.word (after_next rest) a.is last.0, rw (sym last.1) (IsAxes-is a.word lengths a.read)))

-- `KIND AXES`, where it is written so
array_words-is : (kind : Kind) (axes : List ℕ) (size : ℕ) (rest : Option (List ℕ)) → IsArrayForm kind axes rest → array_words size rest ≡ Ok (kind, axes)
unfolding array_words
array_words-is kind axes size rest form =
    let word = next_is kind_of_word NotKind size rest (kind_word kind) (Some form.word) kind form.is (kind_word-bare kind) (kind_of_word-is kind) in
    rw (word.0, word.1, axes_last-is size form.word axes form.are_axes) refl

-- and where it is read
array_words-says : (size : ℕ) (rest : Option (List ℕ)) (words : Kind × List ℕ) → array_words size rest ≡ Ok words → IsArrayForm words.0 words.1 rest
unfolding array_words
array_words-says size rest words e =
    both_said (next_kind size rest) _ words e (λ kind is_kind e1.
    both_said (axes_last size (after_next rest)) _ words e1 (λ axes are_axes e2.
    let same : ◌≡◌ {A = Kind × List ℕ} words (kind, axes) = cc in
    let k = next_says kind_of_word NotKind size rest kind is_kind in
    let a = axes_last-says size (after_next rest) axes are_axes in
    let is : rest ≡ Some (kind_word kind ++ followed (after_next rest)) = k.is ∙ ap (λ w. Some (w ++ followed (after_next rest))) (kind_of_word-says k.word kind k.read) in
    rw same (record { word = a.0; is = is ∙ ap (λ r. Some (kind_word kind ++ followed r)) a.1; are_axes = a.2 })))

-- a line of a verb and a rest is what the verb says of the rest
line_of_verb : (v : Verb) (byte : ℕ) (bytes : List ℕ) (rest : Option (List ℕ)) → HasNo 32 (byte ∷ bytes) → (byte == 35) ≡ false → verb_of (byte ∷ bytes) ≡ Some v
    → command_of ((byte ∷ bytes) ++ followed rest) ≡ said_by v (length ((byte ∷ bytes) ++ followed rest)) rest
unfolding command_of verb_said
line_of_verb v byte bytes rest bare other is =
    rw (other, first_word-followed (byte ∷ bytes) rest bare, is, after_word-followed (byte ∷ bytes) rest bare) refl

-- a line of a verb, HDU h and what follows is what the verb says of HDU h
named-is : (v : Verb) (byte : ℕ) (bytes : List ℕ) (h : ℕ) (IsForm : Option (List ℕ) → Type 0) (line : List ℕ) (says : Names (byte ∷ bytes) h IsForm line) → HasNo 32 (byte ∷ bytes) → (byte == 35) ≡ false → verb_of (byte ∷ bytes) ≡ Some v
    → ((size : ℕ) (rest : Option (List ℕ)) → said_by v size rest ≡ hdu_said v size rest) → command_of line ≡ said_of v (length line) h says.rest
named-is v byte bytes h IsForm line says bare other is of_hdu =
    let rest : Option (List ℕ) = Some (says.hdu ++ followed says.rest) in
    let hdu = number_next NotHdu (length line) rest says.hdu says.rest h refl says.is_hdu in
    ap command_of says.is ∙ line_of_verb v byte bytes rest bare other is ∙ ap (λ t. said_by v (length t) rest) (sym says.is) ∙ of_hdu (length line) rest
    ∙ ap (λ (n : Result ℕ Misfit). n >>= (λ k. said_of v (length line) k (after_next rest))) hdu.0 ∙ ap (said_of v (length line) h) hdu.1

-- a line that has the form of a command says it
pub command_of-says : (line : List ℕ) (command : Command) → Says line command → command_of line ≡ Ok command
unfolding command_of verb_said verb_of said_by said_of ended first_word after_word
command_of-says line Nothing (inl e) = rw e refl
command_of-says line Nothing (inr comment) = rw comment.1 refl
command_of-says line (Edit (Hdu h (Cards (Insert p card)))) says = named-is verb.Insert _ _ h _ line says refl refl refl (λ size rest. refl) ∙ ap (command_by (λ w. cards_command h (Insert w.0 w.1))) (card_words-is p card (length line) says.rest says.form)
command_of-says line (Edit (Hdu h (Cards (Put p card)))) says = named-is verb.Put _ _ h _ line says refl refl refl (λ size rest. refl) ∙ ap (command_by (λ w. cards_command h (Put w.0 w.1))) (card_words-is p card (length line) says.rest says.form)
command_of-says line (Edit (Hdu h (Cards (Delete p)))) says = named-is verb.Delete _ _ h _ line says refl refl refl (λ size rest. refl) ∙ ap (command_by (λ place. cards_command h (Delete place))) (place_word-is p (length line) says.rest says.form)
command_of-says line (Edit (Hdu h (Cards (Move p q)))) says = named-is verb.Move _ _ h _ line says refl refl refl (λ size rest. refl) ∙ ap (command_by (λ w. cards_command h (Move w.0 w.1))) (move_words-is p q (length line) says.rest says.form)
command_of-says line (Edit (Hdu h (Cards (Set name value comment)))) says = named-is verb.Set _ _ h _ line says refl refl refl (λ size rest. refl) ∙ ap (command_by (λ w. cards_command h (Set w.0 w.1 w.2))) (field_words-is name value comment (length line) says.rest says.form)
command_of-says line (Edit (Hdu h (Cards (Unset name)))) says = named-is verb.Unset _ _ h _ line says refl refl refl (λ size rest. refl) ∙ ap (command_by (λ name. cards_command h (Unset name))) (name_word-is name (length line) says.rest says.form)
command_of-says line (Edit (Hdu h (Pixels lo hi (Fill value)))) says = named-is verb.Fill _ _ h _ line says refl refl refl (λ size rest. refl) ∙ ap (command_by (λ w. Edit (Hdu h (Pixels w.0 w.1 w.2)))) (fill_words-is lo hi value (length line) says.rest says.form)
command_of-says line (Edit (Hdu h (Pixels lo hi (Write values)))) says = named-is verb.Write _ _ h _ line says refl refl refl (λ size rest. refl) ∙ ap (command_by (λ w. Edit (Hdu h (Pixels w.0 w.1 w.2)))) (write_words-is lo hi values (length line) says.rest says.form)
command_of-says line (Edit (Hdu h (Reshape kind axes))) says = named-is verb.Reshape _ _ h _ line says refl refl refl (λ size rest. refl) ∙ ap (command_by (λ w. Edit (Hdu h (Reshape w.0 w.1)))) (array_words-is kind axes (length line) says.rest says.form)
command_of-says line (Edit (Hdu h Stamp)) says = named-is verb.Stamp _ _ h _ line says refl refl refl (λ size rest. refl) ∙ ended-is (length line) says.rest (Edit (Hdu h Stamp)) says.form
command_of-says line (Edit (Hdu h Keep)) says = named-is verb.Keep _ _ h _ line says refl refl refl (λ size rest. refl) ∙ ended-is (length line) says.rest (Edit (Hdu h Keep)) says.form
command_of-says line (Edit (Hdu h Release)) says = named-is verb.Release _ _ h _ line says refl refl refl (λ size rest. refl) ∙ ended-is (length line) says.rest (Edit (Hdu h Release)) says.form
command_of-says line (Edit (NewImage h kind axes)) says = named-is verb.New _ _ h _ line says refl refl refl (λ size rest. refl) ∙ ap (command_by (λ w. Edit (NewImage h w.0 w.1))) (array_words-is kind axes (length line) says.rest says.form)
command_of-says line (Edit (RemoveHdu h)) says = named-is verb.Remove _ _ h _ line says refl refl refl (λ size rest. refl) ∙ ended-is (length line) says.rest (Edit (RemoveHdu h)) says.form
command_of-says line (Get h name) says = named-is verb.Get _ _ h _ line says refl refl refl (λ size rest. refl) ∙ ap (command_by (λ name. Get h name)) (name_word-is name (length line) says.rest says.form)
command_of-says line (Positions h name) says = named-is verb.Positions _ _ h _ line says refl refl refl (λ size rest. refl) ∙ ap (command_by (λ name. Positions h name)) (name_word-is name (length line) says.rest says.form)
command_of-says line Offsets says = rw says refl
command_of-says line Report says = rw says refl
command_of-says line (Statistics h) says = named-is verb.Statistics _ _ h _ line says refl refl refl (λ size rest. refl) ∙ ended-is (length line) says.rest (Statistics h) says.form
command_of-says line (Rectangle h lo hi) says = named-is verb.Rectangle _ _ h _ line says refl refl refl (λ size rest. refl) ∙ ap (command_by (λ w. Rectangle h w.0 w.1)) (rectangle_word-is lo hi (length line) says.rest says.form)
command_of-says line (Sums h) says = named-is verb.Sums _ _ h _ line says refl refl refl (λ size rest. refl) ∙ ended-is (length line) says.rest (Sums h) says.form
command_of-says line (Kept h) says = named-is verb.Kept _ _ h _ line says refl refl refl (λ size rest. refl) ∙ ended-is (length line) says.rest (Kept h) says.form

-- a line that is a word alone
lone : (word : List ℕ) (rest : Option (List ℕ)) → rest ≡ None → word ++ followed rest ≡ word
lone word rest none = rw none (append-nil word)

-- what names HDU h, where a form of what follows it is so
abbrev NamesIn : List ℕ → ℕ → Option (List ℕ) → List ℕ → Type 1
NamesIn word h more line = (IsForm : Option (List ℕ) → Type 0) → IsForm more → Names word h IsForm line

-- a line of a verb, an HDU and words of which a command is made
of_words : {W : Type 0} (v : Verb) (size : ℕ) (rest : Option (List ℕ)) (words : ℕ → Option (List ℕ) → Result W Misfit) (made : ℕ → W → Command) (command : Command) → hdu_said v size rest ≡ Ok command
    → ((h : ℕ) (more : Option (List ℕ)) → said_of v size h more ≡ command_by (made h) (words size more))
    → ((h : ℕ) (w : W) (more : Option (List ℕ)) → words size more ≡ Ok w → NamesIn (verb_word v) h more (verb_word v ++ followed rest) → Says (verb_word v ++ followed rest) (made h w)) → Says (verb_word v ++ followed rest) command
of_words v size rest words made command e makes form =
    both_said (next_hdu size rest) _ command e (λ hdu is_hdu e1.
    both_said (words size (after_next rest)) (λ w. Ok (made hdu w)) command (sym (makes hdu (after_next rest)) ∙ e1) (λ w is e2.
    let h = next_says number_of_word NotHdu size rest hdu is_hdu in
    let same : made hdu w ≡ command = let z : ◌≡◌ {A = Result Command Misfit} (Ok (made hdu w)) (Ok command) = e2 in cc in
    rw (sym same) (form hdu w (after_next rest) is (λ IsForm so. record { hdu = h.word; rest = after_next rest; is = ap (λ r. verb_word v ++ followed r) h.is; is_hdu = IsNumber-is h.word hdu h.read; form = so }))))

-- a line of a verb and an HDU, of which a command is made
of_hdu : (v : Verb) (size : ℕ) (rest : Option (List ℕ)) (made : ℕ → Command) (command : Command) → hdu_said v size rest ≡ Ok command → ((h : ℕ) (more : Option (List ℕ)) → said_of v size h more ≡ ended size more (made h))
    → ((h : ℕ) → Names (verb_word v) h IsAlone (verb_word v ++ followed rest) → Says (verb_word v ++ followed rest) (made h)) → Says (verb_word v ++ followed rest) command
of_hdu v size rest made command e makes form =
    both_said (next_hdu size rest) _ command e (λ hdu is_hdu e1.
    let last = ended-says size (after_next rest) (made hdu) command (sym (makes hdu (after_next rest)) ∙ e1) in
    let h = next_says number_of_word NotHdu size rest hdu is_hdu in
    rw (sym last.1) (form hdu (record { hdu = h.word; rest = after_next rest; is = ap (λ r. verb_word v ++ followed r) h.is; is_hdu = IsNumber-is h.word hdu h.read; form = last.0 })))

-- what a verb and a rest say has the form of that
said_by-says : (v : Verb) (size : ℕ) (rest : Option (List ℕ)) (command : Command) → said_by v size rest ≡ Ok command → Says (verb_word v ++ followed rest) command
unfolding said_by said_of
said_by-says verb.Insert size rest command e = of_words verb.Insert size rest card_words (λ h w. cards_command h (Insert w.0 w.1)) command e (λ h more. refl) (λ h w more is names. names _ (card_words-says size more w is))
said_by-says verb.Put size rest command e = of_words verb.Put size rest card_words (λ h w. cards_command h (Put w.0 w.1)) command e (λ h more. refl) (λ h w more is names. names _ (card_words-says size more w is))
said_by-says verb.Delete size rest command e = of_words verb.Delete size rest place_word (λ h w. cards_command h (Delete w)) command e (λ h more. refl) (λ h w more is names. names _ (place_word-says size more w is))
said_by-says verb.Move size rest command e = of_words verb.Move size rest move_words (λ h w. cards_command h (Move w.0 w.1)) command e (λ h more. refl) (λ h w more is names. names _ (move_words-says size more w is))
said_by-says verb.Set size rest command e = of_words verb.Set size rest field_words (λ h w. cards_command h (Set w.0 w.1 w.2)) command e (λ h more. refl) (λ h w more is names. names _ (field_words-says size more w is))
said_by-says verb.Unset size rest command e = of_words verb.Unset size rest name_word (λ h w. cards_command h (Unset w)) command e (λ h more. refl) (λ h w more is names. names _ (name_word-says size more w is))
said_by-says verb.Fill size rest command e = of_words verb.Fill size rest fill_words (λ h w. Edit (Hdu h (Pixels w.0 w.1 w.2))) command e (λ h more. refl) (λ h w more is names. let form = fill_words-says size more w is in rw form.1 (names _ form.0))
said_by-says verb.Write size rest command e = of_words verb.Write size rest write_words (λ h w. Edit (Hdu h (Pixels w.0 w.1 w.2))) command e (λ h more. refl) (λ h w more is names. let form = write_words-says size more w is in rw form.1 (names _ form.0))
said_by-says verb.Reshape size rest command e = of_words verb.Reshape size rest array_words (λ h w. Edit (Hdu h (Reshape w.0 w.1))) command e (λ h more. refl) (λ h w more is names. names _ (array_words-says size more w is))
said_by-says verb.New size rest command e = of_words verb.New size rest array_words (λ h w. Edit (NewImage h w.0 w.1)) command e (λ h more. refl) (λ h w more is names. names _ (array_words-says size more w is))
said_by-says verb.Remove size rest command e = of_hdu verb.Remove size rest (λ h. Edit (RemoveHdu h)) command e (λ h more. refl) (λ h names. names)
said_by-says verb.Stamp size rest command e = of_hdu verb.Stamp size rest (λ h. Edit (Hdu h Stamp)) command e (λ h more. refl) (λ h names. names)
said_by-says verb.Keep size rest command e = of_hdu verb.Keep size rest (λ h. Edit (Hdu h Keep)) command e (λ h more. refl) (λ h names. names)
said_by-says verb.Release size rest command e = of_hdu verb.Release size rest (λ h. Edit (Hdu h Release)) command e (λ h more. refl) (λ h names. names)
said_by-says verb.Kept size rest command e = of_hdu verb.Kept size rest (λ h. Kept h) command e (λ h more. refl) (λ h names. names)
said_by-says verb.Get size rest command e = of_words verb.Get size rest name_word (λ h w. Get h w) command e (λ h more. refl) (λ h w more is names. names _ (name_word-says size more w is))
said_by-says verb.Positions size rest command e = of_words verb.Positions size rest name_word (λ h w. Positions h w) command e (λ h more. refl) (λ h w more is names. names _ (name_word-says size more w is))
said_by-says verb.Statistics size rest command e = of_hdu verb.Statistics size rest (λ h. Statistics h) command e (λ h more. refl) (λ h names. names)
said_by-says verb.Rectangle size rest command e = of_words verb.Rectangle size rest rectangle_word (λ h w. Rectangle h w.0 w.1) command e (λ h more. refl) (λ h w more is names. names _ (rectangle_word-says size more w is))
said_by-says verb.Sums size rest command e = of_hdu verb.Sums size rest (λ h. Sums h) command e (λ h more. refl) (λ h names. names)
said_by-says verb.Offsets size rest command e = let last = ended-says size rest Offsets command e in rw (sym last.1) (lone (codes "off") rest last.0)
said_by-says verb.Report size rest command e = let last = ended-says size rest Report command e in rw (sym last.1) (lone (codes "rep") rest last.0)

-- what a line says by its words has the form of that
verb_said-says : (v : Option Verb) (line : List ℕ) (command : Command) → verb_of (first_word line) ≡ v → verb_said v line ≡ Ok command → Says line command
unfolding verb_said
verb_said-says None line command is e = absurd (let z : ◌≡◌ {A = Result Command Misfit} (Err (no_verb line)) (Ok command) = e in cc)
verb_said-says (Some v) line command is e =
    let whole : line ≡ verb_word v ++ followed (after_word line) = followed-after_word line ∙ ap (λ word. word ++ followed (after_word line)) (verb_of-says (first_word line) v is) in
    rw whole (said_by-says v (length line) (after_word line) command e)

-- one of two things is said
either_said : {P : Type 0} (test : Bool) (a b : Result Command Misfit) (command : Command) → (if test then a else b) ≡ Ok command → (test ≡ true → a ≡ Ok command → P) → (test ≡ false → b ≡ Ok command → P) → P
either_said true a b command e first next = first refl e
either_said false a b command e first next = next refl e

-- a line that says a command has its form
pub Says-command_of : (line : List ℕ) (command : Command) → command_of line ≡ Ok command → Says line command
unfolding command_of
Says-command_of [] command e = let same : command ≡ Nothing = let z : ◌≡◌ {A = Result Command Misfit} (Ok Nothing) (Ok command) = e in cc in rw same (inl refl)
Says-command_of (byte ∷ bytes) command e =
    either_said (byte == 35) (Ok Nothing) _ command e
    (λ hash z. let same : command ≡ Nothing = cc in let byte_is : byte ≡ 35 = search rules in rw same (inr (bytes, ap (λ b. b ∷ bytes) byte_is)))
    (λ other said. verb_said-says (verb_of (first_word (byte ∷ bytes))) (byte ∷ bytes) command refl said)
