-- The total of a header's words, by the notes of its cards.
use Rattle.std.proofs.Common.{◌≡◌, ℕ, ◌+◌, ◌-◌, ◌*◌, ◌/◌, ◌<◌, ◌≤◌, true, nat_eq, List, [], ◌∷◌, ◌++◌, All, length, take, drop, get_or, refl, ap, sym, subst, ◌∙◌, arith, suc}
use Rattle.std.specs.List.{list_all}
use Rattle.std.proofs.lemmas.Bool.{and_parts, eqb-true}
use Rattle.std.proofs.lemmas.List.{drop_at, length-map, length-take-le, take_at, take_more}
use Rattle.std.proofs.lemmas.List.Elements.{All-append, All-cons, All-nil, All-tail}
use Rattle.std.proofs.lemmas.List.Sums.{sum_by-append, sum_by-cons, sum_by_push, sum_by-take-drop, sum_by-take-le}
use Rattle.fits_card.specs.Change.{moved, only_item, spliced}
use Rattle.fits_card.specs.Header.{Header, IsHeader, IsInnerCard, joined_cards, header_bytes}
use Rattle.fits_card.proofs.HeaderLemmas.{length-joined_cards, length-header_bytes, fill_length-by_cards}
use Rattle.fits_header.specs.declared.note.Note.{Note}
use Rattle.fits_header.specs.Notes.{note_of, notes_of, total_in}
use Rattle.fits_sum.specs.Words.{word_total}
use Rattle.fits_sum.proofs.WordLemmas.{word_total-append}
use Rattle.fits_header.proofs.ChangeLemmas.{All-spliced}
use Rattle.fits_header.proofs.EntriesLemmas.{parts_of}

-- words of spaces, added up
pub spaces_total : (bytes : List ℕ) → list_all (nat_eq 32) bytes ≡ true → word_total bytes ≡ 538976288 * (length bytes / 4)
spaces_total [] all = refl
spaces_total (a ∷ []) all = refl
spaces_total (a ∷ b ∷ []) all = refl
spaces_total (a ∷ b ∷ c ∷ []) all = refl
spaces_total (a ∷ b ∷ c ∷ d ∷ rest) all =
    let one = and_parts (nat_eq 32 a) (list_all (nat_eq 32) (b ∷ c ∷ d ∷ rest)) all in
    let two = and_parts (nat_eq 32 b) (list_all (nat_eq 32) (c ∷ d ∷ rest)) one.1 in
    let three = and_parts (nat_eq 32 c) (list_all (nat_eq 32) (d ∷ rest)) two.1 in
    let four = and_parts (nat_eq 32 d) (list_all (nat_eq 32) rest) three.1 in
    omega (arith, eqb-true 32 a one.0, eqb-true 32 b two.0, eqb-true 32 c three.0, eqb-true 32 d four.0, spaces_total rest four.1)

-- one more note counts
pub total_in-more : (notes : List Note) (i : ℕ) (note : Note) → i < length notes → note ≡ get_or notes i note → total_in (take (i + 1) notes) ≡ total_in (take i notes) + note.total
total_in-more notes i note h is =
    ap total_in (take_more notes i note h) ∙ (sum_by_push (λ (note : Note). note.total) (take i notes) (get_or notes i note)
    ∙ sym (ap (λ (note : Note). total_in (take i notes) + note.total) is))

pub ruleset total_steps = (total_in-more)

-- the total of a note is that of 20 words
abbrev pub IsSmall : Note → Type 0
IsSmall note = note.total ≤ 20 * 4294967295

-- one more is
pub small-more : (notes : List Note) (i : ℕ) (note : Note) → i < length notes → note ≡ get_or notes i note → note.total ≤ 20 * 4294967295 → All IsSmall (take i notes) → All IsSmall (take (i + 1) notes)
small-more notes i note within is small before =
    let one : All IsSmall (get_or notes i note ∷ []) = All-cons IsSmall (get_or notes i note) [] (subst IsSmall is small) (All-nil IsSmall) in
    rw (take_more notes i note within) (All-append IsSmall (take i notes) (get_or notes i note ∷ []) before one)

-- so that of all of them is small
pub total_in-few : (notes : List Note) → All IsSmall notes → total_in notes ≤ 4294967295 * (20 * length notes)
total_in-few [] small = omega arith
total_in-few (note ∷ notes) small =
    omega (arith, small 0 note (omega arith), total_in-few notes (All-tail IsSmall note notes small), sum_by-cons (λ (note : Note). note.total) note notes)

-- those of two lists, added up
total_in-both : (xs ys : List Note) → total_in (xs ++ ys) ≡ total_in xs + total_in ys
total_in-both xs ys = sum_by-append (λ (note : Note). note.total) xs ys

-- the total with others in place of some
total-spliced : (xs new : List Note) (place removed : ℕ) → total_in (spliced xs place removed new) + total_in (take removed (drop (place - 1) xs)) ≡ total_in xs + total_in new
total-spliced xs new place removed =
    let rest = drop (place - 1 + removed) xs in
    omega (
      arith,
      ap total_in (parts_of xs place removed),
      total_in-both (take (place - 1) xs) (take removed (drop (place - 1) xs) ++ rest),
      total_in-both (take removed (drop (place - 1) xs)) rest,
      total_in-both (take (place - 1) xs) (new ++ rest),
      total_in-both new rest,
    )

-- and where one is moved
pub total-moved : (xs : List Note) (from to : ℕ) → total_in (moved xs from to) ≡ total_in xs
total-moved xs from to = omega (arith, total-spliced (spliced xs from 1 []) (only_item xs from) to 0, total-spliced xs [] from 1)

-- some of them have no more than all
pub total-among-le : (count from : ℕ) (xs : List Note) → total_in (take count (drop from xs)) ≤ total_in xs
total-among-le count from xs =
    let note_total : Note → ℕ = λ note. note.total in
    omega (arith, sum_by-take-le note_total (drop from xs) count, sum_by-take-drop note_total xs from)

-- notes with those of cards in place of some
module _ (xs now : List Note) (cards : List (List ℕ)) (place removed : ℕ) (is : now ≡ spliced xs place removed (notes_of cards)) (low : place - 1 ≤ length xs) where
  abbrev pub come : List Note
  come = take (length cards) (drop (place - 1) now)

  -- they stand where they were put
  come_there : come ≡ notes_of cards
  come_there =
      ap (λ (notes : List Note). take (length cards) (drop (place - 1) notes)) is
      ∙ (ap (take (length cards)) (drop_at (take (place - 1) xs) (notes_of cards ++ drop (place - 1 + removed) xs) (place - 1) (length-take-le (place - 1) xs low))
      ∙ take_at (notes_of cards) (drop (place - 1 + removed) xs) (length cards) (length-map cards note_of))

  -- so that the totals of those that went and came tell that of all
  pub total_after : total_in now + total_in (take removed (drop (place - 1) xs)) ≡ total_in xs + total_in come
  total_after = omega (arith, ap total_in is, ap total_in come_there, total-spliced xs (notes_of cards) place removed)

  -- and all are small, where those are
  pub small_after : All IsSmall xs → All IsSmall come → All IsSmall now
  small_after old new = rw is (All-spliced IsSmall xs (notes_of cards) place removed old (subst (All IsSmall) come_there new))

-- the cards of a header have the total of their notes
pub total-marked : (cards : List (List ℕ)) → All IsInnerCard cards → word_total (joined_cards cards) ≡ total_in (notes_of cards)
total-marked [] h = refl
total-marked (card ∷ cards) h =
    let more = word_total-append 20 card (joined_cards cards) (h 0 card (omega arith)).size in
    let rest = total-marked cards (λ k d l. h (suc k) d (omega arith)) in
    omega (arith, more, rest, sum_by-cons (λ (note : Note). note.total) (note_of card) (notes_of cards))

-- a header's total, by its notes, END and the fill
pub total-header : (header : Header) (notes : List Note) → IsHeader header → notes ≡ notes_of header.cards → word_total (header_bytes header) ≡ total_in notes + (word_total header.end + word_total header.fill)
total-header header notes whole is =
    let cards = word_total-append (20 * length header.cards) (joined_cards header.cards) (header.end ++ header.fill) (omega (arith, length-joined_cards header.cards whole.cards)) in
    let end = word_total-append 20 header.end header.fill whole.end_size in
    omega (arith, cards, end, total-marked header.cards whole.cards, ap total_in is)

pub ruleset header_steps = (total-header, length-header_bytes, fill_length-by_cards)
