-- Lines and their JSON: how they begin, and how they grow.
use Rattle.std.proofs.Common.{◌≡◌, inl, inr, ℕ, ◌+◌, ◌==◌, Bool, true, false, not, ◌||◌, cond, zero, suc, ◌<◌, List, [], ◌∷◌, ◌++◌, length, take, get_or, Bor, Option, Some, None, refl, ap, sym, subst, ◌∙◌, append_assoc, append-nil, arith, rules}
use Rattle.std.specs.List.{All, flat_map, list_any, prefix_len}
use Rattle.std.specs.Io.KnownBytes.{Appends}
use Rattle.std.proofs.lemmas.Bool.{eqb-true}
use Rattle.std.proofs.lemmas.List.{take_more}
use Rattle.std.proofs.lemmas.List.Elements.{All-append}
use Rattle.std.proofs.lemmas.List.Folds.{list_any-append}
use Rattle.std.proofs.lemmas.List.Sums.{prefix_len_stops}
use Rattle.std.proofs.lemmas.Grind.{flat_map-append}
use Rattle.fits_stream.specs.Stream.{Flushes, Gains, Held, SinkState}
use Rattle.fits_json.specs.Objects.{IsUnended, ReadsAsLine}
use Rattle.fits_json.specs.JsonLines.{AreJsonLines, ended_line, feed_if, held_if, IsJson, json_line, passed_if, TakesLine}
use Rattle.fits_json.specs.declared.column.Column.{Column}

-- nothing was written yet
none_written : (name : List ℕ) (forms : List (Bor (List Column))) (held told passed : List ℕ) → held ≡ [] → told ≡ [] → passed ≡ [] → AreJsonLines name forms told held passed
none_written name forms held told passed h t p = record {
  lines = [];
  text_is = t ∙ sym h;
  unended = ap (λ xs. list_any (λ (byte : ℕ). byte == 10) xs) h;
  whole = search rules;
  bytes_are = p;
  read = search rules;
}

-- as it is made
pub json_begins : (name : List ℕ) (forms : List (Bor (List Column))) (held told passed : List ℕ) (failed unflushed : ℕ) (below : SinkState) → held ≡ [] → told ≡ [] → passed ≡ []
    → IsJson name forms held told passed failed unflushed below
json_begins name forms held told passed failed unflushed below h t p = record {
  json = λ quiet. none_written name forms held told passed h t p;
  passed_on = λ none. inl t;
}

-- a flush passes it on
pub json_flushed : (name : List ℕ) (forms : List (Bor (List Column))) (held told passed : List ℕ) (failed unflushed flushed : ℕ) (old new : SinkState)
    → IsJson name forms held told passed failed unflushed old → Flushes old new → IsJson name forms held told passed failed flushed new
json_flushed name forms held told passed failed unflushed flushed old new h done = record {
  json = h.json;
  passed_on = λ none. inr done.flushed;
}

-- known bytes grow by none
appends_none : (known : Option (List ℕ)) → Appends known known []
appends_none None = tt
appends_none (Some bytes) = sym (append-nil bytes)

-- a test whose denial fails
not_false : (b : Bool) → not b ≡ false → b ≡ true
not_false true e = refl
not_false false e = absurd (cc)

-- all of one
all_one : {X : Type 0} (P : X → Type 0) (x : X) → P x → All P (x ∷ [])
all_one P x one zero d within = one
all_one P x one (suc k) d within = absurd (omega (arith, within))

-- nothing was gained
gains_none : (held : Held) → Gains held held []
gains_none held = record { told = appends_none held.told; taken = appends_none held.taken }

-- a byte is no line feed
abbrev is_feed : ℕ → Bool
is_feed byte = byte == 10

-- and whether it is none
abbrev is_no_feed : ℕ → Bool
is_no_feed byte = not (byte == 10)

-- one byte more of a front without a line feed
unended_cons : (byte : ℕ) (bytes : List ℕ) (n : ℕ) (feed : Bool) → is_feed byte ≡ feed → list_any is_feed (take n bytes) ≡ false
    → list_any is_feed (take (cond (not feed) (1 + n) 0) (byte ∷ bytes)) ≡ false
unended_cons byte bytes n true e none = refl
unended_cons byte bytes n false e none =
    let one : suc n ≡ 1 + n = omega arith in
    subst (λ k. list_any is_feed (take k (byte ∷ bytes)) ≡ false) one (ap (λ b. b || list_any is_feed (take n bytes)) e ∙ none)

-- the front up to the first line feed has none
unended_front : (bytes : List ℕ) → list_any is_feed (take (prefix_len is_no_feed bytes) bytes) ≡ false
unended_front [] = refl
unended_front (byte ∷ bytes) = unended_cons byte bytes (prefix_len is_no_feed bytes) (is_feed byte) refl (unended_front bytes)

-- a part of a line is held
pub takes_part : (name : List ℕ) (forms : List (Bor (List Column))) (piece held kept passed : List ℕ) (len : ℕ) (below : Held) → len ≡ prefix_len is_no_feed piece
    → kept ≡ held ++ take len piece → TakesLine name forms (take len piece) held kept passed passed below below
takes_part name forms piece held kept passed len below is more = record {
  part = take len piece;
  ends = false;
  bytes_are = sym (append-nil (take len piece));
  unended = subst (λ n. list_any is_feed (take n piece) ≡ false) (sym is) (unended_front piece);
  kept_is = more;
  gone_is = sym (append-nil passed);
  gains = gains_none below;
  reads = λ e. absurd (cc);
}

-- the byte that ends a line
feed_at : (piece : List ℕ) (len : ℕ) → len ≡ prefix_len is_no_feed piece → len < length piece → take (len + 1) piece ≡ take len piece ++ 10 ∷ []
feed_at piece len is within =
    let stops : is_no_feed (get_or piece len 0) ≡ false =
    subst (λ n. is_no_feed (get_or piece n 0) ≡ false) (sym is) (prefix_len_stops is_no_feed piece 0 (subst (λ n. n < length piece) is within)) in
    let feed : get_or piece len 0 ≡ 10 = eqb-true (get_or piece len 0) 10 (not_false (is_feed (get_or piece len 0)) stops) in
    take_more piece len 0 within ∙ ap (λ byte. take len piece ++ byte ∷ []) feed

-- a line ends
pub takes_end : (name : List ℕ) (forms : List (Bor (List Column))) (piece held full line kept passed gone : List ℕ) (len : ℕ) (old new : Held) → len ≡ prefix_len is_no_feed piece
    → len < length piece → full ≡ held ++ take len piece → line ≡ full → kept ≡ [] → gone ≡ passed ++ json_line name forms line → Gains old new (json_line name forms line)
    → ReadsAsLine name forms line → TakesLine name forms (take (len + 1) piece) held kept passed gone old new
takes_end name forms piece held full line kept passed gone len old new is within more same none grown gains reads =
    let whole : line ≡ held ++ take len piece = same ∙ more in
    record {
      part = take len piece;
      ends = true;
      bytes_are = feed_at piece len is within;
      unended = subst (λ n. list_any is_feed (take n piece) ≡ false) (sym is) (unended_front piece);
      kept_is = none;
      gone_is = grown ∙ ap (λ it. passed ++ json_line name forms it) whole;
      gains = subst (λ it. Gains old new (json_line name forms it)) whole gains;
      reads = λ e. subst (ReadsAsLine name forms) whole reads;
    }

-- what is held and a part of the line after it
unended-append : (held part : List ℕ) → IsUnended held → IsUnended part → IsUnended (held ++ part)
unended-append held part h p = list_any-append is_feed held part ∙ ap (λ b. b || list_any is_feed part) h ∙ p

-- one more
all_more : {X : Type 0} (P : X → Type 0) (xs : List X) (x : X) → All P xs → P x → All P (xs ++ x ∷ [])
all_more P xs x all one = All-append P xs (x ∷ []) all (all_one P x one)

-- one more line in a text
lines_more : (f : List ℕ → List ℕ) (lines : List (List ℕ)) (line : List ℕ) → flat_map f (lines ++ line ∷ []) ≡ flat_map f lines ++ f line
lines_more f lines line = flat_map-append f lines (line ∷ []) ∙ ap (λ xs. flat_map f lines ++ xs) (append-nil (f line))

-- a part of a line is written
grows_part : (name : List ℕ) (forms : List (Bor (List Column))) (held told passed bytes part kept gone : List ℕ) → AreJsonLines name forms told held passed → bytes ≡ part ++ []
    → IsUnended part → kept ≡ held ++ part → gone ≡ passed ++ [] → AreJsonLines name forms (told ++ bytes) kept gone
grows_part name forms held told passed bytes part kept gone h are plain more same = record {
  lines = h.lines;
  text_is =
      ap (λ xs. told ++ xs) (are ∙ append-nil part) ∙ ap (λ xs. xs ++ part) h.text_is ∙ append_assoc (flat_map ended_line h.lines) held part
      ∙ ap (λ xs. flat_map ended_line h.lines ++ xs) (sym more);
  unended = subst IsUnended (sym more) (unended-append held part h.unended plain);
  whole = h.whole;
  bytes_are = same ∙ append-nil passed ∙ h.bytes_are;
  read = h.read;
}

-- a line ends
grows_line : (name : List ℕ) (forms : List (Bor (List Column))) (held told passed bytes part kept gone : List ℕ) → AreJsonLines name forms told held passed → bytes ≡ part ++ 10 ∷ []
    → IsUnended part → kept ≡ [] → gone ≡ passed ++ json_line name forms (held ++ part) → ReadsAsLine name forms (held ++ part) → AreJsonLines name forms (told ++ bytes) kept gone
grows_line name forms held told passed bytes part kept gone h are plain none grown reads =
    let line : List ℕ = held ++ part in
    let text : told ++ bytes ≡ flat_map ended_line (h.lines ++ line ∷ []) =
    ap (λ xs. told ++ xs) are ∙ ap (λ xs. xs ++ (part ++ 10 ∷ [])) h.text_is ∙ append_assoc (flat_map ended_line h.lines) held (part ++ 10 ∷ [])
    ∙ ap (λ xs. flat_map ended_line h.lines ++ xs) (sym (append_assoc held part (10 ∷ []))) ∙ sym (lines_more ended_line h.lines line) in
    record {
      lines = h.lines ++ line ∷ [];
      text_is = text ∙ sym (append-nil (flat_map ended_line (h.lines ++ line ∷ []))) ∙ ap (λ xs. flat_map ended_line (h.lines ++ line ∷ []) ++ xs) (sym none);
      unended = subst IsUnended (sym none) refl;
      whole = all_more IsUnended h.lines line h.whole (unended-append held part h.unended plain);
      bytes_are = grown ∙ ap (λ xs. xs ++ json_line name forms line) h.bytes_are ∙ sym (lines_more (json_line name forms) h.lines line);
      read = all_more (ReadsAsLine name forms) h.lines line h.read reads;
    }

-- either way
grows : (name : List ℕ) (forms : List (Bor (List Column))) (ends : Bool) (held told passed bytes part kept gone : List ℕ) → AreJsonLines name forms told held passed → bytes ≡ part ++ feed_if ends
    → IsUnended part → kept ≡ held_if ends (held ++ part) → gone ≡ passed ++ passed_if name forms ends (held ++ part) → (ends ≡ true → ReadsAsLine name forms (held ++ part))
    → AreJsonLines name forms (told ++ bytes) kept gone
grows name forms false held told passed bytes part kept gone h are plain more same reads = grows_part name forms held told passed bytes part kept gone h are plain more same
grows name forms true held told passed bytes part kept gone h are plain none grown reads =
    grows_line name forms held told passed bytes part kept gone h are plain none grown (reads refl)

-- a number that one more was added to isn't 0
not_zero : {X : Type 0} (n m : ℕ) → n ≡ m + 1 → n ≡ 0 → X
not_zero n m more none = absurd (omega (arith, more, none))

-- a write that succeeded
pub json_written : (name : List ℕ) (forms : List (Bor (List Column))) (piece taken held kept told grown passed gone : List ℕ) (count failed unflushed ticked : ℕ) (old new : SinkState)
    → IsJson name forms held told passed failed unflushed old → TakesLine name forms (take count piece) held kept passed gone old.contents new.contents → taken ≡ take count piece
    → grown ≡ told ++ taken → ticked ≡ unflushed + 1 → IsJson name forms kept grown gone failed ticked new
json_written name forms piece taken held kept told grown passed gone count failed unflushed ticked old new h takes front more ticks = record {
  json = λ quiet.
      subst (λ text. AreJsonLines name forms text kept gone) (sym (more ∙ ap (λ xs. told ++ xs) front))
      (grows name forms takes.ends held told passed (take count piece) takes.part kept gone (h.json quiet) takes.bytes_are takes.unended takes.kept_is takes.gone_is takes.reads);
  passed_on = not_zero ticked unflushed ticks;
}
