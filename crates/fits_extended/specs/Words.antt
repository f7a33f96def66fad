-- The words of extended lines (own).
use Rattle.std.specs.Prelude.{ℕ, ◌==◌, ◌&&◌, ◌||◌, nat_le, nat_lt, Bool, true, false, List, [], ◌∷◌, length, codes, Option, None, Some, if◌then◌else◌}
use Rattle.std.specs.List.{find}
use Rattle.std.specs.Option.{is_some}
use Rattle.std.specs.Str.{bytes_eq}
use Rattle.fits_script.specs.Words.{after_next, after_word, first_word, number_of_word, ◌>>=◌}
use Rattle.fits_script.specs.declared.limits.TheConstants.{LINE_LIMIT}
use Rattle.fits_extended.specs.declared.extended_verb.TheConstants.{EXTENDED_VERBS}
use Rattle.fits_extended.specs.declared.extended_verb.ExtendedVerb.{ExtendedVerb}
use Rattle.fits_extended.specs.declared.extended_verb.ExtendedVerb.TheVariants as verb
use Rattle.fits_extended.specs.declared.keyword_verb.KeywordVerb.TheVariants as keyword

-- the word of an extended verb
abbrev pub extended_word : ExtendedVerb → List ℕ
extended_word (verb.Keyword keyword.Value) = codes "val"
extended_word (verb.Keyword keyword.Note) = codes "note"
extended_word (verb.Keyword keyword.Rename) = codes "ren"
extended_word (verb.Keyword keyword.Want) = codes "want"
extended_word (verb.Keyword keyword.Lack) = codes "lack"
extended_word verb.Add = codes "add"
extended_word verb.History = codes "hist"

-- the extended verb that a word is
unfoldable pub extended_verb_of : List ℕ → Option ExtendedVerb
extended_verb_of word = find (λ verb. bytes_eq word (extended_word verb)) EXTENDED_VERBS

-- the first word of the rest of a line, or none where nothing follows
abbrev pub next_of : Option (List ℕ) → List ℕ
next_of None = []
next_of (Some text) = first_word text

-- a word of 1 to 8 bytes, as a keyword name is typed (4.1.2.1)
abbrev pub is_short : List ℕ → Bool
is_short word = nat_le 1 (length word) && nat_le (length word) 8

-- such a word, if it is one
abbrev pub short_word : List ℕ → Option (List ℕ)
short_word word = if is_short word then Some word else None

-- `H NAME`: the number of an HDU, the name of a keyword as it is typed, and what follows them
unfoldable pub keyword_of : Option (List ℕ) → Option (ℕ × List ℕ × Option (List ℕ))
keyword_of rest = do
  hdu ← number_of_word (next_of rest)
  name ← short_word (next_of (after_next rest))
  Some (hdu, name, after_next (after_next rest))

-- a new name, after which nothing follows
unfoldable pub new_name : Option (List ℕ) → Option (List ℕ)
new_name rest = if is_some (after_next rest) then None else short_word (next_of rest)

-- a word that stands for the number of an HDU: `@`, and the name of an extension
abbrev pub is_at_name : List ℕ → Bool
is_at_name [] = false
is_at_name (byte ∷ bytes) = byte == 64 && nat_lt 0 (length bytes)

-- a word that stands for the number of each HDU
abbrev pub is_star : List ℕ → Bool
is_star word = bytes_eq word (codes "*")

-- a line has an extended form: its verb is extended, or names an HDU by the name of an extension, or each
unfoldable pub is_extended : List ℕ → Bool
is_extended line =
    if is_some (extended_verb_of (first_word line)) then true
    else (is_at_name (next_of (after_word line)) || is_star (next_of (after_word line)))

-- a plain verb of an edit that each HDU may be given
abbrev pub is_plain_edit : List ℕ → Bool
is_plain_edit word =
    bytes_eq word (codes "set") || (bytes_eq word (codes "unset") || (bytes_eq word (codes "ins") || (bytes_eq word (codes "put") || (bytes_eq word (codes "del")
    || (bytes_eq word (codes "stamp") || (bytes_eq word (codes "keep") || bytes_eq word (codes "release")))))))

-- a line is one for each HDU: of an edit, or extended
unfoldable pub is_for_each : List ℕ → Bool
is_for_each line =
    is_star (next_of (after_word line)) && (is_some (extended_verb_of (first_word line)) || is_plain_edit (first_word line))

-- a plain verb of a query that each HDU may be asked
abbrev pub is_plain_query : List ℕ → Bool
is_plain_query word =
    bytes_eq word (codes "get") || (bytes_eq word (codes "pos") || (bytes_eq word (codes "stat") || (bytes_eq word (codes "rect")
    || (bytes_eq word (codes "sum") || bytes_eq word (codes "kept")))))

-- a line is a query of each HDU
unfoldable pub is_query_of_each : List ℕ → Bool
is_query_of_each line = is_star (next_of (after_word line)) && is_plain_query (first_word line)

-- it may stand for another: it is within the limit, and has one
unfoldable pub may_stand : List ℕ → Bool
may_stand line = nat_le (length line) LINE_LIMIT && is_extended line
