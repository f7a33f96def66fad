-- Which plain lines an extended line of a script stands for in a file (own).
use Rattle.std.specs.Prelude.{ℕ, ◌+◌, ◌-◌, zero, suc, ◌&&◌, ◌==◌, nat_lt, not, Bool, true, false, pos, List, [], ◌∷◌, ◌++◌, length, drop, get_or, nat_le, take, codes, Option, None, Some, unwrap_or, Result, Ok, Err, if◌then◌else◌}
use Rattle.std.specs.declared.alloc.Global.{Global}
use Rattle.std.specs.declared.vec.Vec.{Vec}
use Rattle.std.specs.Fmt.{decimal}
use Rattle.std.specs.List.{list_all}
use Rattle.std.specs.Option.{option_map}
use Rattle.std.specs.Str.{bytes_eq}
use Rattle.fits_value.specs.Says.{field_says, says_number}
use Rattle.fits_value.specs.Spelling.{doubled, is_space}
use Rattle.fits_value.specs.Written.{characters_of}
use Rattle.fits_value.specs.declared.value.Value.{Value}
use Rattle.fits_value.specs.declared.value.Value.TheVariants.{Undefined, Logical, Integer, Real, Complex, Str}
use Rattle.fits_passing.specs.File.{FileParts}
use Rattle.fits_making.specs.declared.refusal.Refusal.{Refusal}
use Rattle.fits_making.specs.declared.refusal.Refusal.TheVariants as refusal
use Rattle.fits_card.specs.Card.{has_value}
use Rattle.fits_card.specs.Name.{is_settable}
use Rattle.fits_session.specs.Query.{card_count_in, card_in, positions_in, value_in}
use Rattle.fits_script.specs.Words.{after_next, after_word, first_word, name_of_text, number_of_word}
use Rattle.fits_tell.specs.Asked.{after_comma, before_comma, is_version}
use Rattle.fits_extended.specs.OwnCard.{comment_card, longer_field, open_card, own_ending}
use Rattle.fits_extended.specs.Same.{is_same_value, is_text}
use Rattle.fits_extended.specs.Words.{extended_verb_of, is_at_name, is_for_each, is_query_of_each, keyword_of, may_stand, new_name, next_of}
use Rattle.fits_extended.specs.declared.ending.Ending.{Ending}
use Rattle.fits_extended.specs.declared.extended_verb.ExtendedVerb.{ExtendedVerb}
use Rattle.fits_extended.specs.declared.extended_verb.ExtendedVerb.TheVariants.{Add, History, Keyword}
use Rattle.fits_extended.specs.declared.keyword_verb.KeywordVerb.{KeywordVerb}
use Rattle.fits_extended.specs.declared.keyword_verb.KeywordVerb.TheVariants as verb
use Rattle.fits_extended.specs.declared.stands.Stands.{Stands}
use Rattle.fits_extended.specs.declared.stands.Stands.TheVariants.{Itself, Line, Lines, Unmet as UnmetStands}
use Rattle.fits_extended.specs.declared.unmet.Unmet.{Unmet}
use Rattle.fits_extended.specs.declared.unmet.Unmet.TheVariants.{Exists, Other}

-- what is printed of a line that isn't done, since what it wants of the file isn't so
abbrev pub unmet_text : Unmet → List ℕ
unmet_text Exists = codes "refused 16 Exists"
unmet_text Other = codes "refused 17 Other"

-- a verb and what follows it, if anything does
abbrev pub with_verb : List ℕ → Option (List ℕ) → List ℕ
with_verb verb None = verb
with_verb verb (Some rest) = verb ++ (codes " " ++ rest)

-- `VERB H NAME`, with the name as it is typed
abbrev pub of_keyword : List ℕ → ℕ → List ℕ → List ℕ
of_keyword verb h word = verb ++ (codes " " ++ decimal h) ++ (codes " " ++ word)

-- `get H NAME`, which says why a keyword has no value that can be read
abbrev pub get_line : ℕ → List ℕ → List ℕ
get_line h word = of_keyword (codes "get") h word

-- `set H NAME FIELD`
abbrev pub set_line : ℕ → List ℕ → List ℕ → List ℕ
set_line h word field = of_keyword (codes "set") h word ++ (codes " " ++ field)

-- `VERB H P CARD`
abbrev pub card_line : List ℕ → ℕ → ℕ → List ℕ → List ℕ
card_line verb h place card = verb ++ (codes " " ++ decimal h) ++ (codes " " ++ decimal place) ++ (codes " " ++ card)

-- a value as a line spells it: a string stands in quotes, with each quote in it doubled (4.2.1.1)
abbrev pub field_text : Value → List ℕ
field_text Undefined = []
field_text (Logical flag) = if flag then codes "T" else codes "F"
field_text (Integer text) = text
field_text (Real text) = text
field_text (Complex real imaginary) = codes "(" ++ real ++ codes ", " ++ imaginary ++ codes ")"
field_text (Str text) = codes "'" ++ doubled text ++ codes "'"

-- a slash and a comment, if there is one
abbrev pub comment_text : Option (List ℕ) → List ℕ
comment_text None = []
comment_text (Some comment) = codes " /" ++ comment

-- the comment that stays: a keyword's own, unless a line says one
abbrev pub staying : Option (List ℕ) → Option (List ℕ) → List ℕ
staying (Some comment) had = []
staying None had = comment_text had

-- a comment as a line says it, after a slash and a space; an empty one is none
abbrev pub noted : List ℕ → List ℕ
noted [] = []
noted (byte ∷ bytes) = codes " / " ++ (byte ∷ bytes)

-- nothing is to be done where this is so
abbrev pub met_if : Bool → Result (List ℕ) Unmet
met_if true = Ok []
met_if false = Err Other

-- a comment is as it is wanted, if one is
abbrev pub has_comment : Option (List ℕ) → Option (List ℕ) → Bool
has_comment None had = true
has_comment (Some comment) None = false
has_comment (Some comment) (Some had) = bytes_eq comment had

-- a keyword says what is wanted of it; of an HDU that isn't there `get` says so
abbrev pub guarded : ℕ → List ℕ → Value × Option (List ℕ) → Result (Value × Option (List ℕ)) Refusal → Result (List ℕ) Unmet
guarded h word wanted (Ok had) = met_if (is_same_value wanted.0 had.0 && has_comment wanted.1 had.1)
guarded h word wanted (Err refusal.NoHdu) = Ok (get_line h word)
guarded h word wanted (Err why) = Err Other

-- `want H NAME FIELD`, by what FIELD says
abbrev pub want_value : FileParts → ℕ → List ℕ → List ℕ → Option (Value × Option (List ℕ)) → Result (List ℕ) Unmet
want_value file h word field None = Ok (set_line h word field)
want_value file h word field (Some wanted) = guarded h word wanted (value_in file h (name_of_text word))

-- whether a name has cards
abbrev pub some_cards : Result (List ℕ) Refusal → Result Bool Refusal
some_cards (Ok places) = Ok (nat_lt 0 (length places))
some_cards (Err why) = Err why

-- the same in HDU h
abbrev pub has_cards_in : FileParts → ℕ → List ℕ → Result Bool Refusal
has_cards_in file h name = some_cards (positions_in file h name)

-- this is found as it is wanted; of an HDU that isn't there `get` says so
abbrev pub found_as : Bool → ℕ → List ℕ → Result Bool Refusal → Result (List ℕ) Unmet
found_as wanted h word (Ok found) = met_if (if wanted then found else not found)
found_as wanted h word (Err why) = Ok (get_line h word)

-- `want H NAME`, `lack H NAME`
abbrev pub want_cards : Bool → FileParts → ℕ → List ℕ → Result (List ℕ) Unmet
want_cards wanted file h word = found_as wanted h word (has_cards_in file h (name_of_text word))

-- `want`, by what follows the keyword
abbrev pub wanted_by : FileParts → ℕ → List ℕ → Option (List ℕ) → Result (List ℕ) Unmet
wanted_by file h word None = want_cards true file h word
wanted_by file h word (Some field) = want_value file h word field (field_says field)

-- `lack`, after which no more follows
abbrev pub lacking_by : FileParts → ℕ → List ℕ → Option (List ℕ) → Result (List ℕ) Unmet
lacking_by file h word None = want_cards false file h word
lacking_by file h word (Some more) = Ok (get_line h word ++ (codes " " ++ more))

-- a place whose card has a value, or another
abbrev pub lead_or : ℕ → Result (List ℕ) Refusal → Option (ℕ × List ℕ) → Option (ℕ × List ℕ)
lead_or place (Ok card) others = if has_value card then Some (place, card) else others
lead_or place (Err why) others = others

-- the first of these places whose card has a value, and that card (4.1.2.2)
unfoldable pub lead_among : FileParts → ℕ → List ℕ → Option (ℕ × List ℕ)
lead_among file h [] = None
lead_among file h (place ∷ places) = lead_or place (card_in file h place) (lead_among file h places)

-- these places, or none where they are refused
abbrev pub or_none : Result (List ℕ) Refusal → List ℕ
or_none (Ok places) = places
or_none (Err why) = []

-- the place of the first card of a name that has a value in HDU h, and that card
abbrev pub lead_in : FileParts → ℕ → List ℕ → Option (ℕ × List ℕ)
lead_in file h name = lead_among file h (or_none (positions_in file h name))

-- that place alone
abbrev pub place_of_lead : FileParts → ℕ → List ℕ → Option ℕ
place_of_lead file h name = option_map (λ lead. lead.0) (lead_in file h name)

-- the lines that give a keyword whose lead is at this place a string, and its comment on a card of its own. The first writes as many cards, with
-- another text, and can be refused as `set` can; the others change what the last two of them say, and can't then: no card moves or comes,
-- and none of them was a string that says something of the data
abbrev pub own_card_lines : ℕ → List ℕ → Value × Option (List ℕ) → ℕ → Ending → List (List ℕ)
own_card_lines h word said place ending =
    set_line h word (longer_field (characters_of said.0) ending)
    ∷ card_line (codes "put") h (place + ending.count) (comment_card ending (unwrap_or said.1 []))
    ∷ card_line (codes "put") h (place + ending.count - 1) (open_card ending)
    ∷ []

-- a line, or these where the comment has a card of its own and the keyword has a lead
abbrev pub unless_own : List ℕ → ℕ → List ℕ → Value × Option (List ℕ) → Option Ending → Option ℕ → List (List ℕ)
unless_own line h word said None place = line ∷ []
unless_own line h word said (Some ending) None = line ∷ []
unless_own line h word said (Some ending) (Some place) = own_card_lines h word said place ending

-- `set H NAME FIELD`, or these lines, by what FIELD says
abbrev pub set_lines : FileParts → ℕ → List ℕ → List ℕ → Option (Value × Option (List ℕ)) → List (List ℕ)
set_lines file h word field None = set_line h word field ∷ []
set_lines file h word field (Some said) =
    unless_own (set_line h word field) h word said (own_ending (name_of_text word) said.0 said.1) (place_of_lead file h (name_of_text word))

-- `val H NAME FIELD` of a keyword with this value and comment
abbrev pub valued : FileParts → ℕ → List ℕ → List ℕ → Option (List ℕ) → Result (Value × Option (List ℕ)) Refusal → List (List ℕ)
valued file h word field comment (Ok had) = let whole = field ++ staying comment had.1 in set_lines file h word whole (field_says whole)
valued file h word field comment (Err why) = get_line h word ∷ []

-- the same by what FIELD says: one that can't be read is no command of `set` either
abbrev pub value_lines : FileParts → ℕ → List ℕ → List ℕ → Option (Value × Option (List ℕ)) → List (List ℕ)
value_lines file h word field None = set_line h word field ∷ []
value_lines file h word field (Some said) = valued file h word field said.1 (value_in file h (name_of_text word))

-- `note H NAME COMMENT` of a keyword with this value
abbrev pub commented : FileParts → ℕ → List ℕ → List ℕ → Result (Value × Option (List ℕ)) Refusal → List (List ℕ)
commented file h word text (Ok had) = let whole = field_text had.0 ++ noted text in set_lines file h word whole (field_says whole)
commented file h word text (Err why) = get_line h word ∷ []

-- a card under another name (4.1.2.1)
abbrev pub under_name : List ℕ → List ℕ → List ℕ
under_name name card = name ++ drop 8 card

-- a keyword with this lead under another name, which has a value, or none
abbrev pub renamed : ℕ → List ℕ → List ℕ → Option (ℕ × List ℕ) → Option (ℕ × List ℕ) → Result (List ℕ) Unmet
renamed h word new None other = Ok (get_line h word)
renamed h word new (Some lead) (Some other) = Err Exists
renamed h word new (Some lead) None = Ok (card_line (codes "put") h lead.0 (under_name (name_of_text new) lead.1))

-- `ren H NAME NEW`; a name that no keyword with a value may have `set` refuses (4.1.2.1)
abbrev pub rename_line : FileParts → ℕ → List ℕ → List ℕ → Result (List ℕ) Unmet
rename_line file h word new =
    if is_settable (name_of_text new)
    then renamed h word new (lead_in file h (name_of_text word)) (lead_in file h (name_of_text new))
    else Ok (of_keyword (codes "set") h new)

-- the same by what follows NAME: where that isn't a new name alone it is as little a command as after `get H`
abbrev pub renaming_by : FileParts → ℕ → List ℕ → Option (List ℕ) → Option (List ℕ) → Result (List ℕ) Unmet
renaming_by file h word rest None = Ok (with_verb (codes "get" ++ (codes " " ++ decimal h)) rest)
renaming_by file h word rest (Some new) = rename_line file h word new

-- a card of HDU h is there and blank
abbrev pub is_blank_card : Result (List ℕ) Refusal → Bool
is_blank_card (Ok card) = list_all is_space card
is_blank_card (Err why) = false

-- the last of so many numbers from 1 of which something isn't so, or 0
unfoldable pub last_without : (ℕ → Bool) → ℕ → ℕ
last_without is zero = 0
last_without is (suc more) = if is (suc more) then last_without is more else suc more

-- the last place of HDU h, of so many, whose card isn't blank
abbrev pub last_filled : FileParts → ℕ → ℕ → ℕ
last_filled file h count = last_without (λ place. is_blank_card (card_in file h place)) count

-- a card after this place, in that of a blank one where one of so many follows
abbrev pub added_after : ℕ → List ℕ → ℕ → ℕ → List ℕ
added_after h card count place = card_line (if nat_lt place count then codes "put" else codes "ins") h (place + 1) card

-- `add H CARD`, in an HDU of so many cards; `ins` says that it isn't there
abbrev pub added : FileParts → ℕ → List ℕ → Result ℕ Refusal → List ℕ
added file h card (Ok count) = added_after h card count (last_filled file h count)
added file h card (Err why) = card_line (codes "ins") h 1 card

-- what `add` says of the HDU that comes next
abbrev pub adding_by : FileParts → Option (List ℕ) → Option ℕ → List ℕ
adding_by file rest None = with_verb (codes "get") rest
adding_by file rest (Some h) = added file h (unwrap_or (after_next rest) []) (card_count_in file h)

-- where a text may be cut: the last of so many bytes after its first that is a space, or 0
abbrev pub last_gap : List ℕ → ℕ → ℕ
last_gap text count = last_without (λ place. not (get_or text place 0 == 32)) count

-- how much of a text that is cut there, or nowhere, a HISTORY card has: it has room for 72 bytes (4.4.2.4)
abbrev pub piece_len : ℕ → ℕ
piece_len gap = if gap == 0 then 72 else gap

-- how much of it is gone then, with the space
abbrev pub piece_end : ℕ → ℕ
piece_end gap = if gap == 0 then 72 else gap + 1

-- a text in pieces of 72 bytes at most, cut at spaces; one more than so many at most
unfoldable pub pieces : ℕ → List ℕ → List (List ℕ)
pieces zero text = text ∷ []
pieces (suc more) text =
    let gap : ℕ = last_gap text 72 in
    let rest : List ℕ = drop (piece_end gap) text in
    if nat_le (length text) 72 then text ∷ []
    else take (piece_len gap) text ∷ (if length rest == 0 then [] else pieces more rest)

-- a HISTORY card for each piece, one after another after this place, in an HDU of so many cards
abbrev pub history_after : ℕ → ℕ → ℕ → List (List ℕ) → List (List ℕ)
history_after h count place [] = []
history_after h count place (piece ∷ others) = added_after h (codes "HISTORY " ++ piece) count place ∷ history_after h count (place + 1) others

-- `hist H TEXT`, in an HDU of so many cards; `ins` says that it isn't there
abbrev pub history : FileParts → ℕ → List ℕ → Result ℕ Refusal → List (List ℕ)
history file h text (Ok count) = history_after h count (last_filled file h count) (pieces (length text) text)
history file h text (Err why) = card_line (codes "ins") h 1 (codes "HISTORY ") ∷ []

-- what `hist` says of the HDU that comes next
abbrev pub history_by : FileParts → Option (List ℕ) → Option ℕ → List (List ℕ)
history_by file rest None = with_verb (codes "get") rest ∷ []
history_by file rest (Some h) = history file h (unwrap_or (after_next rest) []) (card_count_in file h)

-- a line that stands for one alone
abbrev pub as_one : Result (List ℕ) Unmet → Result (List (List ℕ)) Unmet
as_one (Ok line) = Ok (line ∷ [])
as_one (Err why) = Err why

-- what is said of a keyword, by what follows it
unfoldable pub said_for : FileParts → KeywordVerb → ℕ → List ℕ → Option (List ℕ) → Result (List (List ℕ)) Unmet
said_for file verb.Value h word rest = let field = unwrap_or rest [] in Ok (value_lines file h word field (field_says field))
said_for file verb.Note h word rest = Ok (commented file h word (unwrap_or rest []) (value_in file h (name_of_text word)))
said_for file verb.Rename h word rest = as_one (renaming_by file h word rest (new_name rest))
said_for file verb.Want h word rest = as_one (wanted_by file h word rest)
said_for file verb.Lack h word rest = as_one (lacking_by file h word rest)

-- the same of the keyword that comes next; where none does it is as little a command as `get` is
abbrev pub said_next : FileParts → KeywordVerb → Option (List ℕ) → Option (ℕ × List ℕ × Option (List ℕ)) → Result (List (List ℕ)) Unmet
said_next file verb rest None = Ok (with_verb (codes "get") rest ∷ [])
said_next file verb rest (Some key) = said_for file verb key.0 key.1 key.2

-- what an extended verb says, by what follows it
abbrev pub said_of_verb : FileParts → ExtendedVerb → Option (List ℕ) → Result (List (List ℕ)) Unmet
said_of_verb file (Keyword verb) rest = said_next file verb rest (keyword_of rest)
said_of_verb file Add rest = Ok (adding_by file rest (number_of_word (next_of rest)) ∷ [])
said_of_verb file History rest = Ok (history_by file rest (number_of_word (next_of rest)))

-- a line whose verb isn't extended is plain
abbrev pub said_by_verb : FileParts → Option ExtendedVerb → List ℕ → Result (List (List ℕ)) Unmet
said_by_verb file None line = Ok (line ∷ [])
said_by_verb file (Some verb) line = said_of_verb file verb (after_word line)

-- what a line says whose HDU has a number
unfoldable pub said_in : FileParts → List ℕ → Result (List (List ℕ)) Unmet
said_in file line = said_by_verb file (extended_verb_of (first_word line)) line

-- what EXTVER says is this version: where it says nothing it is 1
abbrev pub has_version : ℕ → Result (Value × Option (List ℕ)) Refusal → Bool
has_version version (Ok said) = is_version version said.0
has_version version (Err why) = version == 1

-- the same, where a version is wanted
abbrev pub has_wanted_version : FileParts → ℕ → Option ℕ → Bool
has_wanted_version file h None = true
has_wanted_version file h (Some version) = has_version version (value_in file h (codes "EXTVER  "))

-- the name of an extension, as EXTNAME says it, is this text (4.4.1.2)
abbrev pub has_name : List ℕ → Result (Value × Option (List ℕ)) Refusal → Bool
has_name name (Ok said) = is_text name said.0
has_name name (Err why) = false

-- HDU h has this name, and this version where one is wanted
unfoldable pub is_called : FileParts → List ℕ → Option ℕ → ℕ → Bool
is_called file name version h = has_name name (value_in file h (codes "EXTNAME ")) && has_wanted_version file h version

-- the first of so many numbers from this one on of which something is so, or 0
unfoldable pub first_from : (ℕ → Bool) → ℕ → ℕ → ℕ
first_from is zero number = 0
first_from is (suc more) number = if is number then number else first_from is more (number + 1)

-- the number of the first extension of this name, or 0, which is that of no HDU
abbrev pub number_called : FileParts → List ℕ → Option ℕ → ℕ
number_called file name version = first_from (is_called file name version) (length file.hdus - 1) 2

-- the number that `NAME` or `NAME,VER` stands for
abbrev pub number_by : FileParts → List ℕ → Option ℕ → ℕ
number_by file text None = number_called file text None
number_by file text (Some version) = number_called file (before_comma text) (Some version)

-- the number that `@NAME` or `@NAME,VER` stands for
unfoldable pub number_at : FileParts → List ℕ → ℕ
number_at file word = let text = drop 1 word in number_by file text (number_of_word (after_comma text))

-- `VERB H`, and what follows
abbrev pub with_number : List ℕ → ℕ → Option (List ℕ) → List ℕ
with_number verb h rest = with_verb (verb ++ (codes " " ++ decimal h)) rest

-- a line in which the number of its HDU stands
unfoldable pub numbered : FileParts → List ℕ → List ℕ
numbered file line =
    if is_at_name (next_of (after_word line))
    then with_number (first_word line) (number_at file (next_of (after_word line))) (after_next (after_word line))
    else line

-- plain lines, and then others, unless what is wanted isn't so
abbrev pub both : Result (List (List ℕ)) Unmet → Result (List (List ℕ)) Unmet → Result (List (List ℕ)) Unmet
both (Err why) others = Err why
both (Ok lines) (Ok others) = Ok (lines ++ others)
both (Ok lines) (Err why) = Err why

-- `VERB H`, and what follows, for each of so many HDUs from this number on
unfoldable pub for_each : FileParts → List ℕ → Option (List ℕ) → ℕ → ℕ → Result (List (List ℕ)) Unmet
for_each file verb rest zero h = Ok []
for_each file verb rest (suc more) h = both (said_in file (with_number verb h rest)) (for_each file verb rest more (h + 1))

-- `VERB H`, and what follows, of each of so many HDUs from this number on
unfoldable pub with_numbers : List ℕ → Option (List ℕ) → ℕ → ℕ → List (List ℕ)
with_numbers verb rest zero h = []
with_numbers verb rest (suc more) h = with_number verb h rest ∷ with_numbers verb rest more (h + 1)

-- the plain queries of each HDU, if a line is one of each
unfoldable pub queries_for : FileParts → List ℕ → Option (List (List ℕ))
queries_for file line =
    if may_stand line && is_query_of_each line
    then Some (with_numbers (first_word line) (after_next (after_word line)) (length file.hdus) 1)
    else None

-- what a line stands for that may stand for others, where every line is to be done and where not
abbrev pub standing_in : Bool → FileParts → List ℕ → Result (List (List ℕ)) Unmet
standing_in whole file line =
    if whole && is_for_each line then for_each file (first_word line) (after_next (after_word line)) (length file.hdus) 1
    else said_in file (numbered file line)

-- which plain lines a line stands for, or why it stands for none; one past the limit stands for itself
unfoldable pub stands_for : Bool → FileParts → List ℕ → Result (List (List ℕ)) Unmet
stands_for whole file line =
    if may_stand line then standing_in whole file line else Ok (line ∷ [])

-- the lines of a list
abbrev pub lines_in : List (Vec ℕ Global) → List (List ℕ)
lines_in [] = []
lines_in (line ∷ lines) = line.items ∷ lines_in lines

-- the same as the program has it
abbrev pub stood : List ℕ → Stands → Result (List (List ℕ)) Unmet
stood line Itself = Ok (line ∷ [])
stood line (Line plain) = Ok (plain.items ∷ [])
stood line (Lines plains) = Ok (lines_in plains.items)
stood line (UnmetStands why) = Err why

-- the lines of a list, if there is one
abbrev pub lines_if : Option (Vec (Vec ℕ Global) Global) → Option (List (List ℕ))
lines_if None = None
lines_if (Some lines) = Some (lines_in lines.items)
