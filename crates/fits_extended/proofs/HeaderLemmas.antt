-- What a line stands for goes by headers alone: in files with the same headers it is the same.
use Rattle.std.proofs.Common.{◌≡◌, drop, ℕ, ◌+◌, ◌-◌, zero, suc, Bool, true, false, List, [], ◌∷◌, ◌++◌, length, Option, None, Some, refl, ap, ◌∙◌}
use Rattle.std.specs.Option.{option_map}
use Rattle.std.specs.Prelude.{◌&&◌, ◌==◌, codes, not, unwrap_or, Result, Ok, Err, if◌then◌else◌}
use Rattle.fits_card.specs.Name.{is_settable}
use Rattle.fits_value.specs.Says.{field_says}
use Rattle.fits_value.specs.declared.value.Value.{Value}
use Rattle.fits_passing.specs.File.{FileParts}
use Rattle.fits_making.specs.declared.refusal.Refusal.{Refusal}
use Rattle.fits_session.proofs.HeaderLemmas.{headers_of, card_alike, count_alike, number_alike, places_alike, value_alike}
use Rattle.fits_session.specs.Query.{card_count_in, card_in, positions_in, value_in}
use Rattle.fits_script.specs.Words.{after_next, after_word, first_word, name_of_text, number_of_word}
use Rattle.fits_tell.specs.Asked.{after_comma, before_comma}
use Rattle.fits_extended.specs.OwnCard.{own_ending}
use Rattle.fits_extended.specs.Words.{extended_verb_of, is_at_name, is_for_each, is_query_of_each, keyword_of, may_stand, new_name, next_of}
use Rattle.fits_extended.specs.Stands.{added, added_after, adding_by, as_one, both, commented, field_text, first_from, for_each, found_as, guarded, has_name, has_version, has_wanted_version, history, history_after, history_by, is_blank_card, is_called, lacking_by, last_filled, last_without, lead_among, lead_in, lead_or, noted, number_at, number_by, number_called, numbered, of_keyword, or_none, pieces, place_of_lead, queries_for, rename_line, renamed, renaming_by, said_by_verb, said_for, said_in, said_next, said_of_verb, set_line, set_lines, some_cards, standing_in, stands_for, staying, unless_own, value_lines, valued, want_cards, want_value, wanted_by, with_number, with_numbers}
use Rattle.fits_extended.specs.declared.extended_verb.ExtendedVerb.{ExtendedVerb}
use Rattle.fits_extended.specs.declared.extended_verb.ExtendedVerb.TheVariants.{Add, History, Keyword}
use Rattle.fits_extended.specs.declared.keyword_verb.KeywordVerb.{KeywordVerb}
use Rattle.fits_extended.specs.declared.keyword_verb.KeywordVerb.TheVariants as verb
use Rattle.fits_extended.specs.declared.unmet.Unmet.{Unmet}

-- ---- what is so of a number or isn't

-- the last number of which something isn't so goes by what is so
same_last : (is as_is : ℕ → Bool) (more : ℕ) → ((k : ℕ) → is k ≡ as_is k) → last_without is more ≡ last_without as_is more
unfolding last_without
same_last is as_is zero same = refl
same_last is as_is (suc more) same =
    ap (λ (b : Bool). if b then last_without is more else suc more) (same (suc more))
    ∙ ap (λ (k : ℕ). if as_is (suc more) then k else suc more) (same_last is as_is more same)

-- so does the first of which it is
same_first : (is as_is : ℕ → Bool) (more number : ℕ) → ((k : ℕ) → is k ≡ as_is k) → first_from is more number ≡ first_from as_is more number
unfolding first_from
same_first is as_is zero number same = refl
same_first is as_is (suc more) number same =
    ap (λ (b : Bool). if b then number else first_from is more (number + 1)) (same number)
    ∙ ap (λ (k : ℕ). if as_is number then number else k) (same_first is as_is more (number + 1) same)

-- ---- files that answer alike what is asked of headers

module _ (file other : FileParts) (count : length file.hdus ≡ length other.hdus) (value : (h : ℕ) (name : List ℕ) → value_in file h name ≡ value_in other h name) (places : (h : ℕ) (name : List ℕ) → positions_in file h name ≡ positions_in other h name) (card : (h place : ℕ) → card_in file h place ≡ card_in other h place) (cards : (h : ℕ) → card_count_in file h ≡ card_count_in other h) where
  -- `want` of a value
  same_want_value : (h : ℕ) (word field : List ℕ) (said : Option (Value × Option (List ℕ))) → want_value file h word field said ≡ want_value other h word field said
  same_want_value h word field None = refl
  same_want_value h word field (Some wanted) = ap (guarded h word wanted) (value h (name_of_text word))

  -- `want` and `lack` of cards
  same_want_cards : (wanted : Bool) (h : ℕ) (word : List ℕ) → want_cards wanted file h word ≡ want_cards wanted other h word
  same_want_cards wanted h word = ap (λ (r : Result (List ℕ) Refusal). found_as wanted h word (some_cards r)) (places h (name_of_text word))

  -- `want`
  same_wanted : (h : ℕ) (word : List ℕ) (rest : Option (List ℕ)) → wanted_by file h word rest ≡ wanted_by other h word rest
  same_wanted h word None = same_want_cards true h word
  same_wanted h word (Some field) = same_want_value h word field (field_says field)

  -- `lack`
  same_lacking : (h : ℕ) (word : List ℕ) (rest : Option (List ℕ)) → lacking_by file h word rest ≡ lacking_by other h word rest
  same_lacking h word None = same_want_cards false h word
  same_lacking h word (Some more) = refl

  -- the first card that has a value
  same_lead_among : (h : ℕ) (ps : List ℕ) → lead_among file h ps ≡ lead_among other h ps
  unfolding lead_among
  same_lead_among h [] = refl
  same_lead_among h (place ∷ ps) =
      ap (λ (r : Result (List ℕ) Refusal). lead_or place r (lead_among file h ps)) (card h place)
      ∙ ap (lead_or place (card_in other h place)) (same_lead_among h ps)

  same_lead : (h : ℕ) (name : List ℕ) → lead_in file h name ≡ lead_in other h name
  same_lead h name =
      ap (λ (r : Result (List ℕ) Refusal). lead_among file h (or_none r)) (places h name)
      ∙ same_lead_among h (or_none (positions_in other h name))

  same_place : (h : ℕ) (name : List ℕ) → place_of_lead file h name ≡ place_of_lead other h name
  same_place h name = ap (λ (lead : Option (ℕ × List ℕ)). option_map (λ (it : ℕ × List ℕ). it.0) lead) (same_lead h name)

  -- a field that is set, with its comment on a card of its own
  same_set : (h : ℕ) (word field : List ℕ) (said : Option (Value × Option (List ℕ))) → set_lines file h word field said ≡ set_lines other h word field said
  same_set h word field None = refl
  same_set h word field (Some said) =
      ap (unless_own (set_line h word field) h word said (own_ending (name_of_text word) said.0 said.1)) (same_place h (name_of_text word))

  -- `val`
  same_valued : (h : ℕ) (word field : List ℕ) (comment : Option (List ℕ)) (had : Result (Value × Option (List ℕ)) Refusal) → valued file h word field comment had ≡ valued other h word field comment had
  same_valued h word field comment (Ok had) = let whole = field ++ staying comment had.1 in same_set h word whole (field_says whole)
  same_valued h word field comment (Err why) = refl

  same_value_lines : (h : ℕ) (word field : List ℕ) (said : Option (Value × Option (List ℕ))) → value_lines file h word field said ≡ value_lines other h word field said
  same_value_lines h word field None = refl
  same_value_lines h word field (Some said) =
      ap (valued file h word field said.1) (value h (name_of_text word)) ∙ same_valued h word field said.1 (value_in other h (name_of_text word))

  -- `note`
  same_commented : (h : ℕ) (word text : List ℕ) (had : Result (Value × Option (List ℕ)) Refusal) → commented file h word text had ≡ commented other h word text had
  same_commented h word text (Ok had) = let whole = field_text had.0 ++ noted text in same_set h word whole (field_says whole)
  same_commented h word text (Err why) = refl

  -- `ren`
  same_rename : (h : ℕ) (word new : List ℕ) → rename_line file h word new ≡ rename_line other h word new
  same_rename h word new =
      let no : Result (List ℕ) Unmet = Ok (of_keyword (codes "set") h new) in
      let settable : Bool = is_settable (name_of_text new) in
      ap (λ (lead : Option (ℕ × List ℕ)). if settable then renamed h word new lead (lead_in file h (name_of_text new)) else no) (same_lead h (name_of_text word))
      ∙ ap (λ (lead : Option (ℕ × List ℕ)). if settable then renamed h word new (lead_in other h (name_of_text word)) lead else no) (same_lead h (name_of_text new))

  same_renaming : (h : ℕ) (word : List ℕ) (rest new : Option (List ℕ)) → renaming_by file h word rest new ≡ renaming_by other h word rest new
  same_renaming h word rest None = refl
  same_renaming h word rest (Some new) = same_rename h word new

  -- the last card that isn't blank
  same_filled : (h n : ℕ) → last_filled file h n ≡ last_filled other h n
  same_filled h n =
      same_last (λ (place : ℕ). is_blank_card (card_in file h place)) (λ (place : ℕ). is_blank_card (card_in other h place)) n (λ place. ap is_blank_card (card h place))

  -- `add`
  same_added : (h : ℕ) (text : List ℕ) (n : Result ℕ Refusal) → added file h text n ≡ added other h text n
  same_added h text (Ok n) = ap (added_after h text n) (same_filled h n)
  same_added h text (Err why) = refl

  same_adding : (rest : Option (List ℕ)) (number : Option ℕ) → adding_by file rest number ≡ adding_by other rest number
  same_adding rest None = refl
  same_adding rest (Some h) =
      ap (added file h (unwrap_or (after_next rest) [])) (cards h) ∙ same_added h (unwrap_or (after_next rest) []) (card_count_in other h)

  -- `hist`
  same_history : (h : ℕ) (text : List ℕ) (n : Result ℕ Refusal) → history file h text n ≡ history other h text n
  same_history h text (Ok n) = ap (λ (place : ℕ). history_after h n place (pieces (length text) text)) (same_filled h n)
  same_history h text (Err why) = refl

  same_historied : (rest : Option (List ℕ)) (number : Option ℕ) → history_by file rest number ≡ history_by other rest number
  same_historied rest None = refl
  same_historied rest (Some h) =
      ap (history file h (unwrap_or (after_next rest) [])) (cards h) ∙ same_history h (unwrap_or (after_next rest) []) (card_count_in other h)

  -- what is said of a keyword
  same_said_for : (verb : KeywordVerb) (h : ℕ) (word : List ℕ) (rest : Option (List ℕ)) → said_for file verb h word rest ≡ said_for other verb h word rest
  unfolding said_for
  same_said_for verb.Value h word rest = ap Ok (same_value_lines h word (unwrap_or rest []) (field_says (unwrap_or rest [])))
  same_said_for verb.Note h word rest =
      ap (λ (r : Result (Value × Option (List ℕ)) Refusal). Ok (commented file h word (unwrap_or rest []) r)) (value h (name_of_text word))
      ∙ ap Ok (same_commented h word (unwrap_or rest []) (value_in other h (name_of_text word)))
  same_said_for verb.Rename h word rest = ap as_one (same_renaming h word rest (new_name rest))
  same_said_for verb.Want h word rest = ap as_one (same_wanted h word rest)
  same_said_for verb.Lack h word rest = ap as_one (same_lacking h word rest)

  same_said_next : (verb : KeywordVerb) (rest : Option (List ℕ)) (key : Option (ℕ × List ℕ × Option (List ℕ))) → said_next file verb rest key ≡ said_next other verb rest key
  same_said_next verb rest None = refl
  same_said_next verb rest (Some key) = same_said_for verb key.0 key.1 key.2

  -- what an extended verb says
  same_said_of : (verb : ExtendedVerb) (rest : Option (List ℕ)) → said_of_verb file verb rest ≡ said_of_verb other verb rest
  same_said_of (Keyword verb) rest = same_said_next verb rest (keyword_of rest)
  same_said_of Add rest = ap (λ (text : List ℕ). Ok (text ∷ [])) (same_adding rest (number_of_word (next_of rest)))
  same_said_of History rest = ap Ok (same_historied rest (number_of_word (next_of rest)))

  same_said_by : (verb : Option ExtendedVerb) (line : List ℕ) → said_by_verb file verb line ≡ said_by_verb other verb line
  same_said_by None line = refl
  same_said_by (Some verb) line = same_said_of verb (after_word line)

  same_said : (line : List ℕ) → said_in file line ≡ said_in other line
  unfolding said_in
  same_said line = same_said_by (extended_verb_of (first_word line)) line

  -- what an extension is called
  same_version : (h : ℕ) (version : Option ℕ) → has_wanted_version file h version ≡ has_wanted_version other h version
  same_version h None = refl
  same_version h (Some version) = ap (has_version version) (value h (codes "EXTVER  "))

  same_called : (name : List ℕ) (version : Option ℕ) (h : ℕ) → is_called file name version h ≡ is_called other name version h
  unfolding is_called
  same_called name version h =
      ap (λ (r : Result (Value × Option (List ℕ)) Refusal). has_name name r && has_wanted_version file h version) (value h (codes "EXTNAME "))
      ∙ ap (λ (b : Bool). has_name name (value_in other h (codes "EXTNAME ")) && b) (same_version h version)

  same_number_called : (name : List ℕ) (version : Option ℕ) → number_called file name version ≡ number_called other name version
  same_number_called name version =
      same_first (is_called file name version) (is_called other name version) (length file.hdus - 1) 2 (same_called name version)
      ∙ ap (λ (n : ℕ). first_from (is_called other name version) (n - 1) 2) count

  same_number_by : (text : List ℕ) (version : Option ℕ) → number_by file text version ≡ number_by other text version
  same_number_by text None = same_number_called text None
  same_number_by text (Some version) = same_number_called (before_comma text) (Some version)

  same_number : (word : List ℕ) → number_at file word ≡ number_at other word
  unfolding number_at
  same_number word = let text : List ℕ = drop 1 word in same_number_by text (number_of_word (after_comma text))

  same_numbered : (line : List ℕ) → numbered file line ≡ numbered other line
  unfolding numbered
  same_numbered line =
      ap (λ (n : ℕ). if is_at_name (next_of (after_word line)) then with_number (first_word line) n (after_next (after_word line)) else line) (same_number (next_of (after_word line)))

  -- a line for each HDU
  same_each : (verb : List ℕ) (rest : Option (List ℕ)) (more h : ℕ) → for_each file verb rest more h ≡ for_each other verb rest more h
  unfolding for_each
  same_each verb rest zero h = refl
  same_each verb rest (suc more) h =
      ap (λ (r : Result (List (List ℕ)) Unmet). both r (for_each file verb rest more (h + 1))) (same_said (with_number verb h rest))
      ∙ ap (both (said_in other (with_number verb h rest))) (same_each verb rest more (h + 1))

  same_standing : (whole : Bool) (line : List ℕ) → standing_in whole file line ≡ standing_in whole other line
  same_standing whole line =
      let each : for_each file (first_word line) (after_next (after_word line)) (length file.hdus) 1 ≡ for_each other (first_word line) (after_next (after_word line)) (length other.hdus) 1 =
      same_each (first_word line) (after_next (after_word line)) (length file.hdus) 1 ∙ ap (λ (n : ℕ). for_each other (first_word line) (after_next (after_word line)) n 1) count in
      let one : said_in file (numbered file line) ≡ said_in other (numbered other line) = same_said (numbered file line) ∙ ap (said_in other) (same_numbered line) in
      ap (λ (r : Result (List (List ℕ)) Unmet). if whole && is_for_each line then r else said_in file (numbered file line)) each
      ∙ ap (λ (r : Result (List (List ℕ)) Unmet). if whole && is_for_each line then for_each other (first_word line) (after_next (after_word line)) (length other.hdus) 1 else r) one

  -- so a line stands for the same
  pub stands_same : (whole : Bool) (line : List ℕ) → stands_for whole file line ≡ stands_for whole other line
  unfolding stands_for
  stands_same whole line = ap (λ (r : Result (List (List ℕ)) Unmet). if may_stand line then r else Ok (line ∷ [])) (same_standing whole line)

  -- for queries of each HDU too
  pub queries_same : (line : List ℕ) → queries_for file line ≡ queries_for other line
  unfolding queries_for
  queries_same line =
      ap (λ (n : ℕ). if may_stand line && is_query_of_each line then Some (with_numbers (first_word line) (after_next (after_word line)) n 1) else None) count

-- so a line stands for the same in files with the same headers
pub stands_alike : (whole : Bool) (file other : FileParts) (line : List ℕ) → headers_of file ≡ headers_of other → stands_for whole file line ≡ stands_for whole other line
stands_alike whole file other line same = stands_same file other (number_alike file other same) (value_alike file other same) (places_alike file other same) (card_alike file other same) (count_alike file other same) whole line

-- for queries of each HDU too
pub queries_alike : (file other : FileParts) (line : List ℕ) → headers_of file ≡ headers_of other → queries_for file line ≡ queries_for other line
queries_alike file other line same = queries_same file other (number_alike file other same) (value_alike file other same) (places_alike file other same) (card_alike file other same) (count_alike file other same) line
