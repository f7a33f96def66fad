-- One column more of a header.
use Rattle.std.proofs.Common.{◌≡◌, ℕ, zero, suc, ◌+◌, ◌-◌, ◌<◌, ◌||◌, Bool, List, [], ◌∷◌, ◌++◌, length, take, map, get_or, Option, Some, option_and_then, ap, sym, ◌∙◌, arith}
use Rattle.std.specs.List.{list_any, range_with_len, slice_get}
use Rattle.std.proofs.lemmas.List.{map-append, take_more}
use Rattle.std.proofs.lemmas.Option.{slice_get-get_or}
use Rattle.fits_card.specs.Header.{card_at}
use Rattle.fits_rules.specs.Reads.{string_said}
use Rattle.fits_table.specs.Column.{column_of}
use Rattle.fits_table.specs.Leads.{column_leads, is_past}
use Rattle.fits_table.specs.TableMark.{leads_of, names_of}
use Rattle.fits_table.specs.declared.table_kind.TableKind.{TableKind}
use Rattle.fits_table.proofs.ColumnsLemmas.{any_more}

-- one number more
pub range_more : (a n : ℕ) → range_with_len a (suc n) ≡ range_with_len a n ++ (a + n) ∷ []
range_more a zero = let same : a ≡ a + 0 = omega arith in ap (λ (x : ℕ). x ∷ []) same
range_more a (suc n) =
    let next : a + 1 + n ≡ a + suc n = omega arith in
    ap (λ (xs : List ℕ). a ∷ xs) (range_more (a + 1) n ∙ ap (λ (x : ℕ). range_with_len (a + 1) n ++ x ∷ []) next)

-- the leads of one column more
pub leads_more : (cards : List (List ℕ)) (n : ℕ) → leads_of cards (n + 1) ≡ leads_of cards n ++ column_leads cards (n + 1) ∷ []
leads_more cards n =
    let more : n + 1 ≡ suc n = omega arith in
    let last : 1 + n ≡ n + 1 = omega arith in
    ap (λ k. map (column_leads cards) (range_with_len 1 k)) more
    ∙ (ap (map (column_leads cards)) (range_more 1 n)
    ∙ (map-append (column_leads cards) (range_with_len 1 n) ((1 + n) ∷ [])
    ∙ ap (λ k. map (column_leads cards) (range_with_len 1 n) ++ column_leads cards k ∷ []) last))

-- what they say
pub columns_more : (kind : TableKind) (cards : List (List ℕ)) (n : ℕ) → map (column_of kind) (leads_of cards (n + 1)) ≡ map (column_of kind) (leads_of cards n) ++ column_of kind (column_leads cards (n + 1)) ∷ []
columns_more kind cards n = ap (map (column_of kind)) (leads_more cards n) ∙ map-append (column_of kind) (leads_of cards n) (column_leads cards (n + 1) ∷ [])

-- the name of a column
abbrev pub name_of : List (List ℕ) → ℕ → Option (List ℕ)
name_of cards n = option_and_then string_said (column_leads cards n).name

-- the names with one more
pub names_more : (cards : List (List ℕ)) (n : ℕ) → names_of (leads_of cards (n + 1)) ≡ names_of (leads_of cards n) ++ name_of cards (n + 1) ∷ []
names_more cards n = ap names_of (leads_more cards n) ∙ map-append (λ column. option_and_then string_said column.name) (leads_of cards n) (column_leads cards (n + 1) ∷ [])

-- one card more
pub past_more : (fields : ℕ) (cards : List (List ℕ)) (i : ℕ) (card : List ℕ) (found : Bool) → i < length cards → Some card ≡ card_at cards (i + 1) → found ≡ list_any (is_past fields) (take i cards)
    → (found || is_past fields card) ≡ list_any (is_past fields) (take (i + 1) cards)
past_more fields cards i card found within here is =
    let place : i + 1 - 1 ≡ i = omega arith in
    let got : Some card ≡ Some (get_or cards i card) = here ∙ (ap (slice_get cards) place ∙ slice_get-get_or cards i card within) in
    let same : card ≡ get_or cards i card = cc in
    ap (λ b. b || is_past fields card) is
    ∙ (any_more (is_past fields) (take i cards) card
    ∙ sym (ap (list_any (is_past fields)) (take_more cards i card within ∙ ap (λ c. take i cards ++ c ∷ []) (sym same))))

pub ruleset columns_steps = (columns_more, names_more)
