-- Places, put together in a line, and what asking for them comes to.
use Rattle.std.proofs.Common.{◌≡◌, ℕ, ◌+◌, ◌<◌, ◌≤◌, List, [], ◌∷◌, ◌++◌, length, take, get_or, refl, ap, sym, ◌∙◌, append_assoc, arith, Ok, Err}
use Rattle.std.specs.Prelude.{codes}
use Rattle.std.specs.Fmt.{decimal}
use Rattle.std.proofs.lemmas.List.{append-nil, take_all, take_more}
use Rattle.std.proofs.lemmas.List.Concat.{flat_map-append}
use Rattle.fits_session.specs.Marked.{Marked}
use Rattle.fits_session.specs.Query.{positions_in}
use Rattle.fits_making.specs.declared.refusal.Refusal.TheVariants.{NoKey}
use Rattle.fits_cli.specs.Answer.{places_line, spaced, outcome_of}
use Rattle.fits_script.specs.declared.command.Command.TheVariants.{Positions}

-- places, and one more
spaced-more : (places : List ℕ) (i d : ℕ) → i < length places → spaced (take (i + 1) places) ≡ spaced (take i places) ++ (codes " " ++ decimal (get_or places i d))
spaced-more places i d l =
    let place : List ℕ = codes " " ++ decimal (get_or places i d) in
    ap spaced (take_more places i d l) ∙ flat_map-append (λ number. codes " " ++ decimal number) (take i places) (get_or places i d ∷ [])
    ∙ ap (λ t. spaced (take i places) ++ t) (append-nil place)

-- one more place is added
pub places_step : (first : ℕ) (line new more : List ℕ) (i d : ℕ) → i < length more → line ≡ decimal first ++ spaced (take i more) → new ≡ line ++ (codes " " ++ decimal (get_or more i d))
    → new ≡ decimal first ++ spaced (take (i + 1) more)
places_step first line new more i d l before added =
    let text : List ℕ = codes " " ++ decimal (get_or more i d) in
    added ∙ ap (λ t. t ++ text) before ∙ append_assoc (decimal first) (spaced (take i more)) text ∙ ap (λ t. decimal first ++ t) (sym (spaced-more more i d l))

-- all places, and the line feed
pub places_line-whole : (first i : ℕ) (line new more : List ℕ) → length more ≤ i → line ≡ decimal first ++ spaced (take i more) → new ≡ line ++ 10 ∷ [] → new ≡ places_line (first ∷ more)
places_line-whole first i line new more l before added =
    added ∙ ap (λ t. t ++ 10 ∷ []) (before ∙ ap (λ t. decimal first ++ spaced t) (take_all i more l)) ∙ append_assoc (decimal first) (spaced more) (10 ∷ [])

pub ruleset places_steps = (places_line-whole)

-- a name without cards
pub no_places : (it : Marked) (h : ℕ) (name places : List ℕ) → positions_in it.file h name ≡ Ok places → length places ≡ 0 → outcome_of it (Positions h name) ≡ Err NoKey
unfolding outcome_of
no_places it h name [] found none = rw found refl
no_places it h name (place ∷ places) found none = absurd (omega arith)
