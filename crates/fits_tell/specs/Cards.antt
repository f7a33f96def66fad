-- What `cards` prints: cards of headers, a line each (own; FITS Standard 4.0, section 4.1).
use Rattle.std.specs.Prelude.{◌≡◌, ◌⊎◌, ℕ, ◌+◌, ◌==◌, Bool, false, not, ◌&&◌, ◌||◌, List, [], ◌∷◌, ◌++◌, length, take, map, codes, Option, Some, None, if◌then◌else◌}
use Rattle.std.specs.Fmt.{decimal}
use Rattle.std.specs.List.{flat_map, list_any}
use Rattle.std.specs.Str.{bytes_eq}
use Rattle.fits_card.specs.Card.{keyword_name, is_text, is_text_byte}
use Rattle.fits_value.specs.Text.{trimmed}
use Rattle.fits_header.specs.Links.{header_links}
use Rattle.fits_stream.specs.Stream.{SourceState, SinkState, GainsFront, FailsOnce, Prints, PrintsFront, StaysQuiet}
use Rattle.fits_passing.specs.Headers.{ShowsHeaders}
use Rattle.fits_passing.specs.declared.open_fault.OpenFault.{OpenFault}
use Rattle.fits_tell.specs.Asked.{numbers_asked}
use Rattle.fits_tell.specs.Faults.{status_of_fault}
use Rattle.fits_tell.specs.Numbered.{numbered}
use Rattle.fits_tell.specs.declared.card_choice.CardChoice.{CardChoice}
use Rattle.fits_tell.specs.declared.card_place.CardPlace.{CardPlace}
use Rattle.fits_tell.specs.declared.end.End.{End}
use Rattle.fits_tell.specs.declared.fault.Fault.{Fault}
use Rattle.fits_tell.specs.declared.fault.Fault.TheVariants.{Refused, ScriptTooLong, Memory, ReadFailed, WriteFailed, Reread as RereadFault}
use Rattle.fits_tell.specs.declared.name_pattern.NamePattern.{NamePattern}
use Rattle.fits_tell.specs.declared.shown_card.ShownCard.{ShownCard}

-- a byte as it is shown: a question mark where it isn't text
abbrev pub shown_byte : ℕ → ℕ
shown_byte byte = if is_text_byte byte then byte else 63

-- a card as it is shown, without the spaces at its end
abbrev pub shown_text : List ℕ → List ℕ
shown_text card = map shown_byte (trimmed card)

-- a space and a text, or nothing where the text is empty
abbrev pub after_space : List ℕ → List ℕ
after_space [] = []
after_space (byte ∷ bytes) = 32 ∷ (byte ∷ bytes)

-- `HDU PLACE CARD`; of a blank card the place ends the line
unfoldable pub card_line : ShownCard → List ℕ
card_line it = decimal it.hdu ++ (codes " " ++ (decimal it.place ++ (after_space (shown_text it.card) ++ codes "\n")))

-- a pattern fits a name: as many bytes of it as count are the name's
abbrev pub fits : List ℕ → NamePattern → Bool
fits name pattern = bytes_eq (take pattern.len name) (take pattern.len pattern.name)

-- a name is asked for; all are where none is named
abbrev pub has_name : CardChoice → List ℕ → Bool
has_name choice name = (length choice.names.items == 0) || list_any (fits name) choice.names.items

-- an HDU has one of these numbers; all have where there are none
abbrev pub has_hdu : List ℕ → ℕ → Bool
has_hdu numbers h = (length numbers == 0) || list_any (λ asked. asked == h) numbers

-- HDUs or names are asked for
abbrev pub is_given : CardChoice → Bool
is_given choice = not (length choice.hdus.items == 0) || not (length choice.names.items == 0)

-- the cards of HDU h that are shown, from a place on, the one before them being shown or not: those of a name that is asked for, and the links
-- of a long string whose card before is shown (4.2.1.2)
abbrev pub chosen_from : CardChoice → ℕ → ℕ → Bool → List (List ℕ) → List Bool → List ShownCard
chosen_from choice h place before [] links = []
chosen_from choice h place before (card ∷ cards) [] = []
chosen_from choice h place before (card ∷ cards) (link ∷ links) =
    let shown : Bool = has_name choice (keyword_name card) || (link && before) in
    (if shown then (record { hdu = h; place = place; card = card }) ∷ [] else []) ++ chosen_from choice h (place + 1) shown cards links

-- the cards of HDU h that are shown, where HDUs of these numbers are asked for
unfoldable pub chosen_in : CardChoice → List ℕ → ℕ → List (List ℕ) → List ShownCard
chosen_in choice numbers h cards = if has_hdu numbers h then chosen_from choice h 1 false cards (header_links cards) else []

-- those of headers
abbrev pub chosen_among : CardChoice → List ℕ → List (List (List ℕ)) → List ShownCard
chosen_among choice numbers headers = numbered (chosen_in choice numbers) 1 headers

-- those of all headers of a file
abbrev pub all_chosen : CardChoice → List (List (List ℕ)) → List ShownCard
all_chosen choice headers = chosen_among choice (numbers_asked headers choice.hdus.items) headers

-- the lines of cards
abbrev pub card_lines : List ShownCard → List ℕ
card_lines shown = flat_map card_line shown

-- what is printed of headers
abbrev pub cards_text : CardChoice → List (List (List ℕ)) → List ℕ
cards_text choice headers = card_lines (all_chosen choice headers)

-- where a card stands
abbrev pub place_of : ShownCard → CardPlace
place_of it = record { hdu = it.hdu; place = it.place }

-- the place of a card that isn't shown as it is
abbrev pub changed_at : ShownCard → List CardPlace
changed_at it = if is_text it.card then [] else place_of it ∷ []

-- the places of such cards
abbrev pub changed_of : List ShownCard → List CardPlace
changed_of shown = flat_map changed_at shown

-- there are some
abbrev pub has_some : {X : Type 0} → List X → Bool
has_some xs = not (length xs == 0)

-- 1 where a card isn't shown as it is, or none is shown though some are asked for; else 0
abbrev pub status_by : CardChoice → Bool → Bool → ℕ
status_by choice any_changed any_shown = if any_changed || (is_given choice && not any_shown) then 1 else 0

-- how the run ends: by that, or by the fault of a file that doesn't open
abbrev pub end_by : CardChoice → Bool → Bool → Option OpenFault → End
end_by choice any_changed any_shown None = record { status = status_by choice any_changed any_shown; fault = None }
end_by choice any_changed any_shown (Some why) = record { status = 2; fault = Some (Refused why) }

-- the same of cards that are shown
abbrev pub end_of_cards : CardChoice → List ShownCard → Option OpenFault → End
end_of_cards choice shown fault = end_by choice (has_some (changed_of shown)) (has_some shown) fault

-- the cards of a source's headers are printed and flushed
pub record CardsAreShown (choice : CardChoice) (file file_after : SourceState) (out out_after : SinkState) (end : End) (changed : List CardPlace) : Type 0 where
  pub headers : List (List (List ℕ))
  pub fault : Option OpenFault
  pub shows : ShowsHeaders file file_after headers fault
  pub read : StaysQuiet file file_after
  pub printed : Prints (cards_text choice headers) out out_after
  pub flushed : out_after.unflushed ≡ 0
  pub changed_is : changed ≡ changed_of (all_chosen choice headers)
  pub end_is : end ≡ end_of_cards choice (all_chosen choice headers) fault

-- memory was refused: before the text, so that nothing is printed, or within it
pub record CardsNeedMemory (choice : CardChoice) (file file_after : SourceState) (out out_after : SinkState) : Type 0 where
  pub read : StaysQuiet file file_after
  pub quiet : out_after.failures ≡ out.failures
  pub printed : (out_after ≡ out)
      ⊎ ((headers : List (List (List ℕ))) × (fault : Option OpenFault) × ShowsHeaders file file_after headers fault × GainsFront out.contents out_after.contents (cards_text choice headers))

-- a write failed: a prefix of the text stands
pub record CardsFail (choice : CardChoice) (file file_after : SourceState) (out out_after : SinkState) : Type 0 where
  pub headers : List (List (List ℕ))
  pub fault : Option OpenFault
  pub shows : ShowsHeaders file file_after headers fault
  pub read : StaysQuiet file file_after
  pub printed : PrintsFront (cards_text choice headers) out out_after

-- what stands before a fault that ends the run
abbrev pub CardsStop : CardChoice → SourceState → SourceState → SinkState → SinkState → Fault → Type 0
CardsStop choice file file_after out out_after (Refused why) = ⊥
CardsStop choice file file_after out out_after ScriptTooLong = ⊥
CardsStop choice file file_after out out_after Memory = CardsNeedMemory choice file file_after out out_after
CardsStop choice file file_after out out_after ReadFailed = FailsOnce file file_after × (out_after ≡ out)
CardsStop choice file file_after out out_after WriteFailed = CardsFail choice file file_after out out_after
CardsStop choice file file_after out out_after (RereadFault why) = ⊥

-- the run ended by a fault: no card is told
pub record CardsStopped (choice : CardChoice) (file file_after : SourceState) (out out_after : SinkState) (end : End) (changed : List CardPlace) : Type 0 where
  pub why : Fault
  pub stops : CardsStop choice file file_after out out_after why
  pub status_is : end.status ≡ status_of_fault why
  pub fault_is : end.fault ≡ Some why
  pub none : changed ≡ []

-- how the run ends
abbrev pub CardsEndAs : CardChoice → SourceState → SourceState → SinkState → SinkState → End → List CardPlace → Type 0
CardsEndAs choice file file_after out out_after end changed =
    CardsAreShown choice file file_after out out_after end changed ⊎ CardsStopped choice file file_after out out_after end changed
