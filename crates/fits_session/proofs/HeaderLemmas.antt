-- What is asked of headers alone has the same answers in files with the same headers.
use Rattle.std.proofs.Common.{◌≡◌, ℕ, zero, suc, List, [], ◌∷◌, length, map, refl, ap, sym, ◌∙◌}
use Rattle.std.specs.Prelude.{ok_or, Bool, Result, Ok}
use Rattle.std.specs.List.{slice_get}
use Rattle.std.proofs.lemmas.List.{length-map}
use Rattle.fits_card.specs.Header.{Header}
use Rattle.fits_header.specs.Places.{keyword_places}
use Rattle.fits_passing.specs.Hdu.{HduParts}
use Rattle.fits_passing.specs.File.{is_primary_hdu, FileParts}
use Rattle.fits_hdu.specs.Keyword.{keyword_value}
use Rattle.fits_hdu.specs.State.{HduState, card_placed, hdu_at, parts_of}
use Rattle.fits_edit.specs.declared.card_edit.CardEdit.{CardEdit}
use Rattle.fits_edit.specs.declared.edit.Edit.{Edit}
use Rattle.fits_edit.specs.declared.edit.Edit.TheVariants.{Hdu, NewImage, RemoveHdu}
use Rattle.fits_edit.specs.declared.hdu_edit.HduEdit.TheVariants.{Cards, Keep, Pixels, Release, Reshape, Stamp}
use Rattle.fits_making.specs.Columns.{cards_keep}
use Rattle.fits_making.specs.declared.refusal.Refusal.{Refusal}
use Rattle.fits_making.specs.declared.refusal.Refusal.TheVariants.{NoCard}
use Rattle.fits_session.specs.Edit.{hdu_of}
use Rattle.fits_session.specs.Marked.{edit_keeps, hdu_keeps}
use Rattle.fits_session.specs.Query.{card_count_in, card_in, in_hdu, or_refused, positions_in, value_in}
use Rattle.fits_session.specs.Session.{file_of, hdus_of, session_at, SessionState}

-- the header of an HDU
abbrev pub header_of : HduParts → Header
header_of hdu = hdu.header

-- that of each
abbrev pub headers_of : FileParts → List Header
headers_of file = map header_of file.hdus

-- what is asked of the header of an HDU at an index
answer_at : {X : Type 0} (answer : Header → Result X Refusal) (us vs : List HduParts) (i : ℕ) → map header_of us ≡ map header_of vs
    → in_hdu (λ (hdu : HduParts). answer hdu.header) (slice_get us i) ≡ in_hdu (λ (hdu : HduParts). answer hdu.header) (slice_get vs i)
answer_at answer [] [] i same = refl
answer_at answer [] (v ∷ vs) i same = absurd (cc)
answer_at answer (u ∷ us) [] i same = absurd (cc)
answer_at answer (u ∷ us) (v ∷ vs) zero same = let own : u.header ≡ v.header = cc in ap answer own
answer_at answer (u ∷ us) (v ∷ vs) (suc i) same = let rest : map header_of us ≡ map header_of vs = cc in answer_at answer us vs i rest

-- and of HDU h
answer_alike : {X : Type 0} (answer : Header → Result X Refusal) (file other : FileParts) (h : ℕ) → headers_of file ≡ headers_of other
    → in_hdu (λ (hdu : HduParts). answer hdu.header) (hdu_of file h) ≡ in_hdu (λ (hdu : HduParts). answer hdu.header) (hdu_of other h)
answer_alike answer file other zero same = refl
answer_alike answer file other (suc h) same = answer_at answer file.hdus other.hdus h same

-- they have as many HDUs
pub number_alike : (file other : FileParts) → headers_of file ≡ headers_of other → length file.hdus ≡ length other.hdus
number_alike file other same = sym (length-map file.hdus header_of) ∙ ap length same ∙ length-map other.hdus header_of

-- a keyword has the same value
pub value_alike : (file other : FileParts) → headers_of file ≡ headers_of other → (h : ℕ) (name : List ℕ) → value_in file h name ≡ value_in other h name
value_alike file other same h name = answer_alike (λ (it : Header). or_refused (keyword_value it.cards name)) file other h same

-- and stands at the same places
pub places_alike : (file other : FileParts) → headers_of file ≡ headers_of other → (h : ℕ) (name : List ℕ) → positions_in file h name ≡ positions_in other h name
places_alike file other same h name = answer_alike (λ (it : Header). Ok (keyword_places it.cards name)) file other h same

-- the same card stands at a place
pub card_alike : (file other : FileParts) → headers_of file ≡ headers_of other → (h place : ℕ) → card_in file h place ≡ card_in other h place
card_alike file other same h place = answer_alike (λ (it : Header). ok_or (card_placed it.cards place) NoCard) file other h same

-- there are as many
pub count_alike : (file other : FileParts) → headers_of file ≡ headers_of other → (h : ℕ) → card_count_in file h ≡ card_count_in other h
count_alike file other same h = answer_alike (λ (it : Header). Ok (length it.cards)) file other h same

-- HDUs have the same headers over a file
headers_at : (told : List ℕ) (hdus : List HduState) → map header_of (hdus_of (map (hdu_at told) hdus)) ≡ map header_of (hdus_of hdus)
headers_at told [] = refl
headers_at told (hdu ∷ hdus) = ap (λ (headers : List Header). hdu.header.header ∷ headers) (headers_at told hdus)

-- so has a session, over each file that its data units may lie in
pub headers_told : (told : List ℕ) (session : SessionState) → headers_of (file_of (session_at told session)) ≡ headers_of (file_of session)
headers_told told session = headers_at told session.hdus

-- whether an edit of the cards of an HDU at an index keeps the columns of a table goes by its header
keeps_at : (primary : Bool) (edit : CardEdit) (us vs : List HduParts) (i : ℕ) → map header_of us ≡ map header_of vs → hdu_keeps primary edit (slice_get us i) ≡ hdu_keeps primary edit (slice_get vs i)
keeps_at primary edit [] [] i same = refl
keeps_at primary edit [] (v ∷ vs) i same = absurd (cc)
keeps_at primary edit (u ∷ us) [] i same = absurd (cc)
keeps_at primary edit (u ∷ us) (v ∷ vs) zero same = let own : u.header ≡ v.header = cc in ap (λ (it : Header). cards_keep primary it.cards edit) own
keeps_at primary edit (u ∷ us) (v ∷ vs) (suc i) same = let rest : map header_of us ≡ map header_of vs = cc in keeps_at primary edit us vs i rest

-- and of HDU h
keeps_of : (primary : Bool) (edit : CardEdit) (file other : FileParts) (h : ℕ) → headers_of file ≡ headers_of other → hdu_keeps primary edit (hdu_of file h) ≡ hdu_keeps primary edit (hdu_of other h)
keeps_of primary edit file other zero same = refl
keeps_of primary edit file other (suc h) same = keeps_at primary edit file.hdus other.hdus h same

-- so any edit keeps them alike
pub keeps_alike : (file other : FileParts) → headers_of file ≡ headers_of other → (edit : Edit) → edit_keeps file edit ≡ edit_keeps other edit
keeps_alike file other same (Hdu h (Cards edit)) = keeps_of (is_primary_hdu h) edit file other h same
keeps_alike file other same (Hdu h (Pixels lo hi paint)) = refl
keeps_alike file other same (Hdu h (Reshape kind axes)) = refl
keeps_alike file other same (Hdu h Stamp) = refl
keeps_alike file other same (Hdu h Keep) = refl
keeps_alike file other same (Hdu h Release) = refl
keeps_alike file other same (NewImage h kind axes) = refl
keeps_alike file other same (RemoveHdu h) = refl
