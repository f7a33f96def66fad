-- HDUs that stay where they lie, and a front of a file that is made of them.
use Rattle.std.proofs.Common.{◌≡◌, Bool, true, false, ℕ, ◌+◌, ◌<◌, ◌≤◌, List, [], ◌∷◌, ◌++◌, length, map, take, drop, get_or, set, refl, ap, sym, subst, ◌∙◌, arith}
use Rattle.std.specs.Prelude.{◌==◌, ◌&&◌}
use Rattle.std.proofs.lemmas.Bool.{eq-eqb}
use Rattle.std.proofs.lemmas.List.{drop_all, drop_more, drop-set-lt, get_or-map, length-append, length-drop, length-map, take_all, take-append-drop}
use Rattle.std.proofs.lemmas.List.Elements.{All-head, All-tail}
use Rattle.fits_card.specs.Header.{header_bytes}
use Rattle.fits_redo.specs.Plan.{agrees, fits, redone, IsPlanOf}
use Rattle.fits_redo.specs.declared.changed_block.ChangedBlock.{ChangedBlock}
use Rattle.fits_unit.specs.DataUnit.{LiesIn}
use Rattle.fits_unit.proofs.AgainLemmas.{unit_long}
use Rattle.fits_planning.specs.Front.{MakesFront}
use Rattle.fits_planning.specs.Place.{lies_at}
use Rattle.fits_passing.specs.Hdu.{HduParts, hdu_bytes}
use Rattle.fits_passing.specs.File.{joined_hdus}
use Rattle.fits_hdu.specs.State.{HduState, hdu_at, parts_of}
use Rattle.fits_making.specs.Making.{IsHad}
use Rattle.fits_session.specs.Away.{in_file, AllLie}
use Rattle.fits_session.specs.Overwriting.{stay_from}
use Rattle.fits_session.specs.Session.{hdus_of}
use Rattle.fits_session.proofs.SaveLemmas.{joined_more}

-- the HDU that is saved from this place on, and those behind it
pub stay_here : (hdus : List HduState) (i start : ℕ) (hdu : HduState) → i < length hdus → hdu ≡ get_or hdus i hdu
    → stay_from start (drop i hdus) ≡ (lies_at (start + length (header_bytes hdu.header.header)) hdu.absent && stay_from (start + length (hdu_bytes (parts_of hdu))) (drop (i + 1) hdus))
stay_here hdus i start hdu within is =
    ap (stay_from start) (drop_more hdus i hdu within)
    ∙ ap (λ (one : HduState). lies_at (start + length (header_bytes one.header.header)) one.absent && stay_from (start + length (hdu_bytes (parts_of one))) (drop (i + 1) hdus)) (sym is)

-- how long an HDU is
hdu_length : (hdu : HduState) → length (hdu_bytes (parts_of hdu)) ≡ length (header_bytes hdu.header.header) + length hdu.plane.bytes
hdu_length hdu = length-append (header_bytes hdu.header.header) hdu.plane.bytes

-- where it stays, those behind it decide
pub stay_on : (hdus : List HduState) (i start place next : ℕ) (hdu : HduState) → i < length hdus → hdu ≡ get_or hdus i hdu → place ≡ start + length (header_bytes hdu.header.header) → next ≡ place + length hdu.plane.bytes → lies_at place hdu.absent ≡ true
    → stay_from start (drop i hdus) ≡ stay_from next (drop (i + 1) hdus)
stay_on hdus i start place next hdu within is at ends lies =
    let here : lies_at (start + length (header_bytes hdu.header.header)) hdu.absent ≡ true = ap (λ n. lies_at n hdu.absent) (sym at) ∙ lies in
    let end : start + length (hdu_bytes (parts_of hdu)) ≡ next = omega (arith, at, ends, hdu_length hdu) in
    stay_here hdus i start hdu within is
    ∙ ap (λ (b : Bool). b && stay_from (start + length (hdu_bytes (parts_of hdu))) (drop (i + 1) hdus)) here
    ∙ ap (λ n. stay_from n (drop (i + 1) hdus)) end

-- none is left
pub stay_all : (hdus : List HduState) (i start : ℕ) → length hdus ≤ i → stay_from start (drop i hdus) ≡ true
stay_all hdus i start over = ap (stay_from start) (drop_all i hdus over)

-- both tests hold
both : (a b : Bool) → (a && b) ≡ true → (a ≡ true) × (b ≡ true)
both true b h = (refl, h)
both false b h = absurd (cc)

-- and those behind it do, whatever became of it
pub stays_rest : (hdus : List HduState) (i start next : ℕ) (hdu now : HduState) → i < length hdus → hdu ≡ get_or hdus i hdu → next ≡ start + length (hdu_bytes (parts_of hdu)) → stay_from start (drop i hdus) ≡ true → stay_from next (drop (i + 1) (set hdus i now)) ≡ true
stays_rest hdus i start next hdu now within is ends stays =
    ap (stay_from next) (drop-set-lt (i + 1) hdus i now (omega arith))
    ∙ ap (λ n. stay_from n (drop (i + 1) hdus)) ends
    ∙ (both (lies_at (start + length (header_bytes hdu.header.header)) hdu.absent) (stay_from (start + length (hdu_bytes (parts_of hdu))) (drop (i + 1) hdus)) (sym (stay_here hdus i start hdu within is) ∙ stays)).1

-- the data unit of one of them lies in the file
pub lies_here : (told : List ℕ) (hdus : List HduState) (i : ℕ) (hdu : HduState) → AllLie told hdus → i < length hdus → hdu ≡ get_or hdus i hdu → LiesIn told hdu.plane hdu.absent
lies_here told hdus i hdu all within is =
    let had : IsHad (in_file told) hdu = subst (IsHad (in_file told)) (sym is) (all i hdu within) in
    had.lies

-- the front with one HDU more
pub joined_next : (told : List ℕ) (hdus : List HduState) (us : List HduParts) (i : ℕ) (hdu : HduState) → hdus_of (map (hdu_at told) hdus) ≡ us → i < length hdus → hdu ≡ get_or hdus i hdu → joined_hdus (take (i + 1) us) ≡ joined_hdus (take i us) ++ hdu_bytes (parts_of (hdu_at told hdu))
joined_next told hdus us i hdu same within is =
    joined_more (map (hdu_at told) hdus) us i (hdu_at told hdu) same (omega (arith, within, length-map hdus (hdu_at told))) (ap (hdu_at told) is ∙ sym (get_or-map (hdu_at told) hdus i hdu (hdu_at told hdu) within))

-- a plan makes it
pub front_next : (told : List ℕ) (hdus : List HduState) (us : List HduParts) (i : ℕ) (hdu : HduState) (blocks : List ChangedBlock) → hdus_of (map (hdu_at told) hdus) ≡ us → i < length hdus → hdu ≡ get_or hdus i hdu
    → MakesFront told (joined_hdus (take i us) ++ hdu_bytes (parts_of (hdu_at told hdu))) blocks → MakesFront told (joined_hdus (take (i + 1) us)) blocks
front_next told hdus us i hdu blocks same within is front = subst (λ (l : List ℕ). MakesFront told l blocks) (sym (joined_next told hdus us i hdu same within is)) front

-- and it is as long as the HDUs are
pub length_next : (told : List ℕ) (hdus : List HduState) (us : List HduParts) (i start next : ℕ) (hdu : HduState) → hdus_of (map (hdu_at told) hdus) ≡ us → i < length hdus → hdu ≡ get_or hdus i hdu → LiesIn told hdu.plane hdu.absent → next ≡ start + length (hdu_bytes (parts_of hdu))
    → length (joined_hdus (take i us)) ≡ start → length (joined_hdus (take (i + 1) us)) ≡ next
length_next told hdus us i start next hdu same within is lies ends before =
    let there : HduState = hdu_at told hdu in
    omega (arith, ap length (joined_next told hdus us i hdu same within is), length-append (joined_hdus (take i us)) (hdu_bytes (parts_of there)), hdu_length there, hdu_length hdu, unit_long told hdu.plane.bytes hdu.absent lies, ends, before)

-- in a file the HDUs that lie there are as long
pub joined_long : (told : List ℕ) (hdus : List HduState) → AllLie told hdus → length (joined_hdus (hdus_of (map (hdu_at told) hdus))) ≡ length (joined_hdus (hdus_of hdus))
joined_long told [] all = refl
joined_long told (one ∷ hdus) all =
    let there : HduState = hdu_at told one in
    let had : IsHad (in_file told) one = All-head (IsHad (in_file told)) one hdus all in
    omega (
      arith,
      length-append (hdu_bytes (parts_of there)) (joined_hdus (hdus_of (map (hdu_at told) hdus))),
      length-append (hdu_bytes (parts_of one)) (joined_hdus (hdus_of hdus)),
      hdu_length there,
      hdu_length one,
      unit_long told one.plane.bytes one.absent had.lies,
      joined_long told hdus (All-tail (IsHad (in_file told)) one hdus all),
    )

-- nothing is made of an empty front
pub front_none : (told : List ℕ) (blocks : List ChangedBlock) → IsPlanOf [] [] blocks → MakesFront told [] blocks
front_none told blocks plan = record { within = omega arith; plan = plan }

-- bytes that lie at the end of a file are its rest
pub rest_there : (told tail : List ℕ) (end : ℕ) → length told ≡ end + length tail → take (length tail) (drop end told) ≡ tail → drop end told ≡ tail
rest_there told tail end size there = sym (take_all (length tail) (drop end told) (omega (arith, size, length-drop end told))) ∙ there

-- the rest of a file lies at its end
pub there_rest : (told tail : List ℕ) (end : ℕ) → drop end told ≡ tail → take (length tail) (drop end told) ≡ tail
there_rest told tail end is = ap (take (length tail)) is ∙ take_all (length tail) tail (omega arith)

-- a front and the rest make the file
pub file_made : (told tail front : List ℕ) (blocks : List ChangedBlock) (end : ℕ) → MakesFront told front blocks → length front ≡ end → drop end told ≡ tail → redone blocks told ≡ front ++ tail
file_made told tail front blocks end made size rest =
    ap (redone blocks) (sym (take-append-drop (length front) told)) ∙ made.plan.gives (drop (length front) told) ∙ ap (λ (l : List ℕ). front ++ l) (ap (λ n. drop n told) size ∙ rest)

-- and are those of the file
pub file_agrees : (told front : List ℕ) (blocks : List ChangedBlock) (len : ℕ) → MakesFront told front blocks → len ≡ length told → agrees len blocks told ≡ true
file_agrees told front blocks len made size =
    let same : (len == length told) ≡ true = eq-eqb len (length told) size in
    let fit : fits 0 blocks told ≡ true = ap (fits 0 blocks) (sym (take-append-drop (length front) told)) ∙ made.plan.fits (drop (length front) told) in
    ap (λ (b : Bool). b && fits 0 blocks told) same ∙ fit
