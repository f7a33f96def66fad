-- Marks by sums: what stays where HDUs are kept whose sums vouch for them.
use Rattle.std.proofs.Common.{◌≡◌, ℕ, ◌+◌, ◌<◌, ◌≤◌, ◌^◌, Bool, List, [], ◌∷◌, ◌++◌, drop, get_or, length, map, take, refl, ap, sym, subst, ◌∙◌, arith}
use Rattle.std.proofs.lemmas.List.{drop_more, get_or_at, length-append, length-map, length-take}
use Rattle.std.specs.Prelude.{All}
use Rattle.std.specs.Map.{keys_of}
use Rattle.std.proofs.lemmas.List.Elements.{All-cons, All-head, All-nil, All-tail}
use Rattle.fits_card.specs.Header.{header_bytes}
use Rattle.fits_passing.specs.Hdu.{HduParts, hdu_bytes}
use Rattle.fits_hdu.specs.State.{HduState, name_of, parts_of, IsDescribed, IsSeen}
use Rattle.fits_passing.specs.Sums.{verdicts_of}
use Rattle.fits_passing.specs.declared.called.ExtensionName.{ExtensionName}
use Rattle.fits_passing.specs.File.{FileParts, file_bytes, joined_hdus, IsFile}
use Rattle.fits_making.specs.Keeping.{vouch, vouched_one, IsSound}
use Rattle.fits_session.specs.Marked.{vouched}
use Rattle.fits_session.specs.NameTable.{names_of}
use Rattle.fits_passing.specs.NameCounts.{IsTableOf}
use Rattle.fits_session.specs.Session.{file_of, hdus_of, kept_of, marked_of, state_of, IsKept}
use Rattle.fits_making.specs.Making.{Holding, IsHad}
use Rattle.fits_passing.specs.declared.limits.TheConstants.{FILE_LIMIT}
use Rattle.fits_session.proofs.KeptLemmas.{file_with, marked_with, seen_all, IsPlaced}
use Rattle.fits_session.proofs.OffsetLemmas.{ends_within}

-- the parts of HDUs are no marks
hdus_of-vouched : (hdus : List HduState) → hdus_of (map vouched_one hdus) ≡ hdus_of hdus
hdus_of-vouched [] = refl
hdus_of-vouched (hdu ∷ hdus) = ap (λ us. parts_of hdu ∷ us) (hdus_of-vouched hdus)

-- nor is what they are called
names_of-vouched : (hdus : List HduState) → names_of (map vouched_one hdus) ≡ names_of hdus
names_of-vouched [] = refl
names_of-vouched (hdu ∷ hdus) = ap (λ names. name_of hdu ∷ names) (names_of-vouched hdus)

-- the marks are what their sums say
kept_of-vouched : (hdus : List HduState) → kept_of (map vouched_one hdus) ≡ map (λ (hdu : HduParts). vouch (verdicts_of hdu)) (hdus_of hdus)
kept_of-vouched [] = refl
kept_of-vouched (hdu ∷ hdus) = ap (λ (marks : List Bool). vouch (verdicts_of (parts_of hdu)) ∷ marks) (kept_of-vouched hdus)

-- so the file is marked by them
pub marked_vouched : (hdus : List HduState) (tail : List ℕ) → marked_of (state_of (map vouched_one hdus) tail) ≡ vouched (file_of (state_of hdus tail))
marked_vouched hdus tail =
    marked_with (hdus_of (map vouched_one hdus)) (hdus_of hdus) tail (kept_of (map vouched_one hdus)) (map (λ (hdu : HduParts). vouch (verdicts_of hdu)) (hdus_of hdus)) (hdus_of-vouched hdus) (kept_of-vouched hdus)

-- where all are seen they are had, whichever are marked
had_vouched : (holding : Holding) (hdus : List HduState) → All IsSeen hdus → All (IsHad holding) hdus → All (IsHad holding) (map vouched_one hdus)
had_vouched holding [] seen had = All-nil (IsHad holding)
had_vouched holding (hdu ∷ hdus) seen had =
    let own = All-head (IsHad holding) hdu hdus had in
    let here = All-head IsSeen hdu hdus seen in
    All-cons (IsHad holding) (vouched_one hdu) (map vouched_one hdus) (record { held = own.held; lies = own.lies; kept = λ on. here }) (had_vouched holding hdus (All-tail IsSeen hdu hdus seen) (All-tail (IsHad holding) hdu hdus had))

-- a mark hides none
pub seen_marked : (hdus : List HduState) → All IsSeen hdus → All IsSeen (map vouched_one hdus)
seen_marked [] seen = All-nil IsSeen
seen_marked (hdu ∷ hdus) seen = All-cons IsSeen (vouched_one hdu) (map vouched_one hdus) (All-head IsSeen hdu hdus seen) (seen_marked hdus (All-tail IsSeen hdu hdus seen))

-- and what a session keeps is kept
kept_vouched : (holding : Holding) (hdus : List HduState) (tail : List ℕ) (bytes : ℕ) (entries : List (ExtensionName × ℕ)) (room : ℕ) → All IsSeen hdus → IsKept holding hdus tail bytes entries room → IsKept holding (map vouched_one hdus) tail bytes entries room
unfolding IsPlaced
kept_vouched holding hdus tail bytes entries room seen kept =
    let same = sym (file_with (hdus_of (map vouched_one hdus)) (hdus_of hdus) tail (hdus_of-vouched hdus)) in
    record {
      whole = subst (λ (f : FileParts). IsFile f) same kept.whole;
      len = kept.len ∙ ap (λ (f : FileParts). length (file_bytes f)) same;
      described = seen_all IsDescribed vouched_one (λ one p. p) hdus kept.described;
      right = seen_all IsSound vouched_one (λ one p on. on) hdus kept.right;
      names = record {
        table = subst (λ names. IsTableOf names entries) (sym (names_of-vouched hdus)) kept.names.table;
        placed = seen_all (IsPlaced (keys_of entries)) vouched_one (λ one p. p) hdus kept.names.placed;
      };
      roomy = omega (arith, kept.roomy, length-map hdus vouched_one);
      had = had_vouched holding hdus seen kept.had;
    }

-- also of HDUs that are these
pub kept_marked : (holding : Holding) (hdus others : List HduState) (tail : List ℕ) (bytes : ℕ) (entries : List (ExtensionName × ℕ)) (room : ℕ) → others ≡ map vouched_one hdus → All IsSeen hdus → IsKept holding hdus tail bytes entries room → IsKept holding others tail bytes entries room
kept_marked holding hdus others tail bytes entries room are seen kept = subst (λ (us : List HduState). IsKept holding us tail bytes entries room) (sym are) (kept_vouched holding hdus tail bytes entries room seen kept)

-- an HDU that comes next is as it was
as_ahead : (hdus us : List HduState) (i : ℕ) (hdu : HduState) → i < length hdus → us ≡ map vouched_one (take i hdus) ++ drop i hdus → hdu ≡ get_or us i hdu → hdu ≡ get_or hdus i hdu
as_ahead hdus us i hdu within is there =
    let front : List HduState = map vouched_one (take i hdus) in
    let long : length front ≡ i = length-map (take i hdus) vouched_one ∙ omega (arith, within, length-take i hdus) in
    let parts : us ≡ front ++ get_or hdus i hdu ∷ drop (i + 1) hdus = is ∙ ap (λ rest. front ++ rest) (drop_more hdus i hdu within) in
    there ∙ ap (λ rest. get_or rest i hdu) parts ∙ get_or_at front (get_or hdus i hdu) (drop (i + 1) hdus) hdu i long

-- so it is seen
pub seen_ahead : (hdus us : List HduState) (i : ℕ) (hdu : HduState) → All IsSeen hdus → i < length hdus → us ≡ map vouched_one (take i hdus) ++ drop i hdus → hdu ≡ get_or us i hdu → IsSeen hdu
seen_ahead hdus us i hdu seen within is there = subst (λ (one : HduState). IsSeen one) (sym (as_ahead hdus us i hdu within is there)) (seen i hdu within)

-- and no longer than its file
pub small_ahead : (hdus us : List HduState) (i : ℕ) (hdu : HduState) → length (joined_hdus (hdus_of hdus)) ≤ FILE_LIMIT → i < length hdus → us ≡ map vouched_one (take i hdus) ++ drop i hdus → hdu ≡ get_or us i hdu → length (hdu_bytes (parts_of hdu)) ≤ 2 ^ 34
small_ahead hdus us i hdu small within is there =
    let read : hdu ≡ get_or hdus i hdu = as_ahead hdus us i hdu within is there in
    omega (arith, length-append (header_bytes hdu.header.header) hdu.plane.bytes, ends_within hdus i (length (joined_hdus (take i (hdus_of hdus)))) hdu within read refl, small)
