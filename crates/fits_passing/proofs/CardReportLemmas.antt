-- The report of a file with its cards, by what is kept of each HDU.
use Rattle.std.proofs.Common.{◌≡◌, ℕ, Bool, List, [], ◌∷◌, map, refl, ap, ◌∙◌}
use Rattle.fits_card.specs.CardList.{CardStore}
use Rattle.fits_passing.specs.Hdu.{HduParts}
use Rattle.fits_passing.specs.declared.findings.Findings.{Findings}
use Rattle.fits_passing.specs.declared.found_cards.FoundCards.{FoundCards}
use Rattle.fits_stream.specs.Stream.{SourceState}
use Rattle.fits_passing.specs.File.{FileParts, is_followed, IsFileOf}
use Rattle.fits_passing.specs.Headers.{cards_of, read_cards}
use Rattle.fits_passing.specs.Reading.{is_found, is_found_with_cards, GaveWhole, IsWalkOf, KeepsEach}
use Rattle.fits_passing.specs.Report.{report_of, IsCardReportOf}
use Rattle.fits_passing.specs.declared.problem.Problem.{Problem}

-- what is found of HDUs, without their cards
found_alone : (kept : List FoundCards) (us : List HduParts) → KeepsEach is_found_with_cards kept us → KeepsEach is_found (map (λ (it : FoundCards). it.found) kept) us
found_alone [] [] p = p
found_alone [] (u ∷ us) p = absurd p
found_alone (it ∷ kept) [] p = absurd p
found_alone (it ∷ kept) (u ∷ us) p = (p.0.found, found_alone kept us p.1)

-- the cards that are kept are those of the headers
cards_kept : (kept : List FoundCards) (us : List HduParts) → KeepsEach is_found_with_cards kept us → read_cards (map (λ (it : FoundCards). it.cards) kept) ≡ cards_of us
cards_kept [] [] p = refl
cards_kept [] (u ∷ us) p = absurd p
cards_kept (it ∷ kept) [] p = absurd p
cards_kept (it ∷ kept) (u ∷ us) p = rw (p.0.cards_are, cards_kept kept us p.1) refl

-- so the report of what was found, with the cards, is that of the file
pub card_reported : (old new : SourceState) (kept : List FoundCards) (followed : Bool) (found : List Findings) (cards : List CardStore) (report : List Problem) → GaveWhole old new (IsWalkOf is_found_with_cards kept followed)
    → found ≡ map (λ (it : FoundCards). it.found) kept → cards ≡ map (λ (it : FoundCards). it.cards) kept
    → ((bytes : List ℕ) (file : FileParts) → IsFileOf bytes file → KeepsEach is_found found file.hdus → followed ≡ is_followed file.tail → report ≡ report_of file)
    → GaveWhole old new (IsCardReportOf report (read_cards cards))
card_reported old new kept followed found cards report given found_is cards_is all =
    let file : FileParts = given.is.0 in
    let each : KeepsEach is_found found file.hdus = rw found_is (found_alone kept file.hdus given.is.2) in
    record {
      bytes = given.bytes;
      told = given.told;
      gave = given.gave;
      is = record {
        file = file;
        opened = given.is.1;
        all = all given.bytes file given.is.1 each given.is.3;
        cards_are = ap read_cards cards_is ∙ cards_kept kept file.hdus given.is.2;
      };
    }
