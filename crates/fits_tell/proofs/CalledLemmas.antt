-- Steps of reading an HDU of which its outline is kept, and what it is called.
use Rattle.std.proofs.Common.{◌≡◌, Bool, length, ap, ◌∙◌, sym}
use Rattle.fits_card.specs.Header.{Header, header_bytes}
use Rattle.fits_stream.specs.Intake.{Supply}
use Rattle.fits_stream.proofs.SightLemmas.{takes_quiet}
use Rattle.fits_rules.specs.Class.{is_primary}
use Rattle.fits_passing.specs.Hdu.{HduParts, hdu_bytes}
use Rattle.fits_passing.specs.HduReading.{HduStops, IsPassed, TakesHdu}
use Rattle.fits_passing.specs.declared.hdu_fault.HduFault.TheVariants.{Memory}
use Rattle.fits_passing.specs.declared.read_hdu_fault.ReadHduFault.TheVariants.{Hdu}
use Rattle.fits_passing.proofs.ReadingLemmas.{hdu_kept}
use Rattle.fits_tell.specs.Called.{called_words, IsCalled}
use Rattle.fits_tell.specs.declared.called_outline.CalledOutline.{CalledOutline}

-- the outline of an HDU that passed, and what its cards call it
pub called_kept : (primary : Bool) (a b : Supply) (it : CalledOutline) (header after : Header) → TakesHdu (λ hdu. IsPassed hdu header it.outline.shape it.outline.data_len) primary a b → after ≡ header → it.outline.card_count ≡ length after.cards
    → it.outline.header_len ≡ length (header_bytes after) → it.words.items ≡ called_words (is_primary it.outline.shape.class) header.cards → TakesHdu (IsCalled it) primary a b
called_kept primary a b it header after p stays count size words =
    let counted : it.outline.card_count ≡ length header.cards = count ∙ ap (λ (h : Header). length h.cards) stays in
    let sized : it.outline.header_len ≡ length (header_bytes header) = size ∙ ap (λ (h : Header). length (header_bytes h)) stays in
    hdu_kept (λ hdu. IsPassed hdu header it.outline.shape it.outline.data_len) (IsCalled it) primary a b p
    (λ hdu passed. record {
      outlined = record { count = rw passed.same counted; described = rw passed.same passed.described; header = rw passed.same sized; unit = passed.unit };
      words_are = words ∙ ap (λ (h : Header). called_words (is_primary it.outline.shape.class) h.cards) (sym passed.same);
    })

-- memory was refused once it had passed
pub called_quiet : (keeps : HduParts → Type 0) (primary : Bool) (a b : Supply) → TakesHdu keeps primary a b → HduStops primary a b (Hdu Memory)
called_quiet keeps primary a b p = takes_quiet a b (hdu_bytes p.hdu) p.taken
