-- Steps of queries.
use Rattle.std.proofs.Common.{◌≡◌, ◌<◌, ◌+◌, ℕ, Bool, true, false, List, length, set, refl, ap, sym, ◌∙◌, subst, ℤ, Option, None, Some}
use Rattle.std.specs.Prelude.{◌&&◌, ok_or, Result, Ok, Err, IsOk, is_some}
use Rattle.fits_value.specs.declared.value.Value.{Value}
use Rattle.fits_header.specs.Names.{header_names}
use Rattle.fits_header.specs.Places.{keyword_places}
use Rattle.fits_rules.specs.Class.{is_primary}
use Rattle.fits_rules.specs.Image.{array_bits}
use Rattle.fits_rules.specs.Shape.{shape_of}
use Rattle.fits_rules.specs.declared.array_shape.Shape.{Shape}
use Rattle.fits_passing.specs.Hdu.{HduParts}
use Rattle.fits_hdu.specs.Keyword.{keyword_value, KeywordFails}
use Rattle.fits_image.specs.Kind.{kind_in as hdu_kind}
use Rattle.fits_hdu.specs.Pixels.{rect_of, RectFails}
use Rattle.fits_passing.specs.Stats.{stats_of, Stats}
use Rattle.fits_passing.specs.Sums.{data_sum, verdicts_of}
use Rattle.fits_hdu.specs.declared.pixel_fault.PixelFault.{PixelFault}
use Rattle.fits_hdu.specs.declared.pixel_fault.PixelFault.TheVariants as pixel
use Rattle.fits_passing.specs.declared.verdict.Verdict.{Verdict}
use Rattle.fits_passing.specs.declared.verdict.Verdict.TheVariants.{Right, Missing, Wrong}
use Rattle.fits_passing.specs.declared.verdicts.Verdicts.{Verdicts}
use Rattle.fits_hdu.specs.State.{HduState, ReadsUpTo, parts_of}
use Rattle.fits_hdu.specs.Work.{keyword_reads, plane_work}
use Rattle.fits_image.specs.declared.kind.Kind.{Kind}
use Rattle.fits_hdu.specs.declared.keyword.KeywordFault.{KeywordFault}
use Rattle.fits_hdu.specs.declared.keyword.KeywordFault.TheVariants as keyword
use Rattle.fits_session.specs.Edit.{hdu_of}
use Rattle.fits_making.specs.HduEdit.{pixels_made, refusal_of_pixels, shaped}
use Rattle.fits_passing.specs.File.{IsFile, is_primary_hdu}
use Rattle.fits_session.specs.Query.{array_in, by_shape, card_count_in, card_in, datasum_in, kind_in, rect_in, shape_in, some_shape, stats_in, verdicts_in, value_in, positions_in, names_in, in_hdu, or_refused, PlacesFail, QueryFails}
use Rattle.fits_hdu.specs.State.{card_placed}
use Rattle.fits_making.specs.Refusal.{refusal_of_keyword}
use Rattle.fits_making.specs.Keeping.{are_right, both_right, is_right}
use Rattle.fits_session.specs.Marked.{is_kept, kept_in}
use Rattle.fits_session.specs.Session.{file_of, kept_of, marked_of, read_more, state_of, Asks, AsksPixels}
use Rattle.fits_session.specs.Work.{reads_in, value_reads}
use Rattle.fits_making.specs.declared.refusal.Refusal.{Refusal}
use Rattle.fits_making.specs.declared.refusal.Refusal.TheVariants as refusal
use Rattle.fits_session.proofs.StateLemmas.{absences_of-same, IsHduAt, hdu_of-there, described_there, asked, kept_there, marked_of-same, reads_of-same, works_changed}

-- how many cards HDU h has
pub count_there : (hdus : List HduState) (tail : List ℕ) (h i n : ℕ) (hdu : HduState) → IsHduAt hdus h i hdu → n ≡ length hdu.header.header.cards → Path (Result ℕ Refusal) (Ok n) (card_count_in (file_of (state_of hdus tail)) h)
count_there hdus tail h i n hdu at count = ap Ok count ∙ sym (ap (in_hdu (λ (u : HduParts). Ok (length u.header.cards))) (hdu_of-there hdus tail h i hdu at))

-- its card at a place
pub card_there : (hdus : List HduState) (tail : List ℕ) (h i place : ℕ) (hdu : HduState) → IsHduAt hdus h i hdu → card_in (file_of (state_of hdus tail)) h place ≡ ok_or (card_placed hdu.header.header.cards place) refusal.NoCard
card_there hdus tail h i place hdu at = ap (in_hdu (λ (u : HduParts). ok_or (card_placed u.header.cards place) refusal.NoCard)) (hdu_of-there hdus tail h i hdu at)

-- its shape
pub shape_there : (hdus : List HduState) (tail : List ℕ) (h i : ℕ) (hdu : HduState) (shape : Shape) → IsFile (file_of (state_of hdus tail)) → IsHduAt hdus h i hdu → shape_of (is_primary hdu.header.shape.class) hdu.header.header.cards ≡ Ok hdu.header.shape → shape ≡ hdu.header.shape
    → shape_in (file_of (state_of hdus tail)) h ≡ Ok shape
shape_there hdus tail h i hdu shape p at described is =
    ap (in_hdu (λ (u : HduParts). some_shape (shape_of (is_primary_hdu h) u.header.cards))) (hdu_of-there hdus tail h i hdu at)
    ∙ ap some_shape (described_there hdus tail h i hdu p at described ∙ ap Ok (sym is))

-- what a keyword of HDU h says
value_there : (hdus : List HduState) (tail : List ℕ) (h i : ℕ) (hdu : HduState) (name : List ℕ) → IsHduAt hdus h i hdu → value_in (file_of (state_of hdus tail)) h name ≡ or_refused (keyword_value hdu.header.header.cards name)
value_there hdus tail h i hdu name at = ap (in_hdu (λ (u : HduParts). or_refused (keyword_value u.header.cards name))) (hdu_of-there hdus tail h i hdu at)

-- a value
pub value_ok : (hdus : List HduState) (tail : List ℕ) (h i : ℕ) (hdu : HduState) (name : List ℕ) (said : Value × Option (List ℕ)) → IsHduAt hdus h i hdu → keyword_value hdu.header.header.cards name ≡ Ok said → value_in (file_of (state_of hdus tail)) h name ≡ Ok said
value_ok hdus tail h i hdu name said at says = value_there hdus tail h i hdu name at ∙ ap or_refused says

-- or a fault
value_err : (hdus : List HduState) (tail : List ℕ) (h i : ℕ) (hdu : HduState) (name : List ℕ) (why : KeywordFault) → IsHduAt hdus h i hdu → keyword_value hdu.header.header.cards name ≡ Err why → value_in (file_of (state_of hdus tail)) h name ≡ Err (refusal_of_keyword why)
value_err hdus tail h i hdu name why at says = value_there hdus tail h i hdu name at ∙ ap or_refused says

-- out of memory only where there is a value
says_something : (r : Result (Value × Option (List ℕ)) KeywordFault) → IsOk r → IsOk (or_refused r)
says_something (Ok said) p = refl
says_something (Err why) p = cc

-- so a keyword's fault is the query's
pub value_fails : (hdus : List HduState) (tail : List ℕ) (h i : ℕ) (hdu : HduState) (name : List ℕ) (why : KeywordFault) → IsHduAt hdus h i hdu → KeywordFails hdu.header.header.cards name why → QueryFails (value_in (file_of (state_of hdus tail)) h name) (refusal_of_keyword why)
value_fails hdus tail h i hdu name keyword.NoKey at p = value_err hdus tail h i hdu name keyword.NoKey at p
value_fails hdus tail h i hdu name keyword.BadValue at p = value_err hdus tail h i hdu name keyword.BadValue at p
value_fails hdus tail h i hdu name keyword.Memory at p = rw (value_there hdus tail h i hdu name at) (says_something (keyword_value hdu.header.header.cards name) p)

-- what a query that HDU h answers says
pub answer_there : {X : Type 0} (answer : HduParts → Result X Refusal) (hdus : List HduState) (tail : List ℕ) (h i : ℕ) (hdu : HduState) → IsHduAt hdus h i hdu → in_hdu answer (hdu_of (file_of (state_of hdus tail)) h) ≡ answer (parts_of hdu)
answer_there answer hdus tail h i hdu at = ap (in_hdu answer) (hdu_of-there hdus tail h i hdu at)

-- what it answers by the shape that its cards describe
shaped_there : {X : Type 0} (answer : Shape → HduParts → Result X PixelFault) (hdus : List HduState) (tail : List ℕ) (h i : ℕ) (hdu : HduState) → IsFile (file_of (state_of hdus tail)) → IsHduAt hdus h i hdu → shape_of (is_primary hdu.header.shape.class) hdu.header.header.cards ≡ Ok hdu.header.shape
    → in_hdu (by_shape (is_primary_hdu h) answer) (hdu_of (file_of (state_of hdus tail)) h) ≡ pixels_made (answer hdu.header.shape (parts_of hdu))
shaped_there answer hdus tail h i hdu p at described =
    answer_there (by_shape (is_primary_hdu h) answer) hdus tail h i hdu at
    ∙ ap (λ said. shaped said (λ shape. answer shape (parts_of hdu))) (described_there hdus tail h i hdu p at described)

-- an answer of an image, or that it is none
image_or : {X : Type 0} (answer : Option X) → pixels_made (ok_or answer pixel.NotImage) ≡ ok_or answer refusal.NotImage
image_or None = refl
image_or (Some answer) = refl

-- what HDU h answers where it is an image
image_there : {X : Type 0} (answer : Shape → HduParts → Option X) (hdus : List HduState) (tail : List ℕ) (h i : ℕ) (hdu : HduState) (found : Option X) → IsFile (file_of (state_of hdus tail)) → IsHduAt hdus h i hdu → shape_of (is_primary hdu.header.shape.class) hdu.header.header.cards ≡ Ok hdu.header.shape → found ≡ answer hdu.header.shape (parts_of hdu)
    → ok_or found refusal.NotImage ≡ in_hdu (by_shape (is_primary_hdu h) (λ shape it. ok_or (answer shape it) pixel.NotImage)) (hdu_of (file_of (state_of hdus tail)) h)
image_there answer hdus tail h i hdu found p at described is =
    ap (λ one. ok_or one refusal.NotImage) is
    ∙ sym (shaped_there (λ shape it. ok_or (answer shape it) pixel.NotImage) hdus tail h i hdu p at described ∙ image_or (answer hdu.header.shape (parts_of hdu)))

-- its kind
pub kind_there : (hdus : List HduState) (tail : List ℕ) (h i : ℕ) (hdu : HduState) (kind : Option Kind) → IsFile (file_of (state_of hdus tail)) → IsHduAt hdus h i hdu → shape_of (is_primary hdu.header.shape.class) hdu.header.header.cards ≡ Ok hdu.header.shape → kind ≡ hdu_kind hdu.header.shape hdu.header.header.cards
    → ok_or kind refusal.NotImage ≡ kind_in (file_of (state_of hdus tail)) h
kind_there hdus tail h i hdu kind p at described is = image_there (λ shape it. hdu_kind shape it.header.cards) hdus tail h i hdu kind p at described is

-- what is there is an answer
some_answer : {X : Type 0} (found : Option X) (answer : Result X Refusal) → ok_or found refusal.NotImage ≡ answer → is_some found ≡ true → IsOk answer
some_answer {X} None answer e some = absurd (cc)
some_answer {X} (Some x) answer e some = subst (λ (r : Result X Refusal). IsOk r) e refl

-- it is an image
pub image_is : (hdus : List HduState) (tail : List ℕ) (h i : ℕ) (hdu : HduState) (kind : Option Kind) → IsFile (file_of (state_of hdus tail)) → IsHduAt hdus h i hdu → shape_of (is_primary hdu.header.shape.class) hdu.header.header.cards ≡ Ok hdu.header.shape → kind ≡ hdu_kind hdu.header.shape hdu.header.header.cards
    → is_some kind ≡ true → IsOk (kind_in (file_of (state_of hdus tail)) h)
image_is hdus tail h i hdu kind p at described is some = some_answer kind _ (kind_there hdus tail h i hdu kind p at described is) some

-- or an array
pub array_is : (hdus : List HduState) (tail : List ℕ) (h i : ℕ) (hdu : HduState) (bits : Option ℕ) → IsFile (file_of (state_of hdus tail)) → IsHduAt hdus h i hdu → shape_of (is_primary hdu.header.shape.class) hdu.header.header.cards ≡ Ok hdu.header.shape → bits ≡ array_bits hdu.header.shape
    → is_some bits ≡ true → IsOk (array_in (file_of (state_of hdus tail)) h)
array_is hdus tail h i hdu bits p at described is some = some_answer bits _ (image_there (λ shape it. array_bits shape) hdus tail h i hdu bits p at described is) some

-- its statistics
pub stats_there : (hdus : List HduState) (tail : List ℕ) (h i : ℕ) (hdu : HduState) (stats : Option Stats) → IsFile (file_of (state_of hdus tail)) → IsHduAt hdus h i hdu → shape_of (is_primary hdu.header.shape.class) hdu.header.header.cards ≡ Ok hdu.header.shape → stats ≡ stats_of hdu.header.shape (parts_of hdu)
    → ok_or stats refusal.NotImage ≡ stats_in (file_of (state_of hdus tail)) h
stats_there hdus tail h i hdu stats p at described is = image_there stats_of hdus tail h i hdu stats p at described is

-- its sum
pub datasum_there : (hdus : List HduState) (tail : List ℕ) (h i n : ℕ) (hdu : HduState) → IsHduAt hdus h i hdu → n ≡ data_sum (parts_of hdu) → Path (Result ℕ Refusal) (Ok n) (datasum_in (file_of (state_of hdus tail)) h)
datasum_there hdus tail h i n hdu at is = ap Ok is ∙ sym (answer_there (λ (u : HduParts). Ok (data_sum u)) hdus tail h i hdu at)

-- its verdicts
pub verdicts_there : (hdus : List HduState) (tail : List ℕ) (h i : ℕ) (hdu : HduState) (verdicts : Verdicts) → IsHduAt hdus h i hdu → verdicts ≡ verdicts_of (parts_of hdu) → Path (Result Verdicts Refusal) (Ok verdicts) (verdicts_in (file_of (state_of hdus tail)) h)
verdicts_there hdus tail h i hdu verdicts at is = ap Ok is ∙ sym (answer_there (λ (u : HduParts). Ok (verdicts_of u)) hdus tail h i hdu at)

-- where two hold the second does
and_right : (a b : Bool) → (a && b) ≡ true → b ≡ true
and_right true b on = on
and_right false b on = cc

-- where both are right each is
is_both : (datasum checksum : Verdict) → (is_right datasum && is_right checksum) ≡ true → (datasum ≡ Right) × (checksum ≡ Right)
is_both Right Right on = (refl, refl)
is_both Right Missing on = cc
is_both Right Wrong on = cc
is_both Missing checksum on = cc
is_both Wrong checksum on = cc

-- whether it is kept stamped
pub kept_said : (hdus : List HduState) (tail : List ℕ) (h i : ℕ) (hdu : HduState) (kept : Bool) → IsHduAt hdus h i hdu → kept ≡ (hdu.kept && are_right (verdicts_of (parts_of hdu))) → Path (Result Bool Refusal) (Ok kept) (kept_in (marked_of (state_of hdus tail)) h)
kept_said hdus tail h i hdu kept at is =
    ap Ok (is ∙ ap (λ mark. mark && are_right (verdicts_of (parts_of hdu))) (sym (kept_there hdus h i hdu at)))
    ∙ sym (answer_there (λ (u : HduParts). Ok (is_kept (kept_of hdus) h && are_right (verdicts_of u))) hdus tail h i hdu at)

-- sums that are right are both
both_are : (verdicts : Verdicts) → are_right verdicts ≡ true → verdicts ≡ both_right
both_are verdicts on =
    let parts = is_both verdicts.datasum verdicts.checksum on in
    ap (λ (v : Verdict). let it : Verdicts = record { datasum = v; checksum = verdicts.checksum } in it) parts.0
    ∙ ap (λ (v : Verdict). let it : Verdicts = record { datasum = Right; checksum = v } in it) parts.1

-- and then both its sums are right
pub kept_sums : (hdus : List HduState) (tail : List ℕ) (h i : ℕ) (hdu : HduState) (kept : Bool) → IsHduAt hdus h i hdu → kept ≡ (hdu.kept && are_right (verdicts_of (parts_of hdu))) → kept ≡ true → verdicts_in (file_of (state_of hdus tail)) h ≡ Ok both_right
kept_sums hdus tail h i hdu kept at is on =
    let right : are_right (verdicts_of (parts_of hdu)) ≡ true = and_right hdu.kept (are_right (verdicts_of (parts_of hdu))) (sym is ∙ on) in
    sym (verdicts_there hdus tail h i hdu both_right at (sym (both_are (verdicts_of (parts_of hdu)) right)))

-- the values of a rectangle of it
rect_there : (hdus : List HduState) (tail : List ℕ) (h i : ℕ) (hdu : HduState) (lo hi : List ℕ) → IsFile (file_of (state_of hdus tail)) → IsHduAt hdus h i hdu → shape_of (is_primary hdu.header.shape.class) hdu.header.header.cards ≡ Ok hdu.header.shape → rect_in (file_of (state_of hdus tail)) h lo hi ≡ pixels_made (rect_of hdu.header.shape lo hi (parts_of hdu))
rect_there hdus tail h i hdu lo hi p at described = shaped_there (λ shape it. rect_of shape lo hi it) hdus tail h i hdu p at described

-- are these
pub rect_ok : (hdus : List HduState) (tail : List ℕ) (h i : ℕ) (hdu : HduState) (lo hi : List ℕ) (values : List ℤ) → IsFile (file_of (state_of hdus tail)) → IsHduAt hdus h i hdu → shape_of (is_primary hdu.header.shape.class) hdu.header.header.cards ≡ Ok hdu.header.shape → rect_of hdu.header.shape lo hi (parts_of hdu) ≡ Ok values
    → rect_in (file_of (state_of hdus tail)) h lo hi ≡ Ok values
rect_ok hdus tail h i hdu lo hi values p at described is = rect_there hdus tail h i hdu lo hi p at described ∙ ap pixels_made is

-- out of memory only where there are some
rect_something : (answer : Result (List ℤ) PixelFault) → IsOk answer → IsOk (pixels_made answer)
rect_something (Ok values) p = refl
rect_something (Err why) p = cc

-- so a fault of pixels is the query's
rect_fault : (answer : Result (List ℤ) PixelFault) (why : PixelFault) → RectFails answer why → QueryFails (pixels_made answer) (refusal_of_pixels why)
rect_fault answer pixel.NotImage p = ap pixels_made p
rect_fault answer pixel.BadRectangle p = ap pixels_made p
rect_fault answer pixel.WrongCount p = ap pixels_made p
rect_fault answer pixel.OutOfRange p = ap pixels_made p
rect_fault answer pixel.Memory p = rect_something answer p

-- of HDU h
pub rect_fails : (hdus : List HduState) (tail : List ℕ) (h i : ℕ) (hdu : HduState) (lo hi : List ℕ) (why : PixelFault) → IsFile (file_of (state_of hdus tail)) → IsHduAt hdus h i hdu → shape_of (is_primary hdu.header.shape.class) hdu.header.header.cards ≡ Ok hdu.header.shape → RectFails (rect_of hdu.header.shape lo hi (parts_of hdu)) why
    → QueryFails (rect_in (file_of (state_of hdus tail)) h lo hi) (refusal_of_pixels why)
rect_fails hdus tail h i hdu lo hi why p at described fails = rw (rect_there hdus tail h i hdu lo hi p at described) (rect_fault (rect_of hdu.header.shape lo hi (parts_of hdu)) why fails)

-- an HDU of which so many pixels were read
abbrev pub pixels_read : ℕ → HduState → HduState
pixels_read count state = record state { plane = record state.plane { reads = state.plane.reads + count } }

-- what the query of a rectangle reads
pub rect_asks : (hdus : List HduState) (tail : List ℕ) (h i count : ℕ) (old new : HduState) → IsHduAt hdus h i old → new ≡ pixels_read count old → AsksPixels h count (state_of hdus tail) (state_of (set hdus i new) tail)
rect_asks hdus tail h i count old new at is = record {
  file = marked_of-same hdus tail h i old new at (ap parts_of is) (ap (λ (one : HduState). one.kept) is);
  work = reads_of-same hdus i old new at.index.within at.is (ap (λ (state : HduState). state.header.reads) is);
  pixel_work = works_changed hdus h i old new (read_more count) at (ap (λ (state : HduState). plane_work state.plane) is);
  absences = absences_of-same hdus i old new at.index.within at.is (ap (λ (state : HduState). state.absent) is);
}

-- the places of a name
pub places_there : (hdus : List HduState) (tail : List ℕ) (h i : ℕ) (hdu : HduState) (name places : List ℕ) → IsHduAt hdus h i hdu → places ≡ keyword_places hdu.header.header.cards name → positions_in (file_of (state_of hdus tail)) h name ≡ Ok places
places_there hdus tail h i hdu name places at is = answer_there (λ (u : HduParts). Ok (keyword_places u.header.cards name)) hdus tail h i hdu at ∙ ap Ok (sym is)

-- they are refused for memory alone, and where there is one
pub no_places : (hdus : List HduState) (tail : List ℕ) (h i : ℕ) (hdu : HduState) (name : List ℕ) → IsHduAt hdus h i hdu → 0 < length (keyword_places hdu.header.header.cards name) → PlacesFail (positions_in (file_of (state_of hdus tail)) h name) refusal.Memory
no_places hdus tail h i hdu name at some = rw (places_there hdus tail h i hdu name (keyword_places hdu.header.header.cards name) at refl) some

-- the names of a header
pub names_there : (hdus : List HduState) (tail : List ℕ) (h i : ℕ) (hdu : HduState) (names : List (List ℕ)) → IsHduAt hdus h i hdu → names ≡ header_names hdu.header.header.cards → names_in (file_of (state_of hdus tail)) h ≡ Ok names
names_there hdus tail h i hdu names at is = answer_there (λ (u : HduParts). Ok (header_names u.header.cards)) hdus tail h i hdu at ∙ ap Ok (sym is)

-- they are refused for memory alone, and where there is one
pub no_names : (hdus : List HduState) (tail : List ℕ) (h i : ℕ) (hdu : HduState) → IsHduAt hdus h i hdu → QueryFails (names_in (file_of (state_of hdus tail)) h) refusal.Memory
no_names hdus tail h i hdu at = rw (names_there hdus tail h i hdu (header_names hdu.header.header.cards) at refl) refl

-- what the query of a value reads
pub value_asks : (hdus : List HduState) (tail : List ℕ) (h i : ℕ) (old new : HduState) (name : List ℕ) → IsHduAt hdus h i old → ReadsUpTo old new (keyword_reads old.header.header.cards name)
    → Asks h (value_reads (file_of (state_of hdus tail)) h name) (state_of hdus tail) (state_of (set hdus i new) tail)
value_asks hdus tail h i old new name at r =
    asked hdus tail h i (value_reads (file_of (state_of hdus tail)) h name) old new at (subst (λ (o : Option HduParts). ReadsUpTo old new (reads_in o name)) (sym (hdu_of-there hdus tail h i old at)) r)
