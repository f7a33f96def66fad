-- How many cards an edit of one HDU reads (own).
use Rattle.std.specs.Prelude.{ℕ, ◌+◌, Bool, true, false, List, Result, Ok, Err}
use Rattle.fits_card.specs.declared.change.Change.{Change}
use Rattle.fits_rules.specs.Shape.{shape_of}
use Rattle.fits_rules.specs.declared.array_shape.Shape.{Shape}
use Rattle.fits_header.specs.Work.{shape_reads}
use Rattle.fits_passing.specs.Hdu.{HduParts}
use Rattle.fits_passing.specs.Work.{apply_reads}
use Rattle.fits_hdu.specs.Work.{keyword_reads, reshape_reads, stamp_count_reads, stamp_reads}
use Rattle.fits_image.specs.Kind.{array_kind}
use Rattle.fits_image.specs.declared.kind.Kind.{Kind}
use Rattle.fits_making.specs.CardEdit.{change_of, set_of, unset_of}
use Rattle.fits_edit.specs.declared.card_edit.CardEdit.{CardEdit}
use Rattle.fits_edit.specs.declared.card_edit.CardEdit.TheVariants.{Set, Unset}
use Rattle.fits_edit.specs.declared.hdu_edit.HduEdit.{HduEdit}
use Rattle.fits_edit.specs.declared.hdu_edit.HduEdit.TheVariants.{Cards, Keep, Pixels, Release, Reshape, Stamp}
use Rattle.fits_making.specs.declared.refusal.Refusal.{Refusal}

-- so many are read to find a change, where there is one
abbrev pub reads_to_find : Result Change Refusal → ℕ → ℕ
reads_to_find (Ok change) count = count
reads_to_find (Err why) count = 0

-- how many cards an edit of cards reads at most to find its change: those of the keyword that it names, and one; none where one of its
-- own tests fails
abbrev pub own_reads : List (List ℕ) → CardEdit → ℕ
own_reads cards (Set name value comment) = reads_to_find (set_of cards name value comment) (keyword_reads cards name)
own_reads cards (Unset name) = reads_to_find (unset_of cards name) (keyword_reads cards name)
own_reads cards edit = 0

-- how many cards a change reads at most: those that say whether the shape stays, and those that are read when it is made
abbrev pub change_reads : Result Shape ℕ → Result Change Refusal → ℕ
change_reads (Ok shape) (Ok change) = shape_reads shape + apply_reads
change_reads (Ok shape) (Err why) = 0
change_reads (Err place) change = 0

-- how many cards a reshape reads at most: by the shape that the cards describe
abbrev pub reads_to_reshape : Result Shape ℕ → Kind → List ℕ → List (List ℕ) → ℕ
reads_to_reshape (Ok shape) kind axes cards = reshape_reads (array_kind shape cards) kind axes cards
reads_to_reshape (Err place) kind axes cards = 0

-- how many cards an edit of an HDU reads at most: one of cards to find its change and to make it, one of pixels none, nor a release
abbrev pub hdu_reads : Bool → HduEdit → HduParts → ℕ
hdu_reads primary (Cards edit) hdu =
    own_reads hdu.header.cards edit + change_reads (shape_of primary hdu.header.cards) (change_of hdu.header.cards edit)
hdu_reads primary (Pixels lo hi paint) hdu = 0
hdu_reads primary (Reshape kind axes) hdu = reads_to_reshape (shape_of primary hdu.header.cards) kind axes hdu.header.cards
hdu_reads primary Stamp hdu = stamp_count_reads hdu.header.cards + stamp_reads hdu.header.cards
hdu_reads primary Keep hdu = stamp_count_reads hdu.header.cards + stamp_reads hdu.header.cards
hdu_reads primary Release hdu = 0

-- how many cards the stamp reads at most that follows what was made of an HDU, where one does
abbrev pub follow_up_reads : Bool → Result HduParts Refusal → ℕ
follow_up_reads false made = 0
follow_up_reads true (Ok made) = stamp_reads made.header.cards
follow_up_reads true (Err why) = 0
