-- A listing, by what is kept of HDUs.
use Rattle.std.proofs.Common.{◌≡◌, ℕ, ◌+◌, ◌-◌, ◌<◌, ◌≤◌, Bool, true, false, List, [], ◌∷◌, ◌++◌, length, take, drop, get_or, refl, ap, sym, ◌∙◌, append_assoc, arith, rules, All}
use Rattle.std.specs.Prelude.{nat_le, Ok, codes}
use Rattle.std.specs.Fmt.{decimal}
use Rattle.std.proofs.lemmas.List.{append-nil, get_or_default, length-append, take_all, take_more}
use Rattle.std.proofs.lemmas.List.Elements.{All-head, All-tail}
use Rattle.fits_card.specs.Header.{header_bytes}
use Rattle.fits_stream.specs.Stream.{SourceState}
use Rattle.fits_rules.specs.Class.{is_primary}
use Rattle.fits_rules.specs.Shape.{shape_of}
use Rattle.fits_rules.specs.declared.array_shape.Shape.{Shape}
use Rattle.fits_passing.specs.Hdu.{HduParts, IsHdu, hdu_bytes}
use Rattle.fits_passing.specs.declared.outline.Outline.{Outline}
use Rattle.fits_passing.proofs.ShapeLemmas.{one_primary}
use Rattle.fits_passing.specs.File.{FileParts, joined_hdus, offsets_from, IsFileOf, is_primary_hdu}
use Rattle.fits_passing.specs.declared.limits.TheConstants.{FILE_LIMIT}
use Rattle.fits_passing.specs.Reading.{is_outline, GaveWhole, IsKeptOf, IsOutlineOf, KeepsEach}
use Rattle.fits_passing.specs.declared.offsets.HduOffsets.{HduOffsets}
use Rattle.fits_tell.specs.Called.{called_words, IsCalled}
use Rattle.fits_tell.specs.Listing.{axes_text, more_axes_text, line_front, line_back, hdu_line, line_of, hdu_lines, listing, long_listing, no_words, called_len, called_line, outlined_len, outlined_line, plain_line}
use Rattle.fits_tell.specs.Placed.{placed_len, placed_lines}
use Rattle.fits_tell.specs.declared.called_outline.CalledOutline.{CalledOutline}

-- where an HDU stands that begins here
abbrev at_start : ℕ → HduParts → HduOffsets
at_start start u = record { header_start = start; data_start = start + length (header_bytes u.header); hdu_end = start + length (header_bytes u.header) + length u.data_unit }

-- the line of it, with these words
abbrev line_at : (Bool → List (List ℕ) → List ℕ) → ℕ → ℕ → HduParts → List ℕ
line_at words number start u = line_of number (length u.header.cards) (words (is_primary_hdu number) u.header.cards) (at_start start u) (shape_of (is_primary_hdu number) u.header.cards)

-- by what is kept of HDUs this is the line of each, with these words, and how many bytes it has
record AreLines {K : Type 0} (keeps : K → HduParts → Type 0) (line : ℕ → ℕ → K → List ℕ) (len : K → ℕ) (words : Bool → List (List ℕ) → List ℕ) : Type 0 where
  same : (number start : ℕ) (primary : Bool) (k : K) (u : HduParts) → is_primary_hdu number ≡ primary → IsHdu primary u → keeps k u → line number start k ≡ line_at words number start u
  size : (k : K) (u : HduParts) → keeps k u → len k ≡ length (header_bytes u.header) + length u.data_unit

-- HDU 2 and those after it aren't the primary one
past_one : (n : ℕ) → 1 < n → nat_le n 1 ≡ false
past_one n l = search rules

-- the lines of extensions
extension_lines : {K : Type 0} (keeps : K → HduParts → Type 0) (line : ℕ → ℕ → K → List ℕ) (len : K → ℕ) (words : Bool → List (List ℕ) → List ℕ) → AreLines keeps line len words
    → (k start : ℕ) (kept : List K) (us : List HduParts) → KeepsEach keeps kept us → All (IsHdu false) us → placed_lines line len (2 + k) start kept ≡ hdu_lines words (2 + k) us (offsets_from start us)
extension_lines keeps line len words are k start [] [] p q = refl
extension_lines keeps line len words are k start [] (u ∷ us) p q = absurd p
extension_lines keeps line len words are k start (it ∷ kept) [] p q = absurd p
extension_lines keeps line len words are k start (it ∷ kept) (u ∷ us) p q =
    let next : 2 + k + 1 ≡ 2 + (k + 1) = omega arith in
    let more : ℕ = start + length (header_bytes u.header) + length u.data_unit in
    let end : start + len it ≡ more = omega (arith, are.size it u p.0) in
    let here = are.same (2 + k) start false it u (past_one (2 + k) (omega arith)) (All-head (IsHdu false) u us q) p.0 in
    ap (λ t. t ++ placed_lines line len (2 + k + 1) (start + len it) kept) here
    ∙ ap (λ t. line_at words (2 + k) start u ++ t)
    (ap (λ n. placed_lines line len n (start + len it) kept) next ∙ ap (λ n. placed_lines line len (2 + (k + 1)) n kept) end ∙ extension_lines keeps line len words are (k + 1) more kept us p.1 (All-tail (IsHdu false) u us q)
    ∙ ap (λ n. hdu_lines words n us (offsets_from more us)) (sym next))

-- the lines of the primary HDU and of extensions
front_lines : {K : Type 0} (keeps : K → HduParts → Type 0) (line : ℕ → ℕ → K → List ℕ) (len : K → ℕ) (words : Bool → List (List ℕ) → List ℕ) → AreLines keeps line len words
    → (kept : List K) (us : List HduParts) → All (IsHdu true) (take 1 us) → All (IsHdu false) (drop 1 us) → KeepsEach keeps kept us → placed_lines line len 1 0 kept ≡ hdu_lines words 1 us (offsets_from 0 us)
front_lines keeps line len words are [] [] first others p = refl
front_lines keeps line len words are [] (u ∷ us) first others p = absurd p
front_lines keeps line len words are (it ∷ kept) [] first others p = absurd p
front_lines keeps line len words are (it ∷ kept) (u ∷ us) first others p =
    let more : ℕ = 0 + length (header_bytes u.header) + length u.data_unit in
    let end : 0 + len it ≡ more = omega (arith, are.size it u p.0) in
    let here = are.same 1 0 true it u refl (first 0 u (omega arith)) p.0 in
    ap (λ t. t ++ placed_lines line len 2 (0 + len it) kept) here
    ∙ ap (λ t. line_at words 1 0 u ++ t) (ap (λ n. placed_lines line len 2 n kept) end ∙ extension_lines keeps line len words are 0 more kept us p.1 others)

-- how many bytes HDUs have, by what is kept of them
kept_len : {K : Type 0} (keeps : K → HduParts → Type 0) (line : ℕ → ℕ → K → List ℕ) (len : K → ℕ) (words : Bool → List (List ℕ) → List ℕ) → AreLines keeps line len words
    → (kept : List K) (us : List HduParts) → KeepsEach keeps kept us → placed_len len kept ≡ length (joined_hdus us)
kept_len keeps line len words are [] [] p = refl
kept_len keeps line len words are [] (u ∷ us) p = absurd p
kept_len keeps line len words are (it ∷ kept) [] p = absurd p
kept_len keeps line len words are (it ∷ kept) (u ∷ us) p =
    omega (arith, are.size it u p.0, kept_len keeps line len words are kept us p.1, length-append (hdu_bytes u) (joined_hdus us), length-append (header_bytes u.header) u.data_unit)

-- they keep to the limit
kept_within : {K : Type 0} (keeps : K → HduParts → Type 0) (line : ℕ → ℕ → K → List ℕ) (len : K → ℕ) (words : Bool → List (List ℕ) → List ℕ) → AreLines keeps line len words
    → (old new : SourceState) (kept : List K) → GaveWhole old new (IsKeptOf keeps kept) → placed_len len kept ≤ FILE_LIMIT
kept_within keeps line len words are old new kept p =
    let file : FileParts = p.is.0 in
    omega (arith, kept_len keeps line len words are kept file.hdus p.is.2, p.is.1.size, ap length p.is.1.front.joined, length-append (joined_hdus file.hdus) file.tail)

-- the line of an HDU is that of its outline
outline_same : (words : List ℕ) (said : Bool → List (List ℕ) → List ℕ) (number start : ℕ) (primary : Bool) (it : Outline) (u : HduParts) → is_primary_hdu number ≡ primary → IsHdu primary u → is_outline it u
    → words ≡ said (is_primary it.shape.class) u.header.cards → outlined_line words number start it ≡ line_at said number start u
outline_same words said number start primary it u at whole outline is =
    let class : is_primary it.shape.class ≡ primary = one_primary (is_primary it.shape.class) primary u.header.cards it.shape whole.shape outline.described whole.described in
    let described : shape_of (is_primary_hdu number) u.header.cards ≡ Ok it.shape = ap (λ b. shape_of b u.header.cards) (at ∙ sym class) ∙ outline.described in
    let told : words ≡ said (is_primary_hdu number) u.header.cards = is ∙ ap (λ b. said b u.header.cards) (class ∙ sym at) in
    rw (described, ← outline.count, ← outline.header, ← outline.unit, ← told) refl

-- how many bytes it has is its outline's number
outline_size : (it : Outline) (u : HduParts) → is_outline it u → outlined_len it ≡ length (header_bytes u.header) + length u.data_unit
outline_size it u outline = omega (arith, outline.header, outline.unit)

-- so a listing is made of outlines
plain_lines : AreLines is_outline plain_line outlined_len no_words
plain_lines = record { same = λ number start primary it u at whole outline. outline_same [] no_words number start primary it u at whole outline refl; size = outline_size }

-- and a long one of those with words
long_lines : AreLines IsCalled called_line called_len called_words
long_lines = record {
  same = λ number start primary it u at whole kept. outline_same it.words.items called_words number start primary it.outline u at whole kept.outlined kept.words_are;
  size = λ it u kept. outline_size it.outline u kept.outlined;
}

-- the lines of a file's outlines are its listing
pub listing-outlined : (outlines : List Outline) (bytes : List ℕ) (file : FileParts) → IsFileOf bytes file → KeepsEach is_outline outlines file.hdus → placed_lines plain_line outlined_len 1 0 outlines ≡ listing file
unfolding listing
listing-outlined outlines bytes file p each = front_lines is_outline plain_line outlined_len no_words plain_lines outlines file.hdus p.front.first p.front.others each

-- with words, its long listing
pub listing-called : (outlines : List CalledOutline) (bytes : List ℕ) (file : FileParts) → IsFileOf bytes file → KeepsEach IsCalled outlines file.hdus → placed_lines called_line called_len 1 0 outlines ≡ long_listing file
unfolding long_listing
listing-called outlines bytes file p each = front_lines IsCalled called_line called_len called_words long_lines outlines file.hdus p.front.first p.front.others each

-- outlines that were read keep to the limit of a file
pub outlined_within : (old new : SourceState) (outlines : List Outline) → GaveWhole old new (IsOutlineOf outlines) → placed_len outlined_len outlines ≤ FILE_LIMIT
outlined_within old new outlines p = kept_within is_outline plain_line outlined_len no_words plain_lines old new outlines p

-- also those with words
pub called_within : (old new : SourceState) (outlines : List CalledOutline) → GaveWhole old new (IsKeptOf IsCalled outlines) → placed_len called_len outlines ≤ FILE_LIMIT
called_within old new outlines p = kept_within IsCalled called_line called_len called_words long_lines old new outlines p

-- further axes, and one more
more_axes-append : (xs ys : List ℕ) → more_axes_text (xs ++ ys) ≡ more_axes_text xs ++ more_axes_text ys
more_axes-append [] ys = refl
more_axes-append (x ∷ xs) ys =
    let axis : List ℕ = decimal x in
    ap (λ t. codes "x" ++ (axis ++ t)) (more_axes-append xs ys)
    ∙ sym (append_assoc (codes "x") (axis ++ more_axes_text xs) (more_axes_text ys) ∙ ap (λ t. codes "x" ++ t) (append_assoc axis (more_axes_text xs) (more_axes_text ys)))

pub more_axes-more : (axes : List ℕ) (i axis : ℕ) → i < length axes → axis ≡ get_or axes i axis → more_axes_text (take (i + 1) axes) ≡ more_axes_text (take i axes) ++ (codes "x" ++ decimal axis)
more_axes-more axes i axis l e =
    ap more_axes_text (take_more axes i axis l ∙ ap (λ x. take i axes ++ x ∷ []) (sym e)) ∙ more_axes-append (take i axes) (axis ∷ [])
    ∙ ap (λ t. more_axes_text (take i axes) ++ t) (ap (λ t. codes "x" ++ t) (append-nil (decimal axis)))

-- one more axis is added
pub axes_step : (start line new axes : List ℕ) (i d : ℕ) → i < length axes → line ≡ start ++ more_axes_text (take i axes) → new ≡ line ++ (codes "x" ++ decimal (get_or axes i d))
    → new ≡ start ++ more_axes_text (take (i + 1) axes)
axes_step start line new axes i d l before added =
    let text : List ℕ = codes "x" ++ decimal (get_or axes i d) in
    added ∙ ap (λ t. t ++ text) before ∙ append_assoc start (more_axes_text (take i axes)) text
    ∙ ap (λ t. start ++ t) (sym (more_axes-more axes i (get_or axes i d) l (sym (get_or_default axes i (get_or axes i d) d l))))

-- the first axis and the further ones
pub axes_whole : (start mid new axes : List ℕ) (d : ℕ) → 1 ≤ length axes → mid ≡ start ++ decimal (get_or axes 0 d) → new ≡ mid ++ more_axes_text (take (length axes - 1) (drop 1 axes)) → new ≡ start ++ axes_text axes
axes_whole start mid new [] d l a b = absurd (omega arith)
axes_whole start mid new (axis ∷ axes) d l a b =
    let size : length (axis ∷ axes) - 1 ≡ length axes = omega arith in
    b ∙ ap (λ n. mid ++ more_axes_text (take n axes)) size ∙ ap (λ t. mid ++ more_axes_text t) (take_all (length axes) axes (omega arith))
    ∙ ap (λ t. t ++ more_axes_text axes) a ∙ append_assoc start (decimal axis) (more_axes_text axes)

-- what stands before the axes, the axes, and what stands behind them
pub line_whole : (start a b new words : List ℕ) (number cards : ℕ) (at : HduOffsets) (shape : Shape) → a ≡ start ++ line_front number shape.class shape.bitpix → b ≡ a ++ axes_text shape.axes → new ≡ b ++ line_back cards words at
    → new ≡ start ++ hdu_line number cards words at shape
unfolding hdu_line
line_whole start a b new words number cards at shape first second third =
    let front : List ℕ = line_front number shape.class shape.bitpix in
    let axes : List ℕ = axes_text shape.axes in
    let back : List ℕ = line_back cards words at in
    third ∙ ap (λ t. t ++ back) (second ∙ ap (λ t. t ++ axes) first) ∙ append_assoc (start ++ front) axes back ∙ append_assoc start front (axes ++ back)

pub ruleset whole_steps = (line_whole)
