-- How many errors and warnings a report has, HDU after HDU.
use Rattle.std.proofs.Common.{◌≡◌, ℕ, ◌+◌, ◌<◌, ◌≤◌, ◌^◌, Bool, true, false, List, [], ◌∷◌, ◌++◌, length, map, take, get_or, refl, ap, sym, subst, ◌∙◌, append_assoc, append-nil, arith}
use Rattle.std.specs.Prelude.{Option, Ok}
use Rattle.std.proofs.lemmas.List.{length-append, length-take-le, map-append, take_all}
use Rattle.fits_card.specs.Header.{header_bytes}
use Rattle.fits_rules.specs.Class.{is_primary}
use Rattle.fits_rules.specs.Shape.{shape_of}
use Rattle.fits_rules.specs.declared.array_shape.Shape.{Shape}
use Rattle.fits_codes.specs.declared.code.Code.TheVariants.{TrailingBytes}
use Rattle.std.specs.Map.{keys_of}
use Rattle.fits_codes.specs.declared.code.Code.{Code}
use Rattle.fits_header.specs.Findings.{card_findings, counts_of, found_at, summed}
use Rattle.fits_header.specs.declared.counts.Counts.{Counts}
use Rattle.fits_header.specs.declared.finding.Finding.{Finding}
use Rattle.fits_header.proofs.FindingLemmas.{counts-append}
use Rattle.fits_passing.specs.ExtensionName.{name_codes}
use Rattle.fits_passing.specs.Findings.{hdu_counts, hdu_findings, whole_codes}
use Rattle.fits_passing.specs.Hdu.{HduParts, hdu_bytes}
use Rattle.fits_hdu.specs.State.{HduState, name_of, parts_of, IsDescribed}
use Rattle.fits_passing.specs.declared.called.ExtensionName.{ExtensionName}
use Rattle.fits_passing.specs.File.{is_followed, joined_hdus, IsFile, is_primary_hdu}
use Rattle.fits_passing.specs.Report.{counts_in, in_hdu, is_repeated, name_in, names_from, report_of, trailing, trails, wrong_from, wrong_in}
use Rattle.fits_session.specs.NameTable.{names_of}
use Rattle.fits_passing.specs.NameCounts.{IsTableOf, PointsAt}
use Rattle.fits_session.specs.Session.{file_of, hdus_of, state_of, AreNamed}
use Rattle.fits_passing.specs.declared.problem.Problem.{Problem}
use Rattle.fits_session.proofs.OffsetLemmas.{ends_within, hdus_more, start_more}
use Rattle.fits_session.proofs.NameLemmas.{named_there, names_are}
use Rattle.fits_session.proofs.StandingLemmas.{points_there}
use Rattle.fits_passing.proofs.ReportLemmas.{trailing_none, trailing_some}
use Rattle.fits_session.proofs.StateLemmas.{described_there, file_size, length-hdus_of, IsHduAt}

-- what is wrong in HDUs, and in more
wrong_from-append : (names : List (Option ExtensionName)) (h : ℕ) (us vs : List HduParts) → wrong_from names h (us ++ vs) ≡ wrong_from names h us ++ wrong_from names (h + length us) vs
wrong_from-append names h [] vs = ap (λ n. wrong_from names n vs) (omega arith)
wrong_from-append names h (u ∷ us) vs =
    let number : h + 1 + length us ≡ h + length (u ∷ us) = omega arith in
    let here : List Problem = wrong_in h u (is_repeated names (name_in h u)) (shape_of (is_primary_hdu h) u.header.cards) in
    ap (λ t. here ++ t) (wrong_from-append names (h + 1) us vs ∙ ap (λ n. wrong_from names (h + 1) us ++ wrong_from names n vs) number)
    ∙ sym (append_assoc here (wrong_from names (h + 1) us) (wrong_from names (h + length (u ∷ us)) vs))

-- what is wrong in one HDU more
wrong_more : (names : List (Option ExtensionName)) (us : List HduParts) (u : HduParts) (h : ℕ) (shape : Shape) (repeated : Bool) → 1 + length us ≡ h → shape_of (is_primary_hdu h) u.header.cards ≡ Ok shape → repeated ≡ is_repeated names (name_in h u)
    → wrong_from names 1 (us ++ u ∷ []) ≡ wrong_from names 1 us ++ map (in_hdu h) (hdu_findings shape u repeated)
wrong_more names us u h shape repeated number described again =
    wrong_from-append names 1 us (u ∷ [])
    ∙ ap (λ n. wrong_from names 1 us ++ wrong_from names n (u ∷ [])) number
    ∙ ap (λ t. wrong_from names 1 us ++ t) (append-nil (wrong_in h u (is_repeated names (name_in h u)) (shape_of (is_primary_hdu h) u.header.cards)) ∙ ap (λ b. wrong_in h u b (shape_of (is_primary_hdu h) u.header.cards)) (sym again) ∙ ap (wrong_in h u repeated) described)

-- the codes of what is wrong in an HDU are those of what is found of it
codes-in_hdu : (h : ℕ) (found : List Finding) → map (λ (it : Problem). it.code) (map (in_hdu h) found) ≡ map (λ (it : Finding). it.code) found
codes-in_hdu h [] = refl
codes-in_hdu h (it ∷ found) = ap (λ xs. it.code ∷ xs) (codes-in_hdu h found)

-- the counts of two reports are those of each, summed
counts_in-append : (xs ys : List Problem) → counts_in (xs ++ ys) ≡ summed (counts_in xs) (counts_in ys)
counts_in-append xs ys =
    ap counts_of (map-append (λ (it : Problem). it.code) xs ys) ∙ counts-append (map (λ (it : Problem). it.code) xs) (map (λ (it : Problem). it.code) ys)

-- the counts with one HDU more
counts_push : (names : List (Option ExtensionName)) (us : List HduParts) (u : HduParts) (h : ℕ) (shape : Shape) (repeated : Bool) → 1 + length us ≡ h → shape_of (is_primary_hdu h) u.header.cards ≡ Ok shape → repeated ≡ is_repeated names (name_in h u)
    → counts_in (wrong_from names 1 (us ++ u ∷ [])) ≡ summed (counts_in (wrong_from names 1 us)) (hdu_counts shape u repeated)
unfolding hdu_counts
counts_push names us u h shape repeated number described again =
    ap counts_in (wrong_more names us u h shape repeated number described again)
    ∙ counts_in-append (wrong_from names 1 us) (map (in_hdu h) (hdu_findings shape u repeated))
    ∙ ap (λ (c : Counts). summed (counts_in (wrong_from names 1 us)) c) (ap counts_of (codes-in_hdu h (hdu_findings shape u repeated)))

-- the same of HDUs under edits
one_more : (names : List (Option ExtensionName)) (hdus : List HduState) (tail : List ℕ) (i : ℕ) (hdu : HduState) (repeated : Bool) → IsFile (file_of (state_of hdus tail)) → i < length hdus → hdu ≡ get_or hdus i hdu → shape_of (is_primary hdu.header.shape.class) hdu.header.header.cards ≡ Ok hdu.header.shape
    → repeated ≡ is_repeated names (name_in (i + 1) (parts_of hdu)) → counts_in (wrong_from names 1 (take (i + 1) (hdus_of hdus))) ≡ summed (counts_in (wrong_from names 1 (take i (hdus_of hdus)))) (hdu_counts hdu.header.shape (parts_of hdu) repeated)
one_more names hdus tail i hdu repeated file l e described again =
    let at : IsHduAt hdus (i + 1) i hdu = record { index = record { at = refl; within = l }; is = e } in
    let number : 1 + length (take i (hdus_of hdus)) ≡ i + 1 = omega (arith, length-take-le i (hdus_of hdus) (omega (arith, l, length-hdus_of hdus))) in
    ap (λ us. counts_in (wrong_from names 1 us)) (hdus_more hdus i hdu l e)
    ∙ counts_push names (take i (hdus_of hdus)) (parts_of hdu) (i + 1) hdu.header.shape repeated number (described_there hdus tail (i + 1) i hdu file at described) again

-- whether an HDU is called as another is, by the entry that it has
pub repeated_by : (hdus : List HduState) (es : List (ExtensionName × ℕ)) (i : ℕ) (hdu : HduState) (repeated : Bool) → AreNamed hdus es → i < length hdus → hdu ≡ get_or hdus i hdu
    → ((name : Option ExtensionName) (names : List (Option ExtensionName)) → PointsAt (keys_of es) name hdu.entry → IsTableOf names es → repeated ≡ is_repeated names name) → repeated ≡ is_repeated (names_from 1 (hdus_of hdus)) (name_in (i + 1) (parts_of hdu))
repeated_by hdus es i hdu repeated p l e told =
    let described : IsDescribed hdu = subst IsDescribed (sym e) (p.described i hdu l) in
    told (name_of hdu) (names_of hdus) (points_there hdus (keys_of es) i hdu l e p.names.placed) p.names.table
    ∙ ap (λ names. is_repeated names (name_of hdu)) (names_are hdus p.tail p.whole p.described)
    ∙ ap (is_repeated (names_from 1 (hdus_of hdus))) (named_there hdus p.tail i hdu p.whole l e described)

-- so one more HDU is counted
pub counts_more : (hdus old : List HduState) (es : List (ExtensionName × ℕ)) (i : ℕ) (hdu : HduState) (repeated : Bool) (now here next : Counts) → hdus ≡ old → AreNamed old es → i < length hdus → hdu ≡ get_or hdus i hdu
    → ((name : Option ExtensionName) (names : List (Option ExtensionName)) → PointsAt (keys_of es) name hdu.entry → IsTableOf names es → repeated ≡ is_repeated names name)
    → now ≡ counts_in (wrong_from (names_from 1 (hdus_of old)) 1 (take i (hdus_of old))) → here ≡ hdu_counts hdu.header.shape (parts_of hdu) repeated → next ≡ summed now here
    → next ≡ counts_in (wrong_from (names_from 1 (hdus_of old)) 1 (take (i + 1) (hdus_of old)))
counts_more hdus old es i hdu repeated now here next same p l e told so_far found is =
    let l' : i < length old = rw same at l in
    let e' : hdu ≡ get_or old i hdu = rw same at e in
    let again = repeated_by old es i hdu repeated p l' e' told in
    is ∙ (rw (so_far, found) (sym (one_more (names_from 1 (hdus_of old)) old p.tail i hdu repeated p.whole l' e' (subst IsDescribed (sym e') (p.described i hdu l')) again)))

-- and what is wrong in it is listed
pub listed_here : (hdus old : List HduState) (es : List (ExtensionName × ℕ)) (i : ℕ) (hdu : HduState) (repeated : Bool) (whole : List Code) (of_cards : List Finding) (before after : List Problem) → hdus ≡ old → AreNamed old es → i < length hdus → hdu ≡ get_or hdus i hdu
    → ((name : Option ExtensionName) (names : List (Option ExtensionName)) → PointsAt (keys_of es) name hdu.entry → IsTableOf names es → repeated ≡ is_repeated names name)
    → whole ≡ whole_codes hdu.header.shape (parts_of hdu) → of_cards ≡ card_findings hdu.header.shape hdu.header.header.cards → before ≡ wrong_from (names_from 1 (hdus_of old)) 1 (take i (hdus_of old))
    → after ≡ before ++ map (in_hdu (i + 1)) (found_at 0 (whole ++ name_codes repeated) ++ of_cards) → after ≡ wrong_from (names_from 1 (hdus_of old)) 1 (take (i + 1) (hdus_of old))
unfolding hdu_findings
listed_here hdus old es i hdu repeated whole of_cards before after same p l e told codes cards so_far is =
    let l' : i < length old = rw same at l in
    let e' : hdu ≡ get_or old i hdu = rw same at e in
    let again = repeated_by old es i hdu repeated p l' e' told in
    let at : IsHduAt old (i + 1) i hdu = record { index = record { at = refl; within = l' }; is = e' } in
    let number : 1 + length (take i (hdus_of old)) ≡ i + 1 = omega (arith, length-take-le i (hdus_of old) (omega (arith, l', length-hdus_of old))) in
    let described = described_there old p.tail (i + 1) i hdu p.whole at (subst IsDescribed (sym e') (p.described i hdu l')) in
    is ∙ (rw (so_far, codes, cards) (sym (ap (wrong_from (names_from 1 (hdus_of old)) 1) (hdus_more old i hdu l' e')
    ∙ wrong_more (names_from 1 (hdus_of old)) (take i (hdus_of old)) (parts_of hdu) (i + 1) hdu.header.shape repeated number described again)))

-- those of all HDUs are all
pub all_listed : (names : List (Option ExtensionName)) (hdus : List HduState) (i : ℕ) → length hdus ≤ i → wrong_from names 1 (take i (hdus_of hdus)) ≡ wrong_from names 1 (hdus_of hdus)
all_listed names hdus i l = ap (wrong_from names 1) (take_all i (hdus_of hdus) (omega (arith, l, length-hdus_of hdus)))

-- each code has a byte of its own
pub within_more : (hdus old : List HduState) (i : ℕ) (hdu : HduState) (now here next : Counts) → hdus ≡ old → i < length hdus → hdu ≡ get_or hdus i hdu
    → now.errors + now.warnings ≤ length (joined_hdus (take i (hdus_of old))) → here.errors + here.warnings ≤ length (hdu_bytes (parts_of hdu)) → next ≡ summed now here
    → next.errors + next.warnings ≤ length (joined_hdus (take (i + 1) (hdus_of old)))
within_more hdus old i hdu now here next same l e so_far few is =
    let start : ℕ = length (joined_hdus (take i (hdus_of old))) in
    let unit : ℕ = start + length (header_bytes hdu.header.header) in
    let ends = start_more old i start unit (unit + length hdu.plane.bytes) hdu (rw same at l) (rw same at e) refl refl refl in
    omega (arith, so_far, few, ends, length-append (header_bytes hdu.header.header) hdu.plane.bytes, ap (λ (c : Counts). c.errors) is, ap (λ (c : Counts). c.warnings) is)

-- so the counts are small
pub counts_small : (hdus old : List HduState) (tail : List ℕ) (i : ℕ) (hdu : HduState) (now here : Counts) → hdus ≡ old → IsFile (file_of (state_of old tail)) → i < length hdus → hdu ≡ get_or hdus i hdu
    → now.errors + now.warnings ≤ length (joined_hdus (take i (hdus_of old))) → here.errors + here.warnings ≤ length (hdu_bytes (parts_of hdu))
    → now.errors + now.warnings + (here.errors + here.warnings) < 2 ^ 34
counts_small hdus old tail i hdu now here same file l e so_far few =
    omega (arith, so_far, few, length-append (header_bytes hdu.header.header) hdu.plane.bytes, ends_within old i (length (joined_hdus (take i (hdus_of old)))) hdu (rw same at l) (rw same at e) refl, file_size old tail file)

-- an HDU of a file isn't too long
pub hdu_small : (hdus old : List HduState) (tail : List ℕ) (i : ℕ) (hdu : HduState) → hdus ≡ old → IsFile (file_of (state_of old tail)) → i < length hdus → hdu ≡ get_or hdus i hdu → length (hdu_bytes (parts_of hdu)) ≤ 2 ^ 34
hdu_small hdus old tail i hdu same file l e =
    omega (arith, length-append (header_bytes hdu.header.header) hdu.plane.bytes, ends_within old i (length (joined_hdus (take i (hdus_of old)))) hdu (rw same at l) (rw same at e) refl, file_size old tail file)

-- the counts of the report where no bytes follow the last HDU
pub counts_alone : (hdus : List HduState) (tail : List ℕ) (now : Counts) → now ≡ counts_in (wrong_from (names_from 1 (hdus_of hdus)) 1 (hdus_of hdus)) → is_followed tail ≡ false → now ≡ counts_in (report_of (file_of (state_of hdus tail)))
unfolding report_of
counts_alone hdus tail now is none =
    let names : List (Option ExtensionName) = names_from 1 (hdus_of hdus) in
    is ∙ ap counts_in (sym (append-nil (wrong_from names 1 (hdus_of hdus))) ∙ ap (λ t. wrong_from names 1 (hdus_of hdus) ++ t) (sym (trailing_none (length (hdus_of hdus) + 1) tail none)))

-- and where some do
pub counts_followed : (hdus : List HduState) (tail : List ℕ) (now more next : Counts) → now ≡ counts_in (wrong_from (names_from 1 (hdus_of hdus)) 1 (hdus_of hdus)) → is_followed tail ≡ true → more ≡ counts_of (TrailingBytes ∷ []) → next ≡ summed now more
    → next ≡ counts_in (report_of (file_of (state_of hdus tail)))
unfolding report_of
counts_followed hdus tail now more next so_far some one is =
    let names : List (Option ExtensionName) = names_from 1 (hdus_of hdus) in
    let h : ℕ = length (hdus_of hdus) + 1 in
    is ∙ (rw (so_far, one) (sym (counts_in-append (wrong_from names 1 (hdus_of hdus)) (trails h ∷ []))))
    ∙ ap (λ t. counts_in (wrong_from names 1 (hdus_of hdus) ++ t)) (sym (trailing_some h tail some))

-- the report is what is listed, and what trails
pub report_is : (hdus : List HduState) (tail : List ℕ) (h : ℕ) (listed report : List Problem) → listed ≡ wrong_from (names_from 1 (hdus_of hdus)) 1 (hdus_of hdus) → h ≡ length hdus + 1 → report ≡ listed ++ trailing h tail → report ≡ report_of (file_of (state_of hdus tail))
unfolding report_of
report_is hdus tail h listed report first at all =
    let number : h ≡ length (hdus_of hdus) + 1 = omega (arith, at, length-hdus_of hdus) in
    all ∙ ap (λ (t : List Problem). t ++ trailing h tail) first ∙ ap (λ n. wrong_from (names_from 1 (hdus_of hdus)) 1 (hdus_of hdus) ++ trailing n tail) number
