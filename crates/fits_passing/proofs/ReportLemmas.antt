-- The report, by what is found of each HDU.
use Rattle.std.proofs.Common.{◌≡◌, ℕ, ◌+◌, ◌<◌, Bool, true, false, List, [], ◌∷◌, ◌++◌, length, map, take, drop, get_or, refl, ap, sym, ◌∙◌, append_assoc, arith, rules, All}
use Rattle.std.specs.Prelude.{nat_le, Ok, Option}
use Rattle.std.proofs.lemmas.List.{append-nil, length-take-le, map-append, take_more}
use Rattle.std.proofs.lemmas.List.Elements.{All-head, All-tail}
use Rattle.fits_rules.specs.Class.{is_primary}
use Rattle.fits_rules.specs.Shape.{shape_of}
use Rattle.fits_rules.specs.declared.array_shape.Shape.{Shape}
use Rattle.fits_header.specs.Findings.{found_at}
use Rattle.fits_header.specs.declared.finding.Finding.{Finding}
use Rattle.fits_codes.specs.declared.code.Code.{Code}
use Rattle.fits_passing.specs.ExtensionName.{extension_name, name_codes}
use Rattle.fits_passing.specs.Findings.{hdu_findings}
use Rattle.fits_passing.specs.Hdu.{HduParts, IsHdu}
use Rattle.fits_passing.specs.declared.called.ExtensionName.{ExtensionName}
use Rattle.fits_passing.specs.declared.findings.Findings.{Findings}
use Rattle.fits_passing.proofs.ShapeLemmas.{one_primary}
use Rattle.fits_passing.specs.File.{FileParts, is_followed, IsFileOf, is_primary_hdu}
use Rattle.fits_passing.specs.Reading.{is_found, KeepsEach}
use Rattle.fits_passing.specs.Report.{found_from, found_names, in_hdu, is_repeated, name_in, names_from, report_of, trailing, trails, wrong_from, wrong_in}
use Rattle.fits_passing.specs.declared.problem.Problem.{Problem}
use Rattle.fits_passing.proofs.WalkLemmas.{each_length}

-- the class that findings tell says whether HDU h is the primary one
class_same : (h : ℕ) (primary : Bool) (shape : Shape) (u : HduParts) → is_primary_hdu h ≡ primary → IsHdu primary u → shape_of (is_primary shape.class) u.header.cards ≡ Ok shape → is_primary shape.class ≡ is_primary_hdu h
class_same h primary shape u at whole described = one_primary (is_primary shape.class) primary u.header.cards shape whole.shape described whole.described ∙ sym at

-- what is found of HDU h, and of its name, is wrong in it
found_same : (h : ℕ) (primary repeated : Bool) (it : Findings) (u : HduParts) → is_primary_hdu h ≡ primary → IsHdu primary u → is_found it u
    → map (in_hdu h) (found_at 0 (it.whole ++ name_codes repeated) ++ it.of_cards.items) ≡ wrong_in h u repeated (shape_of (is_primary_hdu h) u.header.cards)
unfolding hdu_findings
found_same h primary repeated it u at whole found =
    let described : shape_of (is_primary_hdu h) u.header.cards ≡ Ok found.shape = ap (λ b. shape_of b u.header.cards) (sym (class_same h primary found.shape u at whole found.described)) ∙ found.described in
    rw (described, found.codes, found.cards) refl

-- and it is called so
name_same : (h : ℕ) (primary : Bool) (it : Findings) (u : HduParts) → is_primary_hdu h ≡ primary → IsHdu primary u → is_found it u → it.name ≡ name_in h u
name_same h primary it u at whole found = found.called ∙ ap (λ b. extension_name b u.header.cards) (class_same h primary found.shape u at whole found.described)

-- both, among all names
named_same : (names : List (Option ExtensionName)) (h : ℕ) (primary : Bool) (it : Findings) (u : HduParts) → is_primary_hdu h ≡ primary → IsHdu primary u → is_found it u
    → map (in_hdu h) (found_at 0 (it.whole ++ name_codes (is_repeated names it.name)) ++ it.of_cards.items) ≡ wrong_in h u (is_repeated names (name_in h u)) (shape_of (is_primary_hdu h) u.header.cards)
named_same names h primary it u at whole found =
    found_same h primary (is_repeated names it.name) it u at whole found
    ∙ ap (λ name. wrong_in h u (is_repeated names name) (shape_of (is_primary_hdu h) u.header.cards)) (name_same h primary it u at whole found)

-- HDU 2 and those after it aren't the primary one
past_one : (n : ℕ) → 1 < n → nat_le n 1 ≡ false
past_one n l = search rules

-- what extensions are called
extensions_named : (k : ℕ) (found : List Findings) (us : List HduParts) → KeepsEach is_found found us → All (IsHdu false) us → found_names found ≡ names_from (2 + k) us
extensions_named k [] [] p q = refl
extensions_named k [] (u ∷ us) p q = absurd p
extensions_named k (it ∷ found) [] p q = absurd p
extensions_named k (it ∷ found) (u ∷ us) p q =
    let next : 2 + (k + 1) ≡ 2 + k + 1 = omega arith in
    ap (λ name. name ∷ found_names found) (name_same (2 + k) false it u (past_one (2 + k) (omega arith)) (All-head (IsHdu false) u us q) p.0)
    ∙ ap (λ names. name_in (2 + k) u ∷ names) (extensions_named (k + 1) found us p.1 (All-tail (IsHdu false) u us q) ∙ ap (λ n. names_from n us) next)

-- what the primary HDU and extensions are called
front_named : (found : List Findings) (us : List HduParts) → All (IsHdu true) (take 1 us) → All (IsHdu false) (drop 1 us) → KeepsEach is_found found us → found_names found ≡ names_from 1 us
front_named [] [] first others p = refl
front_named [] (u ∷ us) first others p = absurd p
front_named (it ∷ found) [] first others p = absurd p
front_named (it ∷ found) (u ∷ us) first others p =
    ap (λ name. name ∷ found_names found) (name_same 1 true it u refl (first 0 u (omega arith)) p.0) ∙ ap (λ names. name_in 1 u ∷ names) (extensions_named 0 found us p.1 others)

-- what is found of extensions
extensions_found : (names : List (Option ExtensionName)) (k : ℕ) (found : List Findings) (us : List HduParts) → KeepsEach is_found found us → All (IsHdu false) us → found_from names (2 + k) found ≡ wrong_from names (2 + k) us
extensions_found names k [] [] p q = refl
extensions_found names k [] (u ∷ us) p q = absurd p
extensions_found names k (it ∷ found) [] p q = absurd p
extensions_found names k (it ∷ found) (u ∷ us) p q =
    let next : 2 + k + 1 ≡ 2 + (k + 1) = omega arith in
    let first = named_same names (2 + k) false it u (past_one (2 + k) (omega arith)) (All-head (IsHdu false) u us q) p.0 in
    ap (λ t. t ++ found_from names (2 + k + 1) found) first
    ∙ ap (λ t. wrong_in (2 + k) u (is_repeated names (name_in (2 + k) u)) (shape_of (is_primary_hdu (2 + k)) u.header.cards) ++ t)
    (ap (λ n. found_from names n found) next ∙ extensions_found names (k + 1) found us p.1 (All-tail (IsHdu false) u us q) ∙ ap (λ n. wrong_from names n us) (sym next))

-- what is found of the primary HDU and of extensions
front_found : (names : List (Option ExtensionName)) (found : List Findings) (us : List HduParts) → All (IsHdu true) (take 1 us) → All (IsHdu false) (drop 1 us) → KeepsEach is_found found us → found_from names 1 found ≡ wrong_from names 1 us
front_found names [] [] first others p = refl
front_found names [] (u ∷ us) first others p = absurd p
front_found names (it ∷ found) [] first others p = absurd p
front_found names (it ∷ found) (u ∷ us) first others p =
    ap (λ t. t ++ found_from names 2 found) (named_same names 1 true it u refl (first 0 u (omega arith)) p.0)
    ∙ ap (λ t. wrong_in 1 u (is_repeated names (name_in 1 u)) (shape_of (is_primary_hdu 1) u.header.cards) ++ t) (extensions_found names 0 found us p.1 others)

-- so the report is what was found
pub report_found : (found : List Findings) (bytes : List ℕ) (file : FileParts) → IsFileOf bytes file → KeepsEach is_found found file.hdus → found_from (found_names found) 1 found ++ trailing (length found + 1) file.tail ≡ report_of file
unfolding report_of
report_found found bytes file p each =
    ap (λ names. found_from names 1 found ++ trailing (length found + 1) file.tail) (front_named found file.hdus p.front.first p.front.others each)
    ∙ ap (λ t. t ++ trailing (length found + 1) file.tail) (front_found (names_from 1 file.hdus) found file.hdus p.front.first p.front.others each)
    ∙ ap (λ n. wrong_from (names_from 1 file.hdus) 1 file.hdus ++ trailing (n + 1) file.tail) (each_length is_found found file.hdus each)

-- nothing trails where no bytes follow
pub trailing_none : (h : ℕ) (tail : List ℕ) → is_followed tail ≡ false → trailing h tail ≡ []
trailing_none h [] e = refl
trailing_none h (byte ∷ bytes) e = cc

-- where some do, HDU h would be there
pub trailing_some : (h : ℕ) (tail : List ℕ) → is_followed tail ≡ true → trailing h tail ≡ trails h ∷ []
trailing_some h [] e = cc
trailing_some h (byte ∷ bytes) e = refl

-- a report to which nothing is added where no bytes follow the last HDU
pub trailing_no : (report : List Problem) (h : ℕ) (tail : List ℕ) → is_followed tail ≡ false → report ≡ report ++ trailing h tail
trailing_no report h tail none = sym (append-nil report) ∙ ap (λ t. report ++ t) (sym (trailing_none h tail none))

-- and the problem where some do
pub trailing_yes : (report : List Problem) (h : ℕ) (tail : List ℕ) → is_followed tail ≡ true → report ++ trails h ∷ [] ≡ report ++ trailing h tail
trailing_yes report h tail some = ap (λ t. report ++ t) (sym (trailing_some h tail some))

-- so the report is what is listed
pub report_listed : (found : List Findings) (bytes : List ℕ) (file : FileParts) (h : ℕ) (listed report : List Problem) → IsFileOf bytes file → KeepsEach is_found found file.hdus → h ≡ length found + 1 → listed ≡ found_from (found_names found) 1 found → report ≡ listed ++ trailing h file.tail → report ≡ report_of file
report_listed found bytes file h listed report p each at first all = all ∙ ap (λ t. t ++ trailing h file.tail) first ∙ ap (λ n. found_from (found_names found) 1 found ++ trailing n file.tail) at ∙ report_found found bytes file p each

-- what is found of one HDU
abbrev pub found_in : List (Option ExtensionName) → ℕ → Findings → List Problem
found_in names h it = map (in_hdu h) (found_at 0 (it.whole ++ name_codes (is_repeated names it.name)) ++ it.of_cards.items)

-- what is found of HDUs, and of more
found_from-append : (names : List (Option ExtensionName)) (h : ℕ) (xs ys : List Findings) → found_from names h (xs ++ ys) ≡ found_from names h xs ++ found_from names (h + length xs) ys
found_from-append names h [] ys = ap (λ n. found_from names n ys) (omega arith)
found_from-append names h (x ∷ xs) ys =
    let number : h + 1 + length xs ≡ h + length (x ∷ xs) = omega arith in
    ap (λ t. found_in names h x ++ t) (found_from-append names (h + 1) xs ys ∙ ap (λ n. found_from names (h + 1) xs ++ found_from names n ys) number)
    ∙ sym (append_assoc (found_in names h x) (found_from names (h + 1) xs) (found_from names (h + length (x ∷ xs)) ys))

-- what is found of one HDU more
found_more : (names : List (Option ExtensionName)) (found : List Findings) (i : ℕ) (it : Findings) → i < length found → it ≡ get_or found i it → found_from names 1 (take (i + 1) found) ≡ found_from names 1 (take i found) ++ found_in names (i + 1) it
found_more names found i it l e =
    let number : 1 + length (take i found) ≡ i + 1 = omega (arith, length-take-le i found (omega (arith, l))) in
    ap (found_from names 1) (take_more found i it l ∙ ap (λ x. take i found ++ x ∷ []) (sym e))
    ∙ found_from-append names 1 (take i found) (it ∷ [])
    ∙ ap (λ n. found_from names 1 (take i found) ++ (found_in names n it ++ [])) number
    ∙ ap (λ t. found_from names 1 (take i found) ++ t) (append-nil (found_in names (i + 1) it))

-- so one more HDU is listed
pub listed_more : (found : List Findings) (i : ℕ) (it : Findings) (repeated : Bool) (before after : List Problem) → i < length found → it ≡ get_or found i it → repeated ≡ is_repeated (found_names found) it.name → before ≡ found_from (found_names found) 1 (take i found)
    → after ≡ before ++ map (in_hdu (i + 1)) (found_at 0 (it.whole ++ name_codes repeated) ++ it.of_cards.items) → after ≡ found_from (found_names found) 1 (take (i + 1) found)
listed_more found i it repeated before after l e again so_far is = is ∙ (rw (so_far, again) (sym (found_more (found_names found) found i it l e)))

-- one more is listed
pub mapped_more : {X Y : Type 0} (f : X → Y) (start report new : List Y) (xs : List X) (i : ℕ) (d : X) → report ≡ start ++ map f (take i xs) → new ≡ report ++ f (get_or xs i d) ∷ [] → i < length xs → new ≡ start ++ map f (take (i + 1) xs)
mapped_more f start report new xs i d before is l =
    let x = get_or xs i d in
    is ∙ ap (λ t. t ++ f x ∷ []) before ∙ append_assoc start (map f (take i xs)) (f x ∷ [])
    ∙ ap (λ t. start ++ t) (sym (ap (map f) (take_more xs i d l) ∙ map-append f (take i xs) (x ∷ [])))

-- and one code more
pub codes_more : (h : ℕ) (start report new : List Problem) (codes : List Code) (i : ℕ) (d : Code) → report ≡ start ++ map (in_hdu h) (found_at 0 (take i codes)) → new ≡ report ++ in_hdu h (record { place = 0; code = get_or codes i d }) ∷ [] → i < length codes
    → new ≡ start ++ map (in_hdu h) (found_at 0 (take (i + 1) codes))
codes_more h start report new codes i d before is l =
    let code = get_or codes i d in
    let at_0 : Code → Finding = λ it. record { place = 0; code = it } in
    is ∙ ap (λ t. t ++ in_hdu h (at_0 code) ∷ []) before ∙ append_assoc start (map (in_hdu h) (found_at 0 (take i codes))) (in_hdu h (at_0 code) ∷ [])
    ∙ ap (λ t. start ++ t) (sym (ap (λ t. map (in_hdu h) (found_at 0 t)) (take_more codes i d l)
    ∙ (ap (map (in_hdu h)) (map-append at_0 (take i codes) (code ∷ [])) ∙ map-append (in_hdu h) (found_at 0 (take i codes)) (found_at 0 (code ∷ [])))))

pub ruleset trailing_steps = (trailing_no, trailing_yes)
