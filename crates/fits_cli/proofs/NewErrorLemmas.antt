-- What new errors are, and how they are found.
use Rattle.std.proofs.Common.{◌≡◌, ℕ, suc, ◌+◌, ◌-◌, ◌<◌, ◌≤◌, ◌==◌, ◌&&◌, Bool, List, [], ◌∷◌, ◌++◌, length, take, set, get_or, refl, ap, sym, subst, ◌∙◌, arith, true, false, cond, inl, inr}
use Rattle.std.specs.Prelude.{AllPairs, not, nat_lt, count_by}
use Rattle.std.specs.List.{filter, list_any, All}
use Rattle.std.specs.List.Sorted.{IsPartitionedBy}
use Rattle.std.proofs.lemmas.Bool.{and_parts, both_ways, cases_eq, cases_lt, cases_Bool, eq-eqb, eqb-true, le-ltb, ne_eqb, not-false}
use Rattle.std.proofs.lemmas.Bool.Decides.{nat_tests}
use Rattle.std.proofs.lemmas.List.{append-nil, get_or_default, get_or-set_other, take_all}
use Rattle.std.proofs.lemmas.Grind.{get_or-set_at}
use Rattle.std.proofs.lemmas.List.Concat.{flat_map-append}
use Rattle.std.proofs.lemmas.List.Elements.{All-head, All-tail, filter_more, filter_passes}
use Rattle.std.proofs.lemmas.List.Filters.{sum_by-filter_both}
use Rattle.std.proofs.lemmas.List.Folds.{list_any_at, list_any_none}
use Rattle.std.proofs.lemmas.List.Sums.{sum_by-append, sum_by-cons, length-filter, get_or-le-sum_by, count_by_more_yes, count_by_more_no}
use Rattle.std.proofs.lemmas.Map.Views.{any-filter_same}
use Rattle.fits_codes.specs.Code.{is_error, number}
use Rattle.fits_codes.specs.declared.code.Code.{Code}
use Rattle.fits_codes.specs.declared.code.Code.TheVariants.{NotText}
use Rattle.fits_passing.specs.declared.problem.Problem.{Problem}
use Rattle.fits_passing.specs.Report.{IsListedBefore}
use Rattle.fits_tell.specs.Report.{errors_in, lists, warnings_in}
use Rattle.fits_tell.specs.declared.level.Level.{Level}
use Rattle.fits_tell.specs.declared.level.Level.TheVariants.{All as AllOfThem, Errors, Quiet}
use Rattle.fits_cli.specs.NewErrors.{count_of, has_more, HasMoreErrors, is_listed_before, is_new, is_of_code, is_same, new_error_line, new_error_lines, new_errors, stands_in, AreCounts}
use Rattle.fits_tell.proofs.ReportLemmas.{errors-few, others_warn}

-- a problem stands before another where the test says so
before-true : (a b : Problem) → IsListedBefore a b → is_listed_before a b ≡ true
before-true a b (inl hdu) = grind (arith, nat_tests, hdu)
before-true a b (inr (hdu, inl place)) = grind (arith, nat_tests, hdu, place)
before-true a b (inr (hdu, inr (place, code))) = grind (arith, nat_tests, hdu, place, code)

-- what stands before something comes before all that stands before a third
before-through : (a b c : Problem) → is_listed_before a b ≡ true → is_listed_before b c ≡ true → is_listed_before a c ≡ true
before-through a b c h k = grind (arith, nat_tests, h, k)

-- a report in order is parted at every problem
pub report-parted : (report : List Problem) (it : Problem) → AllPairs IsListedBefore report → IsPartitionedBy (λ other. is_listed_before other it) report
report-parted report it ordered i j d up within h =
    elim (cases_lt i j) [
      | inl less ↦ before-through (get_or report i d) (get_or report j d) it (before-true (get_or report i d) (get_or report j d) (ordered i j d less within)) h
      | inr same ↦ subst (λ k. is_listed_before (get_or report k d) it ≡ true) {x = j} (omega arith) h
    ]

-- a problem that stands before another isn't it
before-differs : (a b : Problem) → is_listed_before a b ≡ true → is_same b a ≡ false
before-differs a b h = grind (arith, nat_tests, h)

-- nor is one that it stands before
behind-differs : (a b c : Problem) → is_listed_before a b ≡ true → is_listed_before a c ≡ false → is_same c b ≡ false
behind-differs a b c h k = grind (arith, nat_tests, h, k)

-- where a report is parted
abbrev pub IsParted : List Problem → Problem → ℕ → Type 0
IsParted report it index =
    ((k : ℕ) (d : Problem) → 0 ≤ k → k < index → is_listed_before (get_or report k d) it ≡ true)
    × ((k : ℕ) (d : Problem) → index ≤ k → k < length report → is_listed_before (get_or report k d) it ≡ false)

-- the one there tells whether a problem stands in the report
pub stands-at : (report : List Problem) (it : Problem) (index : ℕ) (d : Problem) → AllPairs IsListedBefore report → IsParted report it index → index < length report → is_same it (get_or report index d) ≡ stands_in report it
stands-at report it index d ordered parted l =
    elim (cases_Bool (is_same it (get_or report index d))) [
      | inl e ↦ e ∙ sym (list_any_at (is_same it) report index d l e)
      | inr e ↦ e ∙ sym (list_any_none (is_same it) report (λ k f m. others k f m e))
    ]
  where
    others : (k : ℕ) (f : Problem) → k < length report → is_same it (get_or report index d) ≡ false → is_same it (get_or report k f) ≡ false
    others k f m e =
        elim (cases_lt k index) [
          | inl less ↦ before-differs (get_or report k f) it (parted.0 k f (omega arith) less)
          | inr from ↦ elim (cases_lt index k) [
            | inl more ↦ behind-differs (get_or report index f) (get_or report k f) it (before-true (get_or report index f) (get_or report k f) (ordered index k f more m)) (parted.1 index f (omega arith) l)
            | inr same ↦
                let here : k ≡ index = omega (arith, from, same) in
                let one : get_or report index f ≡ get_or report index d = get_or_default report index f d l in
                rw (here, one) e
          ]
        ]

-- where all come before it, it doesn't
pub stands-nowhere : (report : List Problem) (it : Problem) (index : ℕ) → IsParted report it index → length report ≤ index → false ≡ stands_in report it
stands-nowhere report it index parted l = sym (list_any_none (is_same it) report (λ k d m. before-differs (get_or report k d) it (parted.0 k d (omega arith) (omega (arith, l, m)))))

-- a problem of a code of which there are more is new where it didn't stand before
pub new_where : (level : Level) (before after : List Problem) (it : Problem) (stood : Bool) → has_more level before after it.code ≡ true → stood ≡ stands_in before it → not stood ≡ is_new level before after it
new_where level before after it stood more is = rw (more, is) refl

-- others aren't
pub not_new : (level : Level) (before after : List Problem) (it : Problem) → has_more level before after it.code ≡ false → false ≡ is_new level before after it
not_new level before after it more = rw more refl

-- numbers of codes are small
number-below : (code : Code) → number code < 27
number-below NotText = omega arith
number-below code = omega arith

-- one more problem is counted
pub counts-more : (report : List Problem) (i n : ℕ) (d : Problem) (counts : List ℕ) → i < length report → n ≡ number (get_or report i d).code → length counts ≡ 27 → AreCounts (take i report) counts
    → AreCounts (take (i + 1) report) (set counts n (get_or counts n 0 + 1))
counts-more report i n d counts l is size before code =
    let within : n < length counts = omega (arith, is, size, number-below (get_or report i d).code) in
    elim (cases_eq (number code) n) [
      | inl same ↦
          let here : get_or counts n 0 ≡ count_of code (take i report) = ap (λ k. get_or counts k 0) (sym same) ∙ before code in
          get_or-set_at counts n (number code) (get_or counts n 0 + 1) 0 same within
          ∙ (ap (λ k. k + 1) here ∙ sym (count_by_more_yes (is_of_code code) report i d l (eq-eqb (number (get_or report i d).code) (number code) (sym is ∙ sym same))))
      | inr other ↦
          get_or-set_other counts n (number code) (get_or counts n 0 + 1) 0 other
          ∙ (before code ∙ sym (count_by_more_no (is_of_code code) report i d l (ne_eqb (number (get_or report i d).code) (number code) (λ e. other (sym e ∙ sym is)))))
    ]

-- one more that passes a test
filter_one_more : (p : Problem → Bool) (xs : List Problem) (i : ℕ) (d : Problem) → i < length xs → p (get_or xs i d) ≡ true → filter p (take (i + 1) xs) ≡ filter p (take i xs) ++ get_or xs i d ∷ []
filter_one_more p xs i d l passes = filter_more p xs i d l ∙ ap (λ b. filter p (take i xs) ++ cond b (get_or xs i d ∷ []) []) passes

-- and one that doesn't
filter_no_more : (p : Problem → Bool) (xs : List Problem) (i : ℕ) (d : Problem) → i < length xs → p (get_or xs i d) ≡ false → filter p (take (i + 1) xs) ≡ filter p (take i xs)
filter_no_more p xs i d l fails = filter_more p xs i d l ∙ (ap (λ b. filter p (take i xs) ++ cond b (get_or xs i d ∷ []) []) fails ∙ append-nil (filter p (take i xs)))

-- one more new error has its line
pub lines-new : (p : Problem → Bool) (report : List Problem) (i : ℕ) (d : Problem) (text new : List ℕ) → i < length report → p (get_or report i d) ≡ true → text ≡ new_error_lines (filter p (take i report))
    → new ≡ text ++ new_error_line (get_or report i d) → new ≡ new_error_lines (filter p (take (i + 1) report))
lines-new p report i d text new l passes before added =
    let found : List Problem = filter p (take i report) in
    added ∙ (ap (λ t. t ++ new_error_line (get_or report i d)) before
    ∙ sym (ap new_error_lines (filter_one_more p report i d l passes) ∙ (flat_map-append new_error_line found (get_or report i d ∷ []) ∙ ap (λ t. new_error_lines found ++ t) (append-nil (new_error_line (get_or report i d))))))

-- another problem has none
pub lines-old : (p : Problem → Bool) (report : List Problem) (i : ℕ) (d : Problem) (text : List ℕ) → i < length report → p (get_or report i d) ≡ false → text ≡ new_error_lines (filter p (take i report))
    → text ≡ new_error_lines (filter p (take (i + 1) report))
lines-old p report i d text l fails before = before ∙ ap new_error_lines (sym (filter_no_more p report i d l fails))

-- one more new error is counted
pub new-counted : (p : Problem → Bool) (report : List Problem) (i count : ℕ) (d : Problem) → i < length report → p (get_or report i d) ≡ true → count ≡ length (filter p (take i report)) → count + 1 ≡ length (filter p (take (i + 1) report))
new-counted p report i count d l passes before = omega (arith, before, length-filter p (take i report), length-filter p (take (i + 1) report), count_by_more_yes p report i d l passes)

-- another problem isn't
pub old-uncounted : (p : Problem → Bool) (report : List Problem) (i count : ℕ) (d : Problem) → i < length report → p (get_or report i d) ≡ false → count ≡ length (filter p (take i report)) → count ≡ length (filter p (take (i + 1) report))
old-uncounted p report i count d l fails before = before ∙ ap length (sym (filter_no_more p report i d l fails))

-- one more new problem is counted where it is an error
pub error-counted : (p : Problem → Bool) (report : List Problem) (i errors : ℕ) (d : Problem) → i < length report → p (get_or report i d) ≡ true → errors ≡ errors_in (filter p (take i report))
    → errors + cond (is_error (get_or report i d).code) 1 0 ≡ errors_in (filter p (take (i + 1) report))
error-counted p report i errors d l passes before =
    let one : Problem → ℕ = λ it. cond (is_error it.code) 1 0 in
    let grown = ap errors_in (filter_one_more p report i d l passes) in
    omega (arith, before, grown, sum_by-append one (filter p (take i report)) (get_or report i d ∷ []), sum_by-cons one (get_or report i d) [])

-- another problem isn't
pub error-uncounted : (p : Problem → Bool) (report : List Problem) (i errors : ℕ) (d : Problem) → i < length report → p (get_or report i d) ≡ false → errors ≡ errors_in (filter p (take i report)) → errors ≡ errors_in (filter p (take (i + 1) report))
error-uncounted p report i errors d l fails before = before ∙ ap errors_in (sym (filter_no_more p report i d l fails))

-- no more are errors than are new
pub few-errors : (p : Problem → Bool) (report : List Problem) (i count errors : ℕ) → count ≡ length (filter p (take i report)) → errors ≡ errors_in (filter p (take i report)) → errors ≤ count
few-errors p report i count errors counted are = omega (arith, counted, errors-few (filter p (take i report)) errors are)

-- the others are warnings
pub other-warnings : (p : Problem → Bool) (report : List Problem) (i count errors : ℕ) → length report ≤ i → count ≡ length (filter p (take i report)) → errors ≡ errors_in (filter p (take i report)) → count - errors ≡ warnings_in (filter p report)
other-warnings p report i count errors l counted are =
    ap (λ n. n - errors) counted ∙ (others_warn (filter p (take i report)) errors are ∙ ap (λ xs. warnings_in (filter p xs)) (take_all i report l))

-- what an error is, by its number
error-is : (code : Code) → is_error code ≡ list_any (λ n. n == number code) (1 ∷ 2 ∷ 3 ∷ 5 ∷ 6 ∷ 7 ∷ 12 ∷ 14 ∷ 15 ∷ 16 ∷ 17 ∷ 18 ∷ 20 ∷ 22 ∷ [])
error-is NotText = refl
error-is code = refl

-- a level lists codes of one number alike
lists-same : (level : Level) (a b : Code) → number a ≡ number b → lists level a ≡ lists level b
lists-same AllOfThem a b same = refl
lists-same Errors a b same = error-is a ∙ (ap (λ m. list_any (λ n. n == m) (1 ∷ 2 ∷ 3 ∷ 5 ∷ 6 ∷ 7 ∷ 12 ∷ 14 ∷ 15 ∷ 16 ∷ 17 ∷ 18 ∷ 20 ∷ 22 ∷ [])) same ∙ sym (error-is b))
lists-same Quiet a b same = refl

-- codes of one number
more-same : (level : Level) (before after : List Problem) (a b : Code) → number a ≡ number b → has_more level before after a ≡ has_more level before after b
more-same level before after a b same =
    ap (λ e. e && nat_lt (count_of a before) (count_of a after)) (lists-same level a b same)
    ∙ ap (λ m. lists level b && nat_lt (count_by (λ (it : Problem). number it.code == m) before) (count_by (λ (it : Problem). number it.code == m) after)) same

-- a report without a problem
abbrev without : Problem → List Problem → List Problem
without it report = filter (λ other. not (is_same it other)) report

-- one that isn't it still stands there
still : (it other : Problem) (report : List Problem) → is_same it other ≡ false → stands_in report other ≡ true → stands_in (without it report) other ≡ true
still it other report differs stands =
    any-filter_same (is_same other) (λ x. not (is_same it x)) true (λ x h. kept x h) report ∙ stands
  where
    kept : (x : Problem) → is_same other x ≡ true → not (is_same it x) ≡ true
    kept x h = grind (arith, nat_tests, h, differs)

-- one that stands in a report is counted among those like it
alike : (code : Code) (it : Problem) (report : List Problem) → is_of_code code it ≡ true → stands_in report it ≡ true → 0 < count_of code (filter (is_same it) report)
alike code it [] own stands = absurd (cc)
alike code it (x ∷ report) own stands =
    elim (cases_Bool (is_same it x)) [
      | inl e ↦ rw e (rw (sum_by-cons (λ y. cond (is_of_code code y) 1 0) x (filter (is_same it) report), of_it x e) (omega arith))
      | inr e ↦ rw e (alike code it report own (rw e at stands))
    ]
  where
    of_it : (x : Problem) → is_same it x ≡ true → is_of_code code x ≡ true
    of_it x e = grind (arith, nat_tests, own, e)

-- without it there are fewer
fewer : (code : Code) (it : Problem) (report : List Problem) → is_of_code code it ≡ true → stands_in report it ≡ true → count_of code (without it report) < count_of code report
fewer code it report own stands =
    omega (arith, alike code it report own stands, sum_by-filter_both (is_same it) (λ other. not (is_same it other)) (λ x. refl) (λ y. cond (is_of_code code y) 1 0) report)

-- if all problems of a code stood before, there are no more of them
no_more : (code : Code) (before after : List Problem) → AllPairs IsListedBefore after → All (λ x. is_of_code code x ≡ true → stands_in before x ≡ true) after → count_of code after ≤ count_of code before
no_more code before [] ordered stood = omega arith
no_more code before (x ∷ after) ordered stood =
    elim (cases_Bool (is_of_code code x)) [
      | inl own ↦
          let here = All-head (λ y. is_of_code code y ≡ true → stands_in before y ≡ true) x after stood own in
          let less = no_more code (without x before) after others (λ k d l is. still x (get_or after k d) before (apart k d l) (rest k d l is)) in
          rw (sum_by-cons (λ y. cond (is_of_code code y) 1 0) x after, own) (omega (arith, less, fewer code x before own here))
      | inr other ↦ rw (sum_by-cons (λ y. cond (is_of_code code y) 1 0) x after, other) (omega (arith, no_more code before after others rest))
    ]
  where
    others : AllPairs IsListedBefore after
    others i j d l m = ordered (suc i) (suc j) d (omega (arith, l)) (omega (arith, m))

    rest : All (λ y. is_of_code code y ≡ true → stands_in before y ≡ true) after
    rest = All-tail (λ y. is_of_code code y ≡ true → stands_in before y ≡ true) x after stood

    apart : (k : ℕ) (d : Problem) → k < length after → is_same x (get_or after k d) ≡ false
    apart k d l = flipped x (get_or after k d) (before-differs x (get_or after k d) (before-true x (get_or after k d) (ordered 0 (suc k) d (omega arith) (omega (arith, l)))))
      where
        flipped : (a b : Problem) → is_same b a ≡ false → is_same a b ≡ false
        flipped a b h = grind (arith, nat_tests, h)

-- where there are more of an error's code, some are new
code-new : (level : Level) (before after : List Problem) (code : Code) → AllPairs IsListedBefore after → has_more level before after code ≡ true → 0 < length (new_errors level before after)
unfolding new_errors
code-new level before after code ordered more =
    elim (cases_lt 0 (length (filter (is_new level before after) after))) [
      | inl some ↦ some
      | inr none ↦ absurd (both_ways (has_more level before after code) (fewer_or_same none) more)
    ]
  where
    none_new : length (filter (is_new level before after) after) ≤ 0 → (k : ℕ) (d : Problem) → k < length after → is_new level before after (get_or after k d) ≡ false
    none_new none k d l =
        one_if (is_new level before after (get_or after k d)) (omega (arith, none, length-filter (is_new level before after) after, get_or-le-sum_by (λ x. cond (is_new level before after x) 1 0) after k d l))
      where
        one_if : (b : Bool) → cond b 1 0 ≤ 0 → b ≡ false
        one_if true h = absurd (omega (arith, h))
        one_if false h = refl

    fewer_or_same : length (filter (is_new level before after) after) ≤ 0 → has_more level before after code ≡ false
    fewer_or_same none =
        let le = no_more code before after ordered (λ k d l own. stood_of (get_or after k d) own (none_new none k d l)) in
        no_error (lists level code) (le-ltb (count_of code before) (count_of code after) le)
      where
        no_error : (b : Bool) {c : Bool} → c ≡ false → (b && c) ≡ false
        no_error true h = h
        no_error false h = refl

        stood_of : (x : Problem) → is_of_code code x ≡ true → is_new level before after x ≡ false → stands_in before x ≡ true
        stood_of x own old =
            let more_too : has_more level before after x.code ≡ true = more-same level before after x.code code (eqb-true (number x.code) (number code) own) ∙ more in
            not-false (stands_in before x) (rw more_too at old)

-- so they are where there are more of some error
pub more-new : (level : Level) (before after : List Problem) → AllPairs IsListedBefore after → HasMoreErrors level before after → 0 < length (new_errors level before after)
more-new level before after ordered more = code-new level before after more.0 ordered more.1

-- of the code of a new error there are more
pub new-more : (level : Level) (before after : List Problem) → 0 < length (new_errors level before after) → HasMoreErrors level before after
unfolding new_errors
new-more level before after some = first (filter (is_new level before after) after) (filter_passes (is_new level before after) after) some
  where
    first : (found : List Problem) → All (λ x. is_new level before after x ≡ true) found → 0 < length found → HasMoreErrors level before after
    first [] all some = absurd (omega (arith, some))
    first (x ∷ found) all some = (x.code, (and_parts (has_more level before after x.code) (not (stands_in before x)) (All-head (λ y. is_new level before after y ≡ true) x found all)).0)

-- where no problem counts, none of a report is new
none_listed : (before after report : List Problem) → filter (is_new Quiet before after) report ≡ []
none_listed before after [] = refl
none_listed before after (x ∷ report) = none_listed before after report

-- so there are no new ones
pub none_quiet : (before after : List Problem) → new_errors Quiet before after ≡ []
unfolding new_errors
none_quiet before after = none_listed before after after

-- where there are more of some, problems count
pub more_counts : (level : Level) (before after : List Problem) → HasMoreErrors level before after → level ≡ Quiet → ⊥
more_counts AllOfThem before after more quiet = absurd (cc)
more_counts Errors before after more quiet = absurd (cc)
more_counts Quiet before after more quiet = absurd (let e : false ≡ true = more.1 in cc)
