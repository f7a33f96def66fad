-- The table of names: what one name more or fewer leaves of it.
use Rattle.std.proofs.Common.{◌≡◌, ℕ, ◌+◌, ◌-◌, ◌<◌, ◌≤◌, Bool, true, false, cond, not, true≢false, List, [], ◌∷◌, ◌++◌, length, get_or, drop, set, refl, ap, sym, subst, ◌∙◌, arith, inl, inr, Option, None, Some, zero, suc}
use Rattle.std.specs.Prelude.{nat_le, nat_lt, ◌||◌}
use Rattle.std.specs.Cmp.{IsEquivalence}
use Rattle.std.specs.List.{list_any, remove, slice_get, AllByRecursion, IsDistinct}
use Rattle.std.specs.Map.{keys_of, lookup}
use Rattle.std.specs.Option.{is_some, option_map, unwrap_or, IsSome}
use Rattle.std.proofs.lemmas.List.{drop_more, map-append, set-get_or}
use Rattle.std.proofs.lemmas.Map.Entries.{length-keys_of, lookup_from_place}
use Rattle.std.proofs.lemmas.Option.{slice_get-get_or, slice_get-map, slice_get_within}
use Rattle.std.proofs.lemmas.Map.Made.{length-le_from_is_member}
use Rattle.std.proofs.lemmas.Map.Keys.{IsDistinct-cons, IsDistinct-head, IsDistinct-push, IsDistinct-tail}
use Rattle.indexmap.proofs.SetLemmas.{map-remove}
use Rattle.indexmap.specs.IndexMap.{set_value_at}
use Rattle.fits_passing.specs.ExtensionName.{is_same_name}
use Rattle.fits_passing.specs.declared.called.ExtensionName.{ExtensionName}
use Rattle.fits_session.specs.NameTable.{moved}
use Rattle.fits_passing.specs.NameCounts.{number_in, said_of, Enters, IsTableOf, PointsAt, TellsOf}
use Rattle.fits_passing.specs.Report.{called_count, is_repeated}
use Rattle.fits_session.proofs.PlaceLemmas.{get_before, get_behind}
use Rattle.fits_passing.proofs.NameLemmas.{count_called, count_other, name_itself, other_way, same_name, same_or}
use Rattle.fits_passing.proofs.NameCountLemmas.{number_told, told_more}

-- whether two names are the same is an equivalence
pub same_laws : IsEquivalence is_same_name
same_laws = record {
  refl = name_itself;
  symm = λ x y. elim (same_or x y) [
    | inl same ↦ let e : x ≡ y = same_name x y same in same ∙ sym (ap (λ (it : ExtensionName). is_same_name y it) e ∙ name_itself y)
    | inr not ↦ not ∙ sym (other_way x y not)
  ];
  congr = λ x y z p. ap (λ (it : ExtensionName). is_same_name it z) (same_name x y p);
}

-- and one that has one fewer
pub told_fewer : (names : List (Option ExtensionName)) (es fs : List (ExtensionName × ℕ)) (name : ExtensionName) (left : Option ℕ) → TellsOf (Some name ∷ names) es → left ≡ said_of (number_in es name - 1)
    → ((q : ExtensionName) → lookup (is_same_name q) fs ≡ cond (is_same_name name q) left (lookup (is_same_name q) es)) → TellsOf names fs
told_fewer names es fs name left told is puts q =
    elim (same_or name q) [
      | inl same ↦
          let e : name ≡ q = same_name name q same in
          let count : called_count name (Some name ∷ names) ≡ suc (called_count name names) = count_called name (Some name) names (name_itself name) in
          let now : number_in es name - 1 ≡ called_count name names = omega (arith, number_told (Some name ∷ names) es name told, count) in
          puts q ∙ ap (λ b. cond b left (lookup (is_same_name q) es)) same ∙ is ∙ ap said_of (now ∙ ap (λ (it : ExtensionName). called_count it names) e)
      | inr not ↦
          puts q ∙ ap (λ b. cond b left (lookup (is_same_name q) es)) not ∙ told q ∙ ap said_of (count_other q (Some name) names (other_way name q not))
    ]

-- a number above 0 is said
pub said_some : (n : ℕ) → 0 < n → Some n ≡ said_of n
said_some zero p = absurd (omega (arith, p))
said_some (suc n) p = refl

-- an entry that is read is the one there
pub key_read : (es : List (ExtensionName × ℕ)) (at : ℕ) (d : ExtensionName × ℕ) → at < length es → slice_get (keys_of es) at ≡ Some (get_or es at d).0
key_read es at d within = slice_get-map (λ (it : ExtensionName × ℕ). it.0) es at ∙ ap (option_map (λ (it : ExtensionName × ℕ). it.0)) (slice_get-get_or es at d within)

-- a name that is still told of isn't the one that went
pub another_place : (es fs : List (ExtensionName × ℕ)) (place at : ℕ) (name other : ExtensionName) → slice_get (keys_of es) place ≡ Some name → lookup (is_same_name name) fs ≡ None → slice_get (keys_of es) at ≡ Some other → IsSome (lookup (is_same_name other) fs)
    → at ≡ place → ⊥
another_place es fs place at name other there gone stands found is =
    let both : Some other ≡ Some name = sym stands ∙ ap (slice_get (keys_of es)) is ∙ there in
    let same : other ≡ name = cc in
    let none : lookup (is_same_name other) fs ≡ None = ap (λ (it : ExtensionName). lookup (is_same_name it) fs) same ∙ gone in
    true≢false (sym (subst IsSome none found))

-- the entry that is read at the place of a name
pub entry_read : (es : List (ExtensionName × ℕ)) (place : ℕ) (it : ExtensionName × ℕ) (name : ExtensionName) → it ≡ get_or es place it → slice_get (keys_of es) place ≡ Some name → (slice_get es place ≡ Some it) × (it.0 ≡ name)
entry_read es place it name read there =
    let within : place < length es = subst (λ n. place < n) (length-keys_of es) (slice_get_within (keys_of es) place name there) in
    let at : slice_get es place ≡ Some it = slice_get-get_or es place it within ∙ ap (λ (e : ExtensionName × ℕ). Option.Some e) (sym read) in
    let key : Some it.0 ≡ Some name = sym (slice_get-map (λ (e : ExtensionName × ℕ). e.0) es place ∙ ap (option_map (λ (e : ExtensionName × ℕ). e.0)) at) ∙ there in
    (at, cc)

-- its number is that of the name
pub number_read : (es : List (ExtensionName × ℕ)) (place : ℕ) (it : ExtensionName × ℕ) (name : ExtensionName) → IsDistinct is_same_name (keys_of es) → it ≡ get_or es place it → slice_get (keys_of es) place ≡ Some name → it.1 ≡ number_in es name
number_read es place it name once read there =
    let q = entry_read es place it name read there in
    sym (ap (λ o. unwrap_or o 0) (lookup_from_place same_laws es place name it.1 once (q.0 ∙ ap (λ (k : ExtensionName). Option.Some (k, it.1)) q.1)))

-- what holds of all names holds of one of them
all_at : (P : ExtensionName → Type 0) (keys : List ExtensionName) (i : ℕ) (name : ExtensionName) → AllByRecursion P keys → slice_get keys i ≡ Some name → P name
all_at P [] i name p there = cc
all_at P (key ∷ keys) zero name p there = let same : key ≡ name = cc in subst P same p.0
all_at P (key ∷ keys) (suc i) name p there = all_at P keys i name p.1 there

-- where all names are others nothing is said of a name
apart_none : (es : List (ExtensionName × ℕ)) (name : ExtensionName) → AllByRecursion (λ other. is_same_name name other ≡ false) (keys_of es) → lookup (is_same_name name) es ≡ None
apart_none [] name p = refl
apart_none (e ∷ es) name p = ap (λ b. cond b (Option.Some e.1) (lookup (is_same_name name) es)) p.0 ∙ apart_none es name p.1

-- what is said of a name, if another name before it or not
before : {X : Type 0} (a b : Bool) (x y z : Option X) → (a ≡ true → b ≡ false) → cond a x (cond b y z) ≡ cond b y (cond a x z)
before true true x y z apart = absurd (true≢false (apart refl))
before true false x y z apart = refl
before false b x y z apart = refl

-- two names that are apart aren't both the same as a third
apart_from : (name other q : ExtensionName) → is_same_name other name ≡ false → is_same_name q other ≡ true → is_same_name name q ≡ false
apart_from name other q apart same = ap (is_same_name name) (same_name q other same) ∙ other_way other name apart

-- where nothing is said of a name the first is another, and nothing is said of it by the rest
none_first : (es : List (ExtensionName × ℕ)) (e : ExtensionName × ℕ) (name : ExtensionName) → lookup (is_same_name name) (e ∷ es) ≡ None → (is_same_name name e.0 ≡ false) × (lookup (is_same_name name) es ≡ None)
none_first es e name p = by (is_same_name name e.0) p
  where
    by : (b : Bool) → cond b (Option.Some e.1) (lookup (is_same_name name) es) ≡ None → (b ≡ false) × (lookup (is_same_name name) es ≡ None)
    by true none = cc
    by false none = (refl, none)

-- what is said of each name where one has another number
looked_set : (es : List (ExtensionName × ℕ)) (place v : ℕ) (name q : ExtensionName) → IsDistinct is_same_name (keys_of es) → slice_get (keys_of es) place ≡ Some name → lookup (is_same_name q) (set_value_at es place v) ≡ cond (is_same_name name q) (Some v) (lookup (is_same_name q) es)
looked_set [] place v name q once there = cc
looked_set (e ∷ es) zero v name q once there =
    let same : e.0 ≡ name = cc in
    let alike : is_same_name q e.0 ≡ is_same_name name q = same_laws.symm q e.0 ∙ ap (λ (k : ExtensionName). is_same_name k q) same in
    ap (λ b. cond b (Option.Some v) (lookup (is_same_name q) es)) alike ∙ over (is_same_name name q) (is_same_name q e.0) alike
  where
    over : (a b : Bool) → b ≡ a → cond a (Some v) (lookup (is_same_name q) es) ≡ cond a (Some v) (cond b (Some e.1) (lookup (is_same_name q) es))
    over true b p = refl
    over false b p = sym (ap (λ c. cond c (Option.Some e.1) (lookup (is_same_name q) es)) p)
looked_set (e ∷ es) (suc place) v name q once there =
    let head = IsDistinct-head is_same_name e.0 (keys_of es) once in
    ap (λ rest. cond (is_same_name q e.0) (Some e.1) rest) (looked_set es place v name q (IsDistinct-tail is_same_name e.0 (keys_of es) once) there)
    ∙ before (is_same_name q e.0) (is_same_name name q) (Some e.1) (Some v) (lookup (is_same_name q) es) (apart_from name e.0 q (all_at (λ other. is_same_name e.0 other ≡ false) (keys_of es) place name head there))

-- where a name comes last
looked_last : (es : List (ExtensionName × ℕ)) (name q : ExtensionName) → lookup (is_same_name name) es ≡ None → lookup (is_same_name q) (es ++ (name, 1) ∷ []) ≡ cond (is_same_name name q) (Some 1) (lookup (is_same_name q) es)
looked_last [] name q none = ap (λ b. cond b (Option.Some 1) None) (same_laws.symm q name)
looked_last (e ∷ es) name q none =
    let apart = none_first es e name none in
    ap (λ rest. cond (is_same_name q e.0) (Some e.1) rest) (looked_last es name q apart.1)
    ∙ before (is_same_name q e.0) (is_same_name name q) (Some e.1) (Some 1) (lookup (is_same_name q) es) (apart_from name e.0 q (other_way name e.0 apart.0))

-- and where one goes
looked_gone : (es : List (ExtensionName × ℕ)) (place : ℕ) (name q : ExtensionName) → IsDistinct is_same_name (keys_of es) → slice_get (keys_of es) place ≡ Some name → lookup (is_same_name q) (remove es place) ≡ cond (is_same_name name q) None (lookup (is_same_name q) es)
looked_gone [] place name q once there = cc
looked_gone (e ∷ es) zero name q once there =
    let same : e.0 ≡ name = cc in
    let alike : is_same_name q e.0 ≡ is_same_name name q = same_laws.symm q e.0 ∙ ap (λ (k : ExtensionName). is_same_name k q) same in
    elim (same_or name q) [
      | inl is ↦
          let own : e.0 ≡ q = same ∙ same_name name q is in
          subst (λ (k : ExtensionName). lookup (is_same_name k) es ≡ None) own (apart_none es e.0 (IsDistinct-head is_same_name e.0 (keys_of es) once)) ∙ sym (ap (λ b. cond b None (lookup (is_same_name q) (e ∷ es))) is)
      | inr not ↦ sym (ap (λ b. cond b None (lookup (is_same_name q) (e ∷ es))) not ∙ ap (λ b. cond b (Option.Some e.1) (lookup (is_same_name q) es)) (alike ∙ not))
    ]
looked_gone (e ∷ es) (suc place) name q once there =
    let head = IsDistinct-head is_same_name e.0 (keys_of es) once in
    ap (λ rest. cond (is_same_name q e.0) (Some e.1) rest) (looked_gone es place name q (IsDistinct-tail is_same_name e.0 (keys_of es) once) there)
    ∙ before (is_same_name q e.0) (is_same_name name q) (Some e.1) None (lookup (is_same_name q) es) (apart_from name e.0 q (all_at (λ other. is_same_name e.0 other ≡ false) (keys_of es) place name head there))

-- what holds of all holds of those that are left
all_left : (P : ExtensionName → Type 0) (es : List (ExtensionName × ℕ)) (place : ℕ) → AllByRecursion P (keys_of es) → AllByRecursion P (keys_of (remove es place))
all_left P [] zero p = p
all_left P [] (suc place) p = p
all_left P (e ∷ es) zero p = p.1
all_left P (e ∷ es) (suc place) p = (p.0, all_left P es place p.1)

-- so no name stands twice among those
once_left : (es : List (ExtensionName × ℕ)) (place : ℕ) → IsDistinct is_same_name (keys_of es) → IsDistinct is_same_name (keys_of (remove es place))
once_left [] zero once = once
once_left [] (suc place) once = once
once_left (e ∷ es) zero once = IsDistinct-tail is_same_name e.0 (keys_of es) once
once_left (e ∷ es) (suc place) once =
    IsDistinct-cons is_same_name e.0 (keys_of (remove es place)) (all_left (λ other. is_same_name e.0 other ≡ false) es place (IsDistinct-head is_same_name e.0 (keys_of es) once)) (once_left es place (IsDistinct-tail is_same_name e.0 (keys_of es) once))

-- another number in its place
set_is : (es : List (ExtensionName × ℕ)) (place v : ℕ) (it : ExtensionName × ℕ) → slice_get es place ≡ Some it → set es place (it.0, v) ≡ set_value_at es place v
set_is [] place v it p = cc
set_is (e ∷ es) zero v it p =
    let same : e ≡ it = cc in
    ap (λ (x : ExtensionName × ℕ). (x.0, v) ∷ es) (sym same)
set_is (e ∷ es) (suc place) v it p = ap (λ (xs : List (ExtensionName × ℕ)). e ∷ xs) (set_is es place v it p)

-- leaves the names
keys_set : (es : List (ExtensionName × ℕ)) (place v : ℕ) → keys_of (set_value_at es place v) ≡ keys_of es
keys_set [] place v = refl
keys_set (e ∷ es) zero v = refl
keys_set (e ∷ es) (suc place) v = ap (λ (keys : List ExtensionName). e.0 ∷ keys) (keys_set es place v)

-- nor where one comes last
once_last : (es : List (ExtensionName × ℕ)) (name : ExtensionName) → IsDistinct is_same_name (keys_of es) → lookup (is_same_name name) es ≡ None → IsDistinct is_same_name (keys_of (es ++ (name, 1) ∷ []))
once_last es name once none =
    subst (IsDistinct is_same_name) (sym (map-append (λ (e : ExtensionName × ℕ). e.0) es ((name, 1) ∷ []))) (IsDistinct-push same_laws (keys_of es) name once (no_key es none))
  where
    no_key : (fs : List (ExtensionName × ℕ)) → lookup (is_same_name name) fs ≡ None → list_any (is_same_name name) (keys_of fs) ≡ false
    no_key [] p = refl
    no_key (f ∷ fs) p = let apart = none_first fs f name p in ap (λ b. b || list_any (is_same_name name) (keys_of fs)) apart.0 ∙ no_key fs apart.1

-- a name that comes last stands there
key_last : (es : List (ExtensionName × ℕ)) (e : ExtensionName × ℕ) → slice_get (keys_of (es ++ e ∷ [])) (length es) ≡ Some e.0
key_last [] e = refl
key_last (x ∷ es) e = key_last es e

-- and the others stand where they stood
key_before : (es : List (ExtensionName × ℕ)) (e : ExtensionName × ℕ) (at : ℕ) (other : ExtensionName) → slice_get (keys_of es) at ≡ Some other → slice_get (keys_of (es ++ e ∷ [])) at ≡ Some other
key_before [] e at other p = cc
key_before (x ∷ es) e zero other p = p
key_before (x ∷ es) e (suc at) other p = key_before es e at other p

-- one more has a name that is there
pub enters_there : (es : List (ExtensionName × ℕ)) (place : ℕ) (it : ExtensionName × ℕ) (name : ExtensionName) → it ≡ get_or es place it → slice_get (keys_of es) place ≡ Some name → Enters es (set es place (it.0, it.1 + 1)) (Some name) (Some place)
enters_there es place it name read there =
    let new = set_is es place (it.1 + 1) it (entry_read es place it name read there).0 in
    let keys : keys_of (set es place (it.0, it.1 + 1)) ≡ keys_of es = ap (λ (fs : List (ExtensionName × ℕ)). keys_of fs) new ∙ keys_set es place (it.1 + 1) in
    record {
      table = λ names p. subst (IsTableOf (Some name ∷ names)) (sym new) (record {
        told = told_more names es (set_value_at es place (it.1 + 1)) name it.1 p.told (number_read es place it name p.once read there)
            (λ q. looked_set es place (it.1 + 1) name q p.once there);
        once = subst (IsDistinct is_same_name) (sym (keys_set es place (it.1 + 1))) p.once;
      });
      points = ap (λ ks. slice_get ks place) keys ∙ there;
      others = λ at other p. ap (λ ks. slice_get ks at) keys ∙ p;
    }

-- or one that isn't there yet
pub enters_last : (es : List (ExtensionName × ℕ)) (place : ℕ) (name : ExtensionName) → lookup (is_same_name name) es ≡ None → place ≡ length es → Enters es (es ++ (name, 1) ∷ []) (Some name) (Some place)
enters_last es place name none last = record {
  table = λ names p. record {
    told = told_more names es (es ++ (name, 1) ∷ []) name 0 p.told (sym (ap (λ o. unwrap_or o 0) none)) (λ q. looked_last es name q none);
    once = once_last es name p.once none;
  };
  points = ap (slice_get (keys_of (es ++ (name, 1) ∷ []))) last ∙ key_last es (name, 1);
  others = λ at other p. key_before es (name, 1) at other p;
}

-- one fewer has it, and others do
pub leaves_some : (es : List (ExtensionName × ℕ)) (place : ℕ) (it : ExtensionName × ℕ) (name : ExtensionName) (names : List (Option ExtensionName)) → it ≡ get_or es place it → 1 < it.1 → slice_get (keys_of es) place ≡ Some name → IsTableOf (Some name ∷ names) es → IsTableOf names (set es place (it.0, it.1 - 1))
leaves_some es place it name names read more there p =
    let new = set_is es place (it.1 - 1) it (entry_read es place it name read there).0 in
    let left : Some (it.1 - 1) ≡ said_of (number_in es name - 1) = said_some (it.1 - 1) (omega (arith, more)) ∙ ap (λ n. said_of (n - 1)) (number_read es place it name p.once read there) in
    subst (IsTableOf names) (sym new) (record {
      told = told_fewer names es (set_value_at es place (it.1 - 1)) name (Some (it.1 - 1)) p.told left
          (λ q. looked_set es place (it.1 - 1) name q p.once there);
      once = subst (IsDistinct is_same_name) (sym (keys_set es place (it.1 - 1))) p.once;
    })

-- the names stand where they stood
pub others_some : (es : List (ExtensionName × ℕ)) (place v : ℕ) (it : ExtensionName × ℕ) (name : ExtensionName) (at : ℕ) (other : ExtensionName) → it ≡ get_or es place it → slice_get (keys_of es) place ≡ Some name → slice_get (keys_of es) at ≡ Some other
    → slice_get (keys_of (set es place (it.0, v))) at ≡ Some other
others_some es place v it name at other read there stands =
    ap (λ (fs : List (ExtensionName × ℕ)). slice_get (keys_of fs) at) (set_is es place v it (entry_read es place it name read there).0) ∙ ap (λ ks. slice_get ks at) (keys_set es place v) ∙ stands

-- or nobody does, and it goes
pub leaves_none : (es : List (ExtensionName × ℕ)) (place : ℕ) (it : ExtensionName × ℕ) (name : ExtensionName) (names : List (Option ExtensionName)) → it ≡ get_or es place it → it.1 ≤ 1 → slice_get (keys_of es) place ≡ Some name → IsTableOf (Some name ∷ names) es
    → IsTableOf names (remove es place)
leaves_none es place it name names read few there p =
    let one : number_in es name - 1 ≡ 0 = omega (arith, few, number_read es place it name p.once read there) in
    record {
      told = told_fewer names es (remove es place) name None p.told (sym (ap said_of one)) (λ q. looked_gone es place name q p.once there);
      once = once_left es place p.once;
    }

-- an entry that is lent and stays leaves the table
pub lent_same : (es : List (ExtensionName × ℕ)) (place : ℕ) (it : ExtensionName × ℕ) → it ≡ get_or es place it → set es place it ≡ es
lent_same es place it read = ap (set es place) read ∙ set-get_or es place it

-- the others stand where they stood, or one nearer
pub others_none : (es : List (ExtensionName × ℕ)) (place : ℕ) (name : ExtensionName) (at : ℕ) (other : ExtensionName) → IsDistinct is_same_name (keys_of es) → slice_get (keys_of es) place ≡ Some name → slice_get (keys_of es) at ≡ Some other
    → IsSome (lookup (is_same_name other) (remove es place)) → slice_get (keys_of (remove es place)) (moved place at) ≡ Some other
others_none es place name at other once there stands found =
    let gone : lookup (is_same_name name) (remove es place) ≡ None = looked_gone es place name name once there ∙ ap (λ b. cond b None (lookup (is_same_name name) es)) (name_itself name) in
    let apart = another_place es (remove es place) place at name other there gone stands found in
    ap (λ ks. slice_get ks (moved place at)) (map-remove (λ (e : ExtensionName × ℕ). e.0) es place) ∙ by (nat_lt place at) refl apart
  where
    by : (b : Bool) → nat_lt place at ≡ b → (at ≡ place → ⊥) → slice_get (remove (keys_of es) place) (cond b (at - 1) at) ≡ Some other
    by true p apart =
        let behind : place < at = search (arith) in
        let next : suc (at - 1) ≡ at = omega (arith, behind) in
        get_behind (keys_of es) place (at - 1) (omega (arith, behind)) ∙ ap (slice_get (keys_of es)) next ∙ stands
    by false p apart =
        let far : at ≤ place = search (arith) in
        get_before (keys_of es) place at (omega (arith, far, apart)) ∙ stands

-- an HDU whose entry has its name is called so
pub same_entry : (es : List (ExtensionName × ℕ)) (entry : Option ℕ) (place : ℕ) (it : ExtensionName × ℕ) (name : ExtensionName) (was : Option ExtensionName) → entry ≡ Some place → it ≡ get_or es place it → is_same_name name it.0 ≡ true → PointsAt (keys_of es) was entry → Some name ≡ was
same_entry es entry place it name None is read same points = let none : None ≡ Some place = sym points ∙ is in cc
same_entry es entry place it name (Some other) is read same points =
    let there : slice_get (keys_of es) place ≡ Some other = subst (PointsAt (keys_of es) (Some other)) is points in
    ap (λ (k : ExtensionName). Option.Some k) (same_name name it.0 same ∙ (entry_read es place it other read there).1)

-- and one that is called so has its name there
pub told_entry : (es : List (ExtensionName × ℕ)) (entry : Option ℕ) (place : ℕ) (it : ExtensionName × ℕ) (name : ExtensionName) (now : Option ExtensionName) → entry ≡ Some place → now ≡ Some name → it ≡ get_or es place it → PointsAt (keys_of es) now entry → is_same_name name it.0 ≡ true
told_entry es entry place it name now is said read points =
    let there : slice_get (keys_of es) place ≡ Some name = rw (said, is) at points in
    ap (λ (other : ExtensionName). is_same_name name other) (entry_read es place it name read there).1 ∙ name_itself name

-- a name is repeated where its number is two or more
pub repeated_at : (names : List (Option ExtensionName)) (es : List (ExtensionName × ℕ)) (name : Option ExtensionName) (entry : Option ℕ) (place : ℕ) (it : ExtensionName × ℕ) → IsTableOf names es → PointsAt (keys_of es) name entry → entry ≡ Some place → it ≡ get_or es place it
    → nat_le 2 it.1 ≡ is_repeated names name
unfolding is_repeated
repeated_at names es None entry place it p points is read = let none : None ≡ Some place = sym points ∙ is in cc
repeated_at names es (Some name) entry place it p points is read =
    let there : slice_get (keys_of es) place ≡ Some name = subst (PointsAt (keys_of es) (Some name)) is points in
    ap (nat_le 2) (number_read es place it name p.once read there ∙ number_told names es name p.told)

-- an entry has a number
pub points_within : (names : List (Option ExtensionName)) (es : List (ExtensionName × ℕ)) (name : Option ExtensionName) (entry : Option ℕ) (place : ℕ) → PointsAt (keys_of es) name entry → entry ≡ Some place → length es ≤ place → false ≡ is_repeated names name
unfolding is_repeated
points_within names es None entry place points is past = refl
points_within names es (Some name) entry place points is past =
    let there : slice_get (keys_of es) place ≡ Some name = subst (PointsAt (keys_of es) (Some name)) is points in
    absurd (omega (arith, past, slice_get_within (keys_of es) place name there, length-keys_of es))

-- an HDU with no entry isn't called as another is
pub points_nowhere : (names : List (Option ExtensionName)) (keys : List ExtensionName) (name : Option ExtensionName) (entry : Option ℕ) → PointsAt keys name entry → entry ≡ None → false ≡ is_repeated names name
unfolding is_repeated
points_nowhere names keys None entry points is = refl
points_nowhere names keys (Some name) entry points is = absurd (subst (PointsAt keys (Some name)) is points)

-- what is looked for from a place on
pub looked_on : (es : List (ExtensionName × ℕ)) (place : ℕ) (it : ExtensionName × ℕ) (name : ExtensionName) → place < length es → it ≡ get_or es place it → is_same_name name it.0 ≡ false → lookup (is_same_name name) (drop place es) ≡ lookup (is_same_name name) (drop (place + 1) es)
looked_on es place it name within read differs =
    ap (lookup (is_same_name name)) (drop_more es place it within ∙ ap (λ (e : ExtensionName × ℕ). e ∷ drop (place + 1) es) (sym read))
    ∙ ap (λ b. cond b (Option.Some it.1) (lookup (is_same_name name) (drop (place + 1) es))) differs

-- a table has no more names than there are HDUs
pub names_within : (names : List (Option ExtensionName)) (es : List (ExtensionName × ℕ)) → IsTableOf names es → length es ≤ length names
names_within names es p =
    omega (arith, length-keys_of es, length-le_from_is_member same_laws (keys_of es) (said names) p.once (λ q member. said_there names q (told_some es names q p.told (key_found es q member))), said_few names)
  where
    said : List (Option ExtensionName) → List ExtensionName
    said [] = []
    said (None ∷ rest) = said rest
    said (Some name ∷ rest) = name ∷ said rest

    said_few : (rest : List (Option ExtensionName)) → length (said rest) ≤ length rest
    said_few [] = omega arith
    said_few (None ∷ rest) = omega (arith, said_few rest)
    said_few (Some name ∷ rest) = omega (arith, said_few rest)

    key_found : (fs : List (ExtensionName × ℕ)) (q : ExtensionName) → list_any (is_same_name q) (keys_of fs) ≡ true → IsSome (lookup (is_same_name q) fs)
    key_found [] q member = absurd (true≢false (sym member))
    key_found (f ∷ fs) q member =
        elim (same_or q f.0) [
          | inl same ↦ ap (λ b. is_some (cond b (Option.Some f.1) (lookup (is_same_name q) fs))) same
          | inr not ↦ ap (λ b. is_some (cond b (Option.Some f.1) (lookup (is_same_name q) fs))) not ∙ key_found fs q (sym (ap (λ b. b || list_any (is_same_name q) (keys_of fs)) not) ∙ member)
        ]

    told_some : (fs : List (ExtensionName × ℕ)) (rest : List (Option ExtensionName)) (q : ExtensionName) → TellsOf rest fs → IsSome (lookup (is_same_name q) fs) → 1 ≤ called_count q rest
    told_some fs rest q told found = some_count (called_count q rest) (subst IsSome (told q) found)
      where
        some_count : (n : ℕ) → IsSome (said_of n) → 1 ≤ n
        some_count zero some = absurd (true≢false (sym some))
        some_count (suc n) some = omega arith

    said_there : (rest : List (Option ExtensionName)) (q : ExtensionName) → 1 ≤ called_count q rest → list_any (is_same_name q) (said rest) ≡ true
    said_there [] q one = absurd (omega (arith, one))
    said_there (None ∷ rest) q one = said_there rest q one
    said_there (Some name ∷ rest) q one =
        elim (same_or q name) [
          | inl same ↦ ap (λ b. b || list_any (is_same_name q) (said rest)) same
          | inr not ↦ ap (λ b. b || list_any (is_same_name q) (said rest)) not ∙ said_there rest q (omega (arith, one, count_other q (Some name) rest not))
        ]
