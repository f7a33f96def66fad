-- A text with a name before each of its lines: what is told of it is the text, and it grows line by line.
use Rattle.std.proofs.Common.{◌≡◌, ℕ, zero, suc, ◌+◌, ◌-◌, ◌<◌, ◌≤◌, ◌==◌, Bool, true, false, ◌&&◌, ◌||◌, nat_le, List, [], ◌∷◌, ◌++◌, length, take, drop, slice_index_or, refl, ap, sym, subst, ◌∙◌, append_assoc, append-nil, take-append-drop, arith, Option, None, Some, IfSome, if◌then◌else◌}
use Rattle.std.proofs.lemmas.List.{length-append, length-take, length-drop, take_all, take-take}
use Rattle.std.proofs.lemmas.Bool.{false≢true, and_parts, and_from, or_parts, leb-true, le-leb, lt-ltb, eqb-false}
use Rattle.std.proofs.lemmas.Option.{none-some, same_Some}
use Rattle.std.proofs.lemmas.Slice.Eq.{bytes_eq-Decides}
use Rattle.std.proofs.Math.Seq.{take-add, drop-append_seam}
use Rattle.std.specs.List.{list_any}
use Rattle.std.specs.Str.{bytes_eq}
use Rattle.std.specs.Io.KnownBytes.{Appends, Keeps}
use Rattle.fits_stream.specs.Named.{line_begins, named_from, named, is_one_line, unnamed_from, last_told, ends_named, told_in, told_of, name_begun, unnamed, EndsNamed, IsNamed}
use Rattle.fits_stream.specs.Stream.{Held, SinkState, Gains, FailsToWrite, Stays, Writes}
use Rattle.std.specs.Prelude.{nat_lt, Result, Ok, Err, IfOk, OnErr}
use Rattle.std.specs.Io.{WritesAtMost}

-- as many bytes as are to be left out are
unnamed-skip : (n : ℕ) (zs ys : List ℕ) → unnamed_from n (length zs) (zs ++ ys) ≡ unnamed_from n 0 ys
unnamed-skip n [] ys = refl
unnamed-skip n (z ∷ zs) ys = unnamed-skip n zs ys

-- and no more than there are
unnamed-skip_all : (n k : ℕ) (zs : List ℕ) → length zs ≤ k → unnamed_from n k zs ≡ []
unnamed-skip_all n k [] le = refl
unnamed-skip_all n zero (z ∷ zs) le = absurd (omega (arith, le))
unnamed-skip_all n (suc k) (z ∷ zs) le = unnamed-skip_all n k zs (omega (arith, le))

-- how many bytes of a name stand before a line that begins
abbrev size_if : Bool → ℕ → ℕ
size_if begun n = if begun then n else 0

-- the name of a line that begins is left out
unnamed-name : (name : List ℕ) (begun : Bool) (ys : List ℕ) → unnamed_from (length name) (size_if begun (length name)) ((if begun then name else []) ++ ys) ≡ unnamed_from (length name) 0 ys
unnamed-name name true ys = unnamed-skip (length name) name ys
unnamed-name name false ys = refl

-- the names are left out, and what follows goes on
unnamed-named : (name : List ℕ) (begun : Bool) (text rest : List ℕ) → unnamed_from (length name) (size_if begun (length name)) (named_from name begun text ++ rest)
    ≡ text ++ unnamed_from (length name) (size_if (line_begins begun text) (length name)) rest
unnamed-named name begun [] rest = refl
unnamed-named name begun (b ∷ bs) rest =
    ap (unnamed_from (length name) (size_if begun (length name))) (append_assoc (if begun then name else []) (b ∷ named_from name (b == 10) bs) rest)
    ∙ unnamed-name name begun (b ∷ (named_from name (b == 10) bs ++ rest))
    ∙ ap (λ zs. b ∷ zs) (unnamed-named name (b == 10) bs rest)

-- the begun name is left out too
unnamed-begun : (name : List ℕ) (left : ℕ) (begun : Bool) → unnamed_from (length name) (size_if begun (length name)) (if begun then take (length name - left) name else []) ≡ []
unnamed-begun name left true = unnamed-skip_all (length name) (length name) (take (length name - left) name) (omega (arith, length-take (length name - left) name))
unnamed-begun name left false = refl

-- the last bytes are the text with its names
ends-cut : (name : List ℕ) (left sent : ℕ) (bytes text : List ℕ) (h : EndsNamed name left sent bytes text) → drop (length bytes - sent) bytes ≡ named name text ++ name_begun name left text
ends-cut name left sent bytes text h =
    let at : length bytes - sent ≡ length h.before = omega (arith, h.size) in
    ap (λ k. drop k bytes) at ∙ ap (drop (length h.before)) h.joined ∙ drop-append_seam h.before (named name text ++ name_begun name left text)

-- what is told is the text
told-is : (name : List ℕ) (left sent : ℕ) (bytes text : List ℕ) (h : EndsNamed name left sent bytes text) → last_told name sent bytes ≡ text
told-is name left sent bytes text h =
    ap (unnamed_from (length name) (length name)) (ends-cut name left sent bytes text h)
    ∙ unnamed-named name true text (name_begun name left text)
    ∙ ap (λ zs. text ++ zs) (unnamed-begun name left (line_begins true text))
    ∙ append-nil text

-- a text and what follows it, each with its names
named_from-append : (name : List ℕ) (begun : Bool) (xs ys : List ℕ) → named_from name begun (xs ++ ys) ≡ named_from name begun xs ++ named_from name (line_begins begun xs) ys
named_from-append name begun [] ys = refl
named_from-append name begun (b ∷ bs) ys =
    ap (λ zs. (if begun then name else []) ++ (b ∷ zs)) (named_from-append name (b == 10) bs ys)
    ∙ sym (append_assoc (if begun then name else []) (b ∷ named_from name (b == 10) bs) (named_from name (line_begins (b == 10) bs) ys))

-- whether a line begins after both
line_begins-append : (begun : Bool) (xs ys : List ℕ) → line_begins begun (xs ++ ys) ≡ line_begins (line_begins begun xs) ys
line_begins-append begun [] ys = refl
line_begins-append begun (b ∷ bs) ys = line_begins-append (b == 10) bs ys

-- of some bytes the last decides
line_begins-some : (begun : Bool) (xs : List ℕ) → 0 < length xs → line_begins begun xs ≡ line_begins false xs
line_begins-some begun [] some = absurd (omega (arith, some))
line_begins-some begun (b ∷ bs) some = refl

-- what follows no line feed has no name before it
named_from-inner : (name : List ℕ) (begun : Bool) (b : ℕ) (cs : List ℕ) (feed : Bool) → (if feed then false else is_one_line cs) ≡ true → (is_one_line cs ≡ true → named_from name false cs ≡ cs)
    → (if begun then name else []) ++ (b ∷ named_from name feed cs) ≡ (if begun then name else []) ++ (b ∷ cs)
named_from-inner name begun b cs true one next = absurd (false≢true one)
named_from-inner name begun b cs false one next = ap (λ zs. (if begun then name else []) ++ (b ∷ zs)) (next one)

-- one line has the name before it alone
named_from-line : (name : List ℕ) (begun : Bool) (xs : List ℕ) → is_one_line xs ≡ true → 0 < length xs → named_from name begun xs ≡ (if begun then name else []) ++ xs
named_from-line name begun [] one some = absurd (omega (arith, some))
named_from-line name begun (b ∷ []) one some = refl
named_from-line name begun (b ∷ (c ∷ cs)) one some = named_from-inner name begun b (c ∷ cs) (b == 10) one (λ inner. named_from-line name false (c ∷ cs) inner (omega arith))

-- a test after a line feed
inner-one : (feed before after : Bool) → (if feed then false else before) ≡ true → (before ≡ true → after ≡ true) → (if feed then false else after) ≡ true
inner-one true before after one next = one
inner-one false before after one next = next one

-- a part of one line is one
one_line-take : (n : ℕ) (xs : List ℕ) → is_one_line xs ≡ true → is_one_line (take n xs) ≡ true
one_line-take zero xs one = refl
one_line-take (suc n) [] one = refl
one_line-take (suc zero) (b ∷ []) one = refl
one_line-take (suc (suc n)) (b ∷ []) one = refl
one_line-take (suc zero) (b ∷ (c ∷ cs)) one = refl
one_line-take (suc (suc n)) (b ∷ (c ∷ cs)) one = inner-one (b == 10) (is_one_line (c ∷ cs)) (is_one_line (take (suc n) (c ∷ cs))) one (one_line-take (suc n) (c ∷ cs))

-- a name goes on
name_more : (name : List ℕ) (left m : ℕ) → left ≤ length name → m ≤ left → take (length name - left) name ++ take m (drop (length name - left) name) ≡ take (length name - (left - m)) name
name_more name left m within le =
    let at : (length name - left) + m ≡ length name - (left - m) = omega (arith, within, le) in
    sym (take-add (length name - left) m name) ∙ ap (λ k. take k name) at

-- of the name that begins more bytes came
begun-more : (name : List ℕ) (left m : ℕ) (begun : Bool) → left ≤ length name → m ≤ left → 0 < left → (begun ≡ false → left ≡ 0)
    → (if begun then take (length name - left) name else []) ++ take m (drop (length name - left) name) ≡ (if begun then take (length name - (left - m)) name else [])
begun-more name left m true within le some inside = name_more name left m within le
begun-more name left m false within le some inside = absurd (omega (arith, inside refl, some))

-- more of the name is written, and the text stays
name_grows : (name : List ℕ) (left sent m : ℕ) (xs ys text : List ℕ) → EndsNamed name left sent xs text → left ≤ length name → m ≤ left → 0 < left → ys ≡ xs ++ take m (drop (length name - left) name)
    → EndsNamed name (left - m) (sent + m) ys text
name_grows name left sent m xs ys text h within le some grown =
    let more : List ℕ = take m (drop (length name - left) name) in
    let size : length more ≡ m = length-take m (drop (length name - left) name) ∙ omega (arith, length-drop (length name - left) name, within, le) in
    let joined : ys ≡ h.before ++ (named name text ++ name_begun name (left - m) text) =
    grown ∙ ap (λ zs. zs ++ more) h.joined ∙ append_assoc h.before (named name text ++ name_begun name left text) more
    ∙ ap (λ zs. h.before ++ zs) (append_assoc (named name text) (name_begun name left text) more
    ∙ ap (λ zs. named name text ++ zs) (begun-more name left m (line_begins true text) within le some h.inside)) in
    let long : length ys ≡ length h.before + (sent + m) = ap length grown ∙ length-append xs more ∙ omega (arith, h.size, size) in
    let inside : line_begins true text ≡ false → left - m ≡ 0 = λ e. omega (arith, h.inside e) in
    record { before = h.before; joined = joined; size = long; inside = inside }

-- the name of a line that is whole
begun-whole : (name : List ℕ) (begun : Bool) → (if begun then take (length name - 0) name else []) ≡ (if begun then name else [])
begun-whole name true = take_all (length name - 0) name (omega arith)
begun-whole name false = refl

-- how many bytes of a name are to come after some bytes
abbrev pub left_after : List ℕ → List ℕ → ℕ
left_after name line = if line_begins false line then length name else 0

-- after a line feed nothing of the next name has come
begun-none : (name : List ℕ) (begun : Bool) → (if begun then take (length name - (if begun then length name else 0)) name else []) ≡ []
begun-none name true = let z : length name - length name ≡ 0 = omega arith in ap (λ k. take k name) z
begun-none name false = refl

-- inside a line nothing is to come
left-inside : (name : List ℕ) (begun : Bool) → begun ≡ false → (if begun then length name else 0) ≡ 0
left-inside name true e = absurd (false≢true (sym e))
left-inside name false e = refl

-- a line, or a part of one, is written, and the text has it at its end
line_grows : (name : List ℕ) (sent : ℕ) (xs ys text line : List ℕ) → EndsNamed name 0 sent xs text → is_one_line line ≡ true → 0 < length line → ys ≡ xs ++ line
    → EndsNamed name (left_after name line) (sent + length line) ys (text ++ line)
line_grows name sent xs ys text line h one some grown =
    let ends : line_begins true (text ++ line) ≡ line_begins false line = line_begins-append true text line ∙ line_begins-some (line_begins true text) line some in
    let more : named name (text ++ line) ≡ (named name text ++ name_begun name 0 text) ++ line =
    named_from-append name true text line
    ∙ ap (λ zs. named name text ++ zs) (named_from-line name (line_begins true text) line one some ∙ ap (λ zs. zs ++ line) (sym (begun-whole name (line_begins true text))))
    ∙ sym (append_assoc (named name text) (name_begun name 0 text) line) in
    let none : name_begun name (left_after name line) (text ++ line) ≡ [] =
    ap (λ b. if b then take (length name - left_after name line) name else []) ends ∙ begun-none name (line_begins false line) in
    let joined : ys ≡ h.before ++ (named name (text ++ line) ++ name_begun name (left_after name line) (text ++ line)) =
    grown ∙ ap (λ zs. zs ++ line) h.joined ∙ append_assoc h.before (named name text ++ name_begun name 0 text) line
    ∙ ap (λ zs. h.before ++ zs) (sym more ∙ sym (append-nil (named name (text ++ line))) ∙ ap (λ zs. named name (text ++ line) ++ zs) (sym none)) in
    let long : length ys ≡ length h.before + (sent + length line) = ap length grown ∙ length-append xs line ∙ omega (arith, h.size) in
    let inside : line_begins true (text ++ line) ≡ false → left_after name line ≡ 0 = λ e. left-inside name (line_begins false line) (sym ends ∙ e) in
    record { before = h.before; joined = joined; size = long; inside = inside }

-- the test that nothing is to come inside a line
inside-test : (begun : Bool) (left : ℕ) → (begun ≡ false → left ≡ 0) → (begun || nat_le left 0) ≡ true
inside-test true left h = refl
inside-test false left h = ap (λ n. nat_le n 0) (h refl)

-- and what it says
inside-said : (begun : Bool) (left : ℕ) → (begun || nat_le left 0) ≡ true → begun ≡ false → left ≡ 0
inside-said true left h e = absurd (false≢true (sym e))
inside-said false left h e = omega (arith, leb-true left 0 h)

-- a text that is there is told
told-from : (name : List ℕ) (left sent : ℕ) (bytes text : List ℕ) → EndsNamed name left sent bytes text → told_in name left sent bytes ≡ Some text
told-from name left sent bytes text h =
    let is : last_told name sent bytes ≡ text = told-is name left sent bytes text h in
    let few : nat_le sent (length bytes) ≡ true = le-leb sent (length bytes) (omega (arith, h.size)) in
    let same : bytes_eq (drop (length bytes - sent) bytes) (named name text ++ name_begun name left text) ≡ true =
    (bytes_eq-Decides (drop (length bytes - sent) bytes) (named name text ++ name_begun name left text)).1 (ends-cut name left sent bytes text h) in
    let all : ends_named name left sent bytes text ≡ true = and_from _ _ (and_from _ _ few same) (inside-test (line_begins true text) left h.inside) in
    ap (λ t. if ends_named name left sent bytes t then Some t else None) is ∙ ap (λ b. if b then Some text else None) all

-- the test of a text that is told
told-test : (b : Bool) (t text : List ℕ) → (if b then Some t else None) ≡ Some text → (b ≡ true) × (t ≡ text)
told-test true t text e = (refl, same_Some t text e)
told-test false t text e = absurd (none-some text e)

-- a text that is told is there
told-there : (name : List ℕ) (left sent : ℕ) (bytes text : List ℕ) → told_in name left sent bytes ≡ Some text → EndsNamed name left sent bytes text
told-there name left sent bytes text e =
    let said = told-test (ends_named name left sent bytes (last_told name sent bytes)) (last_told name sent bytes) text e in
    let is : last_told name sent bytes ≡ text = said.1 in
    let test : ends_named name left sent bytes text ≡ true = ap (ends_named name left sent bytes) (sym is) ∙ said.0 in
    let fits = and_parts (nat_le sent (length bytes) && bytes_eq (drop (length bytes - sent) bytes) (named name text ++ name_begun name left text)) (line_begins true text || nat_le left 0) test in
    let both = and_parts (nat_le sent (length bytes)) (bytes_eq (drop (length bytes - sent) bytes) (named name text ++ name_begun name left text)) fits.0 in
    let few : sent ≤ length bytes = leb-true sent (length bytes) both.0 in
    let back : drop (length bytes - sent) bytes ≡ named name text ++ name_begun name left text = (bytes_eq-Decides _ _).0 both.1 in
    let front : List ℕ = take (length bytes - sent) bytes in
    record {
      before = front;
      joined = sym (take-append-drop (length bytes - sent) bytes) ∙ ap (λ zs. front ++ zs) back;
      size = omega (arith, length-take (length bytes - sent) bytes, few);
      inside = inside-said (line_begins true text) left fits.1;
    }

-- a text that is told stays told where it still is there
stays-told : (name : List ℕ) (left left' sent sent' : ℕ) (xs ys : List ℕ) (told : Option (List ℕ)) → told_in name left sent xs ≡ told
    → ((text : List ℕ) → EndsNamed name left sent xs text → EndsNamed name left' sent' ys text) → Keeps told (told_in name left' sent' ys)
stays-told name left left' sent sent' xs ys None e next = tt
stays-told name left left' sent sent' xs ys (Some text) e next =
    subst (Keeps (Some text)) (sym (told-from name left' sent' ys text (next text (told-there name left sent xs text e)))) refl

-- a text that is told grows where what is there does
grows-told : (name : List ℕ) (left left' sent sent' : ℕ) (xs ys more : List ℕ) (told : Option (List ℕ)) → told_in name left sent xs ≡ told
    → ((text : List ℕ) → EndsNamed name left sent xs text → EndsNamed name left' sent' ys (text ++ more)) → Appends told (told_in name left' sent' ys) more
grows-told name left left' sent sent' xs ys more None e next = tt
grows-told name left left' sent sent' xs ys more (Some text) e next =
    subst (λ after. Appends (Some text) after more) (sym (told-from name left' sent' ys (text ++ more) (next text (told-there name left sent xs text e)))) refl

-- where the sink below keeps what it holds, so does this one
pub told-kept : (name : List ℕ) (left sent : ℕ) (a b : Option (List ℕ)) → Keeps a b → Keeps (told_of name left sent a) (told_of name left sent b)
told-kept name left sent None b k = tt
told-kept name left sent (Some xs) None k = absurd k
told-kept name left sent (Some xs) (Some ys) k = stays-told name left left sent sent xs ys (told_in name left sent xs) refl (λ text h. subst (λ zs. EndsNamed name left sent zs text) (sym k) h)

-- where the sink below takes more of the name, this one keeps what it holds
pub told-name : (name : List ℕ) (left sent m : ℕ) (a b : Option (List ℕ)) → left ≤ length name → m ≤ left → 0 < left → Appends a b (take m (drop (length name - left) name))
    → Keeps (told_of name left sent a) (told_of name (left - m) (sent + m) b)
told-name name left sent m None b within le some p = tt
told-name name left sent m (Some xs) None within le some p = absurd p
told-name name left sent m (Some xs) (Some ys) within le some p =
    stays-told name left (left - m) sent (sent + m) xs ys (told_in name left sent xs) refl (λ text h. name_grows name left sent m xs ys text h within le some p)

-- where the sink below takes a line after its name, or a part of one, so does this one
told-line : (name : List ℕ) (sent : ℕ) (a b : Option (List ℕ)) (line : List ℕ) → is_one_line line ≡ true → 0 < length line → Appends a b line
    → Appends (told_of name 0 sent a) (told_of name (left_after name line) (sent + length line) b) line
told-line name sent None b line one some p = tt
told-line name sent (Some xs) None line one some p = absurd p
told-line name sent (Some xs) (Some ys) line one some p =
    grows-told name 0 (left_after name line) sent (sent + length line) xs ys line (told_in name 0 sent xs) refl (λ text h. line_grows name sent xs ys text line h one some p)

-- one thing kept after another
pub Keeps-more : (a b c : Option (List ℕ)) → Keeps a b → Keeps b c → Keeps a c
Keeps-more None b c p q = tt
Keeps-more (Some xs) None c p q = absurd p
Keeps-more (Some xs) (Some ys) None p q = absurd q
Keeps-more (Some xs) (Some ys) (Some zs) p q = q ∙ p

-- something kept, and then grown
pub Appends-after : (a b c : Option (List ℕ)) (bs : List ℕ) → Keeps a b → Appends b c bs → Appends a c bs
Appends-after None b c bs p q = tt
Appends-after (Some xs) None c bs p q = absurd p
Appends-after (Some xs) (Some ys) None bs p q = absurd q
Appends-after (Some xs) (Some ys) (Some zs) bs p q = q ∙ ap (λ ws. ws ++ bs) p

-- what is told of these bytes is there
named-if : (name : List ℕ) (left sent : ℕ) (xs : List ℕ) (told : Option (List ℕ)) → told_in name left sent xs ≡ told → IfSome told (EndsNamed name left sent xs)
named-if name left sent xs None e = tt
named-if name left sent xs (Some text) e = told-there name left sent xs text e

-- what is told is there
pub told-named : (name : List ℕ) (left sent : ℕ) (contents : Option (List ℕ)) → IsNamed name left sent contents (told_of name left sent contents)
told-named name left sent None = tt
told-named name left sent (Some xs) = named-if name left sent xs (told_in name left sent xs) refl

-- no line feed is among these bytes
abbrev pub HasNoFeed : List ℕ → Type 0
HasNoFeed xs = list_any (λ b. b == 10) xs ≡ false

-- bytes without a line feed are one line
pub one_line-plain : (xs : List ℕ) → HasNoFeed xs → is_one_line xs ≡ true
one_line-plain [] none = refl
one_line-plain (b ∷ []) none = refl
one_line-plain (b ∷ (c ∷ cs)) none =
    let parts = or_parts (b == 10) (list_any (λ x. x == 10) (c ∷ cs)) none in
    ap (λ f. if f then false else is_one_line (c ∷ cs)) parts.0 ∙ one_line-plain (c ∷ cs) parts.1

-- so are they with the byte that follows
one_line-suc : (i : ℕ) (xs : List ℕ) → HasNoFeed (take i xs) → is_one_line (take (suc i) xs) ≡ true
one_line-suc zero [] none = refl
one_line-suc zero (b ∷ bs) none = refl
one_line-suc (suc i) [] none = refl
one_line-suc (suc i) (b ∷ []) none = refl
one_line-suc (suc i) (b ∷ (c ∷ cs)) none =
    let parts = or_parts (b == 10) (list_any (λ x. x == 10) (take i (c ∷ cs))) none in
    ap (λ f. if f then false else is_one_line (take (suc i) (c ∷ cs))) parts.0 ∙ one_line-suc i (c ∷ cs) parts.1

-- the same, counted on
pub one_line-first : (i : ℕ) (xs : List ℕ) → HasNoFeed (take i xs) → is_one_line (take (i + 1) xs) ≡ true
one_line-first i xs none = let next : i + 1 ≡ suc i = omega arith in ap (λ k. is_one_line (take k xs)) next ∙ one_line-suc i xs none

-- the last byte decides whether a line begins
pub line_begins-last : (xs : List ℕ) → 1 ≤ length xs → (slice_index_or xs (length xs - 1) 0 == 10) ≡ line_begins false xs
line_begins-last [] some = absurd (omega (arith, some))
line_begins-last (b ∷ []) some = refl
line_begins-last (b ∷ (c ∷ cs)) some =
    let last : length (b ∷ (c ∷ cs)) - 1 ≡ suc (length (c ∷ cs) - 1) = omega arith in
    ap (λ k. slice_index_or (b ∷ (c ∷ cs)) k 0 == 10) last ∙ line_begins-last (c ∷ cs) (omega arith)

-- a line that ends in a line feed is told, with the next name to come
pub told-ended : (name : List ℕ) (left sent count n : ℕ) (a b : Option (List ℕ)) (line taken : List ℕ) → left ≡ 0 → is_one_line line ≡ true → n ≤ length line → (n == 0) ≡ false → taken ≡ take n line
    → line_begins false taken ≡ true → count ≡ sent + n → Appends a b (take n line) → Appends (told_of name left sent a) (told_of name (length name) count b) (take n line)
told-ended name left sent count n a b line taken none one within some cut ends counted p =
    let size : length (take n line) ≡ n = length-take n line ∙ omega (arith, within) in
    let begins : line_begins false (take n line) ≡ true = ap (line_begins false) (sym cut) ∙ ends in
    let next : left_after name (take n line) ≡ length name = ap (λ f. if f then length name else 0) begins in
    let all : sent + length (take n line) ≡ count = omega (arith, size, counted) in
    let many : 0 < length (take n line) = omega (arith, size, eqb-false n 0 some) in
    rw (none) (subst (λ k. Appends (told_of name 0 sent a) (told_of name k count b) (take n line)) next (subst (λ k. Appends (told_of name 0 sent a) (told_of name (left_after name (take n line)) k b) (take n line)) all
    (told-line name sent a b (take n line) (one_line-take n line one) many p)))

-- one that goes on is told, with nothing to come
pub told-going_on : (name : List ℕ) (left sent count n : ℕ) (a b : Option (List ℕ)) (line taken : List ℕ) → left ≡ 0 → is_one_line line ≡ true → n ≤ length line → (n == 0) ≡ false → taken ≡ take n line
    → line_begins false taken ≡ false → count ≡ sent + n → Appends a b (take n line) → Appends (told_of name left sent a) (told_of name left count b) (take n line)
told-going_on name left sent count n a b line taken none one within some cut ends counted p =
    let size : length (take n line) ≡ n = length-take n line ∙ omega (arith, within) in
    let begins : line_begins false (take n line) ≡ false = ap (line_begins false) (sym cut) ∙ ends in
    let next : left_after name (take n line) ≡ 0 = ap (λ f. if f then length name else 0) begins in
    let all : sent + length (take n line) ≡ count = omega (arith, size, counted) in
    let many : 0 < length (take n line) = omega (arith, size, eqb-false n 0 some) in
    rw (none) (subst (λ k. Appends (told_of name 0 sent a) (told_of name k count b) (take n line)) next (subst (λ k. Appends (told_of name 0 sent a) (told_of name (left_after name (take n line)) k b) (take n line)) all
    (told-line name sent a b (take n line) (one_line-take n line one) many p)))

-- a sink that holds and took what it did gives the same text
pub unnamed-kept : (name : List ℕ) (left sent : ℕ) (a b : Held) → Stays a b → Stays (unnamed name left sent a) (unnamed name left sent b)
unnamed-kept name left sent a b k = record { told = told-kept name left sent a.told b.told k.told; taken = told-kept name left sent a.taken b.taken k.taken }

-- a part of a name leaves what is told of the text as it was
pub unnamed-names : (name : List ℕ) (left sent m : ℕ) (a b : Held) → left ≤ length name → m ≤ left → 0 < left → Gains a b (take m (drop (length name - left) name))
    → Stays (unnamed name left sent a) (unnamed name (left - m) (sent + m) b)
unnamed-names name left sent m a b within le some p = record { told = told-name name left sent m a.told b.told within le some p.told; taken = told-name name left sent m a.taken b.taken within le some p.taken }

-- what stays, and stays again, stays
pub Stays-more : (a b c : Held) → Stays a b → Stays b c → Stays a c
Stays-more a b c p q = record { told = Keeps-more a.told b.told c.told p.told q.told; taken = Keeps-more a.taken b.taken c.taken p.taken q.taken }

-- what stays, and then grows, grows
pub Gains-after : (a b c : Held) (bs : List ℕ) → Stays a b → Gains b c bs → Gains a c bs
Gains-after a b c bs p q = record { told = Appends-after a.told b.told c.told bs p.told q.told; taken = Appends-after a.taken b.taken c.taken bs p.taken q.taken }

-- a line that ends makes the text grow by it, and the next one wants its whole name
pub unnamed-ended : (name : List ℕ) (left sent count n : ℕ) (a b : Held) (line taken : List ℕ) → left ≡ 0 → is_one_line line ≡ true → n ≤ length line → (n == 0) ≡ false → taken ≡ take n line
    → line_begins false taken ≡ true → count ≡ sent + n → Gains a b (take n line) → Gains (unnamed name left sent a) (unnamed name (length name) count b) (take n line)
unnamed-ended name left sent count n a b line taken none one within some cut ends counted p = record { told = told-ended name left sent count n a.told b.told line taken none one within some cut ends counted p.told; taken = told-ended name left sent count n a.taken b.taken line taken none one within some cut ends counted p.taken }

-- a part of a line that goes on makes the text grow by it
pub unnamed-going_on : (name : List ℕ) (left sent count n : ℕ) (a b : Held) (line taken : List ℕ) → left ≡ 0 → is_one_line line ≡ true → n ≤ length line → (n == 0) ≡ false → taken ≡ take n line
    → line_begins false taken ≡ false → count ≡ sent + n → Gains a b (take n line) → Gains (unnamed name left sent a) (unnamed name left count b) (take n line)
unnamed-going_on name left sent count n a b line taken none one within some cut ends counted p = record { told = told-going_on name left sent count n a.told b.told line taken none one within some cut ends counted p.told; taken = told-going_on name left sent count n a.taken b.taken line taken none one within some cut ends counted p.taken }

-- a failed call, or none
abbrev one_if : Bool → ℕ
one_if b = if b then 1 else 0

-- a condition beside one that holds is that condition
both-true : (b : Bool) → one_if (b && true) ≡ one_if b
both-true true = refl
both-true false = refl

-- a line was written, after what was left of its name
pub named_writes : {E : Type 0} (r : Result ℕ E) (name : List ℕ) (l0 l1 l2 s0 s1 s2 : ℕ) (a b c : SinkState) (u v : ℕ) (piece line : List ℕ) → Stays (unnamed name l0 s0 a.contents) (unnamed name l1 s1 b.contents) → b.failures ≡ a.failures
    → IfOk r (λ n. Gains (unnamed name l1 s1 b.contents) (unnamed name l2 s2 c.contents) (take n line)) → IfOk r (λ n. c.failures ≡ b.failures + (if n == 0 then 1 else 0)) → WritesAtMost r line
    → line ≡ take (length line) piece → 0 < length line → v ≡ u + 1
    → IfOk r (λ n. Writes n piece (record { contents = unnamed name l0 s0 a.contents; failures = a.failures; unflushed = u }) (record { contents = unnamed name l2 s2 c.contents; failures = c.failures; unflushed = v }))
named_writes (Ok n) name l0 l1 l2 s0 s1 s2 a b c u v piece line kept quiet gains fails few front some ticks =
    let cut : take n line ≡ take n piece = ap (take n) front ∙ take-take n (length line) piece few in
    let many : nat_lt 0 (length piece) ≡ true = lt-ltb 0 (length piece) (omega (arith, some, ap length front, length-take (length line) piece)) in
    let same : (if (n == 0) && nat_lt 0 (length piece) then 1 else 0) ≡ (if n == 0 then 1 else 0) = ap (λ t. if (n == 0) && t then 1 else 0) many ∙ both-true (n == 0) in
    record {
      bytes = Gains-after _ _ _ (take n piece) kept (subst (λ t. Gains (unnamed name l1 s1 b.contents) (unnamed name l2 s2 c.contents) t) cut gains);
      failed = fails ∙ ap (λ t. t + (if n == 0 then 1 else 0)) quiet ∙ ap (λ t. a.failures + t) (sym same);
      unflushed = ticks;
    }
named_writes (Err e) name l0 l1 l2 s0 s1 s2 a b c u v piece line kept quiet gains fails few front some ticks = tt

-- or wasn't
pub named_fails : {E : Type 0} (r : Result ℕ E) (name : List ℕ) (l0 l1 l2 s0 s1 s2 : ℕ) (a b c : SinkState) (u v : ℕ) → Stays (unnamed name l0 s0 a.contents) (unnamed name l1 s1 b.contents) → b.failures ≡ a.failures
    → OnErr r (Stays (unnamed name l1 s1 b.contents) (unnamed name l2 s2 c.contents)) → OnErr r (c.failures ≡ b.failures + 1) → v ≡ u + 1
    → OnErr r (FailsToWrite (record { contents = unnamed name l0 s0 a.contents; failures = a.failures; unflushed = u }) (record { contents = unnamed name l2 s2 c.contents; failures = c.failures; unflushed = v }))
named_fails (Ok n) name l0 l1 l2 s0 s1 s2 a b c u v kept quiet stays fails ticks = tt
named_fails (Err e) name l0 l1 l2 s0 s1 s2 a b c u v kept quiet stays fails ticks = record { bytes = Stays-more _ _ _ kept stays; failed = fails ∙ ap (λ t. t + 1) quiet; unflushed = ticks }

pub ruleset line_steps = (one_line-plain, one_line-first, line_begins-last)

pub ruleset naming_steps = (unnamed-kept, unnamed-names, Stays-more, Gains-after, unnamed-ended, unnamed-going_on)
