-- What the bytes of a redo file tell.
use Rattle.std.proofs.Common.{◌≡◌, inl, inr, ℕ, zero, suc, ◌+◌, ◌*◌, ◌^◌, ◌<◌, ◌≤◌, nat_lt, ◌==◌, Bool, true, false, ◌&&◌, List, [], ◌∷◌, ◌++◌, length, take, drop, Some, refl, sym, ◌∙◌, ap, subst, arith, append_assoc, length-append, length-drop}
use Rattle.std.specs.List.{flat_map}
use Rattle.std.specs.Str.{bytes_eq}
use Rattle.std.proofs.lemmas.Bool.Decides.{nat_tests}
use Rattle.std.proofs.lemmas.List.{append-nil, drop-drop, take_at, drop_at}
use Rattle.std.proofs.lemmas.Nat.{from_be_bytes-to_be_bytes_8}
use Rattle.fits_redo.specs.Pair.{Files}
use Rattle.fits_redo.specs.Plan.{agrees, redone, fits}
use Rattle.fits_redo.specs.Protocol.{IsUnfinishedOrDone}
use Rattle.fits_redo.specs.Redo.{signature, big_endian, from_big_endian, entry, redo_file, is_open, is_whole, told_len, told_count, told_block, told_blocks, told, is_due, made_of, recovered}
use Rattle.fits_redo.specs.declared.changed_block.ChangedBlock.{ChangedBlock}
use Rattle.fits_redo.proofs.BlockLemmas.{has_room, length-block}
use Rattle.fits_redo.proofs.MixLemmas.{both, and_both, mix_lengths}
use Rattle.fits_redo.proofs.PlanLemmas.{first_fits, new_length}

-- a number has eight bytes
pub length-big_endian : (n : ℕ) → length (big_endian n) ≡ 8
unfolding big_endian
length-big_endian n = refl

-- which tell it
pub from_big_endian-big_endian : (n : ℕ) → n < 2 ^ 64 → from_big_endian (big_endian n) ≡ n
unfolding big_endian from_big_endian
from_big_endian-big_endian n small = from_be_bytes-to_be_bytes_8 n small

-- an entry, and what is behind it
record Entry (b : ChangedBlock) (rest : List ℕ) : Type 0 where
  tells : told_block (entry b ++ rest) ≡ b
  leaves : drop 5768 (entry b ++ rest) ≡ rest
  long : length (entry b) ≡ 5768

-- an entry tells its block
an_entry : (b : ChangedBlock) (rest : List ℕ) → b.index < 2 ^ 64 → length b.old ≡ 2880 → length b.new ≡ 2880 → Entry b rest
an_entry b rest small long_old long_new =
    let I = big_endian b.index in
    let eight : length I ≡ 8 = length-big_endian b.index in
    let front : length (I ++ b.old) ≡ 2888 = omega (arith, length-append I b.old, eight, long_old) in
    let whole : length (entry b) ≡ 5768 = omega (arith, length-append (I ++ b.old) b.new, front, long_new) in
    let split : entry b ++ rest ≡ (I ++ b.old) ++ (b.new ++ rest) = append_assoc (I ++ b.old) b.new rest in
    let parts : entry b ++ rest ≡ I ++ (b.old ++ (b.new ++ rest)) = split ∙ append_assoc I b.old (b.new ++ rest) in
    let index : from_big_endian (take 8 (entry b ++ rest)) ≡ b.index =
    ap from_big_endian (ap (λ (l : List ℕ). take 8 l) parts ∙ take_at I (b.old ++ (b.new ++ rest)) 8 eight) ∙ from_big_endian-big_endian b.index small in
    let old : take 2880 (drop 8 (entry b ++ rest)) ≡ b.old =
    ap (λ (l : List ℕ). take 2880 l) (ap (λ (l : List ℕ). drop 8 l) parts ∙ drop_at I (b.old ++ (b.new ++ rest)) 8 eight) ∙ take_at b.old (b.new ++ rest) 2880 long_old in
    let new : take 2880 (drop 2888 (entry b ++ rest)) ≡ b.new =
    ap (λ (l : List ℕ). take 2880 l) (ap (λ (l : List ℕ). drop 2888 l) split ∙ drop_at (I ++ b.old) (b.new ++ rest) 2888 front) ∙ take_at b.new rest 2880 long_new in
    record { tells = λ i. record { index = index i; old = old i; new = new i }; leaves = drop_at (entry b) rest 5768 whole; long = whole }

-- the entries of a plan that fits
record Entries (blocks : List ChangedBlock) : Type 0 where
  tell : told_blocks (length blocks) (flat_map entry blocks) ≡ blocks
  long : length (flat_map entry blocks) ≡ 5768 * length blocks

-- entries tell their blocks
entries : (from : ℕ) (blocks : List ChangedBlock) (file : List ℕ) → fits from blocks file ≡ true → length file < 2 ^ 64 → Entries blocks
entries from [] file h small = record { tell = refl; long = refl }
entries from (b ∷ blocks) file h small =
    let it = first_fits from b blocks file h in
    let old_long : length b.old ≡ 2880 = sym (mix_lengths b.old b.new _ it.mix).0 ∙ length-block b.index file it.has in
    let one = an_entry b (flat_map entry blocks) (omega (arith, has_room b.index file it.has)) old_long (new_length b file it.has it.mix) in
    let more = entries (b.index + 1) blocks file it.rest small in
    record {
      tell = ap (λ x. x ∷ told_blocks (length blocks) (drop 5768 (entry b ++ flat_map entry blocks))) one.tells ∙ ap (λ (l : List ℕ). b ∷ told_blocks (length blocks) l) one.leaves ∙ ap (λ l. b ∷ l) more.tell;
      long = omega (arith, length-append (entry b) (flat_map entry blocks), one.long, more.long);
    }

-- these bytes are a redo file whose gate is open, of this plan
pub record Tells (bytes : List ℕ) (len : ℕ) (blocks : List ChangedBlock) : Type 0 where
  pub opened : is_open bytes ≡ true
  pub whole : is_whole bytes ≡ true
  pub length : told_len bytes ≡ len
  pub list : told bytes ≡ blocks

-- numbers that are one pass the test
same_number : (a b : ℕ) → a ≡ b → (a == b) ≡ true
same_number a b e = grind (arith, nat_tests)

-- so does an order
more_than : (a b : ℕ) → a < b → nat_lt a b ≡ true
more_than a b less = grind (arith, nat_tests)

-- a redo file tells its plan
pub tells : (len : ℕ) (blocks : List ChangedBlock) (file : List ℕ) → agrees len blocks file ≡ true → 0 < length blocks → len < 2 ^ 64 → length blocks < 2 ^ 64 → length file ≡ len → Tells (redo_file 1 len blocks) len blocks
tells len blocks file h some small few is =
    let A = big_endian len in
    let B = big_endian (length blocks) in
    let E = flat_map entry blocks in
    let it = entries 0 blocks file (both (len == length file) (fits 0 blocks file) h).1 (omega (arith, is, small)) in
    let a : length A ≡ 8 = length-big_endian len in
    let b : length B ≡ 8 = length-big_endian (length blocks) in
    let ab : length (A ++ B) ≡ 16 = omega (arith, length-append A B, a, b) in
    let behind : drop 24 (redo_file 1 len blocks) ≡ E = drop_at (A ++ B) E 16 ab in
    let assoc : A ++ B ++ E ≡ A ++ (B ++ E) = append_assoc A B E in
    let told_n : told_len (redo_file 1 len blocks) ≡ len =
    ap from_big_endian (ap (λ (l : List ℕ). take 8 l) assoc ∙ take_at A (B ++ E) 8 a) ∙ from_big_endian-big_endian len small in
    let told_k : told_count (redo_file 1 len blocks) ≡ length blocks =
    ap from_big_endian (ap (λ (l : List ℕ). take 8 l) (ap (λ (l : List ℕ). drop 8 l) assoc ∙ drop_at A (B ++ E) 8 a) ∙ take_at B E 8 b) ∙ from_big_endian-big_endian (length blocks) few in
    let size : length (A ++ B ++ E) ≡ 16 + 5768 * length blocks = omega (arith, length-append (A ++ B) E, ab, it.long) in
    record {
      opened = and_both (nat_lt 24 (length (redo_file 1 len blocks))) (bytes_eq (take 8 (redo_file 1 len blocks)) (1 ∷ signature)) (more_than 24 (length (redo_file 1 len blocks)) (omega (arith, size, some))) refl;
      whole = same_number (length (drop 24 (redo_file 1 len blocks))) (5768 * told_count (redo_file 1 len blocks)) (ap length behind ∙ it.long ∙ ap (λ n. 5768 * n) (sym told_k));
      length = told_n;
      list = ap (λ n. told_blocks n (drop 24 (redo_file 1 len blocks))) told_k ∙ ap (λ (l : List ℕ). told_blocks (length blocks) l) behind ∙ it.tell;
    }

-- one that is due makes the new file
made : (bytes file : List ℕ) → is_due bytes file ≡ true → made_of (Some bytes) file ≡ redone (told bytes) file
made bytes file due = rw due refl

-- beside it a file that agrees becomes what the plan gives
pub due_made : (bytes : List ℕ) (len : ℕ) (blocks : List ChangedBlock) (file : List ℕ) → Tells bytes len blocks → agrees len blocks file ≡ true → made_of (Some bytes) file ≡ redone blocks file
due_made bytes len blocks file it h =
    made bytes file (and_both (is_open bytes && is_whole bytes) (agrees (told_len bytes) (told bytes) file) (and_both (is_open bytes) (is_whole bytes) it.opened it.whole) ((λ i. agrees (it.length i) (it.list i) file) ∙ h))
    ∙ ap (λ l. redone l file) it.list

-- so recovery does
pub due_recovered : (bytes : List ℕ) (len : ℕ) (blocks : List ChangedBlock) (new : List ℕ) (c : Files) → Tells bytes len blocks → IsUnfinishedOrDone bytes len blocks new c → recovered c ≡ new
due_recovered bytes len blocks new c it (inl due) = (λ i. made_of (due.redo i) c.file) ∙ due_made bytes len blocks c.file it due.agrees ∙ due.gives
due_recovered bytes len blocks new c it (inr done) = λ i. recovered (done i)

-- an entry, taken apart
pub first_told : (entries index old new a b c : List ℕ) → index ≡ take 8 entries → a ≡ drop 8 entries → old ≡ take 2880 a → b ≡ drop 2880 a → new ≡ take 2880 b → c ≡ drop 2880 b
    → (record { index = from_big_endian index; old = old; new = new } ≡ told_block entries) × (c ≡ drop 5768 entries)
first_told entries index old new a b c e1 e2 e3 e4 e5 e6 =
    let behind : b ≡ drop 2888 entries = e4 ∙ ap (λ (l : List ℕ). drop 2880 l) e2 ∙ drop-drop 2880 8 entries in
    let first : from_big_endian index ≡ from_big_endian (take 8 entries) = ap from_big_endian e1 in
    let second : old ≡ take 2880 (drop 8 entries) = e3 ∙ ap (λ (l : List ℕ). take 2880 l) e2 in
    let third : new ≡ take 2880 (drop 2888 entries) = e5 ∙ ap (λ (l : List ℕ). take 2880 l) behind in
    (λ i. record { index = first i; old = second i; new = third i }, e6 ∙ ap (λ (l : List ℕ). drop 2880 l) behind ∙ drop-drop 2880 2888 entries)

-- one entry more of those that are read
pub told_next : (blocks : List ChangedBlock) (b : ChangedBlock) (rest more : List ℕ) (left : ℕ) (all : List ChangedBlock) → length rest ≡ 5768 * left → 5768 ≤ length rest → b ≡ told_block rest → more ≡ drop 5768 rest → blocks ++ told_blocks left rest ≡ all
    → (less : ℕ) × (length more ≡ 5768 * less) × (blocks ++ b ∷ [] ++ told_blocks less more ≡ all)
told_next blocks b rest more zero all size some is behind so_far = absurd (omega arith)
told_next blocks b rest more (suc left) all size some is behind so_far =
    let size_more : length more ≡ 5768 * left = omega (arith, ap length behind, length-drop 5768 rest, size) in
    let step : told_blocks (suc left) rest ≡ b ∷ told_blocks left more = λ i. sym is i ∷ told_blocks left (sym behind i) in
    (left, size_more, append_assoc blocks (b ∷ []) (told_blocks left more) ∙ ap (λ l. blocks ++ l) (sym step) ∙ so_far)

-- the blocks that are told so far, and those that are left
pub told_end : (blocks : List ChangedBlock) (rest : List ℕ) (left : ℕ) (all : List ChangedBlock) → length rest ≡ 5768 * left → length rest < 5768 → blocks ++ told_blocks left rest ≡ all → blocks ≡ all
told_end blocks rest zero all size few so_far = sym (append-nil blocks) ∙ so_far
told_end blocks rest (suc left) all size few so_far = absurd (omega arith)

-- a redo file, taken apart
pub head_told : (bytes a len b count c : List ℕ) → a ≡ drop 8 bytes → len ≡ take 8 a → b ≡ drop 8 a → count ≡ take 8 b → c ≡ drop 8 b
    → (from_big_endian len ≡ told_len bytes) × (from_big_endian count ≡ told_count bytes) × (c ≡ drop 24 bytes)
head_told bytes a len b count c e1 e2 e3 e4 e5 =
    let behind : b ≡ drop 16 bytes = e3 ∙ ap (λ (l : List ℕ). drop 8 l) e1 ∙ drop-drop 8 8 bytes in (
      ap from_big_endian (e2 ∙ ap (λ (l : List ℕ). take 8 l) e1),
      ap from_big_endian (e4 ∙ ap (λ (l : List ℕ). take 8 l) behind),
      e5 ∙ ap (λ (l : List ℕ). drop 8 l) behind ∙ drop-drop 8 16 bytes,
    )

-- a whole redo file has the entries that its head tells
pub whole_told : (bytes entries : List ℕ) (count : ℕ) → entries ≡ drop 24 bytes → count ≡ told_count bytes → (length entries == 5768 * count) ≡ true → is_whole bytes ≡ true
whole_told bytes entries count behind told_n h = (λ i. length (sym behind i) == 5768 * sym told_n i) ∙ h

-- the test of numbers tells that they are one
pub size_told : (a b : ℕ) → (a == b) ≡ true → a ≡ b
size_told a b h = grind (arith, nat_tests)

-- the bytes of a redo file behind its gate, before the entries
abbrev pub behind_gate : ℕ → ℕ → List ℕ
behind_gate len count = signature ++ big_endian len ++ big_endian count

-- the same, turned round
same_length : (a b : ℕ) → (a == b) ≡ true → b ≡ a
same_length a b h = grind (arith, nat_tests)

-- a redo file with an open gate tells its plan
pub plan_tells : (len : ℕ) (blocks : List ChangedBlock) (file E : List ℕ) → agrees len blocks file ≡ true → 0 < length blocks → len < 2 ^ 64 → length blocks < 2 ^ 64 → E ≡ flat_map entry blocks → Tells (1 ∷ behind_gate len (length blocks) ++ E) len blocks
plan_tells len blocks file E h some small few is =
    subst (λ l. Tells (1 ∷ behind_gate len (length blocks) ++ l) len blocks) (sym is)
    (tells len blocks file h some small few (same_length len (length file) (both (len == length file) (fits 0 blocks file) h).0))

-- a plan that has blocks has some
pub some_if : (n m : ℕ) (b : Bool) → b ≡ (n == 0) → b ≡ false → n ≡ m → 0 < m
some_if n m b is not_empty same = let differs : (n == 0) ≡ false = sym is ∙ not_empty in grind (arith, nat_tests)

-- what recovery makes of a file beside a redo file that tells a plan
pub told_recovered : (bytes : List ℕ) (len : ℕ) (blocks : List ChangedBlock) (f : Files) → f.redo ≡ Some bytes → Tells bytes len blocks → agrees len blocks f.file ≡ true → redone blocks f.file ≡ recovered f
told_recovered bytes len blocks f is it h = sym (due_made bytes len blocks f.file it h) ∙ (λ i. made_of (sym is i) f.file)

-- as many blocks are told as there are entries
pub length-told_blocks : (count : ℕ) (bytes : List ℕ) → length (told_blocks count bytes) ≡ count
length-told_blocks zero bytes = refl
length-told_blocks (suc count) bytes = ap suc (length-told_blocks count (drop 5768 bytes))

-- a redo file is longer than its blocks
pub told_short : (bytes : List ℕ) (blocks : List ChangedBlock) → is_whole bytes ≡ true → blocks ≡ told bytes → 2880 * length blocks ≤ length bytes
told_short bytes blocks whole is =
    omega (arith, size_told (length (drop 24 bytes)) (5768 * told_count bytes) whole, length-drop 24 bytes, ap length is, length-told_blocks (told_count bytes) (drop 24 bytes))
