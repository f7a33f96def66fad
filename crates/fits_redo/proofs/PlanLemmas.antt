-- Plans, and files over which they are made in part.
use Rattle.std.proofs.Common.{◌≡◌, inl, inr, ℕ, ◌+◌, ◌*◌, ◌<◌, ◌≤◌, nat_le, true, ◌&&◌, List, [], ◌∷◌, ◌++◌, length, refl, sym, ◌∙◌, ap, subst, arith, append_assoc, length-append}
use Rattle.std.proofs.lemmas.Bool.Decides.{nat_tests}
use Rattle.fits_redo.specs.Blocks.{block, with_block, has_block, is_mix}
use Rattle.fits_redo.specs.Plan.{redone, fits, index_behind, IsPlanOf}
use Rattle.fits_redo.specs.declared.changed_block.ChangedBlock.{ChangedBlock}
use Rattle.fits_redo.proofs.BlockLemmas.{has_room, room_has, length-block, length-with_block, has_block-with_block, block-with_block, with_block-with_block, block_elsewhere, with_block_comm, with_block_amid, block_amid}
use Rattle.fits_redo.proofs.MixLemmas.{both, and_both, mix_lengths, mix_new, mix_old, mix_again}

-- plans that are made one after the other
pub redone-append : (xs ys : List ChangedBlock) (file : List ℕ) → redone (xs ++ ys) file ≡ redone ys (redone xs file)
redone-append [] ys file = refl
redone-append (x ∷ xs) ys file = redone-append xs ys (with_block x.index x.new file)

-- what is known of the first block of a plan that fits
pub record FirstFits (from : ℕ) (b : ChangedBlock) (blocks : List ChangedBlock) (file : List ℕ) : Type 0 where
  pub low : from ≤ b.index
  pub has : has_block b.index file ≡ true
  pub mix : is_mix b.old b.new (block b.index file) ≡ true
  pub rest : fits (b.index + 1) blocks file ≡ true

-- the test of an order tells it
at_least : (a b : ℕ) → nat_le a b ≡ true → a ≤ b
at_least a b h = grind (arith, nat_tests)

-- and an order is told by its test
is_least : (a b : ℕ) → a ≤ b → nat_le a b ≡ true
is_least a b h = grind (arith, nat_tests)

-- what a plan that fits says of its first block
pub first_fits : (from : ℕ) (b : ChangedBlock) (blocks : List ChangedBlock) (file : List ℕ) → fits from (b ∷ blocks) file ≡ true → FirstFits from b blocks file
first_fits from b blocks file h =
    let all = both (nat_le from b.index && has_block b.index file && is_mix b.old b.new (block b.index file)) (fits (b.index + 1) blocks file) h in
    let three = both (nat_le from b.index && has_block b.index file) (is_mix b.old b.new (block b.index file)) all.0 in
    let two = both (nat_le from b.index) (has_block b.index file) three.0 in
    record { low = at_least from b.index two.0; has = two.1; mix = three.1; rest = all.1 }

-- and a plan fits of which that is so
pub fits_first : (from : ℕ) (b : ChangedBlock) (blocks : List ChangedBlock) (file : List ℕ) → FirstFits from b blocks file → fits from (b ∷ blocks) file ≡ true
fits_first from b blocks file it =
    and_both (nat_le from b.index && has_block b.index file && is_mix b.old b.new (block b.index file)) (fits (b.index + 1) blocks file)
    (and_both (nat_le from b.index && has_block b.index file) (is_mix b.old b.new (block b.index file)) (and_both (nat_le from b.index) (has_block b.index file) (is_least from b.index it.low) it.has) it.mix) it.rest

-- the new bytes of a block that fits are those of a whole block
pub new_length : (b : ChangedBlock) (file : List ℕ) → has_block b.index file ≡ true → is_mix b.old b.new (block b.index file) ≡ true → length b.new ≡ 2880
new_length b file has mix =
    let both_long = mix_lengths b.old b.new (block b.index file) mix in
    both_long.1 ∙ sym both_long.0 ∙ length-block b.index file has

-- a block behind those that fit fits too
pub fits_last : (from : ℕ) (blocks : List ChangedBlock) (b : ChangedBlock) (file : List ℕ) → fits from blocks file ≡ true → index_behind from blocks ≤ b.index → has_block b.index file ≡ true → is_mix b.old b.new (block b.index file) ≡ true → fits from (blocks ++ b ∷ []) file ≡ true
fits_last from [] b file h behind has mix = fits_first from b [] file (record { low = behind; has = has; mix = mix; rest = refl })
fits_last from (x ∷ blocks) b file h behind has mix =
    let it = first_fits from x blocks file h in
    fits_first from x (blocks ++ b ∷ []) file (record { low = it.low; has = it.has; mix = it.mix; rest = fits_last (x.index + 1) blocks b file it.rest behind has mix })

-- the index behind it
pub index_behind-last : (from : ℕ) (blocks : List ChangedBlock) (b : ChangedBlock) → index_behind from (blocks ++ b ∷ []) ≡ b.index + 1
index_behind-last from [] b = refl
index_behind-last from (x ∷ blocks) b = index_behind-last (x.index + 1) blocks b

-- a plan, once a block more has passed
pub passes_on : (before after old new : List ℕ) (blocks : List ChangedBlock) (index : ℕ) → length before ≡ 2880 * index → length after ≡ 2880 * index → length old ≡ 2880 → length new ≡ 2880 → IsPlanOf before after blocks
    → IsPlanOf (before ++ old) (after ++ new) (blocks ++ record { index = index; old = old; new = new } ∷ [])
passes_on before after old new blocks index here there long new_long plan =
    let b : ChangedBlock = record { index = index; old = old; new = new } in
    record {
      gives = λ rest.
          redone-append blocks (b ∷ []) (before ++ old ++ rest)
          ∙ ap (λ (l : List ℕ). with_block index new (redone blocks l)) (append_assoc before old rest)
          ∙ ap (λ (l : List ℕ). with_block index new l) (plan.gives (old ++ rest))
          ∙ with_block_amid index after old new rest there long;
      fits = λ rest.
          let file : List ℕ = before ++ old ++ rest in
          let own : fits 0 blocks file ≡ true = ap (λ (l : List ℕ). fits 0 blocks l) (append_assoc before old rest) ∙ plan.fits (old ++ rest) in
          let has : has_block index file ≡ true = room_has index file (omega (arith, length-append (before ++ old) rest, length-append before old, here, long)) in
          let same : block index file ≡ old = ap (λ (l : List ℕ). block index l) (append_assoc before old rest) ∙ block_amid index before old rest here long in
          let mix : is_mix old new (block index file) ≡ true = ap (λ (l : List ℕ). is_mix old new l) same ∙ mix_old old new (long ∙ sym new_long) in
          fits_last 0 blocks b file own (omega (arith, plan.within, here)) has mix;
      within = omega (arith, index_behind-last 0 blocks b, length-append before old, here, long);
    }

-- bytes that stay lengthen a plan
pub passes_by : (before after old new : List ℕ) (blocks : List ChangedBlock) → old ≡ new → IsPlanOf before after blocks → IsPlanOf (before ++ old) (after ++ new) blocks
passes_by before after old new blocks same plan = record {
  gives = λ rest.
      ap (λ (l : List ℕ). redone blocks l) (append_assoc before old rest) ∙ plan.gives (old ++ rest) ∙ sym (append_assoc after old rest) ∙ ap (λ (l : List ℕ). after ++ l ++ rest) same;
  fits = λ rest. ap (λ (l : List ℕ). fits 0 blocks l) (append_assoc before old rest) ∙ plan.fits (old ++ rest);
  within = omega (arith, plan.within, length-append before old);
}

-- a block before all of them gets other bytes
pub fits_behind : (from : ℕ) (blocks : List ChangedBlock) (index : ℕ) (bytes file : List ℕ) → fits from blocks file ≡ true → index < from → has_block index file ≡ true → length bytes ≡ 2880 → fits from blocks (with_block index bytes file) ≡ true
fits_behind from [] index bytes file h less has long = refl
fits_behind from (b ∷ blocks) index bytes file h less has long =
    let it = first_fits from b blocks file h in
    let same : block b.index (with_block index bytes file) ≡ block b.index file = block_elsewhere b.index index bytes file has long (inr (omega (arith, it.low))) in
    fits_first from b blocks (with_block index bytes file) (record {
      low = it.low;
      has = has_block-with_block b.index index bytes file has long it.has;
      mix = ap (λ (l : List ℕ). is_mix b.old b.new l) same ∙ it.mix;
      rest = fits_behind (b.index + 1) blocks index bytes file it.rest (omega (arith, it.low)) has long;
    })

-- what is known of a block of a plan that fits
pub record OneFits (from : ℕ) (x : ChangedBlock) (file : List ℕ) : Type 0 where
  pub low : from ≤ x.index
  pub has : has_block x.index file ≡ true
  pub mix : is_mix x.old x.new (block x.index file) ≡ true

-- each block of a plan that fits does
pub one_fits : (from : ℕ) (before : List ChangedBlock) (x : ChangedBlock) (after : List ChangedBlock) (file : List ℕ) → fits from (before ++ x ∷ after) file ≡ true → OneFits from x file
one_fits from [] x after file h = let it = first_fits from x after file h in record { low = it.low; has = it.has; mix = it.mix }
one_fits from (b ∷ before) x after file h =
    let it = first_fits from b (before ++ x ∷ after) file h in
    let more = one_fits (b.index + 1) before x after file it.rest in
    record { low = omega (arith, it.low, more.low); has = more.has; mix = more.mix }

-- so do its first ones
pub fits_front : (from : ℕ) (xs ys : List ChangedBlock) (file : List ℕ) → fits from (xs ++ ys) file ≡ true → fits from xs file ≡ true
fits_front from [] ys file h = refl
fits_front from (x ∷ xs) ys file h =
    let it = first_fits from x (xs ++ ys) file h in
    fits_first from x xs file (record { low = it.low; has = it.has; mix = it.mix; rest = fits_front (x.index + 1) xs ys file it.rest })

-- what is made is as long
pub length-redone : (from : ℕ) (blocks : List ChangedBlock) (file : List ℕ) → fits from blocks file ≡ true → length (redone blocks file) ≡ length file
length-redone from [] file h = refl
length-redone from (b ∷ blocks) file h =
    let it = first_fits from b blocks file h in
    let long = new_length b file it.has it.mix in
    length-redone (b.index + 1) blocks (with_block b.index b.new file) (fits_behind (b.index + 1) blocks b.index b.new file it.rest (omega arith) it.has long)
    ∙ length-with_block b.index b.new file it.has long

-- a file that is as long has the same blocks
pub has_as_long : (index : ℕ) (old new : List ℕ) → length new ≡ length old → has_block index old ≡ true → has_block index new ≡ true
has_as_long index old new same has = room_has index new (omega (arith, same, has_room index old has))

-- the plan is as good over another file
pub record AsGood (from : ℕ) (blocks : List ChangedBlock) (old new : List ℕ) : Type 0 where
  pub fits : fits from blocks new ≡ true
  pub gives : redone blocks new ≡ redone blocks old
  pub long : length new ≡ length old

-- a block of the plan that is written in part leaves the plan as good
pub torn : (from : ℕ) (before : List ChangedBlock) (x : ChangedBlock) (after : List ChangedBlock) (bytes file : List ℕ) → fits from (before ++ x ∷ after) file ≡ true → is_mix (block x.index file) x.new bytes ≡ true
    → AsGood from (before ++ x ∷ after) file (with_block x.index bytes file)
torn from [] x after bytes file h mix =
    let it = first_fits from x after file h in
    let long : length bytes ≡ 2880 = (mix_lengths (block x.index file) x.new bytes mix).0 ∙ length-block x.index file it.has in
    record {
      fits = fits_first from x after (with_block x.index bytes file) (record {
        low = it.low;
        has = has_block-with_block x.index x.index bytes file it.has long it.has;
        mix = ap (λ (l : List ℕ). is_mix x.old x.new l) (block-with_block x.index bytes file it.has long) ∙ mix_again x.old x.new (block x.index file) bytes it.mix mix;
        rest = fits_behind (x.index + 1) after x.index bytes file it.rest (omega arith) it.has long;
      });
      gives = ap (λ (l : List ℕ). redone after l) (with_block-with_block x.index bytes x.new file it.has long);
      long = length-with_block x.index bytes file it.has long;
    }
torn from (b ∷ before) x after bytes file h mix =
    let rest = before ++ x ∷ after in
    let it = first_fits from b rest file h in
    let one = one_fits (b.index + 1) before x after file it.rest in
    let long : length bytes ≡ 2880 = (mix_lengths (block x.index file) x.new bytes mix).0 ∙ length-block x.index file one.has in
    let new_long = new_length b file it.has it.mix in
    let less : b.index < x.index = omega (arith, one.low) in
    let same : block b.index (with_block x.index bytes file) ≡ block b.index file = block_elsewhere b.index x.index bytes file one.has long (inl less) in
    let later = torn (b.index + 1) before x after bytes file it.rest mix in
    let next = with_block b.index b.new file in
    let next_fits = fits_behind (b.index + 1) rest b.index b.new file it.rest (omega arith) it.has new_long in
    let there : block x.index next ≡ block x.index file = block_elsewhere x.index b.index b.new file it.has new_long (inr less) in
    let last = torn (b.index + 1) before x after bytes next next_fits (ap (λ (l : List ℕ). is_mix l x.new bytes) there ∙ mix) in
    record {
      fits = fits_first from b rest (with_block x.index bytes file) (record {
        low = it.low;
        has = has_block-with_block b.index x.index bytes file one.has long it.has;
        mix = ap (λ (l : List ℕ). is_mix b.old b.new l) same ∙ it.mix;
        rest = later.fits;
      });
      gives = ap (λ (l : List ℕ). redone rest l) (with_block_comm b.index x.index b.new bytes file new_long long less one.has) ∙ last.gives;
      long = length-with_block x.index bytes file one.has long;
    }

-- made twice it gives what it gives once
pub redone_again : (from : ℕ) (before after : List ChangedBlock) (file : List ℕ) → fits from (before ++ after) file ≡ true → AsGood from (before ++ after) file (redone after file)
redone_again from before [] file h = record { fits = h; gives = refl; long = refl }
redone_again from before (x ∷ after) file h =
    let one = one_fits from before x after file h in
    let old_long : length (block x.index file) ≡ length x.new = length-block x.index file one.has ∙ sym (new_length x file one.has one.mix) in
    let first = torn from before x after x.new file h (mix_new (block x.index file) x.new old_long) in
    let same : before ++ x ∷ after ≡ (before ++ x ∷ []) ++ after = sym (append_assoc before (x ∷ []) after) in
    let next = with_block x.index x.new file in
    let more = redone_again from (before ++ x ∷ []) after next (subst (λ l. fits from l next ≡ true) same first.fits) in
    record {
      fits = subst (λ l. fits from l (redone after next) ≡ true) (sym same) more.fits;
      gives = subst (λ l. redone l (redone after next) ≡ redone l next) (sym same) more.gives ∙ first.gives;
      long = more.long ∙ first.long;
    }
