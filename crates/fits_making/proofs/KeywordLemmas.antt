-- Steps of changes of a keyword.
use Rattle.std.proofs.Common.{◌≡◌, arith, inl, inr, ℕ, true, false, List, [], length, refl, Option, None, Some}
use Rattle.std.specs.Prelude.{Ok, Err, IsOk, ◌+◌}
use Rattle.fits_card.specs.Name.{is_settable}
use Rattle.fits_card.specs.declared.change.Change.TheVariants.{Splice}
use Rattle.fits_value.specs.Written.{write_says}
use Rattle.fits_value.specs.declared.value.Value.{Value}
use Rattle.fits_value.specs.declared.write.WriteFault.{WriteFault}
use Rattle.fits_value.specs.declared.write.WriteFault.TheVariants as write
use Rattle.fits_hdu.specs.Keyword.{keyword_cards, replacing, with_links}
use Rattle.fits_hdu.specs.declared.keyword_cards.KeywordCards.{KeywordCards}
use Rattle.fits_making.specs.CardEdit.{is_keyword_name, setting, set_of, unset_of}
use Rattle.fits_making.specs.Refusal.{ChangeFails, refusal_of_writing}
use Rattle.fits_making.specs.declared.refusal.Refusal.TheVariants as refusal
use Rattle.fits_hdu.specs.Work.{keyword_reads}
use Rattle.fits_rules.specs.Lead.{lead_place}
use Rattle.fits_value.specs.Says.{chain_length}
use Rattle.std.specs.Option.{option_map, option_map_or}
use Rattle.fits_hdu.specs.State.{HduState, ReadsUpTo}

-- a name that can't have a value is the first test
pub not_settable : (cards : List (List ℕ)) (name : List ℕ) (value : Value) (comment : Option (List ℕ)) → is_settable name ≡ false → set_of cards name value comment ≡ Err refusal.BadName
unfolding set_of
not_settable cards name value comment e = rw e refl

-- what is left is whether the value can be written
settable : (cards : List (List ℕ)) (name : List ℕ) (value : Value) (comment : Option (List ℕ)) (written : Option (List (List ℕ))) → is_settable name ≡ true → write_says name value comment ≡ written → set_of cards name value comment ≡ setting (length cards) (keyword_cards cards name) written
unfolding set_of
settable cards name value comment written e says = rw (e, says) refl

-- its cards come instead of the keyword's
pub is_set : (cards new : List (List ℕ)) (name : List ℕ) (value : Value) (comment : Option (List ℕ)) (old : Option KeywordCards) → is_settable name ≡ true → write_says name value comment ≡ Some new → old ≡ keyword_cards cards name → set_of cards name value comment ≡ Ok (replacing (length cards) old new)
is_set cards new name value comment old e says at = rw at (settable cards name value comment (Some new) e says)

-- where it can't be written, or memory runs out
can_write : (cards : List (List ℕ)) (name : List ℕ) (value : Value) (comment : Option (List ℕ)) (written : Option (List (List ℕ))) → is_settable name ≡ true → write_says name value comment ≡ written → (written ≡ None → ⊥) → IsOk (set_of cards name value comment)
can_write cards name value comment None e says some = absurd (some refl)
can_write cards name value comment (Some new) e says some = rw (settable cards name value comment (Some new) e says) refl

-- a fault of writing is the edit's
pub not_written : (cards : List (List ℕ)) (name : List ℕ) (value : Value) (comment : Option (List ℕ)) (fault : WriteFault) → is_settable name ≡ true → (fault ≡ write.BadValue → write_says name value comment ≡ None) → (write_says name value comment ≡ None → fault ≡ write.BadValue)
    → ChangeFails (set_of cards name value comment) (refusal_of_writing fault)
not_written cards name value comment write.BadValue e bad firm = inl (settable cards name value comment None e (bad refl))
not_written cards name value comment write.Memory e bad firm = inr (refl, can_write cards name value comment (write_says name value comment) e refl (λ none. let same = firm none in cc))

pub ruleset set_steps = (not_settable, is_set)

-- for a keyword that has no lead nothing is read
pub no_lead_reads : (cards : List (List ℕ)) (name : List ℕ) → None ≡ keyword_cards cards name → keyword_reads cards name ≡ 0
unfolding keyword_cards keyword_reads
no_lead_reads cards name none = led (lead_place cards name) none
  where
    led : (place : Option ℕ) → None ≡ option_map (with_links cards) place → option_map_or (λ place. chain_length cards place + 1) place 0 ≡ 0
    led None e = refl
    led (Some place) e = absurd (let z : ◌≡◌ {A = Option KeywordCards} None (Some (with_links cards place)) = e in cc)

-- so whatever may be read, no more was
pub nothing_read : (old new : HduState) (name : List ℕ) (count : ℕ) → None ≡ keyword_cards old.header.header.cards name → ReadsUpTo old new (keyword_reads old.header.header.cards name) → ReadsUpTo old new count
nothing_read old new name count none read = record {
  header = record {
    header = read.header.header;
    shape = read.header.shape;
    room = read.header.room;
    least = read.header.least;
    most = omega (arith, read.header.most, no_lead_reads old.header.header.cards name none);
  };
  plane = read.plane;
  entry = read.entry;
  kept = read.kept;
  absent = read.absent;
}

-- a name that isn't a keyword's is the first test
pub not_keyword : (cards : List (List ℕ)) (name : List ℕ) → is_keyword_name name ≡ false → unset_of cards name ≡ Err refusal.BadName
unfolding unset_of
not_keyword cards name e = rw e refl

-- a lead that is missing is the second
pub no_lead : (cards : List (List ℕ)) (name : List ℕ) → is_keyword_name name ≡ true → None ≡ keyword_cards cards name → unset_of cards name ≡ Err refusal.NoKey
unfolding unset_of
no_lead cards name e at = rw (e, ← at) refl

-- else the keyword's cards go
pub is_unset : (cards : List (List ℕ)) (name : List ℕ) (old : KeywordCards) → is_keyword_name name ≡ true → Some old ≡ keyword_cards cards name → unset_of cards name ≡ Ok (Splice old.place old.count [])
unfolding unset_of
is_unset cards name old e at = rw (e, ← at) refl

pub ruleset unset_steps = (not_keyword, no_lead, is_unset)
