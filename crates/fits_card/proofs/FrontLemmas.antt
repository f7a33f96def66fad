-- The cards before END, also where no header stands there.
use Rattle.std.proofs.Common.{◌≡◌, ℕ, ◌+◌, ◌-◌, ◌*◌, ◌≤◌, List, [], ◌++◌, length, take, drop, refl, ap, sym, ◌∙◌, append_assoc, subst, arith, All, inl, inr}
use Rattle.std.proofs.lemmas.Bool.{cases_lt}
use Rattle.std.proofs.lemmas.List.{drop-drop, length-append, take_at}
use Rattle.std.proofs.lemmas.List.Concat.{flat_map-append}
use Rattle.fits_card.specs.Card.{IsEnd}
use Rattle.fits_card.specs.Header.{AreFrontCards, EndsCards, IsInnerCard, joined_cards}
use Rattle.fits_card.specs.HeaderSteps.{HasNoEnd, IsEndPlace, piece, pieces}
use Rattle.fits_card.proofs.CutLemmas.{drop-cards, length-piece, piece-joined_cards}
use Rattle.fits_card.proofs.HeaderLemmas.{length-joined_cards}
use Rattle.fits_card.proofs.HeaderReadingLemmas.{ended_block, inner_ended}

-- the bytes after inner cards, piece by piece
piece-after : (cards : List (List ℕ)) (block : List ℕ) (j : ℕ) → All IsInnerCard cards → length cards ≤ j → piece (joined_cards cards ++ block) j ≡ piece block (j - length cards)
piece-after cards block j inner le =
    let at : 80 * j ≡ 80 * length cards + 80 * (j - length cards) = omega (arith, le) in
    ap (take 80) (ap (λ k. drop k (joined_cards cards ++ block)) at ∙ sym (drop-drop (80 * (j - length cards)) (80 * length cards) (joined_cards cards ++ block)) ∙ ap (drop (80 * (j - length cards))) (drop-cards cards block inner))

-- END stands after as many pieces as there are cards before it
ends_piece : (bytes : List ℕ) (cards : List (List ℕ)) (h : EndsCards bytes cards) → piece bytes (length cards) ≡ h.end
ends_piece bytes cards h =
    ap (λ t. piece t (length cards)) h.joined ∙ ap (take 80) (drop-cards cards (h.end ++ h.more) h.inner) ∙ take_at h.end h.more 80 h.end_size

-- and within the bytes
ends_within : (bytes : List ℕ) (cards : List (List ℕ)) (h : EndsCards bytes cards) → 80 * (length cards + 1) ≤ length bytes
ends_within bytes cards h =
    omega (arith, ap length h.joined, length-append (joined_cards cards) (h.end ++ h.more), length-append h.end h.more, length-joined_cards cards h.inner, h.end_size)

-- neither these cards nor the block has an END
none_ends : (cards others : List (List ℕ)) (block : List ℕ) → All IsInnerCard cards → HasNoEnd block → EndsCards (joined_cards cards ++ block) others → ⊥
none_ends cards others block inner none h =
    let n : ℕ = length others in
    let within = ends_within (joined_cards cards ++ block) others h in
    let ends : IsEnd (piece (joined_cards cards ++ block) n) = subst (λ (card : List ℕ). IsEnd card) (sym (ends_piece (joined_cards cards ++ block) others h)) h.ends in
    elim (cases_lt n (length cards)) [
      | inl below ↦ (inner n [] below).not_end (subst (λ (card : List ℕ). IsEnd card) (piece-joined_cards cards block n inner below) ends)
      | inr beyond ↦ none (n - length cards) (omega (arith, beyond, within, length-append (joined_cards cards) block, length-joined_cards cards inner)) (subst (λ (card : List ℕ). IsEnd card) (piece-after cards block n inner beyond) ends)
    ]

-- cards, and those of a block before its END, stand before it
block_ends : (cards new : List (List ℕ)) (block : List ℕ) (n : ℕ) → All IsInnerCard cards → IsEndPlace block n → new ≡ cards ++ pieces block n → EndsCards (joined_cards cards ++ block) new
block_ends cards new block n inner place is =
    let more : List ℕ = drop (80 * (n + 1)) block in
    record {
      end = piece block n;
      more = more;
      inner = inner_ended cards new block n inner place is;
      end_size = length-piece block n place.within;
      ends = place.ends;
      joined = ap (λ t. joined_cards cards ++ t) (sym (ended_block block more n refl))
          ∙ sym (append_assoc (joined_cards cards) (joined_cards (pieces block n)) (piece block n ++ more))
          ∙ ap (λ t. t ++ (piece block n ++ more)) (sym (flat_map-append (λ card. card) cards (pieces block n)) ∙ ap joined_cards (sym is));
    }

-- with a block that has an END
pub front_ended : (cards new : List (List ℕ)) (block : List ℕ) (n : ℕ) → All IsInnerCard cards → IsEndPlace block n → new ≡ cards ++ pieces block n → AreFrontCards (joined_cards cards ++ block) new
front_ended cards new block n inner place is = inl (block_ends cards new block n inner place is)

-- and with one that has none
pub front_open : (cards new : List (List ℕ)) (block : List ℕ) → All IsInnerCard cards → HasNoEnd block → new ≡ [] → AreFrontCards (joined_cards cards ++ block) new
front_open cards new block inner none empty = inr (empty, λ others h. none_ends cards others block inner none h)

pub ruleset front_steps = (front_ended, front_open)
