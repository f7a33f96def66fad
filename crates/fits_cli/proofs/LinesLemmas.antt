-- A text cut into lines, and one more piece of it.
use Rattle.std.proofs.Common.{◌≡◌, ℕ, List, [], ◌∷◌, ◌++◌, refl, ap, sym, ◌∙◌, append_assoc, inl, inr, rules, false}
use Rattle.std.specs.Prelude.{◌==◌}
use Rattle.std.specs.List.{list_any}
use Rattle.std.proofs.lemmas.Bool.{cases_Bool, or_from}
use Rattle.std.proofs.lemmas.List.{append-nil}
use Rattle.std.proofs.lemmas.List.Concat.{flat_map-append}
use Rattle.std.proofs.lemmas.List.Elements.{All-append, All-cons, All-nil, All-head, All-tail}
use Rattle.std.proofs.lemmas.List.Folds.{list_any-append}
use Rattle.fits_script.specs.Cut.{HasNo}
use Rattle.fits_cli.specs.Script.{HasNoLineFeed, ended_lines, IsCutInLines}

-- two texts without a byte, joined
pub HasNo-append : (byte : ℕ) (xs ys : List ℕ) → HasNo byte xs → HasNo byte ys → HasNo byte (xs ++ ys)
HasNo-append byte xs ys p q =
    list_any-append (λ b. b == byte) xs ys ∙ or_from (list_any (λ b. b == byte) xs) (list_any (λ b. b == byte) ys) p q

-- nothing is no line
pub IsCutInLines-none : IsCutInLines [] [] []
IsCutInLines-none = record { joined = refl; whole = All-nil HasNoLineFeed; open_end = refl }

-- more of the last piece
pub IsCutInLines-open : (text piece last : List ℕ) (lines : List (List ℕ)) → HasNoLineFeed piece → IsCutInLines text lines last → IsCutInLines (text ++ piece) lines (last ++ piece)
IsCutInLines-open text piece last lines none cut = record {
  joined = ap (λ t. t ++ piece) cut.joined ∙ append_assoc (ended_lines lines) last piece;
  whole = cut.whole;
  open_end = HasNo-append 10 last piece cut.open_end none;
}

-- lines, and one more
ended_lines-more : (lines : List (List ℕ)) (line : List ℕ) → ended_lines (lines ++ line ∷ []) ≡ ended_lines lines ++ (line ++ 10 ∷ [])
ended_lines-more lines line = flat_map-append (λ l. l ++ 10 ∷ []) lines (line ∷ []) ∙ ap (λ t. ended_lines lines ++ t) (append-nil (line ++ 10 ∷ []))

-- a line feed ends the last piece
pub IsCutInLines-line : (text last : List ℕ) (lines : List (List ℕ)) → IsCutInLines text lines last → IsCutInLines (text ++ 10 ∷ []) (lines ++ last ∷ []) []
IsCutInLines-line text last lines cut = record {
  joined = ap (λ t. t ++ 10 ∷ []) cut.joined ∙ append_assoc (ended_lines lines) last (10 ∷ []) ∙ sym (ended_lines-more lines last) ∙ sym (append-nil (ended_lines (lines ++ last ∷ [])));
  whole = All-append HasNoLineFeed lines (last ∷ []) cut.whole (All-cons HasNoLineFeed last [] cut.open_end (All-nil HasNoLineFeed));
  open_end = refl;
}

-- whole lines, and a text after them
pub IsCutInLines-append : (text more last : List ℕ) (lines others : List (List ℕ)) → IsCutInLines text lines [] → IsCutInLines more others last → IsCutInLines (text ++ more) (lines ++ others) last
IsCutInLines-append text more last lines others front back = record {
  joined =
      let whole : text ≡ ended_lines lines = front.joined ∙ append-nil (ended_lines lines) in
      ap (λ t. t ++ more) whole ∙ ap (λ t. ended_lines lines ++ t) back.joined ∙ sym (append_assoc (ended_lines lines) (ended_lines others) last)
      ∙ ap (λ t. t ++ last) (sym (flat_map-append (λ l. l ++ 10 ∷ []) lines others));
  whole = All-append HasNoLineFeed lines others front.whole back.whole;
  open_end = back.open_end;
}

-- a text cut into lines
pub record Cut (text : List ℕ) : Type 0 where
  pub lines : List (List ℕ)
  pub last : List ℕ
  pub cut : IsCutInLines text lines last

-- a byte before a text that is cut: a line feed ends an empty line, another byte begins the first piece
cut_after : (byte : ℕ) (bytes : List ℕ) → Cut bytes → Cut (byte ∷ bytes)
cut_after byte bytes c =
    elim (cases_Bool (byte == 10)) [
      | inl feed ↦ record {
        lines = [] ∷ c.lines;
        last = c.last;
        cut = record {
          joined = let same : byte ≡ 10 = search rules in ap (λ b. b ∷ bytes) same ∙ ap (λ t. 10 ∷ t) c.cut.joined;
          whole = All-cons HasNoLineFeed [] c.lines refl c.cut.whole;
          open_end = c.cut.open_end;
        };
      }
      | inr other ↦ begun byte bytes c.lines c.last other c.cut
    ]
  where
    begun : (byte : ℕ) (bytes : List ℕ) (lines : List (List ℕ)) (last : List ℕ) → (byte == 10) ≡ false → IsCutInLines bytes lines last → Cut (byte ∷ bytes)
    begun byte bytes [] last other cut = record {
      lines = [];
      last = byte ∷ last;
      cut = record { joined = ap (λ t. byte ∷ t) cut.joined; whole = cut.whole; open_end = or_from (byte == 10) (list_any (λ b. b == 10) last) other cut.open_end };
    }
    begun byte bytes (line ∷ lines) last other cut = record {
      lines = (byte ∷ line) ∷ lines;
      last = last;
      cut = record {
        joined = ap (λ t. byte ∷ t) cut.joined;
        whole = All-cons HasNoLineFeed (byte ∷ line) lines (or_from (byte == 10) (list_any (λ b. b == 10) line) other (All-head HasNoLineFeed line lines cut.whole)) (All-tail HasNoLineFeed line lines cut.whole);
        open_end = cut.open_end;
      };
    }

-- each text can be cut
pub a_cut : (text : List ℕ) → Cut text
a_cut [] = record { lines = []; last = []; cut = IsCutInLines-none }
a_cut (byte ∷ bytes) = cut_after byte bytes (a_cut bytes)
