-- A script, cut at its line feeds (own).
use Rattle.std.specs.Prelude.{◌≡◌, ℕ, List, [], ◌∷◌, ◌++◌, All}
use Rattle.std.specs.List.{flat_map}
use Rattle.fits_script.specs.Cut.{HasNo}

-- no line feed is in the text
abbrev pub HasNoLineFeed : List ℕ → Type 0
HasNoLineFeed text = HasNo 10 text

-- lines, a line feed after each
abbrev pub ended_lines : List (List ℕ) → List ℕ
ended_lines lines = flat_map (λ line. line ++ 10 ∷ []) lines

-- the text is these lines, each with its line feed, and a last piece without one
pub record IsCutInLines (text : List ℕ) (lines : List (List ℕ)) (last : List ℕ) : Type 0 where
  pub joined : text ≡ ended_lines lines ++ last
  pub whole : All HasNoLineFeed lines
  pub open_end : HasNoLineFeed last

-- the last line may be without its line feed; a script that ends with one has no further line
abbrev pub script_lines : List (List ℕ) → List ℕ → List (List ℕ)
script_lines lines [] = lines
script_lines lines (byte ∷ bytes) = lines ++ (byte ∷ bytes) ∷ []
