-- A text, cut at a byte (own).
use Rattle.std.specs.Prelude.{◌≡◌, ℕ, ◌==◌, false, List}
use Rattle.std.specs.List.{list_any}

-- the byte isn't in the text
abbrev pub HasNo : ℕ → List ℕ → Type 0
HasNo separator text = list_any (λ byte. byte == separator) text ≡ false
