-- Which names a word asks for (own).
use Rattle.std.specs.Prelude.{ℕ, ◌-◌, nat_le, Bool, List, length, take, drop, codes, Option, Some, None, if◌then◌else◌}
use Rattle.std.specs.Str.{bytes_eq}
use Rattle.fits_script.specs.Words.{name_of_text}
use Rattle.fits_tell.specs.declared.name_pattern.NamePattern.{NamePattern}

-- a word ends in an asterisk
abbrev pub is_front : List ℕ → Bool
is_front word = bytes_eq (drop (length word - 1) word) (codes "*")

-- a word without its last byte
abbrev pub without_last : List ℕ → List ℕ
without_last word = take (length word - 1) word

-- the names that begin with a text
abbrev pub fronts : List ℕ → Option NamePattern
fronts front = if nat_le (length front) 8 then Some (record { name = name_of_text front; len = length front }) else None

-- the name that a word is
abbrev pub whole : List ℕ → Option NamePattern
whole word = if nat_le (length word) 8 then Some (record { name = name_of_text word; len = 8 }) else None

-- what a word asks for: the name that it is, or with an asterisk at its end all that begin so; more than 8 bytes are no name
unfoldable pub pattern_of : List ℕ → Option NamePattern
pattern_of word = if is_front word then fronts (without_last word) else whole word
