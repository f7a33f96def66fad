-- The big-endian 32-bit words of a run of bytes, added up (FITS Standard 4.0, Appendix J).
use Rattle.std.specs.Prelude.{ℕ, ◌+◌, List, ◌∷◌, []}
use Rattle.byteorder.specs.Endian.{big_number}

-- the sum of the words, each of four bytes, the highest first; up to three bytes at the end count nothing
abbrev pub word_total : List ℕ → ℕ
word_total (a ∷ b ∷ c ∷ d ∷ rest) = big_number 4 (a ∷ b ∷ c ∷ d ∷ []) + word_total rest
word_total _ = 0
