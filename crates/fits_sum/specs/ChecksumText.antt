-- The sixteen characters that a checksum is written as (FITS Standard 4.0, 4.4.2.7 and Appendix J).
use Rattle.std.specs.Prelude.{ℕ, ◌+◌, ◌-◌, ◌/◌, ◌%◌, nat_le, Bool, ◌&&◌, ◌||◌, List, [], ◌∷◌, ◌++◌, map, take, drop, replicate, slice_index}
use Rattle.std.specs.List.{prefix_len, range_with_len}
use Rattle.byteorder.specs.Endian.{big_bytes}

-- a digit, a capital or a small letter
abbrev pub is_letter_or_digit : ℕ → Bool
is_letter_or_digit character = (nat_le 48 character && nat_le character 57) || (nat_le 65 character && nat_le character 90) || (nat_le 97 character && nat_le character 122)

-- a character that stands between the digits and the capitals, or the capitals and the small letters
abbrev pub is_excluded : ℕ → Bool
is_excluded character = (nat_le 58 character && nat_le character 64) || (nat_le 91 character && nat_le character 96)

-- of two characters, the first moved up by n and the second down by n, one is excluded
abbrev pub is_excluded_pair : ℕ → ℕ → ℕ → Bool
is_excluded_pair first second n = is_excluded (first + n) || is_excluded (second - n)

-- the least n, from 0 on, by which the pair is moved so that neither is excluded
unfoldable pub least_move : ℕ → ℕ → ℕ
least_move first second = prefix_len (is_excluded_pair first second) (range_with_len 0 16)

-- the four characters of a byte: a quarter of it and 48 each, the first with the remainder, each pair moved
unfoldable pub characters_of : ℕ → List ℕ
characters_of byte =
    let quarter = byte / 4 + 48 in
    let first = quarter + byte % 4 in
    let n = least_move first quarter in
    let m = least_move quarter quarter in
    (first + n) ∷ (quarter - n) ∷ (quarter + m) ∷ (quarter - m) ∷ []

-- the character at a place: character j of byte i, the highest byte first, stands at place 4 * j + i
abbrev pub character_at : ℕ → ℕ → ℕ
character_at number place = slice_index (characters_of (slice_index (big_bytes 4 number) (place % 4))) (place / 4)

-- the characters of a sum's complement, rotated right by one place
abbrev pub checksum_text : ℕ → List ℕ
checksum_text sum = map (λ place. character_at (4294967295 - sum) ((place + 15) % 16)) (range_with_len 0 16)

-- a card with a text in place of its bytes 12 to 27
abbrev pub with_text : List ℕ → List ℕ → List ℕ
with_text card text = take 11 card ++ (text ++ drop 27 card)

-- sixteen `0`, which stand for the text while the sum is taken
abbrev pub zeros : List ℕ
zeros = replicate 16 48
