-- The card that says a sum as DATASUM (FITS Standard 4.0, sections 4.2.1.1 and 4.4.2.7).
use Rattle.std.specs.Prelude.{ℕ, ◌-◌, List, ◌++◌, length, codes, replicate, decimal}

-- its digits as a string of eight characters at least, without a comment
unfoldable pub datasum_card : ℕ → List ℕ
datasum_card sum =
    let text = codes "DATASUM = '" ++ (decimal sum ++ (replicate (8 - length (decimal sum)) 32 ++ codes "'")) in
    text ++ replicate (80 - length text) 32
