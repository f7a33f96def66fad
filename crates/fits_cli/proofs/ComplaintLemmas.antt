-- The line of a complaint, put together from what was printed.
use Rattle.std.proofs.Common.{ℕ, List, ◌++◌}
use Rattle.std.specs.Prelude.{codes}
use Rattle.std.specs.Fmt.{decimal}
use Rattle.fits_cli.specs.Answer.{complaint}
use Rattle.fits_stream.specs.Stream.{SinkState, Prints, PrintsFront}
use Rattle.fits_stream.proofs.StreamLemmas.{Prints-more, PrintsFront-more, PrintsFront-longer}

-- a complaint isn't printed whole: not its first word
pub complaint_word : (a b : SinkState) (n : ℕ) (why : List ℕ) → PrintsFront (codes "line ") a b → PrintsFront (complaint n why) a b
complaint_word a b n why failed = PrintsFront-longer a b (codes "line ") (decimal n ++ (codes ": " ++ (why ++ codes "\n"))) failed

-- not its number
pub complaint_number : (a b c : SinkState) (n : ℕ) (why : List ℕ) → Prints (codes "line ") a b → PrintsFront (decimal n) b c → PrintsFront (complaint n why) a c
complaint_number a b c n why word failed =
    let rest : List ℕ = codes ": " ++ (why ++ codes "\n") in
    PrintsFront-more a b c (codes "line ") (decimal n ++ rest) word (PrintsFront-longer b c (decimal n) rest failed)

-- not its colon
pub complaint_colon : (a b c d : SinkState) (n : ℕ) (why : List ℕ) → Prints (codes "line ") a b → Prints (decimal n) b c → PrintsFront (codes ": ") c d
    → PrintsFront (complaint n why) a d
complaint_colon a b c d n why word number failed =
    let rest : List ℕ = why ++ codes "\n" in
    PrintsFront-more a b d (codes "line ") (decimal n ++ (codes ": " ++ rest)) word
    (PrintsFront-more b c d (decimal n) (codes ": " ++ rest) number (PrintsFront-longer c d (codes ": ") rest failed))

-- not what it says
pub complaint_why : (a b c d e : SinkState) (n : ℕ) (why : List ℕ) → Prints (codes "line ") a b → Prints (decimal n) b c → Prints (codes ": ") c d → PrintsFront why d e
    → PrintsFront (complaint n why) a e
complaint_why a b c d e n why word number colon failed =
    let rest : List ℕ = why ++ codes "\n" in
    PrintsFront-more a b e (codes "line ") (decimal n ++ (codes ": " ++ rest)) word
    (PrintsFront-more b c e (decimal n) (codes ": " ++ rest) number (PrintsFront-more c d e (codes ": ") rest colon (PrintsFront-longer d e why (codes "\n") failed)))

-- not its line feed
pub complaint_end : (a b c d e f : SinkState) (n : ℕ) (why : List ℕ) → Prints (codes "line ") a b → Prints (decimal n) b c → Prints (codes ": ") c d → Prints why d e
    → PrintsFront (codes "\n") e f → PrintsFront (complaint n why) a f
complaint_end a b c d e f n why word number colon reason failed =
    let rest : List ℕ = why ++ codes "\n" in
    PrintsFront-more a b f (codes "line ") (decimal n ++ (codes ": " ++ rest)) word
    (PrintsFront-more b c f (decimal n) (codes ": " ++ rest) number (PrintsFront-more c d f (codes ": ") rest colon (PrintsFront-more d e f why (codes "\n") reason failed)))

-- all of it is
pub complaint_whole : (a b c d e f : SinkState) (n : ℕ) (why : List ℕ) → Prints (codes "line ") a b → Prints (decimal n) b c → Prints (codes ": ") c d → Prints why d e
    → Prints (codes "\n") e f → Prints (complaint n why) a f
complaint_whole a b c d e f n why word number colon reason last =
    let rest : List ℕ = why ++ codes "\n" in
    Prints-more a b f (codes "line ") (decimal n ++ (codes ": " ++ rest)) word
    (Prints-more b c f (decimal n) (codes ": " ++ rest) number (Prints-more c d f (codes ": ") rest colon (Prints-more d e f why (codes "\n") reason last)))
