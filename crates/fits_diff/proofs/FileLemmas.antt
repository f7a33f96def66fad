-- Two files, read side by side to their ends.
use Rattle.std.proofs.Common.{◌≡◌, ℕ, ◌+◌, ◌-◌, ◌<◌, ◌≤◌, Bool, false, List, [], ◌++◌, length, refl, ap, sym, subst, ◌∙◌, append_assoc, arith, inl, inr, Option, None, Some}
use Rattle.std.specs.Prelude.{IfSome}
use Rattle.std.specs.Io.KnownBytes.{Consumes, IsAtEnd}
use Rattle.std.proofs.lemmas.Bool.{cases_lt, false≢true}
use Rattle.std.proofs.lemmas.List.{append-nil}
use Rattle.fits_stream.specs.Gave.{Gave, Overruns}
use Rattle.fits_stream.specs.Intake.{supply, IntakeState, IsSpent, Supply, Takes, TellsAll}
use Rattle.fits_stream.specs.Stream.{IsDry, SourceState}
use Rattle.fits_stream.proofs.GaveLemmas.{gave}
use Rattle.fits_stream.proofs.SightLemmas.{rest_given, takes_more, tells_after}
use Rattle.fits_stream.proofs.StreamLemmas.{Reads-none}
use Rattle.fits_passing.specs.Hdu.{HduParts}
use Rattle.fits_passing.specs.File.{begins_extension, FileParts, IsFileOf, IsFrontOf, joined_hdus}
use Rattle.fits_passing.specs.Reading.{GaveWhole, Walked}
use Rattle.fits_passing.specs.declared.limits.TheConstants.{FILE_LIMIT, HDU_LIMIT}
use Rattle.fits_passing.proofs.WalkLemmas.{extension_same, few_after, file_walked, read_given}
use Rattle.fits_diff.specs.Differences.{tail_line, TellsFiles}
use Rattle.fits_diff.specs.DiffSteps.{is_it, IsSeen, MayFollow, PassesFile, PassesFiles, TakesTails, WalkAll}
use Rattle.fits_diff.proofs.AloneLemmas.{each_is, each_itself}

-- no extension begins after the last HDU, whatever follows
ends_whatever : (a a' : Supply) (bytes : List ℕ) → begins_extension a.ahead ≡ false → Takes a a' bytes → (length a.ahead < 2880 → (a' ≡ a) × (bytes ≡ [])) → (rest : List ℕ) → MayFollow a' rest → begins_extension (bytes ++ (a'.ahead ++ rest)) ≡ false
ends_whatever a a' bytes ends p still rest follows = elim (cases_lt (length a.ahead) 2880) [
  | inl less ↦
      let it = still less in
      let short : length a'.ahead < 2880 = omega (arith, less, ap (λ (s : Supply). length s.ahead) it.0) in
      ap (λ t. begins_extension (t ++ (a'.ahead ++ rest))) it.1 ∙ ap (λ t. begins_extension (a'.ahead ++ t)) (follows short) ∙ ap begins_extension (append-nil a'.ahead) ∙ ap (λ (s : Supply). begins_extension s.ahead) it.0 ∙ ends
  | inr many ↦
      ap begins_extension (sym (append_assoc bytes a'.ahead rest) ∙ ap (λ t. t ++ rest) (sym p.joined) ∙ append_assoc a.ahead p.more rest) ∙ extension_same a.ahead (p.more ++ rest) (inr (omega (arith, many))) ∙ ends
]

-- the HDUs of one, and some of what follows them
passes_file : (hdus : List HduParts) (bytes : List ℕ) (a b c : Supply) → Walked is_it hdus a b → 0 < length hdus → length hdus ≤ HDU_LIMIT → begins_extension b.ahead ≡ false → Takes b c bytes → (length b.ahead < 2880 → (c ≡ b) × (bytes ≡ [])) → IsSeen c → PassesFile hdus bytes a c
passes_file hdus bytes a b c p some few ends q still seen =
    let same : p.hdus ≡ hdus = each_is hdus p.hdus p.each in
    let front : IsFrontOf (joined_hdus hdus) hdus [] = subst (λ (vs : List HduParts). IsFrontOf (joined_hdus vs) vs []) same p.front in
    let before : Takes a b (joined_hdus hdus) = subst (λ (vs : List HduParts). Takes a b (joined_hdus vs)) same p.taken in
    record { front = front; some = some; few = few; taken = takes_more a b c (joined_hdus hdus) bytes before q; seen = seen; ends = ends_whatever b c bytes ends q still }

-- those of both
pub passes_files : (a b c d e f : Supply) (text : List ℕ) (same : Bool) → WalkAll a b d e text → begins_extension b.ahead ≡ false → begins_extension e.ahead ≡ false → TakesTails b c e f same → PassesFiles a c d f text same
passes_files a b c d e f text same p ends ends_other q = record {
  hdus = p.hdus;
  others = p.others;
  bytes = q.bytes;
  passed = passes_file p.hdus q.bytes a b c p.walked p.some p.few ends q.taken q.still q.seen;
  passed_other = passes_file p.others q.bytes d e f p.walked_other p.some_other p.few_other ends_other q.taken_other q.still_other q.seen_other;
  told = p.told;
  alike = q.alike;
}

-- what came last is all that was left
tells_last : (x y : Option (List ℕ)) (bytes : List ℕ) → Consumes x y bytes → IsAtEnd y → IfSome x (λ left. left ≡ bytes)
tells_last None y bytes p end = tt
tells_last (Some xs) None bytes p end = absurd p
tells_last (Some xs) (Some ys) bytes p end = p ∙ (ap (λ t. bytes ++ t) end ∙ append-nil bytes)

-- no more came than might
few_came : (left : ℕ) (a b : SourceState) (rest : Overruns left false a b) → length rest.bytes ≤ left
few_came left a b rest = elim (cases_lt left (length rest.bytes)) [ inl far ↦ absurd (false≢true (rest.far.1 far)) | inr le ↦ le ]

-- what is ahead is taken too, and nothing is ahead then
ahead_too : (a b : Supply) (bytes : List ℕ) → Takes a b bytes → Takes a (record { ahead = []; source = b.source; left = b.left }) (bytes ++ b.ahead)
ahead_too a b bytes p = record { more = p.more; joined = p.joined ∙ sym (append-nil (bytes ++ b.ahead)); drawn = record { read = p.drawn.read; count = p.drawn.count } }

-- so is all that comes after it
rest_too : (b : Supply) (c : SourceState) (rest : Overruns b.left false b.source c) → Takes b (record { ahead = []; source = c; left = b.left - length rest.bytes }) (b.ahead ++ rest.bytes)
rest_too b c rest = record { more = rest.bytes; joined = sym (append-nil (b.ahead ++ rest.bytes)); drawn = record { read = rest.read; count = omega (arith, few_came b.left b.source c rest) } }

-- no more comes
none_comes : (c : SourceState) (left : ℕ) → Overruns left false c c
none_comes c left = record { bytes = []; read = Reads-none c; far = (λ so. absurd (false≢true so), λ far. absurd (omega (arith, far))) }

-- where nothing may follow what is ahead, a source gave what was taken, and that
gave_ahead : (a b : Supply) (c : SourceState) (bytes : List ℕ) → a.ahead ≡ [] → Takes a b bytes → IsSpent b → Overruns b.left false b.source c → IsDry c → Gave a.source c (bytes ++ b.ahead)
gave_ahead a b c bytes begun p spent rest dry = gave a (record { ahead = []; source = b.source; left = b.left }) c (bytes ++ b.ahead) begun (ahead_too a b bytes p) (record { none = refl; spent = spent }) rest dry

-- else also what came then
gave_rest : (a b : Supply) (c : SourceState) (bytes : List ℕ) → a.ahead ≡ [] → Takes a b bytes → (rest : Overruns b.left false b.source c) → IsDry c → Gave a.source c (bytes ++ (b.ahead ++ rest.bytes))
gave_rest a b c bytes begun p rest dry =
    let last : Supply = record { ahead = []; source = c; left = b.left - length rest.bytes } in
    gave a last c (bytes ++ (b.ahead ++ rest.bytes)) begun (takes_more a b last bytes (b.ahead ++ rest.bytes) p (rest_too b c rest)) (record { none = refl; spent = inr dry }) (none_comes c last.left) dry

-- the bytes are this file
abbrev pub IsThis : FileParts → List ℕ → Type 0
IsThis file bytes = IsFileOf bytes file

-- a file that a source gave to its end: its HDUs, and what follows them, of which this came last
pub record EndsFile (hdus : List HduParts) (bytes : List ℕ) (a : SourceState) (now : Supply) (c : SourceState) : Type 0 where
  pub rest : List ℕ
  pub follows : MayFollow now rest
  pub whole : GaveWhole a c (IsThis (record { hdus = hdus; tail = bytes ++ (now.ahead ++ rest) }))

-- HDUs and what follows them are a file
file_of : (hdus : List HduParts) (tail : List ℕ) → IsFrontOf (joined_hdus hdus) hdus [] → 0 < length hdus → length hdus ≤ HDU_LIMIT → begins_extension tail ≡ false → length (joined_hdus hdus ++ tail) ≤ FILE_LIMIT
    → IsFileOf (joined_hdus hdus ++ tail) (record { hdus = hdus; tail = tail })
file_of hdus tail front some few ends size = file_walked is_it hdus hdus tail (each_itself hdus) front some few ends size

-- all that one gave is a file
file_ends : (hdus : List HduParts) (bytes : List ℕ) (a b : Supply) (c : SourceState) → a.ahead ≡ [] → length a.ahead + a.left ≤ FILE_LIMIT → PassesFile hdus bytes a b → IfSome b.source.remaining (λ ys. length ys ≤ b.left) → Overruns b.left false b.source c → IsDry c
    → (rest : List ℕ) × MayFollow b rest × ((all : List ℕ) × TellsAll a all × Gave a.source c all × IsThis (record { hdus = hdus; tail = bytes ++ (b.ahead ++ rest) }) all)
file_ends hdus bytes a b c begun limit p within over dry =
    let front : List ℕ = joined_hdus hdus in
    let so_far : List ℕ = front ++ bytes in
    elim (cases_lt (length b.ahead) 2880) [
      | inl less ↦
          let s = rest_given b within in
          let none : s.0 ≡ [] = s.2.1 (p.seen less) in
          let follows : MayFollow b [] = λ l. refl in
          let tail : List ℕ = bytes ++ (b.ahead ++ []) in
          let all : so_far ++ (b.ahead ++ []) ≡ front ++ tail = append_assoc front bytes (b.ahead ++ []) in
          let size : length (so_far ++ (b.ahead ++ [])) ≤ FILE_LIMIT = few_after a b so_far [] p.taken limit (omega arith) in (
            [],
            follows,
            (
              front ++ tail,
              subst (TellsAll a) (ap (λ t. so_far ++ (b.ahead ++ t)) none ∙ all) (tells_after a b so_far s.0 p.taken s.1),
              subst (Gave a.source c) (ap (λ t. so_far ++ t) (sym (append-nil b.ahead)) ∙ all) (gave_ahead a b c so_far begun p.taken (p.seen less) over dry),
              file_of hdus tail p.front p.some p.few (p.ends [] follows) (subst (λ t. length t ≤ FILE_LIMIT) all size),
            ),
          )
      | inr many ↦
          let follows : MayFollow b over.bytes = λ l. absurd (omega (arith, l, many)) in
          let tail : List ℕ = bytes ++ (b.ahead ++ over.bytes) in
          let all : so_far ++ (b.ahead ++ over.bytes) ≡ front ++ tail = append_assoc front bytes (b.ahead ++ over.bytes) in
          let size : length (so_far ++ (b.ahead ++ over.bytes)) ≤ FILE_LIMIT = few_after a b so_far over.bytes p.taken limit (few_came b.left b.source c over) in (
            over.bytes,
            follows,
            (
              front ++ tail,
              subst (TellsAll a) all (tells_after a b so_far over.bytes p.taken (tells_last b.source.remaining c.remaining over.bytes over.read.gone dry.left)),
              subst (Gave a.source c) all (gave_rest a b c so_far begun p.taken over dry),
              file_of hdus tail p.front p.some p.few (p.ends over.bytes follows) (subst (λ t. length t ≤ FILE_LIMIT) all size),
            ),
          )
    ]

-- so it is of an intake that began with none ahead
pub file_ended : (hdus : List HduParts) (bytes : List ℕ) (a : SourceState) (i : IntakeState) (b : Supply) (c : SourceState) → i ≡ record { ahead = []; left = FILE_LIMIT } → PassesFile hdus bytes (supply a i) b → IfSome b.source.remaining (λ ys. length ys ≤ b.left)
    → Overruns b.left false b.source c → IsDry c → EndsFile hdus bytes a b c
file_ended hdus bytes a i b c is p within over dry =
    let q = file_ends hdus bytes (supply a i) b c (ap (λ (j : IntakeState). j.ahead) is) (omega (arith, ap (λ (j : IntakeState). length j.ahead + j.left) is)) p within over dry in
    record { rest = q.0; follows = q.1; whole = read_given (IsThis (record { hdus = hdus; tail = bytes ++ (b.ahead ++ q.0) })) a c i is q.2 }

-- what differs in both
pub files_told : (a c d f : Supply) (text new : List ℕ) (same : Bool) (rest other : List ℕ) (p : PassesFiles a c d f text same) → MayFollow c rest → MayFollow f other → new ≡ text ++ tail_line same
    → TellsFiles (record { hdus = p.hdus; tail = p.bytes ++ (c.ahead ++ rest) }) (record { hdus = p.others; tail = p.bytes ++ (f.ahead ++ other) }) new
files_told a c d f text new same rest other p follows follows_other is = record { of_hdus = text; told = p.told; is = is ∙ ap (λ b. text ++ tail_line b) (sym (p.alike rest other follows follows_other)) }
