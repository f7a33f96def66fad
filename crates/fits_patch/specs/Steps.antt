-- Why a script isn't made: private contracts alone name it (own).
use Rattle.std.specs.Prelude.{◌≡◌, ℕ, List, Some, Err}
use Rattle.fits_making.specs.declared.refusal.Refusal.{Refusal}
use Rattle.fits_making.specs.declared.refusal.Refusal.TheVariants as refusal
use Rattle.fits_stream.specs.Stream.{SourceState}
use Rattle.fits_patch.specs.Ends.{SecondStops}
use Rattle.fits_patch.specs.Making.{Made}
use Rattle.fits_patch.specs.declared.patch_fault.PatchFault.{PatchFault}
use Rattle.fits_patch.specs.declared.patch_fault.PatchFault.TheVariants as patch
use Rattle.fits_patch.specs.declared.unmade.Unmade.{Unmade}
use Rattle.fits_patch.specs.declared.unmade.Unmade.TheVariants.{Refused, Memory}

-- a refusal, as why a line isn't accepted
abbrev pub unmade_of : Refusal → Unmade
unmade_of refusal.Memory = Memory
unmade_of why = Refused (Some why)

-- a line isn't accepted, or memory was refused
abbrev pub LineStops : List ℕ → Made → Unmade → Type 0
LineStops line made (Refused why) = made ≡ Err (line, why)
LineStops line made Memory = Unit {0}

-- so it is with one of some lines
abbrev pub ScriptStops : Made → PatchFault → Type 0
ScriptStops made (patch.Unmade line why) = made ≡ Err (line.items, why)
ScriptStops made patch.Memory = Unit {0}
ScriptStops made fault = ⊥

-- why the cards of the second file aren't had
abbrev pub SecondLacks : SourceState → SourceState → PatchFault → Type 0
SecondLacks b b' (patch.Second why) = SecondStops b b' why
SecondLacks b b' patch.Memory = Unit {0}
SecondLacks b b' fault = ⊥
