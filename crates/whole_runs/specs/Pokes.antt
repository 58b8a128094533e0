-- Pokes in the frame at a depth, or in the top one where no depth is given.
use Rattle.std.specs.Prelude.{ℕ, Option, Some, None, Result, Ok, Err}
use Rattle.gang_model.specs.Types.Tree.{Variable}
use Rattle.gang_model.specs.Debugger.Events.{InFrame, Poke, Poked}
use Rattle.gang_model.specs.Debugger.Debugger.{Debugger, Setting, moved, poked_by}
use Rattle.debug_traits.specs.declared.machine.Shown.{Shown}
use Rattle.debug_traits.specs.Frames.{IsShownAt}
use Rattle.debug_traits.specs.Machines.{IsShown, Pokes}

-- what a poke sets there
abbrev pub poked_in : (depth : Option ℕ) → Poked → Poked
poked_in None what = what
poked_in (Some deep) what = InFrame deep what

-- a variable in scope there or of the file, and what can be shown of it there
abbrev pub IsShownIn : (depth : Option ℕ) → Setting → Debugger → Variable → Shown → Type 0
IsShownIn None s d v shown = IsShown s d v shown
IsShownIn (Some deep) s d v shown = IsShownAt s d deep v shown

-- a value was set there and recorded; in the top frame as many words can be shown as before
abbrev pub PokesIn : {M : Type 0} → (depth : Option ℕ) → (M → Setting → Debugger → Type 0) → Setting → Debugger → Variable → Shown → Option ℕ → (word : ℕ) → M → Type 0
PokesIn None stands s d v shown at word new = Pokes stands s d v shown at word new
PokesIn (Some deep) stands s d v shown at word new = stands new s (moved (Poke (InFrame deep (poked_by v at)) word) d)

-- a value was set there and recorded; or there was no memory for it, and nothing changed
abbrev pub PokesInOrNot : {M X E : Type 0} → (depth : Option ℕ) → (M → Setting → Debugger → Type 0) → Setting → Debugger → Variable → Shown → Option ℕ → (word : ℕ) → Result X E → M → Type 0
PokesInOrNot depth stands s d v shown at word (Ok done) new = PokesIn depth stands s d v shown at word new
PokesInOrNot depth stands s d v shown at word (Err memory) new = stands new s d
