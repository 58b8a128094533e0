-- What can be seen of the variables where a program stands.
use Rattle.std.specs.Prelude.{◌≡◌, ℕ, zero, suc, ◌<◌, ◌≤◌, List, Contains, length, map, slice_get, Some}
use Rattle.gang_model.specs.Types.Tree.{Program, Variable}
use Rattle.gang_model.specs.Running.State.{State}
use Rattle.gang_model.specs.Debugger.Debugger.{shown_words}
use Rattle.debug_traits.specs.declared.machine.Shown.{Shown}
use Rattle.debug_traits.specs.Frames.{scope_at, state_at}

-- a variable of the frame at a depth, or of the file at depth 0: its name, and what can be shown of it there
pub record Sight : Type 0 where
  pub depth : ℕ
  pub name : List ℕ
  pub shown : Shown

-- the state that shows what is seen at a depth: of the file as it is, and of a frame with no frame above it
abbrev pub seen_in : (depth : ℕ) → State → State
seen_in zero state = state
seen_in (suc below) state = state_at (suc below) state

-- the variables that are seen at a depth: those of the file, or those in scope in the frame
abbrev pub variables_at : Program → (depth : ℕ) → State → List Variable
variables_at p zero state = map (λ g. g.variable) p.globals
variables_at p (suc below) state = scope_at p (suc below) state

-- the words of a variable at a depth
abbrev pub words_at : (depth : ℕ) → State → Variable → List ℕ
words_at deep state v = shown_words (seen_in deep state) v

-- how a variable is seen at a depth
abbrev pub sight_of : (depth : ℕ) → State → Variable → Sight
sight_of deep state v = record {
  depth = deep;
  name = v.name;
  shown = record { id = v.id; value_type = v.type; rate = v.rate; is_array = v.is_array; is_constant = v.is_constant; count = length (words_at deep state v) };
}

-- a variable is seen so: one of the file, or one in scope in one of the frames
pub record Sees (p : Program) (state : State) (sight : Sight) (v : Variable) : Type 0 where
  pub frame : sight.depth ≤ length state.frames
  pub there : Contains (variables_at p sight.depth state) v
  pub same : sight ≡ sight_of sight.depth state v

-- it is seen where a program stands
abbrev pub IsSeen : Program → State → Sight → Type 0
IsSeen p state sight = (v : Variable) × Sees p state sight v

-- it is seen where a program stands, and this word is that of its lane or element of this number, one of the first so many
abbrev pub Shows : Program → (most : ℕ) → State → Sight → (part word : ℕ) → Type 0
Shows p most state sight part word = (v : Variable) × Sees p state sight v × (part < most) × (slice_get (words_at sight.depth state v) part ≡ Some word)
