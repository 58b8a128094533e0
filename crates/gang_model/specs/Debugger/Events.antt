-- Steps and pokes from the start (GDB manual, "Continuing and Stepping" and "Assignment to Variables"; the list of events is a
-- choice of this project).
use Rattle.std.specs.Prelude.{ℕ, ◌+◌, true, List, [], ◌∷◌, ◌++◌, map, length, replicate, drop, Option, Some, None, slice_get, slice_set, if◌then◌else◌}
use Rattle.gang_types.specs.declared.types.Rate.{Rate}
use Rattle.gang_types.specs.declared.types.Rate.TheVariants.{Uniform, Varying}
use Rattle.gang_types.specs.declared.places.VarId.{VarId}
use Rattle.gang_types.specs.declared.places.VarId.TheVariants.{File, Local}
use Rattle.gang_model.specs.Types.Tree.{Global, Variable, Program, Nothing, Function}
use Rattle.gang_model.specs.Running.State.{Store, View, State, view_of, words_in, words_of, with_words, with_words_in}
use Rattle.gang_model.specs.Running.Step.{Passed, new_frame, settle, step, Stepped, Goes, Fails, Over}
use Rattle.gang_model.specs.Debugger.Frames.{frames_above, state_at, under}

-- what a poke sets: a uniform scalar or all lanes of a varying one, one lane of a scalar, or one element of an array; of the file or of the top
-- frame, or of the frame at a depth
pub data Poked : Type 0 where
  WholeOf : VarId → Poked
  LaneOf : VarId → (lane : ℕ) → Poked
  ElementAt : VarId → (index : ℕ) → Poked
  InFrame : (depth : ℕ) → Poked → Poked

-- a step, or a poke with its word
pub data Event : Type 0 where
  Step : Event
  Poke : Poked → (word : ℕ) → Event

-- what the input text gives a variable, a parameter of the entry or one of the file: its words
pub record Row : Type 0 where
  pub variable : Variable
  pub words : List ℕ

-- one word as a scalar's words
abbrev pub scalar_words : Rate → ℕ → ℕ → List ℕ
scalar_words Uniform width word = word ∷ []
scalar_words Varying width word = replicate width word

-- the first words of a file-scope variable
abbrev pub global_words : ℕ → Global → List ℕ
global_words width g = if g.variable.is_array then replicate g.len 0 else scalar_words g.variable.rate width g.word

-- the first words of all file-scope variables
abbrev pub initial_memory : ℕ → List Global → Store
initial_memory width [] = []
initial_memory width (g ∷ globals) = (g.variable.id, global_words width g) ∷ initial_memory width globals

-- given words in front, and behind them the rest of the old ones
abbrev pub covered : List ℕ → List ℕ → List ℕ
covered new old = new ++ drop (length new) old

-- what the entry's frame and the memory begin with
pub record Given : Type 0 where
  pub passed : Passed
  pub memory : Store

-- with the row of an array parameter, which is an array of its own, or of a scalar parameter
abbrev pub with_parameter : ℕ → Row → Given → Given
with_parameter n row given = if row.variable.is_array
    then record {
      passed = record given.passed { views = (Local n, record { array = Local n; first = 0; len = length row.words }) ∷ given.passed.views };
      memory = with_words given.memory (Local n) row.words;
    }
    else record given { passed = record given.passed { vars = (Local n, row.words) ∷ given.passed.vars } }

-- with the row of this variable
abbrev pub with_row : VarId → Row → Given → Given
with_row (File n) row given = record given { memory = with_words given.memory (File n) (covered row.words (words_of given.memory (File n))) }
with_row (Local n) row given = with_parameter n row given

-- with all rows
abbrev pub with_rows : List Row → Given → Given
with_rows [] given = given
with_rows (row ∷ rows) given = with_rows rows (with_row row.variable.id row given)

-- the entry's frame with all lanes over the memory, settled; no frame where there is no such function
abbrev pub started : Option Function → ℕ → ℕ → Given → State
started None entry width given = record { memory = given.memory; frames = [] }
started (Some f) entry width given =
    settle (record { memory = given.memory; frames = new_frame entry f (replicate width true) None Nothing given.passed ∷ [] })

-- the first state of a run: initialisers, input rows, and the entry's frame
abbrev pub start : Program → (entry : ℕ) → List Row → (width : ℕ) → State
start p entry rows width =
    started (slice_get p.functions entry) entry width
    (with_rows rows (record { passed = record { views = []; vars = [] }; memory = initial_memory width p.globals }))

-- the state with an element of a part of an array set
abbrev pub with_element : View → ℕ → ℕ → State → State
with_element view k word state =
    record state { memory = with_words state.memory view.array (slice_set (words_of state.memory view.array) (view.first + k) word) }

-- the state after a poke
abbrev pub poked : Poked → ℕ → State → State
poked (WholeOf v) word state = with_words_in state v (map (λ old. word) (words_in state v))
poked (LaneOf v k) word state = with_words_in state v (slice_set (words_in state v) k word)
poked (ElementAt v k) word state = with_element (view_of state v) k word state
poked (InFrame deep what) word state = under (frames_above deep state.frames) (poked what word (state_at deep state))

-- the state that a step leads to; where there is no step, the old one
abbrev pub gone : Stepped → State → State
gone (Goes state) old = state
gone (Fails fault) old = old
gone Over old = old

-- the state after one event
abbrev pub happen : Program → Event → State → State
happen p Step state = gone (step p state) state
happen p (Poke what word) state = poked what word state

-- the state after the events, the newest of which comes first
abbrev pub after : Program → State → List Event → State
after p first [] = first
after p first (event ∷ events) = happen p event (after p first events)
