-- What a machine stands for.
use Rattle.std.specs.Prelude.{◌≡◌, ℕ, List, [], ◌∷◌, length}
use Rattle.undo_log.specs.History.{History, Moment}
use Rattle.debug_traits.specs.Machines.{kind_of}
use Rattle.gang_model.specs.Types.Tree as t
use Rattle.gang_model.specs.Debugger.Events.{Event, Row, start}
use Rattle.gang_model.specs.Debugger.Debugger.{Debugger, Setting, step_lines}
use Rattle.typed_tree.specs.declared.program.Program.{Program}
use Rattle.typed_tree.specs.Views.{program_view}
use Rattle.mask_states.specs.Masked.{Masked}
use Rattle.mask_states.specs.MaskedStep.{masked_after, masked_start}
use Rattle.machine_states.specs.Declared.{AreDeclared}
use Rattle.machine_states.specs.Shows.{Shows}
use Rattle.codegen.specs.Programs.{variables_of}
use Rattle.gang_memory.specs.declared.layout.Layout.{Layout}
use Rattle.machine_words.specs.Ranges.{regions_of}

-- what a contract sees of a machine: how many lanes a gang has, the number of the entry, the program, the lines of all functions' steps,
-- how the words lie, and the words with those before each kept event
pub record View : Type 0 where
  pub width : ℕ
  pub entry : ℕ
  pub program : Program
  pub lines : List ℕ
  pub layout : Layout
  pub history : History

abbrev pub view_of : (width entry : ℕ) → Program → (lines : List ℕ) → Layout → History → View
view_of width entry program lines layout history = record { width = width; entry = entry; program = program; lines = lines; layout = layout; history = history }

-- the same with the number of its moves: the steps that were tried, and the events that were to be taken back
pub record Counted : Type 0 where
  pub seen : View
  pub moves : ℕ

abbrev pub counted : View → (moves : ℕ) → Counted
counted seen moves = record { seen = seen; moves = moves }

abbrev pub history_of : Counted → History
history_of m = m.seen.history

abbrev pub moves_of : Counted → ℕ
moves_of m = m.moves

-- words show a masked state, of which each frame has declared what its lanes have passed
pub record ShowsWords (width : ℕ) (program : Program) (layout : Layout) (words : List ℕ) (masked : Masked) : Type 0 where
  pub shows : Shows (program_view program) (variables_of program) width (regions_of width layout words) masked
  pub declared : AreDeclared (variables_of program) (program_view program) masked

-- the masked state after events, the newest first, of a run that begins with these rows
abbrev pub masked_at : (width entry : ℕ) → t.Program → List Row → List Event → Masked
masked_at width entry p rows events = masked_after p (masked_start p entry rows width) events

-- each kept list of words shows the state before its event
abbrev pub AreKept : (width entry : ℕ) → Program → Layout → List Row → List Event → List Moment → Type 0
AreKept width entry program layout rows events [] = Unit {0}
AreKept width entry program layout rows [] (moment ∷ past) = ⊥
AreKept width entry program layout rows (event ∷ events) (moment ∷ past) =
    (moment.event ≡ kind_of event) × ShowsWords width program layout moment.before (masked_at width entry (program_view program) rows events)
    × AreKept width entry program layout rows events past

-- A machine that is seen so stands where the debugger of the definitions stands, in a run that began with some rows.
pub record SeenStands (m : View) (s : Setting) (d : Debugger) : Type 0 where
  pub program : s.program ≡ program_view m.program
  pub rows : List Row
  pub first : s.first ≡ start (program_view m.program) m.entry rows m.width
  pub lines : step_lines s.program ≡ m.lines
  pub words : ShowsWords m.width m.program m.layout m.history.words (masked_at m.width m.entry (program_view m.program) rows d.events)
  pub past : AreKept m.width m.entry m.program m.layout rows d.events m.history.past
  pub kept : d.kept ≡ length m.history.past
  pub limit : d.history ≡ m.history.limit

-- the machine stands there, however often it has moved
abbrev pub Stands : Counted → Setting → Debugger → Type 0
Stands m s d = SeenStands m.seen s d
