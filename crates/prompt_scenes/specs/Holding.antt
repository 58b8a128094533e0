-- What a prompt holds from line to line, as far as it decides what is done.
use Rattle.std.specs.Prelude.{ℕ, Bool, false, List, [], map}
use Rattle.prompt_lines.specs.Sources.{Sheet}
use Rattle.prompt_lines.specs.Words.{Spelled}
use Rattle.prompt_texts.specs.declared.source.Source.{Source}
use Rattle.conditional_stops.specs.declared.watches.Watch.{Watch}
use Rattle.conditional_stops.specs.Tables.{Table, nothing}
use Rattle.conditional_stops.specs.Views.{table_of}
use Rattle.prompt_lines.specs.declared.line.Kind.TheVariants as kind
use Rattle.prompt_scenes.specs.declared.holding.Checkpoint.{Checkpoint}
use Rattle.prompt_scenes.specs.declared.holding.Displayed.{Displayed}
use Rattle.prompt_scenes.specs.declared.holding.LastMove.{LastMove}
use Rattle.prompt_scenes.specs.declared.holding.LastMove.TheVariants as last
use Rattle.prompt_scenes.specs.declared.holding.Holding as declared

-- the numbers of the last breakpoints that go when they have stopped a move; what is displayed after each move, by its number and
-- its command line; the next such number; whether the program has begun, by a move or by `run`; the number of the frame
-- that is selected, the top one being number 0; the moments that were noted, each by its number and how many steps lead to it; the
-- next such number; the conditions and the counts of breakpoints and watches, and which are disabled; the watches of what frames show;
-- what stopped the last move
pub record Held : Type 0 where
  pub temporaries : List ℕ
  pub displays : List (ℕ × List ℕ)
  pub next : ℕ
  pub has_begun : Bool
  pub frame : ℕ
  pub checkpoints : List (ℕ × ℕ)
  pub next_checkpoint : ℕ
  pub table : Table
  pub frames : List Watch
  pub last_move : LastMove

-- what is held at the start
abbrev pub held_at_start : Held
held_at_start = record { temporaries = []; displays = []; next = 1; has_begun = false; frame = 0; checkpoints = []; next_checkpoint = 1; table = nothing; frames = []; last_move = last.Still }

-- a blank line, which does nothing
abbrev pub nothing_kept : Spelled
nothing_kept = record { kind = kind.Own; text = [] }

-- what is displayed, by its number
abbrev pub entry_of : Displayed → ℕ × List ℕ
entry_of displayed = (displayed.number, displayed.text.items)

-- a moment that was noted, by its number
abbrev pub noted_of : Checkpoint → ℕ × ℕ
noted_of checkpoint = (checkpoint.number, checkpoint.step)

-- what is held, as the definitions have it
abbrev pub held : declared.Holding → Held
held h = record {
  temporaries = h.temporaries.items;
  displays = map entry_of h.displays.items;
  next = h.next;
  has_begun = h.has_begun;
  frame = h.frame;
  checkpoints = map noted_of h.checkpoints.items;
  next_checkpoint = h.next_checkpoint;
  table = table_of h.conditions;
  frames = h.frames.items;
  last_move = h.last_move;
}

-- the source that is shown
abbrev pub sheet : Source → Sheet
sheet source = record { name = source.name.now; text = source.text.now }
