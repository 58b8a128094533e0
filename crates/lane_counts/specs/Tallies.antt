-- What a tally has counted, and what it comes to with the steps to come.
use Rattle.std.specs.Prelude.{◌≡◌, ℕ, Bool, true, ◌+◌, ◌*◌, ◌==◌, List, [], ◌∷◌, ◌++◌, drop, Option, Some, None}
use Rattle.gang_types.specs.Masks.{lanes_of}
use Rattle.foreach_forms.specs.declared.forms.Form.{Form}
use Rattle.lane_counts.specs.declared.counts.Counts.{Counts}
use Rattle.lane_counts.specs.declared.frames.LastStep.{LastStep}
use Rattle.lane_counts.specs.declared.names.Names.{Names}
use Rattle.lane_counts.specs.declared.tally.StepAt.{StepAt}
use Rattle.lane_counts.specs.declared.tally.Tally.{Tally}
use Rattle.lane_counts.specs.Steps.{Stand, at_line, called, depth, each, in_frame, in_function, lane_steps, partings, short_steps, steps}
use Rattle.lane_counts.specs.Counted.{AreFew, IsFew, counts_at, none}
use Rattle.lane_counts.specs.Formed.{is_inside, is_round}
use Rattle.lane_counts.specs.Naming.{AreDistinct, name_at}
use Rattle.lane_counts.specs.Pending.{IsQuiet, pending, width_of}

-- what is counted of the steps that are chosen
abbrev pub counts_of : (Stand → Bool) → List Stand → Counts
counts_of chosen stands =
    record { steps = steps chosen stands; lane_steps = lane_steps chosen stands; short_steps = short_steps chosen stands; partings = partings chosen stands }

-- the same without partings
abbrev pub unparted_of : (Stand → Bool) → List Stand → Counts
unparted_of chosen stands = record { steps = steps chosen stands; lane_steps = lane_steps chosen stands; short_steps = short_steps chosen stands; partings = 0 }

-- counts with those of later steps that are chosen, and with partings that these decide
abbrev pub with_later : Counts → (decided : ℕ) → (Stand → Bool) → List Stand → Counts
with_later c decided chosen later = record {
  steps = c.steps + steps chosen later;
  lane_steps = c.lane_steps + lane_steps chosen later;
  short_steps = c.short_steps + short_steps chosen later;
  partings = c.partings + decided + partings chosen later;
}

-- counts with those of later steps that are chosen, without their partings
abbrev pub unparted_with : Counts → (Stand → Bool) → List Stand → Counts
unparted_with c chosen later = record {
  steps = c.steps + steps chosen later;
  lane_steps = c.lane_steps + lane_steps chosen later;
  short_steps = c.short_steps + short_steps chosen later;
  partings = c.partings;
}

-- what a tally has of a line, with later steps
abbrev pub line_with : Tally → (line : ℕ) → List Stand → Counts
line_with tally line later = with_later (counts_at tally.lines.rows.items line) (pending (λ last. last.line == line) 1 tally.frames.lasts.items later) (at_line line) later

-- what it has of the own steps of the function of a number, which has this name, with later steps
abbrev pub own_with : Tally → (number : ℕ) → (name : List ℕ) → List Stand → Counts
own_with tally number name later =
    with_later (counts_at tally.own.rows.items number) (pending (λ last. last.function == number) 1 tally.frames.lasts.items later) (in_function name) later

-- what it has of all steps, with later ones
abbrev pub all_with : Tally → List Stand → Counts
all_with tally later = with_later tally.all (pending (λ last. true) 1 tally.frames.lasts.items later) each later

-- what it has of the steps at which a frame of the function of a number stands, which has this name, with later steps
abbrev pub whole_with : Tally → (number : ℕ) → (name : List ℕ) → List Stand → Counts
whole_with tally number name later = unparted_with (counts_at tally.whole.rows.items number) (in_frame name) later

-- what it has of the calls of the function of a number, which has this name, with later steps
abbrev pub calls_with : Tally → (number : ℕ) → (name : List ℕ) → List Stand → Counts
calls_with tally number name later = unparted_with (counts_at tally.calls.rows.items number) (in_function name) (called tally.last_depth later)

-- what it has of the rounds of the form of a number, with later steps
abbrev pub rounds_with : Tally → (number : ℕ) → Form → List Stand → Counts
rounds_with tally number form later = unparted_with (counts_at tally.forms.rounds.rows.items number) (λ stand. is_round form stand.spot) later

-- what it has of the steps inside the form of a number, with later steps
abbrev pub inside_with : Tally → (number : ℕ) → Form → List Stand → Counts
inside_with tally number form later = unparted_with (counts_at tally.forms.inside.rows.items number) (λ stand. is_inside form stand.spot) later

-- the last steps of frames, the bottom one's first, are those of frames of these functions, the top one's first
abbrev pub AreFrames : Names → List (Option LastStep) → List (List ℕ) → Type 0
AreFrames names lasts [] = lasts ≡ []
AreFrames names lasts (name ∷ below) =
    (rest : List (Option LastStep)) × (last : LastStep) × (lasts ≡ rest ++ Some last ∷ []) × (name_at names last.function ≡ Some name) × AreFrames names rest below

-- the frames that a tally has entered and not left are those of these functions, the top one's first
abbrev pub HasFrames : Tally → List (List ℕ) → Type 0
HasFrames tally functions = AreFrames tally.names tally.frames.lasts.items functions

-- the frames below that of a step stand there: those above them have been left
abbrev pub Follows : Tally → Stand → Type 0
Follows tally stand = (left : List (List ℕ)) × HasFrames tally (left ++ drop 1 stand.functions)

-- a step stands where it is told
pub record IsAt (at : StepAt) (stand : Stand) : Type 0 where
  pub line : stand.line ≡ at.line
  pub spot : stand.spot ≡ at.spot
  pub function : (below : List (List ℕ)) × (stand.functions ≡ at.function.now ∷ below)
  pub deep : depth stand ≡ at.depth
  pub lanes : stand.lanes ≡ lanes_of (width_of at.gang) at.lanes

-- no count is more than 16 times the number of all steps, and no two functions have one name
pub record IsSound (tally : Tally) : Type 0 where
  pub all : IsFew (16 * tally.all.steps) tally.all
  pub lines : AreFew (16 * tally.all.steps) tally.lines.rows.items
  pub own : AreFew (16 * tally.all.steps) tally.own.rows.items
  pub names : AreDistinct tally.names
  pub whole : AreFew (16 * tally.all.steps) tally.whole.rows.items
  pub calls : AreFew (16 * tally.all.steps) tally.calls.rows.items
  pub rounds : AreFew (16 * tally.all.steps) tally.forms.rounds.rows.items
  pub inside : AreFew (16 * tally.all.steps) tally.forms.inside.rows.items

-- nothing has been counted
pub record IsBegun (tally : Tally) : Type 0 where
  pub sound : IsSound tally
  pub all : tally.all ≡ none
  pub lines : tally.lines.rows.items ≡ []
  pub own : tally.own.rows.items ≡ []
  pub whole : tally.whole.rows.items ≡ []
  pub calls : tally.calls.rows.items ≡ []
  pub last_depth : tally.last_depth ≡ None
  pub rounds : tally.forms.rounds.rows.items ≡ []
  pub inside : tally.forms.inside.rows.items ≡ []
  pub frames : IsQuiet tally.frames.lasts.items
