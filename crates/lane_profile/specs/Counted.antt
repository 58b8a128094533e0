-- What was counted of a run.
use Rattle.std.specs.Prelude.{◌≡◌, ℕ, true, false, List, [], ◌∷◌, Option, Some, None, slice_get}
use Rattle.std.specs.List.{All}
use Rattle.foreach_forms.specs.declared.forms.Form.{Form}
use Rattle.foreach_forms.specs.Forms.{forms_of}
use Rattle.gang_model.specs.Types.Tree.{Program}
use Rattle.gang_model.specs.Running.State.{State}
use Rattle.gang_model.specs.Debugger.Debugger.{has_ended}
use Rattle.gang_model.specs.Texts.Text.{Bytes}
use Rattle.gang_types.specs.declared.types.IntType.{IntType}
use Rattle.gang_types.specs.declared.types.Rate.{Rate}
use Rattle.gang_model.specs.Source.Parsed.{ParsedExpr}
use Rattle.typed_tree.specs.Views.{expr_view}
use Rattle.frame_expressions.specs.Meanings.{Means, entries_at}
use Rattle.element_touches.specs.Counted.{counts_of as touch_counts, none as nothing}
use Rattle.element_accesses.specs.declared.accesses.Access.{Access}
use Rattle.element_accesses.specs.declared.accesses.Accesses.{Accesses}
use Rattle.element_accesses.specs.Touched.{touches}
use Rattle.lane_counts.specs.declared.names.Names.{Names}
use Rattle.lane_counts.specs.declared.tally.StepAt.{StepAt}
use Rattle.lane_counts.specs.declared.tally.Tally.{Tally}
use Rattle.lane_counts.specs.Counted.{counts_at}
use Rattle.lane_counts.specs.Formed.{is_inside, is_round}
use Rattle.lane_counts.specs.Naming.{HasName, name_at}
use Rattle.lane_counts.specs.Steps.{at_line, called, each, in_frame, in_function}
use Rattle.lane_counts.specs.Tallies.{IsAt, counts_of, unparted_of}
use Rattle.lane_profile.specs.Stands.{stand_of, stands_of, states_done}

-- the first of these names is known
abbrev pub IsNamed : Names → List Bytes → Type 0
IsNamed names [] = Unit {0}
IsNamed names (name ∷ below) = HasName names name

-- a tally has the counts of the steps of a run: of each line, of the own steps and of the calls of each function that it names, of all of them,
-- and of the rounds and the steps inside each foreach form; and it names each function that has a step
pub record HasCounted (p : Program) (most : ℕ) (first : State) (tally : Tally) : Type 0 where
  pub lines : (line : ℕ) → counts_at tally.lines.rows.items line ≡ counts_of (at_line line) (stands_of p most first)
  pub own : (number : ℕ) (name : Bytes) → name_at tally.names number ≡ Some name → counts_at tally.own.rows.items number ≡ counts_of (in_function name) (stands_of p most first)
  pub calls : (number : ℕ) (name : Bytes) → name_at tally.names number ≡ Some name → counts_at tally.calls.rows.items number ≡ unparted_of (in_function name) (called None (stands_of p most first))
  pub named : All (λ stand. IsNamed tally.names stand.functions) (stands_of p most first)
  pub all : tally.all ≡ counts_of each (stands_of p most first)
  pub forms : tally.forms.forms.items ≡ forms_of p
  pub rounds : (number : ℕ) (form : Form) → slice_get (forms_of p) number ≡ Some form
      → counts_at tally.forms.rounds.rows.items number ≡ unparted_of (λ stand. is_round form stand.spot) (stands_of p most first)
  pub inside : (number : ℕ) (form : Form) → slice_get (forms_of p) number ≡ Some form
      → counts_at tally.forms.inside.rows.items number ≡ unparted_of (λ stand. is_inside form stand.spot) (stands_of p most first)

-- a tally has, of each function that it names, the counts of the steps of a run at which a frame of it stands, once or several times: with
-- its own steps, those of what it calls
abbrev pub HasCountedWhole : Program → (most : ℕ) → State → Tally → Type 0
HasCountedWhole p most first tally =
    (number : ℕ) (name : Bytes) → name_at tally.names number ≡ Some name → counts_at tally.whole.rows.items number ≡ unparted_of (in_frame name) (stands_of p most first)

-- an access that was not counted has what it touches in the steps of a run that are done, by the values of its index in the states before them,
-- in the lanes that do them; one that some lanes may not make has nothing
pub record IsTouched (p : Program) (most : ℕ) (first : State) (old new : Access) : Type 0 where
  pub same : new ≡ record old { done = new.done; tried = new.tried }
  pub unsure : old.is_sure ≡ false → new.done ≡ nothing
  pub counts : old.is_sure ≡ true → (written : ParsedExpr) (type : IntType) (rate : Rate) (means : Means written (entries_at p old.spot) type rate old.code.items)
      → new.done ≡ touch_counts (touches p old.spot (expr_view means.tree) (states_done p most first))

-- so has each access of some
abbrev pub HasTouched : Program → (most : ℕ) → State → (old new : Accesses) → Type 0
HasTouched p most first old new = (k : ℕ) (access : Access) → slice_get old.rows.items k ≡ Some access → access.done ≡ nothing → access.tried ≡ nothing
    → (after : Access) × (slice_get new.rows.items k ≡ Some after) × IsTouched p most first access after

-- the next step of a state stands where it is told, or the program has ended
abbrev pub IsNext : Program → State → Option StepAt → Type 0
IsNext p state None = has_ended state ≡ true
IsNext p state (Some at) = (has_ended state ≡ false) × IsAt at (stand_of p state)
