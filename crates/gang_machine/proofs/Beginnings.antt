-- A machine before its first step.
use Rattle.std.proofs.Common.{ℕ, ◌≤◌, ◌≡◌, refl, sym, ◌∙◌, ap, subst, List, [], length, Some, arith}
use Rattle.std.specs.Prelude.{All}
use Rattle.std.proofs.lemmas.List.Elements.{All-nil}
use Rattle.std.proofs.lemmas.List.{length-replicate}
use Rattle.gang_types.specs.Masks.{IsGangWidth}
use Rattle.undo_log.specs.History.{History}
use Rattle.gang_model.specs.Debugger.Debugger.{fresh}
use Rattle.gang_model.specs.Debugger.Events.{Row}
use Rattle.gang_model.specs.Texts.Transcript.{setting}
use Rattle.gang_model.specs.Types.Tree.{Function}
use Rattle.typed_tree.specs.Views.{program_view}
use Rattle.gang_memory.specs.Recorded.{without_words}
use Rattle.mask_states.specs.MaskedStep.{masked_start}
use Rattle.machine_states.specs.Cells.{cells_of}
use Rattle.machine_states.specs.Nesting.{most_levels}
use Rattle.machine_words.specs.declared.words.MachineWords.{MachineWords}
use Rattle.machine_words.proofs.Plans.{planned_for}
use Rattle.frame_steps.specs.Compiled.{function_of, program_of}
use Rattle.frame_steps.specs.Standing.{AreFor, IsShown}
use Rattle.frame_steps.proofs.CalledFrames.{start_called}
use Rattle.frame_steps.proofs.GangLanes.{gang_wide}
use Rattle.gang_machine.specs.declared.opening.PreparedProgram.{PreparedProgram}
use Rattle.gang_machine.specs.Machines.{IsMachine, IsSoundMoment}
use Rattle.gang_machine.specs.Openings.{IsNew, IsPrepared}
use Rattle.gang_machine.specs.Standings.{AreKept, SeenStands, view_of}

module _ {T : Type 0} (history : T → History) (width : ℕ) (prepared : PreparedProgram) (is : IsPrepared width prepared) (timeline : T) (new_record : IsNew prepared.layout.words (history timeline)) where
  -- its words lie as the program's layout says
  pub first_lie : IsGangWidth width → cells_of width (program_of prepared.compiled) ≤ (history timeline).room
      → AreFor history width prepared.compiled (record { layout = prepared.layout; store = record { timeline = timeline } })
  first_lie gang room = record {
    gang = gang;
    compiled_is = is.compiled;
    lengths = is.lengths;
    layout = is.layout;
    laid = record {
      planned = planned_for width (most_levels (program_of prepared.compiled)) prepared.layout prepared.compiled.program is.lengths is.layout;
      long = ap (λ h. length h.words) new_record ∙ length-replicate prepared.layout.words 0;
      small = is.small;
    };
    room = room;
  }

  none_kept : (words : MachineWords T) → without_words (history words.store.timeline) ≡ without_words (history timeline) → (history words.store.timeline).past ≡ []
  none_kept words kept = ap (λ h. h.past) kept ∙ ap (λ h. h.past) new_record

  -- it is a machine
  pub first_machine : (words : MachineWords T) (entry : ℕ) (rows : List Row) (f : Function) → function_of prepared.compiled entry ≡ Some f → AreFor history width prepared.compiled words
      → IsShown history width prepared.compiled words (masked_start (program_of prepared.compiled) entry rows width)
      → without_words (history words.store.timeline) ≡ without_words (history timeline) → 1 ≤ (history timeline).limit → IsMachine history width prepared.compiled words
  first_machine words entry rows f function lie shown kept limit =
      let wide = gang_wide width lie.gang in
      record {
        lie = lie;
        masked = masked_start (program_of prepared.compiled) entry rows width;
        shown = shown;
        called = start_called (program_of prepared.compiled) entry width rows f function (omega (arith, wide));
        past = subst (λ past. All (IsSoundMoment width prepared.compiled words.layout) past) (sym (none_kept words kept)) (All-nil (IsSoundMoment width prepared.compiled words.layout));
        limit = omega (arith, limit, ap (λ h. h.limit) kept);
      }

  -- it stands before the first step, and keeps nothing
  pub first_stands : (words : MachineWords T) (entry : ℕ) (rows : List Row) → IsShown history width prepared.compiled words (masked_start (program_of prepared.compiled) entry rows width)
      → without_words (history words.store.timeline) ≡ without_words (history timeline) → (steps : ℕ)
      → SeenStands (view_of width entry prepared.compiled.program prepared.lines.items words.layout (history words.store.timeline))
      (setting (program_view prepared.compiled.program) entry rows (record { width = width; history = (history timeline).limit; steps = steps })) (fresh (history timeline).limit)
  first_stands words entry rows shown kept steps =
      let none = none_kept words kept in
      record {
        program = refl;
        rows = rows;
        first = refl;
        lines = is.lines;
        words = record { shows = shown.shows; declared = shown.declared };
        past = subst (AreKept width entry prepared.compiled.program words.layout rows []) (sym none) tt;
        kept = ap length (sym none);
        limit = sym (ap (λ h. h.limit) kept);
      }
