-- as many steps were done as rounds were made, and what the tally has comes with the steps that are left to what is to be counted
use Rattle.std.proofs.Common.{◌≡◌, ℕ, ◌≤◌, Bool, List, Option, Some, None, length}
use Rattle.std.specs.List.{All}
use Rattle.std.specs.Prelude.{slice_get}
use Rattle.element_touches.specs.Counted.{none}
use Rattle.element_accesses.specs.declared.accesses.Access.{Access}
use Rattle.foreach_forms.specs.declared.forms.Form.{Form}
use Rattle.foreach_forms.specs.Forms.{forms_of}
use Rattle.gang_model.specs.Debugger.Debugger.{Debugger, Setting, now}
use Rattle.lane_counts.specs.declared.names.Names.{Names}
use Rattle.lane_counts.specs.Formed.{is_inside, is_round}
use Rattle.lane_counts.specs.Naming.{AreDistinct, Extends, name_at}
use Rattle.lane_counts.specs.Steps.{at_line, called, each, in_frame, in_function}
use Rattle.lane_counts.specs.Tallies.{Follows, IsSound, all_with, calls_with, counts_of, inside_with, line_with, own_with, rounds_with, unparted_of, whole_with}
use Rattle.lane_meetings.specs.Partings.{Measure, parted, AreDistinct as AreDistinctRows}
use Rattle.lane_meetings.specs.Pending.{counted_with}
use Rattle.lane_profile.specs.Counted.{IsNamed}
use Rattle.lane_picture.specs.Seen.{state_after}
use Rattle.lane_profile.specs.Stands.{stand_of, stands_of}
use Rattle.lane_profile.proofs.Left.{stands_left}
use Rattle.lane_profile.proofs.Running.{SoFar}
use Rattle.lane_profile.proofs.Touching.{SoTouched}
use Rattle.lane_profile.proofs.run.count_steps.Given as goal

abbrev pub invariant-loop-count : goal.invariant-loop-count
invariant-loop-count g l = record {
  sound : IsSound l.tally;
  steps : l.tally.all.steps ≡ l._count;
  so_far : (s : Setting) (d : Debugger) → g.M.RecordedMachine.stands l.initial.machine s d → SoFar g.M.RecordedMachine.stands s l.most_steps d l._count l.machine;
  forms : (s : Setting) (d : Debugger) → g.M.RecordedMachine.stands l.initial.machine s d → l.tally.forms.forms.items ≡ forms_of s.program;
  lines : (s : Setting) (d : Debugger) → g.M.RecordedMachine.stands l.initial.machine s d → (line : ℕ)
      → line_with l.tally line (stands_left s.program l.most_steps (now s d) l._count) ≡ counts_of (at_line line) (stands_of s.program l.most_steps (now s d));
  own : (s : Setting) (d : Debugger) → g.M.RecordedMachine.stands l.initial.machine s d → (final : Names) (number : ℕ) (name : List ℕ)
      → Extends l.tally.names final → AreDistinct final → name_at final number ≡ Some name
      → own_with l.tally number name (stands_left s.program l.most_steps (now s d) l._count) ≡ counts_of (in_function name) (stands_of s.program l.most_steps (now s d));
  calls : (s : Setting) (d : Debugger) → g.M.RecordedMachine.stands l.initial.machine s d → (final : Names) (number : ℕ) (name : List ℕ)
      → Extends l.tally.names final → AreDistinct final → name_at final number ≡ Some name
      → calls_with l.tally number name (stands_left s.program l.most_steps (now s d) l._count) ≡ unparted_of (in_function name) (called None (stands_of s.program l.most_steps (now s d)));
  whole : (s : Setting) (d : Debugger) → g.M.RecordedMachine.stands l.initial.machine s d → length s.first.frames ≤ 1 → (final : Names) (number : ℕ) (name : List ℕ)
      → Extends l.tally.names final → AreDistinct final → name_at final number ≡ Some name
      → whole_with l.tally number name (stands_left s.program l.most_steps (now s d) l._count) ≡ unparted_of (in_frame name) (stands_of s.program l.most_steps (now s d));
  frames : (s : Setting) (d : Debugger) → g.M.RecordedMachine.stands l.initial.machine s d → length s.first.frames ≤ 1
      → Follows l.tally (stand_of s.program (state_after s.program l._count (now s d)));
  named : (s : Setting) (d : Debugger) → g.M.RecordedMachine.stands l.initial.machine s d → (final : Names) → Extends l.tally.names final
      → All (λ stand. IsNamed final stand.functions) (stands_left s.program l.most_steps (now s d) l._count) → All (λ stand. IsNamed final stand.functions) (stands_of s.program l.most_steps (now s d));
  all : (s : Setting) (d : Debugger) → g.M.RecordedMachine.stands l.initial.machine s d
      → all_with l.tally (stands_left s.program l.most_steps (now s d) l._count) ≡ counts_of each (stands_of s.program l.most_steps (now s d));
  rounds : (s : Setting) (d : Debugger) → g.M.RecordedMachine.stands l.initial.machine s d → (number : ℕ) (form : Form) → slice_get (forms_of s.program) number ≡ Some form
      → rounds_with l.tally number form (stands_left s.program l.most_steps (now s d) l._count) ≡ unparted_of (λ stand. is_round form stand.spot) (stands_of s.program l.most_steps (now s d));
  inside : (s : Setting) (d : Debugger) → g.M.RecordedMachine.stands l.initial.machine s d → (number : ℕ) (form : Form) → slice_get (forms_of s.program) number ≡ Some form
      → inside_with l.tally number form (stands_left s.program l.most_steps (now s d) l._count) ≡ unparted_of (λ stand. is_inside form stand.spot) (stands_of s.program l.most_steps (now s d));
  accesses : (s : Setting) (d : Debugger) → g.M.RecordedMachine.stands l.initial.machine s d → (k : ℕ) (access : Access)
      → slice_get l.initial.accesses.rows.items k ≡ Some access → access.done ≡ none → access.tried ≡ none
      → (so_far : Access) × (slice_get l.accesses.rows.items k ≡ Some so_far) × SoTouched s.program l.most_steps (now s d) l._count access so_far;
  meetings : (s : Setting) (d : Debugger) → g.M.RecordedMachine.stands l.initial.machine s d → (measure : Measure) (chosen : ℕ → Option ℕ → Bool)
      → counted_with measure chosen l.meetings (stands_left s.program l.most_steps (now s d) l._count) ≡ parted measure chosen (stands_of s.program l.most_steps (now s d));
  distinct : AreDistinctRows l.meetings.rows.rows.items;
}
