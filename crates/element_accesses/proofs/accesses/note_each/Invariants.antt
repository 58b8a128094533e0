-- the rows before this one are noted, and the others are as they were
use Rattle.std.proofs.Common.{◌≡◌, ◌<◌, ◌≤◌, ℕ, true, false, length}
use Rattle.std.specs.Prelude.{slice_get}
use Rattle.element_accesses.specs.Rows.{IsNoted}
use Rattle.element_accesses.specs.StepRows.{is_within}
use Rattle.element_accesses.proofs.accesses.note_each.Given as goal

abbrev pub invariant-loop-row : goal.invariant-loop-row
invariant-loop-row g l = record {
  these : (k : ℕ) → is_within (record { first = l.fn.of_step.first; end = l.row }) k ≡ true → IsNoted g.M.RecordedMachine.stands l.machine l.depth l.spot (slice_get l.initial.rows.items k) (slice_get l.rows.items k);
  others : (k : ℕ) → is_within (record { first = l.fn.of_step.first; end = l.row }) k ≡ false → slice_get l.rows.items k ≡ slice_get l.initial.rows.items k;
  same : length l.rows.items ≡ length l.initial.rows.items;
  begun : l.fn.of_step.first ≤ l.row;
  few : l.fn.of_step.first < l.row → l.row ≤ l.row-end;
}
