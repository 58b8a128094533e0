-- the rows before this one are kept
use Rattle.std.proofs.Common.{◌≡◌, ◌<◌, ◌≤◌, ℕ, length}
use Rattle.std.specs.Prelude.{if◌then◌else◌, option_map, slice_get}
use Rattle.element_accesses.specs.Rows.{kept}
use Rattle.element_accesses.specs.StepRows.{is_within}
use Rattle.element_accesses.proofs.accesses.keep_each.Given as goal

abbrev pub invariant-loop-row : goal.invariant-loop-row
invariant-loop-row l = record {
  kept_so_far : (k : ℕ) → slice_get l.rows.items k
      ≡ (if is_within (record { first = l.fn.noted.first; end = l.row }) k then option_map kept (slice_get l.initial.rows.items k) else slice_get l.initial.rows.items k);
  same : length l.rows.items ≡ length l.initial.rows.items;
  few : l.fn.noted.first < l.row → l.row ≤ l.row-end;
}
