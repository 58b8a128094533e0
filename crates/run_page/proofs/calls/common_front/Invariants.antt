-- the calls before this one are the same
use Rattle.std.proofs.Common.{◌≡◌, ◌≤◌, length, take}
use Rattle.run_page.proofs.calls.common_front.Given as goal

abbrev pub invariant-loop-index : goal.invariant-loop-index
invariant-loop-index l = record {
  same : take l.index l.left ≡ take l.index l.right;
  inside : l.index ≤ length l.right;
}
