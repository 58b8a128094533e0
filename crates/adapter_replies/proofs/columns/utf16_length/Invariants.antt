-- the units of the bytes up to an index
use Rattle.std.proofs.Common.{◌≡◌, ◌≤◌, ◌*◌, length, take}
use Rattle.std.specs.List.{sum_by}
use Rattle.adapter_replies.specs.Columns.{units_of}
use Rattle.adapter_replies.proofs.columns.utf16_length.Given as goal

abbrev pub invariant-loop-byte : goal.invariant-loop-byte
invariant-loop-byte l = record {
  counted : l.units ≡ sum_by units_of (take l.byte-index l.text);
  few : l.units ≤ l.byte-index * 2;
  within : l.byte-index ≤ length l.text;
}
