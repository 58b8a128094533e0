use Rattle.std.proofs.Common.{length, take}
use Rattle.typed_tree.specs.Views.{segments_view}
use Rattle.codegen.specs.Codes.{AreSegments}
use Rattle.codegen.proofs.forms.segments.Given as goal

-- the segments so far
abbrev pub invariant-loop-segment : goal.invariant-loop-segment
invariant-loop-segment l = AreSegments l.made.items (segments_view (take (length l.yielded) l.labelled)) (take (length l.yielded) l.entries)
