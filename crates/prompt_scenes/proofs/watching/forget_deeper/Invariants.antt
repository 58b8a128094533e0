-- what was said of the deeper watches that were read is forgotten
use Rattle.std.proofs.Common.{◌≡◌, drop}
use Rattle.conditional_stops.specs.Views.{table_of}
use Rattle.prompt_scenes.specs.FrameWatches.{forgotten_deeper}
use Rattle.prompt_scenes.proofs.watching.forget_deeper.Given as goal

abbrev pub invariant-loop-watch : goal.invariant-loop-watch
invariant-loop-watch l = forgotten_deeper l.known (drop l.watch-index l.watches) (table_of l.conditions) ≡ forgotten_deeper l.known l.watches (table_of l.initial.conditions)
