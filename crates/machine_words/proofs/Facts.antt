-- That words lie as a layout says is a fact.
use Rattle.std.proofs.Common.{ℕ, List, [], ◌∷◌, ◌+◌}
use Rattle.std.proofs.Props.{props}
use Rattle.gang_memory.specs.declared.parts.Part.{Part}
use Rattle.gang_memory.specs.declared.layout.Layout.{Layout}
use Rattle.gang_memory.specs.Ranges.{AreInOrder}
use Rattle.gang_memory.specs.Layouts.{ranges}
use Rattle.machine_words.specs.Ranges.{IsLaid, IsPlanned}

in_order_fact : (from : ℕ) (parts : List Part) (to : ℕ) → IsProp (AreInOrder from parts to)
in_order_fact from [] to = Prim.hlevel props
in_order_fact from (p ∷ parts) to = Prim.hlevel (props, in_order_fact (p.first + p.len) parts to)

planned_fact : (width : ℕ) (layout : Layout) → IsProp (IsPlanned width layout)
planned_fact width layout = Prim.hlevel (props, in_order_fact 0 (ranges width layout) layout.words)

pub laid_fact : (width : ℕ) (layout : Layout) (words : List ℕ) → IsProp (IsLaid width layout words)
laid_fact width layout words = Prim.hlevel (props, planned_fact width layout)
