-- Which statements are packed calls.
use Rattle.gang_model.specs.Types.Tree as t

abbrev pub IsPackedCall : t.Stmt → Type 0
IsPackedCall (t.PackedStore number array from e for) = Unit {0}
IsPackedCall (t.PackedLoad number array from x for) = Unit {0}
IsPackedCall s = ⊥
