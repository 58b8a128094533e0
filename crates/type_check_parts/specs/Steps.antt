-- What is counted of the steps of a statement.
use Rattle.std.specs.Prelude.{ℕ}
use Rattle.source_tree.specs.declared.tree.Stmt.{Stmt, Empty, Block', ForEach', ForEachActive', ForEachUnique'}

-- the greatest number, which stands for all that are too large
abbrev pub greatest : ℕ
greatest = 18446744073709551615

-- the steps that a statement has beside those of the statements in it
abbrev pub own_steps : Stmt → ℕ
own_steps Empty = 0
own_steps (Block' shape ss) = 0
own_steps (ForEach' at is_tiled dims p x) = 2
own_steps (ForEachActive' at name_at name p x) = 2
own_steps (ForEachUnique' at name_at name e p x) = 2
own_steps s = 1
