-- The lines of a function's steps.
use Rattle.std.proofs.Common.{◌≡◌, refl, ap, ℕ, List, [], ◌∷◌, map, Option, Some, None}
use Rattle.gang_model.specs.Debugger.Debugger.{lesser}
use Rattle.gang_model.specs.Types.Resolved.{standing_with}
use Rattle.gang_model.specs.Types.Tree.{Variable}
use Rattle.ispc_names_table.specs.declared.table.Declaration.{Declaration}
use Rattle.ispc_names_table.specs.declared.table.Standing.{Standing}
use Rattle.ispc_names_table.specs.Scopes.{standing_view}

-- the least line of some, and of others
abbrev pub joined : Option ℕ → Option ℕ → Option ℕ
joined None other = other
joined (Some n) other = Some (lesser n other)

-- the lines of the definitions are those of the table
pub lines_same : (vs : List Variable) (ds : List Declaration) (ss : List Standing) → map (λ st. st.place.line) (map (standing_with vs) (map (standing_view ds) ss)) ≡ map (λ (s : Standing). s.place.line) ss
lines_same vs ds [] = refl
lines_same vs ds (s ∷ ss) = ap (λ lines. s.place.line ∷ lines) (lines_same vs ds ss)
