-- The declarations in scope, scope by scope.
use Rattle.std.specs.Prelude.{ℕ, ◌-◌, List, [], ◌∷◌, map, take, length, Option, Some, None, if◌then◌else◌}
use Rattle.gang_types.specs.declared.places.VarId.TheVariants.{File}
use Rattle.gang_model.specs.Source.Names.{same_text}
use Rattle.gang_model.specs.Source.Parsed.{Name}
use Rattle.gang_model.specs.Names.Scope.{Binding, Environment, Site, bound}

-- the declarations in scope, the innermost first, how many of them stand outside the present scope, and the number of the
-- function's next variable
pub record Scoped : Type 0 where
  pub environment : Environment
  pub outside : ℕ
  pub next : ℕ

-- the names that the present scope declares
abbrev pub here : Scoped → List Name
here s = map (λ b. b.name) (take (length s.environment - s.outside) s.environment)

-- what a statement finds there
abbrev pub site : Scoped → Site
site s = record { environment = s.environment; here = here s; next = s.next }

-- a file-scope variable
abbrev pub bound_in_file : Name → ℕ → Binding
bound_in_file name number = bound name (File number)

-- how many declarations stand outside the innermost one of a name
abbrev pub position_of : Environment → Name → Option ℕ
position_of [] name = None
position_of (b ∷ environment) name = if same_text b.name name then Some (length environment) else position_of environment name
