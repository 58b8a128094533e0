-- The declarations in scope as they are kept, the innermost last, with an index by name.
use Rattle.std.specs.Prelude.{ℕ, List, [], ◌∷◌, ◌≡◌, Option, None, if◌then◌else◌, Vec}
use Rattle.std.specs.Global.{Global}
use Rattle.gang_model.specs.Source.Names.{same_text}
use Rattle.gang_model.specs.Source.Parsed.{Name}
use Rattle.gang_model.specs.Names.Scope.{Binding, Environment, bound}
use Rattle.ispc_names_scopes.specs.declared.bindings.Innermost.{Innermost}
use Rattle.ispc_names_scopes.specs.declared.bindings.Declaration.{Declaration}
use Rattle.ispc_names_scopes.specs.Innermost.{innermost_of}

abbrev pub binding : Declaration → Binding
binding d = bound d.name.items d.id

-- these declarations inside an environment
abbrev pub within : List Declaration → Environment → Environment
within [] environment = environment
within (d ∷ ds) environment = within ds (binding d ∷ environment)

abbrev pub environment_of : List Declaration → Environment
environment_of ds = within ds []

-- each declaration knows what its name stood for before it
abbrev pub AllHide : List Declaration → Environment → Type 0
AllHide [] environment = Unit {0}
AllHide (d ∷ ds) environment = (d.hides ≡ innermost_of environment d.name.items) × AllHide ds (binding d ∷ environment)

abbrev pub Entries : Type 0
Entries = List (Vec ℕ Global × Option Innermost)

-- what a name stands for by the index
abbrev pub found_in : Entries → Name → Option Innermost
found_in [] name = None
found_in (e ∷ entries) name = if same_text name e.0.items then e.1 else found_in entries name

-- the index has the innermost declaration of each name
abbrev pub IsIndexed : List Declaration → Entries → Type 0
IsIndexed ds entries = AllHide ds [] × ((name : Name) → found_in entries name ≡ innermost_of (environment_of ds) name)
