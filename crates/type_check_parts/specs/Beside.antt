-- What is judged beside something else, and a call of which only the statement counts.
use Rattle.std.specs.Prelude.{ℕ, Result, Ok, Err}
use Rattle.gang_model.specs.Types.Tree as tree
use Rattle.gang_model.specs.Source.Judged.{Judged, Sound, ◌>>=◌}
use Rattle.gang_model.specs.Types.Typing.{Scope}
use Rattle.gang_model.specs.Types.Calls.{Context, WholeCall, call_of}
use Rattle.source_answers.specs.declared.fault.SourceFault.{SourceFault}

-- the second of two parts
abbrev pub second_part : {A B : Type 0} → Result (A × B) SourceFault → Result B SourceFault
second_part (Ok parts) = Ok parts.1
second_part (Err fault) = Err fault

-- a call that stands as a statement
abbrev pub call_statement : Context → Scope → WholeCall → ℕ → Judged tree.Stmt
call_statement context scope call step = call_of context scope call.at call.name call.args tree.Nothing step >>= (λ c. Sound c.stmt)
