-- Answers for statements where out of memory is set apart, and what is known once a statement was typed.
use Rattle.std.specs.Prelude.{◌≡◌, ℕ, ◌∷◌, ◌++◌, List, length, Result}
use Rattle.gang_model.specs.declared.refusals.SourceRefusal.{SourceRefusal}
use Rattle.gang_model.specs.Types.Tree.{Stmt, Variable}
use Rattle.gang_model.specs.Types.Typing.{Entry, Scope}
use Rattle.gang_model.specs.Types.Calls.{Context}
use Rattle.gang_model.specs.Source.Parsed.{ParsedStmt}
use Rattle.gang_model.specs.Names.Scope.{locals_in}
use Rattle.gang_model.specs.Source.Judged.{Judged, Sound, ◌>>=◌, answer_of}
use Rattle.gang_model.specs.Types.Statements as model
use Rattle.gang_model.specs.Types.Statements.{Made, made}
use Rattle.source_answers.specs.Apart.{seen}
use Rattle.typed_tree.specs.Boxes.{BoxedStmt, boxed_stmt_view}
use Rattle.typed_tree.specs.Views.{target_view}
use Rattle.type_check_parts.specs.declared.targets.Aimed.{Aimed}

-- The answer is that for what is judged, and the function has so many more variables then: those that the statement declares.
pub record IsTyped {A : Type 0} (view : A → Stmt) (answer : Result A SourceRefusal) (judged : Judged Made) (before after : List Variable) (count : ℕ) : Type 0 where
  pub declared : List Variable
  pub variables : after ≡ before ++ declared
  pub counted : length declared ≡ count
  pub answered : answer_of judged ≡ seen (λ s. made (view s) declared) answer

-- the same of a statement of the language, with as many variables as stand in it
abbrev pub IsTypedStatement : Result BoxedStmt SourceRefusal → ParsedStmt → Context → Scope → (before after : List Variable) → ℕ → Type 0
IsTypedStatement answer s context scope before after step = IsTyped boxed_stmt_view answer (model.statement s context scope (length before) step) before after (locals_in s)

-- what is judged in the scope of an index variable, with it among what is declared
abbrev pub with_index : Entry → Judged Made → Judged Made
with_index n judged = judged >>= (λ inner. Sound (made inner.stmt (n.variable ∷ inner.variables)))

abbrev pub aimed_view : Aimed → model.Aimed
aimed_view a = model.aimed (target_view a.target) a.value_type a.rate
