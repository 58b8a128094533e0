-- The body of a function, from what its statements make.
use Rattle.std.proofs.Common.{◌≡◌, sym, ap, subst, ◌∙◌, List, ◌++◌, length, map, Vec}
use Rattle.std.specs.Prelude.{Result, Ok, Err, Some}
use Rattle.std.specs.declared.alloc.Global.{Global}
use Rattle.gang_model.specs.declared.refusals.SourceRefusal.{SourceRefusal}
use Rattle.gang_model.specs.Types.Tree as tree
use Rattle.gang_model.specs.Source.Parsed.{ParsedFunction, ParsedSource, ParsedStmts, functions_in, globals_in}
use Rattle.gang_model.specs.Types.Calls.{Context}
use Rattle.gang_model.specs.Source.Judged.{Judged, Sound, Faulty, ◌>>=◌, answer_of, sound_part}
use Rattle.gang_model.specs.Types.Signatures.{result_of}
use Rattle.gang_model.specs.Types.Typing.{Scope}
use Rattle.gang_model.specs.Types.Statements.{Made, statements}
use Rattle.gang_model.specs.Types.Resolved.{global_entries, param_entries, param_variables}
use Rattle.gang_model.proofs.VariableLaws.{params_count}
use Rattle.source_answers.specs.declared.fault.SourceFault.{SourceFault}
use Rattle.source_answers.specs.declared.fault.SourceFault.TheVariants.{Memory, Refused}
use Rattle.source_answers.specs.Answers.{Answers}
use Rattle.source_answers.specs.Apart.{apart}
use Rattle.source_answers.proofs.Answered.{answers-refused, answers-same}
use Rattle.typed_tree.specs.declared.statements.Stmt.{Stmt}
use Rattle.typed_tree.specs.declared.program.Variable.{Variable}
use Rattle.typed_tree.specs.Views.{stmts_view, variable_view}
use Rattle.type_check_parts.specs.Makes.{Makes, IfAnswered}
use Rattle.type_check_functions.specs.declared.bodies.Body.{Body}
use Rattle.type_check_functions.specs.Bodies.{WithVariables, body_made, body_view, declared_variables, judged_body, variables_made}

-- what the statements of a function's body are judged to be
abbrev pub judged_statements : (functions : List ParsedFunction) → ParsedFunction → (file : Scope) → Judged Made
judged_statements functions f file =
    statements f.body (record { functions = functions; result = result_of f.spec }) (param_entries 0 f.params file) (length f.params) 0

pub statements-of_body : (functions : List ParsedFunction) (f : ParsedFunction) (file : Scope) (body : ParsedStmts) (context : Context) (entries : Scope) (locals : List tree.Variable)
    → body ≡ f.body → context ≡ record { functions = functions; result = result_of f.spec } → entries ≡ param_entries 0 f.params file → locals ≡ param_variables 0 f.params
    → statements body context entries (length locals) 0 ≡ judged_statements functions f file
statements-of_body functions f file body context entries locals b c e l =
    ap (λ x. statements x context entries (length locals) 0) b
    ∙ (ap (λ x. statements f.body x entries (length locals) 0) c
    ∙ (ap (λ x. statements f.body (record { functions = functions; result = result_of f.spec }) x (length locals) 0) e
    ∙ ap (λ n. statements f.body (record { functions = functions; result = result_of f.spec }) (param_entries 0 f.params file) n 0) (ap length l ∙ params_count 0 f.params)))

-- the statements are judged
module _ (functions : List ParsedFunction) (f : ParsedFunction) (file : Scope) (locals : List tree.Variable) (are : locals ≡ param_variables 0 f.params)
    (variables : Vec Variable Global) (j : Judged Made) (is : j ≡ judged_statements functions f file) where
  made : (statements : Vec Stmt Global) → Makes (λ v. stmts_view v.items) (Ok statements) locals (map variable_view variables.items) j
      → judged_body functions f file ≡ Sound (stmts_view statements.items, map variable_view variables.items)
  made statements h =
      ap (λ (x : Judged Made). x >>= (λ m. Sound (m.stmt, param_variables 0 f.params ++ m.variables))) (sym is ∙ h.2)
      ∙ ap (λ (ls : List tree.Variable). Sound (stmts_view statements.items, ls)) (sym (h.1 ∙ ap (λ (ls : List tree.Variable). ls ++ h.0) are))

  by_answer : (part : Result (Vec Stmt Global) SourceFault) (answer : Result (Vec Stmt Global) SourceRefusal) → Makes (λ v. stmts_view v.items) part locals (map variable_view variables.items) j
      → Ok answer ≡ apart part → Answers body_view (body_made answer variables) (judged_body functions f file)
  by_answer (Ok statements) (Ok same) h e =
      let is_it : same ≡ statements = cc in
      made statements h ∙ ap (λ (v : Vec Stmt Global). Sound (stmts_view v.items, map variable_view variables.items)) (sym is_it)
  by_answer (Ok statements) (Err fault) h e = cc
  by_answer (Err Memory) answer h e = cc
  by_answer (Err (Refused fault)) (Ok statements) h e = cc
  by_answer (Err (Refused fault)) (Err same) h e =
      let is_it : same ≡ fault = cc in
      answers-refused (λ (m : Made). m) body_view (Refused fault) (judged_statements functions f file) (λ m. Sound (m.stmt, param_variables 0 f.params ++ m.variables)) (ap answer_of (sym is) ∙ h)
      ∙ ap Err (sym is_it)

  pub body-answered : (part : Result (Vec Stmt Global) SourceFault) (answer : Result (Vec Stmt Global) SourceRefusal) (after : List tree.Variable) (result : Result Body SourceFault)
      → Makes (λ v. stmts_view v.items) part locals after j → Ok answer ≡ apart part → map variable_view variables.items ≡ after → result ≡ body_made answer variables
      → Answers body_view result (judged_body functions f file)
  body-answered part answer after result h e v r =
      answers-same body_view result (body_made answer variables) (judged_body functions f file) r
      (by_answer part answer (subst (λ ls. Makes (λ v. stmts_view v.items) part locals ls j) (sym v) h) e)

-- what holds where a part was answered
pub if-apart : {A P : Type 0} (part : Result A SourceFault) (answer : Result A SourceRefusal) → Ok answer ≡ apart part → IfAnswered part P → P
if-apart (Ok a) answer e p = p
if-apart (Err Memory) answer e p = cc
if-apart (Err (Refused fault)) answer e p = p

-- the variables of a function whose body is sound
module _ (params : List tree.Variable) (body : WithVariables) where
  variables_of : (j : Judged Made) → (j >>= (λ m. Sound (m.stmt, params ++ m.variables))) ≡ Sound body → params ++ variables_made j ≡ body.1
  variables_of (Sound made) is = let same : Some (made.stmt, params ++ made.variables) ≡ Some body = ap sound_part is in cc
  variables_of (Faulty first others) is = cc

pub body_variables : (source : ParsedSource) (functions : List ParsedFunction) (f : ParsedFunction) (file : Scope) (body : WithVariables) → functions ≡ functions_in source
    → file ≡ global_entries 0 (globals_in source) → judged_body functions f file ≡ Sound body → declared_variables source f ≡ body.1
body_variables source functions f file body fs gs is =
    variables_of (param_variables 0 f.params) body (judged_statements (functions_in source) f (global_entries 0 (globals_in source)))
    (subst (λ gs. judged_body (functions_in source) f gs ≡ Sound body) gs (subst (λ fs. judged_body fs f file ≡ Sound body) fs is))
