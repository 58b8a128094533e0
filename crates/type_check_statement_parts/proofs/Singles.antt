-- Statements that hold no others: what they are judged to be, and what they count.
use Rattle.std.proofs.Common.{◌≡◌, ℕ, refl}
use Rattle.std.specs.Prelude.{true}
use Rattle.gang_model.specs.Types.Tree as tree
use Rattle.gang_model.specs.Source.Parsed.{ParsedStmt, ParsedAssign, ParsedChange, ParsedIncrement, ParsedDoCall, ParsedBreak, ParsedContinue, ParsedReturn}
use Rattle.gang_model.specs.Running.Numbering.{steps_in}
use Rattle.gang_model.specs.Names.Scope.{locals_in}
use Rattle.gang_model.specs.Types.Calls.{Context, call_of}
use Rattle.gang_model.specs.Types.Typing.{Scope}
use Rattle.gang_model.specs.Source.Judged.{Judged, Sound, Faulty, both, ◌>>=◌}
use Rattle.gang_model.specs.Types.Statements.{alone, changed, number_one, operand_for, rate_of, scope_after, statement, target_of}
use Rattle.source_tree.specs.declared.tree.Stmt.{Stmt, Empty, Declare, If', None', Some'}
use Rattle.source_tree.specs.Tree.{stmt_view}
use Rattle.type_check_statement_parts.specs.Singles.{is_simple, is_single, single}

-- a statement that is judged, and then stands alone
pub then-alone : {A : Type 0} (j : Judged A) (form : A → tree.Stmt) → (j >>= (λ x. Sound (form x)) >>= (λ s. alone s)) ≡ (j >>= (λ x. alone (form x)))
then-alone (Sound x) form = refl
then-alone (Faulty first others) form = refl

pub single-judged : (s : ParsedStmt) (context : Context) (entries : Scope) (k step : ℕ) → is_single s ≡ true → (single s context entries step >>= (λ x. alone x)) ≡ statement s context entries k step
single-judged (ParsedAssign p target e) context entries k step is = refl
single-judged (ParsedChange p target op e) context entries k step is =
    let aimed = target_of entries target.at target.name target.index in
    then-alone (both aimed (operand_for (rate_of aimed) e entries)) (λ parts. changed op step parts.0 parts.1)
single-judged (ParsedIncrement p target op) context entries k step is = then-alone (target_of entries target.at target.name target.index) (λ a. changed op step a number_one)
single-judged (ParsedDoCall p name args) context entries k step is = then-alone (call_of context entries p name args tree.Nothing step) (λ c. c.stmt)
single-judged (ParsedBreak p) context entries k step is = refl
single-judged (ParsedContinue p) context entries k step is = refl
single-judged (ParsedReturn p e) context entries k step is = refl
single-judged s context entries k step is = cc

pub single-locals : (s : ParsedStmt) → is_single s ≡ true → locals_in s ≡ 0
single-locals (ParsedAssign p target e) is = refl
single-locals (ParsedChange p target op e) is = refl
single-locals (ParsedIncrement p target op) is = refl
single-locals (ParsedDoCall p name args) is = refl
single-locals (ParsedBreak p) is = refl
single-locals (ParsedContinue p) is = refl
single-locals (ParsedReturn p e) is = refl
single-locals s is = cc

pub single-steps : (s : ParsedStmt) → is_single s ≡ true → steps_in s ≡ 1
single-steps (ParsedAssign p target e) is = refl
single-steps (ParsedChange p target op e) is = refl
single-steps (ParsedIncrement p target op) is = refl
single-steps (ParsedDoCall p name args) is = refl
single-steps (ParsedBreak p) is = refl
single-steps (ParsedContinue p) is = refl
single-steps (ParsedReturn p e) is = refl
single-steps s is = cc

pub single-after : (s : ParsedStmt) (entries : Scope) (k : ℕ) → is_single s ≡ true → scope_after s entries k ≡ entries
single-after (ParsedAssign p target e) entries k is = refl
single-after (ParsedChange p target op e) entries k is = refl
single-after (ParsedIncrement p target op) entries k is = refl
single-after (ParsedDoCall p name args) entries k is = refl
single-after (ParsedBreak p) entries k is = refl
single-after (ParsedContinue p) entries k is = refl
single-after (ParsedReturn p e) entries k is = refl
single-after s entries k is = cc

-- a statement that holds no other, and neither is empty nor declares anything
pub simple-single : (s : Stmt) → is_simple (stmt_view s) ≡ true → (s ≡ Empty → ⊥) → ((a : _) (b : _) (c : _) (d : _) (e : _) → s ≡ Declare a b c d e → ⊥) → is_single (stmt_view s) ≡ true
simple-single Empty is filled names_none = absurd (filled refl)
simple-single (Declare a b c d e) is filled names_none = absurd (names_none a b c d e refl)
simple-single (If' at e p x None') is filled names_none = is
simple-single (If' at e p x (Some' q y)) is filled names_none = is
simple-single s is filled names_none = is
