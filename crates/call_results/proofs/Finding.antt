-- The call at a step, in statements one after another.
use Rattle.std.proofs.Common.{◌≡◌, refl, ap, sym, ◌∙◌, ℕ, ◌+◌, ◌<◌, ◌==◌, List, ◌∷◌, ◌++◌, length, get_or, drop, Option, Some, None, option_map, Vec, Global}
use Rattle.std.specs.Option.{option_or}
use Rattle.std.proofs.lemmas.List.{drop_more}
use Rattle.std.proofs.lemmas.List.Folds.{find-append}
use Rattle.gang_model.specs.Types.Tree as t
use Rattle.typed_tree.specs.declared.statements.Stmt.{Stmt, Block}
use Rattle.typed_tree.specs.declared.statements.Segment.{Segment}
use Rattle.typed_tree.specs.Views.{segments_view, stmt_view, stmts_view}
use Rattle.typed_tree.proofs.StatementRows.{segments_from, view_block}
use Rattle.call_results.specs.Calls.{GivingCall, at_step, call_view, giving_in, givings}
use Rattle.call_results.specs.declared.calls.GivingCall as declared

-- a block's view, from the list that is walked
pub block_is : (s : Stmt) (v : Vec Stmt Global) (items : List Stmt) → s ≡ Block v → items ≡ v.items → stmt_view s ≡ stmts_view items
block_is s v items is same = ap stmt_view is ∙ view_block v ∙ ap stmts_view (sym same)

-- the statements from the i-th on
pub stmts_from : (items : List Stmt) (i : ℕ) (x : Stmt) → i < length items → x ≡ get_or items i x → stmts_view (drop i items) ≡ t.Then (stmt_view x) (stmts_view (drop (i + 1) items))
stmts_from items i x below is = ap stmts_view (drop_more items i x below ∙ ap (λ y. y ∷ drop (i + 1) items) (sym is))

or_view : (a b : Option declared.GivingCall) → option_map call_view (option_or a b) ≡ option_or (option_map call_view a) (option_map call_view b)
or_view None b = refl
or_view (Some x) b = refl

-- the first of two statements that has it
pub in_two : (n : ℕ) (s first rest : t.Stmt) (a b found : Option declared.GivingCall) → givings s ≡ givings first ++ givings rest → found ≡ option_or a b
    → option_map call_view a ≡ giving_in n first → option_map call_view b ≡ giving_in n rest → option_map call_view found ≡ giving_in n s
in_two n s first rest a b found calls is there behind =
    ap (option_map call_view) is ∙ or_view a b ∙ ap (λ x. option_or x (option_map call_view b)) there ∙ ap (option_or (giving_in n first)) behind
    ∙ sym (ap (at_step n) calls ∙ find-append (λ (call : GivingCall). call.step == n) (givings first) (givings rest))

-- of statements one after another, the first has it
pub in_first : (n : ℕ) (s first rest : t.Stmt) (call : GivingCall) → givings s ≡ givings first ++ givings rest → Some call ≡ giving_in n first → Some call ≡ giving_in n s
in_first n s first rest call calls there =
    sym (ap (at_step n) calls ∙ find-append (λ (call : GivingCall). call.step == n) (givings first) (givings rest) ∙ ap (λ x. option_or x (giving_in n rest)) (sym there))

-- the first has it not
pub in_others : (n : ℕ) (s first rest : t.Stmt) → givings s ≡ givings first ++ givings rest → None ≡ giving_in n first → giving_in n s ≡ giving_in n rest
in_others n s first rest calls none =
    ap (at_step n) calls ∙ find-append (λ (call : GivingCall). call.step == n) (givings first) (givings rest) ∙ ap (λ x. option_or x (giving_in n rest)) (sym none)
