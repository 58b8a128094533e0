-- The accesses of statements, of segments and of functions, one after another.
use Rattle.std.proofs.Common.{◌≡◌, refl, ap, ◌∙◌, sym, ℕ, suc, ◌+◌, ◌<◌, true, List, [], ◌∷◌, ◌++◌, drop, get_or, length, map}
use Rattle.std.proofs.lemmas.List.{append_assoc, drop_more}
use Rattle.gang_types.specs.declared.places.Spot.{Spot}
use Rattle.typed_tree.specs.declared.statements.Arg.{Arg}
use Rattle.typed_tree.specs.declared.statements.Dimension.{Dimension}
use Rattle.typed_tree.specs.declared.statements.Segment.{Segment}
use Rattle.typed_tree.specs.declared.statements.Stmt.{Stmt}
use Rattle.typed_tree.specs.declared.program.Function.{Function}
use Rattle.typed_tree.specs.Views.{arg_view, boxed_view, dimension_view, function_view, segments_view, stmt_view, stmts_view}
use Rattle.typed_tree.proofs.StatementRows.{segments_from}
use Rattle.mask_lowering.proofs.Rows.{stmts_from}
use Rattle.element_accesses.specs.Found.{Accessed, accesses_from, accesses_in, arg_in, args_in, bounds_in, own_in, reads_in}

-- a block has no step of its own
pub own_of_rows : (function : ℕ) (items : List Stmt) → own_in function (stmts_view items) ≡ []
own_of_rows function [] = refl
own_of_rows function (s ∷ items) = refl

-- what was added, and what is left to add
pub added : (old new more front rest all : List Accessed) → new ≡ old ++ front → old ++ more ≡ all → more ≡ front ++ rest → new ++ rest ≡ all
added old new more front rest all is so split = ap (λ l. l ++ rest) is ∙ append_assoc old front rest ∙ ap (λ l. old ++ l) (sym split) ∙ so

pub statements_more : (function : ℕ) (items : List Stmt) (i : ℕ) (x : Stmt) → i < length items → x ≡ get_or items i x
    → accesses_in function (stmts_view (drop i items)) ≡ accesses_in function (stmt_view x) ++ accesses_in function (stmts_view (drop (i + 1) items))
statements_more function items i x below is = ap (accesses_in function) (stmts_from items i x below is)

pub segments_more : (function : ℕ) (items : List Segment) (i : ℕ) (x : Segment) → i < length items → x ≡ get_or items i x
    → accesses_in function (segments_view (drop i items)) ≡ accesses_in function (stmts_view x.body.items) ++ accesses_in function (segments_view (drop (i + 1) items))
segments_more function items i x below is = ap (accesses_in function) (segments_from items i x below is)

pub functions_more : (items : List Function) (i first : ℕ) (x : Function) → i < length items → x ≡ get_or items i x
    → accesses_from first (map function_view (drop i items)) ≡ accesses_in first (stmts_view x.body.items) ++ accesses_from (suc first) (map function_view (drop (i + 1) items))
functions_more items i first x below is = ap (λ fs. accesses_from first (map function_view fs)) (drop_more items i x below ∙ ap (λ y. y ∷ drop (i + 1) items) (sym is))

pub args_more : (spot : Spot) (items : List Arg) (i : ℕ) (x : Arg) → i < length items → x ≡ get_or items i x
    → args_in spot (map arg_view (drop i items)) ≡ arg_in spot (arg_view x) ++ args_in spot (map arg_view (drop (i + 1) items))
args_more spot items i x below is = ap (λ l. args_in spot (map arg_view l)) (drop_more items i x below ∙ ap (λ y. y ∷ drop (i + 1) items) (sym is))

pub bounds_more : (spot : Spot) (items : List Dimension) (i : ℕ) (x : Dimension) → i < length items → x ≡ get_or items i x
    → bounds_in spot (map dimension_view (drop i items)) ≡ (reads_in spot true (boxed_view x.low) ++ reads_in spot true (boxed_view x.high)) ++ bounds_in spot (map dimension_view (drop (i + 1) items))
bounds_more spot items i x below is = ap (λ l. bounds_in spot (map dimension_view l)) (drop_more items i x below ∙ ap (λ y. y ∷ drop (i + 1) items) (sym is))
