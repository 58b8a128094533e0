use Rattle.std.proofs.Common.{◌≡◌, ◌+◌, ◌-◌, ◌<◌, ◌∷◌, ◌++◌, ◌∙◌, drop, length, sym, ap, arith}
use Rattle.std.proofs.lemmas.List.{drop_all}
use Rattle.typed_tree.specs.declared.program.Global.{Global}
use Rattle.typed_tree.specs.Views.{variable_view}
use Rattle.frame_expressions.specs.Meanings.{variable_entry}
use Rattle.placed_expressions.proofs.Scopes.{file_entries, file_more}
use Rattle.placed_expressions.proofs.scope.declare_globals.Goals as goal

pub loop-number-init : goal.loop-number-init
loop-number-init c =
    let gs = c.args.globals.now in
    sym (ap (λ xs. file_entries xs ++ c.args.scope.now.entries) (drop_all (length gs) gs (omega arith)))

pub loop-number-preserved : goal.loop-number-preserved
loop-number-preserved c =
    let gs = c.args.globals.now in
    let old = c.args.scope.now.entries in
    let i = c.loop-number.number - 1 in
    let below : i < length gs = omega (arith, c.loop-number.auto.number, c.loop-number-test.true) in
    let next : c.loop-number.number ≡ i + 1 = omega (arith, c.loop-number-test.true) in
    file_more gs i c.index-globals-number.result old c.loop-number.scope.entries c.declare.new.scope.entries below c.index-globals-number.is
    (c.loop-number.invariant ∙ ap (λ k. file_entries (drop k gs) ++ old) next)
    (c.in_ok-declare.ensures ∙ ap (λ (g : Global). variable_entry (variable_view g.variable) ∷ c.loop-number.scope.entries) (sym c.index-globals-number.is))

pub returns : goal.returns
returns c =
    let gs = c.args.globals.now in
    let old = c.args.scope.now.entries in
    let start : c.loop-number.number ≡ 0 = omega (arith, c.loop-number-test.false) in
    c.loop-number.invariant ∙ ap (λ k. file_entries (drop k gs) ++ old) start
