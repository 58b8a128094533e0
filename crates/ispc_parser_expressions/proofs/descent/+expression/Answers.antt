use Rattle.std.proofs.Common.{◌≡◌, ◌-◌, ◌∙◌, sym, refl, arith}
use Rattle.std.proofs.lemmas.Result.{err_from_is_err_and}
use Rattle.ispc_lexer.specs.Views.{lexemes_of}
use Rattle.gang_model.specs.declared.marks.Mark.TheVariants as mark
use Rattle.source_tree.specs.Expressions.{expr_view, arg_view, args_view}
use Rattle.ispc_parser_expressions.specs.Parse.{cast_of, parsers, counted}
use Rattle.ispc_parser_words.proofs.Tokens.{length-lexemes_of, take_takes, takes_shorter}
use Rattle.ispc_parser_words.proofs.OperatorMarks.{operator_takes}
use Rattle.ispc_parser_expressions.proofs.Steps.{binary_zero, binary_fails, binary_shorter, chains_start, chains_end, chains_spent, chains_fail, chains_on, append, one_arg, args_view-push, counted_shorter, lists_none, lists_fail, lists_start, lists_end, lists_fails, lists_on}
use Rattle.ispc_parser_expressions.proofs.descent.+expression.Goals as goal

-- ---- operators

pub binary-returns-then-levels-eq0 : goal.binary-returns-then-levels-eq0
binary-returns-then-levels-eq0 t c = rw (binary_zero (parsers c.args.reader.depth) c.args.levels c.args.room (lexemes_of c.args.tokens.now) (omega arith)) c.operand.ensures

pub binary-returns-in_err-left : goal.binary-returns-in_err-left
binary-returns-in_err-left t c =
    let p = err_from_is_err_and c.from_residual.result c.from_residual.ensures.1 in
    rw (p.1, p.2) (binary_fails (parsers c.args.reader.depth) c.args.levels c.args.room (lexemes_of c.args.tokens.now) c.in_err-left.field-0.0 c.if-levels-eq0.false c.in_err-left.ensures)

pub binary-loop-operator-init : goal.binary-loop-operator-init
binary-loop-operator-init t c =
    chains_start (parsers c.args.reader.depth) c.args.levels c.args.room (lexemes_of c.args.tokens.now) (expr_view c.in_ok-left.left.value) c.in_ok-left.remaining (lexemes_of c.in_ok-left.rest.now) c.if-levels-eq0.false c.in_ok-left.ensures

pub binary-returns-in_err-less : goal.binary-returns-in_err-less
binary-returns-in_err-less t c =
    let p = err_from_is_err_and c.from_residual-in_err-less.result c.from_residual-in_err-less.ensures.1 in
    rw (p.1, p.2) (chains_spent _ _ _ _ _ _ c.loop-operator.invariant c.in-Some.operator (lexemes_of c.in-Some.after.now) (sym c.in-Some.ensures) c.in_err-less.field-0.0 c.in_err-less.ensures)

pub binary-returns-in_err-right : goal.binary-returns-in_err-right
binary-returns-in_err-right t c =
    let p = err_from_is_err_and c.from_residual-in_err-right.result c.from_residual-in_err-right.ensures.1 in
    rw (p.1, p.2) (chains_fail _ _ _ _ _ _ c.loop-operator.invariant c.in-Some.operator (lexemes_of c.in-Some.after.now) (sym c.in-Some.ensures) c.in_err-right.field-0.0 c.in_ok-less.less c.in_ok-less.ensures (rw c.right_levels.ensures at c.in_err-right.ensures))

pub binary-loop-operator-smaller : goal.binary-loop-operator-smaller
binary-loop-operator-smaller t c =
    omega (
      arith,
      binary_shorter c.args.reader.depth c.right_levels.result c.in_ok-less.less (lexemes_of c.in-Some.after.now) (expr_view c.in_ok-right.right.value) c.in_ok-right.less (lexemes_of c.in_ok-right.after.now) c.in_ok-right.ensures,
      takes_shorter _ (lexemes_of c.loop-operator.rest.now) (lexemes_of c.in-Some.after.now) (operator_takes (c.args.levels - 1) (lexemes_of c.loop-operator.rest.now) c.in-Some.operator (lexemes_of c.in-Some.after.now) (sym c.in-Some.ensures)).1,
      length-lexemes_of c.loop-operator.rest.now,
      length-lexemes_of c.in_ok-right.after.now,
    )

pub binary-loop-operator-preserved : goal.binary-loop-operator-preserved
binary-loop-operator-preserved t c =
    let shorter = binary_shorter c.args.reader.depth c.right_levels.result c.in_ok-less.less (lexemes_of c.in-Some.after.now) (expr_view c.in_ok-right.right.value) c.in_ok-right.less (lexemes_of c.in_ok-right.after.now) c.in_ok-right.ensures in
    rw c.in_ok-left-2.ensures
    (chains_on _ _ _ _ _ _ c.loop-operator.invariant c.in-Some.operator (lexemes_of c.in-Some.after.now) (sym c.in-Some.ensures) c.in_ok-less.less (expr_view c.in_ok-right.right.value) c.in_ok-right.less (lexemes_of c.in_ok-right.after.now)
    c.in_ok-less.ensures (rw c.right_levels.ensures at c.in_ok-right.ensures) shorter)

pub binary-returns : goal.binary-returns
binary-returns t c = chains_end _ _ _ _ _ _ c.loop-operator.invariant (sym c.in_default.ensures)

-- ---- casts

pub cast-returns : goal.cast-returns
unfolding cast_of
cast-returns t c = rw (c.in_ok-room.ensures, c.in_ok-rate.ensures, c.in_ok-rest.ensures, c.in_ok-operand.ensures, c.in_ok-node.ensures) refl

-- ---- arguments

pub args-returns-then-begins : goal.args-returns-then-begins
args-returns-then-begins t c = rw c.new-args.ensures.items (lists_none (counted c.args.budget (parsers c.args.reader.depth)) c.args.room (lexemes_of c.args.tokens.now) (sym c.begins.ensures ∙ c.if-begins.true))

pub args-returns-in_err-first : goal.args-returns-in_err-first
args-returns-in_err-first t c =
    let p = err_from_is_err_and c.from_residual.result c.from_residual.ensures.1 in
    rw (p.1, p.2) (lists_fail (counted c.args.budget (parsers c.args.reader.depth)) c.args.room (lexemes_of c.args.tokens.now) c.in_err-first.field-0.0 (sym c.begins.ensures ∙ c.if-begins.false) c.in_err-first.ensures)

pub args-loop-after-init : goal.args-loop-after-init
args-loop-after-init t c =
    let e : args_view c.push.new.self.items ≡ one_arg (arg_view c.in_ok-first.first) = rw (c.in_ok-push.ensures.items, c.new-args.ensures.items) refl in
    rw e (lists_start (counted c.args.budget (parsers c.args.reader.depth)) c.args.room (lexemes_of c.args.tokens.now) (arg_view c.in_ok-first.first) c.in_ok-first.remaining (lexemes_of c.in_ok-first.rest.now) (sym c.begins.ensures ∙ c.if-begins.false) c.in_ok-first.ensures)

pub args-returns-in_err-arg : goal.args-returns-in_err-arg
args-returns-in_err-arg t c =
    let p = err_from_is_err_and c.from_residual-in_err-arg.result c.from_residual-in_err-arg.ensures.1 in
    rw (p.1, p.2) (lists_fails _ _ _ _ _ c.loop-after.invariant (lexemes_of c.in-Some.after.now) (sym c.in-Some.ensures) c.in_err-arg.field-0.0 c.in_err-arg.ensures)

pub args-loop-after-smaller : goal.args-loop-after-smaller
args-loop-after-smaller t c =
    omega (
      arith,
      counted_shorter c.args.budget c.args.reader.depth c.loop-after.remaining (lexemes_of c.in-Some.after.now) (arg_view c.in_ok-arg.arg) c.in_ok-arg.less (lexemes_of c.in_ok-arg.after.now) c.in_ok-arg.ensures,
      takes_shorter _ (lexemes_of c.loop-after.rest.now) (lexemes_of c.in-Some.after.now) (take_takes mark.Comma (lexemes_of c.loop-after.rest.now) (lexemes_of c.in-Some.after.now) (sym c.in-Some.ensures)),
      length-lexemes_of c.loop-after.rest.now,
      length-lexemes_of c.in_ok-arg.after.now,
    )

pub args-loop-after-preserved : goal.args-loop-after-preserved
args-loop-after-preserved t c =
    let e : args_view c.push-in-Some.new.self.items ≡ append (args_view c.loop-after.args.items) (one_arg (arg_view c.in_ok-arg.arg)) = rw c.in_ok-push-2.ensures.items (args_view-push c.loop-after.args.items c.in_ok-arg.arg) in
    let shorter = counted_shorter c.args.budget c.args.reader.depth c.loop-after.remaining (lexemes_of c.in-Some.after.now) (arg_view c.in_ok-arg.arg) c.in_ok-arg.less (lexemes_of c.in_ok-arg.after.now) c.in_ok-arg.ensures in
    rw e (lists_on _ _ _ _ _ c.loop-after.invariant (lexemes_of c.in-Some.after.now) (sym c.in-Some.ensures) (arg_view c.in_ok-arg.arg) c.in_ok-arg.less (lexemes_of c.in_ok-arg.after.now) c.in_ok-arg.ensures shorter)

pub args-returns : goal.args-returns
args-returns t c = lists_end _ _ _ _ _ c.loop-after.invariant (sym c.in_default.ensures)
