use Rattle.std.proofs.Common.{rules, ◌≡◌, length, [], subst, sym, ◌∙◌}
use Rattle.transcript.specs.declared.debugger.Turn.TheVariants.{Goes}
use Rattle.transcript.specs.Answered.{AnswersLines, line_alone}
use Rattle.transcript.proofs.CutLines.{none_held}
use Rattle.transcript.proofs.LineAnswers.{answers_empty}
use Rattle.transcript.proofs.PieceAnswers.{says_held}
use Rattle.transcript.proofs.answering.answer_last_line.Goals as goal

pub returns-then-is_empty-clause-answered : goal.returns-then-is_empty-clause-answered
returns-then-is_empty-clause-answered g c s d begun st is =
    let empty : length c.args.line.now.items ≡ 0 = search rules in
    let none : begun ≡ [] = none_held begun c.args.line.now.items is empty in
    let w = g.O.AnswerWriter.written c.args.writer.now in
    subst (λ l. AnswersLines s d (line_alone l) Goes w w) (sym none) (answers_empty s d w)

pub returns-clause-answered : goal.returns-clause-answered
returns-clause-answered g c s d begun st is =
    says_held g.D.LineDebugger.stands s d begun _ c.answer_line.result _ _ _ (c.as_slice.ensures.value ∙ is) (c.answer_line.ensures.said s d st)
