use Rattle.std.proofs.Common.{sym, ◌∙◌}
use Rattle.prompt_moves.proofs.PieceLaws.{piece_ended, piece_made}
use Rattle.prompt_moves.proofs.pieces.go_piece.Goals as goal

pub returns-then-is_here : goal.returns-then-is_here
returns-then-is_here g c s d most st none within few =
    piece_made g.M.RecordedMachine.stands s g.M.RecordedMachine.may_want c.args.count most d c.do_command-answer.result c.end_here.result c.do_command-answer.new.self none c.requires within few
    (c.do_command-answer.ensures.replied s d st) (sym c.is_here.ensures ∙ c.if-is_here.true) (λ e there. c.end_here.ensures s e there)

pub returns-else-is_here : goal.returns-else-is_here
returns-else-is_here g c s d most st none within few =
    piece_ended g.M.RecordedMachine.stands s g.M.RecordedMachine.may_want c.args.count most d c.do_command-answer.result c.do_command-answer.new.self none c.requires within few
    (c.do_command-answer.ensures.replied s d st) (sym c.is_here.ensures ∙ c.if-is_here.false)
