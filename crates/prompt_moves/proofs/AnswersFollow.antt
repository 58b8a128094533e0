-- What follows a move by an answer as it is given, and by the answer of the definitions that it means.
use Rattle.std.proofs.Common.{◌≡◌, [], ◌++◌, ap, ◌∙◌}
use Rattle.std.specs.Prelude.{if◌then◌else◌}
use Rattle.gang_model.specs.Debugger.Debugger as model
use Rattle.gang_model.specs.Debugger.Debugger.{Debugger, Setting}
use Rattle.debug_answers.specs.declared.answer.Answer.{Answer}
use Rattle.debug_answers.specs.Meanings.{Means}
use Rattle.prompt_scenes.specs.Conditions.{forgotten_stop}
use Rattle.prompt_scenes.specs.Holding.{Held}
use Rattle.prompt_scenes.proofs.AnswersMean.{is_refusal-means, last_move-means, stopped_number-means}
use Rattle.prompt_scenes.specs.Changes as changes
use Rattle.prompt_scenes.specs.Readings as readings
use Rattle.prompt_scenes.specs.Given as given
use Rattle.prompt_moves.specs.Following as following
use Rattle.prompt_moves.specs.GivenMoves as given_moves

-- whether the program has begun by a move
pub begun-means : (s : Setting) (d : Debugger) (h : Held) (told : Answer) (meant : model.Answer) → Means s d told meant → given_moves.begun h told ≡ following.begun h meant
begun-means s d h told meant means =
    ap (λ r. if r then h else forgotten_stop (given.stopped_number told) (record (changes.started h) { last_move = given.last_move told })) (is_refusal-means s d told meant means)
    ∙ ap (λ n. if readings.is_refusal meant then h else forgotten_stop n (record (changes.started h) { last_move = given.last_move told })) (stopped_number-means s d told meant means)
    ∙ ap (λ l. if readings.is_refusal meant then h else forgotten_stop (readings.stopped_number meant) (record (changes.started h) { last_move = l })) (last_move-means s d told meant means)

-- what follows a move
pub follows-means : (s : Setting) (d : Debugger) (h : Held) (told : Answer) (meant : model.Answer) → Means s d told meant → given_moves.follows h told ≡ following.follows h meant
follows-means s d h told meant means =
    ap (λ r. if r then [] else following.deleted h.temporaries (given.stopped_number told) ++ following.shown h.displays) (is_refusal-means s d told meant means)
    ∙ ap (λ n. if readings.is_refusal meant then [] else following.deleted h.temporaries n ++ following.shown h.displays) (stopped_number-means s d told meant means)
