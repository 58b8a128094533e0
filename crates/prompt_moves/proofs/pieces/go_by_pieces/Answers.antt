use Rattle.std.proofs.Common.{◌≤◌, ◌-◌, refl, arith}
use Rattle.gang_model.specs.Debugger.Debugger.{StepLimit, reply}
use Rattle.prompt_moves.specs.Pieces.{continued}
use Rattle.prompt_moves.proofs.PieceLaws.{gone_all, goes_on, replied_so}
use Rattle.prompt_moves.proofs.pieces.go_by_pieces.Goals as goal

pub loop-left-preserved : goal.loop-left-preserved
loop-left-preserved g c =
    let left = c.loop-left.left in
    let some : 1 ≤ left - 100000 = omega (arith, c.loop-left-test.true) in
    let most : left - 100000 ≤ c.args.most_steps = omega (arith, c.loop-left.invariant.1) in (
      some,
      most,
      λ s d st none limit.
          let (e, there, calm, same) = c.loop-left.invariant.2 s d st none limit in
          let within : 100000 ≤ s.limit = omega (arith, limit, c.loop-left-test.true, c.loop-left.invariant.1) in
          let few : 100000 ≤ left = omega (arith, c.loop-left-test.true) in
          let (f, here, still, going, more) = c.in-None.ensures s e left there calm within few in
          (f, here, still, goes_on s (continued c.args.most_steps s d) left (left - 100000) e f same more going),
    )

pub returns-in-None-go_piece : goal.returns-in-None-go_piece
returns-in-None-go_piece g c s d st none limit =
    let left = c.loop-left.left in
    let whole = continued c.args.most_steps s d in
    let (e, there, calm, same) = c.loop-left.invariant.2 s d st none limit in
    let within : left ≤ s.limit = omega (arith, limit, c.loop-left.invariant.1) in
    let few : left ≤ left = omega arith in
    let (f, here, still, going, more) = c.in-None-go_piece.ensures s e left there calm within few in
    replied_so g.M.RecordedMachine.stands s whole (reply StepLimit f) _ c.go_piece-2.new.session (gone_all s whole left e f same more) (record { there = here; means = refl })
