use Rattle.std.proofs.Common.{ℕ, List, subst, ap, ◌∙◌}
use Rattle.prompt_lines.specs.Readings.{spelled}
use Rattle.prompt_scenes.specs.declared.holding.LastMove.{LastMove}
use Rattle.prompt_scenes.specs.Holding.{Held, held, sheet}
use Rattle.prompt_stops.specs.Listed.{lists_of, settled}
use Rattle.debug_prompt.specs.Lines.{DoesLine}
use Rattle.debug_prompt.proofs.dialogue.Dialogue.do_other.Goals as goal

pub returns-clause-done : goal.returns-clause-done
returns-clause-done g c s d st limit =
    let lists = lists_of c.args.self.now.lists in (
      subst (λ (h : Held). DoesLine g.M.RecordedMachine.stands (sheet c.args.source) (spelled c.args.self.now.prompt.kept) h s d c.args.line.now c.do_line-turn.new.session (held c.do_line-turn.new.self.holding))
          c.note_move.ensures (c.do_line-turn.ensures.done s d st limit),
      λ e at.
          c.settle.ensures ∙ ap (λ (move : LastMove). settled move c.as_slice.result.now lists) c.last_move.ensures
          ∙ ap (λ (there : List ℕ). settled (held c.do_line-turn.new.self.holding).last_move there lists) (c.as_slice.ensures.value ∙ c.numbers_named-there.ensures s e at),
    )
