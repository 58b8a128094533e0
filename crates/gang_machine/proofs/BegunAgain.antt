-- What words that are put back leave of a machine.
use Rattle.std.proofs.Common.{◌≡◌, refl, sym, ap, subst, arith, ℕ, List, []}
use Rattle.std.specs.Prelude.{All}
use Rattle.undo_log.specs.History.{History, put_words}
use Rattle.gang_model.specs.Debugger.Debugger.{Debugger, Setting}
use Rattle.debug_traits.specs.Beginnings.{StandsAt, with_events}
use Rattle.typed_tree.specs.declared.program.Program.{Program}
use Rattle.machine_states.specs.Shows.{Shows}
use Rattle.machine_states.specs.Nesting.{most_levels}
use Rattle.gang_memory.specs.declared.layout.Layout.{Layout}
use Rattle.gang_memory.specs.Layouts.{IsLayoutOf}
use Rattle.machine_words.specs.declared.words.MachineWords.{MachineWords}
use Rattle.machine_words.specs.Ranges.{IsLaid, head_sizes, machine_sizes, regions_of}
use Rattle.frame_steps.specs.declared.compiled.CompiledProgram.{CompiledProgram}
use Rattle.frame_steps.specs.Compiled.{program_of, variables_of}
use Rattle.gang_machine.specs.Again.{CanHave, Copies}
use Rattle.gang_machine.specs.Machines.{IsMachine, IsSoundMoment}
use Rattle.gang_machine.specs.Standings.{Counted, Stands, counted, history_of, view_of}

module _ {T : Type 0} (history : T → History) (w : ℕ) (compiled : CompiledProgram) (old new : MachineWords T) (words : List ℕ) (layout : new.layout ≡ old.layout)
    (put : history new.store.timeline ≡ put_words words (history old.store.timeline)) where
  words_are : (history new.store.timeline).words ≡ words
  words_are = ap (λ (h : History). h.words) put

  pub past_is : (history new.store.timeline).past ≡ []
  past_is = ap (λ (h : History). h.past) put

  pub machine_again : (entry moves : ℕ) (lines : List ℕ) → IsMachine history w compiled old → CanHave (counted (view_of w entry compiled.program lines old.layout (history old.store.timeline)) moves) words
      → IsMachine history w compiled new
  machine_again entry moves lines machine has =
      let h = history new.store.timeline in
      let lie = machine.lie in
      record {
        lie = record {
          gang = lie.gang;
          compiled_is = lie.compiled_is;
          lengths = lie.lengths;
          layout = subst (λ l. IsLayoutOf w compiled.program lie.lengths machine_sizes (head_sizes w (most_levels (program_of compiled))) l) (sym layout) lie.layout;
          laid = subst (λ l. IsLaid w l h.words) (sym layout) (subst (λ ws. IsLaid w old.layout ws) (sym words_are) has.laid);
          room = let room = ap (λ (h : History). h.room) put in omega (arith, room, lie.room);
        };
        masked = has.masked;
        shown = record {
          shows = subst (λ l. Shows (program_of compiled) (variables_of compiled) w (regions_of w l h.words) has.masked) (sym layout)
              (subst (λ ws. Shows (program_of compiled) (variables_of compiled) w (regions_of w old.layout ws) has.masked) (sym words_are) has.shown.shows);
          declared = has.shown.declared;
        };
        called = has.called;
        past = subst (λ ms. All (IsSoundMoment w compiled new.layout) ms) (sym past_is) (λ k d within. absurd (omega (arith, within)));
        limit = let limit = ap (λ (h : History). h.limit) put in omega (arith, limit, machine.limit);
      }

-- a machine stands where its words are a copy
pub stands_again : (w entry : ℕ) (program : Program) (lines : List ℕ) (layout : Layout) (old : History) (moves moved : ℕ) (words : List ℕ) (s : Setting) (d : Debugger)
    → Copies (counted (view_of w entry program lines layout old) moves) words s (with_events d.events 0 0 d)
    → StandsAt Stands (counted (view_of w entry program lines layout (put_words words old)) moved) s d d.events
stands_again w entry program lines layout old moves moved words s d copy = (
  0,
  old.limit,
  record {
    program = copy.program;
    rows = copy.rows;
    first = copy.first;
    lines = copy.lines;
    words = copy.words;
    past = tt;
    kept = refl;
    limit = refl;
  },
)

-- its words are a copy where it stands
pub copies_here : (m : Counted) (s : Setting) (d : Debugger) → Stands m s d → Copies m (history_of m).words s (with_events d.events 0 0 d)
copies_here m s d stands = record {
  program = stands.program;
  rows = stands.rows;
  first = stands.first;
  lines = stands.lines;
  words = stands.words;
  past = tt;
  kept = refl;
  limit = refl;
}
