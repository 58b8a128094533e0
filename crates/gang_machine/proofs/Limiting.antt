-- What another history limit leaves of a machine.
use Rattle.std.proofs.Common.{◌≡◌, ℕ, ◌≤◌, List, Ok, Err, Result, ap, refl, sym, subst, inl, inr, arith}
use Rattle.std.specs.Prelude.{All, OnOk, OnErr, IsOk}
use Rattle.std.proofs.lemmas.Bool.{cases_lt, false≢true}
use Rattle.std.proofs.lemmas.List.{length-take}
use Rattle.std.proofs.lemmas.List.Elements.{All-take}
use Rattle.undo_log.specs.History.{History, limited as limited_words}
use Rattle.debug_traits.specs.Machines.{Limits, LimitsWords}
use Rattle.gang_model.specs.Debugger.Debugger.{Debugger, Setting, limited}
use Rattle.typed_tree.specs.declared.program.Program.{Program}
use Rattle.machine_states.specs.Shows.{Shows}
use Rattle.gang_memory.specs.declared.layout.Layout.{Layout}
use Rattle.gang_memory.specs.Layouts.{IsLayoutOf}
use Rattle.machine_states.specs.Nesting.{most_levels}
use Rattle.machine_words.specs.declared.words.MachineWords.{MachineWords}
use Rattle.machine_words.specs.Ranges.{IsLaid, head_sizes, machine_sizes, regions_of}
use Rattle.frame_steps.specs.declared.compiled.CompiledProgram.{CompiledProgram}
use Rattle.frame_steps.specs.Compiled.{program_of, variables_of}
use Rattle.gang_machine.specs.Machines.{IsMachine, IsSoundMoment}
use Rattle.gang_machine.specs.Standings.{SeenStands, Stands, counted, view_of}
use Rattle.gang_machine.proofs.Keeping.{kept_front}

-- what a record does with its limit: only a larger one is refused
pub limits_words : {X E : Type 0} (old new : History) (limit : ℕ) (r : Result X E) → OnOk r (new ≡ limited_words limit old) → OnErr r (new ≡ old) → (limit ≤ old.limit → IsOk r)
    → LimitsWords old limit r new
limits_words old new limit (Ok x) ok err fits = ok
limits_words old new limit (Err e) ok err fits = elim (cases_lt old.limit limit) [
  | inl larger ↦ (larger, err)
  | inr no_larger ↦ absurd (false≢true (fits (omega (arith, no_larger))))
]

module _ {T : Type 0} (history : T → History) (w : ℕ) (compiled : CompiledProgram) (old new : MachineWords T) where
  -- the words are the same, and what is kept is sound
  machine_kept : IsMachine history w compiled old → new.layout ≡ old.layout → (history new.store.timeline).words ≡ (history old.store.timeline).words
      → (history new.store.timeline).room ≡ (history old.store.timeline).room → All (IsSoundMoment w compiled old.layout) (history new.store.timeline).past
      → 1 ≤ (history new.store.timeline).limit → IsMachine history w compiled new
  machine_kept machine layout words room past limit =
      let h = history new.store.timeline in
      let lie = machine.lie in
      record {
        lie = record {
          gang = lie.gang;
          compiled_is = lie.compiled_is;
          lengths = lie.lengths;
          layout = subst (λ l. IsLayoutOf w compiled.program lie.lengths machine_sizes (head_sizes w (most_levels (program_of compiled))) l) (sym layout) lie.layout;
          laid = subst (λ l. IsLaid w l h.words) (sym layout) (subst (λ ws. IsLaid w old.layout ws) (sym words) lie.laid);
          room = omega (arith, room, lie.room);
        };
        masked = machine.masked;
        shown = record {
          shows = subst (λ l. Shows (program_of compiled) (variables_of compiled) w (regions_of w l h.words) machine.masked) (sym layout)
              (subst (λ ws. Shows (program_of compiled) (variables_of compiled) w (regions_of w old.layout ws) machine.masked) (sym words) machine.shown.shows);
          declared = machine.shown.declared;
        };
        called = machine.called;
        past = subst (λ l. All (IsSoundMoment w compiled l) h.past) (sym layout) past;
        limit = limit;
      }

  -- the words of a machine whose limit was changed, or was not
  pub machine_limited : {X E : Type 0} (limit : ℕ) (r : Result X E) → IsMachine history w compiled old → new.layout ≡ old.layout → 1 ≤ limit
      → LimitsWords (history old.store.timeline) limit r (history new.store.timeline) → IsMachine history w compiled new
  machine_limited limit (Ok x) machine layout some is =
      let h = history old.store.timeline in
      machine_kept machine layout (ap (λ (h : History). h.words) is) (ap (λ (h : History). h.room) is)
      (subst (λ ms. All (IsSoundMoment w compiled old.layout) ms) (sym (ap (λ (h : History). h.past) is)) (All-take (IsSoundMoment w compiled old.layout) limit h.past machine.past))
      (omega (arith, some, ap (λ (h : History). h.limit) is))
  machine_limited limit (Err e) machine layout some (larger, is) =
      machine_kept machine layout (ap (λ (h : History). h.words) is) (ap (λ (h : History). h.room) is)
      (subst (λ ms. All (IsSoundMoment w compiled old.layout) ms) (sym (ap (λ (h : History). h.past) is)) machine.past)
      (omega (arith, machine.limit, ap (λ (h : History). h.limit) is))

module _ (w entry : ℕ) (program : Program) (layout : Layout) (lines : List ℕ) (old : History) (s : Setting) (d : Debugger) (stands : SeenStands (view_of w entry program lines layout old) s d) where
  -- the front of what is kept is that of the newest events
  stands_limited : (limit : ℕ) → SeenStands (view_of w entry program lines layout (limited_words limit old)) s (limited limit d)
  stands_limited limit = record {
    program = stands.program;
    rows = stands.rows;
    first = stands.first;
    lines = stands.lines;
    words = stands.words;
    past = kept_front w entry program layout stands.rows limit d.events old.past stands.past;
    kept = rw (length-take, stands.kept) (omega arith);
    limit = refl;
  }

  -- the machine stands as the definition says, whether the limit was changed or was not
  pub stands_limits : {X E : Type 0} (moves limit : ℕ) (r : Result X E) (new : History) → LimitsWords old limit r new → Limits Stands s d limit r (counted (view_of w entry program lines layout new) moves)
  stands_limits moves limit (Ok x) new is = subst (λ h. SeenStands (view_of w entry program lines layout h) s (limited limit d)) (sym is) (stands_limited limit)
  stands_limits moves limit (Err e) new (larger, is) =
      (omega (arith, larger, stands.limit), subst (λ h. SeenStands (view_of w entry program lines layout h) s d) (sym is) stands)
