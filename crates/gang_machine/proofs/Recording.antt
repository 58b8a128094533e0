-- What events leave of a machine.
use Rattle.std.proofs.Common.{◌≡◌, ℕ, ◌∷◌, ap, sym, subst, ◌∙◌, arith}
use Rattle.std.specs.Prelude.{All}
use Rattle.std.proofs.lemmas.List.Elements.{All-cons, All-head, All-tail, All-take}
use Rattle.undo_log.specs.declared.timeline.Undone.{Undone}
use Rattle.undo_log.specs.History.{History, moment, marked}
use Rattle.gang_memory.specs.declared.layout.Layout.{Layout}
use Rattle.gang_memory.specs.Layouts.{IsLayoutOf}
use Rattle.machine_states.specs.Nesting.{most_levels}
use Rattle.machine_words.specs.declared.words.MachineWords.{MachineWords}
use Rattle.machine_words.specs.Ranges.{head_sizes, machine_sizes}
use Rattle.machine_words.specs.Words.{AreLaid}
use Rattle.frame_steps.specs.declared.compiled.CompiledProgram.{CompiledProgram}
use Rattle.frame_steps.specs.Compiled.{program_of}
use Rattle.frame_steps.specs.Standing.{AreSound, Records}
use Rattle.debug_traits.specs.Machines.{RecordsWords}
use Rattle.gang_machine.specs.Machines.{IsMachine, IsSoundMoment}

module _ {T : Type 0} (history : T → History) (w : ℕ) (compiled : CompiledProgram) (old new : MachineWords T) where
  -- the words before the newest event are the words now
  pub machine_undone : (kind : Undone) → IsMachine history w compiled old → new.layout ≡ old.layout
      → (history old.store.timeline).past ≡ moment kind (history new.store.timeline).words ∷ (history new.store.timeline).past
      → (history new.store.timeline).limit ≡ (history old.store.timeline).limit → (history new.store.timeline).room ≡ (history old.store.timeline).room → IsMachine history w compiled new
  machine_undone kind machine layout is limit room =
      let h = history new.store.timeline in
      let old_past : All (IsSoundMoment w compiled old.layout) (history old.store.timeline).past = machine.past in
      let past : All (IsSoundMoment w compiled new.layout) (moment kind h.words ∷ h.past) =
      subst (λ ms. All (IsSoundMoment w compiled new.layout) ms) is (subst (λ l. All (IsSoundMoment w compiled l) (history old.store.timeline).past) (sym layout) old_past) in
      let first = All-head (IsSoundMoment w compiled new.layout) (moment kind h.words) h.past past in
      let lie = machine.lie in
      record {
        lie = record {
          gang = lie.gang;
          compiled_is = lie.compiled_is;
          lengths = lie.lengths;
          layout = subst (λ l. IsLayoutOf w compiled.program lie.lengths machine_sizes (head_sizes w (most_levels (program_of compiled))) l) (sym layout) lie.layout;
          laid = first.laid;
          room = omega (arith, room, lie.room);
        };
        masked = first.masked;
        shown = record { shows = first.shown.shows; declared = first.shown.declared };
        called = first.called;
        past = All-tail (IsSoundMoment w compiled new.layout) (moment kind h.words) h.past past;
        limit = omega (arith, limit, machine.limit);
      }

  module _ (event : Undone) (records : Records history w event old new) where
    pub past_is : (history new.store.timeline).past ≡ (marked event (history old.store.timeline)).past
    past_is = ap (λ (h : History). h.past) records.recorded

    pub limit_is : (history new.store.timeline).limit ≡ (history old.store.timeline).limit
    limit_is = ap (λ (h : History). h.limit) records.recorded

    -- one event more is kept, and there are as many words as before
    pub words_recorded : AreLaid history w old → RecordsWords event (history old.store.timeline) (history new.store.timeline)
    words_recorded laid = (past_is, limit_is, records.laid.long ∙ ap (λ (l : Layout). l.words) records.layout ∙ sym laid.long)

    pub machine_recorded : IsMachine history w compiled old → AreSound history w compiled new → IsMachine history w compiled new
    machine_recorded machine sound =
        let h = history old.store.timeline in
        let here : All (IsSoundMoment w compiled old.layout) (moment event h.words ∷ h.past) =
        All-cons (IsSoundMoment w compiled old.layout) (moment event h.words) h.past
        (record { laid = machine.lie.laid; masked = machine.masked; shown = record { shows = machine.shown.shows; declared = machine.shown.declared }; called = machine.called }) machine.past in
        let past : All (IsSoundMoment w compiled old.layout) (marked event h).past = All-take (IsSoundMoment w compiled old.layout) h.limit (moment event h.words ∷ h.past) here in
        record {
          lie = sound.lie;
          masked = sound.masked;
          shown = sound.shown;
          called = sound.called;
          past = subst (λ ms. All (IsSoundMoment w compiled new.layout) ms) (sym past_is) (subst (λ l. All (IsSoundMoment w compiled l) (marked event h).past) (sym records.layout) past);
          limit = omega (arith, limit_is, machine.limit);
        }
