-- What a machine stands for is kept.
use Rattle.std.proofs.Common.{◌≡◌, ℕ, zero, suc, ◌+◌, List, [], ◌∷◌, length, take, map, count_by, refl, ap, sym, subst, ◌∙◌, arith}
use Rattle.std.proofs.lemmas.List.{length-take}
use Rattle.std.specs.Prelude.{cond, filter, fold}
use Rattle.undo_log.specs.declared.timeline.Undone.{Undone}
use Rattle.undo_log.specs.History.{History, Moment, moment, steps_in, is_step as is_kept_step}
use Rattle.debug_traits.specs.Machines.{kind_of}
use Rattle.gang_model.specs.Debugger.Events.{Event, Row, Step, Poke}
use Rattle.gang_model.specs.Debugger.Debugger.{Debugger, Setting, is_step, kept_steps, moved, taken_back}
use Rattle.typed_tree.specs.declared.program.Program.{Program}
use Rattle.typed_tree.specs.Views.{program_view}
use Rattle.gang_memory.specs.declared.layout.Layout.{Layout}
use Rattle.gang_machine.specs.Standings.{AreKept, SeenStands, ShowsWords, masked_at, view_of}

count_from : (events : List Event) (n : ℕ) → fold (λ a x. a + cond (is_kept_step x) 1 0) n (map kind_of events) ≡ n + length (filter is_step events)
count_from [] n = omega arith
count_from (Step ∷ events) n = count_from events (n + 1) ∙ omega arith
count_from (Poke what word ∷ events) n = count_from events (n + 0) ∙ omega arith

module _ (w entry : ℕ) (program : Program) (layout : Layout) where
  -- each kept list of words shows the state before its event
  abbrev pub Kept : List Row → List Event → List Moment → Type 0
  Kept rows events past = AreKept w entry program layout rows events past

  pub kept_front : (rows : List Row) (n : ℕ) (events : List Event) (past : List Moment) → Kept rows events past → Kept rows events (take n past)
  kept_front rows zero events past h = tt
  kept_front rows (suc n) events [] h = tt
  kept_front rows (suc n) [] (m ∷ past) h = absurd h
  kept_front rows (suc n) (event ∷ events) (m ∷ past) h = (h.0, h.1, kept_front rows n events past h.2)

  -- they are the newest ones
  pub events_kept : (rows : List Row) (events : List Event) (past : List Moment) → Kept rows events past → map (λ (m : Moment). m.event) past ≡ map kind_of (take (length past) events)
  events_kept rows events [] h = refl
  events_kept rows [] (m ∷ past) h = absurd h
  events_kept rows (event ∷ events) (m ∷ past) h = rw (h.0, events_kept rows events past h.2)

  module _ (lines : List ℕ) (old : History) (s : Setting) (d : Debugger) (stands : SeenStands (view_of w entry program lines layout old) s d) where
    -- an event that is recorded, and does what the definitions' does
    pub stands_moved : (event : Event) (new : History) → ShowsWords w program layout new.words (masked_at w entry (program_view program) stands.rows (event ∷ d.events))
        → new.past ≡ take old.limit (moment (kind_of event) old.words ∷ old.past) → new.limit ≡ old.limit → SeenStands (view_of w entry program lines layout new) s (moved event d)
    stands_moved event new shows past limit = record {
      program = stands.program;
      rows = stands.rows;
      first = stands.first;
      lines = stands.lines;
      words = shows;
      past = rw past (kept_front stands.rows old.limit (event ∷ d.events) (moment (kind_of event) old.words ∷ old.past) (refl, stands.words, stands.past));
      kept = rw (past, length-take, stands.kept, stands.limit) (omega arith);
      limit = stands.limit ∙ sym limit;
    }

    -- the newest event is taken back
    pub stands_undone : (new : History) (kind : Undone) → old.past ≡ moment kind new.words ∷ new.past → new.limit ≡ old.limit
        → (event : Event) × (events : List Event) × (kept : ℕ) × (d.events ≡ event ∷ events) × (d.kept ≡ kept + 1) × (kind ≡ kind_of event) × SeenStands (view_of w entry program lines layout new) s (taken_back d)
    stands_undone new kind past limit = go d.events refl (subst (Kept stands.rows d.events) past stands.past) (stands.kept ∙ ap length past)
      where
        go : (events : List Event) → d.events ≡ events → Kept stands.rows d.events (moment kind new.words ∷ new.past) → d.kept ≡ suc (length new.past)
            → (event : Event) × (events : List Event) × (kept : ℕ) × (d.events ≡ event ∷ events) × (d.kept ≡ kept + 1) × (kind ≡ kind_of event) × SeenStands (view_of w entry program lines layout new) s (taken_back d)
        go [] is are count = absurd (subst (λ events. Kept stands.rows events (moment kind new.words ∷ new.past)) is are)
        go (event ∷ events) is are count =
            let all = subst (λ events. Kept stands.rows events (moment kind new.words ∷ new.past)) is are in (
              event,
              events,
              length new.past,
              is,
              omega (arith, count),
              all.0,
              record {
                program = stands.program;
                rows = stands.rows;
                first = stands.first;
                lines = stands.lines;
                words = rw is all.1;
                past = rw is all.2;
                kept = omega (arith, count);
                limit = stands.limit ∙ sym limit;
              },
            )

    pub steps_kept : steps_in old.past ≡ kept_steps d
    steps_kept =
        ap (count_by is_kept_step) (events_kept stands.rows d.events old.past stands.past ∙ ap (λ n. map kind_of (take n d.events)) (sym stands.kept))
        ∙ count_from (take d.kept d.events) 0 ∙ omega arith
