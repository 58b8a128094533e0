-- Where no condition and no count is there, nothing is disabled, and it is not watched what a frame shows, a line is a list of commands; or it is to
-- watch an expression, there was no memory to read that, and nothing was done.
use Rattle.std.proofs.Common.{◌≡◌, refl, ℕ, Bool, true, false, List, [], length, Option, None, Some, subst, ap, ◌∙◌, inl, inr}
use Rattle.std.specs.Prelude.{◌⊎◌, ◌==◌, ◌||◌, ◌&&◌, not, if◌then◌else◌}
use Rattle.gang_model.specs.Debugger.Debugger.{Debugger, Setting, Target}
use Rattle.gang_model.specs.Texts.CommandText.{command_of}
use Rattle.debug_session.specs.declared.session.Session.{Session}
use Rattle.conditional_stops.specs.declared.watches.Watch.{Watch}
use Rattle.conditional_stops.specs.Tables.{Table, is_nothing, nothing}
use Rattle.prompt_lines.specs.Conditions.{before_if, condition_in}
use Rattle.prompt_lines.specs.declared.line.Kind.{Kind}
use Rattle.prompt_lines.specs.declared.line.Kind.TheVariants as kind
use Rattle.prompt_lines.specs.Sources.{Sheet}
use Rattle.prompt_lines.specs.Words.{Spelled, is_alone}
use Rattle.prompt_scenes.specs.Holding.{Held}
use Rattle.prompt_scenes.specs.Readings.{watch_of}
use Rattle.prompt_stops.specs.Breaking.{DoesWatch, WatchesBy, after_watch, after_watch_by, watched, watched_by, write_name, written_in}
use Rattle.prompt_going.specs.GoingOn.{Does, DoesOwn, DoesTyped, way_of}
use Rattle.debug_prompt.specs.Doing.{changed_by, commands_by, commands_of, held_after, meant}
use Rattle.debug_prompt.specs.Lines.{DoesKind, DoesLine, DoesRun}

module _ {M : Type 0} (stands : M → Setting → Debugger → Type 0) (sheet : Sheet) (s : Setting) (d : Debugger) (h : Held) (session : Session M) where
  -- nothing was done for a line that is to watch an expression
  abbrev pub WatchesNone : Kind → (new : Held) → Type 0
  WatchesNone typed new = (typed ≡ kind.Watch) × Does stands s d [] h session new

  by_target : (target : Option Target) (text condition : Option (List ℕ)) (refused : Bool) (new : Held) → DoesWatch stands s d h target text condition refused session new
      → Does stands s d (watched s d h target text) (after_watch s d h target text condition) session new ⊎ Does stands s d [] h session new
  by_target None text condition true new does = inr does
  by_target None text condition false new does = inl does
  by_target (Some target) text condition refused new does = inl does

  by_name : (name : Option (List ℕ)) (target : Option Target) (text condition : Option (List ℕ)) (new : Held) → WatchesBy stands s d h name target text condition session new
      → Does stands s d (watched_by s d h name target text) (after_watch_by s d h name target text condition) session new ⊎ Does stands s d [] h session new
  by_name None target text condition new watches = by_target target text condition watches.refused new watches.does
  by_name (Some name) target text condition new does = inl does

  or_none : {A B C : Type 0} → C → A ⊎ B → A ⊎ (C × B)
  or_none c (inl a) = inl a
  or_none c (inr b) = inr (c, b)

  plain_kind : (new : Held) (kind : Kind) (text : List ℕ) → h.table ≡ nothing → h.frames ≡ [] → DoesKind stands kind sheet s d h text session new
      → Does stands s d (commands_by kind sheet s d h text) (changed_by kind sheet s d h text) session new ⊎ WatchesNone kind new
  plain_kind new kind.Own text none few does =
      inl (subst (λ way. DoesOwn stands s d h (command_of text) way session new) (ap (λ (table : Table). if is_nothing table then None else way_of (command_of text)) none)
      (subst (λ way. DoesTyped stands s d h (command_of text) way session new) (ap (λ (frames : List Watch). if length frames == 0 then None else way_of (command_of text)) few) does))
  plain_kind new kind.Run text none few does =
      inl (subst (λ plain. DoesRun stands sheet s d h text plain session new) (ap (λ (table : Table). (is_nothing table && (length h.frames == 0)) || not (is_alone text)) none ∙ ap (λ (frames : List Watch). (length frames == 0) || not (is_alone text)) few) does)
  plain_kind new kind.Watch text none few watches =
      or_none refl (by_name (write_name text) (watch_of (command_of (before_if text))) (written_in text) (condition_in text) new watches)
  plain_kind new other text none few does = inl does

  -- the commands of a line are done, and nothing else; or nothing, where memory was wanting to read what is to be watched
  pub plain_line : (new : Held) (kept : Spelled) (line : List ℕ) → h.table ≡ nothing → h.frames ≡ [] → (does : DoesLine stands sheet kept h s d line session new)
      → Does stands s d (commands_of sheet kept h s d line) (held_after sheet kept h s d line) session does.middle ⊎ WatchesNone (meant kept line).kind does.middle
  plain_line new kept line none few does = plain_kind does.middle (meant kept line).kind (meant kept line).text none few does.does
