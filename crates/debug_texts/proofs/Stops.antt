-- The lines of breakpoints and watches.
use Rattle.std.proofs.Common.{◌≡◌, refl, sym, ap, ap₂, ◌∙◌, ℕ, zero, suc, ◌<◌, List, [], ◌∷◌, ◌++◌, length, get_or, Option, Some, arith, append_assoc}
use Rattle.std.specs.Prelude.{codes, decimal, slice_get}
use Rattle.std.specs.List.{concat}
use Rattle.gang_model.specs.Types.Tree.{Variable}
use Rattle.gang_model.specs.Debugger.Debugger as model
use Rattle.gang_model.specs.Debugger.Debugger.{Setting}
use Rattle.gang_model.specs.Texts.Text.{Bytes, index_text, line, or_none, stop_lines, stop_text, target_text}
use Rattle.debug_traits.specs.Machines.{file_variables}
use Rattle.debug_answers.specs.Meanings.{AreStops, IsStop}
use Rattle.debug_answers.specs.declared.stops.NumberedStop.{NumberedStop}
use Rattle.debug_answers.specs.declared.stops.Stop.TheVariants as stop

-- a line is not nothing
pub or_none_line : (text rest : Bytes) → or_none (line text ++ rest) ≡ line text ++ rest
or_none_line [] rest = refl
or_none_line (b ∷ text) rest = refl

-- a line for one
abbrev pub entry_line : ℕ × model.Stop → Bytes
entry_line entry = line (decimal entry.0 ++ stop_text entry.1)

module _ (s : Setting) where
  -- a watch's line, where the name is that of the file's variable
  pub watch_line : (variable : ℕ) (at : Option ℕ) (meant : model.Stop) (number : ℕ) (digits name : Bytes) → digits ≡ decimal number
      → ((v : Variable) → slice_get (file_variables s) variable ≡ Some v → name ≡ v.name) → IsStop s (stop.Watch variable at) meant
      → line (concat (digits ∷ codes " watch " ∷ []) ++ target_text (record { name = name; at = at })) ≡ line (decimal number ++ stop_text meant)
  watch_line variable at (model.Line l) number digits name is named watch = absurd watch
  watch_line variable at (model.Watch target v) number digits name is named watch =
      let same : name ≡ target.name = named v watch.is_file ∙ sym watch.name in
      ap line (append_assoc digits (codes " watch ") (name ++ index_text at))
      ∙ ap (λ n. line (n ++ (codes " watch " ++ (name ++ index_text at)))) is
      ∙ ap₂ (λ n a. line (decimal number ++ (codes " watch " ++ (n ++ index_text a)))) same (sym watch.part)

  pub as_many : (given : List NumberedStop) (meant : List (ℕ × model.Stop)) → AreStops s given meant → length given ≡ length meant
  as_many [] [] are = refl
  as_many [] (m ∷ meant) are = absurd are
  as_many (g ∷ given) [] are = absurd are
  as_many (g ∷ given) (m ∷ meant) (number, is, are) = ap suc (as_many given meant are)

  pub stop_at : (given : List NumberedStop) (meant : List (ℕ × model.Stop)) (i : ℕ) (x : NumberedStop) (y : ℕ × model.Stop) → AreStops s given meant → i < length given
      → ((get_or given i x).number ≡ (get_or meant i y).0) × IsStop s (get_or given i x).stop (get_or meant i y).1
  stop_at [] meant i x y are inside = absurd (omega arith)
  stop_at (g ∷ given) [] i x y are inside = absurd are
  stop_at (g ∷ given) (m ∷ meant) zero x y (number, is, are) inside = (number, is)
  stop_at (g ∷ given) (m ∷ meant) (suc i) x y (number, is, are) inside = stop_at given meant i x y are (omega arith)

  pub no_stops : (given : List NumberedStop) (meant : List (ℕ × model.Stop)) → AreStops s given meant → length given ≡ 0 → or_none (stop_lines meant) ≡ line (codes "none")
  no_stops [] [] are none = refl
  no_stops [] (m ∷ meant) are none = absurd are
  no_stops (g ∷ given) meant are none = absurd (omega arith)

  pub some_stops : (given : List NumberedStop) (meant : List (ℕ × model.Stop)) → AreStops s given meant → 0 < length given → or_none (stop_lines meant) ≡ stop_lines meant
  some_stops [] meant are some = absurd (omega arith)
  some_stops (g ∷ given) [] are some = absurd are
  some_stops (g ∷ given) (m ∷ meant) are some = or_none_line _ (stop_lines meant)
