-- Frames stand on their own regions: they show the same where only other regions change.
use Rattle.std.proofs.Common.{◌≡◌, sym, ap, ◌∙◌, subst, ℕ, ◌≤◌, List, [], ◌∷◌, length, arith}
use Rattle.std.specs.Prelude.{slice_get}
use Rattle.gang_types.specs.Masks.{lanes_of_word}
use Rattle.gang_model.specs.Types.Tree.{Program}
use Rattle.gang_model.specs.Running.Lanes.{at}
use Rattle.gang_model.specs.Running.State.{Frame, words_of}
use Rattle.gang_model.specs.Running.Step.{result_rate}
use Rattle.gang_types.specs.declared.places.VarId.TheVariants.{File, Local}
use Rattle.mask_states.specs.Points.{closing_number, points_in}
use Rattle.mask_states.specs.Masked.{Level}
use Rattle.machine_states.proofs.InnermostLevels.{levels_shown_same}
use Rattle.machine_states.specs.Levels.{LevelWords}
use Rattle.machine_states.specs.Variables.{Variables, own_of, rate_of}
use Rattle.machine_states.specs.Regions.{FunctionOf, LanesOf, ReturnedOf, NumbersOf, ResultOf, Head, OfHead, OfLocal, Regions, lanes_in, LevelOf, OfLevel, OpenOf, EndOf, CountersOf, ValuesOf, LevelPart}
use Rattle.machine_states.specs.Shows.{IsScalarIn, ShowsLocal, ShowsView, result_of, ShowsFrame, ShowsFrames, level_words}
use Rattle.machine_states.specs.Steps.{AreSameBelow}
use Rattle.machine_states.proofs.ArrayViews.{view_same}
use Rattle.machine_states.proofs.ChangedRegions.{AreFramesSame, HaveSameLengths}

pub same_level_words : (a b : LevelWords) → a.end ≡ b.end → a.numbers ≡ b.numbers → a.counters ≡ b.counters → a.values ≡ b.values → a ≡ b
same_level_words a b e n c v =
    ap (λ words. record { end = words; numbers = a.numbers; counters = a.counters; values = a.values }) e
    ∙ ap (λ words. record { end = b.end; numbers = words; counters = a.counters; values = a.values }) n
    ∙ ap (λ words. record { end = b.end; numbers = b.numbers; counters = words; values = a.values }) c
    ∙ ap (λ words. record { end = b.end; numbers = b.numbers; counters = b.counters; values = words }) v

-- the words of each level of a frame are the same
pub level_words_same : (old new : Regions) (i : ℕ) → ((level : ℕ) (part : LevelPart) → new (OfLevel i level part) ≡ old (OfLevel i level part))
    → (level : ℕ) → level_words new i level ≡ level_words old i level
level_words_same old new i same level =
    same_level_words (level_words new i level) (level_words old i level) (same level EndOf) (same level NumbersOf) (same level CountersOf) (same level ValuesOf)

module _ (p : Program) (variables : Variables) (w : ℕ) (old new : Regions) where
  -- a variable whose region is the same
  pub local_same : (i : ℕ) (frame : Frame) (k : ℕ) → new (OfLocal i k) ≡ old (OfLocal i k) → ShowsLocal variables w old i frame k → ShowsLocal variables w new i frame k
  local_same i frame k same shown there =
      subst (λ region. IsScalarIn w (rate_of (slice_get (own_of variables frame.function) k)) (words_of frame.vars (Local k)) region) (sym same) (shown there)

  pub lanes_same : (i : ℕ) (part : Head) → new (OfHead i part) ≡ old (OfHead i part) → lanes_in w old (OfHead i part) ≡ lanes_in w new (OfHead i part)
  lanes_same i part same = ap (λ words. lanes_of_word w (at words 0)) (sym same)

  -- a parameter whose region is the same
  pub view_shown : HaveSameLengths old new → (i : ℕ) (frame : Frame) (k : ℕ) → new (OfLocal i k) ≡ old (OfLocal i k) → ShowsView variables old i frame.function frame.views k
      → ShowsView variables new i frame.function frame.views k
  view_shown lengths i frame k same shown is = shown is ∙ sym (view_same old new lengths i k same)

  -- a frame whose regions are the same
  pub frame_same : HaveSameLengths old new → (i : ℕ) (frame : Frame) (levels : List Level) → ((part : Head) → new (OfHead i part) ≡ old (OfHead i part)) → ((k : ℕ) → new (OfLocal i k) ≡ old (OfLocal i k))
      → ShowsFrame p variables w old i frame levels → ShowsFrame p variables w new i frame levels
  frame_same lengths i frame levels heads locals shown = record {
    function = shown.function;
    is_function = shown.is_function;
    number = heads FunctionOf ∙ shown.number;
    lanes = shown.lanes ∙ lanes_same i LanesOf (heads LanesOf);
    waits = levels_shown_same (points_in shown.function) w (level_words old i) (level_words new i) (old (OfHead i OpenOf)) (new (OfHead i OpenOf)) (closing_number shown.function) levels
        (level_words_same old new i (λ level part. heads (LevelOf level part))) (heads OpenOf) shown.waits;
    untasked = shown.untasked;
    views = λ k. view_shown lengths i frame k (locals k) (shown.views k);
    locals = λ k. local_same i frame k (locals k) (shown.locals k);
    result = shown.result
        ∙ ap (λ returned. result_of (result_rate p frame) returned (old (OfHead i ResultOf))) (lanes_same i ReturnedOf (heads ReturnedOf))
        ∙ ap (result_of (result_rate p frame) (lanes_in w new (OfHead i ReturnedOf))) (sym (heads ResultOf));
    result_sized = ap length (heads ResultOf) ∙ shown.result_sized;
  }

  -- frames below an index show the same where the regions below it are the same
  pub frames_below : (index : ℕ) → AreFramesSame index old new → (frames : List Frame) (levels : List (List Level)) → length frames ≤ index
      → ShowsFrames p variables w old frames levels → ShowsFrames p variables w new frames levels
  frames_below index same [] [] few shown = tt
  frames_below index same [] (levels ∷ rest) few shown = shown
  frames_below index same (frame ∷ frames) [] few shown = shown
  frames_below index same (frame ∷ frames) (levels ∷ rest) few shown = (
    frame_same same.lengths (length frames) frame levels (λ part. same.heads (length frames) part few) (λ k. same.locals (length frames) k few) shown.0,
    shown.1,
    frames_below index same frames rest (omega (arith, few)) shown.2,
  )

-- regions that are the same below an index have the same frames there
pub same_frames : (index : ℕ) (old new : Regions) → AreSameBelow index old new → AreFramesSame index old new
same_frames index old new same = record { lengths = lengths; heads = same.heads; locals = same.locals }
  where
    lengths : HaveSameLengths old new
    lengths (File k) = ap length (same.file k)
    lengths (Local k) = ap length (same.entry k)
