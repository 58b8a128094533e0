-- Moments, one after another.
use Rattle.std.proofs.Common.{◌≡◌, refl, sym, ap, ◌∙◌, subst, ℕ, zero, suc, ◌+◌, Bool, true, false, not, cond, List, [], ◌∷◌, ◌++◌, append-nil, inl, inr, codes, add-one, arith}
use Rattle.std.specs.Prelude.{OnErr, Result, Ok, Err, Contains, filter, if◌then◌else◌, ◌⊎◌}
use Rattle.std.specs.List.{range_with_len}
use Rattle.std.proofs.lemmas.List.Elements.{All-push, Contains-append_left, Contains-push, filter-append}
use Rattle.gang_model.specs.Types.Tree.{Program}
use Rattle.gang_model.specs.Running.State.{State}
use Rattle.gang_model.specs.Texts.Text.{where_text}
use Rattle.gang_model.specs.Debugger.Debugger.{Debugger, Setting, now}
use Rattle.lane_picture.specs.Runs as run
use Rattle.lane_picture.specs.Runs.{RunEnd}
use Rattle.lane_picture.specs.Seen.{state_after}
use Rattle.run_page.specs.declared.moments.Moment.{Moment}
use Rattle.run_page.specs.declared.page.Subject.{Subject}
use Rattle.run_page.specs.Calls.{IsWidthOf, NotesWidth}
use Rattle.run_page.specs.Moments.{AreMoments, NotesMoment, Stands, is_told, steps_done, steps_of, told_moments}

-- moments with the one of where the run stands now
pub moments_more : (s : Setting) (e : Debugger) (first : State) (taken : ℕ) (old new : List Moment) → now s e ≡ state_after s.program taken first
    → NotesMoment s e taken old new → AreMoments s.program first old → AreMoments s.program first new
moments_more s e first taken old new stood (moment, behind, is, stands) are =
    let p = s.program in
    let own : Stands (where_text p (state_after p moment.taken first)) moment.stand =
    subst (λ n. Stands (where_text p (state_after p n first)) moment.stand) (sym is) (subst (λ state. Stands (where_text p state) moment.stand) stood stands) in
    subst (AreMoments p first) (sym behind) (All-push (λ (it : Moment). Stands (where_text p (state_after p it.taken first)) it.stand) old moment are own)

-- how wide the gang was is told still where the program has ended
still : (p : Program) (first : State) (old : List Moment) (moment : Moment) (known width : ℕ) → where_text p (state_after p moment.taken first) ≡ codes "ended" → width ≡ known
    → IsWidthOf p first old known → IsWidthOf p first (old ++ moment ∷ []) width
still p first old moment known width over same was = subst (λ n. IsWidthOf p first (old ++ moment ∷ []) n) (sym same) (elim was [
  | inl tells ↦ inl (tells.0, Contains-append_left old (moment ∷ []) tells.0 tells.1, tells.2)
  | inr none ↦ inr (none.0, All-push (λ (it : Moment). where_text p (state_after p it.taken first) ≡ codes "ended") old moment none.1 over)
])

-- how wide the gang is, with the moment of where the run stands now
pub width_more : (s : Setting) (e : Debugger) (first : State) (taken : ℕ) (old new : List Moment) (known width : ℕ) → now s e ≡ state_after s.program taken first
    → NotesMoment s e taken old new → NotesWidth (where_text s.program (now s e)) known width → IsWidthOf s.program first old known → IsWidthOf s.program first new width
width_more s e first taken old new known width stood (moment, behind, is, stands) notes was =
    let p = s.program in
    let here : where_text p (now s e) ≡ where_text p (state_after p moment.taken first) = ap (where_text p) (stood ∙ ap (λ n. state_after p n first) (sym is)) in
    let told : NotesWidth (where_text p (state_after p moment.taken first)) known width = subst (λ text. NotesWidth text known width) here notes in
    subst (λ moments. IsWidthOf p first moments width) (sym behind) (elim told [
      | inl tells ↦ inl (moment, Contains-push old moment, tells)
      | inr over ↦ still p first old moment known width over.0 over.1 was
    ])

-- ---- which of them there are

pub steps_more : (moments : List Moment) (moment : Moment) → steps_of (moments ++ moment ∷ []) ≡ steps_of moments ++ moment.taken ∷ []
steps_more [] moment = refl
steps_more (first ∷ moments) moment = ap (λ steps. first.taken ∷ steps) (steps_more moments moment)

range_more : (a n : ℕ) → range_with_len a (suc n) ≡ range_with_len a n ++ (a + n) ∷ []
range_more a zero = ap (λ k. k ∷ []) (omega arith)
range_more a (suc n) = ap (λ rest. a ∷ rest) (range_more (a + 1) n ∙ ap (λ k. range_with_len (a + 1) n ++ k ∷ []) (omega arith))

-- those of the first so many that are told
abbrev pub told_before : Subject → ℕ → List ℕ
told_before subject n = filter (is_told subject) (range_with_len 0 n)

-- one moment, if it is told
abbrev pub one_if : Bool → ℕ → List ℕ
one_if b n = cond b (n ∷ []) []

pub told_next : (subject : Subject) (n : ℕ) → told_before subject (n + 1) ≡ told_before subject n ++ one_if (is_told subject n) n
told_next subject n =
    let same : 0 + n ≡ n = omega arith in
    ap (λ k. told_before subject k) (add-one n) ∙ ap (filter (is_told subject)) (range_more 0 n) ∙ filter-append (is_told subject) (range_with_len 0 n) ((0 + n) ∷ [])
    ∙ ap (λ k. told_before subject n ++ one_if (is_told subject k) k) same

-- the last one is told, if it was not
pub told_last : (subject : Subject) (n : ℕ) (b : Bool) → (told_before subject n ++ one_if b n) ++ one_if (not b) n ≡ told_moments subject n
told_last subject n true = append-nil (told_before subject n ++ n ∷ [])
told_last subject n false = ap (λ steps. steps ++ n ∷ []) (append-nil (told_before subject n))

-- what holds whatever came of a call holds where it failed
pub on_err : {X E P : Type 0} (r : Result X E) → P → OnErr r P
on_err (Ok x) p = tt
on_err (Err e) p = p

-- where as many steps were tried as may be, each was done
pub done_full : (taken : ℕ) (how : RunEnd) (b : Bool) → how ≡ (if b then run.Ended else run.StepLimit) → steps_done taken how ≡ taken
done_full taken how true is = ap (steps_done taken) is
done_full taken how false is = ap (steps_done taken) is
