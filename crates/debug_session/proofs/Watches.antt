-- The words that watches show, one watch after the other.
use Rattle.std.proofs.Common.{◌≡◌, refl, sym, subst, ap, ap₂, ◌∙◌, ℕ, zero, suc, ◌+◌, ◌<◌, Bool, true, false, List, [], ◌∷◌, ◌++◌, length, get_or, drop, Option, Some, None, arith}
use Rattle.std.specs.Prelude.{◌==◌, if◌then◌else◌, not}
use Rattle.std.proofs.lemmas.Bool.{eqb-true}
use Rattle.arrayvec.specs.ArrayVec.{ArrayVec}
use Rattle.gang_model.specs.Source.Names.{same_text}
use Rattle.gang_model.proofs.SameTexts.{same_text-equal, same_text-refl}
use Rattle.gang_model.specs.Types.Tree.{Variable}
use Rattle.gang_model.specs.Running.State.{State}
use Rattle.gang_model.specs.Debugger.Debugger as model
use Rattle.gang_model.specs.Debugger.Debugger.{Setting, differs, first_stop, part_shown, target_words}
use Rattle.debug_answers.specs.declared.stops.NumberedStop.{NumberedStop}
use Rattle.debug_answers.specs.declared.stops.Stop.{Stop}
use Rattle.debug_answers.specs.declared.stops.Stop.TheVariants as stop
use Rattle.debug_answers.specs.Meanings.{AreStops, IsStop, IsWatch}
use Rattle.debug_traits.specs.Machines.{ShowFileAlike}
use Rattle.debug_session.specs.Moves.{noted, stop_words, watch_words}
use Rattle.debug_session.proofs.Turns.{Turn, first_stop_at}

-- ---- the first of some breakpoints and watches is a watch, or a breakpoint

pub record WatchTurn (s : Setting) (x : NumberedStop) (stops : List NumberedStop) (rest : List (ℕ × model.Stop)) (variable : ℕ) (at : Option ℕ) (t : Turn s x stops rest) : Type 0 where
  pub target : model.Target
  pub v : Variable
  pub is : t.entry.1 ≡ model.Watch target v
  pub watch : IsWatch s variable at target v

watch_of : (s : Setting) (x : NumberedStop) (stops : List NumberedStop) (rest : List (ℕ × model.Stop)) (variable : ℕ) (at : Option ℕ) (t : Turn s x stops rest) (meant : model.Stop) → t.entry.1 ≡ meant → IsStop s (stop.Watch variable at) meant → WatchTurn s x stops rest variable at t
watch_of s x stops rest variable at t (model.Line l) e h = absurd h
watch_of s x stops rest variable at t (model.Watch target v) e h = record { target = target; v = v; is = e; watch = h }

pub watch_turn : (s : Setting) (x : NumberedStop) (stops : List NumberedStop) (rest : List (ℕ × model.Stop)) (variable : ℕ) (at : Option ℕ) (t : Turn s x stops rest) → x.stop ≡ stop.Watch variable at → WatchTurn s x stops rest variable at t
watch_turn s x stops rest variable at t is = watch_of s x stops rest variable at t t.entry.1 refl (subst (λ given. IsStop s given t.entry.1) is t.stop)

module _ (s : Setting) (x : NumberedStop) (stops : List NumberedStop) (rest : List (ℕ × model.Stop)) (t : Turn s x stops rest) where
  words_at : (state : State) (meant : model.Stop) → t.entry.1 ≡ meant → watch_words state rest ≡ stop_words state meant ++ watch_words state t.rest
  words_at state meant e = ap (watch_words state) t.is ∙ ap (λ m. stop_words state m ++ watch_words state t.rest) e

  pub words_of_watch : (state : State) (target : model.Target) (v : Variable) → t.entry.1 ≡ model.Watch target v → watch_words state rest ≡ target_words state target v ∷ watch_words state t.rest
  words_of_watch state target v e = words_at state (model.Watch target v) e

  pub test_of_watch : (old new : State) (target : model.Target) (v : Variable) (same : Bool) → t.entry.1 ≡ model.Watch target v → same_text (target_words old target v) (target_words new target v) ≡ same
      → first_stop (differs old new) rest ≡ (if not same then Some x.number else first_stop (differs old new) t.rest)
  test_of_watch old new target v same e h =
      first_stop_at (differs old new) rest t.entry t.rest (not same) t.is (ap (differs old new) e ∙ ap not h)
      ∙ ap (λ n. if not same then Some n else first_stop (differs old new) t.rest) (sym t.number)

  line_of : (given : Stop) (meant : model.Stop) → ((variable : ℕ) (at : Option ℕ) → given ≡ stop.Watch variable at → ⊥) → IsStop s given meant → (l : ℕ) × (meant ≡ model.Line l)
  line_of (stop.Line line) (model.Line l) other h = (l, refl)
  line_of (stop.Line line) (model.Watch target v) other h = absurd h
  line_of (stop.Watch variable at) meant other h = absurd (other variable at refl)

  pub words_of_line : (state : State) → ((variable : ℕ) (at : Option ℕ) → x.stop ≡ stop.Watch variable at → ⊥) → watch_words state rest ≡ watch_words state t.rest
  words_of_line state other = let (l, e) = line_of x.stop t.entry.1 other t.stop in words_at state (model.Line l) e

  pub test_of_line : (old new : State) → ((variable : ℕ) (at : Option ℕ) → x.stop ≡ stop.Watch variable at → ⊥) → first_stop (differs old new) rest ≡ first_stop (differs old new) t.rest
  test_of_line old new other = let (l, e) = line_of x.stop t.entry.1 other t.stop in first_stop_at (differs old new) rest t.entry t.rest false t.is (ap (differs old new) e)

-- ---- words that are the same, or not

-- words that are not equal are not the same
pub not_same : (xs ys : List ℕ) → (xs ≡ ys → ⊥) → false ≡ same_text xs ys
not_same xs ys other = go (same_text xs ys) refl
  where
    go : (b : Bool) → same_text xs ys ≡ b → false ≡ b
    go true h = absurd (other (same_text-equal xs ys h))
    go false h = refl

not_not : (b : Bool) → not b ≡ false → b ≡ true
not_not true h = refl
not_not false h = cc h

stop_stays : (old new : State) (stop : model.Stop) → differs old new stop ≡ false → stop_words old stop ≡ stop_words new stop
stop_stays old new (model.Line line) h = refl
stop_stays old new (model.Watch target v) h =
    ap (λ words. words ∷ []) (same_text-equal (target_words old target v) (target_words new target v) (not_not (same_text (target_words old target v) (target_words new target v)) h))

-- where no watch differs, they show the same words
pub words_stay : (old new : State) (meant : List (ℕ × model.Stop)) → first_stop (differs old new) meant ≡ None → watch_words old meant ≡ watch_words new meant
words_stay old new [] h = refl
words_stay old new (entry ∷ meant) h = go (words_stay old new meant) (differs old new entry.1) refl
  where
    go : (first_stop (differs old new) meant ≡ None → watch_words old meant ≡ watch_words new meant)
        → (b : Bool) → differs old new entry.1 ≡ b → watch_words old (entry ∷ meant) ≡ watch_words new (entry ∷ meant)
    go others true e = absurd (cc (sym (ap (λ b. if b then Some entry.0 else first_stop (differs old new) meant) e) ∙ h))
    go others false e =
        let later : first_stop (differs old new) meant ≡ None = sym (ap (λ b. if b then Some entry.0 else first_stop (differs old new) meant) e) ∙ h in
        ap (λ words. words ++ watch_words old meant) (stop_stays old new entry.1 e) ∙ ap (λ words. stop_words new entry.1 ++ words) (others later)

-- ---- noted words

-- one more is noted
pub noted_more : (before : List (ArrayVec ℕ)) (words : ArrayVec ℕ) (xs : List ℕ) (others : List (List ℕ)) → words.items ≡ xs → noted (before ++ words ∷ []) ++ others ≡ noted before ++ xs ∷ others
noted_more [] words xs others e = ap (λ ys. ys ∷ others) e
noted_more (b ∷ before) words xs others e = ap (λ ys. b.items ∷ ys) (noted_more before words xs others e)

drop_next : (xs : List (List ℕ)) (k : ℕ) (y : List ℕ) (ys : List (List ℕ)) → drop k xs ≡ y ∷ ys → drop (suc k) xs ≡ ys
drop_next [] zero y ys e = cc e
drop_next [] (suc k) y ys e = cc e
drop_next (x ∷ xs) zero y ys e = cc e
drop_next (x ∷ xs) (suc k) y ys e = drop_next xs k y ys e

pub noted_on : (xs : List (List ℕ)) (k : ℕ) (y : List ℕ) (ys : List (List ℕ)) → drop k xs ≡ y ∷ ys → drop (k + 1) xs ≡ ys
noted_on xs k y ys e =
    let one : k + 1 ≡ suc k = omega arith in
    ap (λ n. drop n xs) one ∙ drop_next xs k y ys e

-- what is noted at a place
pub noted_at : (before : List (ArrayVec ℕ)) (k : ℕ) (x : ArrayVec ℕ) (y : List ℕ) (ys : List (List ℕ)) → drop k (noted before) ≡ y ∷ ys → (k < length before) × ((get_or before k x).items ≡ y)
noted_at [] zero x y ys e = cc e
noted_at [] (suc k) x y ys e = cc e
noted_at (b ∷ before) zero x y ys e = let same : b.items ≡ y = cc e in (omega arith, same)
noted_at (b ∷ before) (suc k) x y ys e = let (inside, same) = noted_at before k x y ys e in (omega (arith, inside), same)

-- ---- a move that changes no watch

head_tail : (x y : List ℕ) (xs ys : List (List ℕ)) → x ∷ xs ≡ y ∷ ys → (x ≡ y) × (xs ≡ ys)
head_tail x y xs ys h = (cc h, cc h)

-- a watch that shows the same does not differ
same_words : (old new : State) (stop : model.Stop) (xs ys : List (List ℕ)) → stop_words old stop ++ xs ≡ stop_words new stop ++ ys → (differs old new stop ≡ false) × (xs ≡ ys)
same_words old new (model.Line line) xs ys h = (refl, h)
same_words old new (model.Watch target v) xs ys h =
    let (first, others) = head_tail (target_words old target v) (target_words new target v) xs ys h in
    (ap (λ words. not (same_text (target_words old target v) words)) (sym first) ∙ ap not (same_text-refl (target_words old target v)), others)

pub none_differs : (old new : State) (meant : List (ℕ × model.Stop)) → watch_words old meant ≡ watch_words new meant → None ≡ first_stop (differs old new) meant
none_differs old new [] h = refl
none_differs old new (entry ∷ meant) h =
    let (same, others) = same_words old new entry.1 (watch_words old meant) (watch_words new meant) h in
    none_differs old new meant others ∙ sym (ap (λ b. if b then Some entry.0 else first_stop (differs old new) meant) same)

-- where nothing is noted there is no watch
no_words : (old state : State) (stop : model.Stop) (xs : List (List ℕ)) → [] ≡ stop_words old stop ++ xs → (stop_words state stop ≡ []) × ([] ≡ xs)
no_words old state (model.Line line) xs h = (refl, h)
no_words old state (model.Watch target v) xs h = cc h

pub none_noted : (old state : State) (meant : List (ℕ × model.Stop)) → [] ≡ watch_words old meant → watch_words state meant ≡ []
none_noted old state [] h = refl
none_noted old state (entry ∷ meant) h =
    let (none, others) = no_words old state entry.1 (watch_words old meant) h in
    ap (λ words. words ++ watch_words state meant) none ∙ none_noted old state meant others

pub none_there : (before : List (ArrayVec ℕ)) (b : Bool) → b ≡ (length before == 0) → b ≡ true → [] ≡ noted before
none_there [] b is empty = refl
none_there (words ∷ before) b is empty = let none = eqb-true (length (words ∷ before)) 0 (sym is ∙ empty) in absurd (omega (arith, none))

-- watches are of variables of the file
module _ (s : Setting) (old new : State) (alike : ShowFileAlike s old new) where
  stop_alike : (given : Stop) (meant : model.Stop) → IsStop s given meant → stop_words old meant ≡ stop_words new meant
  stop_alike (stop.Line line) (model.Line l) h = refl
  stop_alike (stop.Line line) (model.Watch target v) h = absurd h
  stop_alike (stop.Watch variable at) (model.Line l) h = absurd h
  stop_alike (stop.Watch variable at) (model.Watch target v) h = ap (λ words. part_shown target.at words ∷ []) (sym (alike v (variable, h.is_file)))

  pub watches_alike : (stops : List NumberedStop) (meant : List (ℕ × model.Stop)) → AreStops s stops meant → watch_words old meant ≡ watch_words new meant
  watches_alike [] [] are = refl
  watches_alike [] (entry ∷ meant) are = absurd are
  watches_alike (given ∷ stops) [] are = absurd are
  watches_alike (given ∷ stops) (entry ∷ meant) are = ap₂ (λ words others. words ++ others) (stop_alike given.stop entry.1 are.1) (watches_alike stops meant are.2)
