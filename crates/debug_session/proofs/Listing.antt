-- Breakpoints and watches that are added and deleted.
use Rattle.std.proofs.Common.{◌≡◌, refl, sym, subst, ap, ap₂, ◌∙◌, ℕ, suc, Bool, true, false, ◌||◌, List, [], ◌∷◌, ◌++◌, length, Option, Some, None}
use Rattle.std.specs.Prelude.{◌==◌, cond, filter, find, if◌then◌else◌, is_some, nat_le, nat_lt, not, ℤ}
use Rattle.std.specs.List.{list_any}
use Rattle.gang_types.specs.Values.{wrapped}
use Rattle.gang_model.specs.Types.Tree.{Variable}
use Rattle.gang_model.specs.Running.State.{State}
use Rattle.gang_model.specs.Debugger.Debugger as model
use Rattle.gang_model.specs.Debugger.Debugger.{Constant, Debugger, NoSuchName, OutOfRange, Reply, Setting, Shows, Silent, TableFull, add_stop, bad_part, do_set, do_set_in, found, found_at, is_value, moved, now, poked_by, refused, reply, shown_words, unless_refused, with_target, with_target_in}
use Rattle.gang_model.specs.Debugger.Events.{InFrame, Poke}
use Rattle.debug_answers.specs.declared.answer.Answer.{Answer}
use Rattle.debug_answers.specs.declared.answer.Answer.TheVariants as answer
use Rattle.debug_answers.specs.declared.answer.Refusal.TheVariants as refusal
use Rattle.debug_answers.specs.declared.stops.NumberedStop.{NumberedStop}
use Rattle.debug_answers.specs.declared.stops.Stop.{Stop}
use Rattle.debug_answers.specs.Meanings.{AreStops, IsStop, Means}
use Rattle.debug_traits.specs.declared.machine.Shown.{Shown}
use Rattle.debug_traits.specs.Frames.{IsShownAt, state_at}
use Rattle.debug_traits.specs.Machines.{IsShown}
use Rattle.debug_session.specs.Moves.{first_of, set_refusal}
use Rattle.debug_session.specs.Sessions.{bare}
use Rattle.debug_session.specs.Stops.{Table}
use Rattle.debug_session.specs.Tables.{Listed, given_number, is_full, with_stop}

-- ---- as many, and one more

pub as_many : (s : Setting) (items : List NumberedStop) (stops : List (ℕ × model.Stop)) → AreStops s items stops → length stops ≡ length items
as_many s [] [] h = refl
as_many s [] (y ∷ stops) h = absurd h
as_many s (x ∷ items) [] h = absurd h
as_many s (x ∷ items) (y ∷ stops) h = ap suc (as_many s items stops h.2)

one_more : (s : Setting) (items : List NumberedStop) (stops : List (ℕ × model.Stop)) (x : NumberedStop) (y : ℕ × model.Stop) → AreStops s items stops → x.number ≡ y.0 → IsStop s x.stop y.1 → AreStops s (items ++ x ∷ []) (stops ++ y ∷ [])
one_more s [] [] x y h number stop = (number, stop, tt)
one_more s [] (z ∷ stops) x y h number stop = absurd h
one_more s (w ∷ items) [] x y h number stop = absurd h
one_more s (w ∷ items) (z ∷ stops) x y h number stop = (h.0, h.1, one_more s items stops x y h.2 number stop)

module _ (s : Setting) (d : Debugger) (table new : Table) (stop : Stop) (meant : model.Stop) (says : ℕ → model.Answer) (are : AreStops s table.items d.stops) (next : d.next ≡ table.next) (made : new ≡ with_stop stop table) where
  full_same : (nat_le 64 (length d.stops) || nat_lt 10000000 d.next) ≡ is_full table
  full_same = ap (λ n. nat_le 64 n || nat_lt 10000000 d.next) (as_many s table.items d.stops are) ∙ ap (λ n. nat_le 64 (length table.items) || nat_lt 10000000 n) next

  abbrev added : Debugger
  added = record d { stops = d.stops ++ (d.next, meant) ∷ []; next = suc d.next }

  abbrev replies : Bool → Reply
  replies full = if full then refused TableFull d else reply (says d.next) added

  full_or_not : (b : Bool) → is_full table ≡ b → add_stop meant says d ≡ replies b
  full_or_not b e = ap replies (full_same ∙ e)

  abbrev numbers : Bool → Option ℕ
  numbers full = if full then None else Some table.next

  abbrev tables : Bool → Table
  tables full = if full then table else record { items = table.items ++ record { number = table.next; stop = stop } ∷ []; next = suc table.next }

  -- the table is full
  pub listed_full : given_number table ≡ None → Listed s d (add_stop meant says d) (answer.Refused refusal.TableFull) new
  listed_full none = go (is_full table) refl
    where
      go : (b : Bool) → is_full table ≡ b → Listed s d (add_stop meant says d) (answer.Refused refusal.TableFull) new
      go true e =
          subst (λ r. Listed s d r (answer.Refused refusal.TableFull) new) (sym (full_or_not true e))
          (subst (λ t. Listed s d (replies true) (answer.Refused refusal.TableFull) t) (sym (made ∙ ap tables e))
          (record { same = refl; stops = are; next = next; means = refl }))
      go false e = absurd (cc (sym (ap numbers e) ∙ none))

  -- the next number was given
  pub listed_added : (n : ℕ) (given : Answer) → given_number table ≡ Some n → IsStop s stop meant → (n ≡ d.next → Means s added given (says d.next)) → Listed s d (add_stop meant says d) given new
  listed_added n given some is means = go (is_full table) refl
    where
      go : (b : Bool) → is_full table ≡ b → Listed s d (add_stop meant says d) given new
      go true e = absurd (cc (sym (ap numbers e) ∙ some))
      go false e =
          let given_is : Some table.next ≡ Some n = sym (ap numbers e) ∙ some in
          let n_is : table.next ≡ n = cc given_is in
          subst (λ r. Listed s d r given new) (sym (full_or_not false e))
          (subst (λ t. Listed s d (replies false) given t) (sym (made ∙ ap tables e))
          (record {
            same = refl;
            stops = one_more s table.items d.stops (record { number = table.next; stop = stop }) (d.next, meant) are (sym next) is;
            next = ap suc next;
            means = means (sym n_is ∙ sym next);
          }))

pub listed_so : (s : Setting) (d : Debugger) (table : Table) (given : Answer) (r q : Reply) → r ≡ q → Listed s d q given table → Listed s d r given table
listed_so s d table given r q same h = subst (λ r. Listed s d r given table) (sym same) h

-- ---- targets

-- what is told of a variable says which of its parts can be had
part_told : (whole : Bool) (at : Option ℕ) (v : Variable) (shown : Shown) (count : ℕ) → v.is_array ≡ shown.is_array → v.rate ≡ shown.rate → count ≡ shown.count
    → bad_part whole at v.is_array v.rate count ≡ bad_part whole at shown.is_array shown.rate shown.count
part_told whole at v shown count is_array rate counts =
    ap (λ b. bad_part whole at b v.rate count) is_array ∙ ap (λ r. bad_part whole at shown.is_array r count) rate ∙ ap (bad_part whole at shown.is_array shown.rate) counts

module _ (d : Debugger) (state : State) (whole : Bool) (target : model.Target) (v : Variable) (shown : Shown) (o : Option Variable) (go : Variable → Reply) (found : o ≡ Some v) where
  had : bad_part whole target.at v.is_array v.rate (length (shown_words state v)) ≡ bad_part whole target.at shown.is_array shown.rate shown.count
      → with_target_in state d whole target o go ≡ unless_refused (bad_part whole target.at shown.is_array shown.rate shown.count) d (λ d. go v)
  had told = ap (λ o. with_target_in state d whole target o go) found ∙ ap (λ r. unless_refused r d (λ d. go v)) told

-- a command on a target that can be had
pub with_part : (s : Setting) (d : Debugger) (whole : Bool) (target : model.Target) (v : Variable) (shown : Shown) → IsShown s (bare d) v shown → (o : Option Variable) (go : Variable → Reply)
    → o ≡ Some v → bad_part whole target.at shown.is_array shown.rate shown.count ≡ None → with_target s d whole target o go ≡ go v
with_part s d whole target v shown is o go found fine =
    had d (now s d) whole target v shown o go found (part_told whole target.at v shown (length (shown_words (now s d) v)) is.is_array is.rate is.count)
    ∙ ap (λ r. unless_refused r d (λ d. go v)) fine

-- ---- values that are set

module _ (d : Debugger) (done : Reply) where
  -- the refusals one after another
  one_by_one : (part : Option model.Refusal) (has constant : Bool) →
      unless_refused part d (λ e. if not has then refused OutOfRange d else (if constant then refused Constant d else done))
      ≡ unless_refused (first_of part (if not has then Some OutOfRange else (if constant then Some Constant else None))) d (λ e. done)
  one_by_one (Some r) has constant = refl
  one_by_one None false constant = refl
  one_by_one None true true = refl
  one_by_one None true false = refl

module _ (d : Debugger) (state : State) (target : model.Target) (z : ℤ) (v : Variable) (shown : Shown) (o : Option Variable) (found : o ≡ Some v) (done : Variable → Reply)
    (type : v.type ≡ shown.value_type) (constant : v.is_constant ≡ shown.is_constant) where
  -- what is told of a variable says why it is not set
  reasons : bad_part false target.at v.is_array v.rate (length (shown_words state v)) ≡ bad_part false target.at shown.is_array shown.rate shown.count
      → with_target_in state d false target o (λ v. if not (is_value v.type z) then refused OutOfRange d else (if v.is_constant then refused Constant d else done v))
      ≡ unless_refused (set_refusal target.at shown z) d (λ e. done v)
  reasons told =
      had d state false target v shown o (λ v. if not (is_value v.type z) then refused OutOfRange d else (if v.is_constant then refused Constant d else done v)) found told
      ∙ ap₂ (λ type constant. unless_refused (bad_part false target.at shown.is_array shown.rate shown.count) d (λ e. if not (is_value type z) then refused OutOfRange d else (if constant then refused Constant d else done v))) type constant
      ∙ one_by_one d (done v) (bad_part false target.at shown.is_array shown.rate shown.count) (is_value shown.value_type z) shown.is_constant

-- where a value is set, there is such a part
pub part_of : (at : Option ℕ) (shown : Shown) (z : ℤ) → set_refusal at shown z ≡ None → bad_part false at shown.is_array shown.rate shown.count ≡ None
part_of at shown z none = first_none (bad_part false at shown.is_array shown.rate shown.count) _ none
  where
    first_none : (first second : Option model.Refusal) → first_of first second ≡ None → first ≡ None
    first_none None second e = refl
    first_none (Some r) second e = absurd (cc e)

-- a value is set in the top frame, or not
pub set_or_not : (s : Setting) (d : Debugger) (target : model.Target) (z : ℤ) (v : Variable) (shown : Shown) → IsShown s (bare d) v shown → found s.program (now s d) target.name ≡ Some v
    → do_set s target z d ≡ unless_refused (set_refusal target.at shown z) d (λ e. reply (Shows target v) (moved (Poke (poked_by v target.at) (wrapped v.type z)) d))
set_or_not s d target z v shown is named =
    reasons d (now s d) target z v shown (found s.program (now s d) target.name) named (λ v. reply (Shows target v) (moved (Poke (poked_by v target.at) (wrapped v.type z)) d)) is.type is.is_constant
    (part_told false target.at v shown (length (shown_words (now s d) v)) is.is_array is.rate is.count)

-- or in the frame at a depth
pub set_in_or_not : (s : Setting) (d : Debugger) (deep : ℕ) (target : model.Target) (z : ℤ) (v : Variable) (shown : Shown) → IsShownAt s (bare d) deep v shown
    → found_at s.program deep (now s d) target.name ≡ Some v
    → do_set_in s deep target z d ≡ unless_refused (set_refusal target.at shown z) d (λ e. reply Silent (moved (Poke (InFrame deep (poked_by v target.at)) (wrapped v.type z)) d))
set_in_or_not s d deep target z v shown is named =
    reasons d (state_at deep (now s d)) target z v shown (found_at s.program deep (now s d) target.name) named
    (λ v. reply Silent (moved (Poke (InFrame deep (poked_by v target.at)) (wrapped v.type z)) d)) is.type is.is_constant
    (part_told false target.at v shown (length (shown_words (state_at deep (now s d)) v)) is.is_array is.rate is.count)

module _ (s : Setting) (d : Debugger) (target : model.Target) (z : ℤ) where
  -- nothing is set where there is no such variable
  pub set_nowhere : found s.program (now s d) target.name ≡ None → do_set s target z d ≡ refused NoSuchName d
  set_nowhere none = ap (λ o. with_target s d false target o (λ v.
      if not (is_value v.type z) then refused OutOfRange d
      else (if v.is_constant then refused Constant d
      else reply (Shows target v) (moved (Poke (poked_by v target.at) (wrapped v.type z)) d)))) none

  pub set_in_nowhere : (deep : ℕ) → found_at s.program deep (now s d) target.name ≡ None → do_set_in s deep target z d ≡ refused NoSuchName d
  set_in_nowhere deep none = ap (λ o. with_target_in (state_at deep (now s d)) d false target o (λ v.
      if not (is_value v.type z) then refused OutOfRange d
      else (if v.is_constant then refused Constant d
      else reply Silent (moved (Poke (InFrame deep (poked_by v target.at)) (wrapped v.type z)) d)))) none

  module _ (v : Variable) (shown : Shown) (r : model.Refusal) (why : set_refusal target.at shown z ≡ Some r) where
    -- or where it cannot be
    pub not_set : IsShown s (bare d) v shown → found s.program (now s d) target.name ≡ Some v → do_set s target z d ≡ refused r d
    not_set is named =
        set_or_not s d target z v shown is named ∙ ap (λ o. unless_refused o d (λ e. reply (Shows target v) (moved (Poke (poked_by v target.at) (wrapped v.type z)) d))) why

    pub not_set_in : (deep : ℕ) → IsShownAt s (bare d) deep v shown → found_at s.program deep (now s d) target.name ≡ Some v → do_set_in s deep target z d ≡ refused r d
    not_set_in deep is named =
        set_in_or_not s d deep target z v shown is named
        ∙ ap (λ o. unless_refused o d (λ e. reply Silent (moved (Poke (InFrame deep (poked_by v target.at)) (wrapped v.type z)) d))) why

-- ---- deleting

module _ (s : Setting) (n : ℕ) where
  pub has_same : (items : List NumberedStop) (stops : List (ℕ × model.Stop)) → AreStops s items stops → list_any (λ entry. entry.number == n) items ≡ is_some (find (λ entry. entry.0 == n) stops)
  has_same [] [] h = refl
  has_same [] (y ∷ stops) h = absurd h
  has_same (x ∷ items) [] h = absurd h
  has_same (x ∷ items) (y ∷ stops) h = ap (λ number. (number == n) || list_any (λ entry. entry.number == n) items) h.0 ∙ go (has_same items stops h.2) (y.0 == n) refl
    where
      go : list_any (λ entry. entry.number == n) items ≡ is_some (find (λ entry. entry.0 == n) stops) → (b : Bool) → (y.0 == n) ≡ b → ((y.0 == n) || list_any (λ entry. entry.number == n) items) ≡ is_some (find (λ entry. entry.0 == n) (y ∷ stops))
      go later true e = ap (λ b. b || list_any (λ entry. entry.number == n) items) e ∙ sym (ap (λ b. is_some (cond b (Some y) (find (λ entry. entry.0 == n) stops))) e)
      go later false e = ap (λ b. b || list_any (λ entry. entry.number == n) items) e ∙ later ∙ sym (ap (λ b. is_some (cond b (Some y) (find (λ entry. entry.0 == n) stops))) e)

  abbrev kept_items : List NumberedStop → List NumberedStop
  kept_items items = filter (λ entry. not (entry.number == n)) items

  abbrev kept_stops : List (ℕ × model.Stop) → List (ℕ × model.Stop)
  kept_stops stops = filter (λ entry. not (entry.0 == n)) stops

  pub without_same : (items : List NumberedStop) (stops : List (ℕ × model.Stop)) → AreStops s items stops → AreStops s (kept_items items) (kept_stops stops)
  without_same [] [] h = tt
  without_same [] (y ∷ stops) h = absurd h
  without_same (x ∷ items) [] h = absurd h
  without_same (x ∷ items) (y ∷ stops) h = go (without_same items stops h.2) (y.0 == n) refl
    where
      by : AreStops s (kept_items items) (kept_stops stops) → (b : Bool) → AreStops s (cond (not b) (x ∷ kept_items items) (kept_items items)) (cond (not b) (y ∷ kept_stops stops) (kept_stops stops))
      by later true = later
      by later false = (h.0, h.1, later)

      go : AreStops s (kept_items items) (kept_stops stops) → (b : Bool) → (y.0 == n) ≡ b → AreStops s (kept_items (x ∷ items)) (kept_stops (y ∷ stops))
      go later b e =
          subst (λ xs. AreStops s xs (kept_stops (y ∷ stops))) (sym (ap (λ number. cond (not (number == n)) (x ∷ kept_items items) (kept_items items)) h.0 ∙ ap (λ b. cond (not b) (x ∷ kept_items items) (kept_items items)) e))
          (subst (λ ys. AreStops s (cond (not b) (x ∷ kept_items items) (kept_items items)) ys) (sym (ap (λ b. cond (not b) (y ∷ kept_stops stops) (kept_stops stops)) e)) (by later b))
