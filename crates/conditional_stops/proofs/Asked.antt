-- Breakpoints and watches that are asked one after another.
use Rattle.std.proofs.Common.{◌≡◌, refl, sym, subst, ap, ◌∙◌, ℕ, ◌≤◌, Bool, true, false, List, [], ◌∷◌, ◌++◌, length, drop, map, Option, Some, None, append_assoc, append-nil}
use Rattle.std.specs.Prelude.{filter, if◌then◌else◌}
use Rattle.gang_model.specs.Running.State.{State}
use Rattle.gang_model.specs.Debugger.Debugger as model
use Rattle.gang_model.specs.Debugger.Debugger.{Debugger, Setting, Stop, differs}
use Rattle.debug_answers.specs.declared.stops.NumberedStop.{NumberedStop}
use Rattle.debug_answers.specs.declared.stops.Stop as declared
use Rattle.debug_answers.specs.declared.stops.Stop.TheVariants as stop
use Rattle.debug_answers.specs.Meanings.{AreStops, IsStop}
use Rattle.debug_session.proofs.Turns.{Turn, turns_end}
use Rattle.conditional_stops.specs.declared.reasons.CountedStop.{CountedStop}
use Rattle.conditional_stops.specs.declared.reasons.Reason.{Reason}
use Rattle.conditional_stops.specs.Reasons.{Asks, AsksOne, first_of}
use Rattle.conditional_stops.specs.Tables.{Table}

first_later : (a b c : Option CountedStop) → first_of a (first_of b c) ≡ first_of (first_of a b) c
first_later None b c = refl
first_later (Some counted) b c = refl

first_alone : (a : Option CountedStop) → a ≡ first_of a None
first_alone None = refl
first_alone (Some counted) = refl

module _ (s : Setting) (d : Debugger) where
  -- some are asked, and others then
  pub asks_on : (xs ys : List Reason) (table middle new : Table) (first later : Option CountedStop) → Asks s d xs table first middle → Asks s d ys middle later new → Asks s d (xs ++ ys) table (first_of first later) new
  asks_on [] ys table middle new first later (none, same) more =
      subst (λ t. Asks s d ys t (first_of first later) new) same (subst (λ f. Asks s d ys middle (first_of f later) new) (sym none) more)
  asks_on (x ∷ xs) ys table middle new first later (counted, between, rest, one, others, is) more =
      (counted, between, first_of rest later, one, asks_on xs ys between middle new rest later others more, ap (λ f. first_of f later) is ∙ sym (first_later counted rest later))

  -- one is asked
  pub asks_one : (x : Reason) (table new : Table) (counted : Option CountedStop) → AsksOne s d x table counted new → Asks s d (x ∷ []) table counted new
  asks_one x table new counted one = (counted, new, None, one, (refl, refl), first_alone counted)

-- ---- those among breakpoints and watches that pass a test

module _ (make : ℕ → Reason) (test : Stop → Bool) where
  abbrev pub chosen : List (ℕ × Stop) → List Reason
  chosen stops = map (λ (entry : ℕ × Stop). make entry.0) (filter (λ (entry : ℕ × Stop). test entry.1) stops)

  pub chosen_at : (stops : List (ℕ × Stop)) (entry : ℕ × Stop) (rest : List (ℕ × Stop)) (b : Bool) → stops ≡ entry ∷ rest → test entry.1 ≡ b → chosen stops ≡ (if b then make entry.0 ∷ chosen rest else chosen rest)
  chosen_at stops entry rest true is e = ap chosen is ∙ ap (λ b. map (λ (entry : ℕ × Stop). make entry.0) (if b then entry ∷ filter (λ (entry : ℕ × Stop). test entry.1) rest else filter (λ (entry : ℕ × Stop). test entry.1) rest)) e
  chosen_at stops entry rest false is e = ap chosen is ∙ ap (λ b. map (λ (entry : ℕ × Stop). make entry.0) (if b then entry ∷ filter (λ (entry : ℕ × Stop). test entry.1) rest else filter (λ (entry : ℕ × Stop). test entry.1) rest)) e

  module _ (s : Setting) (d : Debugger) (all : List (ℕ × Stop)) (table : Table) where
    -- those before the ones that are left were asked
    pub record AskedSo (left : List NumberedStop) (first : Option CountedStop) (new : Table) : Type 0 where
      pub rest : List (ℕ × Stop)
      pub before : List Reason
      pub are : AreStops s left rest
      pub same : before ++ chosen rest ≡ chosen all
      pub asks : Asks s d before table first new

    abbrev pub none_asked : (left : List NumberedStop) → AreStops s left all → AskedSo left None table
    none_asked left are = record { rest = all; before = []; are = are; same = refl; asks = (refl, refl) }

    abbrev pub one_asked : (x : NumberedStop) (left more : List NumberedStop) (first counted : Option CountedStop) (middle new : Table) (so : AskedSo left first middle) (t : Turn s x more so.rest)
        → test t.entry.1 ≡ true → AsksOne s d (make x.number) middle counted new → AskedSo more (first_of first counted) new
    one_asked x left more first counted middle new so t passes one =
        let asked : AsksOne s d (make t.entry.0) middle counted new = subst (λ n. AsksOne s d (make n) middle counted new) t.number one in
        record {
          rest = t.rest;
          before = so.before ++ make t.entry.0 ∷ [];
          are = t.others;
          same = append_assoc so.before (make t.entry.0 ∷ []) (chosen t.rest) ∙ sym (ap (λ xs. so.before ++ xs) (chosen_at so.rest t.entry t.rest true t.is passes)) ∙ so.same;
          asks = asks_on s d so.before (make t.entry.0 ∷ []) table middle new first counted so.asks (asks_one s d (make t.entry.0) middle new counted asked);
        }

    abbrev pub one_left : (x : NumberedStop) (left more : List NumberedStop) (first : Option CountedStop) (new : Table) (so : AskedSo left first new) (t : Turn s x more so.rest) → test t.entry.1 ≡ false → AskedSo more first new
    one_left x left more first new so t fails = record {
      rest = t.rest;
      before = so.before;
      are = t.others;
      same = sym (ap (λ xs. so.before ++ xs) (chosen_at so.rest t.entry t.rest false t.is fails)) ∙ so.same;
      asks = so.asks;
    }

    -- the same, with what is equal in place of it
    abbrev pub asked_as : (left : List NumberedStop) (first told : Option CountedStop) (new given : Table) → told ≡ first → given ≡ new → AskedSo left first new → AskedSo left told given
    asked_as left first told new given same_first same_table so = record {
      rest = so.rest;
      before = so.before;
      are = so.are;
      same = so.same;
      asks = subst (λ f. Asks s d so.before table f given) (sym same_first) (subst (λ t. Asks s d so.before table first t) (sym same_table) so.asks);
    }

    pub all_asked : (stops : List NumberedStop) (k : ℕ) (first : Option CountedStop) (new : Table) → length stops ≤ k → AskedSo (drop k stops) first new → Asks s d (chosen all) table first new
    all_asked stops k first new past so =
        let none = turns_end s stops k so.rest past so.are in
        let same : so.before ≡ chosen all = sym (append-nil so.before) ∙ sym (ap (λ rest. so.before ++ chosen rest) none) ∙ so.same in
        subst (λ xs. Asks s d xs table first new) same so.asks

-- what is no watch differs never
pub no_watch_differs : (s : Setting) (old new : State) (given : declared.Stop) (meant : Stop) → ((variable : ℕ) (at : Option ℕ) → given ≡ stop.Watch variable at → ⊥) → IsStop s given meant → differs old new meant ≡ false
no_watch_differs s old new (stop.Line line) (model.Line l) other h = refl
no_watch_differs s old new (stop.Line line) (model.Watch target v) other h = absurd h
no_watch_differs s old new (stop.Watch variable at) meant other h = absurd (other variable at refl)
