-- Calls: what is passed, and what a left call delivers.
use Rattle.std.proofs.Common.{◌≡◌, ◌≢◌, refl, sym, ap, ◌∙◌, subst, ℕ, ◌+◌, ◌-◌, Bool, true, false, List, [], ◌∷◌, length, Option, Some, None, inl, inr}
use Rattle.std.specs.Prelude.{if◌then◌else◌, ◌==◌, ◌⊎◌, nat_lt, Result, Ok, Err, IfOk}
use Rattle.std.proofs.lemmas.Bool.{eq-eqb, ne_eqb}
use Rattle.gang_types.specs.declared.faults.FaultName.TheVariants.{Index}
use Rattle.gang_types.specs.declared.places.VarId.{VarId}
use Rattle.gang_types.specs.declared.places.VarId.TheVariants.{File, Local}
use Rattle.gang_types.specs.Lanes.{Lanes, has, lowest}
use Rattle.gang_types.specs.LaneLaws.{lowest_has, some_lane}
use Rattle.gang_model.specs.Types.Tree.{Program, Expr, Arg, Value, Array}
use Rattle.gang_model.specs.Running.Lanes.{Fault, at, try_each}
use Rattle.gang_model.specs.Running.Value.{value}
use Rattle.gang_model.specs.Running.UniformExprs.{IsUniform, AreAlike}
use Rattle.gang_model.specs.Running.State.{Store, View, Frame, State, words_of, view_in, view_of, same_id, declared_words}
use Rattle.gang_model.specs.Running.Step.{Passed, part, passed}
use Rattle.gang_model.proofs.LaneWords.{if_ok_bind, if_ok_after}
use Rattle.gang_model.proofs.UniformValues.{alike-value}
use Rattle.gang_model.specs.Running.SeparateInstances.{IsArrayId}
use Rattle.lane_alone.specs.Fits.{Only, Locals, FitsExpr, FitsFrom, FitsArgs, given, and_one, Family}
use Rattle.lane_alone.specs.Alike.{AlikeAt, LocalAlike, MemoryAlike, FrameAlike}
use Rattle.lane_alone.proofs.Words.{same_or_not}
use Rattle.lane_alone.proofs.Follows.{Follows, follows_bind, AtLane, follows_tried}
use Rattle.lane_alone.proofs.Effects.{with_other}
use Rattle.lane_alone.proofs.Forms.{Both, alike_each, values}

view_here : (b : Bool) (view : View) (views : View) → (P : View → Type 0) → P view → P views → P (if b then view else views)
view_here true view views P a c = a
view_here false view views P a c = c

module _ (p : Program) (family : Family) (k : ℕ) where
  -- the arrays of views
  abbrev Views : List (VarId × View) → Type 0
  Views views = (n : ℕ) → IsArrayId p (view_in views (Local n)).array

  -- arguments that are alike
  pub record PassedAlike (args : List Arg) (a other : Passed) : Type 0 where
    pub views : (v : VarId) → view_in a.views v ≡ view_in other.views v
    pub arrays : (n : ℕ) → IsArrayId p (view_in a.views (Local n)).array
    pub vars : (n : ℕ) → given args n ≡ true → AlikeAt k (words_of a.vars (Local n)) (words_of other.vars (Local n))

  given_one : (id : VarId) (words words' : List ℕ) (vars vars' : Store) (known : Locals) → AlikeAt k words words' → ((n : ℕ) → known n ≡ true → AlikeAt k (words_of vars (Local n)) (words_of vars' (Local n)))
      → (n : ℕ) → and_one id known n ≡ true → AlikeAt k (words_of ((id, words) ∷ vars) (Local n)) (words_of ((id, words') ∷ vars') (Local n))
  given_one (File i) words words' vars vars' known a more n h = more n h
  given_one (Local m) words words' vars vars' known a more n h = by_place (same_or_not n m)
    where
      at_test : (b : Bool) → (m == n) ≡ b → AlikeAt k (if b then words else words_of vars (Local n)) (if b then words' else words_of vars' (Local n)) → AlikeAt k (words_of ((Local m, words) ∷ vars) (Local n)) (words_of ((Local m, words') ∷ vars') (Local n))
      at_test b e c = subst (λ t. AlikeAt k (if t then words else words_of vars (Local n)) (if t then words' else words_of vars' (Local n))) (sym e) c

      by_place : (n ≡ m) ⊎ (n ≢ m) → AlikeAt k (words_of ((Local m, words) ∷ vars) (Local n)) (words_of ((Local m, words') ∷ vars') (Local n))
      by_place (inl e) = at_test true (eq-eqb m n (sym e)) a
      by_place (inr e) = at_test false (ne_eqb m n (λ q. e (sym q))) (more n (with_other m n known e h))

  views_one : (v : VarId) (view view' : View) (views views' : List (VarId × View)) → view ≡ view' → ((u : VarId) → view_in views u ≡ view_in views' u) → (u : VarId) → view_in ((v, view) ∷ views) u ≡ view_in ((v, view') ∷ views') u
  views_one v view view' views views' e more u = ap (λ w. if same_id v u then w else view_in views u) e ∙ ap (λ w. if same_id v u then view' else w) (more u)

  arrays_one : (v : VarId) (view : View) (views : List (VarId × View)) → IsArrayId p view.array → Views views → Views ((v, view) ∷ views)
  arrays_one v view views a more n = view_here (same_id v (Local n)) view (view_in views (Local n)) (λ w. IsArrayId p w.array) a (more n)

  module _ (memory memory' : Store) (frame other : Frame) (frames others : List Frame) (memories : MemoryAlike p k memory memory') (known : Locals) (lanes : Lanes) where
    abbrev st : State
    st = record { memory = memory; frames = frame ∷ frames }

    abbrev st' : State
    st' = record { memory = memory'; frames = other ∷ others }

    view_array : FrameAlike p k frame other → (v : VarId) → IsArrayId p v → IsArrayId p (view_of st v).array
    view_array f (File n) is = is
    view_array f (Local n) is = f.arrays n

    view_same : FrameAlike p k frame other → (v : VarId) → IsArrayId p v → view_of st v ≡ view_of st' v
    view_same f (File n) is = ap (λ ws. record { array = File n; first = 0; len = length ws }) (memories.arrays (File n) is)
    view_same f (Local n) is = f.views (Local n)

    part_array : (from : Option Expr) (view : View) → IsArrayId p view.array → IfOk (part from view lanes st) (λ w. IsArrayId p w.array)
    part_array None view is = is
    part_array (Some e) view is = if_ok_after (λ w. IsArrayId p w.array) (value e lanes st) _ (λ i. if_ok_after (λ w. IsArrayId p w.array) (try_each lanes _) _ (λ checked. is))

    pub passed_arrays : FrameAlike p k frame other → (args : List Arg) → FitsArgs p known args → IfOk (passed args lanes st) (λ a. (n : ℕ) → IsArrayId p (view_in a.views (Local n)).array)
    passed_arrays f [] fits = λ n. tt
    passed_arrays f (Value v e ∷ args) fits = if_ok_after (λ a. Views a.views) (value e lanes st) _ (λ x. if_ok_bind (λ a. Views a.views) (λ a. Views a.views) (passed args lanes st) _ (passed_arrays f args fits.2) (λ rest r. r))
    passed_arrays f (Array parameter array from ∷ args) fits = if_ok_bind (λ w. IsArrayId p w.array) (λ a. Views a.views) (part from (view_of st array) lanes st) _ (part_array from (view_of st array) (view_array f array fits.0))
        (λ view is. if_ok_bind (λ a. Views a.views) (λ a. Views a.views) (passed args lanes st) _ (passed_arrays f args fits.2) (λ rest r. arrays_one parameter view rest.views is r))

    module _ (alone : Lanes) (h : has lanes k ≡ true) (m : has alone k ≡ true) (only : Only k alone) (f : FrameAlike p k frame other) (alike : (n : ℕ) → known n ≡ true → LocalAlike k frame.vars other.vars n) where
      first_value : (e : Expr) → FitsExpr p known e → Follows (Both k lanes alone) (value e lanes st) (value e alone st')
      first_value e fits = values p family k memory memory' frame other frames others memories known lanes alone h m only e fits f alike

      lowest_alone : lowest alone ≡ k
      lowest_alone = only (lowest alone) (lowest_has alone (some_lane alone k m))

      abbrev SameView : View → View → Type 0
      SameView w w' = (w ≡ w') × IsArrayId p w.array

      -- a uniform value is that of lane k
      lowest_same : (e : Expr) → IsUniform e → FitsExpr p known e → Follows (λ x y. Both k lanes alone x y × (at x (lowest lanes) ≡ at y (lowest alone))) (value e lanes st) (value e alone st')
      lowest_same e u fits = go (value e lanes st) (first_value e fits) (alike-value e u lanes st)
        where
          go : (r : Result (List ℕ) Fault) → Follows (Both k lanes alone) r (value e alone st') → IfOk r (AreAlike lanes) → Follows (λ x y. Both k lanes alone x y × (at x (lowest lanes) ≡ at y (lowest alone))) r (value e alone st')
          go (Ok x) g same = (g.0, g.1, (g.2, same (lowest lanes) k (lowest_has lanes (some_lane lanes k h)) h ∙ g.2.same m ∙ ap (at g.0) (sym lowest_alone)))
          go (Err fault) g same = tt

      part_same : (from : Option Expr) → FitsFrom p known from → (view view' : View) → view ≡ view' → IsArrayId p view.array → Follows SameView (part from view lanes st) (part from view' alone st')
      part_same None fits view view' e is = (view', refl, (e, is))
      part_same (Some from) fits view view' e is = subst (λ w. Follows SameView (part (Some from) view lanes st) (part (Some from) w alone st')) e
          (follows_bind (λ x y. Both k lanes alone x y × (at x (lowest lanes) ≡ at y (lowest alone))) SameView (value from lanes st) (value from alone st') _ _ (lowest_same from fits.0 fits.1)
          (λ i i' b. follows_bind (AtLane k alone) SameView (try_each lanes (λ j. if nat_lt view.len (at i j) then Err Index else Ok 0)) (try_each alone (λ j. if nat_lt view.len (at i' j) then Err Index else Ok 0)) _ _
          (follows_tried k lanes alone _ _ (record { only = only; among = λ here. h }) (λ here. ap (λ x. if nat_lt view.len x then Err Index else Ok 0) (b.0.same m)))
          (λ c c' q. (_, refl, (ap (λ x. record { array = view.array; first = view.first + x; len = view.len - x }) b.1, is)))))

      pub passed_same : (args : List Arg) → FitsArgs p known args → Follows (PassedAlike args) (passed args lanes st) (passed args alone st')
      passed_same [] fits = (_, refl, record { views = λ v. refl; arrays = λ n. tt; vars = λ n q. absurd (never q) })
        where
          never : false ≡ true → ⊥
          never q = cc
      passed_same (Value v e ∷ args) fits = follows_bind (Both k lanes alone) (PassedAlike (Value v e ∷ args)) (value e lanes st) (value e alone st') _ _ (first_value e fits.1)
          (λ x x' b. follows_bind (PassedAlike args) (PassedAlike (Value v e ∷ args)) (passed args lanes st) (passed args alone st') _ _ (passed_same args fits.2)
          (λ rest rest' r. (
            _,
            refl,
            record {
              views = r.views;
              arrays = r.arrays;
              vars = given_one v.id (declared_words v.rate lanes x) (declared_words v.rate alone x') rest.vars rest'.vars (given args)
                  (subst (λ rate. AlikeAt k (declared_words rate lanes x) (declared_words rate alone x')) (sym fits.0) (alike_each p family k lanes alone (λ j. at x j) (λ j. at x' j) h m (b.same m))) r.vars;
            },
          )))
      passed_same (Array parameter array from ∷ args) fits =
          follows_bind SameView (PassedAlike (Array parameter array from ∷ args)) (part from (view_of st array) lanes st) (part from (view_of st' array) alone st') _ _
          (part_same from fits.1 (view_of st array) (view_of st' array) (view_same f array fits.0) (view_array f array fits.0))
          (λ view view' e. follows_bind (PassedAlike args) (PassedAlike (Array parameter array from ∷ args)) (passed args lanes st) (passed args alone st') _ _ (passed_same args fits.2)
          (λ rest rest' r. (
            _,
            refl,
            record {
              views = views_one parameter view view' rest.views rest'.views e.0 r.views;
              arrays = arrays_one parameter view rest.views e.1 r.arrays;
              vars = r.vars;
            },
          )))
