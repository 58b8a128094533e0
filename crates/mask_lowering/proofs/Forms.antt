-- The points of each form of statement, from those of its parts.
use Rattle.std.proofs.Common.{◌≡◌, ℕ, ◌+◌, ◌-◌, List, [], ◌∷◌, ◌++◌, length, refl, ap, sym, ◌∙◌, subst, arith, append_assoc, length-append}
use Rattle.std.specs.Prelude.{Option, Some, slice_set}
use Rattle.std.proofs.lemmas.List.{length-set}
use Rattle.gang_model.specs.Types.Tree.{StepNumber, Expr, RoundsOf, Stmt, Empty, Then, If, Loop, BodyFirst, Switch, Segment, ForEach}
use Rattle.gang_model.specs.Running.Step.{steps_of, round_number}
use Rattle.gang_model.specs.Running.RunningOrder.{IsNumbered}
use Rattle.mask_states.specs.Points as p
use Rattle.mask_states.specs.Points.{Ways, before_step, body_ways, update_ways, round_ways, entry_of, entries_of, points_of}
use Rattle.mask_lowering.specs.declared.point.Point.{Point}
use Rattle.mask_lowering.specs.PointViews.{point_view}
use Rattle.mask_lowering.specs.Lowering.{Lowered, in_order}
use Rattle.mask_lowering.proofs.Orders.{order_more, order_set}

one_longer : (old new : List Point) (x : Point) → new ≡ old ++ x ∷ [] → length new ≡ length old + 1
one_longer old new x made = ap length made ∙ length-append old (x ∷ [])

pub lowered_empty : (steps : ℕ) (old : List Point) (ways : Ways) → Lowered steps old old Empty ways ways.next
lowered_empty steps old ways = record { counted = omega arith; placed = λ from is ends. record { points = refl; waits = refl } }

pub lowered_one : (steps : ℕ) (old new : List Point) (s : Stmt) (ways : Ways) (x : Point) (entry : StepNumber) → new ≡ old ++ x ∷ [] → points_of s ways ≡ point_view x ∷ []
    → entry ≡ entry_of s ways.next → steps_of s ≡ 1 → Lowered steps old new s ways entry
lowered_one steps old new s ways x entry made is waits one = record {
  counted = let l = one_longer old new x made in omega arith;
  placed = λ from numbered ends. record { points = order_more old new x made ∙ ap (λ points. points ++ in_order old) (sym is); waits = waits };
}

pub lowered_then : (steps : ℕ) (old mid new : List Point) (first rest : Stmt) (ways : Ways) (next entry : StepNumber) → Lowered steps old mid rest ways next
    → Lowered steps mid new first (before_step next ways) entry → Lowered steps old new (Then first rest) ways entry
lowered_then steps old mid new first rest ways next entry later sooner = record {
  counted = let l = later.counted in let m = sooner.counted in omega arith;
  placed = λ from is ends.
      let l = later.counted in
      let r = later.placed (from + steps_of first) is.1 (omega arith) in
      let f = sooner.placed from is.0 (omega arith) in
      record {
        points =
            f.points
            ∙ ap (λ points. points_of first (before_step next ways) ++ points) r.points
            ∙ sym (append_assoc (points_of first (before_step next ways)) (points_of rest ways) (in_order old))
            ∙ ap (λ n. (points_of first (before_step n ways) ++ points_of rest ways) ++ in_order old) r.waits;
        waits = f.waits ∙ ap (entry_of first) r.waits;
      };
}

pub lowered_if : (steps : ℕ) (c0 c1 c2 c3 : List Point) (s : Stmt) (number : StepNumber) (test : Expr) (first other : Stmt) (ways : Ways) (no' yes' : StepNumber) (x : Point)
    → s ≡ If number test first other → Lowered steps c0 c1 other ways no' → Lowered steps c1 c2 first ways yes' → c3 ≡ c2 ++ x ∷ [] → point_view x ≡ p.Branch test yes' no'
    → Lowered steps c0 c3 s ways number
lowered_if steps c0 c1 c2 c3 s number test first other ways no' yes' x form later sooner made is = subst (λ z. Lowered steps c0 c3 z ways number) (sym form) record {
  counted = let l = later.counted in let m = sooner.counted in let n = one_longer c2 c3 x made in omega arith;
  placed = λ from numbered ends.
      let l = later.counted in
      let o = later.placed (from + 1 + steps_of first) numbered.2 (omega arith) in
      let f = sooner.placed (from + 1) numbered.1 (omega arith) in
      record {
        points =
            order_more c2 c3 x made
            ∙ ap (λ y. y ∷ in_order c2) is
            ∙ ap (λ points. p.Branch test yes' no' ∷ points) (f.points ∙ ap (λ points. points_of first ways ++ points) o.points ∙ sym (append_assoc (points_of first ways) (points_of other ways) (in_order c0)))
            ∙ ap (λ y. p.Branch test y no' ∷ ((points_of first ways ++ points_of other ways) ++ in_order c0)) f.waits
            ∙ ap (λ n. p.Branch test (entry_of first ways.next) n ∷ ((points_of first ways ++ points_of other ways) ++ in_order c0)) o.waits;
        waits = refl;
      };
}

pub lowered_loop : (steps : ℕ) (c0 c1 c2 c3 : List Point) (number : StepNumber) (test : Expr) (update body : Stmt) (ways : Ways) (n again yes' : StepNumber) (hole x : Point)
    → n ≡ length c0 → c1 ≡ c0 ++ hole ∷ [] → Lowered steps c1 c2 update (update_ways number ways) again
    → Lowered steps c2 c3 body (body_ways again ways) yes' → point_view x ≡ p.Branch test yes' ways.next → Lowered steps c0 (slice_set c3 n x) (Loop number test update body) ways number
lowered_loop steps c0 c1 c2 c3 number test update body ways n again yes' hole x at held later sooner is = record {
  counted = let h = one_longer c0 c1 hole held in let l = later.counted in let m = sooner.counted in let e = length-set c3 n x in omega arith;
  placed = λ from numbered ends.
      let h = one_longer c0 c1 hole held in
      let l = later.counted in
      let u = later.placed (from + steps_of body) numbered.2 (omega arith) in
      let b = sooner.placed from numbered.1 (omega arith) in
      let us = points_of update (update_ways number ways) in
      let bs = points_of body (body_ways again ways) in
      let before : in_order c3 ≡ (bs ++ us) ++ point_view hole ∷ in_order c0 =
      b.points ∙ ap (λ points. bs ++ points) (u.points ∙ ap (λ points. us ++ points) (order_more c0 c1 hole held)) ∙ sym (append_assoc bs us (point_view hole ∷ in_order c0)) in
      record {
        points =
            order_set c0 c3 (slice_set c3 n x) (bs ++ us) (point_view hole) x n before at refl
            ∙ ap (λ y. (bs ++ us) ++ y ∷ in_order c0) is
            ∙ ap (λ y. (bs ++ us) ++ p.Branch test y ways.next ∷ in_order c0) b.waits
            ∙ ap (λ k. (points_of body (body_ways k ways) ++ us) ++ p.Branch test (entry_of body k) ways.next ∷ in_order c0) u.waits
            ∙ regroup (points_of body (body_ways (entry_of update number) ways)) us (p.Branch test (entry_of body (entry_of update number)) ways.next) (in_order c0);
        waits = refl;
      };
}
  where
    regroup : (bs us : List p.Point) (y : p.Point) (rest : List p.Point) → (bs ++ us) ++ y ∷ rest ≡ (bs ++ (us ++ y ∷ [])) ++ rest
    regroup bs us y rest = append_assoc bs us (y ∷ rest) ∙ ap (λ l. bs ++ l) (sym (append_assoc us (y ∷ []) rest)) ∙ sym (append_assoc bs (us ++ y ∷ []) rest)

pub lowered_body_first : (steps : ℕ) (c0 c1 c2 : List Point) (s : Stmt) (number : StepNumber) (test : Expr) (body : Stmt) (ways : Ways) (n yes' : StepNumber) (hole x : Point)
    → s ≡ BodyFirst number test body → n ≡ length c0 → c1 ≡ c0 ++ hole ∷ [] → Lowered steps c1 c2 body (body_ways number ways) yes' → point_view x ≡ p.Branch test yes' ways.next
    → Lowered steps c0 (slice_set c2 n x) s ways yes'
lowered_body_first steps c0 c1 c2 s number test body ways n yes' hole x form at held inner is = subst (λ z. Lowered steps c0 (slice_set c2 n x) z ways yes') (sym form) record {
  counted = let h = one_longer c0 c1 hole held in let l = inner.counted in let e = length-set c2 n x in omega arith;
  placed = λ from numbered ends.
      let h = one_longer c0 c1 hole held in
      let b = inner.placed from numbered.1 (omega arith) in
      let bs = points_of body (body_ways number ways) in
      record {
        points =
            order_set c0 c2 (slice_set c2 n x) bs (point_view hole) x n (b.points ∙ ap (λ points. bs ++ points) (order_more c0 c1 hole held)) at refl
            ∙ ap (λ y. bs ++ y ∷ in_order c0) is
            ∙ ap (λ y. bs ++ p.Branch test y ways.next ∷ in_order c0) b.waits
            ∙ sym (append_assoc bs (p.Branch test (entry_of body number) ways.next ∷ []) (in_order c0));
        waits = b.waits;
      };
}

pub lowered_for_each : (steps : ℕ) (c0 c1 c2 c3 c4 : List Point) (number : StepNumber) (form : RoundsOf) (body : Stmt) (ways : Ways) (n rounds first : StepNumber) (hole turn x : Point)
    → n ≡ length c0 → rounds ≡ steps - 1 - n → c1 ≡ c0 ++ hole ∷ [] → Lowered steps c1 c2 body (round_ways rounds) first → c3 ≡ slice_set c2 n turn
    → point_view turn ≡ p.Turn first → c4 ≡ c3 ++ x ∷ [] → point_view x ≡ p.Begin form rounds ways.next → Lowered steps c0 c4 (ForEach number form body) ways number
lowered_for_each steps c0 c1 c2 c3 c4 number form body ways n rounds first hole turn x at is_rounds held inner made is_turn put is = record {
  counted = let h = one_longer c0 c1 hole held in let l = inner.counted in let e = ap length made ∙ length-set c2 n turn in let f = one_longer c3 c4 x put in omega arith;
  placed = λ from numbered ends.
      let h = one_longer c0 c1 hole held in
      let b = inner.placed (from + 1) numbered.1 (omega arith) in
      let number_is = numbered.0 in
      let round : rounds ≡ round_number number body = omega arith in
      let bs = points_of body (round_ways rounds) in
      record {
        points =
            order_more c3 c4 x put
            ∙ ap (λ y. y ∷ in_order c3) is
            ∙ ap (λ points. p.Begin form rounds ways.next ∷ points)
            (order_set c0 c2 c3 bs (point_view hole) turn n (b.points ∙ ap (λ points. bs ++ points) (order_more c0 c1 hole held)) at made
            ∙ ap (λ y. bs ++ y ∷ in_order c0) (is_turn ∙ ap p.Turn b.waits)
            ∙ sym (append_assoc bs (p.Turn (entry_of body rounds) ∷ []) (in_order c0)))
            ∙ ap (λ r. p.Begin form r ways.next ∷ ((points_of body (round_ways r) ++ p.Turn (entry_of body r) ∷ []) ++ in_order c0)) round;
        waits = refl;
      };
}

-- ---- a switch

-- the points of segments stand before the old ones, and these are the numbers where they begin
pub record LoweredSegments (steps : ℕ) (old new : List Point) (s : Stmt) (ways : Ways) (entries : List StepNumber) : Type 0 where
  pub counted : length new ≡ length old + steps_of s
  pub placed : (from : ℕ) → IsNumbered from s → from + steps_of s + length old ≡ steps → (in_order new ≡ points_of s ways ++ in_order old) × (entries ≡ entries_of s ways.next)

pub lowered_no_segment : (steps : ℕ) (old : List Point) (ways : Ways) → LoweredSegments steps old old Empty ways []
lowered_no_segment steps old ways = record { counted = omega arith; placed = λ from is ends. (refl, refl) }

-- a segment runs on into the next ones, as a statement does into those behind it
pub lowered_segment : (steps : ℕ) (old mid new : List Point) (label : Option ℕ) (body rest : Stmt) (ways : Ways) (next entry : StepNumber) → Lowered steps old mid rest ways next
    → Lowered steps mid new body (before_step next ways) entry → Lowered steps old new (Segment label body rest) ways entry
lowered_segment steps old mid new label body rest ways next entry later sooner =
    let both = lowered_then steps old mid new body rest ways next entry later sooner in
    record {
      counted = both.counted;
      placed = λ from is ends.
          let made = both.placed from is ends in
          record { points = made.points; waits = made.waits };
    }

-- the segments with one more before them, from where they begin
pub lowered_segments : (steps : ℕ) (old mid new : List Point) (label : Option ℕ) (body rest : Stmt) (ways : Ways) (next entry : StepNumber) (entries : List StepNumber)
    → Lowered steps old mid rest ways next → Lowered steps mid new body (before_step next ways) entry → LoweredSegments steps old mid rest ways entries
    → LoweredSegments steps old new (Segment label body rest) ways (entry ∷ entries)
lowered_segments steps old mid new label body rest ways next entry entries later sooner begun =
    let whole = lowered_segment steps old mid new label body rest ways next entry later sooner in
    record {
      counted = whole.counted;
      placed = λ from is ends.
          let l = later.counted in
          let made = whole.placed from is ends in
          let begin = (begun.placed (from + steps_of body) is.1 (omega arith)).1 in (
            made.points,
            ap (λ first. first ∷ entries) made.waits ∙ ap (λ others. entry_of (Segment label body rest) ways.next ∷ others) begin,
          );
    }

pub lowered_switch : (steps : ℕ) (c0 c1 c2 : List Point) (number : StepNumber) (selector : Expr) (segments : Stmt) (ways : Ways) (entries : List StepNumber) (x : Point)
    → LoweredSegments steps c0 c1 segments (record ways { on_break = Some ways.next }) entries → c2 ≡ c1 ++ x ∷ []
    → point_view x ≡ p.Choose selector segments entries ways.next → Lowered steps c0 c2 (Switch number selector segments) ways number
lowered_switch steps c0 c1 c2 number selector segments ways entries x inner made is = record {
  counted = let l = inner.counted in let n = one_longer c1 c2 x made in omega arith;
  placed = λ from numbered ends.
      let l = inner.counted in
      let ss = inner.placed (from + 1) numbered.1 (omega arith) in
      let points = points_of segments (record ways { on_break = Some ways.next }) in
      record {
        points =
            order_more c1 c2 x made
            ∙ ap (λ y. y ∷ in_order c1) is
            ∙ ap (λ behind. p.Choose selector segments entries ways.next ∷ behind) ss.0
            ∙ ap (λ begin. p.Choose selector segments begin ways.next ∷ (points ++ in_order c0)) ss.1;
        waits = refl;
      };
}

-- of an equal statement in equal ways
pub lowered_as : (steps : ℕ) (old new : List Point) (s same : Stmt) (ways alike : Ways) (entry : StepNumber) → s ≡ same → ways ≡ alike → Lowered steps old new s ways entry
    → Lowered steps old new same alike entry
lowered_as steps old new s same ways alike entry e f h = subst (λ x. Lowered steps old new x alike entry) e (subst (λ w. Lowered steps old new s w entry) f h)
