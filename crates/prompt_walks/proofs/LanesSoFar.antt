-- The steps of a run so far, one after another, and what is counted of them.
use Rattle.std.proofs.Common.{◌≡◌, ◌≤◌, ◌+◌, ◌-◌, ℕ, suc, Bool, true, false, List, [], ◌∷◌, map, length, Option, Some, None, refl, sym, ap, ◌∙◌, arith}
use Rattle.std.specs.Prelude.{if◌then◌else◌}
use Rattle.std.proofs.lemmas.Bool.{true≢false}
use Rattle.std.proofs.lemmas.List.Sums.{count_by-le-length}
use Rattle.gang_types.specs.declared.masks.Mask.{Mask}
use Rattle.gang_types.specs.Masks.{lanes_of}
use Rattle.gang_model.specs.Types.Tree.{Program}
use Rattle.gang_model.specs.Running.Step.{Stepped, Goes, Fails, Over, step}
use Rattle.gang_model.specs.Debugger.Events.{Step, gone}
use Rattle.gang_model.specs.Debugger.Debugger.{AtFault, Debugger, DoStep, Ended, Here, Moves, Reply, Setting, attempted, do_command, forward, has_ended, moved, now, refused, reply}
use Rattle.debug_session.proofs.Replies.{forward_done, forward_refused}
use Rattle.lane_counts.specs.declared.counts.Counts.{Counts}
use Rattle.lane_counts.specs.declared.gang.Gang.{Gang}
use Rattle.lane_counts.specs.declared.gang.Gang.TheVariants.{Four, Eight, Sixteen}
use Rattle.lane_counts.specs.Counted.{IsFew, none, noted, with_step}
use Rattle.lane_counts.specs.Pending.{width_of}
use Rattle.lane_counts.specs.Steps.{Stand, active, each}
use Rattle.lane_counts.specs.Tallies.{unparted_of, unparted_with}
use Rattle.lane_counts.proofs.Noting.{few_more, few_noted, lanes_length, same_counts, with_unparted}
use Rattle.lane_picture.proofs.Trying.{ended_over, over_ended}
use Rattle.lane_profile.specs.Stands.{stand_of, stands_of, states_tried, tried_at}
use Rattle.prompt_texts.specs.declared.lanes.LaneShare.{LaneShare}
use Rattle.prompt_scenes.specs.Readings.{is_here}
use Rattle.prompt_walks.specs.declared.lanes_told.Chosen.{Chosen}
use Rattle.prompt_walks.specs.declared.lanes_told.SoFar.{SoFar}
use Rattle.prompt_walks.specs.LanesTold.{IsFewSoFar, counted, next_stand, of_function, of_line, width_after, with_later}

-- ---- counts

-- the counts with a step, or without one, as one that is counted or not
pub step_noted : (lanes width : ℕ) (c : Counts) → with_step lanes width c ≡ noted true lanes width 0 c
step_noted lanes width c = same_counts _ _ _ _ _ _ _ _ refl refl refl (omega arith)

pub none_noted : (lanes width : ℕ) (c : Counts) → c ≡ noted false lanes width 0 c
none_noted lanes width c = same_counts c.steps c.lane_steps c.short_steps c.partings _ _ _ _ (omega arith) (omega arith) (omega arith) (omega arith)

width_few : (gang : Gang) → width_of gang ≤ 16
width_few Four = omega arith
width_few Eight = omega arith
width_few Sixteen = omega arith

-- a gang has at most 16 active lanes
pub active_few : (gang : Gang) (mask : Mask) → active (lanes_of (width_of gang) mask) ≤ 16
active_few gang mask = omega (arith, width_few gang, lanes_length (width_of gang) mask, count_by-le-length (λ b. b) (lanes_of (width_of gang) mask))

abbrev pub so_far_of : (a b c : Counts) (w : ℕ) → SoFar
so_far_of a b c w = record { line = a; function = b; all = c; width = w }

same_so_far : (a b c a' b' c' : Counts) (w w' : ℕ) → a ≡ a' → b ≡ b' → c ≡ c' → w ≡ w' → so_far_of a b c w ≡ so_far_of a' b' c' w'
same_so_far a b c a' b' c' w w' ea eb ec ew =
    ap (λ x. so_far_of x b c w) ea ∙ ap (λ x. so_far_of a' x c w) eb ∙ ap (λ x. so_far_of a' b' x w) ec ∙ ap (so_far_of a' b' c') ew

-- the same counts of all three
abbrev pub of_one : Counts → SoFar
of_one c = so_far_of c c c 0

none_few : IsFew 0 none
none_few = record { steps = omega arith; lane_steps = omega arith; short_steps = omega arith; partings = omega arith }

pub nothing_few : IsFewSoFar 0 (of_one none)
nothing_few = record { line = none_few; function = none_few; all = none_few; width = omega arith }

-- a share and what is lost, as they are told
abbrev pub told_by : (steps share lost : ℕ) → LaneShare
told_by steps share lost = record { steps = steps; share = share; lost = lost }

pub same_told : (steps a b x y : ℕ) → a ≡ b → x ≡ y → told_by steps a x ≡ told_by steps b y
same_told steps a b x y ea ex = ap (λ n. told_by steps n x) ea ∙ ap (told_by steps b) ex

-- of no steps before, and none behind
from_none : (choice : Stand → Bool) (stands : List Stand) → unparted_with none choice stands ≡ unparted_of choice stands
from_none choice stands = same_counts _ _ _ _ _ _ _ _ (omega arith) (omega arith) (omega arith) refl

to_none : (c : Counts) (choice : Stand → Bool) → unparted_with c choice [] ≡ c
to_none c choice = same_counts _ _ _ _ c.steps c.lane_steps c.short_steps c.partings (omega arith) (omega arith) (omega arith) refl

module _ (p : Program) (chosen : Option Chosen) where
  -- before the first step, and behind the last one
  pub from_nothing : (stands : List Stand) → with_later p chosen (of_one none) stands ≡ counted p chosen stands
  from_nothing stands = same_so_far _ _ _ _ _ _ _ _ (from_none (of_line chosen) stands) (from_none (of_function p chosen) stands) (from_none each stands) refl

  pub to_nothing : (so_far : SoFar) → with_later p chosen so_far [] ≡ so_far
  to_nothing so_far = same_so_far _ _ _ so_far.line so_far.function so_far.all _ so_far.width (to_none so_far.line (of_line chosen)) (to_none so_far.function (of_function p chosen)) (to_none so_far.all each) refl

  -- a step that was to come has been counted
  pub with_one : (old new : SoFar) (gang : Gang) (mask : Mask) (line function : Bool) (stand : Stand) (later : List Stand) → stand.lanes ≡ lanes_of (width_of gang) mask
      → of_line chosen stand ≡ line → of_function p chosen stand ≡ function
      → new.line ≡ noted line (active (lanes_of (width_of gang) mask)) (width_of gang) 0 old.line
      → new.function ≡ noted function (active (lanes_of (width_of gang) mask)) (width_of gang) 0 old.function
      → new.all ≡ noted true (active (lanes_of (width_of gang) mask)) (width_of gang) 0 old.all
      → new.width ≡ width_of gang
      → with_later p chosen old (stand ∷ later) ≡ with_later p chosen new later
  with_one old new gang mask line function stand later lanes at_line in_function l f a w =
      let does = ap active lanes in
      let wide : length stand.lanes ≡ width_of gang = ap length lanes ∙ lanes_length (width_of gang) mask in
      same_so_far _ _ _ _ _ _ _ _
      (with_unparted (of_line chosen) old.line new.line line _ _ stand later l at_line does wide)
      (with_unparted (of_function p chosen) old.function new.function function _ _ stand later f in_function does wide)
      (with_unparted each old.all new.all true _ _ stand later a refl does wide)
      (ap (λ n. width_after n later) (wide ∙ sym w))

-- bounds grow by as much as a step has lanes
pub few_one : (n : ℕ) (old new : SoFar) (gang : Gang) (mask : Mask) (line function : Bool)
    → new.line ≡ noted line (active (lanes_of (width_of gang) mask)) (width_of gang) 0 old.line
    → new.function ≡ noted function (active (lanes_of (width_of gang) mask)) (width_of gang) 0 old.function
    → new.all ≡ noted true (active (lanes_of (width_of gang) mask)) (width_of gang) 0 old.all
    → new.width ≡ width_of gang → IsFewSoFar n old → IsFewSoFar (n + 16) new
few_one n old new gang mask line function l f a w few =
    let lanes = active_few gang mask in
    record {
      line = few_noted old.line new.line n (n + 16) line _ _ 0 l lanes (omega arith) (omega arith) few.line;
      function = few_noted old.function new.function n (n + 16) function _ _ 0 f lanes (omega arith) (omega arith) few.function;
      all = few_noted old.all new.all n (n + 16) true _ _ 0 a lanes (omega arith) (omega arith) few.all;
      width = omega (arith, w, width_few gang);
    }

pub fewer : (n m : ℕ) (so_far : SoFar) → n ≤ m → IsFewSoFar n so_far → IsFewSoFar m so_far
fewer n m so_far more few = record { line = few_more so_far.line n m more few.line; function = few_more so_far.function n m more few.function; all = few_more so_far.all n m more few.all; width = few.width }

-- ---- steps

module _ (s : Setting) (d : Debugger) (limit : 1 ≤ s.limit) where
  -- the reply to a single step, by what the step comes to
  abbrev pub reply_of : Stepped → Reply
  reply_of st = attempted s (Moves 1) d st (λ next. forward (s.limit - 1) s next (moved Step d))

  step_reply : has_ended (now s d) ≡ false → do_command s (DoStep 1) d ≡ reply_of (step s.program (now s d))
  step_reply goes =
      let some : s.limit ≡ suc (s.limit - 1) = omega (arith, limit) in
      forward_done s d false (Moves 1) (suc (s.limit - 1)) some (ap (λ b. if b then Some Ended else None) goes)

  -- where it stands then, and the steps that are left behind it
  abbrev pub then_stands : ℕ → List Stand
  then_stands n = stands_of s.program n (now s (do_command s (DoStep 1) d).next)

  abbrev pub here : Stand
  here = stand_of s.program (now s d)

  -- a step that is made
  made_by : (n : ℕ) (st : Stepped) → step s.program (now s d) ≡ st → (ended : Bool) → has_ended (now s d) ≡ ended → is_here (do_command s (DoStep 1) d).answer ≡ true
      → stands_of s.program (suc n) (now s d) ≡ next_stand ended here (then_stands n)
  made_by n st is true ended made =
      let no : do_command s (DoStep 1) d ≡ refused Ended d = forward_refused s d false (Moves 1) Ended (ap (λ b. if b then Some Ended else None) ended) in
      absurd (true≢false (sym made ∙ ap (λ (r : Reply). is_here r.answer) no))
  made_by n Over is false goes made = absurd (true≢false (sym (over_ended s.program (now s d) is) ∙ goes))
  made_by n (Fails fault) is false goes made =
      let no : do_command s (DoStep 1) d ≡ reply (AtFault fault) d = step_reply goes ∙ ap reply_of is in
      absurd (true≢false (sym made ∙ ap (λ (r : Reply). is_here r.answer) no))
  made_by n (Goes new) is false goes made =
      let replied : do_command s (DoStep 1) d ≡ reply Here (moved Step d) = step_reply goes ∙ ap reply_of is in
      let there : now s (do_command s (DoStep 1) d).next ≡ new = ap (λ (r : Reply). now s r.next) replied ∙ ap (λ st. gone st (now s d)) is in
      ap (λ st. map (stand_of s.program) (tried_at st (now s d) (states_tried s.program n))) is ∙ ap (λ state. here ∷ stands_of s.program n state) (sym there)

  pub made_stands : (n : ℕ) → is_here (do_command s (DoStep 1) d).answer ≡ true → stands_of s.program (suc n) (now s d) ≡ next_stand (has_ended (now s d)) here (then_stands n)
  made_stands n made = made_by n (step s.program (now s d)) refl (has_ended (now s d)) refl made

  -- a step that is not made
  unmade_by : (n : ℕ) (st : Stepped) → step s.program (now s d) ≡ st → (ended : Bool) → has_ended (now s d) ≡ ended → is_here (do_command s (DoStep 1) d).answer ≡ false
      → stands_of s.program (suc n) (now s d) ≡ next_stand ended here []
  unmade_by n st is true ended unmade = ap (λ st. map (stand_of s.program) (tried_at st (now s d) (states_tried s.program n))) (ended_over s.program (now s d) ended)
  unmade_by n Over is false goes unmade = absurd (true≢false (sym (over_ended s.program (now s d) is) ∙ goes))
  unmade_by n (Fails fault) is false goes unmade = ap (λ st. map (stand_of s.program) (tried_at st (now s d) (states_tried s.program n))) is
  unmade_by n (Goes new) is false goes unmade =
      let replied : do_command s (DoStep 1) d ≡ reply Here (moved Step d) = step_reply goes ∙ ap reply_of is in
      absurd (true≢false (sym (ap (λ (r : Reply). is_here r.answer) replied) ∙ unmade))

  pub unmade_stands : (n : ℕ) → is_here (do_command s (DoStep 1) d).answer ≡ false → stands_of s.program (suc n) (now s d) ≡ next_stand (has_ended (now s d)) here []
  unmade_stands n unmade = unmade_by n (step s.program (now s d)) refl (has_ended (now s d)) refl unmade
