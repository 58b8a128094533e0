-- Where lanes meet again, step by step.
use Rattle.std.proofs.Common.{◌≡◌, refl, sym, ap, ◌∙◌, ℕ, ◌+◌, ◌<◌, ◌≤◌, Bool, true, false, List, [], ◌∷◌, ◌++◌, get_or, length, take, Option, Some, None, arith}
use Rattle.std.specs.Prelude.{◌&&◌, ◌==◌, ◌^◌, nat_lt, if◌then◌else◌}
use Rattle.std.proofs.lemmas.Bool.Decides.{nat_tests}
use Rattle.std.proofs.lemmas.List.Sums.{sum_by-append, sum_by_more, sum_by_more_le}
use Rattle.lane_counts.specs.declared.gang.Gang.TheVariants.{Four}
use Rattle.lane_counts.specs.Steps.{Stand, depth}
use Rattle.lane_counts.proofs.Parting as next
use Rattle.lane_meetings.specs.declared.waiting.Stage.TheVariants as stage
use Rattle.lane_meetings.specs.declared.waiting.Waiting.{Waiting}
use Rattle.lane_meetings.specs.Partings.{Measure, Times, Between, Meeting, amount, frame_steps, later_by, weight}
use Rattle.lane_meetings.specs.Pending.{Fits, gives, pending, waiting_gives}

pub left_true : (a b : Bool) → (a && b) ≡ true → a ≡ true
left_true true b is = refl
left_true false b is = is

pub right_true : (a b : Bool) → (a && b) ≡ true → b ≡ true
right_true true b is = is
right_true false b is = cc is

-- what a list gives past its end
abbrev any : Waiting
any = record { line = 0; depth = 0; gang = Four; lanes = record { word = 0 }; stage = stage.Last }

-- ---- the steps of a frame

deeper : (deep : ℕ) (stand : Stand) (later : List Stand) → deep < depth stand → frame_steps deep (stand ∷ later) ≡ frame_steps deep later
deeper deep stand later h = grind (arith, nat_tests)

here : (deep : ℕ) (stand : Stand) (later : List Stand) → depth stand ≡ deep → frame_steps deep (stand ∷ later) ≡ stand ∷ frame_steps deep later
here deep stand later h = grind (arith, nat_tests)

above : (deep : ℕ) (stand : Stand) (later : List Stand) → depth stand < deep → frame_steps deep (stand ∷ later) ≡ []
above deep stand later h = grind (arith, nat_tests)

module _ (measure : Measure) (chosen : ℕ → Option ℕ → Bool) where
  gives_same : (w : Waiting) (next also : Option Stand) (steps others : List Stand) → next ≡ also → steps ≡ others → gives measure chosen w w.stage next steps ≡ gives measure chosen w w.stage also others
  gives_same w next also steps others is are = ap (λ n. gives measure chosen w w.stage n steps) is ∙ ap (λ s. gives measure chosen w w.stage also s) are

  -- a step of a callee changes nothing
  pub goes_on : (w : Waiting) (stand : Stand) (later : List Stand) → w.depth < depth stand → waiting_gives measure chosen (stand ∷ later) w ≡ waiting_gives measure chosen later w
  goes_on w stand later h = gives_same w _ _ _ _ (next.below w.depth stand later h) (deeper w.depth stand later h)

  -- a step of a caller ends it
  pub is_left : (w : Waiting) (stand : Stand) (later : List Stand) → depth stand < w.depth → waiting_gives measure chosen (stand ∷ later) w ≡ gives measure chosen w w.stage None []
  is_left w stand later h = gives_same w _ _ _ _ (next.above w.depth stand later h) (above w.depth stand later h)

  pub is_next : (w : Waiting) (stand : Stand) (later : List Stand) → depth stand ≡ w.depth
      → waiting_gives measure chosen (stand ∷ later) w ≡ gives measure chosen w w.stage (Some stand) (stand ∷ frame_steps w.depth later)
  is_next w stand later h = gives_same w _ _ _ _ (next.same w.depth stand later h) (here w.depth stand later h)

  -- ---- the next step of the frame, by how many of the lanes do it

  -- lanes that part are not together there
  pub parts_now : (line both all : ℕ) (met apart : Meeting) → (nat_lt 0 both && nat_lt both all) ≡ true
      → (if (nat_lt 0 both && nat_lt both all) then weight measure chosen line (if both == all then met else apart) else 0) ≡ weight measure chosen line apart
  parts_now line both all met apart some =
      let less : nat_lt both all ≡ true = right_true (nat_lt 0 both) (nat_lt both all) some in
      let fewer : (both == all) ≡ false = grind (arith, nat_tests, less) in
      ap (λ b. if b then weight measure chosen line (if both == all then met else apart) else 0) some ∙ ap (λ b. weight measure chosen line (if b then met else apart)) fewer

  -- a step more between
  pub one_more : (line between more : ℕ) (m : Meeting) → (between + 1 < 2 ^ 64 → more ≡ between + 1) → Fits (weight measure chosen line (later_by between (later_by 1 m)))
      → weight measure chosen line (later_by more m) ≡ weight measure chosen line (later_by between (later_by 1 m))
  one_more line between more m is fits = go measure (chosen line m.at) fits
    where
      go : (it : Measure) (b : Bool) → (if b then amount it 1 (m.between + 1 + between) else 0) < 2 ^ 64 → (if b then amount it 1 (m.between + more) else 0) ≡ (if b then amount it 1 (m.between + 1 + between) else 0)
      go it false fits = refl
      go Times true fits = refl
      go Between true fits = let more_is : more ≡ between + 1 = is (omega (arith, fits)) in omega (arith, more_is)

  -- the lanes meet at the line that is told
  pub met_at : (line between : ℕ) (one other : ℕ) → one ≡ other
      → weight measure chosen line (record { at = Some one; between = between }) ≡ weight measure chosen line (later_by between (record { at = Some other; between = 0 }))
  met_at line between one other is =
      let none : 0 + between ≡ between = omega arith in
      ap (λ n. weight measure chosen line (record { at = Some n; between = between })) is ∙ sym (ap (λ n. weight measure chosen line (record { at = Some other; between = n })) none)

  -- the frame is left before they meet
  pub none_met : (line between : ℕ) → weight measure chosen line (record { at = None; between = between }) ≡ weight measure chosen line (later_by between (record { at = None; between = 0 }))
  none_met line between =
      let none : 0 + between ≡ between = omega arith in
      sym (ap (λ n. weight measure chosen line (record { at = None; between = n })) none)

  -- ---- several of them

  pub kept_more : (kept : List Waiting) (w : Waiting) (later : List Stand) → pending measure chosen (kept ++ w ∷ []) later ≡ pending measure chosen kept later + waiting_gives measure chosen later w
  kept_more kept w later = omega (arith, sum_by-append (waiting_gives measure chosen later) kept (w ∷ []))

  pub next_of : (waiting : List Waiting) (index : ℕ) (later : List Stand) → index < length waiting
      → pending measure chosen (take (index + 1) waiting) later ≡ pending measure chosen (take index waiting) later + waiting_gives measure chosen later (get_or waiting index any)
  next_of waiting index later within = sum_by_more (waiting_gives measure chosen later) waiting index any within

  pub some_of : (waiting : List Waiting) (index : ℕ) (later : List Stand) → index < length waiting
      → pending measure chosen (take index waiting) later + waiting_gives measure chosen later (get_or waiting index any) ≤ pending measure chosen waiting later
  some_of waiting index later within = sum_by_more_le (waiting_gives measure chosen later) waiting index any within
