-- The first words of one variable of the file: those of its literal, or 0 for each element of an array.
use Rattle.std.proofs.Common.{◌≡◌, refl, sym, ap, ◌∙◌, ℕ, zero, suc, ◌+◌, ◌-◌, ◌^◌, ◌<◌, ◌≤◌, true, false, cond, List, [], length, inl, inr, arith}
use Rattle.std.specs.Prelude.{replicate, slice_set}
use Rattle.std.proofs.lemmas.Bool.{cases_lt}
use Rattle.std.proofs.lemmas.List.{get_or-replicate, get_or-set_other, get_or-set_same, length-replicate, length-set}
use Rattle.gang_types.specs.declared.types.Rate.{Rate}
use Rattle.gang_types.specs.declared.types.Rate.TheVariants.{Uniform, Varying}
use Rattle.gang_types.specs.Lanes.{Lanes, lowest}
use Rattle.gang_types.specs.Masks.{IsGangWidth}
use Rattle.gang_model.specs.Running.Lanes.{at}
use Rattle.gang_model.specs.Running.State.{words_for}
use Rattle.gang_model.specs.Debugger.Events.{global_words, scalar_words}
use Rattle.undo_log.specs.History.{History}
use Rattle.typed_tree.specs.declared.program.Global.{Global}
use Rattle.typed_tree.specs.Views.{global_view}
use Rattle.gang_memory.specs.Layouts.{global_words as layout_words}
use Rattle.gang_memory.specs.Recorded.{left_in, without_words}
use Rattle.cross_lane.specs.EachLaws.{same_words}
use Rattle.machine_states.specs.Effects.{assigned_region}
use Rattle.machine_states.specs.Regions.{OfFile, Region, same_region}
use Rattle.machine_words.specs.declared.words.MachineWords.{MachineWords}
use Rattle.machine_words.specs.Words.{AreLaid, Writes, left_of, regions_in}
use Rattle.machine_words.proofs.AllLanes.{merged_all}
use Rattle.frame_steps.proofs.GangLanes.{gang_wide}
use Rattle.machine_steps.specs.Beginning.{FillsVariable}
use Rattle.machine_steps.proofs.WrittenRegions.{one_word, written_away, written_here}

-- ---- a scalar

lowest_of_all : (w : ℕ) → lowest (replicate w true) ≡ 0
lowest_of_all zero = refl
lowest_of_all (suc w) = refl

-- a scalar that all lanes assign one word to
pub first_words : (w : ℕ) → 0 < w → (rate : Rate) (lanes : Lanes) (word : ℕ) (old : List ℕ) → lanes ≡ replicate w true → length old ≡ words_for w rate
    → assigned_region rate lanes (replicate w word) old ≡ scalar_words rate w word
first_words w wide Uniform lanes word old all long =
    ap (λ k. slice_set old 0 (at (replicate w word) k)) (ap lowest all ∙ lowest_of_all w)
    ∙ ap (slice_set old 0) (get_or-replicate w 0 word 0 wide)
    ∙ one_word old word long
first_words w wide Varying lanes word old all long =
    ap (λ l. assigned_region Varying l (replicate w word) old) all ∙ merged_all w (replicate w word) old (length-replicate w word) long

-- ---- an array

-- the first so many elements are 0
pub record AreCleared {T : Type 0} (history : T → History) (width number count index : ℕ) (old new : MachineWords T) : Type 0 where
  pub long : length (regions_in history width new (OfFile number)) ≡ count
  pub zeros : (k : ℕ) → k < index → at (regions_in history width new (OfFile number)) k ≡ 0
  pub others : (r : Region) → same_region (OfFile number) r ≡ false → regions_in history width new r ≡ regions_in history width old r
  pub layout : new.layout ≡ old.layout
  pub laid : AreLaid history width new
  pub rest : without_words (history new.store.timeline) ≡ without_words (history old.store.timeline)

-- where no event is kept any number of words may be set
module _ {T : Type 0} (history : T → History) (left : T → ℕ) where
  pub plenty_left : (old mid : MachineWords T) → (history old.store.timeline).past ≡ [] → without_words (history mid.store.timeline) ≡ without_words (history old.store.timeline)
      → 32 ≤ left_of history left mid
  plenty_left old mid fresh rest =
      let none : (history mid.store.timeline).past ≡ [] = ap (λ h. h.past) rest ∙ fresh in
      let many : left_of history left mid ≡ 2 ^ 64 - 1 = ap (λ past. left_in past (left mid.store.timeline)) none in
      omega (arith, many)

module _ {T : Type 0} (history : T → History) (left : T → ℕ) (width number count : ℕ) (old : MachineWords T) where
  pub none_cleared : AreLaid history width old → length (regions_in history width old (OfFile number)) ≡ count → AreCleared history width number count 0 old old
  none_cleared laid long = record {
    long = long;
    zeros = λ k below. absurd (omega (arith, below));
    others = λ r h. refl;
    layout = refl;
    laid = laid;
    rest = refl;
  }

  module _ (index : ℕ) (mid : MachineWords T) (so_far : AreCleared history width number count index old mid) where
    pub one_cleared : index < count → (new : MachineWords T) → Writes history left width (OfFile number) (slice_set (regions_in history width mid (OfFile number)) index 0) 1 mid new
        → AreCleared history width number count (index + 1) old new
    one_cleared within new w =
        let words = regions_in history width mid (OfFile number) in
        let room : index < length words = omega (arith, within, so_far.long) in
        record {
          long = ap length (written_here w) ∙ length-set words index 0 ∙ so_far.long;
          zeros = λ k below. ap (λ ws. at ws k) (written_here w) ∙ elim (cases_lt k index) [
            | inl before ↦ get_or-set_other words index k 0 0 (λ e. omega (arith, e, before)) ∙ so_far.zeros k before
            | inr past ↦
                let same : k ≡ index = omega (arith, below, past) in
                ap (at (slice_set words index 0)) same ∙ get_or-set_same words index 0 0 room
          ];
          others = λ r h. written_away w r h ∙ so_far.others r h;
          layout = w.layout ∙ so_far.layout;
          laid = w.laid;
          rest = w.rest ∙ so_far.rest;
        }

    -- each element is 0
    pub all_cleared : count ≤ index → FillsVariable history width number (replicate count 0) old mid
    all_cleared over = record {
      filled = same_words (regions_in history width mid (OfFile number)) (replicate count 0) (so_far.long ∙ sym (length-replicate count 0))
          (λ k below. so_far.zeros k (omega (arith, below, so_far.long, over)) ∙ sym (get_or-replicate count k 0 0 (omega (arith, below, so_far.long))));
      others = so_far.others;
      layout = so_far.layout;
      laid = so_far.laid;
      rest = so_far.rest;
    }

-- ---- a variable of the file that is a scalar

module _ {T : Type 0} (history : T → History) (left : T → ℕ) (width number : ℕ) (gang : IsGangWidth width) (g : Global) (old : MachineWords T) (scalar : g.variable.is_array ≡ false)
    (long : length (regions_in history width old (OfFile number)) ≡ layout_words width g) where
  scalar_long : length (regions_in history width old (OfFile number)) ≡ words_for width g.variable.rate
  scalar_long = long ∙ ap (λ b. cond b g.length (words_for width g.variable.rate)) scalar

  pub scalar_filled : (new : MachineWords T) (lanes : Lanes) → lanes ≡ replicate width true
      → Writes history left width (OfFile number) (assigned_region g.variable.rate lanes (replicate width g.word) (regions_in history width old (OfFile number))) width old new
      → FillsVariable history width number (global_words width (global_view g)) old new
  scalar_filled new lanes all w = record {
    filled = written_here w
        ∙ first_words width (let wide : 4 ≤ width = gang_wide width gang in omega (arith, wide)) g.variable.rate lanes g.word (regions_in history width old (OfFile number)) all scalar_long
        ∙ ap (λ b. cond b (replicate g.length 0) (scalar_words g.variable.rate width g.word)) (sym scalar);
    others = λ r h. written_away w r h;
    layout = w.layout;
    laid = w.laid;
    rest = w.rest;
  }
