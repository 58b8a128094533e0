-- What is written when a form begins.
use Rattle.std.proofs.Common.{ℕ, zero, suc, ◌+◌, ◌*◌, ◌<◌, ◌≤◌, ◌≡◌, refl, sym, ◌∙◌, ap, subst, arith, List, [], ◌∷◌, ◌++◌, length}
use Rattle.std.specs.Prelude.{replicate, slice_set, if◌then◌else◌}
use Rattle.std.proofs.lemmas.Bool.{lt-ltb}
use Rattle.std.proofs.lemmas.List.{append-nil, drop_all, length-replicate}
use Rattle.gang_types.specs.Masks.{lanes_of}
use Rattle.gang_model.specs.Debugger.Events.{covered}
use Rattle.undo_log.specs.History.{History}
use Rattle.machine_states.specs.Effects.{sent_on}
use Rattle.machine_states.specs.Regions.{LevelPart, NumbersOf, EndOf, CountersOf, ValuesOf, LevelOf, OpenOf, OfHead, OfLevel, Region, Regions, with_region}
use Rattle.machine_words.specs.declared.words.MachineWords.{MachineWords}
use Rattle.machine_words.specs.Ranges.{level_size, levels_of}
use Rattle.machine_words.specs.Words.{AreLaid, Writes, regions_in}
use Rattle.frame_steps.specs.declared.active.Active.{Active}
use Rattle.frame_steps.specs.Written.{Sets}
use Rattle.frame_steps.proofs.Heads.{alike, head_long, only_word, regions_after}
use Rattle.machine_rounds.specs.Beginning.{opened_in}
use Rattle.machine_rounds.specs.declared.beginning.FirstWords.{FirstWords}

-- as many words as there were take their place
pub all_covered : (new old : List ℕ) → length new ≡ length old → covered new old ≡ new
all_covered new old e = ap (λ behind. new ++ behind) (drop_all (length new) old (omega (arith, e))) ∙ append-nil new

module _ {T : Type 0} (history : T → History) (left : T → ℕ) (w : ℕ) where
  -- how many words a level's parts have, where the layout has the level
  module _ (words : MachineWords T) (laid : AreLaid history w words) (i level : ℕ) (there : i < 64) where
    pub part_long : level < levels_of words.layout → (part : LevelPart) → length (regions_in history w words (OfLevel i (suc level) part)) ≡ level_size w part
    part_long below part =
        head_long history left w words laid i (LevelOf (suc level) part) there ∙ ap (λ b. if b then level_size w part else 0) (lt-ltb level (levels_of words.layout) below)

    pub open_long : length (regions_in history w words (OfHead i OpenOf)) ≡ 1
    open_long = head_long history left w words laid i OpenOf there

  pub numbers_long : (words : MachineWords T) → AreLaid history w words → (i level : ℕ) → i < 64 → level ≤ levels_of words.layout → length (regions_in history w words (OfLevel i level NumbersOf)) ≡ w
  numbers_long words laid i zero there within = head_long history left w words laid i (LevelOf 0 NumbersOf) there
  numbers_long words laid i (suc level) there within = part_long words laid i level there (omega (arith, within)) NumbersOf

  -- one region more is set
  pub set_more : (regions : Regions) (writes : ℕ) (old mid new : MachineWords T) → Sets history left w regions writes old mid → (region other : Region) → region ≡ other
      → (after fixed : List ℕ) → after ≡ fixed → (more : ℕ) → Writes history left w region after more mid new → Sets history left w (with_region other fixed regions) (writes + more) old new
  set_more regions writes old mid new so_far region other same after fixed is more made = record {
    regions_are = λ r.
        regions_after history left w mid new region after more made r
        ∙ alike region after fixed (regions_in history w mid) regions r is (so_far.regions_are r)
        ∙ ap (λ q. with_region q fixed regions r) same;
    layout = made.layout ∙ so_far.layout;
    laid = made.laid;
    rest = made.rest ∙ so_far.rest;
    few = omega (arith, made.few, so_far.few);
  }

module _ {T : Type 0} (history : T → History) (left : T → ℕ) (w : ℕ) (active : Active) (old : MachineWords T) (laid : AreLaid history w old)
    (there : active.frame < 64) (below : active.level < levels_of old.layout) where
  abbrev frame : ℕ
  frame = active.frame

  abbrev regions : Regions
  regions = regions_in history w old

  pub outer_long : length (regions_in history w old (OfLevel active.frame active.level NumbersOf)) ≡ w
  outer_long = numbers_long history left w old laid active.frame active.level there (omega (arith, below))

  module _ (up : ℕ) (up_is : up ≡ suc active.level) where
    -- the new level's parts, whatever was written
    pub inner_long : (mid : MachineWords T) → mid.layout ≡ old.layout → AreLaid history w mid → (part : LevelPart) → length (regions_in history w mid (OfLevel active.frame up part)) ≡ level_size w part
    inner_long mid same lies part =
        subst (λ l. length (regions_in history w mid (OfLevel frame l part)) ≡ level_size w part) (sym up_is)
        (part_long history left w mid lies frame active.level there (subst (λ l. active.level < levels_of l) (sym same) below) part)

    -- the writes one after another
    module _ (rounds next : ℕ) (first : FirstWords w) (counted : length first.counters ≡ 9) (valued : length first.values ≡ w) (sent_words ended numbered counting valued_words new : MachineWords T)
        (sends : Sets history left w (sent_on active.frame active.level (lanes_of w active.lanes) (λ k. next) (regions_in history w old)) w old sent_words)
        (ends : Writes history left w (OfLevel active.frame up EndOf) (slice_set (regions_in history w sent_words (OfLevel active.frame up EndOf)) 0 rounds) 1 sent_words ended)
        (numbers : Writes history left w (OfLevel active.frame up NumbersOf) (covered (replicate w rounds) (regions_in history w ended (OfLevel active.frame up NumbersOf))) (length (replicate w rounds)) ended numbered)
        (counters : Writes history left w (OfLevel active.frame up CountersOf) (covered first.counters (regions_in history w numbered (OfLevel active.frame up CountersOf))) (length first.counters) numbered counting)
        (values : Writes history left w (OfLevel active.frame up ValuesOf) (covered first.values (regions_in history w counting (OfLevel active.frame up ValuesOf))) (length first.values) counting valued_words)
        (opens : Writes history left w (OfHead active.frame OpenOf) (slice_set (regions_in history w valued_words (OfHead active.frame OpenOf)) 0 up) 1 valued_words new) where
      abbrev sent_regions : Regions
      sent_regions = sent_on frame active.level (lanes_of w active.lanes) (λ k. next) regions

      abbrev ended_regions : Regions
      ended_regions = with_region (OfLevel frame (suc active.level) EndOf) (rounds ∷ []) sent_regions

      is_ended : Sets history left w ended_regions (w + 1) old ended
      is_ended =
          set_more history left w sent_regions w old sent_words ended sends (OfLevel frame up EndOf) (OfLevel frame (suc active.level) EndOf) (ap (λ l. OfLevel frame l EndOf) up_is)
          (slice_set (regions_in history w sent_words (OfLevel frame up EndOf)) 0 rounds) (rounds ∷ [])
          (only_word (regions_in history w sent_words (OfLevel frame up EndOf)) rounds (inner_long sent_words sends.layout sends.laid EndOf)) 1 ends

      abbrev numbered_regions : Regions
      numbered_regions = with_region (OfLevel frame (suc active.level) NumbersOf) (replicate w rounds) ended_regions

      is_numbered : Sets history left w numbered_regions (w + 1 + length (replicate w rounds)) old numbered
      is_numbered =
          set_more history left w ended_regions (w + 1) old ended numbered is_ended (OfLevel frame up NumbersOf) (OfLevel frame (suc active.level) NumbersOf) (ap (λ l. OfLevel frame l NumbersOf) up_is)
          (covered (replicate w rounds) (regions_in history w ended (OfLevel frame up NumbersOf))) (replicate w rounds)
          (all_covered (replicate w rounds) (regions_in history w ended (OfLevel frame up NumbersOf))
          (length-replicate w rounds ∙ sym (inner_long ended is_ended.layout is_ended.laid NumbersOf))) (length (replicate w rounds)) numbers

      abbrev counting_regions : Regions
      counting_regions = with_region (OfLevel frame (suc active.level) CountersOf) first.counters numbered_regions

      is_counting : Sets history left w counting_regions (w + 1 + length (replicate w rounds) + length first.counters) old counting
      is_counting =
          set_more history left w numbered_regions (w + 1 + length (replicate w rounds)) old numbered counting is_numbered (OfLevel frame up CountersOf) (OfLevel frame (suc active.level) CountersOf)
          (ap (λ l. OfLevel frame l CountersOf) up_is)
          (covered first.counters (regions_in history w numbered (OfLevel frame up CountersOf))) first.counters
          (all_covered first.counters (regions_in history w numbered (OfLevel frame up CountersOf)) (counted ∙ sym (inner_long numbered is_numbered.layout is_numbered.laid CountersOf)))
          (length first.counters) counters

      abbrev valued_regions : Regions
      valued_regions = with_region (OfLevel frame (suc active.level) ValuesOf) first.values counting_regions

      is_valued : Sets history left w valued_regions (w + 1 + length (replicate w rounds) + length first.counters + length first.values) old valued_words
      is_valued =
          set_more history left w counting_regions (w + 1 + length (replicate w rounds) + length first.counters) old counting valued_words is_counting
          (OfLevel frame up ValuesOf) (OfLevel frame (suc active.level) ValuesOf) (ap (λ l. OfLevel frame l ValuesOf) up_is)
          (covered first.values (regions_in history w counting (OfLevel frame up ValuesOf))) first.values
          (all_covered first.values (regions_in history w counting (OfLevel frame up ValuesOf)) (valued ∙ sym (inner_long counting is_counting.layout is_counting.laid ValuesOf)))
          (length first.values) values

      is_open : Sets history left w (opened_in w active rounds next first regions) (w + 1 + length (replicate w rounds) + length first.counters + length first.values + 1) old new
      is_open =
          set_more history left w valued_regions (w + 1 + length (replicate w rounds) + length first.counters + length first.values) old valued_words new is_valued
          (OfHead frame OpenOf) (OfHead frame OpenOf) refl
          (slice_set (regions_in history w valued_words (OfHead frame OpenOf)) 0 up) (suc active.level ∷ [])
          (only_word (regions_in history w valued_words (OfHead frame OpenOf)) up (open_long history left w valued_words is_valued.laid frame active.level there) ∙ ap (λ l. l ∷ []) up_is) 1 opens

      pub opened : Sets history left w (opened_in w active rounds next first (regions_in history w old)) (3 * w + 11) old new
      opened =
          let so_many : w + 1 + length (replicate w rounds) + length first.counters + length first.values + 1 ≡ 3 * w + 11 = omega (arith, length-replicate w rounds, counted, valued) in
          subst (λ n. Sets history left w (opened_in w active rounds next first regions) n old new) so_many is_open
