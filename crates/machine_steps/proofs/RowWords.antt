-- The words of one row are given, where nothing is kept of the words before.
use Rattle.std.proofs.Common.{◌≡◌, refl, sym, ap, ◌∙◌, ℕ, ◌-◌, ◌^◌, ◌<◌, ◌≤◌, true, List, [], length, arith}
use Rattle.std.specs.Prelude.{Option, Some, None, drop, min, replicate, if◌then◌else◌}
use Rattle.std.proofs.lemmas.List.{length-drop, length-take}
use Rattle.gang_types.specs.Lanes.{Lanes}
use Rattle.gang_model.specs.Debugger.Events.{covered}
use Rattle.gang_model.specs.Running.Lanes.{merged}
use Rattle.undo_log.specs.History.{History}
use Rattle.gang_memory.specs.declared.parts.Part.{Part}
use Rattle.gang_memory.specs.Recorded.{left_in}
use Rattle.machine_states.specs.ArrayParts.{view_of_words}
use Rattle.machine_states.specs.GivenRows.{GivesParameter, GivesWords, whole_array}
use Rattle.machine_states.specs.Regions.{OfEntry, OfLocal, Region, same_region}
use Rattle.machine_words.specs.declared.words.MachineWords.{MachineWords}
use Rattle.machine_words.specs.Ranges.{range_of, words_at}
use Rattle.machine_words.specs.Words.{AreLaid, Writes, left_of, regions_in, words_of}
use Rattle.machine_steps.specs.Beginning.{AreChanged}
use Rattle.machine_steps.proofs.WrittenRegions.{all_words, written_regions}

-- ---- how many words

within_all : (o : Option Part) (words : List ℕ) → length (words_at o words) ≤ length words
within_all None words = omega arith
within_all (Some part) words =
    let some = length-take part.len (drop part.first words) in
    let most = length-drop part.first words in
    omega (arith, some, most)

long_alike : (o : Option Part) (xs ys : List ℕ) → length xs ≡ length ys → length (words_at o xs) ≡ length (words_at o ys)
long_alike None xs ys same = refl
long_alike (Some part) xs ys same =
    length-take part.len (drop part.first xs)
    ∙ ap (min part.len) (length-drop part.first xs ∙ ap (λ n. n - part.first) same ∙ sym (length-drop part.first ys))
    ∙ sym (length-take part.len (drop part.first ys))

module _ {T : Type 0} (history : T → History) (left : T → ℕ) (width : ℕ) where
  -- a region has less words than a word counts
  pub region_small : (machine : MachineWords T) → AreLaid history width machine → (r : Region) → length (regions_in history width machine r) < 2 ^ 64
  region_small machine laid r =
      let most = within_all (range_of width machine.layout r) (words_of history machine) in
      omega (arith, most, laid.long, laid.small)

  -- each region has as many words as before
  pub regions_long : (old new : MachineWords T) → AreLaid history width old → AreLaid history width new → new.layout ≡ old.layout
      → (r : Region) → length (regions_in history width new r) ≡ length (regions_in history width old r)
  regions_long old new laid laid' same r =
      ap (λ l. length (words_at (range_of width l r) (words_of history new))) same
      ∙ long_alike (range_of width old.layout r) (words_of history new) (words_of history old)
      (laid'.long ∙ ap (λ l. l.words) same ∙ sym laid.long)

  -- ---- where no event is kept any number of words may be set

  pub all_left : (machine : MachineWords T) → (history machine.store.timeline).past ≡ [] → left_of history left machine ≡ 2 ^ 64 - 1
  all_left machine fresh = ap (λ past. left_in past (left machine.store.timeline)) fresh

  pub words_left : (machine : MachineWords T) → AreLaid history width machine → (history machine.store.timeline).past ≡ [] → (r : Region) (n : ℕ)
      → n ≤ length (regions_in history width machine r) → n ≤ left_of history left machine
  words_left machine laid fresh r n fits =
      let small = region_small machine laid r in
      let all = all_left machine fresh in
      omega (arith, small, all, fits)

  module _ (old new : MachineWords T) (region : Region) (words : List ℕ) (writes : ℕ) where
    pub words_given : Writes history left width region (covered words (regions_in history width old region)) writes old new → AreChanged history width (GivesWords region words) old new
    words_given w = record { change = λ r. written_regions w r; layout = w.layout; laid = w.laid; rest = w.rest }

  -- an array, and then the part of it that its parameter stands for
  module _ (old mid new : MachineWords T) (n : ℕ) (words kept : List ℕ) (writes : ℕ) (lanes : Lanes) (all : lanes ≡ replicate width true) where
    pub array_given : Writes history left width (OfEntry n) (covered words (regions_in history width old (OfEntry n))) writes old mid
        → length kept ≡ width → length (regions_in history width mid (OfLocal 0 n)) ≡ width → view_of_words kept ≡ whole_array n (length words)
        → Writes history left width (OfLocal 0 n) (merged lanes kept (regions_in history width mid (OfLocal 0 n))) width mid new
        → AreChanged history width (GivesParameter width n true words) old new
    array_given first long sized view second =
        let whole = all_words history left width (OfLocal 0 n) mid new lanes kept all long sized second in
        record {
          change = (
            kept,
            long,
            view,
            λ r. written_regions whole r ∙ ap (λ ws. if same_region (OfLocal 0 n) r then kept else ws) (written_regions first r),
          );
          layout = whole.layout ∙ first.layout;
          laid = whole.laid;
          rest = whole.rest ∙ first.rest;
        }
