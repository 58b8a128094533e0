-- The words of frames' heads, and the regions after a write.
use Rattle.std.proofs.Common.{ℕ, ◌<◌, ◌≡◌, refl, sym, ◌∙◌, ap, subst, arith, List, [], ◌∷◌, length}
use Rattle.std.specs.Prelude.{◌||◌, if◌then◌else◌, slice_index, slice_set}
use Rattle.std.proofs.Math.Bool.{or_comm}
use Rattle.undo_log.specs.History.{History}
use Rattle.gang_types.specs.declared.masks.Mask.{Mask}
use Rattle.gang_types.specs.Lanes.{Lanes, has}
use Rattle.gang_types.specs.Masks.{lanes_of, lanes_of_word, word_of_lanes}
use Rattle.gang_types.specs.MaskLaws.{lanes_of_word_of_lanes, length-lanes_of_word}
use Rattle.machine_states.specs.Regions.{Head, OfHead, Region, Regions, same_region, with_region}
use Rattle.machine_states.specs.Steps.{KeepsBoth}
use Rattle.machine_words.specs.declared.words.MachineWords.{MachineWords}
use Rattle.machine_words.specs.Ranges.{regions_of, head_size, levels_of}
use Rattle.machine_words.specs.Words.{AreLaid, Writes, regions_in, words_of}
use Rattle.machine_words.proofs.Sizes.{head_words}

-- ---- words

-- the only word is set
pub only_word : (words : List ℕ) (x : ℕ) → length words ≡ 1 → slice_set words 0 x ≡ x ∷ []
only_word [] x e = absurd (omega (arith, e))
only_word (y ∷ []) x e = refl
only_word (y ∷ z ∷ words) x e = absurd (omega (arith, e))

pub one_word : (words : List ℕ) (x : ℕ) → length words ≡ 1 → x ≡ slice_index words 0 → words ≡ x ∷ []
one_word [] x e is = absurd (omega (arith, e))
one_word (y ∷ []) x e is = ap (λ z. z ∷ []) (sym is)
one_word (y ∷ z ∷ words) x e is = absurd (omega (arith, e))

pub first_word : (words : List ℕ) (n x : ℕ) → words ≡ n ∷ [] → x ≡ slice_index words 0 → x ≡ n
first_word words n x e is = is ∙ ap (λ ws. slice_index ws 0) e

pub alike : (region : Region) (some others : List ℕ) (old new : Regions) (r : Region) → some ≡ others → old r ≡ new r → with_region region some old r ≡ with_region region others new r
alike region some others old new r e f =
    ap (λ words. if same_region region r then words else old r) e ∙ ap (λ words. if same_region region r then others else words) f

module _ {T : Type 0} (history : T → History) (left : T → ℕ) (w : ℕ) where
  -- the regions after a write
  pub regions_after : (old new : MachineWords T) (region : Region) (after : List ℕ) (writes : ℕ) → Writes history left w region after writes old new
      → (r : Region) → regions_in history w new r ≡ with_region region after (regions_in history w old) r
  regions_after old new region after writes is r = ap (λ layout. regions_of w layout (words_of history new) r) is.layout ∙ is.changes r

  -- how many words a part of a head has
  pub head_long : (words : MachineWords T) → AreLaid history w words → (i : ℕ) (part : Head) → i < 64
      → length (regions_in history w words (OfHead i part)) ≡ head_size w (levels_of words.layout) part
  head_long words laid i part h = head_words w words.layout (words_of history words) laid i part (subst (λ n. i < n) (sym laid.planned.count) h)

-- ---- lanes

-- the word of a mask keeps its lanes
pub word_keeps : (w word : ℕ) (mask : Mask) → word ≡ word_of_lanes (lanes_of w mask) → lanes_of_word w word ≡ lanes_of w mask
word_keeps w word mask e = ap (lanes_of_word w) e ∙ lanes_of_word_of_lanes w (lanes_of w mask) (length-lanes_of_word w mask.word)

pub keeps_both : (w word : ℕ) (some other both : Mask) (others : Lanes) → lanes_of w other ≡ others
    → ((v k : ℕ) → k < v → has (lanes_of v both) k ≡ (has (lanes_of v other) k || has (lanes_of v some) k))
    → word ≡ word_of_lanes (lanes_of w both) → KeepsBoth w (lanes_of w some) others word
keeps_both w word some other both others is either e k h =
    ap (λ lanes. has lanes k) (word_keeps w word both e)
    ∙ either w k h
    ∙ or_comm (has (lanes_of w other) k) (has (lanes_of w some) k)
    ∙ ap (λ lanes. has (lanes_of w some) k || has lanes k) is
