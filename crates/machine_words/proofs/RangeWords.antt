-- The words of a range among all words, and what is left of them by writes.
use Rattle.std.proofs.Common.{ℕ, ◌+◌, ◌<◌, ◌≤◌, ◌≢◌, ◌⊎◌, inl, inr, ◌≡◌, sym, ◌∙◌, ap, arith, List, length, slice_index, take, drop}
use Rattle.std.specs.Prelude.{slice_set}
use Rattle.std.proofs.Math.Seq.{take-set-lt}
use Rattle.std.proofs.lemmas.List.{drop-set-add, ext_get_or, get_or-drop, get_or-set_other, get_or-take, length-drop, length-set, length-take}
use Rattle.gang_memory.specs.declared.parts.Part.{Part}
use Rattle.gang_memory.specs.Elements.{StandsAt}
use Rattle.gang_memory.specs.Writes.{IsKeptOutside}
use Rattle.machine_words.proofs.InOrder.{AreApart}

abbrev pub words_in : Part → List ℕ → List ℕ
words_in p words = take p.len (drop p.first words)

module _ (p : Part) (words : List ℕ) where
  pub length-words_in : p.first + p.len ≤ length words → length (words_in p words) ≡ p.len
  length-words_in h = simp (length-take, length-drop) (omega arith)

  pub word_in : (i : ℕ) → i < p.len → slice_index (words_in p words) i ≡ slice_index words (p.first + i)
  word_in i h = get_or-take p.len (drop p.first words) i 0 h ∙ get_or-drop p.first words i 0

  -- the words of a range stand where it begins
  pub they_stand : p.first + p.len ≤ length words → StandsAt p.first (words_in p words) words
  they_stand h =
      let long = length-words_in h in
      record {
        inside = omega (arith, long, h);
        same = λ i l. sym (word_in i (omega (arith, l, long)));
      }

  -- words that stand where a range begins, as many as it has, are its words
  pub stand_there : (list : List ℕ) → length list ≡ p.len → StandsAt p.first list words → words_in p words ≡ list
  stand_there list e stands =
      let inside : p.first + p.len ≤ length words = omega (arith, e, stands.inside) in
      let long = length-words_in inside in
      ext_get_or 0 (words_in p words) list (long ∙ sym e) (λ i l. word_in i (omega (arith, l, long)) ∙ stands.same i (omega (arith, l, long, e)))

-- a range apart from one that is written has its words
pub kept_words : (p q : Part) (old new : List ℕ) → IsKeptOutside p.first p.len old new → q.first + q.len ≤ length old → AreApart p q → words_in q new ≡ words_in q old
kept_words p q old new kept inside apart =
    let new_long = length-words_in q new (omega (arith, inside, kept.long)) in
    ext_get_or 0 (words_in q new) (words_in q old) (new_long ∙ sym (length-words_in q old inside))
    (λ i h.
    let within : i < q.len = omega (arith, h, new_long) in
    word_in q new i within ∙ kept.same (q.first + i) (outside i within apart) ∙ sym (word_in q old i within))
  where
    outside : (i : ℕ) → i < q.len → AreApart p q → (q.first + i < p.first) ⊎ (p.first + p.len ≤ q.first + i)
    outside i h (inl behind) = inr (omega (arith, behind))
    outside i h (inr before) = inl (omega (arith, before, h))

-- one word of a range is set
module _ (p : Part) (old new : List ℕ) (i value : ℕ) (within : i < p.len) (stores : new ≡ slice_set old (p.first + i) value) where
  pub set_there : words_in p new ≡ slice_set (words_in p old) i value
  set_there =
      ap (λ ws. take p.len (drop p.first ws)) stores
      ∙ ap (λ ws. take p.len ws) (drop-set-add p.first old i value)
      ∙ take-set-lt p.len (drop p.first old) i value within

  pub set_alone : IsKeptOutside p.first p.len old new
  set_alone = record {
    long = ap length stores ∙ length-set old (p.first + i) value;
    same = λ k out. ap (λ ws. slice_index ws k) stores ∙ get_or-set_other old (p.first + i) k value 0 (elsewhere k out);
  }
    where
      elsewhere : (k : ℕ) → (k < p.first) ⊎ (p.first + p.len ≤ k) → k ≢ p.first + i
      elsewhere k (inl before) = omega (arith, before)
      elsewhere k (inr behind) = omega (arith, behind, within)
