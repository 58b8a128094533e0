-- The head of a frame that begins, word by word.
use Rattle.std.proofs.Common.{◌≡◌, ◌≢◌, refl, sym, ap, ◌∙◌, ℕ, suc, ◌≤◌, false, List, [], ◌∷◌, length, arith}
use Rattle.std.specs.Prelude.{◌==◌}
use Rattle.std.proofs.lemmas.Bool.{and_left, ne_eqb}
use Rattle.gang_types.specs.Lanes.{Lanes}
use Rattle.gang_types.specs.Masks.{lanes_of_word, word_of_lanes}
use Rattle.gang_types.specs.MaskLaws.{lanes_of_word_of_lanes}
use Rattle.gang_types.proofs.MaskWords.{none_lanes}
use Rattle.gang_model.specs.Types.Tree.{Function}
use Rattle.gang_model.specs.Running.Lanes.{at}
use Rattle.undo_log.specs.History.{History}
use Rattle.mask_states.specs.Masked.{entered_body}
use Rattle.machine_states.specs.Regions.{FunctionOf, LanesOf, ReturnedOf, ResultOf, OpenOf, NumbersOf, Head, OfEntry, OfFile, Depth, OfHead, OfLocal, Region, same_head, same_region, LevelOf, OfLevel}
use Rattle.machine_words.specs.declared.words.MachineWords.{MachineWords}
use Rattle.machine_words.specs.Words.{Writes, regions_in}
use Rattle.machine_steps.specs.Calls.{BeginsFrame}
use Rattle.machine_steps.proofs.WrittenRegions.{head_long, written_away, written_here, written_part}

other_head : (i j : ℕ) (part other : Head) → j ≢ i → same_region (OfHead i part) (OfHead j other) ≡ false
other_head i j part other h = and_left (i == j) (same_head part other) (ne_eqb i j (λ e. h (sym e)))

module _ {T : Type 0} (history : T → History) (left : T → ℕ) (width frame n word : ℕ) (lanes : Lanes) (numbers : List ℕ) (m0 m1 m2 m3 m4 m5 m6 : MachineWords T)
    (w1 : Writes history left width (OfHead frame FunctionOf) (n ∷ []) 1 m0 m1)
    (w2 : Writes history left width (OfHead frame LanesOf) (word ∷ []) 1 m1 m2)
    (w3 : Writes history left width (OfHead frame ReturnedOf) (0 ∷ []) 1 m2 m3)
    (w4 : Writes history left width (OfHead frame OpenOf) (0 ∷ []) 1 m3 m4)
    (w5 : Writes history left width (OfLevel frame 0 NumbersOf) numbers width m4 m5)
    (w6 : Writes history left width Depth (suc frame ∷ []) 1 m5 m6) where
  -- a region that is none of these six
  kept_through : (r : Region) → same_region (OfHead frame FunctionOf) r ≡ false → same_region (OfHead frame LanesOf) r ≡ false → same_region (OfHead frame ReturnedOf) r ≡ false
      → same_region (OfHead frame OpenOf) r ≡ false → same_region (OfLevel frame 0 NumbersOf) r ≡ false → same_region Depth r ≡ false
      → regions_in history width m6 r ≡ regions_in history width m0 r
  kept_through r a b c d e f =
      written_away w6 r f ∙ written_away w5 r e ∙ written_away w4 r d ∙ written_away w3 r c ∙ written_away w2 r b ∙ written_away w1 r a

  result_kept : regions_in history width m6 (OfHead frame ResultOf) ≡ regions_in history width m0 (OfHead frame ResultOf)
  result_kept = written_away w6 (OfHead frame ResultOf) refl ∙ written_part w5 ResultOf refl ∙ written_part w4 ResultOf refl ∙ written_part w3 ResultOf refl ∙ written_part w2 ResultOf refl ∙ written_part w1 ResultOf refl

  pub frame_begins : (f : Function) → frame ≤ 63 → length lanes ≡ width → word ≡ word_of_lanes lanes → numbers ≡ (entered_body f lanes).numbers
      → BeginsFrame history left width frame n f lanes m0 m6
  frame_begins f below size is_word are = record {
    begun = record {
      depth = written_here w6;
      function = written_away w6 (OfHead frame FunctionOf) refl ∙ written_part w5 FunctionOf refl ∙ written_part w4 FunctionOf refl ∙ written_part w3 FunctionOf refl ∙ written_part w2 FunctionOf refl ∙ written_here w1;
      lanes_are = ap (λ ws. lanes_of_word width (at ws 0)) (written_away w6 (OfHead frame LanesOf) refl ∙ written_part w5 LanesOf refl ∙ written_part w4 LanesOf refl ∙ written_part w3 LanesOf refl ∙ written_here w2)
          ∙ ap (lanes_of_word width) is_word ∙ lanes_of_word_of_lanes width lanes size;
      none_returned = ap (λ ws. lanes_of_word width (at ws 0)) (written_away w6 (OfHead frame ReturnedOf) refl ∙ written_part w5 ReturnedOf refl ∙ written_part w4 ReturnedOf refl ∙ written_here w3)
          ∙ none_lanes width;
      none_open = written_away w6 (OfHead frame OpenOf) refl ∙ written_part w5 OpenOf refl ∙ written_here w4;
      numbers = written_away w6 (OfLevel frame 0 NumbersOf) refl ∙ written_here w5 ∙ are;
      result_sized = head_long history width m6 w6.laid frame ResultOf (omega (arith, below));
    };
    kept = record {
      file = λ k. kept_through (OfFile k) refl refl refl refl refl refl;
      entry = λ k. kept_through (OfEntry k) refl refl refl refl refl refl;
      heads = λ i part other.
          kept_through (OfHead i part) (other_head frame i FunctionOf part other) (other_head frame i LanesOf part other) (other_head frame i ReturnedOf part other)
          (other_head frame i OpenOf part other) (other_head frame i (LevelOf 0 NumbersOf) part other) refl;
      result = result_kept;
      locals = λ i k. kept_through (OfLocal i k) refl refl refl refl refl refl;
    };
    layout = w6.layout ∙ w5.layout ∙ w4.layout ∙ w3.layout ∙ w2.layout ∙ w1.layout;
    laid = w6.laid;
    rest = w6.rest ∙ w5.rest ∙ w4.rest ∙ w3.rest ∙ w2.rest ∙ w1.rest;
    few = omega (arith, w1.few, w2.few, w3.few, w4.few, w5.few, w6.few);
  }
