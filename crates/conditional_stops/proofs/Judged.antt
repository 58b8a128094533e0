-- The lanes in which a value is not 0, and what a condition comes to.
use Rattle.std.proofs.Common.{◌≡◌, sym, ap, ◌∙◌, ℕ, ◌<◌, ◌≤◌, List, take, arith}
use Rattle.std.specs.Prelude.{◌==◌, ◌&&◌, not, slice_index}
use Rattle.std.proofs.lemmas.List.{get_or-take}
use Rattle.gang_types.specs.declared.types.IntType.{IntType}
use Rattle.gang_types.specs.declared.types.Rate.{Rate}
use Rattle.gang_types.specs.Lanes.{Lanes, has, lanes_where}
use Rattle.gang_types.specs.LaneLaws.{has-lanes_where, length-lanes_where}
use Rattle.gang_types.specs.Masks.{lanes_of, lanes_of_word}
use Rattle.gang_types.specs.MaskLaws.{has-lanes_of_word, lanes_of_word_is, length-lanes_of_word}
use Rattle.gang_model.specs.Running.Lanes.{holds}
use Rattle.gang_model.specs.Types.Tree.{Expr}
use Rattle.gang_model.specs.Debugger.Debugger.{Debugger, Setting, depth, now}
use Rattle.debug_session.specs.Sessions.{bare}
use Rattle.frame_values.specs.declared.values.NoValue.{NoValue}
use Rattle.frame_values.specs.declared.values.NoValue.TheVariants as no
use Rattle.frame_values.specs.Values.{HasNoValue, IsTreeOf}
use Rattle.conditional_stops.specs.declared.judging.Verdict.{Verdict}
use Rattle.conditional_stops.specs.declared.judging.Verdict.TheVariants as verdict
use Rattle.conditional_stops.specs.Verdicts.{HoldsIn, IsVerdict}

-- what is found for the widest gang holds of a gang with fewer lanes
pub lanes_within : (w found lanes : ℕ) (words : List ℕ) → w ≤ 16 → lanes_of_word 16 found ≡ lanes_where (lanes_of_word 16 lanes) (λ k. not (slice_index words k == 0))
    → lanes_of_word w found ≡ lanes_where (lanes_of_word w lanes) (holds (take w words))
lanes_within w found lanes words within wide =
    lanes_of_word_is w found (lanes_where (lanes_of_word w lanes) (holds (take w words)))
    (length-lanes_where (lanes_of_word w lanes) (holds (take w words)) ∙ length-lanes_of_word w lanes)
    (λ k below.
    let inside : k < 16 = omega arith in
    sym (has-lanes_of_word 16 found k inside)
    ∙ ap (λ all. has all k) wide
    ∙ has-lanes_where (lanes_of_word 16 lanes) (λ k. not (slice_index words k == 0)) k
    ∙ ap (λ b. b && not (slice_index words k == 0)) (has-lanes_of_word 16 lanes k inside ∙ sym (has-lanes_of_word w lanes k below))
    ∙ ap (λ x. has (lanes_of_word w lanes) k && not (x == 0)) (sym (get_or-take w words k 0 below))
    ∙ sym (has-lanes_where (lanes_of_word w lanes) (holds (take w words)) k))

-- ---- what a condition comes to does not depend on breakpoints and watches

module _ (text : List ℕ) (s : Setting) (d : Debugger) where
  tree_of_bare : (deep : ℕ) (tree : Expr) (type : IntType) (rate : Rate) → IsTreeOf text s (bare d) deep tree type rate → IsTreeOf text s d deep tree type rate
  tree_of_bare deep tree type rate h = record { spot = h.spot; stands = h.stands; written = h.written; is_written = h.is_written; means = h.means }

  holds_of_bare : (lanes : Lanes) → HoldsIn text s (bare d) lanes → HoldsIn text s d lanes
  holds_of_bare lanes h = record {
    tree = h.tree;
    type = h.type;
    rate = h.rate;
    is_tree = tree_of_bare (depth (now s d)) h.tree h.type h.rate h.is_tree;
    words = h.words;
    has_words = h.has_words;
    are = h.are;
  }

  no_value_of_bare : (why : NoValue) → HasNoValue text s (bare d) (depth (now s d)) why → HasNoValue text s d (depth (now s d)) why
  no_value_of_bare no.NoFrame h = h
  no_value_of_bare (no.Refused refusal) h = h
  no_value_of_bare (no.Fault fault) h = record {
    tree = h.tree;
    type = h.type;
    rate = h.rate;
    is_tree = tree_of_bare (depth (now s d)) h.tree h.type h.rate h.is_tree;
    faults = h.faults;
  }

  pub verdict_of_bare : (told : Verdict) → IsVerdict text s (bare d) told → IsVerdict text s d told
  verdict_of_bare (verdict.Holds found) h = (h.0, holds_of_bare (lanes_of found.width found.lanes) h.1, h.2)
  verdict_of_bare verdict.Fails h = (h.0, holds_of_bare h.0 h.1, h.2)
  verdict_of_bare (verdict.NoValue why) h = no_value_of_bare why h
