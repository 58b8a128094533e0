-- Watches of frames that changed, one after another.
use Rattle.std.proofs.Common.{◌≡◌, refl, sym, subst, ap, ◌∙◌, ℕ, ◌+◌, ◌<◌, ◌≤◌, Bool, true, false, List, [], ◌∷◌, ◌++◌, length, get_or, drop, map, Option, None, append_assoc, append-nil}
use Rattle.std.specs.Prelude.{filter, if◌then◌else◌}
use Rattle.std.proofs.lemmas.List.{at_drop_all, at_drop_more, drop-map}
use Rattle.gang_model.specs.Debugger.Debugger.{Debugger, Setting}
use Rattle.conditional_stops.specs.declared.going.Direction.{Direction}
use Rattle.conditional_stops.specs.declared.reasons.CountedStop.{CountedStop}
use Rattle.conditional_stops.specs.declared.reasons.Reason.{Reason}
use Rattle.conditional_stops.specs.declared.reasons.Reason.TheVariants as reason
use Rattle.conditional_stops.specs.declared.watches.Watch.{Watch}
use Rattle.conditional_stops.specs.Reasons.{Asks, first_of}
use Rattle.conditional_stops.specs.Tables.{Table}
use Rattle.conditional_stops.specs.Watches.{Seen, changed, changed_frames, seen, watch_number}
use Rattle.conditional_stops.proofs.Asked.{asks_on}

-- what was noted of a watch
pub noted_then : (s : Setting) (d : Debugger) (watches : List Watch) (noted : List Seen) (place k : ℕ) (w : Watch) → noted ≡ map (seen s d) watches → place ≡ k → k < length watches
    → drop place noted ≡ seen s d (get_or watches k w) ∷ map (seen s d) (drop (k + 1) watches)
noted_then s d watches noted place k w is same inside =
    ap (drop place) is ∙ drop-map (seen s d) place watches ∙ ap (λ n. map (seen s d) (drop n watches)) same ∙ at_drop_more (map (seen s d)) watches k w inside

module _ (way : Direction) (s : Setting) (began d : Debugger) where
  abbrev pub told : List Watch → List Reason
  told watches = map (λ (w : Watch). reason.Watch (watch_number w)) watches

  abbrev of_rest : List Watch → List Watch
  of_rest watches = filter (λ (w : Watch). changed way (seen s began w) (seen s d w)) watches

  by_test : (b : Bool) (w : Watch) (rest : List Watch) → told (if b then w ∷ rest else rest) ≡ told (if b then w ∷ [] else []) ++ told rest
  by_test true w rest = refl
  by_test false w rest = refl

  -- the first one, and the others
  pub changed_first : (w : Watch) (rest : List Watch) → changed_frames way s began d (w ∷ rest) ≡ changed_frames way s began d (w ∷ []) ++ changed_frames way s began d rest
  changed_first w rest = by_test (changed way (seen s began w) (seen s d w)) w (of_rest rest)

  -- the first of those that are left
  pub changed_at : (watches : List Watch) (k : ℕ) (w : Watch) → k < length watches
      → changed_frames way s began d (drop k watches) ≡ changed_frames way s began d (get_or watches k w ∷ []) ++ changed_frames way s began d (drop (k + 1) watches)
  changed_at watches k w inside = at_drop_more (changed_frames way s began d) watches k w inside ∙ changed_first (get_or watches k w) (drop (k + 1) watches)

  -- the watches before those that are left were asked
  pub record AskedFrames (watches left : List Watch) (table : Table) (first : Option CountedStop) (new : Table) : Type 0 where
    pub before : List Reason
    pub same : before ++ changed_frames way s began d left ≡ changed_frames way s began d watches
    pub asks : Asks s d before table first new

  abbrev pub none_asked : (watches : List Watch) (table : Table) → AskedFrames watches watches table None table
  none_asked watches table = record { before = []; same = refl; asks = (refl, refl) }

  abbrev pub one_asked : (watches : List Watch) (k : ℕ) (w : Watch) (table middle new : Table) (first counted : Option CountedStop) → k < length watches → AskedFrames watches (drop k watches) table first middle
      → Asks s d (changed_frames way s began d (get_or watches k w ∷ [])) middle counted new → AskedFrames watches (drop (k + 1) watches) table (first_of first counted) new
  one_asked watches k w table middle new first counted inside so one = record {
    before = so.before ++ changed_frames way s began d (get_or watches k w ∷ []);
    same = append_assoc so.before (changed_frames way s began d (get_or watches k w ∷ [])) (changed_frames way s began d (drop (k + 1) watches))
        ∙ sym (ap (λ xs. so.before ++ xs) (changed_at watches k w inside)) ∙ so.same;
    asks = asks_on s d so.before (changed_frames way s began d (get_or watches k w ∷ [])) table middle new first counted so.asks one;
  }

  pub all_asked : (watches : List Watch) (k : ℕ) (table new : Table) (first : Option CountedStop) → length watches ≤ k → AskedFrames watches (drop k watches) table first new
      → Asks s d (changed_frames way s began d watches) table first new
  all_asked watches k table new first past so =
      let same : so.before ≡ changed_frames way s began d watches =
      sym (append-nil so.before) ∙ sym (ap (λ xs. so.before ++ xs) (at_drop_all (changed_frames way s began d) watches k past)) ∙ so.same in
      subst (λ xs. Asks s d xs table first new) same so.asks

  -- one that is asked, if it changed
  pub asked_changed : (w : Watch) (table new : Table) (first : Option CountedStop) (b : Bool) → changed way (seen s began w) (seen s d w) ≡ b
      → Asks s d (told (if b then w ∷ [] else [])) table first new → Asks s d (changed_frames way s began d (w ∷ [])) table first new
  asked_changed w table new first b is asks = subst (λ b. Asks s d (told (if b then w ∷ [] else [])) table first new) (sym is) asks
