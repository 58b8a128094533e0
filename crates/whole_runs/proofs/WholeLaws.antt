-- What the calls of a whole run leave.
use Rattle.std.proofs.Common.{◌≡◌, refl, sym, subst, ap, ◌∙◌, arith, ℕ, suc, ◌+◌, ◌-◌, ◌<◌, ◌≤◌, List, [], ◌∷◌, length, Option, Some, None, Bool, true, false, inr}
use Rattle.std.specs.Prelude.{All, filter, slice_index_or, min, drop, take, Ok, Err, Result}
use Rattle.std.proofs.lemmas.Bool.{true≢false}
use Rattle.std.proofs.lemmas.List.Elements.{All-filter, All-nil, All-same, filter_passes}
use Rattle.std.proofs.lemmas.List.{drop_all, take_all}
use Rattle.undo_log.specs.declared.timeline.Undone.{Undone}
use Rattle.undo_log.specs.History.{History, Moment}
use Rattle.undo_log.specs.declared.timeline.NoHistory.{NoHistory}
use Rattle.gang_model.specs.Types.Tree.{Variable}
use Rattle.gang_model.specs.Debugger.Events.{Event, Step, Poke}
use Rattle.gang_model.specs.Debugger.Debugger.{Debugger, Setting, fresh, limited, moved, poked_by}
use Rattle.debug_traits.specs.declared.machine.StepEnd.{StepEnd}
use Rattle.debug_traits.specs.declared.machine.StepEnd.TheVariants as end
use Rattle.debug_traits.specs.declared.machine.Shown.{Shown}
use Rattle.debug_traits.specs.Beginnings.{StandsAt, with_events}
use Rattle.debug_traits.specs.Machines.{IsPart, Steps, Undoes, UndoesWords}
use Rattle.whole_runs.specs.declared.notes.NotedPoke.{NotedPoke}
use Rattle.whole_runs.specs.declared.copies.CopiedMoment.{CopiedMoment}
use Rattle.whole_runs.specs.Notes.{CanGo, CanPoke, HaveGone, IsGoing, IsWithin, Noted, kept_to, last_steps, noted, one_poke, one_step, poke_of, steps_first, steps_on}
use Rattle.whole_runs.specs.Pokes.{IsShownIn, PokesIn, poked_in}
use Rattle.whole_runs.specs.Runs.{AreWithin, CanHaveAll, IsCopied, StandsWhole, Whole}
use Rattle.whole_runs.specs.Copies.{MayKeep, is_within}
use Rattle.whole_runs.proofs.DoneAgain.{gone_left, same_part_in, stands_poked, steps_left}
use Rattle.whole_runs.proofs.Places.{all_kept, copy_poked, copy_stepped, within_more, within_of, within_push}
use Rattle.whole_runs.proofs.SeenSame.{shown_in_same}
use Rattle.whole_runs.proofs.TakenBack.{Left, are_more, noted_last, shown_same}

-- ---- notes

pub same_noted : (a b : Noted) → a.pokes ≡ b.pokes → a.steps ≡ b.steps → a.kept ≡ b.kept → a.limit ≡ b.limit → a ≡ b
same_noted a b pokes steps kept limit =
    ap (λ x. record a { pokes = x }) pokes
    ∙ ap (λ x. record { pokes = b.pokes; steps = x; kept = a.kept; limit = a.limit }) steps
    ∙ ap (λ x. record { pokes = b.pokes; steps = b.steps; kept = x; limit = a.limit }) kept
    ∙ ap (λ x. record { pokes = b.pokes; steps = b.steps; kept = b.kept; limit = x }) limit

-- ---- the machine's own past

pub none_kept : (n : ℕ) (past : List Moment) → n ≡ length past → n ≤ 0 → past ≡ []
none_kept n [] is none = refl
none_kept n (moment ∷ past) is none = absurd (never n (length past) is none)
  where
    never : (n k : ℕ) → n ≡ suc k → n ≤ 0 → ⊥
    never n k is none = omega arith

pub one_less : (old : History) (r : Result Undone NoHistory) (new : History) (n all : ℕ) → n < all → length old.past + n ≡ all → UndoesWords old r new → length new.past + (n + 1) ≡ all
one_less old (Ok kind) new n all more is undoes = let e = ap length undoes.0 in omega (arith, e, is)
one_less old (Err none) new n all more is undoes = let e = ap length undoes.0 in absurd (never (length old.past) n all more is e)
  where
    never : (k n all : ℕ) → n < all → k + n ≡ all → k ≡ 0 → ⊥
    never k n all more is none = omega arith

-- ---- pokes

-- where one machine was poked, so is another that stands where it does
also_poked : {M N : Type 0} (stands : M → Setting → Debugger → Type 0) (other : N → Setting → Debugger → Type 0) (depth : Option ℕ) (s : Setting) (d e : Debugger) → d.events ≡ e.events
    → (v : Variable) (shown : Shown) (at : Option ℕ) (word : ℕ) (new : M) (next : N) → PokesIn depth stands s d v shown at word new
    → other next s (moved (Poke (poked_in depth (poked_by v at)) word) e) → PokesIn depth other s e v shown at word next
also_poked stands other None s d e same v shown at word new next pokes there =
    let event = Poke (poked_by v at) word in
    (there, shown_same s (moved event d) (moved event e) v shown (ap (λ events. event ∷ events) same) pokes.1)
also_poked stands other (Some deep) s d e same v shown at word new next pokes there = there

module _ {M : Type 0} (stands : M → Setting → Debugger → Type 0) (copies : M → List ℕ → Setting → Debugger → Type 0) where
  abbrev pub Stays : M → M → Type 0
  Stays old new = (words : List ℕ) (s : Setting) (d : Debugger) → copies old words s d → copies new words s d

  pub copied_stays : (old new : M) (s : Setting) (d : Debugger) (older : List Event) (notes : List NotedPoke) (n : ℕ) (all : List CopiedMoment) → Stays old new
      → All (IsCopied copies old s d older notes n) all → All (IsCopied copies new s d older notes n) all
  copied_stays old new s d older notes n all stays copied = λ k e inside within.
      let (less, copy) = copied k e inside within in
      (less, stays (slice_index_or all k e).words.items s (with_events (steps_on (slice_index_or all k e).steps (noted older (take (slice_index_or all k e).pokes notes))) 0 0 d) copy)

  module _ (run : Whole M) (s : Setting) (d : Debugger) (whole : StandsWhole stands copies run s d) (new : M) (stays : Stays run.inner new) (moves : ℕ) where
    -- ---- where nothing happens
    pub still : StandsAt stands new s d d.events → StandsWhole stands copies (record run { inner = new; moves = moves }) s d
    still there = record {
      older = whole.older;
      there = there;
      events = whole.events;
      are_noted = whole.are_noted;
      have_gone = whole.have_gone;
      begins = stays run.start s (with_events whole.older 0 0 d) whole.begins;
      copied = copied_stays run.inner new s d whole.older run.notes.pokes run.notes.steps run.copies stays whole.copied;
      within = whole.within;
      kept = whole.kept;
      history = whole.history;
    }

    -- ---- steps
    pub stepped : run.is_stale ≡ false → ((s : Setting) (d : Debugger) → stands run.inner s d → Steps stands s d end.Done new)
        → Steps (StandsWhole stands copies) s d end.Done (record run { inner = new; notes = one_step run.notes; moves = moves })
    stepped fresh steps =
        let (kept, history, there) = whole.there in
        let (next, goes, after) = steps s (with_events d.events kept history d) there in
        let can : CanGo s (steps_on run.notes.steps (noted whole.older run.notes.pokes)) = subst (CanGo s) whole.events (subst IsGoing (sym goes) tt) in
        let stayed = copied_stays run.inner new s d whole.older run.notes.pokes run.notes.steps run.copies stays whole.copied in (
          next,
          goes,
          record {
            older = whole.older;
            there = (min (suc kept) history, history, after);
            events = ap (λ events. Step ∷ events) whole.events;
            are_noted = whole.are_noted;
            have_gone = (whole.have_gone, can);
            begins = stays run.start s (with_events whole.older 0 0 d) whole.begins;
            copied = λ k e inside. copy_stepped copies new s d whole.older run.notes.pokes run.notes.steps (slice_index_or run.copies k e) (whole.within fresh k e inside) (stayed k e inside);
            within = λ f k e inside. within_more run.notes.pokes run.notes.steps (slice_index_or run.copies k e).pokes (slice_index_or run.copies k e).steps (whole.within fresh k e inside);
            kept = ap (λ n. min (suc n) d.history) whole.kept ∙ ap (λ n. min (suc run.notes.kept) n) whole.history;
            history = whole.history;
          },
        )

    pub not_stepped : (done : StepEnd) → (done ≡ end.Done → ⊥) → ((s : Setting) (d : Debugger) → stands run.inner s d → Steps stands s d done new)
        → Steps (StandsWhole stands copies) s d done (record run { inner = new; moves = moves })
    not_stepped end.Done none steps = absurd (none refl)
    not_stepped (end.Fault fault) none steps =
        let (kept, history, there) = whole.there in
        let (fails, same) = steps s (with_events d.events kept history d) there in
        (fails, still (kept, history, same))
    not_stepped end.Ended none steps =
        let (kept, history, there) = whole.there in
        let (over, same) = steps s (with_events d.events kept history d) there in
        (over, still (kept, history, same))

    -- ---- pokes
    pub poked : run.is_stale ≡ false → (depth : Option ℕ) (v : Variable) (shown : Shown) (at : Option ℕ) (word : ℕ) → IsShownIn depth s d v shown → IsPart at shown
        → ((s : Setting) (d : Debugger) (v : Variable) → stands run.inner s d → IsShownIn depth s d v shown → IsPart at shown → PokesIn depth stands s d v shown at word new)
        → PokesIn depth (StandsWhole stands copies) s d v shown at word (record run { inner = new; notes = one_poke depth shown at word run.notes; moves = moves })
    poked fresh_copies depth v shown at word is part pokes =
        let (kept, history, there) = whole.there in
        let e = with_events d.events kept history d in
        let note : NotedPoke = record { steps = run.notes.steps; depth = depth; shown = shown; at = at; word = word } in
        let event = Poke (poked_in depth (poked_by v at)) word in
        let before = steps_on run.notes.steps (noted whole.older run.notes.pokes) in
        let after = pokes s e v there (shown_in_same s d e refl depth v shown is) part in
        let same : event ≡ poke_of note = ap (λ what. Poke what word) (same_part_in stands depth s d v shown at is) in
        let can : CanPoke s before note = record {
          variable = v;
          shown = shown_in_same s d (with_events before 0 0 (fresh 0)) whole.events depth v shown is;
          part = part;
        } in
        let stayed = copied_stays run.inner new s d whole.older run.notes.pokes run.notes.steps run.copies stays whole.copied in
        let next : Whole M = record run { inner = new; notes = one_poke depth shown at word run.notes; moves = moves } in
        let there_next : StandsWhole stands copies next s (moved event d) = record {
          older = whole.older;
          there = (min (suc kept) history, history, stands_poked stands depth s e v shown at word new after);
          events = ap (λ events. event ∷ events) whole.events ∙ ap (λ event. event ∷ before) same ∙ sym (noted_last whole.older run.notes.pokes note);
          are_noted = are_more s whole.older run.notes.pokes note whole.are_noted whole.have_gone can;
          have_gone = tt;
          begins = stays run.start s (with_events whole.older 0 0 d) whole.begins;
          copied = λ k e inside. copy_poked copies new s d whole.older run.notes.pokes note (slice_index_or run.copies k e) (whole.within fresh_copies k e inside) (stayed k e inside);
          within = λ f k e inside. within_push run.notes.pokes note run.notes.steps (slice_index_or run.copies k e).pokes (slice_index_or run.copies k e).steps (whole.within fresh_copies k e inside);
          kept = ap (λ n. min (suc n) d.history) whole.kept ∙ ap (λ n. min (suc run.notes.kept) n) whole.history;
          history = whole.history;
        } in
        also_poked stands (StandsWhole stands copies) depth s e d refl v shown at word new next after there_next

    -- ---- events that are taken back
    pub taken : (notes : Noted) (kind : Undone) → Left s whole.older d.events kind notes.pokes notes.steps run.notes.kept notes.kept → notes.limit ≡ run.notes.limit
        → (all : List CopiedMoment) (most : ℕ) → All (IsCopied copies new s d whole.older notes.pokes notes.steps) all → StandsAt stands new s d (steps_on notes.steps (noted whole.older notes.pokes))
        → Undoes (StandsWhole stands copies) s d (Ok kind) (record run { inner = new; notes = notes; copies = all; most = most; is_stale = true; moves = moves })
    taken notes kind is limit_is all most copied there =
        let events = steps_on notes.steps (noted whole.older notes.pokes) in
        let rest : drop 1 d.events ≡ events = ap (drop 1) is.is in
        let one = is.one in
        let kept_is = whole.kept in
        let more : d.kept ≡ notes.kept + 1 = omega (arith, one, kept_is) in
        let fewer : d.kept - 1 ≡ notes.kept = omega (arith, one, kept_is) in (
          is.event,
          events,
          notes.kept,
          is.is,
          more,
          is.kind_is,
          record {
            older = whole.older;
            there = subst (λ events. StandsAt stands new s d events) (sym rest) there;
            events = rest;
            are_noted = is.noted_are;
            have_gone = is.gone;
            begins = stays run.start s (with_events whole.older 0 0 d) whole.begins;
            copied = copied;
            within = λ f. absurd (true≢false f);
            kept = fewer;
            history = whole.history ∙ sym limit_is;
          },
        )

    -- ---- the limit
    pub limited_to : (limit : ℕ) → run.inner ≡ new → StandsWhole stands copies (record run { inner = new; notes = kept_to limit run.notes; moves = moves }) s (limited limit d)
    limited_to limit same = record {
      older = whole.older;
      there = subst (λ m. StandsAt stands m s d d.events) same whole.there;
      events = whole.events;
      are_noted = whole.are_noted;
      have_gone = whole.have_gone;
      begins = stays run.start s (with_events whole.older 0 0 d) whole.begins;
      copied = copied_stays run.inner new s d whole.older run.notes.pokes run.notes.steps run.copies stays whole.copied;
      within = whole.within;
      kept = ap (λ n. min n limit) whole.kept;
      history = refl;
    }

  -- the machine takes its newest event back
  pub undone_at : (old new : M) (s : Setting) (d : Debugger) (events : List Event) (kept : ℕ) (result : Result Undone NoHistory) → StandsAt stands old s d events
      → ((s : Setting) (d : Debugger) → stands old s d → kept ≡ d.kept) → 0 < kept → ((s : Setting) (d : Debugger) → stands old s d → Undoes stands s d result new)
      → StandsAt stands new s d (drop 1 events)
  undone_at old new s d events kept (Ok kind) (k, history, there) many some undoes =
      let (event, older, left, is, one_more, kind_is, gone) = undoes s (with_events events k history d) there in
      (k - 1, history, gone)
  undone_at old new s d events kept (Err none) (k, history, there) many some undoes =
      absurd (never kept k (many s (with_events events k history d) there) some (undoes s (with_events events k history d) there).0)
    where
      never : (kept k : ℕ) → kept ≡ k → 0 < kept → k ≡ 0 → ⊥
      never kept k is some none = omega arith

  -- with other copies
  pub recopied : (run : Whole M) (s : Setting) (d : Debugger) (whole : StandsWhole stands copies run s d) (all : List CopiedMoment) (most : ℕ) (is_stale : Bool)
      → All (IsCopied copies run.inner s d whole.older run.notes.pokes run.notes.steps) all → (is_stale ≡ false → AreWithin run.notes.pokes run.notes.steps all)
      → StandsWhole stands copies (record run { copies = all; most = most; is_stale = is_stale }) s d
  recopied run s d whole all most is_stale copied within = record {
    older = whole.older;
    there = whole.there;
    events = whole.events;
    are_noted = whole.are_noted;
    have_gone = whole.have_gone;
    begins = whole.begins;
    copied = copied;
    within = within;
    kept = whole.kept;
    history = whole.history;
  }

  -- a copy of the last moment
  pub copy_here : (run : Whole M) (s : Setting) (d : Debugger) (whole : StandsWhole stands copies run s d) (c : CopiedMoment) → c.pokes ≡ length run.notes.pokes → c.steps ≡ run.notes.steps
      → ((s : Setting) (d : Debugger) → stands run.inner s d → copies run.inner c.words.items s (with_events d.events 0 0 d))
      → IsCopied copies run.inner s d whole.older run.notes.pokes run.notes.steps c
  copy_here run s d whole c pokes_are steps_are moment = λ within.
      let (kept, history, there) = whole.there in
      let copy = moment s (with_events d.events kept history d) there in
      let pokes = run.notes.pokes in
      let long : length pokes ≤ c.pokes = omega (arith, pokes_are) in
      let less : c.steps ≤ run.notes.steps = omega (arith, steps_are) in
      let place : d.events ≡ steps_on c.steps (noted whole.older (take c.pokes pokes)) =
      whole.events ∙ ap (λ n. steps_on n (noted whole.older pokes)) (sym steps_are) ∙ ap (λ notes. steps_on c.steps (noted whole.older notes)) (sym (take_all c.pokes pokes long)) in (
        subst (λ notes. c.steps ≤ steps_first notes run.notes.steps) (sym (drop_all c.pokes pokes long)) less,
        subst (λ events. copies run.inner c.words.items s (with_events events 0 0 d)) place copy,
      )

  -- copies of a moment after the last event are gone
  pub dropped : (run : Whole M) (s : Setting) (d : Debugger) (whole : StandsWhole stands copies run s d) (all : List CopiedMoment) (most : ℕ) (is_stale : Bool)
      → all ≡ filter (λ c. is_within run.notes.pokes run.notes.steps c.pokes c.steps) run.copies → StandsWhole stands copies (record run { copies = all; most = most; is_stale = is_stale }) s d
  dropped run s d whole all most is_stale is =
      let P = IsCopied copies run.inner s d whole.older run.notes.pokes run.notes.steps in
      let test : CopiedMoment → Bool = λ c. is_within run.notes.pokes run.notes.steps c.pokes c.steps in
      let W : CopiedMoment → Type 0 = λ c. IsWithin run.notes.pokes run.notes.steps c.pokes c.steps in
      let passes = filter_passes test run.copies in
      let within : All W (filter test run.copies) = λ k e inside. within_of run.notes.pokes run.notes.steps (slice_index_or (filter test run.copies) k e).pokes (slice_index_or (filter test run.copies) k e).steps (passes k e inside) in
      recopied run s d whole all most is_stale (All-same P all (filter test run.copies) is (All-filter test P run.copies whole.copied)) (λ f. All-same W all (filter test run.copies) is within)

  -- another copy is kept
  pub another : (run : Whole M) (s : Setting) (d : Debugger) (whole : StandsWhole stands copies run s d) (c : CopiedMoment) → c.pokes ≡ length run.notes.pokes → c.steps ≡ run.notes.steps
      → ((s : Setting) (d : Debugger) → stands run.inner s d → copies run.inner c.words.items s (with_events d.events 0 0 d))
      → (all : List CopiedMoment) (most : ℕ) → MayKeep run.copies c all → StandsWhole stands copies (record run { copies = all; most = most }) s d
  another run s d whole c pokes_are steps_are moment all most keeps =
      let last : IsWithin run.notes.pokes run.notes.steps c.pokes c.steps = let less : c.steps ≤ run.notes.steps = omega (arith, steps_are) in inr (pokes_are, less) in
      recopied run s d whole all most run.is_stale
      (all_kept (IsCopied copies run.inner s d whole.older run.notes.pokes run.notes.steps) run.copies c all whole.copied (copy_here run s d whole c pokes_are steps_are moment) keeps)
      (λ f. all_kept (λ c. IsWithin run.notes.pokes run.notes.steps c.pokes c.steps) run.copies c all (whole.within f) last keeps)

  -- only the last steps are left, and the start is the moment before them
  pub restarted : (run : Whole M) (s : Setting) (d : Debugger) (whole : StandsWhole stands copies run s d) (new : M) (start : List ℕ) (left : ℕ) (all : List CopiedMoment) (most : ℕ) → all ≡ [] → left ≤ run.notes.steps
      → StandsAt stands new s d (steps_on run.notes.steps (noted whole.older run.notes.pokes))
      → copies new start s (with_events (steps_on (run.notes.steps - left) (noted whole.older run.notes.pokes)) 0 0 d)
      → StandsWhole stands copies (record run { inner = new; notes = last_steps left run.notes; start = start; copies = all; most = most }) s d
  restarted run s d whole new start left all most none less there begins =
      let before = noted whole.older run.notes.pokes in
      let first = run.notes.steps - left in
      let count : left ≡ run.notes.steps - first = omega (arith, less) in
      let fewer : first ≤ run.notes.steps = omega arith in
      let same : steps_on left (steps_on first before) ≡ steps_on run.notes.steps before = ap (λ n. steps_on n (steps_on first before)) count ∙ steps_left first run.notes.steps before fewer in
      record {
        older = steps_on first before;
        there = subst (λ events. StandsAt stands new s d events) (sym whole.events) there;
        events = whole.events ∙ sym same;
        are_noted = tt;
        have_gone = subst (λ n. HaveGone s n (steps_on first before)) (sym count) (gone_left s first run.notes.steps before fewer whole.have_gone);
        begins = begins;
        copied = All-same (IsCopied copies new s d (steps_on first before) [] left) all [] none (All-nil (IsCopied copies new s d (steps_on first before) [] left));
        within = λ f. All-same (λ c. IsWithin [] left c.pokes c.steps) all [] none (All-nil (λ c. IsWithin [] left c.pokes c.steps));
        kept = whole.kept;
        history = whole.history;
      }

  -- a run begins
  pub begun : (inner : M) (start : List ℕ) (limit : ℕ) (s : Setting) (d : Debugger) → stands inner s d → d.events ≡ [] → copies inner start s (with_events [] 0 0 d)
      → (notes : Noted) → notes ≡ record { pokes = []; steps = 0; kept = 0; limit = limit } → (all : List CopiedMoment) (most : ℕ) → all ≡ [] → (moves : ℕ)
      → StandsWhole stands copies (record { inner = inner; notes = notes; start = start; copies = all; most = most; is_stale = false; moves = moves }) s (with_events [] 0 limit d)
  begun inner start limit s d there none begins notes is all most no_copies moves =
      let here : StandsWhole stands copies (record { inner = inner; notes = record { pokes = []; steps = 0; kept = 0; limit = limit }; start = start; copies = all; most = most; is_stale = false; moves = moves }) s (with_events [] 0 limit d) = record {
        older = [];
        there = (d.kept, d.history, subst (λ events. stands inner s (with_events events d.kept d.history d)) none there);
        events = refl;
        are_noted = tt;
        have_gone = tt;
        begins = begins;
        copied = All-same (IsCopied copies inner s (with_events [] 0 limit d) [] [] 0) all [] no_copies (All-nil (IsCopied copies inner s (with_events [] 0 limit d) [] [] 0));
        within = λ f. All-same (λ c. IsWithin [] 0 c.pokes c.steps) all [] no_copies (All-nil (λ c. IsWithin [] 0 c.pokes c.steps));
        kept = refl;
        history = refl;
      } in
      subst (λ notes. StandsWhole stands copies (record { inner = inner; notes = notes; start = start; copies = all; most = most; is_stale = false; moves = moves }) s (with_events [] 0 limit d)) (sym is) here

-- what it can have lasts
pub have_all : {M : Type 0} (can_have : M → List ℕ → Type 0) (old new : M) (start : List ℕ) (all : List CopiedMoment) → ((words : List ℕ) → can_have old words → can_have new words)
    → CanHaveAll can_have old start all → CanHaveAll can_have new start all
have_all can_have old new start all keeps (first, rest) = (keeps start first, λ k e inside. keeps (slice_index_or all k e).words.items (rest k e inside))

pub have_dropped : {M : Type 0} (can_have : M → List ℕ → Type 0) (inner : M) (start : List ℕ) (old new : List CopiedMoment) (test : CopiedMoment → Bool) → new ≡ filter test old
    → CanHaveAll can_have inner start old → CanHaveAll can_have inner start new
have_dropped can_have inner start old new test is (first, rest) =
    (first, All-same (λ c. can_have inner c.words.items) new (filter test old) is (All-filter test (λ c. can_have inner c.words.items) old rest))

pub have_another : {M : Type 0} (can_have : M → List ℕ → Type 0) (inner : M) (start : List ℕ) (old : List CopiedMoment) (c : CopiedMoment) (new : List CopiedMoment) → can_have inner c.words.items → MayKeep old c new
    → CanHaveAll can_have inner start old → CanHaveAll can_have inner start new
have_another can_have inner start old c new has keeps (first, rest) = (first, all_kept (λ c. can_have inner c.words.items) old c new rest has keeps)

pub have_none : {M : Type 0} (can_have : M → List ℕ → Type 0) (inner : M) (start : List ℕ) (all : List CopiedMoment) → all ≡ [] → can_have inner start → CanHaveAll can_have inner start all
have_none can_have inner start all none has = (has, All-same (λ c. can_have inner c.words.items) all [] none (All-nil (λ c. can_have inner c.words.items)))
