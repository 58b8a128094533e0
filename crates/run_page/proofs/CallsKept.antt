-- The calls of moments, one after another.
use Rattle.std.proofs.Common.{◌≡◌, refl, sym, ap, ◌∙◌, subst, ℕ, ◌<◌, ◌≤◌, ◌+◌, ◌-◌, List, [], ◌∷◌, ◌++◌, length, drop, take, get_or, Option, Some, None, arith, length-append, take-append-drop}
use Rattle.std.specs.Prelude.{slice_get}
use Rattle.std.proofs.lemmas.List.{append-nil, append_assoc, drop-append-le, length-drop, take-append-le, take_more}
use Rattle.std.proofs.lemmas.Option.{get_or_from_slice_get, slice_get_within}
use Rattle.std.proofs.Math.Seq.{drop-append_seam, take-length}
use Rattle.gang_model.specs.Types.Tree.{Program}
use Rattle.gang_model.specs.Running.State.{State}
use Rattle.gang_model.specs.Debugger.Debugger.{Debugger, Setting, now}
use Rattle.gang_model.specs.Texts.Text.{Bytes, where_text}
use Rattle.debug_traits.specs.declared.machine.Position.{Position}
use Rattle.debug_traits.specs.Machines.{position_line}
use Rattle.lane_picture.specs.Seen.{state_after}
use Rattle.run_page.specs.declared.moments.Call.{Call}
use Rattle.run_page.specs.declared.moments.Moment.{Moment}
use Rattle.run_page.specs.declared.moments.Stand.{Stand}
use Rattle.run_page.specs.declared.record.Record.{Record}
use Rattle.run_page.specs.Calls.{AreCalls, HasCalls, HaveCalls, IsCallOf, NotesCalls, StandsNamed, calls_at, lines_of, open_calls}
use Rattle.run_page.specs.Names.{GrowsNames, names_view}
use Rattle.run_page.proofs.Places.{get_before}
use Rattle.run_page.proofs.RowsRead.{zip_push}

-- ---- names

-- no name more, and more after more
pub names_none : (names : List Bytes) → GrowsNames names names
names_none names = ([], sym (append-nil names))

pub names_on : (old middle new : List Bytes) → GrowsNames old middle → GrowsNames middle new → GrowsNames old new
names_on old middle new (a, is_a) (b, is_b) = (a ++ b, is_b ∙ ap (λ xs. xs ++ b) is_a ∙ append_assoc old a b)

name_stays : (old new : List Bytes) → GrowsNames old new → (k : ℕ) (name : Bytes) → slice_get old k ≡ Some name → slice_get new k ≡ Some name
name_stays old new (more, is) k name here = ap (λ xs. slice_get xs k) is ∙ get_before old more k name here

-- where a moment stands, and its calls, are told where more functions have numbers
stand_stays : (old new : List Bytes) → GrowsNames old new → (text : Bytes) (stand : Option Stand) → StandsNamed old text stand → StandsNamed new text stand
stand_stays old new grows text None stands = stands
stand_stays old new grows text (Some stand) (position, is, own) =
    (position, is, record { place = own.place; name = name_stays old new grows stand.function position.function.now own.name; depth = own.depth; lanes = own.lanes })

pub calls_stay : (old new : List Bytes) → GrowsNames old new → (calls : List Call) (lines : List Bytes) → AreCalls old calls lines → AreCalls new calls lines
calls_stay old new grows [] [] are = are
calls_stay old new grows [] (line ∷ lines) are = absurd are
calls_stay old new grows (call ∷ calls) [] are = absurd are
calls_stay old new grows (call ∷ calls) (line ∷ lines) ((position, is, place, name), are) =
    ((position, is, place, name_stays old new grows call.function position.function.now name), calls_stay old new grows calls lines are)

-- no call more
pub no_call : (names : List Bytes) (position : Option Position) → position ≡ None → (calls : List Call) (lines : List Bytes) → AreCalls names calls lines → AreCalls names calls (lines ++ lines_of (position_line position))
no_call names position is calls lines are = subst (λ p. AreCalls names calls (lines ++ lines_of (position_line p))) (sym is) (subst (AreCalls names calls) (sym (append-nil lines)) are)

-- one call more
pub one_call : (old new : List Bytes) → GrowsNames old new → (given : Option Position) (position : Position) → given ≡ Some position → (calls more : List Call) (call : Call) → more ≡ calls ++ call ∷ []
    → call.place ≡ position.place → slice_get new call.function ≡ Some position.function.now → (lines : List Bytes) → AreCalls old calls lines → AreCalls new more (lines ++ lines_of (position_line given))
one_call old new grows given position is calls more call behind place name lines are =
    let own : IsCallOf new call (position_line (Some position)) = (position, refl, place, name) in
    subst (λ p. AreCalls new more (lines ++ lines_of (position_line p))) (sym is)
    (subst (λ calls. AreCalls new calls (lines ++ position_line (Some position) ∷ [])) (sym behind) (zip_push (IsCallOf new) calls lines call (position_line (Some position)) (calls_stay old new grows calls lines are) own))

-- ---- what two lists have in common at their fronts

pub common_more : (left right : List Call) (k : ℕ) (d : Call) → k < length left → slice_get right k ≡ Some (get_or left k d) → take k left ≡ take k right → (take (k + 1) left ≡ take (k + 1) right) × (k + 1 ≤ length right)
common_more left right k d inside has same =
    let within : k < length right = slice_get_within right k (get_or left k d) has in (
      take_more left k d inside ∙ ap (λ xs. xs ++ get_or left k d ∷ []) same ∙ ap (λ x. take k right ++ x ∷ []) (sym (get_or_from_slice_get right k (get_or left k d) d has)) ∙ sym (take_more right k d within),
      omega (arith, within),
    )

-- ---- moments

-- a moment's calls are the same where others stand behind those of all moments
calls_kept : (before all more : List Call) (moment : Moment) → moment.first_call ≤ moment.end_of_calls → moment.end_of_calls ≤ length all → calls_at before (all ++ more) moment ≡ calls_at before all moment
calls_kept before all more moment order inside =
    let from = moment.first_call in
    let count = moment.end_of_calls - from in
    let start : from ≤ length all = omega (arith, order, inside) in
    let room : count ≤ length (drop from all) = omega (arith, length-drop from all, inside) in
    ap (λ own. take moment.kept_calls before ++ own) (ap (take count) (drop-append-le from all more start) ∙ take-append-le count (drop from all) more room)

-- those that a moment adds are its own
pub own_calls : (before calls old new : List Call) (moment : Moment) → take moment.kept_calls before ≡ take moment.kept_calls calls → new ≡ old ++ drop moment.kept_calls calls
    → moment.first_call ≡ length old → moment.end_of_calls ≡ length new → calls_at before new moment ≡ calls
own_calls before calls old new moment same is from to =
    let more = drop moment.kept_calls calls in
    let long : length new ≡ length old + length more = ap length is ∙ length-append old more in
    let count : moment.end_of_calls - moment.first_call ≡ length more = omega (arith, from, to, long) in
    let rest : drop moment.first_call new ≡ more = ap (λ n. drop n new) from ∙ ap (drop (length old)) is ∙ drop-append_seam old more in
    let own : take (moment.end_of_calls - moment.first_call) (drop moment.first_call new) ≡ more = ap (take (moment.end_of_calls - moment.first_call)) rest ∙ ap (λ n. take n more) count ∙ take-length more in
    ap (λ front. front ++ take (moment.end_of_calls - moment.first_call) (drop moment.first_call new)) same ∙ ap (λ own. take moment.kept_calls calls ++ own) own ∙ take-append-drop moment.kept_calls calls

module _ (p : Program) where
  has_stays : (old new : List Bytes) → GrowsNames old new → (before all more : List Call) (state : State) (moment : Moment) → HasCalls p old before all state moment → HasCalls p new before (all ++ more) state moment
  has_stays old new grows before all more state moment has = record {
    stand = stand_stays old new grows (where_text p state) moment.stand has.stand;
    order = has.order;
    inside = omega (arith, has.inside, length-append all more);
    calls = subst (λ calls. AreCalls new calls (open_calls p state)) (sym (calls_kept before all more moment has.order has.inside)) (calls_stay old new grows (calls_at before all moment) (open_calls p state) has.calls);
  }

  have_stay : (old new : List Bytes) → GrowsNames old new → (before all more : List Call) (first : State) (moments : List Moment) → HaveCalls p old before all first moments → HaveCalls p new before (all ++ more) first moments
  have_stay old new grows before all more first [] have = tt
  have_stay old new grows before all more first (moment ∷ moments) have = (
    has_stays old new grows before all more (state_after p moment.taken first) moment have.0,
    subst (λ before. HaveCalls p new before (all ++ more) first moments) (sym (calls_kept before all more moment have.0.order have.0.inside))
        (have_stay old new grows (calls_at before all moment) all more first moments have.1),
  )

  -- the calls of the last moment
  pub last_calls : (before all : List Call) → List Moment → List Call
  last_calls before all [] = before
  last_calls before all (moment ∷ moments) = last_calls (calls_at before all moment) all moments

  last_stay : (names : List Bytes) (before all more : List Call) (first : State) (moments : List Moment) → HaveCalls p names before all first moments → last_calls before (all ++ more) moments ≡ last_calls before all moments
  unfolding last_calls
  last_stay names before all more first [] have = refl
  last_stay names before all more first (moment ∷ moments) have =
      ap (λ before. last_calls before (all ++ more) moments) (calls_kept before all more moment have.0.order have.0.inside)
      ∙ last_stay names (calls_at before all moment) all more first moments have.1

  with_calls : (names : List Bytes) (before all : List Call) (first : State) (moments : List Moment) (moment : Moment) → HaveCalls p names before all first moments
      → HasCalls p names (last_calls before all moments) all (state_after p moment.taken first) moment → HaveCalls p names before all first (moments ++ moment ∷ [])
  unfolding last_calls
  with_calls names before all first [] moment have has = (has, tt)
  with_calls names before all first (one ∷ moments) moment have has = (have.0, with_calls names (calls_at before all one) all first moments moment have.1 has)

  last_with : (before all : List Call) (moments : List Moment) (moment : Moment) → last_calls before all (moments ++ moment ∷ []) ≡ calls_at (last_calls before all moments) all moment
  unfolding last_calls
  last_with before all [] moment = refl
  last_with before all (first ∷ moments) moment = last_with (calls_at before all first) all moments moment

-- the places and calls of the moments so far, and the calls of the last one
pub record CallsSoFar (p : Program) (first : State) (kept : Record) (calls : List Call) : Type 0 where
  pub have : HaveCalls p (names_view kept.functions.items) [] kept.calls.items first kept.moments.items
  pub last : last_calls p [] kept.calls.items kept.moments.items ≡ calls

pub no_calls : (p : Program) (first : State) (kept : Record) (calls : List Call) → kept.moments.items ≡ [] → calls ≡ [] → CallsSoFar p first kept calls
unfolding last_calls
no_calls p first kept calls none empty = record {
  have = subst (HaveCalls p (names_view kept.functions.items) [] kept.calls.items first) (sym none) tt;
  last = ap (last_calls p [] kept.calls.items) none ∙ sym empty;
}

pub calls_more : (s : Setting) (e : Debugger) (first : State) (taken : ℕ) (old new : Record) (old_calls new_calls : List Call) → now s e ≡ state_after s.program taken first
    → NotesCalls s e taken old_calls old new new_calls → CallsSoFar s.program first old old_calls → CallsSoFar s.program first new new_calls
calls_more s e first taken old new old_calls new_calls stood notes so =
    let p = s.program in
    let names = names_view new.functions.items in
    let all = new.calls.items in
    let moments = old.moments.items in
    let reached : now s e ≡ state_after p notes.moment.taken first = stood ∙ ap (λ n. state_after p n first) (sym notes.taken_is) in
    let stay : HaveCalls p names [] all first moments =
    subst (λ all. HaveCalls p names [] all first moments) (sym notes.all) (have_stay p (names_view old.functions.items) names notes.names [] old.calls.items notes.more first moments so.have) in
    let last : last_calls p [] all moments ≡ old_calls =
    ap (λ all. last_calls p [] all moments) notes.all ∙ last_stay p (names_view old.functions.items) [] old.calls.items notes.more first moments so.have ∙ so.last in
    let has : HasCalls p names (last_calls p [] all moments) all (state_after p notes.moment.taken first) notes.moment =
    subst (λ state. HasCalls p names (last_calls p [] all moments) all state notes.moment) reached (subst (λ before. HasCalls p names before all (now s e) notes.moment) (sym last) notes.has) in
    record {
      have = subst (HaveCalls p names [] all first) (sym notes.behind) (with_calls p names [] all first moments notes.moment stay has);
      last = ap (last_calls p [] all) notes.behind ∙ last_with p [] all moments notes.moment ∙ ap (λ before. calls_at before all notes.moment) last ∙ notes.same;
    }

-- what a moment that is noted has
pub calls_noted : (s : Setting) (d : Debugger) (taken : ℕ) (before : List Call) (old new : Record) (calls : List Call) (moment : Moment) (middle : List Bytes) → new.moments.items ≡ old.moments.items ++ moment ∷ [] → moment.taken ≡ taken
    → GrowsNames (names_view old.functions.items) middle → GrowsNames middle (names_view new.functions.items) → StandsNamed middle (where_text s.program (now s d)) moment.stand
    → AreCalls (names_view new.functions.items) calls (open_calls s.program (now s d)) → take moment.kept_calls before ≡ take moment.kept_calls calls → new.calls.items ≡ old.calls.items ++ drop moment.kept_calls calls
    → moment.first_call ≡ length old.calls.items → moment.end_of_calls ≡ length new.calls.items → NotesCalls s d taken before old new calls
calls_noted s d taken before old new calls moment middle behind is first second stands are same all from to =
    let names = names_view new.functions.items in
    let own = own_calls before calls old.calls.items new.calls.items moment same all from to in
    let long : length new.calls.items ≡ length old.calls.items + length (drop moment.kept_calls calls) = ap length all ∙ length-append old.calls.items (drop moment.kept_calls calls) in
    record {
      moment = moment;
      behind = behind;
      taken_is = is;
      has = record {
        stand = stand_stays middle names second (where_text s.program (now s d)) moment.stand stands;
        order = omega (arith, from, to, long);
        inside = omega (arith, to);
        calls = subst (λ calls. AreCalls names calls (open_calls s.program (now s d))) (sym own) are;
      };
      names = names_on (names_view old.functions.items) middle names first second;
      more = drop moment.kept_calls calls;
      all = all;
      same = own;
    }
