-- Whether a program has ended, by the position that a machine gives; and where the closing brace of a function stands.
use Rattle.std.proofs.Common.{◌≡◌, refl, sym, ap, ◌∙◌, ℕ, suc, ◌-◌, List, [], ◌∷◌, length, map, arith, decimal, Option, Some, None, codes, option_map}
use Rattle.std.specs.Prelude.{◌==◌, is_none, slice_get}
use Rattle.std.proofs.lemmas.Option.{slice_get-map}
use Rattle.gang_types.specs.declared.places.Place.{Place}
use Rattle.gang_types.specs.Lanes.{Lanes}
use Rattle.gang_types.specs.Masks.{lanes_of}
use Rattle.gang_model.specs.Types.Resolved.{standing_with}
use Rattle.gang_model.specs.Types.Tree.{Function, Program, Standing, Variable}
use Rattle.gang_model.specs.Running.State.{Frame}
use Rattle.gang_model.specs.Debugger.Positions.{frame_lanes, frame_spot, standing_at}
use Rattle.gang_model.specs.Texts.Text.{bits, frames_text, line_and_column, standing_text}
use Rattle.debug_traits.specs.declared.machine.Position.{Position}
use Rattle.debug_traits.specs.Machines.{position_text}
use Rattle.ispc_names_table.specs.declared.table.Declaration.{Declaration}
use Rattle.ispc_names_table.specs.declared.table.Standing.{Standing as GivenStanding}
use Rattle.ispc_names_table.specs.Scopes.{standing_view}
use Rattle.adapter_replies.proofs.CallFrames.{other_number, other_words}

-- a standing has not the text of a program that has ended
not_ended : (standing : Option Standing) (f : Option Function) (deep : ℕ) (lanes : Lanes) → standing_text standing f deep lanes ≡ codes "ended" → ⊥
not_ended None f deep lanes e = cc
not_ended (Some standing) None deep lanes e = cc
not_ended (Some standing) (Some f) deep lanes e = other_words (line_and_column standing.place) f.name (decimal deep) (bits lanes) e

-- a program has ended where a machine gives no position
pub ended_given : (p : Program) (frames : List Frame) (at : Option Position) → frames_text p frames ≡ position_text at → is_none at ≡ (length frames == 0)
ended_given p [] None e = refl
ended_given p [] (Some at) e = absurd (other_words (line_and_column at.place) at.function.now (decimal at.depth) (bits (lanes_of at.width at.lanes)) (sym e))
ended_given p (frame ∷ frames) None e = absurd (not_ended (standing_at p (frame_spot p frame)) (slice_get p.functions frame.function) (length (frame ∷ frames)) (frame_lanes frame) e)
ended_given p (frame ∷ frames) (Some at) e = sym (other_number (length (frame ∷ frames)) 0 (omega arith))

-- the places of the definitions' steps are those of the table
places_same : (vs : List Variable) (ds : List Declaration) (ss : List GivenStanding) → map (λ st. st.place) (map (standing_with vs) (map (standing_view ds) ss)) ≡ map (λ (s : GivenStanding). s.place) ss
places_same vs ds [] = refl
places_same vs ds (s ∷ ss) = ap (λ places. s.place ∷ places) (places_same vs ds ss)

lengths_same : (vs : List Variable) (ds : List Declaration) (ss : List GivenStanding) → length (map (standing_with vs) (map (standing_view ds) ss)) ≡ length ss
lengths_same vs ds [] = refl
lengths_same vs ds (s ∷ ss) = ap suc (lengths_same vs ds ss)

-- where the last step stands
pub closing_is : (vs : List Variable) (ds : List Declaration) (ss : List GivenStanding)
    → option_map (λ (st : Standing). st.place) (slice_get (map (standing_with vs) (map (standing_view ds) ss)) (length (map (standing_with vs) (map (standing_view ds) ss)) - 1))
    ≡ option_map (λ (s : GivenStanding). s.place) (slice_get ss (length ss - 1))
closing_is vs ds ss =
    let all = map (standing_with vs) (map (standing_view ds) ss) in
    let last = length ss - 1 in
    ap (λ n. option_map (λ (st : Standing). st.place) (slice_get all (n - 1))) (lengths_same vs ds ss)
    ∙ sym (slice_get-map (λ (st : Standing). st.place) all last)
    ∙ ap (λ places. slice_get places last) (places_same vs ds ss)
    ∙ slice_get-map (λ (s : GivenStanding). s.place) ss last
