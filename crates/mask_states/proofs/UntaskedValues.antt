-- Values do not look at tasks.
use Rattle.std.proofs.Common.{◌≡◌, refl, ap, ◌∙◌, ℕ, List, [], ◌∷◌, Option, Some, None}
use Rattle.std.specs.Prelude.{Ok, map, not}
use Rattle.gang_types.specs.declared.places.VarId.{VarId}
use Rattle.gang_types.specs.declared.places.VarId.TheVariants.{File, Local}
use Rattle.gang_types.specs.Lanes.{Lanes, lanes_where}
use Rattle.gang_model.specs.Running.Lanes.{try_each, at, holds}
use Rattle.gang_model.specs.Types.Tree.{Expr, Number, ProgramIndex, ProgramCount, LaneMask, Read, Element, Unary, Binary, Convert, And, Or, Choice, Reduce, Scan, OfOne, OfTwo, Extract, Insert, Rotate, Shift, Shuffle, ShuffleTwo, Select, Target, Scalar, ElementOf, Arg, Value, Array, Dimension, RoundsOf, Rows, Tiles, EachLane, EachValue}
use Rattle.gang_model.specs.Running.State.{Frame, State, View, local_words, words_in, local_view, view_of, seen}
use Rattle.gang_model.specs.Running.Value.{value, element}
use Rattle.gang_model.specs.Running.Rounds.{bounds_of, rounds}
use Rattle.gang_model.specs.Running.Step.{initial, Written, ToVar, ToElements, reached, old_values, part, passed}
use Rattle.mask_states.specs.MaskedStep.{untasked_frame, untasked}
use Rattle.mask_states.proofs.ResultLaws.{bind_same}

-- ---- variables and arrays

pub untasked_local_words : (frames : List Frame) (v : VarId) → local_words (map untasked_frame frames) v ≡ local_words frames v
untasked_local_words [] v = refl
untasked_local_words (frame ∷ frames) v = refl

pub untasked_words : (s : State) (v : VarId) → words_in (untasked s) v ≡ words_in s v
untasked_words s (File n) = refl
untasked_words s (Local n) = untasked_local_words s.frames (Local n)

pub untasked_local_view : (frames : List Frame) (v : VarId) → local_view (map untasked_frame frames) v ≡ local_view frames v
untasked_local_view [] v = refl
untasked_local_view (frame ∷ frames) v = refl

pub untasked_view : (s : State) (v : VarId) → view_of (untasked s) v ≡ view_of s v
untasked_view s (File n) = refl
untasked_view s (Local n) = untasked_local_view s.frames (Local n)

pub untasked_element : (s : State) (view : View) (i : ℕ) → element (untasked s) view i ≡ element s view i
untasked_element s view i = refl

-- ---- expressions

pub untasked_value : (e : Expr) (lanes : Lanes) (s : State) → value e lanes (untasked s) ≡ value e lanes s
untasked_value (Number n) lanes s = refl
untasked_value ProgramIndex lanes s = refl
untasked_value ProgramCount lanes s = refl
untasked_value LaneMask lanes s = refl
untasked_value (Read v) lanes s = ap (λ words. Ok (seen v.rate lanes words)) (untasked_words s v.id)
untasked_value (Element array index) lanes s = bind_same (value index lanes (untasked s)) (value index lanes s) _ _ (untasked_value index lanes s)
    (λ i. ap (λ view. try_each lanes (λ k. element s view (at i k))) (untasked_view s array))
untasked_value (Unary op type a) lanes s = bind_same (value a lanes (untasked s)) (value a lanes s) _ _ (untasked_value a lanes s) (λ x. refl)
untasked_value (Binary op type a b) lanes s = bind_same (value a lanes (untasked s)) (value a lanes s) _ _ (untasked_value a lanes s)
    (λ x. bind_same (value b lanes (untasked s)) (value b lanes s) _ _ (untasked_value b lanes s) (λ y. refl))
untasked_value (Convert from to a) lanes s = bind_same (value a lanes (untasked s)) (value a lanes s) _ _ (untasked_value a lanes s) (λ x. refl)
untasked_value (And a b) lanes s = bind_same (value a lanes (untasked s)) (value a lanes s) _ _ (untasked_value a lanes s)
    (λ x. bind_same (value b (lanes_where lanes (holds x)) (untasked s)) (value b (lanes_where lanes (holds x)) s) _ _ (untasked_value b _ s) (λ y. refl))
untasked_value (Or a b) lanes s = bind_same (value a lanes (untasked s)) (value a lanes s) _ _ (untasked_value a lanes s)
    (λ x. bind_same (value b (lanes_where lanes (λ k. not (holds x k))) (untasked s)) (value b (lanes_where lanes (λ k. not (holds x k))) s) _ _ (untasked_value b _ s) (λ y. refl))
untasked_value (Choice c a b) lanes s = bind_same (value c lanes (untasked s)) (value c lanes s) _ _ (untasked_value c lanes s)
    (λ z. bind_same (value a (lanes_where lanes (holds z)) (untasked s)) (value a (lanes_where lanes (holds z)) s) _ _ (untasked_value a _ s)
    (λ x. bind_same (value b (lanes_where lanes (λ k. not (holds z k))) (untasked s)) (value b (lanes_where lanes (λ k. not (holds z k))) s) _ _ (untasked_value b _ s) (λ y. refl)))
untasked_value (Select c a b) lanes s = bind_same (value c lanes (untasked s)) (value c lanes s) _ _ (untasked_value c lanes s)
    (λ z. bind_same (value a lanes (untasked s)) (value a lanes s) _ _ (untasked_value a lanes s)
    (λ x. bind_same (value b lanes (untasked s)) (value b lanes s) _ _ (untasked_value b lanes s) (λ y. refl)))
untasked_value (Reduce f type a) lanes s = bind_same (value a lanes (untasked s)) (value a lanes s) _ _ (untasked_value a lanes s) (λ x. refl)
untasked_value (Scan f type a) lanes s = bind_same (value a lanes (untasked s)) (value a lanes s) _ _ (untasked_value a lanes s) (λ x. refl)
untasked_value (OfOne f type a) lanes s = bind_same (value a lanes (untasked s)) (value a lanes s) _ _ (untasked_value a lanes s) (λ x. refl)
untasked_value (OfTwo f type a b) lanes s = bind_same (value a lanes (untasked s)) (value a lanes s) _ _ (untasked_value a lanes s)
    (λ x. bind_same (value b lanes (untasked s)) (value b lanes s) _ _ (untasked_value b lanes s) (λ y. refl))
untasked_value (Extract a index) lanes s = bind_same (value a lanes (untasked s)) (value a lanes s) _ _ (untasked_value a lanes s)
    (λ x. bind_same (value index lanes (untasked s)) (value index lanes s) _ _ (untasked_value index lanes s) (λ i. refl))
untasked_value (Insert a index new) lanes s = bind_same (value a lanes (untasked s)) (value a lanes s) _ _ (untasked_value a lanes s)
    (λ x. bind_same (value index lanes (untasked s)) (value index lanes s) _ _ (untasked_value index lanes s)
    (λ i. bind_same (value new lanes (untasked s)) (value new lanes s) _ _ (untasked_value new lanes s) (λ y. refl)))
untasked_value (Rotate a by) lanes s = bind_same (value a lanes (untasked s)) (value a lanes s) _ _ (untasked_value a lanes s)
    (λ x. bind_same (value by lanes (untasked s)) (value by lanes s) _ _ (untasked_value by lanes s) (λ n. refl))
untasked_value (Shift a by) lanes s = bind_same (value a lanes (untasked s)) (value a lanes s) _ _ (untasked_value a lanes s)
    (λ x. bind_same (value by lanes (untasked s)) (value by lanes s) _ _ (untasked_value by lanes s) (λ n. refl))
untasked_value (Shuffle a places) lanes s = bind_same (value a lanes (untasked s)) (value a lanes s) _ _ (untasked_value a lanes s)
    (λ x. bind_same (value places lanes (untasked s)) (value places lanes s) _ _ (untasked_value places lanes s) (λ p. refl))
untasked_value (ShuffleTwo a b places) lanes s = bind_same (value a lanes (untasked s)) (value a lanes s) _ _ (untasked_value a lanes s)
    (λ x. bind_same (value b lanes (untasked s)) (value b lanes s) _ _ (untasked_value b lanes s)
    (λ y. bind_same (value places lanes (untasked s)) (value places lanes s) _ _ (untasked_value places lanes s) (λ p. refl)))

pub untasked_initial : (init : Option Expr) (lanes : Lanes) (s : State) → initial init lanes (untasked s) ≡ initial init lanes s
untasked_initial None lanes s = refl
untasked_initial (Some e) lanes s = untasked_value e lanes s

-- ---- targets

pub untasked_reached : (target : Target) (lanes : Lanes) (s : State) → reached target lanes (untasked s) ≡ reached target lanes s
untasked_reached (Scalar v) lanes s = refl
untasked_reached (ElementOf array rate index) lanes s = bind_same (value index lanes (untasked s)) (value index lanes s) _ _ (untasked_value index lanes s)
    (λ i. ap (λ view. Ok (ToElements view i)) (untasked_view s array))

pub untasked_old_values : (written : Written) (lanes : Lanes) (s : State) → old_values written lanes (untasked s) ≡ old_values written lanes s
untasked_old_values (ToVar v) lanes s = ap (λ words. Ok (seen v.rate lanes words)) (untasked_words s v.id)
untasked_old_values (ToElements view indices) lanes s = refl

-- ---- calls

pub untasked_part : (from : Option Expr) (view : View) (lanes : Lanes) (s : State) → part from view lanes (untasked s) ≡ part from view lanes s
untasked_part None view lanes s = refl
untasked_part (Some from) view lanes s = bind_same (value from lanes (untasked s)) (value from lanes s) _ _ (untasked_value from lanes s) (λ i. refl)

-- a part of the array that a name stands for
pub untasked_part_of : (from : Option Expr) (array : VarId) (lanes : Lanes) (s : State) → part from (view_of (untasked s) array) lanes (untasked s) ≡ part from (view_of s array) lanes s
untasked_part_of from array lanes s = ap (λ view. part from view lanes (untasked s)) (untasked_view s array) ∙ untasked_part from (view_of s array) lanes s

pub untasked_passed : (args : List Arg) (lanes : Lanes) (s : State) → passed args lanes (untasked s) ≡ passed args lanes s
untasked_passed [] lanes s = refl
untasked_passed (Value v e ∷ args) lanes s = bind_same (value e lanes (untasked s)) (value e lanes s) _ _ (untasked_value e lanes s)
    (λ x. bind_same (passed args lanes (untasked s)) (passed args lanes s) _ _ (untasked_passed args lanes s) (λ rest. refl))
untasked_passed (Array parameter array from ∷ args) lanes s =
    bind_same (part from (view_of (untasked s) array) lanes (untasked s)) (part from (view_of s array) lanes s) _ _ (untasked_part_of from array lanes s)
    (λ view. bind_same (passed args lanes (untasked s)) (passed args lanes s) _ _ (untasked_passed args lanes s) (λ rest. refl))

-- ---- rounds

pub untasked_bounds : (ds : List Dimension) (lanes : Lanes) (s : State) → bounds_of ds lanes (untasked s) ≡ bounds_of ds lanes s
untasked_bounds [] lanes s = refl
untasked_bounds (d ∷ ds) lanes s = bind_same (value d.low lanes (untasked s)) (value d.low lanes s) _ _ (untasked_value d.low lanes s)
    (λ low. bind_same (value d.high lanes (untasked s)) (value d.high lanes s) _ _ (untasked_value d.high lanes s)
    (λ high. bind_same (bounds_of ds lanes (untasked s)) (bounds_of ds lanes s) _ _ (untasked_bounds ds lanes s) (λ rest. refl)))

pub untasked_rounds : (form : RoundsOf) (lanes : Lanes) (s : State) → rounds form lanes (untasked s) ≡ rounds form lanes s
untasked_rounds (Rows ds) lanes s = bind_same (bounds_of ds lanes (untasked s)) (bounds_of ds lanes s) _ _ (untasked_bounds ds lanes s) (λ bounds. refl)
untasked_rounds (Tiles ds) lanes s = bind_same (bounds_of ds lanes (untasked s)) (bounds_of ds lanes s) _ _ (untasked_bounds ds lanes s) (λ bounds. refl)
untasked_rounds (EachLane i) lanes s = refl
untasked_rounds (EachValue v e) lanes s = bind_same (value e lanes (untasked s)) (value e lanes s) _ _ (untasked_value e lanes s) (λ x. refl)
