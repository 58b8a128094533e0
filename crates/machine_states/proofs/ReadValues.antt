-- The value of an expression depends on the words of the variables that it names and on arrays alone.
use Rattle.std.proofs.Common.{◌≡◌, refl, ap, ◌∙◌, ap₂, ℕ, suc, ◌+◌, ◌<◌, ◌≤◌, Bool, true, false, List, [], ◌∷◌, Option, Some, None, length, arith}
use Rattle.std.specs.Prelude.{Result, Ok, Err, nat_lt, not, if◌then◌else◌}
use Rattle.gang_types.specs.declared.faults.FaultName.{FaultName}
use Rattle.gang_types.specs.declared.faults.FaultName.TheVariants.{Index}
use Rattle.gang_types.specs.declared.places.VarId.{VarId}
use Rattle.gang_types.specs.declared.types.Rate.{Rate}
use Rattle.gang_types.specs.declared.types.Rate.TheVariants.{Uniform, Varying}
use Rattle.gang_types.specs.Lanes.{Lanes, lanes_where}
use Rattle.gang_types.specs.LaneLaws.{length-lanes_where}
use Rattle.gang_model.specs.Running.Lanes.{◌>>=◌, at, each, words_from, holds, in_lane, one_lane, tried_from}
use Rattle.gang_model.specs.Types.Tree.{Var, Expr, Number, ProgramIndex, ProgramCount, LaneMask, Read, Element, Unary, Binary, Convert, And, Or, Choice, Reduce, Scan, OfOne, OfTwo, Extract, Insert, Rotate, Shift, Shuffle, ShuffleTwo, Select, Arg, Value, Array}
use Rattle.gang_model.specs.Running.State.{State, View, view_of, words_in, words_of, seen}
use Rattle.gang_model.specs.Running.Value.{element, value}
use Rattle.gang_model.specs.Running.Step.{initial, part, passed}
use Rattle.mask_states.proofs.ResultLaws.{bind_same}
use Rattle.machine_states.specs.Variables.{Variables, IsArray, IsScalar}
use Rattle.machine_states.specs.WellScoped.{IsWellScopedExpr, IsWellScopedOption, ArgsWellScoped}
use Rattle.machine_states.specs.Declared.{IsThere, NamesDeclared, OptionDeclared, ArgsDeclared}

-- ---- words

-- words that lanes read alike: the first one of a uniform variable, the first w of a varying one
abbrev pub AreReadAlike : (w : ℕ) → Rate → List ℕ → List ℕ → Type 0
AreReadAlike w Uniform words others = at words 0 ≡ at others 0
AreReadAlike w Varying words others = (k : ℕ) → k < w → at words k ≡ at others k

same_words_from : (m : ℕ) (lanes : Lanes) (f g : ℕ → ℕ) → ((k : ℕ) → m ≤ k → k < m + length lanes → f k ≡ g k) → words_from m lanes f ≡ words_from m lanes g
same_words_from m [] f g h = refl
same_words_from m (b ∷ lanes) f g h =
    ap₂ (λ x xs. (if b then x else 0) ∷ xs) (h m (omega arith) (omega arith))
    (same_words_from (suc m) lanes f g (λ k low high. h k (omega (arith, low)) (omega (arith, high))))

pub same_each : (lanes : Lanes) (f g : ℕ → ℕ) → ((k : ℕ) → k < length lanes → f k ≡ g k) → each lanes f ≡ each lanes g
same_each lanes f g h = same_words_from 0 lanes f g (λ k low high. h k (omega (arith, high)))

pub seen_alike : (rate : Rate) (w : ℕ) (lanes : Lanes) (words others : List ℕ) → length lanes ≡ w → AreReadAlike w rate words others → seen rate lanes words ≡ seen rate lanes others
seen_alike Uniform w lanes words others e h = same_each lanes _ _ (λ k within. h)
seen_alike Varying w lanes words others e h = same_each lanes _ _ (λ k within. h k (omega (arith, within, e)))

-- ---- expressions

where_sized : (w : ℕ) (lanes : Lanes) (test : ℕ → _) → length lanes ≡ w → length (lanes_where lanes test) ≡ w
where_sized w lanes test e = length-lanes_where lanes test ∙ e

-- what is tried in each lane depends on each lane alone
tried_same : (k : ℕ) (lanes : Lanes) (f g : ℕ → Result ℕ FaultName) → ((j : ℕ) → f j ≡ g j) → tried_from k lanes f ≡ tried_from k lanes g
tried_same k [] f g h = refl
tried_same k (b ∷ lanes) f g h = ap₂ (λ r rs. r >>= λ x. rs >>= λ xs. Ok (x ∷ xs)) (one_same b) (tried_same (suc k) lanes f g h)
  where
    one_same : (b : Bool) → one_lane b k f ≡ one_lane b k g
    one_same true = ap (in_lane k) (h k)
    one_same false = refl

-- the elements of a part of an array are the same where the arrays are
pub element_same : (s t : State) → ((v : VarId) → words_of s.memory v ≡ words_of t.memory v) → (view : View) (i : ℕ) → element s view i ≡ element t view i
element_same s t same view i = ap (λ ws. if nat_lt i view.len then Ok (at ws (view.first + i)) else Err Index) (same view.array)

-- two states in which each declared scalar is read alike, with the same arrays
module _ (variables : Variables) (n : ℕ) (d : List ℕ) (w : ℕ) (s t : State) (alike : (x : Var) → IsScalar variables n x → IsThere d x.id → AreReadAlike w x.rate (words_in s x.id) (words_in t x.id))
    (same_memory : (v : VarId) → words_of s.memory v ≡ words_of t.memory v) (same_views : (a : VarId) → IsArray variables n a → view_of s a ≡ view_of t a) where
  pub value_agrees : (e : Expr) → IsWellScopedExpr variables n e → NamesDeclared d e → (lanes : Lanes) → length lanes ≡ w → value e lanes s ≡ value e lanes t
  value_agrees (Number m) p h lanes l = refl
  value_agrees ProgramIndex p h lanes l = refl
  value_agrees ProgramCount p h lanes l = refl
  value_agrees LaneMask p h lanes l = refl
  value_agrees (Read x) p h lanes l = ap Ok (seen_alike x.rate w lanes (words_in s x.id) (words_in t x.id) l (alike x p h))
  value_agrees (Element array index) p h lanes l = bind_same (value index lanes s) (value index lanes t) _ _ (value_agrees index p.1 h lanes l)
      (λ x. tried_same 0 lanes _ _ (λ k. ap (λ view. element s view (at x k)) (same_views array p.0) ∙ element_same s t same_memory (view_of t array) (at x k)))
  value_agrees (Unary op type a) p h lanes l = bind_same (value a lanes s) (value a lanes t) _ _ (value_agrees a p h lanes l) (λ x. refl)
  value_agrees (Binary op type a b) p h lanes l = bind_same (value a lanes s) (value a lanes t) _ _ (value_agrees a p.0 h.0 lanes l)
      (λ x. bind_same (value b lanes s) (value b lanes t) _ _ (value_agrees b p.1 h.1 lanes l) (λ y. refl))
  value_agrees (Convert from to a) p h lanes l = bind_same (value a lanes s) (value a lanes t) _ _ (value_agrees a p h lanes l) (λ x. refl)
  value_agrees (And a b) p h lanes l = bind_same (value a lanes s) (value a lanes t) _ _ (value_agrees a p.0 h.0 lanes l)
      (λ x. bind_same (value b (lanes_where lanes (holds x)) s) (value b (lanes_where lanes (holds x)) t) _ _ (value_agrees b p.1 h.1 _ (where_sized w lanes _ l)) (λ y. refl))
  value_agrees (Or a b) p h lanes l = bind_same (value a lanes s) (value a lanes t) _ _ (value_agrees a p.0 h.0 lanes l)
      (λ x. bind_same (value b (lanes_where lanes (λ k. not (holds x k))) s) (value b (lanes_where lanes (λ k. not (holds x k))) t) _ _ (value_agrees b p.1 h.1 _ (where_sized w lanes _ l)) (λ y. refl))
  value_agrees (Choice c a b) p h lanes l = bind_same (value c lanes s) (value c lanes t) _ _ (value_agrees c p.0 h.0 lanes l)
      (λ z. bind_same (value a (lanes_where lanes (holds z)) s) (value a (lanes_where lanes (holds z)) t) _ _ (value_agrees a p.1 h.1 _ (where_sized w lanes _ l))
      (λ x. bind_same (value b (lanes_where lanes (λ k. not (holds z k))) s) (value b (lanes_where lanes (λ k. not (holds z k))) t) _ _ (value_agrees b p.2 h.2 _ (where_sized w lanes _ l)) (λ y. refl)))
  value_agrees (Select c a b) p h lanes l = bind_same (value c lanes s) (value c lanes t) _ _ (value_agrees c p.0 h.0 lanes l)
      (λ z. bind_same (value a lanes s) (value a lanes t) _ _ (value_agrees a p.1 h.1 lanes l)
      (λ x. bind_same (value b lanes s) (value b lanes t) _ _ (value_agrees b p.2 h.2 lanes l) (λ y. refl)))
  value_agrees (Reduce f type a) p h lanes l = bind_same (value a lanes s) (value a lanes t) _ _ (value_agrees a p h lanes l) (λ x. refl)
  value_agrees (Scan f type a) p h lanes l = bind_same (value a lanes s) (value a lanes t) _ _ (value_agrees a p h lanes l) (λ x. refl)
  value_agrees (OfOne f type a) p h lanes l = bind_same (value a lanes s) (value a lanes t) _ _ (value_agrees a p h lanes l) (λ x. refl)
  value_agrees (OfTwo f type a b) p h lanes l = bind_same (value a lanes s) (value a lanes t) _ _ (value_agrees a p.0 h.0 lanes l)
      (λ x. bind_same (value b lanes s) (value b lanes t) _ _ (value_agrees b p.1 h.1 lanes l) (λ y. refl))
  value_agrees (Extract a index) p h lanes l = bind_same (value a lanes s) (value a lanes t) _ _ (value_agrees a p.0 h.0 lanes l)
      (λ x. bind_same (value index lanes s) (value index lanes t) _ _ (value_agrees index p.1 h.1 lanes l) (λ i. refl))
  value_agrees (Insert a index new) p h lanes l = bind_same (value a lanes s) (value a lanes t) _ _ (value_agrees a p.0 h.0 lanes l)
      (λ x. bind_same (value index lanes s) (value index lanes t) _ _ (value_agrees index p.1 h.1 lanes l)
      (λ i. bind_same (value new lanes s) (value new lanes t) _ _ (value_agrees new p.2 h.2 lanes l) (λ y. refl)))
  value_agrees (Rotate a by) p h lanes l = bind_same (value a lanes s) (value a lanes t) _ _ (value_agrees a p.0 h.0 lanes l)
      (λ x. bind_same (value by lanes s) (value by lanes t) _ _ (value_agrees by p.1 h.1 lanes l) (λ m. refl))
  value_agrees (Shift a by) p h lanes l = bind_same (value a lanes s) (value a lanes t) _ _ (value_agrees a p.0 h.0 lanes l)
      (λ x. bind_same (value by lanes s) (value by lanes t) _ _ (value_agrees by p.1 h.1 lanes l) (λ m. refl))
  value_agrees (Shuffle a places) p h lanes l = bind_same (value a lanes s) (value a lanes t) _ _ (value_agrees a p.0 h.0 lanes l)
      (λ x. bind_same (value places lanes s) (value places lanes t) _ _ (value_agrees places p.1 h.1 lanes l) (λ q. refl))
  value_agrees (ShuffleTwo a b places) p h lanes l = bind_same (value a lanes s) (value a lanes t) _ _ (value_agrees a p.0 h.0 lanes l)
      (λ x. bind_same (value b lanes s) (value b lanes t) _ _ (value_agrees b p.1 h.1 lanes l)
      (λ y. bind_same (value places lanes s) (value places lanes t) _ _ (value_agrees places p.2 h.2 lanes l) (λ q. refl)))

  pub initial_agrees : (e : Option Expr) → IsWellScopedOption variables n e → OptionDeclared d e → (lanes : Lanes) → length lanes ≡ w → initial e lanes s ≡ initial e lanes t
  initial_agrees None p h lanes l = refl
  initial_agrees (Some e) p h lanes l = value_agrees e p h lanes l

  pub part_agrees : (from : Option Expr) → IsWellScopedOption variables n from → OptionDeclared d from → (view : View) (lanes : Lanes) → length lanes ≡ w → part from view lanes s ≡ part from view lanes t
  part_agrees None p h view lanes l = refl
  part_agrees (Some e) p h view lanes l = bind_same (value e lanes s) (value e lanes t) _ _ (value_agrees e p h lanes l) (λ x. refl)

  pub passed_agrees : (called k : ℕ) (args : List Arg) → ArgsWellScoped variables n called k args → ArgsDeclared d args → (lanes : Lanes) → length lanes ≡ w → passed args lanes s ≡ passed args lanes t
  passed_agrees called k [] p h lanes l = refl
  passed_agrees called k (Value x e ∷ args) p h lanes l = bind_same (value e lanes s) (value e lanes t) _ _ (value_agrees e p.1 h.0 lanes l)
      (λ y. bind_same (passed args lanes s) (passed args lanes t) _ _ (passed_agrees called (suc k) args p.2 h.1 lanes l) (λ rest. refl))
  passed_agrees called k (Array parameter array from ∷ args) p h lanes l = bind_same (part from (view_of s array) lanes s) (part from (view_of t array) lanes t) _ _
      (ap (λ view. part from view lanes s) (same_views array p.1) ∙ part_agrees from p.2 h.0 (view_of t array) lanes l)
      (λ view. bind_same (passed args lanes s) (passed args lanes t) _ _ (passed_agrees called (suc k) args p.3 h.1 lanes l) (λ rest. refl))
