-- An expression that a written one of at most 256 operators, calls and indexings stands for finds room.
use Rattle.std.proofs.Common.{◌≡◌, refl, sym, subst, ℕ, suc, ◌+◌, ◌*◌, ◌≤◌, max, Bool, true, false, List, [], ◌∷◌, arith, inl, inr, ◌⊎◌}
use Rattle.std.specs.Prelude.{codes, length, Option, Some, None, if◌then◌else◌}
use Rattle.gang_types.specs.declared.types.IntType.{IntType}
use Rattle.gang_types.specs.declared.types.IntType.TheVariants as t
use Rattle.gang_types.specs.declared.types.Rate.{Rate}
use Rattle.gang_types.specs.declared.types.Rate.TheVariants.{Uniform, Varying}
use Rattle.gang_types.specs.declared.places.Place.{Place}
use Rattle.gang_types.specs.declared.operators.BinaryOp.{BinaryOp}
use Rattle.gang_types.specs.declared.operators.BinaryOp.TheVariants as op
use Rattle.gang_types.specs.declared.operators.UnaryOp.{UnaryOp}
use Rattle.gang_types.specs.declared.operators.UnaryOp.TheVariants.{Negate, Plus, Not, Complement}
use Rattle.gang_types.specs.Values.{is_bool}
use Rattle.gang_model.specs.declared.forms.Infix.{Infix}
use Rattle.gang_model.specs.declared.forms.Infix.TheVariants.{Op, AndAlso, OrElse}
use Rattle.gang_model.specs.declared.refusals.RefusalNumber.TheVariants.{S8}
use Rattle.gang_model.specs.Source.Names.{same_text}
use Rattle.gang_model.specs.Source.Parsed.{Name, ParsedExpr, ParsedNumber, ParsedBool, ParsedName, ParsedIndex, ParsedCall, ParsedParen, ParsedUnary, ParsedCast, ParsedBinary, ParsedChoice, ParsedArgs, ParsedEnd, ParsedValue, ParsedPart, ParsedPartFrom}
use Rattle.gang_model.specs.Source.Spells.{weight, args_weight, max_weight}
use Rattle.gang_model.specs.Source.Judged.{Judged, Sound, Faulty, unless, both, ◌>>=◌, refused, fault_if}
use Rattle.gang_model.proofs.JudgedLaws.{OnSound, on_any, on_then, on_both, on_unless, on_pair, on_if}
use Rattle.gang_model.specs.Types.Tree.{Expr, Number, ProgramIndex, ProgramCount, LaneMask, Read, Convert, OfOne, PopCount, PopCountLanes}
use Rattle.gang_model.specs.Types.Signatures.{declared_type}
use Rattle.gang_model.specs.Types.Conversions.{Typed, typed, joined, promoted, same_type, as_type, as_bool, operation_type, right_operand, infixed, prefixed, chosen_by}
use Rattle.gang_model.specs.Types.LibraryTable.{LibraryCall, GivesLanes, ReducesTruths, ReducesNumbers, ComparesLanes, Scans, CountsOnes, TakesMagnitude, ComparesTwo, Broadcasts, Extracts, Inserts, Rotates, Shifts, Shuffles, ShufflesTwo, Clamps, Selects, asked_by, library_call, library_value, truths_reduced, number_type}
use Rattle.gang_model.specs.Types.Typing.{Entry, Scope, entry_of, named_entry, array_of, names_no_value, has_no_value, built_in_value, name_value, element, element_faults, cast_faults, cast_rate, cast_to, var_of, truth_value, Passing, Scalar, View, Reference, or_built_in, referred, passed, viewed, view_index, all_values, one_value, second_parts, rate_faults, typed_or_refused, call_value, called_value, expression, arguments}
use Rattle.expression_runs.specs.Room.{depth, nesting, HasRoom}
use Rattle.expression_code.specs.Accepted.{IsAccepted}

-- an expression finds the room that one of this weight takes
pub record Fits (w : ℕ) (e : Expr) : Type 0 where
  pub few_vectors : depth e ≤ 2 * w + 1
  pub few_masks : nesting e ≤ w

-- so does a typed one
abbrev FitsIn : ℕ → Typed → Type 0
FitsIn w x = Fits w x.expr

leaf : (e : Expr) → depth e ≡ 1 → nesting e ≡ 0 → Fits 0 e
leaf e one none = record { few_vectors = omega (arith, one); few_masks = omega (arith, none) }

-- with more weight it finds room too
lighter : (v w : ℕ) (e : Expr) → v ≤ w → Fits v e → Fits w e
lighter v w e h u = record { few_vectors = omega (arith, h, u.few_vectors); few_masks = omega (arith, h, u.few_masks) }

converted_if : (b : Bool) (w : ℕ) (e : Expr) (from to : IntType) → Fits w e → Fits w (if b then e else Convert from to e)
converted_if true w e from to u = u
converted_if false w e from to u = record { few_vectors = u.few_vectors; few_masks = u.few_masks }

-- a conversion takes no room
as_type-fits : (type : IntType) (w : ℕ) (e : Typed) → FitsIn w e → Fits w (as_type type e)
as_type-fits type w e u = converted_if (same_type e.type type) w e.expr e.type type u

right_operand-fits : (operation : BinaryOp) (type : IntType) (w : ℕ) (e : Typed) → FitsIn w e → Fits w (right_operand operation type e)
right_operand-fits op.Shl type w e u = u
right_operand-fits op.Shr type w e u = u
right_operand-fits operation type w e u = as_type-fits type w e u

-- ---- operations

-- an operation on one operand
one-fits : (w v : ℕ) (e a : Expr) → v ≤ w → Fits v a → depth e ≡ depth a → nesting e ≡ nesting a → Fits (suc w) e
one-fits w v e a h u d n = record { few_vectors = omega (arith, h, u.few_vectors, d); few_masks = omega (arith, h, u.few_masks, n) }

-- on two, the second kept above the first
two-fits : (w v u : ℕ) (e a b : Expr) → v + u ≤ w → Fits v a → Fits u b → depth e ≡ max (depth a) (suc (depth b)) → nesting e ≤ max (nesting a) (suc (nesting b)) → Fits (suc w) e
two-fits w v u e a b h p q d n = record {
  few_vectors = omega (arith, h, d, p.few_vectors, q.few_vectors);
  few_masks = omega (arith, h, n, p.few_masks, q.few_masks);
}

three-fits : (w v u z : ℕ) (e a b c : Expr) → v + u + z ≤ w → Fits v a → Fits u b → Fits z c → depth e ≡ max (depth a) (max (suc (depth b)) (suc (suc (depth c))))
    → nesting e ≤ max (nesting a) (suc (max (nesting b) (nesting c))) → Fits (suc w) e
three-fits w v u z e a b c h p q r d n = record {
  few_vectors = omega (arith, h, d, p.few_vectors, q.few_vectors, r.few_vectors);
  few_masks = omega (arith, h, n, p.few_masks, q.few_masks, r.few_masks);
}

-- `clamp`, the larger of two and then the lesser of that and a third
clamp-fits : (w v u z : ℕ) (e a b c : Expr) → v + u + z ≤ w → Fits v a → Fits u b → Fits z c → depth e ≡ max (max (depth a) (suc (depth b))) (suc (depth c))
    → nesting e ≡ max (max (nesting a) (nesting b)) (nesting c) → Fits (suc w) e
clamp-fits w v u z e a b c h p q r d n = record {
  few_vectors = omega (arith, h, d, p.few_vectors, q.few_vectors, r.few_vectors);
  few_masks = omega (arith, h, n, p.few_masks, q.few_masks, r.few_masks);
}

infixed-fits : (between : Infix) (v w : ℕ) (a b : Typed) → FitsIn v a → FitsIn w b → FitsIn (suc (v + w)) (infixed between a b)
infixed-fits (Op operation) v w a b p q =
    let type = operation_type operation a.type b.type in
    two-fits (v + w) v w _ (as_type type a) (right_operand operation type b) (omega arith) (as_type-fits type v a p) (right_operand-fits operation type w b q) refl (omega arith)
infixed-fits AndAlso v w a b p q = two-fits (v + w) v w _ (as_bool a) (as_bool b) (omega arith) (as_type-fits t.Bool v a p) (as_type-fits t.Bool w b q) refl (omega arith)
infixed-fits OrElse v w a b p q = two-fits (v + w) v w _ (as_bool a) (as_bool b) (omega arith) (as_type-fits t.Bool v a p) (as_type-fits t.Bool w b q) refl (omega arith)

prefixed-fits : (op : UnaryOp) (w : ℕ) (a : Typed) → FitsIn w a → FitsIn (suc w) (prefixed op a)
prefixed-fits Not w a u = one-fits w w _ (as_bool a) (omega arith) (as_type-fits t.Bool w a u) refl refl
prefixed-fits Negate w a u = one-fits w w _ (as_type (promoted a.type) a) (omega arith) (as_type-fits (promoted a.type) w a u) refl refl
prefixed-fits Plus w a u = one-fits w w _ (as_type (promoted a.type) a) (omega arith) (as_type-fits (promoted a.type) w a u) refl refl
prefixed-fits Complement w a u = one-fits w w _ (as_type (promoted a.type) a) (omega arith) (as_type-fits (promoted a.type) w a u) refl refl

chosen_by-fits : (u v w : ℕ) (c a b : Typed) → FitsIn u c → FitsIn v a → FitsIn w b → FitsIn (suc (u + v + w)) (chosen_by c a b)
chosen_by-fits u v w c a b p q r =
    let type = joined a.type b.type in
    three-fits (u + v + w) u v w _ (as_bool c) (as_type type a) (as_type type b) (omega arith) (as_type-fits t.Bool u c p) (as_type-fits type v a q) (as_type-fits type w b r) refl (omega arith)

-- a cast is one operator
cast-fits : (p : Place) (rate : Option Rate) (type : Option IntType) (w : ℕ) (e : Typed) → FitsIn w e → OnSound (cast_to p rate type e) (FitsIn (suc w))
cast-fits p rate type w e u =
    on_unless (cast_faults p type e.rate (cast_rate rate e.rate)) _ (FitsIn (suc w)) (lighter w (suc w) (as_type (declared_type type) e) (omega arith) (as_type-fits (declared_type type) w e u))

element-fits : (w : ℕ) (i : Typed) (n : Option Entry) → FitsIn w i → FitsIn (suc w) (element i n)
element-fits w i None u = lighter w (suc w) i.expr (omega arith) u
element-fits w i (Some n) u = one-fits w w _ i.expr (omega arith) u refl refl

built_in-fits : (p : Place) (b c : Bool) → OnSound (built_in_value p (if b then Some (ProgramIndex, Varying) else (if c then Some (ProgramCount, Uniform) else None))) (FitsIn 0)
built_in-fits p true c = leaf ProgramIndex refl refl
built_in-fits p false true = leaf ProgramCount refl refl
built_in-fits p false false = tt

name-fits : (p : Place) (name : Name) (n : Option Entry) → OnSound (name_value p name n) (FitsIn 0)
name-fits p name (Some n) = on_unless (fault_if (has_no_value n) S8 p) _ (FitsIn 0) (leaf (Read (var_of n.variable)) refl refl)
name-fits p name None = built_in-fits p (same_text name (codes "programIndex")) (same_text name (codes "programCount"))

-- ---- library calls

-- the weights of values, at most so much together
abbrev AllFit : ℕ → List Typed → Type 0
AllFit w [] = Unit {0}
AllFit w (x ∷ xs) = (v : ℕ) × (u : ℕ) × (v + u ≤ w) × FitsIn v x × AllFit u xs

counted : (b : Bool) (w : ℕ) (a : Typed) → FitsIn w a → FitsIn (suc w) (if b then truths_reduced PopCountLanes a else typed (OfOne PopCount a.type a.expr) t.Int32 a.rate)
counted true w a u = one-fits w w _ (as_bool a) (omega arith) (as_type-fits t.Bool w a u) refl refl
counted false w a u = one-fits w w _ a.expr (omega arith) u refl refl

library-fits : (p : Place) (call : LibraryCall) (w : ℕ) (values : List Typed) → AllFit w values → OnSound (typed_or_refused p (library_value call values)) (FitsIn (suc w))
library-fits p GivesLanes w [] u = lighter 0 (suc w) LaneMask (omega arith) (leaf LaneMask refl refl)
library-fits p (ReducesTruths f) w (a ∷ []) (v, u, h, x, rest) = one-fits w v _ (as_bool a) (omega (arith, h)) (as_type-fits t.Bool v a x) refl refl
library-fits p (ReducesNumbers f) w (a ∷ []) (v, u, h, x, rest) = one-fits w v _ (as_type (promoted a.type) a) (omega (arith, h)) (as_type-fits (promoted a.type) v a x) refl refl
library-fits p ComparesLanes w (a ∷ []) (v, u, h, x, rest) = one-fits w v _ a.expr (omega (arith, h)) x refl refl
library-fits p (Scans f) w (a ∷ []) (v, u, h, x, rest) = one-fits w v _ (as_type (promoted a.type) a) (omega (arith, h)) (as_type-fits (promoted a.type) v a x) refl refl
library-fits p CountsOnes w (a ∷ []) (v, u, h, x, rest) = counted (is_bool a.type) w a (lighter v w a.expr (omega (arith, h)) x)
library-fits p TakesMagnitude w (a ∷ []) (v, u, h, x, rest) = one-fits w v _ (as_type (promoted a.type) a) (omega (arith, h)) (as_type-fits (promoted a.type) v a x) refl refl
library-fits p (ComparesTwo f) w (a ∷ b ∷ []) (v, u, h, x, (z, s, k, y, rest)) =
    let type = number_type a b in
    two-fits w v z _ (as_type type a) (as_type type b) (omega (arith, h, k)) (as_type-fits type v a x) (as_type-fits type z b y) refl (omega arith)
library-fits p Broadcasts w (a ∷ i ∷ []) (v, u, h, x, (z, s, k, y, rest)) = two-fits w v z _ a.expr (as_type t.Int32 i) (omega (arith, h, k)) x (as_type-fits t.Int32 z i y) refl (omega arith)
library-fits p Extracts w (a ∷ i ∷ []) (v, u, h, x, (z, s, k, y, rest)) = two-fits w v z _ a.expr (as_type t.Int32 i) (omega (arith, h, k)) x (as_type-fits t.Int32 z i y) refl (omega arith)
library-fits p Rotates w (a ∷ i ∷ []) (v, u, h, x, (z, s, k, y, rest)) = two-fits w v z _ a.expr (as_type t.Int32 i) (omega (arith, h, k)) x (as_type-fits t.Int32 z i y) refl (omega arith)
library-fits p Shifts w (a ∷ i ∷ []) (v, u, h, x, (z, s, k, y, rest)) = two-fits w v z _ a.expr (as_type t.Int32 i) (omega (arith, h, k)) x (as_type-fits t.Int32 z i y) refl (omega arith)
library-fits p Shuffles w (a ∷ i ∷ []) (v, u, h, x, (z, s, k, y, rest)) = two-fits w v z _ a.expr (as_type t.Int32 i) (omega (arith, h, k)) x (as_type-fits t.Int32 z i y) refl (omega arith)
library-fits p Inserts w (a ∷ i ∷ b ∷ []) (v, u, h, x, (z, s, k, y, (m, n, l, c, rest))) =
    three-fits w v z m _ a.expr (as_type t.Int32 i) (as_type a.type b) (omega (arith, h, k, l)) x (as_type-fits t.Int32 z i y) (as_type-fits a.type m b c) refl (omega arith)
library-fits p ShufflesTwo w (a ∷ b ∷ i ∷ []) (v, u, h, x, (z, s, k, y, (m, n, l, c, rest))) =
    let type = promoted (joined a.type b.type) in
    three-fits w v z m _ (as_type type a) (as_type type b) (as_type t.Int32 i) (omega (arith, h, k, l)) (as_type-fits type v a x) (as_type-fits type z b y) (as_type-fits t.Int32 m i c) refl (omega arith)
library-fits p Clamps w (a ∷ low ∷ high ∷ []) (v, u, h, x, (z, s, k, y, (m, n, l, c, rest))) =
    let type = joined (number_type a low) (promoted high.type) in
    clamp-fits w v z m _ (as_type type a) (as_type type low) (as_type type high) (omega (arith, h, k, l)) (as_type-fits type v a x) (as_type-fits type z low y) (as_type-fits type m high c) refl refl
library-fits p Selects w (c ∷ a ∷ b ∷ []) (v, u, h, x, (z, s, k, y, (m, n, l, d, rest))) =
    let type = joined a.type b.type in
    three-fits w v z m _ (as_bool c) (as_type type a) (as_type type b) (omega (arith, h, k, l)) (as_type-fits t.Bool v c x) (as_type-fits type z a y) (as_type-fits type m b d) refl (omega arith)
library-fits p call w values u = tt

call-fits : (p : Place) (call : Option LibraryCall) (w : ℕ) (values : List (Place × Typed)) → AllFit w (second_parts values) → OnSound (call_value p call values) (FitsIn (suc w))
call-fits p None w values u = tt
call-fits p (Some call) w values u =
    on_then (unless (rate_faults (asked_by call) values) values) _ (λ _. Unit {0}) (FitsIn (suc w)) (on_any (unless (rate_faults (asked_by call) values) values))
    (λ _ _. library-fits p call w (second_parts values) u)

-- ---- arguments

abbrev PassFits : ℕ → Passing → Type 0
PassFits w (Scalar p x) = FitsIn w x
PassFits w passing = Unit {0}

abbrev AllPass : ℕ → List Passing → Type 0
AllPass w [] = Unit {0}
AllPass w (x ∷ xs) = (v : ℕ) × (u : ℕ) × (v + u ≤ w) × PassFits v x × AllPass u xs

abbrev ValuesFit : ℕ → Option (List (Place × Typed)) → Type 0
ValuesFit w None = Unit {0}
ValuesFit w (Some values) = AllFit w (second_parts values)

one_value-fits : (w v u : ℕ) (x : Place × Typed) (values : Option (List (Place × Typed))) → v + u ≤ w → FitsIn v x.1 → ValuesFit u values → ValuesFit w (one_value x values)
one_value-fits w v u x None h p rest = tt
one_value-fits w v u x (Some values) h p rest = (v, u, h, p, rest)

values-fit : (w : ℕ) (given : List Passing) → AllPass w given → ValuesFit w (all_values given)
values-fit w [] h = tt
values-fit w (Scalar p x ∷ given) (v, u, h, fits, rest) = one_value-fits w v u (p, x) (all_values given) h fits (values-fit u given rest)
values-fit w (View p n from ∷ given) h = tt
values-fit w (Reference p n ∷ given) h = tt

called-fits : (p : Place) (name : Name) (w : ℕ) (values : Option (List (Place × Typed))) → ValuesFit w values → OnSound (called_value p name values) (FitsIn (suc w))
called-fits p name w None h = tt
called-fits p name w (Some values) h = call-fits p (library_call name (length values)) w values h

passed-fits : (w : ℕ) (e : ParsedExpr) (n : Option Entry) (value : Judged Typed) → OnSound value (FitsIn w) → OnSound (passed e n value) (PassFits w)
passed-fits w e (Some n) value h = tt
passed-fits w e None (Sound x) h = h
passed-fits w e None (Faulty first others) h = tt

referred-fits : (p : Place) (n : Option Entry) → OnSound (referred p n) (PassFits 0)
referred-fits p None = tt
referred-fits p (Some n) = tt

-- ---- expressions

mutual
  -- an expression finds the room of its weight
  pub expression-fits : (e : ParsedExpr) (scope : Scope) → OnSound (expression e scope) (FitsIn (weight e))
  expression-fits (ParsedNumber p n is_unsigned is_long) scope = leaf (Number n) refl refl
  expression-fits (ParsedBool p b) scope = leaf (Number (truth_value b)) refl refl
  expression-fits (ParsedName p name) scope = name-fits p name (entry_of scope name)
  expression-fits (ParsedIndex p name e) scope =
      on_then (expression e scope) _ (FitsIn (weight e)) (FitsIn (suc (weight e))) (expression-fits e scope)
      (λ i u. on_unless (element_faults p e i (entry_of scope name)) (element i (entry_of scope name)) (FitsIn (suc (weight e))) (element-fits (weight e) i (entry_of scope name) u))
  expression-fits (ParsedCall p name args) scope =
      on_then (arguments args scope) _ (AllPass (args_weight args)) (FitsIn (suc (args_weight args))) (arguments-fit args scope)
      (λ given h. called-fits p name (args_weight args) (all_values given) (values-fit (args_weight args) given h))
  expression-fits (ParsedParen p e) scope =
      on_if (names_no_value (named_entry e scope)) (refused S8 p) (expression e scope) (FitsIn (weight e)) tt (expression-fits e scope)
  expression-fits (ParsedUnary p op e) scope =
      on_then (expression e scope) _ (FitsIn (weight e)) (FitsIn (suc (weight e))) (expression-fits e scope) (λ a u. prefixed-fits op (weight e) a u)
  expression-fits (ParsedCast p rate type e) scope =
      on_then (expression e scope) _ (FitsIn (weight e)) (FitsIn (suc (weight e))) (expression-fits e scope) (λ a u. cast-fits p rate type (weight e) a u)
  expression-fits (ParsedBinary between left right) scope =
      on_pair (expression left scope) (expression right scope) _ (FitsIn (weight left)) (FitsIn (weight right)) (FitsIn (suc (weight left + weight right)))
      (expression-fits left scope) (expression-fits right scope) (λ a b u v. infixed-fits between (weight left) (weight right) a b u v)
  expression-fits (ParsedChoice test first second) scope =
      on_pair (expression test scope) (both (expression first scope) (expression second scope)) _ (FitsIn (weight test)) (λ x. FitsIn (weight first) x.0 × FitsIn (weight second) x.1)
      (FitsIn (suc (weight test + weight first + weight second))) (expression-fits test scope)
      (on_both (expression first scope) (expression second scope) (FitsIn (weight first)) (FitsIn (weight second)) (expression-fits first scope) (expression-fits second scope))
      (λ c x u k. chosen_by-fits (weight test) (weight first) (weight second) c x.0 x.1 u k.0 k.1)

  arguments-fit : (args : ParsedArgs) (scope : Scope) → OnSound (arguments args scope) (AllPass (args_weight args))
  arguments-fit ParsedEnd scope = tt
  arguments-fit (ParsedValue e args) scope =
      on_pair (passed e (array_of (named_entry e scope)) (expression e scope)) (arguments args scope) _ (PassFits (weight e)) (AllPass (args_weight args)) (AllPass (weight e + args_weight args))
      (passed-fits (weight e) e (array_of (named_entry e scope)) (expression e scope) (expression-fits e scope)) (arguments-fit args scope)
      (λ a given h rest. (weight e, args_weight args, omega arith, h, rest))
  arguments-fit (ParsedPart p name args) scope =
      on_pair (referred p (or_built_in name (entry_of scope name))) (arguments args scope) _ (PassFits 0) (AllPass (args_weight args)) (AllPass (args_weight args))
      (referred-fits p (or_built_in name (entry_of scope name))) (arguments-fit args scope) (λ a given h rest. (0, args_weight args, omega arith, h, rest))
  arguments-fit (ParsedPartFrom p name e args) scope =
      on_pair (both (viewed p (entry_of scope name)) (expression e scope >>= view_index e)) (arguments args scope) _ (λ _. Unit {0}) (AllPass (args_weight args)) (AllPass (suc (weight e) + args_weight args))
      (on_any (both (viewed p (entry_of scope name)) (expression e scope >>= view_index e))) (arguments-fit args scope)
      (λ v given h rest. (0, args_weight args, omega arith, tt, rest))

-- ---- within 256

finds : (w : ℕ) (e : Expr) → w ≤ max_weight → Fits w e → HasRoom e
finds w e few u = record { few_vectors = omega (arith, few, u.few_vectors); few_masks = omega (arith, few, u.few_masks) }

-- so does a sound expression of at most 256 operators, calls and indexings
pub light_has_room : (e : ParsedExpr) (scope : Scope) → weight e ≤ max_weight → OnSound (expression e scope) (λ x. HasRoom x.expr)
light_has_room e scope light = found (expression e scope) (expression-fits e scope)
  where
    found : (j : Judged Typed) → OnSound j (FitsIn (weight e)) → OnSound j (λ x. HasRoom x.expr)
    found (Sound x) fits = finds (weight e) x.expr light fits
    found (Faulty first others) fits = tt

pub accepted_has_room : (e : Expr) → IsAccepted e → HasRoom e
accepted_has_room e accepted = go accepted.stands
  where
    fits : FitsIn (weight accepted.written) accepted.value
    fits = subst (λ j. OnSound j (FitsIn (weight accepted.written))) accepted.is_sound (expression-fits accepted.written accepted.scope)

    go : (e ≡ accepted.value.expr) ⊎ ((type : IntType) × (e ≡ as_type type accepted.value)) → HasRoom e
    go (inl is) = subst HasRoom (sym is) (finds (weight accepted.written) accepted.value.expr accepted.light fits)
    go (inr (type, is)) = subst HasRoom (sym is) (finds (weight accepted.written) (as_type type accepted.value) accepted.light (as_type-fits type (weight accepted.written) accepted.value fits))
