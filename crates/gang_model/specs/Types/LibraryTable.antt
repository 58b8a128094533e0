-- The library's names, what each asks for and what it gives, as one table
-- (ISPC User's Guide, "The ISPC Standard Library"; the types of results are a choice of this project).
use Rattle.std.specs.Prelude.{ℕ, Bool, ◌&&◌, ◌==◌, List, [], ◌∷◌, map, length, Option, Some, None, codes, if◌then◌else◌}
use Rattle.std.specs.List.{list_any}
use Rattle.gang_types.specs.declared.types.IntType.{IntType}
use Rattle.gang_types.specs.declared.types.IntType.TheVariants as t
use Rattle.gang_types.specs.declared.types.Rate.{Rate}
use Rattle.gang_types.specs.declared.types.Rate.TheVariants.{Uniform, Varying}
use Rattle.gang_types.specs.Values.{is_bool}
use Rattle.gang_model.specs.Running.Library.{sum_type}
use Rattle.gang_model.specs.Source.Names.{same_text}
use Rattle.gang_model.specs.Source.Parsed.{Name}
use Rattle.gang_model.specs.Types.Tree.{LaneMask, Reduce, Scan, ScanOf, ScanAdd, ScanAnd, ScanOr, OfOne, Absolute, PopCount, OfTwo, TwoCall, Lesser, Larger, Extract, Insert, Rotate, Shift, Shuffle, ShuffleTwo, Select, Reduction, AnyLane, AllLanes, NoLane, ReduceAdd, ReduceMin, ReduceMax, ReduceEqual, PopCountLanes, PackMask}
use Rattle.gang_model.specs.Types.Conversions.{Typed, typed, joined, promoted, joined_rate, as_type, as_bool}

-- the library's calls that stand in expressions
pub data LibraryCall : Type 0 where
  -- `lanemask`
  GivesLanes : LibraryCall
  -- over truth values: `any`, `all`, `none` and `packmask`
  ReducesTruths : Reduction → LibraryCall
  -- over numbers: `reduce_add`, `reduce_min`, `reduce_max`
  ReducesNumbers : Reduction → LibraryCall
  -- `reduce_equal`
  ComparesLanes : LibraryCall
  Scans : ScanOf → LibraryCall
  -- `popcnt`, over lanes for a bool and else over bits
  CountsOnes : LibraryCall
  -- `abs`
  TakesMagnitude : LibraryCall
  -- `min` and `max`
  ComparesTwo : TwoCall → LibraryCall
  Broadcasts : LibraryCall
  Extracts : LibraryCall
  Inserts : LibraryCall
  Rotates : LibraryCall
  Shifts : LibraryCall
  Shuffles : LibraryCall
  ShufflesTwo : LibraryCall
  Clamps : LibraryCall
  Selects : LibraryCall

-- every library call that gives a value and stands in expressions, with its name; one name may stand for several calls, that
-- differ in the number of their arguments
abbrev pub library_table : List (Name × LibraryCall)
library_table =
    (codes "any", (ReducesTruths AnyLane))
    ∷ (codes "all", (ReducesTruths AllLanes))
    ∷ (codes "none", (ReducesTruths NoLane))
    ∷ (codes "reduce_add", (ReducesNumbers ReduceAdd))
    ∷ (codes "reduce_min", (ReducesNumbers ReduceMin))
    ∷ (codes "reduce_max", (ReducesNumbers ReduceMax))
    ∷ (codes "reduce_equal", ComparesLanes)
    ∷ (codes "broadcast", Broadcasts)
    ∷ (codes "extract", Extracts)
    ∷ (codes "insert", Inserts)
    ∷ (codes "rotate", Rotates)
    ∷ (codes "shift", Shifts)
    ∷ (codes "shuffle", Shuffles)
    ∷ (codes "shuffle", ShufflesTwo)
    ∷ (codes "exclusive_scan_add", (Scans ScanAdd))
    ∷ (codes "exclusive_scan_and", (Scans ScanAnd))
    ∷ (codes "exclusive_scan_or", (Scans ScanOr))
    ∷ (codes "min", (ComparesTwo Lesser))
    ∷ (codes "max", (ComparesTwo Larger))
    ∷ (codes "clamp", Clamps)
    ∷ (codes "abs", TakesMagnitude)
    ∷ (codes "select", Selects)
    ∷ (codes "popcnt", CountsOnes)
    ∷ (codes "lanemask", GivesLanes)
    ∷ (codes "packmask", (ReducesTruths PackMask))
    ∷ []

-- one value of each lane
abbrev pub one : List Rate
one = Varying ∷ []

-- two values of each lane
abbrev pub two : List Rate
two = Varying ∷ Varying ∷ []

-- three values of each lane
abbrev pub three : List Rate
three = Varying ∷ Varying ∷ Varying ∷ []

-- one value of each lane and a uniform number
abbrev pub one_and_uniform : List Rate
one_and_uniform = Varying ∷ Uniform ∷ []

-- the rates that the arguments of a call may have: where a varying one may stand a uniform one may too
abbrev pub asked_by : LibraryCall → List Rate
asked_by GivesLanes = []
asked_by (ReducesTruths f) = one
asked_by (ReducesNumbers f) = one
asked_by ComparesLanes = one
asked_by (Scans f) = one
asked_by CountsOnes = one
asked_by TakesMagnitude = one
asked_by (ComparesTwo f) = two
asked_by Broadcasts = one_and_uniform
asked_by Extracts = one_and_uniform
asked_by Inserts = Varying ∷ Uniform ∷ Uniform ∷ []
asked_by Rotates = one_and_uniform
asked_by Shifts = one_and_uniform
asked_by Shuffles = two
asked_by ShufflesTwo = three
asked_by Clamps = three
asked_by Selects = three

-- the library's calls that are statements, or stand whole after `=` or `return`
pub data StatementCall : Type 0 where
  Asserts : StatementCall
  PackedStores : StatementCall
  PackedLoads : StatementCall

-- every one of these calls with its name
abbrev pub statement_call_table : List (Name × StatementCall)
statement_call_table =
    (codes "assert", Asserts)
    ∷ (codes "packed_store_active", PackedStores)
    ∷ (codes "packed_load_active", PackedLoads)
    ∷ []

-- whether a name is one of some
abbrev pub is_among : Name → List Name → Bool
is_among name names = list_any (same_text name) names

-- whether a name is that of a library call that stands in expressions
abbrev pub is_library_name : Name → Bool
is_library_name name = is_among name (map (λ entry. entry.0) library_table)

-- the first call of this name and so many arguments in a table
abbrev pub library_call_of : Name → ℕ → List (Name × LibraryCall) → Option LibraryCall
library_call_of name n [] = None
library_call_of name n (entry ∷ entries) =
    if same_text entry.0 name && (length (asked_by entry.1) == n) then Some entry.1 else library_call_of name n entries

-- the library call with this name and so many arguments
abbrev pub library_call : Name → ℕ → Option LibraryCall
library_call name n = library_call_of name n library_table

-- the first call of this name in a table
abbrev pub statement_call_of : Name → List (Name × StatementCall) → Option StatementCall
statement_call_of name [] = None
statement_call_of name (entry ∷ entries) = if same_text entry.0 name then Some entry.1 else statement_call_of name entries

-- the library's statement call of this name
abbrev pub statement_call : Name → Option StatementCall
statement_call name = statement_call_of name statement_call_table

-- the type of a reduction over numbers: a sum is wider than its numbers
abbrev pub reduced_type : Reduction → IntType → IntType
reduced_type ReduceAdd type = sum_type type
reduced_type f type = type

-- the type of a reduction over truth values
abbrev pub truths_type : Reduction → IntType
truths_type PackMask = t.Uint64
truths_type PopCountLanes = t.Int32
truths_type f = t.Bool

-- a reduction over truth values
abbrev pub truths_reduced : Reduction → Typed → Typed
truths_reduced f e = typed (Reduce f t.Bool (as_bool e)) (truths_type f) Uniform

-- a reduction over numbers
abbrev pub numbers_reduced : Reduction → Typed → Typed
numbers_reduced f e = let type = promoted e.type in typed (Reduce f type (as_type type e)) (reduced_type f type) Uniform

-- the type of two numbers: their joined type, where bool counts as int32
abbrev pub number_type : Typed → Typed → IntType
number_type a b = joined (promoted a.type) (promoted b.type)

-- the expression of a library call with these arguments; the second number of a call with an index converts to int32
abbrev pub library_value : LibraryCall → List Typed → Option Typed
library_value GivesLanes [] = Some (typed LaneMask t.Uint64 Uniform)
library_value (ReducesTruths f) (e ∷ []) = Some (truths_reduced f e)
library_value (ReducesNumbers f) (e ∷ []) = Some (numbers_reduced f e)
library_value ComparesLanes (e ∷ []) = Some (typed (Reduce ReduceEqual e.type e.expr) t.Bool Uniform)
library_value (Scans f) (e ∷ []) = let type = promoted e.type in Some (typed (Scan f type (as_type type e)) type Varying)
library_value CountsOnes (e ∷ []) = Some (if is_bool e.type then truths_reduced PopCountLanes e else typed (OfOne PopCount e.type e.expr) t.Int32 e.rate)
library_value TakesMagnitude (e ∷ []) = let type = promoted e.type in Some (typed (OfOne Absolute type (as_type type e)) type e.rate)
library_value (ComparesTwo f) (a ∷ b ∷ []) =
    let type = number_type a b in Some (typed (OfTwo f type (as_type type a) (as_type type b)) type (joined_rate a.rate b.rate))
library_value Broadcasts (e ∷ i ∷ []) = Some (typed (Extract e.expr (as_type t.Int32 i)) e.type Varying)
library_value Extracts (e ∷ i ∷ []) = Some (typed (Extract e.expr (as_type t.Int32 i)) e.type Uniform)
library_value Inserts (e ∷ i ∷ x ∷ []) = Some (typed (Insert e.expr (as_type t.Int32 i) (as_type e.type x)) e.type Varying)
library_value Rotates (e ∷ n ∷ []) = Some (typed (Rotate e.expr (as_type t.Int32 n)) e.type Varying)
library_value Shifts (e ∷ n ∷ []) = Some (typed (Shift e.expr (as_type t.Int32 n)) e.type Varying)
library_value Shuffles (e ∷ places ∷ []) = Some (typed (Shuffle e.expr (as_type t.Int32 places)) e.type Varying)
library_value ShufflesTwo (a ∷ b ∷ places ∷ []) =
    let type = promoted (joined a.type b.type) in
    Some (typed (ShuffleTwo (as_type type a) (as_type type b) (as_type t.Int32 places)) type Varying)
library_value Clamps (e ∷ low ∷ high ∷ []) =
    let type = joined (number_type e low) (promoted high.type) in
    Some (typed (OfTwo Lesser type (OfTwo Larger type (as_type type e) (as_type type low)) (as_type type high)) type (joined_rate e.rate (joined_rate low.rate high.rate)))
library_value Selects (c ∷ a ∷ b ∷ []) =
    let type = joined a.type b.type in
    Some (typed (Select (as_bool c) (as_type type a) (as_type type b)) type (joined_rate c.rate (joined_rate a.rate b.rate)))
library_value call arguments = None
