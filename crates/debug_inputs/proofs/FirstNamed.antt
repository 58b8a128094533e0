-- The first receiver of a name, one receiver after another.
use Rattle.std.proofs.Common.{◌≡◌, ℕ, List, ◌∷◌, ◌&&◌, Bool, true, false, refl, sym, ap, ◌∙◌, Option, Some, None}
use Rattle.std.specs.Prelude.{if◌then◌else◌, map, filter, not}
use Rattle.std.specs.Option.{option_or}
use Rattle.std.proofs.lemmas.List.Folds.{find-append}
use Rattle.gang_model.specs.Source.Names.{same_text}
use Rattle.gang_model.specs.Texts.InputText as text
use Rattle.gang_model.specs.Types.Tree.{Variable, Global as FileVariable}
use Rattle.debug_inputs.specs.Remaining.{all_receivers, file_receiver, file_receivers, first_named, if_named}

or_assoc : {A : Type 0} (x y z : Option A) → option_or (option_or x y) z ≡ option_or x (option_or y z)
or_assoc None y z = refl
or_assoc (Some a) y z = refl

first_of : (r : text.Receiver) (rs : List text.Receiver) (q : List ℕ) → option_or (if_named r q) (first_named rs q) ≡ first_named (r ∷ rs) q
first_of r rs q = by (same_text r.variable.name q)
  where
    by : (t : Bool) → option_or (if t then Some r else None) (first_named rs q) ≡ (if t then Some r else first_named rs q)
    by true = refl
    by false = refl

-- one more is put in
pub one_added : (old new : Option text.Receiver) (r : text.Receiver) (rs : List text.Receiver) (q : List ℕ) → new ≡ option_or old (if_named r q)
    → option_or new (first_named rs q) ≡ option_or old (first_named (r ∷ rs) q)
one_added old new r rs q is = ap (λ x. option_or x (first_named rs q)) is ∙ (or_assoc old (if_named r q) (first_named rs q) ∙ ap (option_or old) (first_of r rs q))

-- a variable of the file that may have a row comes first
pub one_received : (old new : Option text.Receiver) (g : FileVariable) (gs : List FileVariable) (r : text.Receiver) (q : List ℕ) → Some r ≡ file_receiver g
    → new ≡ option_or old (if_named r q) → option_or new (first_named (file_receivers gs) q) ≡ option_or old (first_named (file_receivers (g ∷ gs)) q)
one_received old new g gs r q may is = one_added old new r (file_receivers gs) q is ∙ ap (λ rs. option_or old (first_named rs q)) (by (text.is_uniform g.variable.rate && not g.variable.is_constant) may)
  where
    by : (t : Bool) → Some r ≡ (if t then Some (text.global_receiver g) else None)
        → r ∷ file_receivers gs ≡ map text.global_receiver (if t then g ∷ filter (λ g. text.is_uniform g.variable.rate && not g.variable.is_constant) gs else filter (λ g. text.is_uniform g.variable.rate && not g.variable.is_constant) gs)
    by true e = let same : r ≡ text.global_receiver g = cc in ap (λ x. x ∷ file_receivers gs) same
    by false e = absurd cc

-- one that may have none is passed
pub one_passed : (g : FileVariable) (gs : List FileVariable) (q : List ℕ) → None ≡ file_receiver g → first_named (file_receivers gs) q ≡ first_named (file_receivers (g ∷ gs)) q
one_passed g gs q may = ap (λ rs. first_named rs q) (by (text.is_uniform g.variable.rate && not g.variable.is_constant) may)
  where
    by : (t : Bool) → None ≡ (if t then Some (text.global_receiver g) else None)
        → file_receivers gs ≡ map text.global_receiver (if t then g ∷ filter (λ g. text.is_uniform g.variable.rate && not g.variable.is_constant) gs else filter (λ g. text.is_uniform g.variable.rate && not g.variable.is_constant) gs)
    by true e = absurd cc
    by false e = refl

-- parameters, then the variables of the file, over none
pub all_named : (start middle end : Option text.Receiver) (parameters : List Variable) (globals : List FileVariable) (q : List ℕ) → start ≡ None
    → middle ≡ option_or start (first_named (map text.parameter_receiver parameters) q) → end ≡ option_or middle (first_named (file_receivers globals) q)
    → end ≡ first_named (all_receivers parameters globals) q
all_named start middle end parameters globals q none first second =
    second ∙ (ap (λ x. option_or x (first_named (file_receivers globals) q)) (first ∙ ap (λ x. option_or x (first_named (map text.parameter_receiver parameters) q)) none)
    ∙ sym (find-append (λ receiver. same_text receiver.variable.name q) (map text.parameter_receiver parameters) (file_receivers globals)))
