-- The variables that an editor is told, one after another.
use Rattle.std.proofs.Common.{◌≡◌, refl, sym, ap, ◌∙◌, ℕ, suc, ◌+◌, Bool, List, [], ◌∷◌, ◌++◌, Option, Some, None, add-one, append_assoc, append-nil}
use Rattle.gang_model.specs.Types.Tree.{Variable}
use Rattle.gang_model.specs.Debugger.Debugger.{Debugger, Setting}
use Rattle.debug_traits.specs.declared.machine.NamedVariable.{NamedVariable}
use Rattle.debug_traits.specs.Frames.{ShowsNamedAt}
use Rattle.adapter_requests.specs.declared.reply.VariableKind.{VariableKind}
use Rattle.adapter_replies.specs.declared.forms.Form.{Form}
use Rattle.adapter_replies.specs.declared.places.Place.{Place}
use Rattle.adapter_replies.specs.References.{within}
use Rattle.adapter_replies.specs.Variables.{ShowsOptionAt, ToldVariable, told_each, told_one}

-- a variable, a lane, an element or a range
abbrev pub made : (name value type : List ℕ) → VariableKind → (is_constant is_read_only : Bool) → Place → ToldVariable
made name value type kind is_constant is_read_only parts =
    record { name = name; value = value; type = type; kind = kind; is_constant = is_constant; is_read_only = is_read_only; parts = parts }

-- ---- one variable

-- two that are alike in each part
pub made_same : {name₁ name₂ value₁ value₂ type₁ type₂ : List ℕ} {kind₁ kind₂ : VariableKind} {constant₁ constant₂ read₁ read₂ : Bool} {parts₁ parts₂ : Place}
    → name₁ ≡ name₂ → value₁ ≡ value₂ → type₁ ≡ type₂ → kind₁ ≡ kind₂ → constant₁ ≡ constant₂ → read₁ ≡ read₂ → parts₁ ≡ parts₂
    → made name₁ value₁ type₁ kind₁ constant₁ read₁ parts₁ ≡ made name₂ value₂ type₂ kind₂ constant₂ read₂ parts₂
made_same {name₁} {name₂} {value₁} {value₂} {type₁} {type₂} {kind₁} {kind₂} {constant₁} {constant₂} {read₁} {read₂} {parts₁} {parts₂} name value type kind constant read parts =
    ap (λ x. made x value₁ type₁ kind₁ constant₁ read₁ parts₁) name
    ∙ ap (λ x. made name₂ x type₁ kind₁ constant₁ read₁ parts₁) value
    ∙ ap (λ x. made name₂ value₂ x kind₁ constant₁ read₁ parts₁) type
    ∙ ap (λ x. made name₂ value₂ type₂ x constant₁ read₁ parts₁) kind
    ∙ ap (λ x. made name₂ value₂ type₂ kind₂ x read₁ parts₁) constant
    ∙ ap (λ x. made name₂ value₂ type₂ kind₂ constant₂ x parts₁) read
    ∙ ap (λ x. made name₂ value₂ type₂ kind₂ constant₂ read₂ x) parts

-- ---- one variable after another

-- a variable that is told by its name, or none
pub named : (s : Setting) (d : Debugger) (deep : ℕ) (given : Option Variable) (told : NamedVariable) → ShowsOptionAt s d deep given (Some told)
    → (v : Variable) × (given ≡ Some v) × ShowsNamedAt s d deep v told
named s d deep None told h = absurd h
named s d deep (Some v) told h = (v, refl, h)

pub unnamed : (s : Setting) (d : Debugger) (deep : ℕ) (given : Option Variable) → ShowsOptionAt s d deep given None → given ≡ None
unnamed s d deep None h = refl
unnamed s d deep (Some v) h = absurd h

module _ (form : Form) (s : Setting) (d : Debugger) (deep : ℕ) (at : ℕ → Place) where
  -- one variable more, of those that are left
  pub told_next : (all old new : List ToldVariable) (number : ℕ) (here rest : List Variable) (v : Variable) (parts : Place) → all ≡ old ++ told_each form s d deep at number here → here ≡ v ∷ rest
      → parts ≡ within (at number) → new ≡ old ++ told_one form s d deep parts v → all ≡ new ++ told_each form s d deep at (number + 1) rest
  told_next all old new number here rest v parts so is where_is more =
      let one = told_one form s d deep (within (at number)) v in
      let others = told_each form s d deep at (suc number) rest in
      so
      ∙ ap (λ vs. old ++ told_each form s d deep at number vs) is
      ∙ sym (append_assoc old one others)
      ∙ ap (λ p. (old ++ told_one form s d deep p v) ++ others) (sym where_is)
      ∙ ap (λ told. told ++ others) (sym more)
      ∙ ap (λ n. new ++ told_each form s d deep at n rest) (sym (add-one number))

  -- none is left
  pub told_last : (all told : List ToldVariable) (number : ℕ) (here : List Variable) → all ≡ told ++ told_each form s d deep at number here → here ≡ [] → told ≡ all
  told_last all told number here so none = sym (so ∙ ap (λ vs. told ++ told_each form s d deep at number vs) none ∙ append-nil told)
