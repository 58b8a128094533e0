-- What statements and index variables do to the scope, and that leaving it takes back what was declared in it.
use Rattle.std.proofs.Common.{◌≡◌, ℕ, suc, ◌-◌, ◌≤◌, List, [], ◌∷◌, ◌++◌, length, drop, refl, sym, ap, ◌∙◌, arith, append_assoc, length-append}
use Rattle.gang_types.specs.declared.types.IntType.TheVariants as t
use Rattle.gang_types.specs.declared.types.Rate.TheVariants.{Varying}
use Rattle.gang_types.specs.declared.places.VarId.TheVariants.{Local}
use Rattle.gang_model.specs.Source.Parsed.{ParsedDim, ParsedStmt, ParsedEmpty, ParsedBlock, ParsedDeclare, ParsedAssign, ParsedChange, ParsedIncrement, ParsedDoCall, ParsedBreak, ParsedContinue, ParsedReturn, ParsedIf, ParsedIfElse, ParsedWhile, ParsedDo, ParsedFor, ParsedSwitch, ParsedForEach, ParsedForEachActive, ParsedForEachUnique}
use Rattle.gang_model.specs.Types.Typing.{Entry, Scope, index_entry}
use Rattle.gang_model.specs.Types.Statements.{scope_after, index_entries, index_variables}
use Rattle.std.proofs.Math.Seq.{drop-append_seam}

-- some declarations inside others
pub record Extends (outer env : Scope) : Type 0 where
  pub inner : List Entry
  pub is : env ≡ inner ++ outer

pub extends-same : (outer env : Scope) → env ≡ outer → Extends outer env
extends-same outer env e = record { inner = []; is = e }

pub extends-next : (a b c : Scope) → Extends a b → Extends b c → Extends a c
extends-next a b c h k = record {
  inner = k.inner ++ h.inner;
  is = k.is ∙ (ap (λ x. k.inner ++ x) h.is ∙ sym (append_assoc k.inner h.inner a));
}

pub extends-one : (outer env : Scope) (n : Entry) → env ≡ n ∷ outer → Extends outer env
extends-one outer env n e = record { inner = n ∷ []; is = e }

extends_after : (s : ParsedStmt) (e : Scope) (k : ℕ) → Extends e (scope_after s e k)
extends_after ParsedEmpty e k = extends-same e e refl
extends_after (ParsedBlock ss) e k = extends-same e e refl
extends_after (ParsedDeclare p spec at name x) e k = record { inner = _ ∷ []; is = refl }
extends_after (ParsedAssign p target x) e k = extends-same e e refl
extends_after (ParsedChange p target op x) e k = extends-same e e refl
extends_after (ParsedIncrement p target op) e k = extends-same e e refl
extends_after (ParsedDoCall p name args) e k = extends-same e e refl
extends_after (ParsedBreak p) e k = extends-same e e refl
extends_after (ParsedContinue p) e k = extends-same e e refl
extends_after (ParsedReturn p x) e k = extends-same e e refl
extends_after (ParsedIf p x a) e k = extends-same e e refl
extends_after (ParsedIfElse p x a b) e k = extends-same e e refl
extends_after (ParsedWhile p x body) e k = extends-same e e refl
extends_after (ParsedDo body p x) e k = extends-same e e refl
extends_after (ParsedFor p start x update body) e k = extends-same e e refl
extends_after (ParsedSwitch p x segments) e k = extends-same e e refl
extends_after (ParsedForEach p is_tiled dims body) e k = extends-same e e refl
extends_after (ParsedForEachActive p at name body) e k = extends-same e e refl
extends_after (ParsedForEachUnique p at name x body) e k = extends-same e e refl

pub extends-after : (s : ParsedStmt) (e e' : Scope) (k : ℕ) → e' ≡ scope_after s e k → Extends e e'
extends-after s e e' k h =
    let x = extends_after s e k in
    record { inner = x.inner; is = h ∙ x.is }

extends_indices : (dims : List ParsedDim) (k : ℕ) (e : Scope) → Extends e (index_entries k dims e)
extends_indices [] k e = extends-same e e refl
extends_indices (d ∷ dims) k e =
    let n = index_entry d.name (Local k) t.Int32 Varying in
    extends-next e (n ∷ e) (index_entries (suc k) dims (n ∷ e)) (extends-one e (n ∷ e) n refl) (extends_indices dims (suc k) (n ∷ e))

pub extends-indices : (dims : List ParsedDim) (k : ℕ) (e e' : Scope) → e' ≡ index_entries k dims e → Extends e e'
extends-indices dims k e e' h =
    let x = extends_indices dims k e in
    record { inner = x.inner; is = h ∙ x.is }

pub indices-length : (dims : List ParsedDim) (k : ℕ) → length (index_variables k dims) ≡ length dims
indices-length [] k = refl
indices-length (d ∷ dims) k = ap suc (indices-length dims (suc k))

pub extends-marked : (outer env : Scope) (mark : ℕ) → mark ≡ length outer → Extends outer env → mark ≤ length env
extends-marked outer env mark m h = omega (arith, m, ap length h.is, length-append h.inner outer)

-- what was declared after the mark is taken back
pub extends-left : (outer env left : Scope) (mark : ℕ) → mark ≡ length outer → Extends outer env → left ≡ drop (length env - mark) env → left ≡ outer
extends-left outer env left mark m h l =
    let count : length env - mark ≡ length h.inner = omega (arith, m, ap length h.is, length-append h.inner outer) in
    l ∙ (ap (λ n. drop n env) count ∙ (ap (drop (length h.inner)) h.is ∙ drop-append_seam h.inner outer))
