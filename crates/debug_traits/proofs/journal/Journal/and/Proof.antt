-- `and` makes a value of no bytes, which has heard what its clause names.
use mathlib.Core.Path.{refl}
use mathlib.Core.List.{[], ◌∷◌}
use Rattle.std.proofs.Common.{◌++◌, ◌<◌, ◌^◌, length}
use seplogic.Ra.Ura.{Ura}
use mir.Syntax.{Fn, Args, Dict, a_type, dcons, dnil, named}
use mir.Val.{vptr, vstruct, vnil}
use mir.MapTy.{inst_fn}
use base.Logic.{SProp, ent, via, fst∗}
use prog.Memory.{Memory}
use prog.Routine.{Routine}
use prog.Wp.{Calls, Loops, WpFn, Tables}
use types.Logic.{Logic}
use contract.Lifetimes.{AllOutlive, Lfts, Shares}
use contract.Monad.{Fun}
use contract.Running.{tables, tables_of}
use sound.WpLaws.{WpFn-mono}
use types.Kit.{‵, raw, ◌$◌, ◌∵◌, !, qed, move, suffices, done}
use types.Run.{no_more, returns, enter}
use types.Part.{agg}
use types.ByLocal.{alloc_all, pass_all, free_all, look_at, sets}
use denote.Builtin.{u8}
use denote.Exit.{yes}
use denote.Param.{bounded, param}
use denote.RattleType.{RattleType, Valss, owns}
use denote.Ref.{shr_vals, shr_Tells}
use denote.Shadow.{pure_i}
use denote.Signature.{plain, types_at}
use denote.Slice.{slice_val, shr_slice_vals, shr_slice_Tells}
use denote.Triple.Entry.{on_entry, alive, Args as Given}
use denote.Triple.Spec.{Meets, triple_of}
use denote.Triple.Table.{entered}
use denote.Triple.Walked.{says, stay_none_ref, stay_none_slice, Stays, walk_of, Walks, ends_at, walked, Goes-none_ref, Goes-none_slice, walk_Meets}
use Rattle.debug_traits.specs.declared.devices.AnswerWriter.{Ghosts}
use Rattle.debug_traits.specs.declared.journal.Journal.{Journal}
use Rattle.debug_traits.specs.contracts.journal.Journal as journal
use Rattle.debug_traits.specs.contracts.journal.Journal.and as f
use Rattle.debug_traits.specs.contracts.journal.Journal.and.Key.{name as key}
use Rattle.debug_traits.proofs.journal.Journal.and.Statement as stated
use Rattle.debug_traits.proofs.journal.Journal.and.Code as code

module _ (O : RattleType) (g : Ghosts O.Denot) (d : Dict) where
  abbrev inst : Args
  inst = bounded (a_type ∷ []) (O, tt) (dcons d dnil)

  abbrev function : Fn
  function = inst_fn inst code.function

  abbrev stayed : Stays (f.ended O g d).signature.params (f.ended O g d).kept
  stayed = (stay_none_ref (0 ∷ []) tt (plain (λ _. journal.the_row)) yes, (stay_none_ref (1 ∷ []) tt (plain (λ _. param 0 O)) yes, (stay_none_slice (2 ∷ []) tt (plain (λ _. u8)) yes, tt)))

  module _ {M : Type 1} {𝓤 : Ura M} (𝓛 : Logic 𝓤) (mem : Memory → SProp 𝓤) (run : Routine → Fun 𝓤) (C : Calls 𝓤 𝓛.H) (Λ : Loops 𝓤 𝓛.H) where
    open 𝓛 use {H}

    module _ (κs : Lfts 4) (qs : Shares 4) (bounds : AllOutlive 4 (f.signature O).outlives κs) (a : Given (f.signature O) κs) (fits : length a.1.1.0.now < 2 ^ 64) where
      abbrev vals : Valss (types_at (f.signature O).params κs)
      vals = (shr_vals a.0, (shr_vals a.1.0, (shr_slice_vals a.1.1.0, tt)))

      abbrev made : Journal
      made = record { heard = a.0.now.heard ++ record { told = g.written a.1.0.now; came = a.1.1.0.now } ∷ [] }

      walk : (gh : (f.clauses O g d 𝓛 mem run κs a).ghost) → ent 𝓤 (on_entry 𝓛 (f.signature O) κs qs a vals)
          (WpFn 𝓤 H C Λ function (vptr a.0.ref_ptr.0 a.0.ref_ptr.1 ∷ vptr a.1.0.ref_ptr.0 a.1.0.ref_ptr.1 ∷ slice_val a.1.1.0.ref_ptr (length a.1.1.0.now) ∷ [])
          ((walk_of 𝓛 (f.ended O g d) stayed (f.clauses O g d 𝓛 mem run)).post ((κs, qs, bounds, a, vals), gh)))
      walk gh =
          qed 𝓛 (raw (alive 𝓛 (f.signature O) κs qs) ∷ ‵ (owns (types_at (f.signature O).params κs) a vals) ∷ []) ∵
          enter ! C Λ function (vptr a.0.ref_ptr.0 a.0.ref_ptr.1 ∷ vptr a.1.0.ref_ptr.0 a.1.0.ref_ptr.1 ∷ slice_val a.1.1.0.ref_ptr (length a.1.1.0.now) ∷ []) _ $
          alloc_all ! (λ l. pass_all ! refl ((tt, tt), ((tt, tt), ((tt, (tt, (record { fits = fits }, tt))), tt))) $ sets ! (agg ! (no_more !)) refl (tt, tt) $
          returns ! (look_at ! 0 refl) $ free_all ! refl $
          suffices ! _ (ends_at 𝓛 (f.ended O g d) stayed (f.clauses O g d 𝓛 mem run) ((κs, qs, bounds, a, vals), gh) (vstruct vnil) made (tt, (tt, (tt, tt))) (tt, (tt, (tt, tt)))) $
          says ! refl $ pure_i ! (journal.the_row.own_val made (vstruct vnil ∷ [])) ((λ vss. (tt, tt)), tt) ((tt, (refl, tt)), tt) $
          move ! (1 ∷ 2 ∷ 0 ∷ []) $ done !)

    walks : Walks 𝓛 (f.ended O g d) stayed (WpFn 𝓤 H C Λ function) (f.clauses O g d 𝓛 mem run)
    walks =
        walked 𝓛 (f.ended O g d) stayed (f.clauses O g d 𝓛 mem run) (WpFn 𝓤 H C Λ function) (λ κs. (shr_vals, (shr_vals, (shr_slice_vals, tt))))
        (λ κs. (shr_Tells (named 0) κs.0 journal.the_row, (shr_Tells (named 1) κs.1.0 (param 0 O), (shr_slice_Tells (named 2) κs.1.1.0 u8, tt))))
        (λ κs qs bounds a gh are. via 𝓤 _ (fst∗ 𝓤 _ ((f.clauses O g d 𝓛 mem run κs a).requires gh)) (walk κs qs bounds a are.1.1.0.0.1.0 gh))

  meets : {M : Type 1} {𝓤 : Ura M} (𝓛 : Logic 𝓤) (mem : Memory → SProp 𝓤) (run : Routine → Fun 𝓤) (𝓣 : Tables 𝓤 𝓛.H)
      → Meets 𝓛 (f.signature O) (WpFn 𝓤 𝓛.H 𝓣.C 𝓣.Λ function) (f.spec O g d 𝓛 mem run)
  meets {𝓤 = 𝓤} 𝓛 mem run 𝓣 =
      walk_Meets 𝓛 (f.ended O g d) stayed (Goes-none_ref 𝓛 4 (0 ∷ []) tt (plain (λ _. journal.the_row)) yes, (Goes-none_ref 𝓛 4 (1 ∷ []) tt (plain (λ _. param 0 O)) yes, (Goes-none_slice 𝓛 4 (2 ∷ []) tt (plain (λ _. u8)) yes, tt)))
      (f.clauses O g d 𝓛 mem run) (WpFn 𝓤 𝓛.H 𝓣.C 𝓣.Λ function) (WpFn-mono 𝓤 𝓛.H 𝓛.laws 𝓣 function) (walks 𝓛 mem run 𝓣.C 𝓣.Λ)

pub and_spec : {M : Type 1} → stated.statement M
unfolding tables_of
and_spec 𝓤 𝓛 𝓜 𝓡 wired O L g d met =
    let 𝓣 : Tables 𝓤 𝓛.H = tables_of 𝓤 𝓛.H 𝓜 (tables 𝓤 𝓛.H 𝓜 𝓡 𝓡.env) in
    entered 𝓤 𝓛.H (triple_of 𝓛 (f.signature O) (f.spec O g d 𝓛 𝓜.mem 𝓡.returns)) 𝓣.C 𝓣.Λ (key (inst O g d)) (function O g d) (code.unfolded 𝓤 𝓛.H 𝓜 𝓡 wired (O, tt) d)
    (meets O g d 𝓛 𝓜.mem 𝓡.returns 𝓣)
