-- What is said of a debugger without its breakpoints and watches, which a machine stands for, is true of the debugger.
use Rattle.std.proofs.Common.{ℕ, List, Option, None, Some}
use Rattle.gang_types.specs.declared.masks.Mask.{Mask}
use Rattle.gang_types.specs.declared.types.IntType.{IntType}
use Rattle.gang_types.specs.declared.types.Rate.{Rate}
use Rattle.gang_model.specs.Types.Tree.{Expr, Variable}
use Rattle.gang_model.specs.Debugger.Debugger.{Debugger, Setting}
use Rattle.debug_traits.specs.declared.machine.Fault.{Fault}
use Rattle.debug_traits.specs.declared.machine.Shown.{Shown}
use Rattle.debug_traits.specs.Frames.{IsShownAt}
use Rattle.debug_session.specs.Sessions.{bare}
use Rattle.frame_values.specs.declared.values.ExpressionValue.{ExpressionValue}
use Rattle.frame_values.specs.declared.values.NoValue.{NoValue}
use Rattle.frame_values.specs.declared.values.NoValue.TheVariants as no
use Rattle.frame_values.specs.Values.{HasNoValue, IsTreeOf, IsValueOf}
use Rattle.prompt_texts.specs.declared.items.Layout.{Layout}
use Rattle.prompt_texts.specs.declared.told.Told.{Told}
use Rattle.prompt_values.specs.declared.numbered.Printed.{Printed}
use Rattle.prompt_values.specs.declared.numbered.Printed.TheVariants as printed
use Rattle.prompt_values.specs.declared.returned.Awaited.{Awaited}
use Rattle.prompt_values.specs.Printed.{IsPrintedOf}
use Rattle.prompt_values.specs.Returned.{AreCalled, AwaitsAt, IsTold, IsToldBy, IsToldIf, name_of}

module _ (s : Setting) (d : Debugger) (deep : ℕ) where
  bare_tree : (text : List ℕ) (tree : Expr) (type : IntType) (rate : Rate) → IsTreeOf text s (bare d) deep tree type rate → IsTreeOf text s d deep tree type rate
  bare_tree text tree type rate is = record { spot = is.spot; stands = is.stands; written = is.written; is_written = is.is_written; means = is.means }

  bare_value : (text : List ℕ) (found : ExpressionValue) → IsValueOf text s (bare d) deep found → IsValueOf text s d deep found
  bare_value text found is = record { tree = is.tree; is_tree = bare_tree text is.tree found.value_type found.rate is.is_tree; lanes = is.lanes; words = is.words }

  bare_none : (text : List ℕ) (why : NoValue) → HasNoValue text s (bare d) deep why → HasNoValue text s d deep why
  bare_none text no.NoFrame is = is
  bare_none text (no.Refused refusal) is = is
  bare_none text (no.Fault fault) is =
      record { tree = is.tree; type = is.type; rate = is.rate; is_tree = bare_tree text is.tree is.type is.rate is.is_tree; faults = is.faults }

  -- what was printed of a text
  pub bare_printed : (text : List ℕ) (value : Option Printed) → IsPrintedOf text s (bare d) deep value → IsPrintedOf text s d deep value
  bare_printed text None is = let (why, none) = is in (why, bare_none text why none)
  bare_printed text (Some (printed.Told told)) is = is
  bare_printed text (Some (printed.Expression e)) is = bare_value text e.value is

  bare_called : (lanes : Mask) → AreCalled s (bare d) deep lanes → AreCalled s d deep lanes
  bare_called lanes is = record { place = is.place; told = is.told; are = is.are }

  -- what is awaited
  pub bare_awaits : (awaited : Option Awaited) → AwaitsAt s (bare d) deep awaited → AwaitsAt s d deep awaited
  bare_awaits None is = is
  bare_awaits (Some awaited) is = record { spot = is.spot; stands = is.stands; caller = is.caller; given = is.given; lanes = bare_called awaited.lanes is.lanes }

  bare_shown : (v : Variable) (shown : Shown) → IsShownAt s (bare d) deep v shown → IsShownAt s d deep v shown
  bare_shown v shown is = record { there = is.there; id = is.id; type = is.type; rate = is.rate; is_array = is.is_array; is_constant = is.is_constant; count = is.count }

  shown_bare : (v : Variable) (shown : Shown) → IsShownAt s d deep v shown → IsShownAt s (bare d) deep v shown
  shown_bare v shown is = record { there = is.there; id = is.id; type = is.type; rate = is.rate; is_array = is.is_array; is_constant = is.is_constant; count = is.count }

  module _ (awaited : Awaited) (layout : Layout) where
    bare_by : (name : List ℕ) (told : Option Told) → IsToldBy s (bare d) deep awaited layout name told → IsToldBy s d deep awaited layout name told
    bare_by name None none = λ v shown found there gets. none v shown found (shown_bare v shown there) gets
    bare_by name (Some told) is = record { v = is.v; shown = is.shown; there = bare_shown is.v is.shown is.there; gets = is.gets; tells = is.tells }

    bare_if : (name : Option (List ℕ)) (told : Option Told) → IsToldIf s (bare d) deep awaited layout name told → IsToldIf s d deep awaited layout name told
    bare_if None told is = is
    bare_if (Some name) told is = bare_by name told is

    -- what is told of a result
    pub bare_told : (told : Option Told) → IsTold s (bare d) deep awaited layout told → IsTold s d deep awaited layout told
    bare_told told is = record { program = is.program; is_it = is.is_it; by_name = bare_if (name_of is.program awaited.caller awaited.given.variable) told is.by_name }
