-- The lanes of an expression's value, into which it opens.
use Rattle.std.specs.Prelude.{◌≡◌, ◌⊎◌, ℕ, Bool, true, false, ◌==◌, List, [], map, Option, Some, None, option_map, if◌then◌else◌}
use Rattle.std.specs.List.{range_with_len}
use Rattle.gang_types.specs.Lanes.{Lanes}
use Rattle.gang_types.specs.Masks.{lanes_of}
use Rattle.gang_types.specs.declared.types.IntType.{IntType}
use Rattle.gang_types.specs.declared.types.Rate.{Rate}
use Rattle.gang_types.specs.declared.types.Rate.TheVariants.{Uniform, Varying}
use Rattle.gang_model.specs.Debugger.Debugger.{Debugger, Setting, depth, now}
use Rattle.gang_model.specs.Texts.Text.{Bytes, index_text}
use Rattle.frame_values.specs.declared.values.ExpressionValue.{ExpressionValue}
use Rattle.frame_values.specs.declared.values.NoValue.{NoValue}
use Rattle.frame_values.specs.Values.{HasNoValue, IsValueOf}
use Rattle.adapter_requests.specs.declared.reply.Reply.{Reply}
use Rattle.adapter_requests.specs.declared.reply.Reply.TheVariants as reply
use Rattle.adapter_requests.specs.declared.reply.VariableKind.TheVariants as kind
use Rattle.adapter_requests.specs.declared.request.Context.{Context}
use Rattle.adapter_requests.specs.declared.request.Page.{Page}
use Rattle.adapter_requests.specs.declared.request.Request.{Request}
use Rattle.adapter_requests.specs.declared.request.Request.TheVariants as request
use Rattle.adapter_replies.specs.declared.children.OpenedExpression.{OpenedExpression}
use Rattle.adapter_replies.specs.declared.console.Asked.{Asked}
use Rattle.adapter_replies.specs.declared.console.Asked.TheVariants as asked
use Rattle.adapter_replies.specs.declared.forms.Form.{Form}
use Rattle.adapter_replies.specs.declared.places.Place.TheVariants as place
use Rattle.adapter_replies.specs.Asking.{printed_in}
use Rattle.adapter_replies.specs.Completions.{frame_or}
use Rattle.adapter_replies.specs.Console.{asked_in}
use Rattle.adapter_replies.specs.Expressions.{lane_text}
use Rattle.adapter_replies.specs.Pages.{indexed_children, paged}
use Rattle.adapter_replies.specs.References.{is_frame}
use Rattle.adapter_replies.specs.Told.{IsNoFrame, IsNoValueShown, is_line, told_variables}
use Rattle.adapter_replies.specs.Variables.{ToldVariable, type_name}
use Rattle.adapter_replies.specs.Waiting.{waits}

-- ---- the lanes of a value

-- a lane of a value, where these lanes are active
abbrev pub told_lane : Form → IntType → Lanes → (words : List ℕ) → (lane : ℕ) → ToldVariable
told_lane form type lanes words lane = record {
  name = index_text (Some lane);
  value = lane_text form type lanes words lane;
  type = type_name type;
  kind = kind.Lane (waits lanes lane);
  is_constant = false;
  is_read_only = true;
  parts = place.Nothing;
}

-- the lanes of a varying value of a gang of so many, as a page asks for them; a uniform value has none
abbrev pub told_lanes : Rate → Form → Page → IntType → Lanes → (words : List ℕ) → (width : ℕ) → List ToldVariable
told_lanes Uniform form page type lanes words width = []
told_lanes Varying form page type lanes words width = map (told_lane form type lanes words) (paged page (range_with_len 0 width))

-- the children of a value: its lanes, unless a page asks for variables alone
abbrev pub told_children : Form → Page → ExpressionValue → List ToldVariable
told_children form page found =
    indexed_children page.filter (told_lanes found.rate form page found.value_type (lanes_of found.lanes.width found.lanes.lanes) found.lanes.words found.lanes.width)

-- the children of the value of a text where the frame at a depth stands
pub record AreChildrenShown (s : Setting) (d : Debugger) (deep : ℕ) (text : Bytes) (form : Form) (page : Page) (told : Reply) : Type 0 where
  pub found : ExpressionValue
  pub is : IsValueOf text s d deep found
  pub shown : told_variables told ≡ Some (told_children form page found)

-- these, or why the text has no value there; or there is no such frame
abbrev pub AreChildrenToldIn : (is_frame : Bool) → Setting → Debugger → (depth : ℕ) → (text : Bytes) → Form → Page → Reply → Type 0
AreChildrenToldIn false s d deep text form page told = IsNoFrame told
AreChildrenToldIn true s d deep text form page told = AreChildrenShown s d deep text form page told ⊎ IsNoValueShown s d deep text told

-- what a request is told for the children of the value of a text in the frame at a depth
abbrev pub AreChildrenTold : Setting → Debugger → (depth : ℕ) → (text : Bytes) → Form → Page → Reply → Type 0
AreChildrenTold s d deep text form page told = AreChildrenToldIn (is_frame (depth (now s d)) deep) s d deep text form page told

-- ---- what opens so

-- the depth of the frame of an expression, and its text
abbrev pub opened_view : OpenedExpression → ℕ × Bytes
opened_view given = (given.depth, given.text.now)

-- a text whose value is asked for
abbrev pub value_text : Asked → (text : Bytes) → Option Bytes
value_text asked.Value text = Some text
value_text other text = None

-- the expression that a text may be: none where it is a line of the console that spells a command, or asks for help or for a list
abbrev pub expression_in : Context → (text : Bytes) → Option Bytes
expression_in context text = if is_line context text then None else value_text (asked_in context text) (printed_in context text).text

-- the expression that a request to evaluate asks for, and the depth of its frame
abbrev pub asked_expression : (top : ℕ) → Request → Option (ℕ × Bytes)
asked_expression top (request.Evaluate expression frame context is_hexadecimal) = option_map (λ text. (frame_or top frame, text)) (expression_in context expression.now)
asked_expression top other = None

-- whether a reply tells a value of which nothing opens
abbrev pub is_closed_value : Reply → Bool
is_closed_value (reply.Evaluated text None reference) = reference == 0
is_closed_value other = false

-- the expression whose value a request to evaluate was told, where nothing opens of that
abbrev pub told_expression : (top : ℕ) → Request → Reply → Option (ℕ × Bytes)
told_expression top request told = if is_closed_value told then asked_expression top request else None

-- the value of a text varies where the frame at a depth stands
pub record Varies (s : Setting) (d : Debugger) (deep : ℕ) (text : Bytes) : Type 0 where
  pub found : ExpressionValue
  pub is : IsValueOf text s d deep found
  pub varies : found.rate ≡ Varying

-- it is uniform
pub record IsUniform (s : Setting) (d : Debugger) (deep : ℕ) (text : Bytes) : Type 0 where
  pub found : ExpressionValue
  pub is : IsValueOf text s d deep found
  pub uniform : found.rate ≡ Uniform

-- the text has no value there
abbrev pub HasNone : Setting → Debugger → (depth : ℕ) → (text : Bytes) → Type 0
HasNone s d deep text = (why : NoValue) × HasNoValue text s d deep why

-- an expression opens exactly where its value varies
abbrev pub OpensInto : Setting → Debugger → (expression opened : Option (ℕ × Bytes)) → Type 0
OpensInto s d None opened = opened ≡ None
OpensInto s d (Some expression) None = IsUniform s d expression.0 expression.1 ⊎ HasNone s d expression.0 expression.1
OpensInto s d (Some expression) (Some opened) = (opened ≡ expression) × Varies s d expression.0 expression.1

-- the expression that opens of what a request was told
abbrev pub IsOpenedOf : Setting → Debugger → Request → Reply → (opened : Option (ℕ × Bytes)) → Type 0
IsOpenedOf s d request told opened = OpensInto s d (told_expression (depth (now s d)) request told) opened

-- a reply to a request to evaluate with another reference of what it opens
abbrev pub with_reference : (reference : ℕ) → Reply → Reply
with_reference reference (reply.Evaluated text reason old) = reply.Evaluated text reason reference
with_reference reference other = other
