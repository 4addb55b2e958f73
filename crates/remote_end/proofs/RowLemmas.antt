-- A command of a session, by its row: what it needs is there, or refuses.
use Rattle.std.proofs.Common.{◌≡◌, ◌∷◌, List, [], Option, None, Result, Ok, Err, refl, sym, ap, subst, ◌∙◌}
use Rattle.endpoints.specs.declared.command.Command.{Command}
use Rattle.references.specs.declared.kind.Kind.{Kind}
use Rattle.references.specs.declared.name.NodeName.{NodeName}
use Rattle.wd_errors.specs.declared.code.Code.{Code}
use Rattle.remote_end.specs.declared.finds.Wanted.{Wanted}
use Rattle.remote_end.specs.declared.order.Order.{Order}
use Rattle.remote_end.specs.declared.outcome.Outcome.{Outcome}
use Rattle.remote_end.specs.declared.outcome.Outcome.TheVariants.{Replied, Ended, Waits}
use Rattle.remote_end.specs.declared.session.Session.{Session}
use Rattle.remote_end.specs.declared.setting.Setting.{Setting}
use Rattle.remote_end.specs.Elements.{looked_up}
use Rattle.remote_end.specs.FindRows.{FindFromRow}
use Rattle.remote_end.specs.Finds.{FindsFrom}
use Rattle.remote_end.specs.Needs.{Need, OpenWindow, OpenContext, NoPrompt, Item, item_of, IsItem, with_item, refusal_of, Judges, Checks, AllPass, Refuses, Passes}
use Rattle.remote_end.specs.Outside.{Call}
use Rattle.remote_end.specs.Plan.{Plan, at_once, AsksNothing}
use Rattle.remote_end.specs.Rows.{row_of, IsOwn, IsDone}
use Rattle.remote_end.specs.State.{Leaves, Ends}
use Rattle.remote_end.specs.Step.{IsRow, RowComes}

-- by the command that the order has
pub row_is : (setting : Setting) (order : Order) (s : Session) (command : Command) (plan : Plan) → order.route.command ≡ command → IsOwn (row_of command) setting order s [] plan → IsRow setting order s [] plan
row_is setting order s command plan is row = let P : Command → Type 0 = λ other. IsOwn (row_of other) setting order s [] plan in subst P (sym is) row

-- a row that comes to this with plans of one kind does with plans of another
pub row_comes : (setting : Setting) (One Other : Plan → Type 0) → ((plan : Plan) → One plan → Other plan) → (outcome : Outcome) (s : Session) → RowComes setting One outcome s → RowComes setting Other outcome s
row_comes setting One Other f (Replied reply) s comes = f (at_once reply (Leaves s)) comes
row_comes setting One Other f (Ended reply) s comes = f (at_once reply Ends) comes
row_comes setting One Other f Waits s comes = λ plan is. f plan (comes plan is)

-- without needs
pub free_row : (does : Session → List Call → Plan → Type 0) (order : Order) (s : Session) (plan : Plan) → does s [] plan → IsDone [] does order s [] plan
free_row does order s plan row = record { checked = s; refusal = None; checks = AllPass s; follows = row }

module _ (order : Order) (s : Session) where
  -- the window and the context are open, and no prompt is
  pub window_passes : Checks (Judges order) (OpenWindow ∷ NoPrompt ∷ []) s s None
  window_passes = Passes OpenWindow _ s s s None (refl, refl) (Passes NoPrompt _ s s s None (refl, refl) (AllPass s))

  context_passes : (later : List Need) (refusal : Option _) → Checks (Judges order) later s s refusal → Checks (Judges order) (OpenContext ∷ NoPrompt ∷ later) s s refusal
  context_passes later refusal rest = Passes OpenContext _ s s s refusal (refl, refl) (Passes NoPrompt _ s s s refusal (refl, refl) rest)

  pub handle_row : (does : Session → List Call → Plan → Type 0) (plan : Plan) → does s [] plan → IsDone (OpenWindow ∷ []) does order s [] plan
  handle_row does plan row = record { checked = s; refusal = None; checks = Passes OpenWindow [] s s s None (refl, refl) (AllPass s); follows = row }

  pub window_row : (does : Session → List Call → Plan → Type 0) (plan : Plan) → does s [] plan → IsDone (OpenWindow ∷ NoPrompt ∷ []) does order s [] plan
  window_row does plan row = record { checked = s; refusal = None; checks = window_passes; follows = row }

  pub context_row : (does : Session → List Call → Plan → Type 0) (plan : Plan) → does s [] plan → IsDone (OpenContext ∷ NoPrompt ∷ []) does order s [] plan
  context_row does plan row = record { checked = s; refusal = None; checks = context_passes [] None (AllPass s); follows = row }

  module _ (kind : Kind) (does : Session → List Call → Plan → Type 0) (plan : Plan) where
    found_row : (name : NodeName) → IsItem kind order s name → does s [] plan → IsDone (OpenContext ∷ NoPrompt ∷ Item kind ∷ []) does order s [] plan
    found_row name is row = record {
      checked = s;
      refusal = None;
      checks = context_passes (Item kind ∷ []) None (Passes (Item kind) [] s s s None (refl, ap refusal_of (sym is)) (AllPass s));
      follows = row;
    }

    refused_row : (code : Code) → looked_up kind s (item_of order) ≡ Err code → AsksNothing (with_item s (λ name. plan) (Err code)) [] plan → IsDone (OpenContext ∷ NoPrompt ∷ Item kind ∷ []) does order s [] plan
    refused_row code is row = record {
      checked = s;
      refusal = refusal_of (Err code);
      checks = context_passes (Item kind ∷ []) (refusal_of (Err code)) (Refuses (Item kind) [] s s _ (refl, ap refusal_of (sym is)));
      follows = row;
    }

  -- what is done with a node that the path names
  pub item_row : (kind : Kind) (given : Session → NodeName → Plan) (plan : Plan) → with_item s (given s) (looked_up kind s (item_of order)) ≡ plan
      → IsDone (OpenContext ∷ NoPrompt ∷ Item kind ∷ []) (λ t asked p. (name : NodeName) × IsItem kind order t name × AsksNothing (given t name) asked p) order s [] plan
  item_row kind given plan is = by (looked_up kind s (item_of order)) refl
    where
      by : (r : Result NodeName Code) → looked_up kind s (item_of order) ≡ r
          → IsDone (OpenContext ∷ NoPrompt ∷ Item kind ∷ []) (λ t asked p. (name : NodeName) × IsItem kind order t name × AsksNothing (given t name) asked p) order s [] plan
      by (Ok name) found =
          found_row kind (λ t asked p. (name : NodeName) × IsItem kind order t name × AsksNothing (given t name) asked p) plan name found (name, found, (refl, sym is ∙ ap (with_item s (given s)) found))
      by (Err code) found =
          refused_row kind (λ t asked p. (name : NodeName) × IsItem kind order t name × AsksNothing (given t name) asked p) plan code found (refl, sym is ∙ ap (with_item s (given s)) found)

  pub from_row : (setting : Setting) (wanted : Wanted) (kind : Kind) (plan : Plan) → FindsFrom setting wanted s (looked_up kind s (item_of order)) order.parameters plan
      → IsDone (OpenContext ∷ NoPrompt ∷ Item kind ∷ []) (FindFromRow wanted kind setting order) order s [] plan
  from_row setting wanted kind plan is = by (looked_up kind s (item_of order)) refl
    where
      by : (r : Result NodeName Code) → looked_up kind s (item_of order) ≡ r → IsDone (OpenContext ∷ NoPrompt ∷ Item kind ∷ []) (FindFromRow wanted kind setting order) order s [] plan
      by (Ok name) found =
          let P : Result NodeName Code → Type 0 = λ r. FindsFrom setting wanted s r order.parameters plan in
          found_row kind (FindFromRow wanted kind setting order) plan name found (name, found, subst P found is)
      by (Err code) found =
          let P : Result NodeName Code → Type 0 = λ r. FindsFrom setting wanted s r order.parameters plan in
          refused_row kind (FindFromRow wanted kind setting order) plan code found (refl, subst P found is)
