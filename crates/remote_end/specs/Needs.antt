-- What a command needs of its session before its row: checks that are made in order, each of which may change the
-- session, or refuse with a reply.
use Rattle.std.specs.Prelude.{◌≡◌, ℕ, List, [], ◌∷◌, Option, Some, None, Result, Ok, Err}
use Rattle.std.specs.Option.{option_map_or}
use Rattle.std.specs.Str.{encode_utf8_all}
use Rattle.references.specs.declared.kind.Kind.{Kind}
use Rattle.references.specs.declared.name.NodeName.{NodeName}
use Rattle.wd_errors.specs.declared.code.Code.{Code}
use Rattle.remote_end.specs.declared.order.Order.{Order}
use Rattle.remote_end.specs.declared.reply.Reply.{Reply}
use Rattle.remote_end.specs.declared.session.Session.{Session}
use Rattle.remote_end.specs.Elements.{looked_up}
use Rattle.remote_end.specs.Plan.{Plan, at_once}
use Rattle.remote_end.specs.Replies.{failure}
use Rattle.remote_end.specs.State.{Leaves}

pub data Need : Type 0 where
  -- its current window is open
  OpenWindow : Need
  -- and so is its current browsing context
  OpenContext : Need
  -- no user prompt is open
  NoPrompt : Need
  -- what the path names was handed out under that kind, and is connected
  Item : Kind → Need

-- what stands in the path for the element or the shadow root
abbrev pub item_of : Order → List ℕ
item_of order = option_map_or encode_utf8_all order.route.item []

-- the node that the path names under a kind
abbrev pub IsItem : Kind → Order → Session → NodeName → Type 0
IsItem kind order s name = looked_up kind s (item_of order) ≡ Ok name

abbrev pub refusal_of : Result NodeName Code → Option Reply
refusal_of (Ok name) = None
refusal_of (Err code) = Some (failure code)

-- How a need is judged: what it leaves of the session, and the reply with which it refuses, if it does. A session
-- has one window so far, which stays open, and no prompts.
abbrev pub Judges : Order → Need → Session → Session → Option Reply → Type 0
Judges order OpenWindow s t refusal = (t ≡ s) × (refusal ≡ None)
Judges order OpenContext s t refusal = (t ≡ s) × (refusal ≡ None)
Judges order NoPrompt s t refusal = (t ≡ s) × (refusal ≡ None)
Judges order (Item kind) s t refusal = (t ≡ s) × (refusal ≡ refusal_of (looked_up kind s (item_of order)))

-- needs are judged in order, up to the first that refuses
pub data Checks (judges : Need → Session → Session → Option Reply → Type 0) : List Need → Session → Session → Option Reply → Type 0 where
  AllPass : (s : Session) → Checks judges [] s s None
  Refuses : (need : Need) (needs : List Need) (s t : Session) (reply : Reply) → judges need s t (Some reply) → Checks judges (need ∷ needs) s t (Some reply)
  Passes : (need : Need) (needs : List Need) (s mid t : Session) (refusal : Option Reply) → judges need s mid None
      → Checks judges needs mid t refusal → Checks judges (need ∷ needs) s t refusal

-- ---- for private clauses

-- what is done with a node that the path names, or the refusal
abbrev pub with_item : Session → (NodeName → Plan) → Result NodeName Code → Plan
with_item s given (Err code) = at_once (failure code) (Leaves s)
with_item s given (Ok name) = given name
