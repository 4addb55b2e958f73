-- What is always true of the references that a session handed out, so that no two of them have one
-- identifier, or one name under one kind.
use Rattle.std.specs.Prelude.{◌≡◌, ◌<◌, ◌≤◌, true, false}
use Rattle.std.specs.List.{All, AllPairs}
use Rattle.references.specs.declared.name.Entry.{Entry}
use Rattle.references.specs.Series.{FitsPlaces}
use Rattle.references.specs.Handed.{Handed, is_node_kind, is_named}

-- an element or a shadow root, with a serial from the first one on and below the next one
pub record IsIssued (h : Handed) (e : Entry) : Type 0 where
  pub node_kind : is_node_kind e.kind ≡ true
  pub from : h.first ≤ e.serial
  pub below : e.serial < h.ids.next

pub record AreIssued (h : Handed) : Type 0 where
  pub fit : FitsPlaces h.ids
  pub order : h.first ≤ h.ids.next
  pub each : All (IsIssued h) h.entries
  -- the serials rise
  pub rise : AllPairs (λ a b. a.serial < b.serial) h.entries
  -- no name stands twice
  pub names : AllPairs (λ a b. is_named b.kind b.name a ≡ false) h.entries
