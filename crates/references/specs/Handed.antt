-- The references that a session handed out.
use Rattle.std.specs.Prelude.{ℕ, ◌+◌, ◌==◌, ◌&&◌, List, [], ◌∷◌, ◌++◌, Bool, true, false, Option, Some, None, if◌then◌else◌}
use Rattle.std.specs.List.{find}
use Rattle.std.specs.Option.{option_map}
use Rattle.references.specs.declared.kind.Kind.{Kind}
use Rattle.references.specs.declared.kind.Kind.TheVariants.{Session, Window, Element, Shadow}
use Rattle.references.specs.declared.name.NodeName.{NodeName}
use Rattle.references.specs.declared.name.Entry.{Entry}
use Rattle.references.specs.Identifier.{Identifier, kind_number, is_text_of}
use Rattle.references.specs.Series.{Series, id_at, last_serial}

-- The identifiers to come, the serial that was the first of these, and what was handed out since, in
-- that order. The serials from the first one on and below the next one that no entry has are those
-- of windows.
pub record Handed : Type 0 where
  pub ids : Series
  pub first : ℕ
  pub entries : List Entry
  pub spent : Bool

-- the kinds of nodes
abbrev pub is_node_kind : Kind → Bool
is_node_kind Session = false
is_node_kind Window = false
is_node_kind Element = true
is_node_kind Shadow = true

abbrev pub same_kind : Kind → Kind → Bool
same_kind a b = kind_number a == kind_number b

abbrev pub is_named : Kind → NodeName → Entry → Bool
is_named kind name e = same_kind e.kind kind && (e.name.document == name.document && e.name.node == name.node)

-- with the next serial taken
abbrev pub after_next : Series → Series
after_next ids = record ids { next = ids.next + 1 }

-- with the next serial taken by that name
abbrev pub with_entry : Handed → Kind → NodeName → Handed
with_entry h kind name =
    record h { ids = after_next h.ids; entries = h.entries ++ record { kind = kind; name = name; serial = h.ids.next } ∷ [] }

-- what a name gets by the entry that it has
abbrev pub given : Handed → Kind → NodeName → Option Entry → Option (Identifier × Handed)
given h kind name (Some e) = Some (id_at h.ids kind e.serial, h)
given h kind name None = if h.ids.next == last_serial then None else Some (id_at h.ids kind h.ids.next, with_entry h kind name)

-- a name that is there keeps its identifier, and another gets the next serial; nothing where none is left
unfoldable pub handed : Handed → Kind → NodeName → Option (Identifier × Handed)
handed h kind name = given h kind name (find (is_named kind name) h.entries)

abbrev pub has_text_at : Series → Kind → List ℕ → Entry → Bool
has_text_at ids kind text e = same_kind e.kind kind && is_text_of (id_at ids kind e.serial) text

-- the name that was handed out under that kind with an identifier of that text
abbrev pub name_with : Handed → Kind → List ℕ → Option NodeName
name_with h kind text = option_map (λ e. e.name) (find (has_text_at h.ids kind text) h.entries)
