-- Handing out the nodes of one document, one after another.
use Rattle.std.specs.Prelude.{◌≡◌, ℕ, ◌-◌, List, [], ◌∷◌, ◌++◌, Bool, not, nat_eq, Option, Some, None, is_some, take}
use Rattle.std.specs.List.{find, filter, fold}
use Rattle.std.specs.Option.{option_map}
use Rattle.std.specs.Set.{distinct_count}
use Rattle.references.specs.declared.kind.Kind.{Kind}
use Rattle.references.specs.declared.name.NodeName.{NodeName}
use Rattle.references.specs.declared.name.Entry.{Entry}
use Rattle.references.specs.Identifier.{Identifier}
use Rattle.references.specs.Series.{Series, last_serial}
use Rattle.references.specs.Handed.{Handed, handed, is_named}

abbrev pub named : ℕ → ℕ → NodeName
named document node = record { document = document; node = node }

-- with one node more, if those before it got theirs
abbrev pub and_one : Kind → ℕ → Option (List Identifier × Handed) → ℕ → Option (List Identifier × Handed)
and_one kind document None node = None
and_one kind document (Some p) node = option_map (λ q. (p.0 ++ q.0 ∷ [], q.1)) (handed p.1 kind (named document node))

-- the identifiers in order, and what is known then; nothing where a node gets none
unfoldable pub handed_all : Handed → Kind → ℕ → List ℕ → Option (List Identifier × Handed)
handed_all h kind document nodes = fold (and_one kind document) (Some ([], h)) nodes

abbrev pub is_new : Handed → Kind → ℕ → ℕ → Bool
is_new h kind document node = not (is_some (find (is_named kind (named document node)) h.entries))

-- how many of the nodes have no reference under that kind, each counted once
abbrev pub new_count : Handed → Kind → ℕ → List ℕ → ℕ
new_count h kind document nodes = distinct_count nat_eq (filter (is_new h kind document) nodes)

-- how many serials may still be given
abbrev pub serials_left : Series → ℕ
serials_left ids = last_serial - ids.next

-- for private clauses: the first entries alone, with that serial as the next
abbrev pub taken_back : Handed → ℕ → ℕ → Handed
taken_back h count serial = record h { ids = record h.ids { next = serial }; entries = take count h.entries }

-- for private clauses: entries were added at the end, and serials taken
pub record Extends (h g : Handed) : Type 0 where
  pub run : g.ids.run ≡ h.ids.run
  pub session : g.ids.session ≡ h.ids.session
  pub first : g.first ≡ h.first
  pub spent : g.spent ≡ h.spent
  pub entries : (more : List Entry) × (g.entries ≡ h.entries ++ more)
