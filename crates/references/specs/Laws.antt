-- What is true of references over any list of calls: one node has one, and one finds one node.
use Rattle.std.specs.Prelude.{◌≡◌, ℕ, List, true, Some, None, ◌<◌, ◌↔◌}
use Rattle.std.specs.List.{Contains, AllZip}
use Rattle.references.specs.declared.kind.Kind.{Kind}
use Rattle.references.specs.declared.name.NodeName.{NodeName}
use Rattle.references.specs.declared.name.Entry.{Entry}
use Rattle.references.specs.Identifier.{Identifier, text_of}
use Rattle.references.specs.Series.{FitsPlaces, id_at}
use Rattle.references.specs.Handed.{Handed, handed, is_named, is_node_kind, name_with}
use Rattle.references.specs.HandedAll.{named, handed_all, new_count, serials_left}
use Rattle.references.specs.Issued.{AreIssued}

-- the identifier of an entry
abbrev pub id_of : Handed → Entry → Identifier
id_of h e = id_at h.ids e.kind e.serial

-- no two entries have one text
abbrev pub OneEntryForText : Type 0
OneEntryForText = (h : Handed) (a b : Entry) → AreIssued h → Contains h.entries a → Contains h.entries b → text_of (id_of h a) ≡ text_of (id_of h b) → a ≡ b

-- no two entries have one name under one kind
abbrev pub OneEntryForName : Type 0
OneEntryForName = (h : Handed) (a b : Entry) → AreIssued h → Contains h.entries a → Contains h.entries b → is_named b.kind b.name a ≡ true → a ≡ b

-- an entry's name is found by its text
abbrev pub EntriesAreFound : Type 0
EntriesAreFound = (h : Handed) (e : Entry) → AreIssued h → Contains h.entries e → name_with h e.kind (text_of (id_of h e)) ≡ Some e.name

-- what is handed out is found by its text
abbrev pub HandedOutIsFound : Type 0
HandedOutIsFound =
    (h g : Handed) (kind : Kind) (name : NodeName) (id : Identifier)
    → AreIssued h
    → is_node_kind kind ≡ true
    → handed h kind name ≡ Some (id, g)
    → name_with g kind (text_of id) ≡ Some name

-- what was handed out once is handed out again
abbrev pub HandedOutAgain : Type 0
HandedOutAgain = (h g : Handed) (kind : Kind) (name : NodeName) (id : Identifier) → handed h kind name ≡ Some (id, g) → handed g kind name ≡ Some (id, g)

-- what is found stays found, whatever is handed out after it
abbrev pub FoundStaysFound : Type 0
FoundStaysFound =
    (h g : Handed) (kind other : Kind) (name node : NodeName) (id : Identifier) (text : List ℕ)
    → handed h kind name ≡ Some (id, g)
    → name_with h other text ≡ Some node
    → name_with g other text ≡ Some node

-- a list gets nothing exactly where fewer serials are left than it has new names
abbrev pub AllOrNothing : Type 0
AllOrNothing =
    (h : Handed) (kind : Kind) (document : ℕ) (nodes : List ℕ)
    → FitsPlaces h.ids
    → (handed_all h kind document nodes ≡ None) ↔ (serials_left h.ids < new_count h kind document nodes)

-- what is found stays found when a list is handed out
abbrev pub AllKeepsFound : Type 0
AllKeepsFound =
    (h g : Handed) (kind other : Kind) (document : ℕ) (nodes : List ℕ) (ids : List Identifier) (node : NodeName) (text : List ℕ)
    → handed_all h kind document nodes ≡ Some (ids, g)
    → name_with h other text ≡ Some node
    → name_with g other text ≡ Some node

-- each node of a list that is handed out is found by the text of its identifier
abbrev pub AllIsFound : Type 0
AllIsFound =
    (h g : Handed) (kind : Kind) (document : ℕ) (nodes : List ℕ) (ids : List Identifier)
    → AreIssued h
    → is_node_kind kind ≡ true
    → handed_all h kind document nodes ≡ Some (ids, g)
    → AllZip (λ id node. name_with g kind (text_of id) ≡ Some (named document node)) ids nodes
