-- The row of the table that code has.
use Rattle.std.specs.Prelude.{ℕ, List, codes}
use Rattle.endpoints.specs.declared.table.Verb.{Verb}
use Rattle.endpoints.specs.declared.table.Verb.TheVariants.{Get, Post, Delete}
use Rattle.endpoints.specs.declared.table.Row.{Row as CodeRow}
use Rattle.endpoints.specs.Table.{Row}

abbrev pub method_text : Verb → List ℕ
method_text Get = codes "GET"
method_text Post = codes "POST"
method_text Delete = codes "DELETE"

abbrev pub shown : CodeRow → Row
shown r = record { name = r.0.now; method = method_text r.1; path = r.2.now }
