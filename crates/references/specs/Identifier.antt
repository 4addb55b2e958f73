-- What an identifier holds, its places in a UUID of version 8 (RFC 9562, section 5.8), and its text.
use Rattle.std.specs.Prelude.{ℕ, ◌+◌, ◌*◌, ◌^◌, ◌<◌, List, Bool, nat_eq}
use Rattle.std.specs.Int.{to_be_bytes, w128}
use Rattle.std.specs.Cmp.Lexicographic.{pointwise}
use Rattle.uuid.specs.Text.{hyphenated_text, lower}
use Rattle.references.specs.declared.kind.Kind.{Kind}
use Rattle.references.specs.declared.kind.Kind.TheVariants.{Session, Window, Element, Shadow}

pub record Identifier : Type 0 where
  pub run : ℕ
  pub session : ℕ
  pub kind : Kind
  pub serial : ℕ

-- the numbers fit their places
pub record IsInRange (id : Identifier) : Type 0 where
  pub run : id.run < 2 ^ 48
  pub session : id.session < 2 ^ 30
  pub serial : id.serial < 2 ^ 32

abbrev pub kind_number : Kind → ℕ
kind_number Session = 0
kind_number Window = 1
kind_number Element = 2
kind_number Shadow = 3

-- 48 bits of run, the version 8, 12 bits of kind
abbrev pub high_of : Identifier → ℕ
high_of id = id.run * 2 ^ 16 + 8 * 2 ^ 12 + kind_number id.kind

-- the bits 10 of the variant, 30 bits of session, 32 bits of serial
abbrev pub low_of : Identifier → ℕ
low_of id = 2 * 2 ^ 62 + id.session * 2 ^ 32 + id.serial

unfoldable pub bytes_of : Identifier → List ℕ
bytes_of id = to_be_bytes w128 (high_of id * 2 ^ 64 + low_of id)

-- in lower case with hyphens
unfoldable pub text_of : Identifier → List ℕ
text_of id = hyphenated_text lower (bytes_of id)

abbrev pub is_text_of : Identifier → List ℕ → Bool
is_text_of id text = pointwise nat_eq (text_of id) text
