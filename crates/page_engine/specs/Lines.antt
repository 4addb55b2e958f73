-- The lines of a document's log.
use Rattle.std.specs.Prelude.{ℕ, ℤ, List, [], ◌∷◌, ◌++◌, codes, length, nat_lt, if◌then◌else◌}
use Rattle.std.specs.Fmt.{decimal, signed_decimal}
use Rattle.page_engine.specs.Kinds.{is_same_kind}
use Rattle.page_engine.specs.declared.event.Event.{Event}
use Rattle.page_engine.specs.declared.event.Event.TheVariants.{Pointer, Key, Plain}
use Rattle.page_engine.specs.declared.event.EventKind.{EventKind}
use Rattle.page_engine.specs.declared.event.EventKind.TheVariants.{PointerMove, PointerDown, PointerUp, Click, KeyDown, KeyUp, Input, Change, Focus, Blur, Submit, Reset}

-- a log keeps its first lines, so many
abbrev pub max_lines : ℕ
max_lines = 10000

abbrev pub kind_name : EventKind → List ℕ
kind_name PointerMove = codes "pointermove"
kind_name PointerDown = codes "pointerdown"
kind_name PointerUp = codes "pointerup"
kind_name Click = codes "click"
kind_name KeyDown = codes "keydown"
kind_name KeyUp = codes "keyup"
kind_name Input = codes "input"
kind_name Change = codes "change"
kind_name Focus = codes "focus"
kind_name Blur = codes "blur"
kind_name Submit = codes "submit"
kind_name Reset = codes "reset"

-- the type, a space and the node
abbrev pub head_of : EventKind → ℕ → List ℕ
head_of kind target = kind_name kind ++ codes " " ++ decimal target

-- a place of the viewport
abbrev pub place_text : ℤ → ℤ → List ℕ
place_text x y = signed_decimal x ++ codes "," ++ signed_decimal y

-- the line of an event: its type and its node, and the place of a move, the button, or the key
abbrev pub line : Event → List ℕ
line (Pointer kind target at button) = head_of kind target ++ codes " " ++ (if is_same_kind kind PointerMove then place_text at.x at.y else decimal button)
line (Key kind target key shift control alt meta) = head_of kind target ++ codes " " ++ key
line (Plain kind target) = head_of kind target

abbrev pub logged : List ℕ → List (List ℕ) → List (List ℕ)
logged text log = if nat_lt (length log) max_lines then log ++ text ∷ [] else log
