-- The types of events: their numbers in the order of the table, and which event has which.
use Rattle.std.specs.Prelude.{ℕ, Bool, nat_lt, ◌==◌, ◌||◌, not}
use Rattle.page_engine.specs.declared.event.Event.{Event}
use Rattle.page_engine.specs.declared.event.Event.TheVariants.{Pointer, Key, Plain}
use Rattle.page_engine.specs.declared.event.EventKind.{EventKind}
use Rattle.page_engine.specs.declared.event.EventKind.TheVariants.{PointerMove, PointerDown, PointerUp, Click, KeyDown, KeyUp, Input, Change, Focus, Blur, Submit, Reset}

abbrev pub kind_number : EventKind → ℕ
kind_number PointerMove = 0
kind_number PointerDown = 1
kind_number PointerUp = 2
kind_number Click = 3
kind_number KeyDown = 4
kind_number KeyUp = 5
kind_number Input = 6
kind_number Change = 7
kind_number Focus = 8
kind_number Blur = 9
kind_number Submit = 10
kind_number Reset = 11

abbrev pub is_same_kind : EventKind → EventKind → Bool
is_same_kind kind other = kind_number kind == kind_number other

abbrev pub is_pointer_kind : EventKind → Bool
is_pointer_kind kind = nat_lt (kind_number kind) 3

abbrev pub is_key_kind : EventKind → Bool
is_key_kind kind = is_same_kind kind KeyDown || is_same_kind kind KeyUp

-- an event's kind is one that such an event can have
abbrev pub is_event : Event → Bool
is_event (Pointer kind target at button) = is_pointer_kind kind
is_event (Key kind target key shift control alt meta) = is_key_kind kind
is_event (Plain kind target) = not (is_pointer_kind kind || is_key_kind kind)
