-- What holds where a result is Ok.
use Rattle.std.specs.Prelude.{Result, Ok, Err}
use Rattle.std.specs.Result.{OnOk}

pub on_ok_map : {T E : Type 0} (result : Result T E) (P Q : Type 0) → (P → Q) → OnOk result P → OnOk result Q
on_ok_map (Ok x) P Q to is = to is
on_ok_map (Err e) P Q to is = tt

pub on_ok_from : {T E : Type 0} (result : Result T E) (P : Type 0) → P → OnOk result P
on_ok_from (Ok x) P is = is
on_ok_from (Err e) P is = tt
