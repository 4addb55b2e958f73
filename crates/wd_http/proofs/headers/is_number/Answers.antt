use Rattle.std.proofs.Common.{◌≡◌, ◌∙◌, ℕ, zero, suc, Bool, false, ◌&&◌, length, ap, sym, arith, rules, tests}
use Rattle.std.specs.Prelude.{◌==◌, nat_lt}
use Rattle.std.specs.Char.{is_ascii_digit}
use Rattle.std.proofs.lemmas.Bool.{lt-ltb}
use Rattle.std.proofs.lemmas.Iterator.{YieldsList-from_slice}
use Rattle.std.proofs.lemmas.Iterator.Search.{all_from_yields_List}
use Rattle.wd_http.proofs.headers.is_number.Goals as goal

some : (n : ℕ) (all : Bool) → false ≡ (n == 0) → all ≡ (nat_lt 0 n && all)
some zero all e = absurd (cc (e))
some (suc n) all e = ap (λ b. b && all) (sym (lt-ltb 0 (suc n) (omega arith)))

pub returns-then-not-is_empty : goal.returns-then-not-is_empty
returns-then-not-is_empty c =
    all_from_yields_List is_ascii_digit _ _ _ c.all.ensures.ran (YieldsList-from_slice c.args.text.now cc) (λ x b q k. search (rules, tests))
    ∙ some (length c.args.text.now) _ c.if-not-is_empty.ensures
