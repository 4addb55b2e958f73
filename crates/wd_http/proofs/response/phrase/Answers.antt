use Rattle.std.proofs.Common.{◌≡◌, ℕ, List, [], ◌∷◌, Bool, true, false, ◌&&◌, ◌||◌, Option, Some, None, Bor, IsSome, option_map, refl, subst, sym}
use Rattle.std.specs.List.{list_all, list_any}
use Rattle.std.specs.Option.{is_some}
use Rattle.std.specs.Prelude.{◌==◌}
use Rattle.std.proofs.lemmas.Bool.{eqb-true}
use Rattle.http.specs.StatusCode.{reason_phrase}
use Rattle.wd_http.specs.Sent.{statuses, is_status}
use Rattle.wd_http.proofs.response.phrase.Goals as goal

-- a number that is on a list passes what all on it pass
on_list : (test : ℕ → Bool) (xs : List ℕ) (n : ℕ) → list_all test xs ≡ true → list_any (λ x. x == n) xs ≡ true → test n ≡ true
on_list test [] n all any = cc
on_list test (x ∷ xs) n all any = by (x == n) refl (test x) refl all any (on_list test xs n)
  where
    by : (v : Bool) → (x == n) ≡ v → (w : Bool) → test x ≡ w → (w && list_all test xs) ≡ true → (v || list_any (λ x. x == n) xs) ≡ true
        → (list_all test xs ≡ true → list_any (λ x. x == n) xs ≡ true → test n ≡ true) → test n ≡ true
    by v e false t all any ih = cc
    by true e true t all any ih = subst (λ k. test k ≡ true) (eqb-true x n e) t
    by false e true t all any ih = ih all any

-- each status that is sent has a reason phrase
has_reason : (status : ℕ) → is_status status ≡ true → IsSome (reason_phrase status)
has_reason status e = on_list (λ s. is_some (reason_phrase s)) statuses status refl e

behind : (o : Option (Bor (List ℕ))) → IsSome (option_map (λ s. s.now) o) → IsSome o
behind None h = h
behind (Some s) h = refl

pub unwrap-requires : goal.unwrap-requires
unwrap-requires c =
    behind c.canonical_reason.result
    (rw c.canonical_reason.ensures.value
    (subst (λ n. IsSome (reason_phrase n)) (sym c.in-Ok.ensures.1) (has_reason c.args.status c.requires)))
