use Rattle.std.proofs.Common.{◌≡◌, ◌++◌, ◌∙◌, ℕ, List, [], ◌∷◌, Option, Some, None, length, drop, ap, ap₂, refl, sym}
use Rattle.std.specs.Borrow.{Bor}
use Rattle.std.specs.List.{slice_get}
use Rattle.std.specs.Option.{option_map}
use Rattle.std.proofs.lemmas.Iterator.Consumers.{YieldsList-end, YieldsList-from_shown}
use Rattle.clap.specs.Words.{found_of, rows_of}
use Rattle.clap.specs.Matches.{ids_left}
use Rattle.clap.specs.declared.parser.matches.IdsRef.{IdsRef}
use Rattle.clap.proofs.WalkLemmas.{first_value-rows}
use Rattle.command_line.specs.Command.{value_with, values_at}
use Rattle.command_line.proofs.FoundLemmas.{ids_are, values_more}
use Rattle.command_line.proofs.found.values_in.Goals as goal

pub loop-id-preserved : goal.loop-id-preserved
loop-id-preserved c =
    c.in_ok-put.ensures
    ∙ ap₂ (λ (a b : List (List ℕ × List ℕ)). a ++ b) c.loop-id.invariant
    (ap (value_with c.in-Some.id.now) (c.get_str.ensures ∙ first_value-rows (found_of c.args.found.now) c.in-Some.id.now))
    ∙ sym (values_more (rows_of (found_of c.args.found.now)) c.loop-id.yielded c.in-Some.id)

abbrev steps : IdsRef → Option (Bor (List ℕ)) → IdsRef → Type 0
steps a r b = (option_map (λ s. s.now) r ≡ slice_get (ids_left a) 0) × (ids_left b ≡ drop 1 (ids_left a))

ends : (xs : List (List ℕ)) → None ≡ slice_get xs 0 → length xs ≡ 0
ends [] e = refl
ends (x ∷ xs) e = absurd (cc (e))

gives : (xs ys : List (List ℕ)) (x : List ℕ) → Some x ≡ slice_get xs 0 → ys ≡ drop 1 xs → xs ≡ x ∷ ys
gives [] ys x e f = absurd (cc (e))
gives (y ∷ xs) ys x e f = let same : x ≡ y = cc (e) in ap₂ (λ (a : List ℕ) (b : List (List ℕ)). a ∷ b) (sym same) (sym f)

pub returns : goal.returns
returns c =
    let all = YieldsList-from_shown steps (λ (s : Bor (List ℕ)). s.now) ids_left (λ s t h. ends (ids_left s) h.0) (λ s x t h. gives (ids_left s) (ids_left t) x.now h.0 h.1)
    c.into_iter-id-iterator.result in
    let seen = YieldsList-end all c.loop-id.yielded c.loop-id.id-iterator c.loop-id.yielded_by c.next.result c.next.new.self c.in-None.is c.next.ensures.steps in
    let ids = seen.0 ∙ ap ids_left c.into_iter-id-iterator.ensures.into_iter_gives ∙ c.ids-id-items.ensures ∙ ids_are (found_of c.args.found.now).entries.items in
    c.loop-id.invariant ∙ ap (values_at (rows_of (found_of c.args.found.now))) ids
