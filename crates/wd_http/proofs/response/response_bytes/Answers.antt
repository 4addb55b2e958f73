use Rattle.std.proofs.Common.{◌≡◌, ◌++◌, ◌∙◌, ℕ, List, refl, ap}
use Rattle.std.specs.Fmt.{decimal}
use Rattle.wd_http.specs.Sent.{response}
use Rattle.wd_http.proofs.response.response_bytes.Goals as goal

grow : {next out piece a p : List ℕ} → next ≡ out ++ piece → out ≡ a → piece ≡ p → next ≡ a ++ p
grow {next} {out} {piece} {a} {p} e f g = e ∙ (ap (λ u. u ++ piece) f ∙ ap (λ u. a ++ u) g)

pub returns : goal.returns
unfolding response
returns c =
    let status = c.as_bytes.ensures.value ∙ c.in_ok-to_string.ensures.ok in
    let size = c.as_bytes-3.ensures.value ∙ (c.in_ok-to_string-2.ensures.ok ∙ ap decimal c.len-2.ensures) in
    c.from_vec.ensures ∙ grow c.in_ok-extend_from_slice-10.ensures.items
    (grow c.in_ok-extend_from_slice-9.ensures.items
    (grow c.in_ok-extend_from_slice-8.ensures.items
    (grow c.in_ok-extend_from_slice-7.ensures.items
    (grow c.in_ok-extend_from_slice-6.ensures.items
    (grow c.in_ok-extend_from_slice-5.ensures.items
    (grow c.in_ok-extend_from_slice-4.ensures.items
    (grow c.in_ok-extend_from_slice-3.ensures.items
    (grow c.in_ok-extend_from_slice-2.ensures.items
    (grow c.in_ok-extend_from_slice.ensures.items c.in_ok-out.ensures.items refl)
    status)
    refl)
    (c.as_bytes-2.ensures.value ∙ c.phrase.ensures))
    refl)
    size)
    refl)
    (c.as_bytes-4.ensures.value ∙ c.closing.ensures))
    refl)
    c.as_slice.ensures
