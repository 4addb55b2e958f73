use Rattle.std.proofs.Common.{◌∙◌, ap}
use Rattle.endpoints.specs.Segments.{decoded}
use Rattle.endpoints.specs.Path.{same_text}
use Rattle.remote_end.proofs.NamingLemmas.{swapped}
use Rattle.remote_end.proofs.naming.is_named.Goals as goal

pub returns : goal.returns
returns c =
    let bytes = decoded c.args.segment.now in
    c.is_spelled.ensures ∙ swapped bytes c.text_in.result.now ∙ ap (λ t. same_text t bytes) c.text_in.ensures
