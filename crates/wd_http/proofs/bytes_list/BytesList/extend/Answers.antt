use Rattle.std.proofs.Common.{◌<◌, length, map}
use Rattle.std.proofs.lemmas.Result.{on_ok_weaker, on_err_weaker}
use Rattle.wd_http.proofs.BytesListLemmas.{comes_on-set, comes_on-same}
use Rattle.wd_http.specs.HeldConnection.{comes_on}
use Rattle.wd_http.proofs.bytes_list.BytesList.extend.Goals as goal

pub returns : goal.returns
returns c =
    let within : c.args.i < length (map comes_on c.self.inside.entries.items) = rw c.self.view_is c.requires in
    record {
      ok = on_ok_weaker c.extend.result (λ grown. rw (← c.self.view_is) (comes_on-set c.self.inside.entries.items c.args.i _ _ c.args.piece.now within c.index_mut-entry.ensures.value grown)) c.extend.ensures.ok;
      err = on_err_weaker c.extend.result (λ same. rw (← c.self.view_is) (comes_on-same c.self.inside.entries.items c.args.i _ _ c.index_mut-entry.ensures.value same)) c.extend.ensures.err;
    }
