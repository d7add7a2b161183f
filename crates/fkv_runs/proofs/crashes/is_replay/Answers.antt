use Rattle.std.proofs.Common.{◌≡◌, ap, ◌∙◌}
use Rattle.std.specs.FinMap.{empty, entries}
use Rattle.fkv_map.specs.History.{content}
use Rattle.fkv_map.specs.Map.{Map, as_numbers}
use Rattle.fkv_runs.proofs.Replays.{replay_agrees}
use Rattle.fkv_runs.proofs.crashes.is_replay.Goals as goal

pub returns : goal.returns
returns c =
    let replayed : c.in_ok-map.map ≡ content empty c.args.history.now = rw c.in_ok-map.ensures at c.replay.ensures.content in
    let told : as_numbers c.in_ok-told.told.items ≡ entries c.in_ok-map.map = rw c.in_ok-told.ensures at c.pairs.ensures.entries in
    let are_told : as_numbers c.as_slice.result.now ≡ entries (content empty c.args.history.now) =
    ap as_numbers c.as_slice.ensures.value ∙ told ∙ ap (λ (its : Map). entries its) replayed in
    replay_agrees _ c.as_slice.result.now c.args.pairs.now c.eq.result are_told c.eq.ensures
