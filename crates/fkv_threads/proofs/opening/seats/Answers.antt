-- Each session is ready with its pass, as the table's opening says of its place in the list, and its share is of that table.
use Rattle.std.proofs.Common.{length, refl, rules}
use Rattle.std.proofs.lemmas.Iterator.Adapters.{YieldsList-from_vec}
use Rattle.std.proofs.lemmas.Iterator.Consumers.{YieldsList-turn}
use Rattle.std.proofs.lemmas.Option.{slice_get_read}
use Rattle.law_threads.specs.Below.fkv_table.Planes.{opening_of}
use Rattle.fkv_threads.proofs.Shares.{ready_at}
use Rattle.fkv_threads.proofs.opening.seats.Goals as goal

pub new-requires : goal.new-requires
new-requires g c =
    let items = c.args.sessions.items in
    let at = length c.loop-session.yielded in
    let turn = YieldsList-turn (YieldsList-from_vec {s = c.into_iter-session-iterator.result} items (search rules) (search rules)) c.loop-session.yielded c.loop-session.session-iterator c.loop-session.yielded_by c.next.result
    c.next.new.self (c.in-Some.session, c.in-Some.pass) c.in-Some.is c.next.ensures.steps in
    let there = slice_get_read items (length items) at (c.in-Some.session, c.in-Some.pass) refl turn.0 turn.1 in
    record { ready = ready_at (opening_of g.D.Device.seen) _ _ _ _ _ _ _ _ (λ i. (c.in_ok-share.ensures i).table.shared.key) (λ i. (c.in_ok-share.ensures i).table.shared.table_id) (c.requires.begun at (c.in-Some.session, c.in-Some.pass) there).ready }
