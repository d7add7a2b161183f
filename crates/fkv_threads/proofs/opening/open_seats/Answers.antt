-- All sit at the table that was opened.
use Rattle.law_threads.specs.Below.fkv_table.Planes.{opening_of}
use Rattle.fkv_threads.proofs.Shares.{begun_at, first_from}
use Rattle.fkv_threads.proofs.opening.open_seats.Goals as goal

pub seats-requires : goal.seats-requires
seats-requires g c = record {
  begun = λ i x there. begun_at (opening_of g.D.Device.seen) _ _ _ _ _ _ _ _ _ (λ j. (c.in_ok-table-2.ensures.ok j).table.shared.key) (λ j. (c.in_ok-table-2.ensures.ok j).table.shared.table_id) (c.in_ok-table.ensures.sessions i x there);
}

pub returns-clause-sessions : goal.returns-clause-sessions
returns-clause-sessions g c =
    first_from (opening_of g.D.Device.seen) _ _ c.in_ok-table.field-0.sessions.items _ c.in_ok-sessions.ensures.same
    (λ i x there. begun_at (opening_of g.D.Device.seen) _ _ _ _ _ _ _ _ _ (λ j. (c.in_ok-table-2.ensures.ok j).table.shared.key) (λ j. (c.in_ok-table-2.ensures.ok j).table.shared.table_id) (c.in_ok-table.ensures.sessions i x there))
