-- The call of the device stands in the list, as it has ended.
use Rattle.std.proofs.Common.{true, false}
use Rattle.fkv_keeper.specs.KeeperAsks.{keeper_due}
use Rattle.fkv_table.specs.Planes.{opening_of}
use Rattle.fkv_table.proofs.ByDevice.{counts_done, counts_failed, met_done, met_failed}
use Rattle.fkv_table.proofs.KeeperNotes.{spares_call}
use Rattle.fkv_table.proofs.KeeperCalled.{after_on, called_on, went_on}
use Rattle.fkv_table.proofs.KeeperMoments.{moments_called}
use Rattle.fkv_table.proofs.keepers.call_device.Goals as goal

pub note-requires-clause-spares : goal.note-requires-clause-spares
note-requires-clause-spares g c = spares_call (opening_of g.D.Device.seen) _ _ c.args.machine.now c.requires.table.1.opening c.requires.keeping true true c.requires.ask

pub note-requires-in-Err-clause-spares : goal.note-requires-in-Err-clause-spares
note-requires-in-Err-clause-spares g c = spares_call (opening_of g.D.Device.seen) _ _ c.args.machine.now c.requires.table.1.opening c.requires.keeping true false c.requires.ask

pub returns-in-Ok-clause-keeping : goal.returns-in-Ok-clause-keeping
returns-in-Ok-clause-keeping g c =
    called_on (opening_of g.D.Device.seen) _ _ c.args.machine.now c.requires.table.1.opening c.requires.keeping c.requires.ask true c.note.new.seat.me c.note.ensures.noted (g.D.Device.seen c.args.d.now) (g.D.Device.may_leave c.args.d.now) c.requires.after
    c.call_device.new.self (c.in-Ok.ensures.read c.requires.honest)

pub returns-in-Ok-clause-went : goal.returns-in-Ok-clause-went
returns-in-Ok-clause-went g c =
    went_on (opening_of g.D.Device.seen) _ _ c.args.machine.now c.requires.table.1.opening c.requires.keeping c.requires.ask true c.note.new.seat.me c.note.ensures.noted (g.D.Device.seen c.args.d.now) (g.D.Device.may_leave c.args.d.now) c.requires.after

pub returns-in-Ok-clause-after : goal.returns-in-Ok-clause-after
returns-in-Ok-clause-after g c =
    after_on (opening_of g.D.Device.seen) _ _ c.args.machine.now c.requires.table.1.opening c.requires.keeping c.requires.ask true c.note.new.seat.me c.note.ensures.noted (g.D.Device.seen c.args.d.now) (g.D.Device.may_leave c.args.d.now) c.requires.after
    (g.D.Device.seen c.call_device.new.d) (g.D.Device.may_leave c.call_device.new.d) (c.in-Ok.ensures.calls c.requires.honest)

pub returns-in-Err-clause-keeping : goal.returns-in-Err-clause-keeping
returns-in-Err-clause-keeping g c =
    called_on (opening_of g.D.Device.seen) _ _ c.args.machine.now c.requires.table.1.opening c.requires.keeping c.requires.ask false c.note-in-Err.new.seat.me c.note-in-Err.ensures.noted (g.D.Device.seen c.args.d.now) (g.D.Device.may_leave c.args.d.now) c.requires.after
    c.call_device.new.self (c.in-Err.ensures.read c.requires.honest)

pub returns-in-Err-clause-went : goal.returns-in-Err-clause-went
returns-in-Err-clause-went g c =
    went_on (opening_of g.D.Device.seen) _ _ c.args.machine.now c.requires.table.1.opening c.requires.keeping c.requires.ask false c.note-in-Err.new.seat.me c.note-in-Err.ensures.noted (g.D.Device.seen c.args.d.now) (g.D.Device.may_leave c.args.d.now) c.requires.after

pub returns-in-Err-clause-after : goal.returns-in-Err-clause-after
returns-in-Err-clause-after g c =
    after_on (opening_of g.D.Device.seen) _ _ c.args.machine.now c.requires.table.1.opening c.requires.keeping c.requires.ask false c.note-in-Err.new.seat.me c.note-in-Err.ensures.noted (g.D.Device.seen c.args.d.now) (g.D.Device.may_leave c.args.d.now) c.requires.after
    (g.D.Device.seen c.call_device.new.d) (g.D.Device.may_leave c.call_device.new.d) (c.in-Err.ensures.calls c.requires.honest)

pub returns-in-Ok-clause-moments : goal.returns-in-Ok-clause-moments
returns-in-Ok-clause-moments g c =
    let d = g.D.Device in
    let after = after_on (opening_of d.seen) _ _ c.args.machine.now c.requires.table.1.opening c.requires.keeping c.requires.ask true c.note.new.seat.me c.note.ensures.noted (d.seen c.args.d.now) (d.may_leave c.args.d.now) c.requires.after
    (d.seen c.call_device.new.d) (d.may_leave c.call_device.new.d) (c.in-Ok.ensures.calls c.requires.honest) in
    let went = went_on (opening_of d.seen) _ _ c.args.machine.now c.requires.table.1.opening c.requires.keeping c.requires.ask true c.note.new.seat.me c.note.ensures.noted (d.seen c.args.d.now) (d.may_leave c.args.d.now) c.requires.after in
    moments_called (opening_of d.seen) d.moment d.left_since _ c.args.d.now c.call_device.new.d _ _ (d.seen c.args.d.now) (d.seen c.call_device.new.d) (d.may_leave c.args.d.now) (d.may_leave c.call_device.new.d) c.requires.after after went
    (λ image left. g.met.D.Device.only_now c.args.d.now image c.requires.honest left) (c.in-Ok.ensures.time c.requires.honest)

pub returns-in-Err-clause-moments : goal.returns-in-Err-clause-moments
returns-in-Err-clause-moments g c =
    let d = g.D.Device in
    let after = after_on (opening_of d.seen) _ _ c.args.machine.now c.requires.table.1.opening c.requires.keeping c.requires.ask false c.note-in-Err.new.seat.me c.note-in-Err.ensures.noted (d.seen c.args.d.now) (d.may_leave c.args.d.now) c.requires.after
    (d.seen c.call_device.new.d) (d.may_leave c.call_device.new.d) (c.in-Err.ensures.calls c.requires.honest) in
    let went = went_on (opening_of d.seen) _ _ c.args.machine.now c.requires.table.1.opening c.requires.keeping c.requires.ask false c.note-in-Err.new.seat.me c.note-in-Err.ensures.noted (d.seen c.args.d.now) (d.may_leave c.args.d.now) c.requires.after in
    moments_called (opening_of d.seen) d.moment d.left_since _ c.args.d.now c.call_device.new.d _ _ (d.seen c.args.d.now) (d.seen c.call_device.new.d) (d.may_leave c.args.d.now) (d.may_leave c.call_device.new.d) c.requires.after after went
    (λ image left. g.met.D.Device.only_now c.args.d.now image c.requires.honest left) (c.in-Err.ensures.time c.requires.honest)

pub returns-in-Ok-clause-counted : goal.returns-in-Ok-clause-counted
returns-in-Ok-clause-counted g c = counts_done c.args.machine.now c.call_device.new.self _ _ _ _ _ _ c.requires.ask c.in-Ok.ensures.asked c.in-Ok.ensures.next c.in-Ok.ensures.cause c.in-Ok.ensures.counted

pub returns-in-Err-clause-counted : goal.returns-in-Err-clause-counted
returns-in-Err-clause-counted g c = counts_failed c.args.machine.now c.call_device.new.self _ _ _ _ _ _ c.requires.ask c.in-Err.ensures.asked c.in-Err.ensures.refused c.in-Err.ensures.cause c.in-Err.ensures.counted

pub returns-in-Ok-clause-due : goal.returns-in-Ok-clause-due
returns-in-Ok-clause-due g c = met_done c.args.machine.now c.call_device.new.self (keeper_due c.args.machine.now) (g.D.Device.expects c.args.d.now) _ c.requires.ask c.in-Ok.ensures.next c.in-Ok.ensures.kind

pub returns-in-Err-clause-due : goal.returns-in-Err-clause-due
returns-in-Err-clause-due g c = met_failed c.call_device.new.self (keeper_due c.args.machine.now) (g.D.Device.expects c.args.d.now) _ c.in-Err.ensures.refused c.in-Err.ensures.kind
