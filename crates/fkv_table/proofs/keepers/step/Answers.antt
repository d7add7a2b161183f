-- The reply leads the keeper on, and the action that goes with it.
use Rattle.std.proofs.Common.{◌∙◌, sym, ap, subst}
use Rattle.fkv_keeper.specs.Keeping.{KeeperModel, keeper_ask}
use Rattle.fkv_table.specs.KeeperCalls.{IsBeginning}
use Rattle.fkv_table.specs.Keeps.{IsKeeping}
use Rattle.fkv_table.specs.Planes.{opening_of}
use Rattle.fkv_table.specs.Turns.{ended_by_device}
use Rattle.fkv_table.proofs.ByDevice.{step_none}
use Rattle.fkv_table.proofs.KeeperCommits.{step_begins}
use Rattle.fkv_table.proofs.KeeperSettled.{IsKeeperStep, keeper_in_hand, keeper_stepped}
use Rattle.fkv_table.proofs.keepers.step.Goals as goal

pub settle-requires-clause-hand : goal.settle-requires-clause-hand
settle-requires-clause-hand g c =
    let its = subst (λ (k : KeeperModel). IsKeeping (opening_of g.D.Device.seen) c.args.words.now.key c.args.seat.now.me k) (sym c.room-room.ensures.same) c.requires.keeping in
    let first = c.requires.ask ∙ ap (λ (k : KeeperModel). keeper_ask k.shape k.places k.state) (sym c.room-room.ensures.same) in
    keeper_in_hand (opening_of g.D.Device.seen) c.args.words.now.key c.args.seat.now.me c.ask_by_grant-next.new.seat.me c.room-room.new.self c.ask_by_grant-next.new.machine _ c.args.ask.now c.ask_by_grant-next.result c.requires.table.1.opening its
    c.ask_by_grant-next.ensures.replied first c.requires.word c.ask_by_grant-next.ensures.ask

pub returns-clause-keeping : goal.returns-clause-keeping
returns-clause-keeping g c =
    let its = subst (λ (k : KeeperModel). IsKeeping (opening_of g.D.Device.seen) c.args.words.now.key c.args.seat.now.me k) (sym c.room-room.ensures.same) c.requires.keeping in
    let first = c.requires.ask ∙ ap (λ (k : KeeperModel). keeper_ask k.shape k.places k.state) (sym c.room-room.ensures.same) in
    let done = keeper_stepped (opening_of g.D.Device.seen) c.args.words.now.key c.args.seat.now.me c.ask_by_grant-next.new.seat.me c.settle.new.seat.me c.room-room.new.self c.ask_by_grant-next.new.machine c.settle.new.machine _ c.args.ask.now
    c.ask_by_grant-next.result c.requires.table.1.opening its c.ask_by_grant-next.ensures.replied first c.requires.word c.ask_by_grant-next.ensures.ask c.settle.ensures.settled in
    (subst (λ (k : KeeperModel). IsKeeperStep (opening_of g.D.Device.seen) c.args.words.now.key c.args.seat.now.me k c.settle.new.seat.me c.settle.new.machine) c.room-room.ensures.same done).keeping

pub returns-clause-went : goal.returns-clause-went
returns-clause-went g c =
    let its = subst (λ (k : KeeperModel). IsKeeping (opening_of g.D.Device.seen) c.args.words.now.key c.args.seat.now.me k) (sym c.room-room.ensures.same) c.requires.keeping in
    let first = c.requires.ask ∙ ap (λ (k : KeeperModel). keeper_ask k.shape k.places k.state) (sym c.room-room.ensures.same) in
    let done = keeper_stepped (opening_of g.D.Device.seen) c.args.words.now.key c.args.seat.now.me c.ask_by_grant-next.new.seat.me c.settle.new.seat.me c.room-room.new.self c.ask_by_grant-next.new.machine c.settle.new.machine _ c.args.ask.now
    c.ask_by_grant-next.result c.requires.table.1.opening its c.ask_by_grant-next.ensures.replied first c.requires.word c.ask_by_grant-next.ensures.ask c.settle.ensures.settled in
    (subst (λ (k : KeeperModel). IsKeeperStep (opening_of g.D.Device.seen) c.args.words.now.key c.args.seat.now.me k c.settle.new.seat.me c.settle.new.machine) c.room-room.ensures.same done).went

pub returns-clause-calls : goal.returns-clause-calls
returns-clause-calls g c =
    let its = subst (λ (k : KeeperModel). IsKeeping (opening_of g.D.Device.seen) c.args.words.now.key c.args.seat.now.me k) (sym c.room-room.ensures.same) c.requires.keeping in
    let first = c.requires.ask ∙ ap (λ (k : KeeperModel). keeper_ask k.shape k.places k.state) (sym c.room-room.ensures.same) in
    let done = keeper_stepped (opening_of g.D.Device.seen) c.args.words.now.key c.args.seat.now.me c.ask_by_grant-next.new.seat.me c.settle.new.seat.me c.room-room.new.self c.ask_by_grant-next.new.machine c.settle.new.machine _ c.args.ask.now
    c.ask_by_grant-next.result c.requires.table.1.opening its c.ask_by_grant-next.ensures.replied first c.requires.word c.ask_by_grant-next.ensures.ask c.settle.ensures.settled in
    (subst (λ (k : KeeperModel). IsKeeperStep (opening_of g.D.Device.seen) c.args.words.now.key c.args.seat.now.me k c.settle.new.seat.me c.settle.new.machine) c.room-room.ensures.same done).calls

pub returns-clause-fewer : goal.returns-clause-fewer
returns-clause-fewer g c =
    let its = subst (λ (k : KeeperModel). IsKeeping (opening_of g.D.Device.seen) c.args.words.now.key c.args.seat.now.me k) (sym c.room-room.ensures.same) c.requires.keeping in
    let first = c.requires.ask ∙ ap (λ (k : KeeperModel). keeper_ask k.shape k.places k.state) (sym c.room-room.ensures.same) in
    let done = keeper_stepped (opening_of g.D.Device.seen) c.args.words.now.key c.args.seat.now.me c.ask_by_grant-next.new.seat.me c.settle.new.seat.me c.room-room.new.self c.ask_by_grant-next.new.machine c.settle.new.machine _ c.args.ask.now
    c.ask_by_grant-next.result c.requires.table.1.opening its c.ask_by_grant-next.ensures.replied first c.requires.word c.ask_by_grant-next.ensures.ask c.settle.ensures.settled in
    (subst (λ (k : KeeperModel). IsKeeperStep (opening_of g.D.Device.seen) c.args.words.now.key c.args.seat.now.me k c.settle.new.seat.me c.settle.new.machine) c.room-room.ensures.same done).fewer

pub returns-clause-beginning : goal.returns-clause-beginning
returns-clause-beginning g c b =
    step_begins (opening_of g.D.Device.seen) c.args.words.now.key c.args.seat.now.me c.ask_by_grant-next.new.seat.me c.settle.new.seat.me _ c.room-room.new.self c.ask_by_grant-next.new.machine c.settle.new.machine c.ask_by_grant-next.result
    c.ask_by_grant-next.ensures.replied c.settle.ensures.settled (subst (λ (k : KeeperModel). IsBeginning k.state.step) (sym c.room-room.ensures.same) b)

pub returns-clause-by_device : goal.returns-clause-by_device
returns-clause-by_device g c =
    let first = c.requires.ask ∙ ap (λ (k : KeeperModel). keeper_ask k.shape k.places k.state) (sym c.room-room.ensures.same) in
    step_none (opening_of g.D.Device.seen) c.args.words.now.key c.args.seat.now.me c.ask_by_grant-next.new.seat.me c.settle.new.seat.me c.room-room.new.self c.ask_by_grant-next.new.machine c.settle.new.machine _ c.args.ask.now c.ask_by_grant-next.result
    c.ask_by_grant-next.ensures.replied first c.requires.word c.ask_by_grant-next.ensures.ask c.settle.ensures.settled ∙ ap (λ (k : KeeperModel). ended_by_device k.state.step) c.room-room.ensures.same
