-- A search is made once, for reads and updates.
use Rattle.std.proofs.Common.{◌≡◌, ◌≤◌, refl, sym, subst, rules, true, false}
use Rattle.fkv_base.specs.declared.numbers.Key.{Key}
use Rattle.fkv_map.specs.declared.operations.Call.TheVariants as call
use Rattle.fkv_map.specs.declared.operations.Op.{Op}
use Rattle.fkv_map.specs.declared.operations.Op.TheVariants.{Upsert, Delete, Add, Max, Read, Merge}
use Rattle.fkv_ops.specs.declared.answers.DiskRecord.{DiskRecord}
use Rattle.fkv_ops.specs.Requests.{is_read}
use Rattle.fkv_session.specs.Alike.{lasting}
use Rattle.fkv_session.specs.Sessions.{Seat}
use Rattle.fkv_session.specs.declared.answers.Told.{Told}
use Rattle.fkv_straight.specs.declared.searching.Met.{Met}
use Rattle.fkv_straight.specs.Course.{course_of, Goes}
use Rattle.fkv_straight.specs.Hot.{HasLeft}
use Rattle.fkv_straight.specs.declared.hot.Due.TheVariants.{Met as HasMetThis}
use Rattle.fkv_straight.specs.Mailbox.{IsAway}
use Rattle.fkv_straight.specs.Met.{HasMet}
use Rattle.fkv_straight.specs.Standing.{IsEnded}
use Rattle.fkv_straight.proofs.Endings.{read_asks, read_caught_up}
use Rattle.fkv_straight.proofs.Goings.{calm_in, err_of, goes_at, ok_of, some_of}
use Rattle.fkv_straight.proofs.MayGoes.{begins_alike, goes_alike}
use Rattle.fkv_straight.proofs.hot.go_hot.Goals as goal

pub search-met-requires-clause-begins : goal.search-met-requires-clause-begins
search-met-requires-clause-begins g c = begins_alike c.args.machine.now.seat (g.L.Line.seat c.args.line.now) c.args.machine.now.state (g.L.Line.stands c.args.line.now) c.args.op c.args.going.now c.requires.may c.requires.seat c.requires.alike

pub tell-told-requires-clause-at : goal.tell-told-requires-clause-at
tell-told-requires-clause-at g c =
    let k = g.L.Line.seat c.args.line.now in
    let s = g.L.Line.stands c.args.line.now in
    let its = course_of k s c.args.op (call.Op c.args.op) in
    let u = g.L.Line.stands c.search-met.new.line in
    let goes : Goes its k c.args.op c.args.going.now = goes_alike c.args.machine.now.seat k c.args.machine.now.state s c.args.op c.args.going.now c.requires.may c.requires.seat c.requires.alike in
    (its, goes_at its k c.args.op c.args.going.now (g.L.Line.seat c.search-met.new.line) goes c.search-met.ensures.seat, some_of (λ (m : Met). HasMet its m u) c.search-met.result c.in-Some.its c.in-Some.is c.search-met.ensures.met)

pub returns-in-Ok-clause-ended : goal.returns-in-Ok-clause-ended
returns-in-Ok-clause-ended g c =
    let k = g.L.Line.seat c.args.line.now in
    let s = g.L.Line.stands c.args.line.now in
    let its = course_of k s c.args.op (call.Op c.args.op) in
    let u = g.L.Line.stands c.search-met.new.line in
    let v = g.L.Line.stands c.tell-told.new.line in
    let l = lasting s in
    let goes : Goes its k c.args.op c.args.going.now = goes_alike c.args.machine.now.seat k c.args.machine.now.state s c.args.op c.args.going.now c.requires.may c.requires.seat c.requires.alike in
    let ended : IsEnded l c.in-Ok.answer v = ok_of (λ (x : Told). IsEnded l x v) c.tell-told.result c.in-Ok.answer c.in-Ok.is
    (c.tell-told.ensures.ended its (goes_at its k c.args.op c.args.going.now (g.L.Line.seat c.search-met.new.line) goes c.search-met.ensures.seat) _ refl
    (some_of (λ (m : Met). HasMet its m u) c.search-met.result c.in-Some.its c.in-Some.is c.search-met.ensures.met)) in
    (read_asks k v l c.in-Ok.answer ended, read_caught_up c.args.machine.now.state v l c.in-Ok.answer c.requires.alike ended)

pub returns-in-Err-clause-left : goal.returns-in-Err-clause-left
returns-in-Err-clause-left g c =
    let k = g.L.Line.seat c.args.line.now in
    let s = g.L.Line.stands c.args.line.now in
    let its = course_of k s c.args.op (call.Op c.args.op) in
    let u = g.L.Line.stands c.search-met.new.line in
    let v = g.L.Line.stands c.tell-told.new.line in
    let sought : IsAway its c.in-Err.sought v = err_of (λ (x : DiskRecord). IsAway its x v) c.tell-told.result c.in-Err.sought c.in-Err.is
    (c.tell-told.ensures.left its (some_of (λ (m : Met). HasMet its m u) c.search-met.result c.in-Some.its c.in-Some.is c.search-met.ensures.met)) in
    let reads : is_read c.args.op ≡ true = search rules in
    (refl, record { start = s; alike = c.requires.alike; due = (reads, sought); room = err_of (λ (x : DiskRecord). g.L.Line.kept c.tell-told.new.line ≤ 48) c.tell-told.result c.in-Err.sought c.in-Err.is c.tell-told.ensures.kept })

-- what is no read
no_read : (its : Op) → ((key : Key) → its ≡ Read key → ⊥) → is_read its ≡ false
no_read (Upsert key value) other = refl
no_read (Delete key) other = refl
no_read (Add key n) other = refl
no_read (Max key n) other = refl
no_read (Read key) other = absurd (other key refl)
no_read (Merge key which n) other = refl

pub update_hot-requires-clause-left : goal.update_hot-requires-clause-left
update_hot-requires-clause-left g c =
    let k = g.L.Line.seat c.args.line.now in
    let s = g.L.Line.stands c.args.line.now in
    let its = course_of k s c.args.op (call.Op c.args.op) in
    let u = g.L.Line.stands c.search-met.new.line in
    let goes : Goes its k c.args.op c.args.going.now = goes_alike c.args.machine.now.seat k c.args.machine.now.state s c.args.op c.args.going.now c.requires.may c.requires.seat c.requires.alike in
    let left : HasLeft k c.args.machine.now.state c.args.op (HasMetThis c.in-Some.its) (g.L.Line.kept c.search-met.new.line) u = record {
      start = s;
      alike = c.requires.alike;
      due = (no_read c.args.op c.in_default-op.not-Read, calm_in its k c.args.op c.args.going.now goes c.requires.calm, some_of (λ (m : Met). HasMet its m u) c.search-met.result c.in-Some.its c.in-Some.is c.search-met.ensures.met);
      room = c.search-met.ensures.kept;
    } in
    subst (λ (x : Seat). HasLeft x c.args.machine.now.state c.args.op (HasMetThis c.in-Some.its) (g.L.Line.kept c.search-met.new.line) u) (sym c.search-met.ensures.seat) left
