-- Each session sits down behind those before it.
use Rattle.std.proofs.Common.{◌≡◌, ◌∙◌, sym, ap, arith, rules, ℕ, ◌+◌, List, [], ◌∷◌, ◌++◌, length, length-append}
use Rattle.std.proofs.lemmas.Iterator.Adapters.{YieldsList-from_vec}
use Rattle.std.proofs.lemmas.Iterator.Consumers.{YieldsList-turn}
use Rattle.fkv_base.specs.Limits.{drain_slots}
use Rattle.fkv_seats.specs.Rule.{desk_slot}
use Rattle.fkv_session.specs.Sessions.{Sitter}
use Rattle.fkv_table.specs.Starts.{rest_view}
use Rattle.fkv_table.proofs.Starts.{one_more, shown_count}
use Rattle.fkv_table.proofs.opening.seat_sessions.Goals as goal

pub desk_slot-desk-requires : goal.desk_slot-desk-requires
desk_slot-desk-requires g c =
    let turn = YieldsList-turn (YieldsList-from_vec {s = c.into_iter-machine-iterator.result} c.args.machines.items (search rules) (search rules))
    c.loop-machine.yielded c.loop-machine.machine-iterator c.loop-machine.yielded_by c.next.result c.next.new.self c.in-Some.machine c.in-Some.is c.next.ensures.steps in
    let many = shown_count (λ x. x.0.machine) c.loop-machine.seated.items c.loop-machine.yielded c.loop-machine.invariant.machines in
    omega (arith, turn.0, many, c.len.ensures, c.requires.few)

pub seat_next-seat-requires-clause-rest : goal.seat_next-seat-requires-clause-rest
seat_next-seat-requires-clause-rest g c =
    let turn = YieldsList-turn (YieldsList-from_vec {s = c.into_iter-machine-iterator.result} c.args.machines.items (search rules) (search rules))
    c.loop-machine.yielded c.loop-machine.machine-iterator c.loop-machine.yielded_by c.next.result c.next.new.self c.in-Some.machine c.in-Some.is c.next.ensures.steps in
    (length c.loop-machine.yielded, c.loop-machine.invariant.rest, omega (arith, turn.0, c.requires.desks))

pub loop-machine-preserved : goal.loop-machine-preserved
loop-machine-preserved g c =
    let inv = c.loop-machine.invariant in
    let seat = c.seat_next-seat.ensures in
    let yielded : List Sitter = c.loop-machine.yielded in
    let count : ℕ = length yielded in
    let more : count + 1 ≡ length (yielded ++ c.in-Some.machine ∷ []) = sym (length-append yielded (c.in-Some.machine ∷ [])) in
    let many = shown_count (λ x. x.0.machine) c.loop-machine.seated.items yielded inv.machines in
    let desk : c.len.result ≡ count = omega (arith, many, c.len.ensures) in
    let whole = one_more _ (λ x. x.0.machine) c.loop-machine.seated.items c.push.new.self.items _ yielded c.in_ok-push.ensures.items inv.machines inv.seats (seat.seat count inv.rest, c.desk_slot-desk.ensures ∙ ap (λ (n : ℕ). desk_slot drain_slots n) desk) in
    record {
      table = seat.table ∙ inv.table;
      rest = seat.rest count inv.rest ∙ ap (λ (n : ℕ). (rest_view c.args.words.now.key n, [])) more;
      machines = whole.0 ∙ ap (λ (m : Sitter). yielded ++ m ∷ []) c.new.ensures;
      seats = whole.1;
    }
