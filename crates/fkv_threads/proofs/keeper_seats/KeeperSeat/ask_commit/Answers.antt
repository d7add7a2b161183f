-- The keeper was ready, and has answered: it is ready again, and no call of the device was made.
use Rattle.std.proofs.Common.{◌≡◌, false, refl, sym, ◌∙◌}
use Rattle.std.proofs.lemmas.Bool.{false≢true}
use Rattle.fkv_threads.specs.Models.{opening}
use Rattle.fkv_threads.proofs.Taken.{after_none}
use Rattle.law_threads.specs.Below.fkv_table.Planes.{opening_of}
use Rattle.fkv_threads.proofs.Watching.{at_rest, at_there, commit_refused}
use Rattle.fkv_threads.proofs.keeper_seats.KeeperSeat.ask_commit.Goals as goal

pub returns : goal.returns
returns g c =
    let d = g.D.Device in let started = c.start_commit.ensures in
    let idle : c.self.inside.in_turn ≡ false = c.if-self.false in
    let here = at_there d _ _ _ _ _ _ _ _ _ (λ i. (sym c.deref.ensures i).table.shared.key) (λ i. (sym c.deref.ensures i).table.shared.table_id) c.self.invariant in
    record {
      asked = rw (← c.self.view_is) (record {
        in_turn = λ turns. absurd (false≢true (sym idle ∙ turns));
        between = λ _. record {
          same = record { key = refl; table = refl };
          watching = record {
            pass = c.start_commit.new.pass.seat.table_id;
            me = c.start_commit.new.pass.seat.me;
            its = at_there d _ _ _ _ _ _ _ _ _ (λ i. (c.deref.ensures i).table.shared.key) (λ i. (c.deref.ensures i).table.shared.table_id)
                (at_rest d _ _ _ _ _ _ _ idle started.ready here.honest (after_none (opening d) _ c.self.inside.pass.seat.me.0.seen c.start_commit.new.pass.seat.me.0.seen (d.seen c.self.inside.device) (d.may_leave c.self.inside.device) started.device here.after));
            seen = refl;
          };
          medium = refl;
          over = idle;
          kept = started.kept;
          leaves = rw (← c.deref.ensures) started.device;
          told = started.told;
          refused = rw (← c.deref.ensures) (commit_refused d _ _ _ _ _ _ _ _ _ _ _ _ (c.law_threads.ensures.refused (opening_of d.seen)) idle here started.kept started.ready started.told);
        };
      });
    }
