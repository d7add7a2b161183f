-- Two sessions of one table have met.
use Rattle.std.proofs.Common.{◌≡◌, ◌⊎◌, inl, inr, ℕ, Bool, true, false, List, length, ◌++◌, append_assoc, refl, ap, sym, subst, ◌∙◌}
use Rattle.std.specs.Prelude.{if◌then◌else◌, nat_le}
use Rattle.atomic_table.specs.Seated.{TableId}
use Rattle.atomic_table.specs.Table.{Me}
use Rattle.fkv_base.specs.declared.numbers.Key.{Key}
use Rattle.fkv_map.specs.declared.operations.Call.TheVariants as call
use Rattle.fkv_map.specs.declared.operations.Op.TheVariants.{Read}
use Rattle.fkv_map.specs.declared.operations.Reply.{Reply}
use Rattle.fkv_opening.specs.declared.opened_store.Opened.{Opened}
use Rattle.fkv_seats.specs.Rule.{GoesOn, longer}
use Rattle.fkv_seats.specs.declared.views.Role.{Role}
use Rattle.fkv_seats.specs.declared.views.Role.TheVariants.{Sits}
use Rattle.fkv_session.specs.Sessions.{Sitter}
use Rattle.law_threads.specs.Below.fkv_table.Calls.{IsReady}
use Rattle.law_threads.specs.Below.fkv_table.Desks.{Slot, Knows}
use Rattle.law_threads.specs.Below.fkv_table.Happening.{Happening}
use Rattle.law_threads.specs.Below.fkv_table.Meets as met
use Rattle.law_threads.specs.Below.fkv_table.Meets.{AreTwoReady}
use Rattle.law_threads.specs.Below.fkv_table.Planes.{plane}
use Rattle.law_threads.specs.Below.fkv_world.Runs.{World}
use Rattle.law_threads.specs.Below.fkv_world.World.{Now}
use Rattle.law_threads.specs.Calls.{CallRun, IsOver, events_of}
use Rattle.law_threads.specs.Laws.{GoesOnFromWhatWasSeen, IsWithin}
use Rattle.law_threads.specs.Threads.{IsReadSince}
use Rattle.fkv_threads.specs.Meetings.{HasLearned, IsMeetingOf, IsRead, ReadsWhatTheOtherSaw}
use Rattle.fkv_threads.specs.Models.{Sitting, sitting_of}
use Rattle.fkv_threads.specs.Runs.{IsLawful, run_of}
use Rattle.fkv_threads.proofs.Shares.{ready_at}

module _ {K : Type 0} (at : K → World) where
  pub two_ready : (key key' : K) (table table' seat seat' : TableId) (me me' : Me Slot (Knows K)) (m m' : Sitter) (desk desk' : ℕ) → key ≡ key' → table ≡ table' → ¬ (m.seat.number ≡ m'.seat.number) → IsReady at key table seat me m desk
      → IsReady at key' table' seat' me' m' desk' → AreTwoReady at key table seat seat' me me'
  two_ready key key' table table' seat seat' me me' m m' desk desk' same_key same_table apart one other = record {
    first = m;
    second = m';
    desk = desk;
    desk' = desk';
    first_ready = one;
    second_ready = ready_at at key' key table' table seat' me' m' desk' same_key same_table other;
    apart = apart;
  }

  -- what a session has learned, by what its pass has
  learned : GoesOnFromWhatWasSeen at → (key : K) (table seat : TableId) (me me' : Me Slot (Knows K)) (m : Sitter) (desk : ℕ) (seen : List Happening) → me.0.role ≡ Sits m.seat.number → me'.0.seen ≡ seen → GoesOn (plane at) me.0.role me.0.seen me'.0.seen
      → IsReady at key table seat me' m desk → HasLearned at (sitting_of key table m me) seen (sitting_of key table m me')
  learned law key table seat me me' m desk seen role same on ready =
      let its : GoesOn (plane at) (Sits m.seat.number) me.0.seen seen = subst (λ (z : Role × List Happening). GoesOn (plane at) z.0 me.0.seen z.1) (λ i. (role i, same i)) on in
      record {
        its = λ i. record { key = key; table = table; number = m.seat.number; seen = same i; finished = m.state.finished };
        sits = record { pass = seat; me = me'; machine = m; desk = desk; ready = ready; number = refl; seen = refl; finished = refl };
        goes_on = its;
        history = λ n bytes. law.history n bytes me.0.seen seen (its.between, its.whole);
      }

  one_of : (b : Bool) (xs ys : List Happening) → ((if b then ys else xs) ≡ xs) ⊎ ((if b then ys else xs) ≡ ys)
  one_of true xs ys = inr refl
  one_of false xs ys = inl refl

  pub meeting_of : GoesOnFromWhatWasSeen at → (key key' : K) (table table' seat seat' seat1 seat1' : TableId) (me me' me1 me1' : Me Slot (Knows K)) (m m' : Sitter) (desk desk' : ℕ) → IsReady at key table seat me m desk → IsReady at key' table' seat' me' m' desk'
      → met.HaveMet at me me' me1 me1' → IsReady at key table seat1 me1 m desk → IsReady at key' table' seat1' me1' m' desk' → IsMeetingOf at (sitting_of key table m me) (sitting_of key' table' m' me') (sitting_of key table m me1) (sitting_of key' table' m' me1')
  meeting_of law key key' table table' seat seat' seat1 seat1' me me' me1 me1' m m' desk desk' one other have ready ready' = record {
    seen = longer (plane at) me.0.seen me'.0.seen;
    first = learned law key table seat1 me me1 m desk (longer (plane at) me.0.seen me'.0.seen) one.rests.seated.role have.first_seen have.first_on ready;
    second = learned law key' table' seat1' me' me1' m' desk' (longer (plane at) me.0.seen me'.0.seen) other.rests.seated.role have.second_seen have.second_on ready';
    whose = one_of (nat_le (length me.0.seen) (length me'.0.seen)) me.0.seen me'.0.seen;
  }

  -- a read holds what its session had seen at the call, also if a poll answers it
  read_since : (s s' : Sitting K) (key : Key) (reply : Reply) (o : Opened) (n : Now) (bytes : List ℕ) → IsRead at s key reply s' → IsOver at s.key o n bytes → IsWithin o n bytes (events_of s'.seen) → IsReadSince o n bytes s.seen s'.seen key reply
  read_since s s' key reply o n bytes (inl its) over within = its.called.in_lives.reads o n bytes over within key reply refl its.told
  read_since s s' key reply o n bytes (inr its) over within =
      let asked : CallRun = run_of s.number (call.Op (Read key)) its.answer s.seen its.waits.seen in
      let poll : CallRun = run_of its.polls.number call.Poll its.told its.polls.seen s'.seen in
      let law : IsLawful at s.key poll IsWithin = subst (λ (x : K). IsLawful at x poll IsWithin) its.same its.polled.in_lives in
      law.polled o n bytes asked over its.called.called within within key reply its.finished

  -- a read of the one holds what the other had seen
  pub reads_other : GoesOnFromWhatWasSeen at → ReadsWhatTheOtherSaw at
  reads_other law one other one' other' later after key reply meeting behind read o n bytes over within =
      let on = meeting.first.goes_on in
      let same : meeting.seen ≡ other'.seen = λ i. (sym meeting.second.its i).seen in
      let whole : later.seen ≡ (behind.0 ++ on.between) ++ one.seen = behind.1 ∙ (ap (λ (x : List Happening). behind.0 ++ x) (sym same ∙ on.whole) ∙ sym (append_assoc behind.0 on.between one.seen)) in
      law.reads o n bytes one.seen later.seen after.seen key reply (behind.0 ++ on.between, whole) (read_since later after key reply o n bytes read over within)
