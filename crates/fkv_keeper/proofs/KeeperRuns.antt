-- One event after another: what holds of a keeper holds at every moment.
use Rattle.std.proofs.Common.{◌≡◌, ℕ, ◌∙◌, List, [], ◌∷◌, refl, ap, sym, subst, Bool, true, false}
use Rattle.std.specs.Prelude.{Option, Some, None, if◌then◌else◌, ◌||◌, ◌&&◌, not, nat_lt}
use Rattle.fkv_base.specs.declared.faults.Fault.TheVariants as fault
use Rattle.fkv_base.specs.declared.numbers.Version.{Version}
use Rattle.fkv_base.specs.declared.shapes.Shape.{Shape}
use Rattle.fkv_words.specs.declared.phase_words.PhaseSaid.{PhaseSaid}
use Rattle.fkv_words.specs.declared.phase_words.PhaseSaid.TheVariants.{Says}
use Rattle.fkv_words.specs.PhaseWords.{phase_said}
use Rattle.fkv_base.specs.declared.phases.Phase.TheVariants as phase
use Rattle.fkv_plane.specs.declared.actions.Action.{Action}
use Rattle.fkv_plane.specs.declared.asks.Ask.{Ask}
use Rattle.fkv_plane.specs.declared.asks.Ask.TheVariants.{Done}
use Rattle.fkv_plane.specs.declared.places.Places.{Places}
use Rattle.fkv_base.specs.declared.commits.CommitKind.{CommitKind}
use Rattle.fkv_keeper.specs.declared.answers.KeeperTold.{KeeperTold}
use Rattle.fkv_keeper.specs.declared.answers.KeeperTold.TheVariants.{Device, Turned, TurnRefused, CommitRefused}
use Rattle.fkv_keeper.specs.declared.keepers.Keeping.{Keeping}
use Rattle.fkv_keeper.specs.declared.keepers.Keeping.TheVariants.{Ended, Starts, Maintains, LoadsPhase, Enters, Copies, Seeks, Waits, Writes, Finishes, Sweeps}
use Rattle.fkv_maintain.specs.declared.maintaining.Maintaining.{Maintaining}
use Rattle.fkv_maintain.specs.declared.maintaining.Maintaining.TheVariants as part
use Rattle.fkv_maintain.specs.declared.maintaining.MaintainAnswer.{MaintainAnswer}
use Rattle.fkv_maintain.specs.declared.maintaining.MaintainAnswer.TheVariants as maintain
use Rattle.fkv_maintain.specs.Maintaining.{is_flush_resting, MaintainState, maintain_next, maintain_given, maintain_ask, maintaining_ask, maintain_called, maintaining_called, maintaining_made}
use Rattle.fkv_checkpoint.specs.Copying.{copy_begun}
use Rattle.fkv_commit.specs.declared.commits.Commit.{Commit}
use Rattle.fkv_commit.specs.Seeking.{seek_begun}
use Rattle.fkv_keeper.specs.Keeping.{KeeperState, is_copy_resting, ended, copies, part_begun, phase_ledto, writes_taken_up, keeper_ask, keeping_ask, is_sync, turned, commit_asked, turn_asked, maintain_ledto, keeping_next, keeping_given, keeping_called, unless_flush_rests, is_resting}
use Rattle.fkv_keeper.specs.KeeperRun.{KeeperEvent, BeginsTurn, BeginsCommit, Replies, Gets, Calls, is_in_hand, begins, keeper_happens, keeper_run, IsOpened, is_failure, has_failed, Writing, writing_after, writing, is_calling, open_after, open_told, number_open}
use Rattle.fkv_keeper.specs.KeeperAsks.{keeping_made, keeper_made, keeper_calls_asked}
use Rattle.fkv_base.specs.Limits.{is_specified}
use Rattle.fkv_manifest.specs.Committing.{CommitWriter, commit_next, commit_call}
use Rattle.fkv_manifest.specs.Made.{commit_run}
use Rattle.fkv_keeper.specs.KeeperLaws.{CopiesAgain, IsBeforePhase, IsBrokenForGood, IsResting, IsWritten, MayRest, IsMemoryRefused, number_in_hand, IsFinishOfBegun}
use Rattle.fkv_keeper.proofs.Happens.{happens_at, happens_so}
use Rattle.fkv_keeper.proofs.KeeperDevice.{keeper_asked_calls}
use Rattle.fkv_keeper.proofs.Classes.{happens_class}
use Rattle.fkv_keeper.proofs.Rests.{BeginsRest, RestsStill, begins_rest, rests_still}
use Rattle.fkv_keeper.proofs.KeeperSound.{IsRefused, IsGoing, Knows, KnowsWrites, IsStep, works_not, kept_writes, stays, reply_step, given_step, called_step, turn_step, commit_step}
use Rattle.std.specs.Option.{is_some}

-- what holds at every moment
pub record IsSound (shape : Shape) (failed : Bool) (w : Writing) (opened : Option Version) (s : KeeperState) : Type 0 where
  pub fails : failed ≡ true → s.is_broken ≡ true
  pub broken : s.is_broken ≡ true → IsRefused s.step
  pub knows : Knows shape s w s.step
  pub number : number_in_hand s.commit ≡ opened
  pub rests : s.rests ≡ true → IsResting shape s w

-- where an event goes on with a call, or begins one
begins_step : (shape : Shape) (w : Writing) (s begun : KeeperState) (step : Keeping) → s.step ≡ step → Knows shape s w step → IsStep shape w s begun → IsStep shape w s (begins s (is_in_hand step) begun)
begins_step shape w s begun (Ended its) e known its_step = its_step
begins_step shape w s begun Starts e known its_step = stays shape w s Starts tt e known
begins_step shape w s begun Maintains e known its_step = stays shape w s Maintains tt e known
begins_step shape w s begun LoadsPhase e known its_step = stays shape w s LoadsPhase tt e known
begins_step shape w s begun Enters e known its_step = stays shape w s Enters tt e known
begins_step shape w s begun Copies e known its_step = stays shape w s Copies tt e known
begins_step shape w s begun Seeks e known its_step = stays shape w s Seeks tt e known
begins_step shape w s begun Waits e known its_step = stays shape w s Waits tt e known
begins_step shape w s begun Writes e known its_step = stays shape w s Writes tt e known
begins_step shape w s begun Finishes e known its_step = stays shape w s Finishes tt e known
begins_step shape w s begun Sweeps e known its_step = stays shape w s Sweeps tt e known

unwritten : (step : Keeping) (after : KeeperState) (w : Writing) → writing_after step BeginsTurn after w ≡ w
unwritten Waits after w = refl
unwritten Writes after w = refl
unwritten step after w = refl

unwritten_commit : (step : Keeping) (kind : CommitKind) (after : KeeperState) (w : Writing) → writing_after step (BeginsCommit kind) after w ≡ w
unwritten_commit Waits kind after w = refl
unwritten_commit Writes kind after w = refl
unwritten_commit step kind after w = refl

reply_going : (step : Keeping) (reply : ℕ) (granted : Bool) → is_calling step (Replies reply granted) ≡ true → IsGoing step
reply_going (Ended its) reply granted calling = cc
reply_going step reply granted calling = tt

given_going : (step : Keeping) (action : Action) → is_calling step (Gets action) ≡ true → IsGoing step
given_going (Ended its) action calling = cc
given_going step action calling = tt

called_going : (step : Keeping) (done : Bool) (bytes : List ℕ) → is_calling step (Calls done bytes) ≡ true → IsGoing step
called_going (Ended its) done bytes calling = cc
called_going step done bytes calling = tt

happens_step : (shape : Shape) (p : Places) (w : Writing) (s : KeeperState) (step : Keeping) (event : KeeperEvent) → s.step ≡ step → (s.rests ≡ true → KnowsWrites shape s w) → Knows shape s w step → is_calling step event ≡ true → IsStep shape (writing_after step event (happens_at shape p s step event) w) s (happens_at shape p s step event)
happens_step shape p w s step BeginsTurn e resting known calling =
    subst (λ (x : Writing). IsStep shape x s (happens_at shape p s step BeginsTurn)) (sym (unwritten step (happens_at shape p s step BeginsTurn) w)) (begins_step shape w s (turn_asked s) step e known (turn_step shape w s s.is_broken refl))
happens_step shape p w s step (BeginsCommit kind) e resting known calling =
    subst (λ (x : Writing). IsStep shape x s (happens_at shape p s step (BeginsCommit kind))) (sym (unwritten_commit step kind (happens_at shape p s step (BeginsCommit kind)) w)) (begins_step shape w s (commit_asked s kind) step e known (commit_step shape w s kind s.is_broken s.rests refl))
happens_step shape p w s step (Replies reply granted) e resting known calling = reply_step shape p w s step reply granted (reply_going step reply granted calling) e resting known
happens_step shape p w s step (Gets action) e resting known calling = given_step shape p w s step action (given_going step action calling) e known
happens_step shape p w s step (Calls done bytes) e resting known calling = called_step shape p w s step done bytes (called_going step done bytes calling) e known

-- where no call is in hand, and none is begun, nothing happens
idle : (shape : Shape) (p : Places) (w : Writing) (s : KeeperState) (step : Keeping) (event : KeeperEvent) → is_calling step event ≡ false → (happens_at shape p s step event ≡ s) × (writing_after step event (happens_at shape p s step event) w ≡ w)
unfolding keeping_next keeping_given keeping_called
idle shape p w s (Ended its) BeginsTurn idles = cc
idle shape p w s (Ended its) (BeginsCommit kind) idles = cc
idle shape p w s (Ended its) (Replies reply granted) idles = (refl, refl)
idle shape p w s (Ended its) (Gets action) idles = (refl, refl)
idle shape p w s (Ended its) (Calls done bytes) idles = (refl, refl)
idle shape p w s step event idles = cc

-- a device that has failed stays so
refused_kept : (shape : Shape) (p : Places) (s : KeeperState) (step : Keeping) (event : KeeperEvent) → IsRefused step → s.is_broken ≡ true → (happens_at shape p s step event).is_broken ≡ true
unfolding keeping_next keeping_given keeping_called
refused_kept shape p s (Ended its) BeginsTurn refused broken = rw broken refl
refused_kept shape p s (Ended its) (BeginsCommit kind) refused broken = rw broken refl
refused_kept shape p s (Ended its) (Replies reply granted) refused broken = broken
refused_kept shape p s (Ended its) (Gets action) refused broken = broken
refused_kept shape p s (Ended its) (Calls done bytes) refused broken = broken
refused_kept shape p s step event refused broken = absurd refused

-- a call that it makes and that fails
part_breaks : (shape : Shape) (p : Places) (m : MaintainState) (step : Maintaining) (bytes : List ℕ) → nat_lt 0 (maintaining_made p m step) ≡ true → maintain_ask shape p (maintaining_called shape p m step false bytes) ≡ Done maintain.Broken
unfolding maintaining_made maintaining_called maintaining_ask
part_breaks shape p m part.Flushes bytes made = refl
part_breaks shape p m part.Serves bytes made = refl
part_breaks shape p m step bytes made = cc

broken_ledto : (s : KeeperState) (ask : Ask MaintainAnswer) → ask ≡ Done maintain.Broken → (maintain_ledto s ask).is_broken ≡ true
unfolding maintain_ledto
broken_ledto s ask e = rw e refl

made_breaks : (shape : Shape) (p : Places) (s : KeeperState) (step : Keeping) (bytes : List ℕ) → nat_lt 0 (keeping_made p s step) ≡ true → (keeping_called shape p s step false bytes).is_broken ≡ true
unfolding keeping_made keeping_called
made_breaks shape p s Maintains bytes made = broken_ledto (record s { maintain = maintain_called shape p s.maintain false bytes }) (maintain_ask shape p (maintain_called shape p s.maintain false bytes)) (part_breaks shape p s.maintain s.maintain.step bytes made)
made_breaks shape p s Writes bytes made = refl
made_breaks shape p s Sweeps bytes made = refl
made_breaks shape p s step bytes made = cc

asked_made : (n : ℕ) (ask : Ask KeeperTold) (bytes : List ℕ) → n ≡ keeper_calls_asked ask → is_failure (Calls false bytes) ask ≡ true → nat_lt 0 n ≡ true
asked_made n (Done Device) bytes made fails = rw made refl
asked_made n (Done told) bytes made fails = cc
asked_made n ask bytes made fails = cc

breaks : (shape : Shape) (p : Places) (s : KeeperState) (event : KeeperEvent) → is_failure event (keeper_ask shape p s) ≡ true → (happens_at shape p s s.step event).is_broken ≡ true
breaks shape p s (Calls false bytes) fails = made_breaks shape p s s.step bytes (asked_made (keeper_made p s) (keeper_ask shape p s) bytes (keeper_asked_calls shape p s) fails)
breaks shape p s event fails = cc

fails_after : (shape : Shape) (p : Places) (s : KeeperState) (event : KeeperEvent) (failed fails : Bool) → is_failure event (keeper_ask shape p s) ≡ fails → (failed ≡ true → s.is_broken ≡ true) → (s.is_broken ≡ true → IsRefused s.step) → (fails || failed) ≡ true → (happens_at shape p s s.step event).is_broken ≡ true
fails_after shape p s event failed true e was refused now = breaks shape p s event e
fails_after shape p s event failed false e was refused now = refused_kept shape p s s.step event (refused (was now)) (was now)

-- what was written of writes that rest
written_so_far : (shape : Shape) (s : KeeperState) (w : Writing) → IsResting shape s w → KnowsWrites shape s w
written_so_far shape s w its = record { commit = its.commit; in_hand = its.in_hand; writes = its.writes; run = its.run }

-- nothing is written while they rest
unwritten_resting : (step : Keeping) (event : KeeperEvent) (after : KeeperState) (w : Writing) → MayRest step → writing_after step event after w ≡ w
unwritten_resting Waits event after w may = absurd may
unwritten_resting Writes event after w may = absurd may
unwritten_resting step event after w may = refl

-- they rest still
still_rests : (shape : Shape) (p : Places) (s : KeeperState) (event : KeeperEvent) (w : Writing) → IsResting shape s w → RestsStill s (keeper_happens shape p s event) → IsResting shape (keeper_happens shape p s event) w
still_rests shape p s event w was still = record {
  works = still.works ∙ was.works;
  living = ap is_specified (happens_class shape p s event) ∙ was.living;
  rests = still.rests;
  serves = still.serves;
  commit = known.commit;
  in_hand = known.in_hand;
  writes = known.writes;
  run = known.run;
  due = ap (λ (x : CommitWriter). is_sync (commit_call x true)) still.writes ∙ was.due;
}
  where
    known : KnowsWrites shape (keeper_happens shape p s event) w
    known = kept_writes shape s (keeper_happens shape p s event) w still.commit still.writes still.used still.seek still.last still.lost (written_so_far shape s w was)

-- a test of two
both_hold : (a b : Bool) → (not a && b) ≡ true → (a ≡ false) × (b ≡ true)
both_hold false true holds = (refl, refl)
both_hold false false holds = cc
both_hold true b holds = cc

-- they begin to rest
now_rests : (shape : Shape) (s : KeeperState) (event : KeeperEvent) (a : KeeperState) (w : Writing) → BeginsRest s event a → Knows shape s w s.step → IsResting shape a (writing_after s.step event a w)
unfolding commit_run
now_rests shape s event a w its knows =
    let known : (s.is_broken ≡ false) × KnowsWrites shape s w = subst (λ (x : Keeping). Knows shape s w x) its.writes knows in
    let t : KeeperState = record s { writes = commit_next s.writes true; rests = true } in
    let due = both_hold (is_specified s.start.asked.class) (is_sync (commit_call (commit_next s.writes true) true)) its.due in
    let after : Writing = record w { answers = true ∷ w.answers } in
    let all : IsResting shape (turned t) after = record {
      works = known.0;
      living = due.0;
      rests = tt;
      serves = λ at. cc;
      commit = known.1.commit;
      in_hand = known.1.in_hand;
      writes = record { area = known.1.writes.area; step = known.1.writes.step; gate = known.1.writes.gate };
      run = ap (λ (x : CommitWriter). commit_next x true) known.1.run;
      due = due.1;
    } in
    let same : writing_after s.step event a w ≡ after = ap (λ (x : Keeping). writing_after x event a w) its.writes ∙ ap (λ (x : KeeperEvent). writing_after Writes x a w) its.called in
    subst (λ (x : Writing). IsResting shape a x) (sym same) (subst (λ (x : KeeperState). IsResting shape x after) (sym its.same) all)

rests_after : (shape : Shape) (p : Places) (s : KeeperState) (event : KeeperEvent) (w : Writing) → Knows shape s w s.step → (s.rests ≡ true → IsResting shape s w)
    → (happens_at shape p s s.step event).rests ≡ true → IsResting shape (happens_at shape p s s.step event) (writing_after s.step event (happens_at shape p s s.step event) w)
rests_after shape p s event w knows was is =
    subst (λ (x : KeeperState). IsResting shape x (writing_after s.step event x w)) (sym same) (by s.rests refl)
  where
    a : KeeperState
    a = keeper_happens shape p s event

    same : happens_at shape p s s.step event ≡ a
    same = happens_so shape p s event

    now : a.rests ≡ true
    now = ap (λ (x : KeeperState). x.rests) (sym same) ∙ is

    by : (rests : Bool) → s.rests ≡ rests → IsResting shape a (writing_after s.step event a w)
    by true rests =
        let its = was rests in
        subst (λ (x : Writing). IsResting shape a x) (sym (unwritten_resting s.step event a w its.rests)) (still_rests shape p s event w its (rests_still shape p s event rests (ap is_some its.in_hand) its.rests its.serves now))
    by false awake = now_rests shape s event a w (begins_rest shape p s event awake now) knows

-- one event
event_sound : (shape : Shape) (p : Places) (failed : Bool) (w : Writing) (number : Option Version) (s : KeeperState) (event : KeeperEvent) (calling : Bool) → is_calling s.step event ≡ calling → IsSound shape failed w number s
    → IsSound shape (is_failure event (keeper_ask shape p s) || failed) (writing_after s.step event (happens_at shape p s s.step event) w) (open_told calling (happens_at shape p s s.step event).step number) (happens_at shape p s s.step event)
event_sound shape p failed w number s event true e sound = record {
  fails = fails_after shape p s event failed (is_failure event (keeper_ask shape p s)) refl sound.fails sound.broken;
  broken = its.broken;
  knows = its.knows;
  number = its.number ∙ ap (open_after (happens_at shape p s s.step event).step) sound.number;
  rests = rests_after shape p s event w sound.knows sound.rests;
}
  where
    its : IsStep shape (writing_after s.step event (happens_at shape p s s.step event) w) s (happens_at shape p s s.step event)
    its = happens_step shape p w s s.step event refl (λ rests. written_so_far shape s w (sound.rests rests)) sound.knows e
event_sound shape p failed w number s event false e sound = record {
  fails = fails_after shape p s event failed (is_failure event (keeper_ask shape p s)) refl sound.fails sound.broken;
  broken = λ broken. subst (λ (x : KeeperState). IsRefused x.step) (sym same) (sound.broken (ap (λ (x : KeeperState). x.is_broken) (sym same) ∙ broken));
  knows = subst (λ (x : Writing). Knows shape a x a.step) (sym unwritten_so) (subst (λ (x : KeeperState). Knows shape x w x.step) (sym same) sound.knows);
  number = ap (λ (x : KeeperState). number_in_hand x.commit) same ∙ sound.number;
  rests = rests_after shape p s event w sound.knows sound.rests;
}
  where
    a : KeeperState
    a = happens_at shape p s s.step event

    same : a ≡ s
    same = (idle shape p w s s.step event e).0

    unwritten_so : writing_after s.step event (happens_at shape p s s.step event) w ≡ w
    unwritten_so = (idle shape p w s s.step event e).1

opening_sound : (shape : Shape) (w : Writing) (s : KeeperState) → IsOpened s → IsSound shape false w None s
opening_sound shape w s opened = record {
  fails = λ failed. cc;
  broken = λ broken. absurd (works_not s.is_broken opened.works broken);
  knows = rests s.step opened.none_in_hand;
  number = ap number_in_hand opened.no_commit;
  rests = λ resting. absurd (works_not s.rests opened.none_rest resting);
}
  where
    rests : (step : Keeping) → is_in_hand step ≡ false → Knows shape s w step
    rests (Ended its) e = tt
    rests step e = cc

pub run_sound : (shape : Shape) (p : Places) (opening : KeeperState) (events : List KeeperEvent) → IsOpened opening
    → IsSound shape (has_failed shape p opening events) (writing shape p opening events) (number_open shape p opening events) (keeper_run shape p opening events)
unfolding keeper_run has_failed writing number_open
run_sound shape p opening [] opened = opening_sound shape (record { first = opening.writes; answers = [] }) opening opened
run_sound shape p opening (event ∷ before) opened =
    subst (λ (x : KeeperState). IsSound shape failed (writing_after s.step event x (writing shape p opening before)) (open_told calling x.step (number_open shape p opening before)) x) (happens_so shape p s event)
    (event_sound shape p (has_failed shape p opening before) (writing shape p opening before) (number_open shape p opening before) s event calling refl (run_sound shape p opening before opened))
  where
    s : KeeperState
    s = keeper_run shape p opening before

    calling : Bool
    calling = is_calling s.step event

    failed : Bool
    failed = is_failure event (keeper_ask shape p s) || has_failed shape p opening before

-- what the law says of it
broken_for_good : (shape : Shape) (p : Places) (s : KeeperState) (step : Keeping) → s.step ≡ step → s.is_broken ≡ true → IsRefused step → IsBrokenForGood shape p s
unfolding keeping_ask
broken_for_good shape p s (Ended (TurnRefused why)) e broken refused = record {
  told = TurnRefused why;
  refused = refused;
  asks_nothing = rw e refl;
  no_turn = rw broken refl;
  no_commit = λ kind. rw broken refl;
}
broken_for_good shape p s (Ended (CommitRefused why)) e broken refused = record {
  told = CommitRefused why;
  refused = refused;
  asks_nothing = rw e refl;
  no_turn = rw broken refl;
  no_commit = λ kind. rw broken refl;
}
broken_for_good shape p s step e broken refused = absurd refused

pub run_broken : (shape : Shape) (p : Places) (opening : KeeperState) (events : List KeeperEvent) → IsOpened opening → has_failed shape p opening events ≡ true → IsBrokenForGood shape p (keeper_run shape p opening events)
run_broken shape p opening events opened failed = broken_for_good shape p s s.step refl broken (sound.broken broken)
  where
    s : KeeperState
    s = keeper_run shape p opening events

    sound : IsSound shape (has_failed shape p opening events) (writing shape p opening events) (number_open shape p opening events) s
    sound = run_sound shape p opening events opened

    broken : s.is_broken ≡ true
    broken = sound.fails failed

pub run_rests : (shape : Shape) (p : Places) (opening : KeeperState) (events : List KeeperEvent) → IsOpened opening → (keeper_run shape p opening events).rests ≡ true → IsResting shape (keeper_run shape p opening events) (writing shape p opening events)
run_rests shape p opening events opened rests = (run_sound shape p opening events opened).rests rests

pub run_finished : (shape : Shape) (p : Places) (opening : KeeperState) (events : List KeeperEvent) → IsOpened opening → (keeper_run shape p opening events).step ≡ Finishes → IsWritten shape (keeper_run shape p opening events) (writing shape p opening events)
run_finished shape p opening events opened e =
    (subst (λ (x : Keeping). Knows shape (keeper_run shape p opening events) (writing shape p opening events) x) e (run_sound shape p opening events opened).knows).1

run_step : (shape : Shape) (p : Places) (opening : KeeperState) (events : List KeeperEvent) (event : KeeperEvent) → IsOpened opening
    → is_calling (keeper_run shape p opening events).step event ≡ true
    → IsStep shape (writing_after (keeper_run shape p opening events).step event (keeper_run shape p opening (event ∷ events)) (writing shape p opening events)) (keeper_run shape p opening events) (keeper_run shape p opening (event ∷ events))
unfolding keeper_run
run_step shape p opening events event opened calling =
    subst (λ (x : KeeperState). IsStep shape (writing_after s.step event x (writing shape p opening events)) s x) (happens_so shape p s event)
    (happens_step shape p (writing shape p opening events) s s.step event refl (λ rests. written_so_far shape s (writing shape p opening events) (sound.rests rests)) sound.knows calling)
  where
    s : KeeperState
    s = keeper_run shape p opening events

    sound : IsSound shape (has_failed shape p opening events) (writing shape p opening events) (number_open shape p opening events) s
    sound = run_sound shape p opening events opened

pub run_memory : (shape : Shape) (p : Places) (opening : KeeperState) (events : List KeeperEvent) (event : KeeperEvent) → IsOpened opening
    → is_calling (keeper_run shape p opening events).step event ≡ true → (keeper_run shape p opening (event ∷ events)).step ≡ Ended (TurnRefused fault.Memory)
    → IsMemoryRefused (keeper_run shape p opening events) (keeper_run shape p opening (event ∷ events))
run_memory shape p opening events event opened calling ends = (run_step shape p opening events event opened calling).memory ends

finish_of : (s a : KeeperState) (number was : Option Version) → was ≡ number → IsFinishOfBegun was s a → IsFinishOfBegun number s a
finish_of s a number was same its = subst (λ (x : Option Version). IsFinishOfBegun x s a) same its

pub run_number : (shape : Shape) (p : Places) (opening : KeeperState) (events : List KeeperEvent) (event : KeeperEvent) (full : Bool) → IsOpened opening
    → is_calling (keeper_run shape p opening events).step event ≡ true → (keeper_run shape p opening (event ∷ events)).step ≡ Ended (Turned true full)
    → IsFinishOfBegun (number_open shape p opening events) (keeper_run shape p opening events) (keeper_run shape p opening (event ∷ events))
run_number shape p opening events event full opened calling ends =
    finish_of _ _ _ _ (run_sound shape p opening events opened).number ((run_step shape p opening events event opened calling).told full ends)

-- a copy that was refused begins again
maintain_commit : (s : KeeperState) (ask : Ask MaintainAnswer) → (maintain_ledto s ask).commit ≡ s.commit
unfolding maintain_ledto
maintain_commit s (Done maintain.Through) = refl
maintain_commit s (Done maintain.Spent) = refl
maintain_commit s (Done maintain.Broken) = refl
maintain_commit s ask = refl

either_commit : (b : Bool) (s a o : KeeperState) → a.commit ≡ s.commit → o.commit ≡ s.commit → (if b then a else o).commit ≡ s.commit
either_commit true s a o one other = one
either_commit false s a o one other = other

turn_commit : (shape : Shape) (p : Places) (s : KeeperState) (step : Keeping) (event : KeeperEvent) → IsBeforePhase step → (happens_at shape p s step event).commit ≡ s.commit
unfolding keeping_next keeping_given keeping_called
turn_commit shape p s (Ended its) BeginsTurn before = either_commit s.is_broken s _ _ refl refl
turn_commit shape p s (Ended its) (BeginsCommit kind) before = either_commit s.is_broken s _ _ refl (either_commit s.rests s _ _ refl refl)
turn_commit shape p s (Ended its) (Replies reply granted) before = refl
turn_commit shape p s (Ended its) (Gets action) before = refl
turn_commit shape p s (Ended its) (Calls done bytes) before = refl
turn_commit shape p s Maintains BeginsTurn before = refl
turn_commit shape p s Maintains (BeginsCommit kind) before = refl
turn_commit shape p s Maintains (Replies reply granted) before = maintain_commit _ (maintain_ask shape p (maintain_next shape p s.maintain reply))
turn_commit shape p s Maintains (Gets action) before = maintain_commit _ (maintain_ask shape p (maintain_given s.maintain action))
turn_commit shape p s Maintains (Calls done bytes) before = maintain_commit _ (maintain_ask shape p (maintain_called shape p s.maintain done bytes))
turn_commit shape p s step event before = absurd before

copies_either : (b : Bool) (p : Places) (s other : KeeperState) (granted : Bool) → b ≡ false → (if b then other else copies p s granted) ≡ copies p s granted
copies_either true p s other granted e = cc
copies_either false p s other granted e = refl

or_false : (a b : Bool) → (a || b) ≡ false → (a ≡ false) × (b ≡ false)
or_false true b e = cc
or_false false b e = (refl, e)

copies_found : (p : Places) (s : KeeperState) (found : Option Commit) (c : Commit) (said : PhaseSaid) (version : Version) (granted : Bool) → found ≡ Some c → c.is_copied ≡ false → said ≡ Says phase.WaitPending version
    → is_resting s ≡ false → phase_ledto p s found said granted ≡ copies p s granted
unfolding phase_ledto
copies_found p s None c said version granted e not_copied says awake = cc
copies_found p s (Some its) c said version granted e not_copied says awake =
    let same : its ≡ c = cc in
    let apart = or_false s.rests (is_flush_resting s.maintain) awake in
    ap (λ (x : Bool). if x then writes_taken_up s granted else unless_flush_rests s granted (part_begun p s its said granted)) apart.0
    ∙ ap (λ (x : Bool). if x then turned (record s { is_granted = granted }) else part_begun p s its said granted) apart.1
    ∙ ap (λ (x : PhaseSaid). part_begun p s its x granted) says
    ∙ copies_either its.is_copied p s (record s { seek = seek_begun s.seek its.number s.last.points; has_points = false; step = Seeks }) granted (ap (λ (x : Commit). x.is_copied) same ∙ not_copied)

copies_anew : (p : Places) (s : KeeperState) (rests : Bool) → is_copy_resting s.copy ≡ rests → rests ≡ false → copies p s true ≡ record s { copy = Some (copy_begun p); is_granted = true; step = Copies }
copies_anew p s rests is none = ap (λ (x : Bool). record s { copy = if x then s.copy else Some (copy_begun p); is_granted = true; step = Copies }) (is ∙ none)

copies_on : (p : Places) (s : KeeperState) (granted : Bool) → is_copy_resting s.copy ≡ true → copies p s granted ≡ record s { is_granted = true; step = Copies }
copies_on p s granted rests = ap (λ (x : Bool). if granted || x then record s { copy = if x then s.copy else Some (copy_begun p); is_granted = true; step = Copies } else ended (record s { is_granted = false }) (TurnRefused fault.Memory)) rests ∙ either_way granted
  where
    either_way : (b : Bool) → (if b || true then record s { is_granted = true; step = Copies } else ended (record s { is_granted = false }) (TurnRefused fault.Memory)) ≡ record s { is_granted = true; step = Copies }
    either_way true = refl
    either_way false = refl

pub copy_again : (shape : Shape) (p : Places) (s : KeeperState) → CopiesAgain shape p s
unfolding keeper_happens keeping_next
copy_again shape p s = record {
  kept = λ event before. ap (λ (x : KeeperState). x.commit) (sym (happens_so shape p s event)) ∙ turn_commit shape p s s.step event before;
  begins = λ c reply version awake e in_hand not_copied says none.
      ap (λ (x : Keeping). keeping_next shape p s x reply true) e ∙ (copies_found p s s.commit c (phase_said reply) version true in_hand not_copied says awake ∙ copies_anew p s (is_copy_resting s.copy) refl none);
  taken_up = λ c reply version granted awake e in_hand not_copied says rests.
      ap (λ (x : Keeping). keeping_next shape p s x reply granted) e ∙ (copies_found p s s.commit c (phase_said reply) version granted in_hand not_copied says awake ∙ copies_on p s granted rests);
}
