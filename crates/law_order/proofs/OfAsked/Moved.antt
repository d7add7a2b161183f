-- What a session's requests have asked for, over a whole step of it, and as a task begins.
use Rattle.std.proofs.Common.{◌≡◌, ℕ, ◌∙◌, refl, sym, ap, subst, Bool, true, false, List}
use Rattle.std.specs.Prelude.{Option, Some, None}
use Rattle.fkv_base.specs.declared.numbers.Addr.{Addr}
use Rattle.fkv_plane.specs.declared.actions.Action.{Action}
use Rattle.fkv_plane.specs.declared.asks.Ask.{Ask}
use Rattle.fkv_plane.specs.declared.asks.Ask.TheVariants.{Put, Take, Done}
use Rattle.fkv_plane.specs.Asked.{reply_to}
use Rattle.fkv_plane.specs.Passing.{is_done}
use Rattle.fkv_plane.specs.Plane.{action_at}
use Rattle.fkv_plane.proofs.Shown.{passed_done, passed_reply}
use Rattle.law_commit.specs.Below.fkv_ops.Trying.{try_ask}
use Rattle.law_commit.specs.Below.fkv_pending.TheAttempting.{Attempting}
use Rattle.law_commit.specs.Below.fkv_pending.TheAttempting.TheVariants.{Ended, Looks, Tries, Puts}
use Rattle.law_commit.specs.Below.fkv_pending.MailTask.{MailTask}
use Rattle.law_commit.specs.Below.fkv_pending.MailTask.TheVariants as task
use Rattle.law_commit.specs.Below.fkv_pending.TheMailing.{Mailing}
use Rattle.law_commit.specs.Below.fkv_pending.TheMailing.TheVariants as mailing
use Rattle.law_commit.specs.Below.fkv_pending.PendingRequest.{PendingRequest}
use Rattle.law_commit.specs.Below.fkv_ops.DiskRecord.{DiskRecord}
use Rattle.law_commit.specs.Below.fkv_ops.Occasion.{Occasion}
use Rattle.law_commit.specs.Below.fkv_pending.Attempting.{AttemptState, attempting_ask, attempt_ask}
use Rattle.law_commit.specs.Below.fkv_pending.Mailing.{mail_ask}
use Rattle.law_commit.proofs.Below.fkv_pending.Shown.{is_attempt_end, attempt_done, mail_done}
use Rattle.law_commit.specs.Below.fkv_session.Told.{Told as Answer}
use Rattle.law_commit.specs.Below.fkv_session.Sitting.{Sitting}
use Rattle.law_commit.specs.Below.fkv_session.Sitting.TheVariants.{Attempts, ClearsMail, Polls}
use Rattle.law_commit.specs.Below.fkv_session.Sessions.{SessionState, Seat, bits_of, room_of, sitting_ask, session_ask}
use Rattle.law_commit.specs.Below.fkv_session.Shares.{HasItsBuckets}
use Rattle.law_commit.specs.Below.fkv_world.Moves.{Near, session_gets, session_settled, session_replied, session_asks}
use Rattle.law_commit.specs.Below.law_world.GuardKeeper.Settled.{is_of_slot}
use Rattle.law_commit.specs.Below.law_refine.Mail.Mailers.{attempt_mailing, sitting_mailing, session_mailing}
use Rattle.law_order.proofs.OfAsked.Attempts.{PutsSought, AttemptAt}
use Rattle.law_order.proofs.OfAsked.Sitting.{IsAttempt, SitsAsking, SessionAsks, given_asks, next_asks}
use Rattle.law_order.proofs.OfAsked.Told.{IsAt, Told, under_way}
use Rattle.law_order.proofs.OfAsked.Tries.{mail_slot, passed_slot, run_slot}

-- its own ask is replied as its mail machine's, where one is under way
attempt_reply : (k : Seat) (a : AttemptState) (step : Attempting) (its : Mailing) (words : List ℕ) → attempt_mailing a step ≡ Some its → reply_to words (attempting_ask k.places k.number a step) ≡ reply_to words (mail_ask k.number its)
unfolding attempting_ask
attempt_reply k a (Ended end) its words e = cc
attempt_reply k a Looks its words e = passed_reply words (mail_ask k.number a.mailing) _ ∙ (let same : a.mailing ≡ its = cc in ap (λ (x : Mailing). reply_to words (mail_ask k.number x)) same)
attempt_reply k a Tries its words e = cc
attempt_reply k a Puts its words e = passed_reply words (mail_ask k.number a.mailing) _ ∙ (let same : a.mailing ≡ its = cc in ap (λ (x : Mailing). reply_to words (mail_ask k.number x)) same)

sitting_reply : (k : Seat) (s : SessionState) (step : Sitting) (its : Mailing) (words : List ℕ) → sitting_mailing s step ≡ Some its → reply_to words (sitting_ask k s step) ≡ reply_to words (mail_ask k.number its)
unfolding sitting_ask
sitting_reply k s (Attempts has_shifted) its words e = passed_reply words (attempt_ask k.places k.number s.attempt) _ ∙ attempt_reply k s.attempt s.attempt.step its words e
sitting_reply k s (Polls index) its words e = passed_reply words (attempt_ask k.places k.number s.attempt) _ ∙ attempt_reply k s.attempt s.attempt.step its words e
sitting_reply k s ClearsMail its words e = passed_reply words (mail_ask k.number s.mailing) _ ∙ (let same : s.mailing ≡ its = cc in ap (λ (x : Mailing). reply_to words (mail_ask k.number x)) same)
sitting_reply k s step its words e = cc

pub own_reply : (k : Seat) (s : SessionState) (its : Mailing) (words : List ℕ) → session_mailing s ≡ Some its → reply_to words (session_ask k s) ≡ reply_to words (mail_ask k.number its)
own_reply k s its words e = sitting_reply k s s.step its words e

-- a machine's first step
abbrev pub is_first : Mailing → Bool
is_first (mailing.LoadsState its) = true
is_first (mailing.StoresAddress addr) = true
is_first step = false

clash : {A : Type 0} (c : Bool) → c ≡ true → c ≡ false → A
clash c one other = cc

-- where no mail machine is under way
told_same : (asked : Option Addr) (its : Option MailTask) (found : Option Mailing) (reply : ℕ) (asked' : Option Addr) → found ≡ None → Told asked its found reply asked' → asked' ≡ asked
told_same asked its None reply asked' none tells = tells
told_same asked its (Some step) reply asked' none tells = cc

none_told : (asked : Option Addr) (its : Option MailTask) (found : Option Mailing) (reply : ℕ) → found ≡ None → Told asked its found reply asked
none_told asked its None reply none = refl
none_told asked its (Some step) reply none = cc

end_mailing : (a : AttemptState) (step : Attempting) → is_attempt_end step ≡ true → attempt_mailing a step ≡ None
end_mailing a (Ended its) is = refl
end_mailing a step is = cc

module _ (k : Seat) (buckets : HasItsBuckets k) where
  abbrev At : Option MailTask → AttemptState → Attempting → Type 0
  At its a step = AttemptAt k.places (bits_of k) (room_of k) buckets its a step

  -- ---- asks of slots, and none
  attempt_slot : (its : Option MailTask) (a : AttemptState) (step : Attempting) → At its a step → is_of_slot (attempting_ask k.places k.number a step) ≡ false
  unfolding attempting_ask
  attempt_slot its a (Ended end) at = refl
  attempt_slot its a Looks at = passed_slot (mail_ask k.number a.mailing) _ ∙ mail_slot k.number a.mailing
  attempt_slot its a Tries at = passed_slot (try_ask k.places a.trial) _ ∙ run_slot k.places (bits_of k) (room_of k) buckets a.seen a.occasion a.trial at
  attempt_slot its a Puts at = passed_slot (mail_ask k.number a.mailing) _ ∙ mail_slot k.number a.mailing

  -- a session that asks for a slot has no mail machine under way
  sitting_slot : (asked : Option Addr) (its : Option MailTask) (s : SessionState) (step : Sitting) → SitsAsking k buckets asked its s step → is_of_slot (sitting_ask k s step) ≡ true → sitting_mailing s step ≡ None
  unfolding sitting_ask
  sitting_slot asked its s (Attempts has_shifted) sits slot = clash _ slot (passed_slot (attempt_ask k.places k.number s.attempt) _ ∙ attempt_slot its s.attempt s.attempt.step sits.asks.at)
  sitting_slot asked its s (Polls index) sits slot = clash _ slot (passed_slot (attempt_ask k.places k.number s.attempt) _ ∙ attempt_slot its s.attempt s.attempt.step sits.asks.at)
  sitting_slot asked its s ClearsMail sits slot = clash _ slot (passed_slot (mail_ask k.number s.mailing) _ ∙ mail_slot k.number s.mailing)
  sitting_slot asked its s step sits slot = refl

  attempt_end : (asked : Option Addr) (its : Option MailTask) (others : List PendingRequest) (occasion : Occasion) (a : AttemptState) → IsAttempt k buckets asked its others occasion a → is_done (attempt_ask k.places k.number a) ≡ true → attempt_mailing a a.step ≡ None
  attempt_end asked its others occasion a is done = end_mailing a a.step (sym (attempt_done k.places k.number a is.rests) ∙ done)

  -- one that asks for nothing has no mail machine under way
  sitting_done : (asked : Option Addr) (its : Option MailTask) (s : SessionState) (step : Sitting) → SitsAsking k buckets asked its s step → is_done (sitting_ask k s step) ≡ true → sitting_mailing s step ≡ None
  unfolding sitting_ask
  sitting_done asked its s (Attempts has_shifted) sits done = attempt_end asked its _ _ s.attempt sits (sym (passed_done (attempt_ask k.places k.number s.attempt) _) ∙ done)
  sitting_done asked its s (Polls index) sits done = attempt_end asked its _ _ s.attempt sits (sym (passed_done (attempt_ask k.places k.number s.attempt) _) ∙ done)
  sitting_done asked its s ClearsMail sits done = clash _ done (passed_done (mail_ask k.number s.mailing) _ ∙ (mail_done k.number s.mailing ∙ under_way its task.Clear s.mailing sits.2))
  sitting_done asked its s step sits done = refl

  -- ---- a whole step
  gets_asks : (asked : Option Addr) (its : Option MailTask) (s : SessionState) (found : Option Action) → SessionAsks k buckets asked its s → SessionAsks k buckets asked its (session_gets k s found)
  gets_asks asked its s None sits = sits
  gets_asks asked its s (Some action) sits = given_asks k buckets asked its s action sits

  settled_asks : (asked : Option Addr) (its : Option MailTask) (n : Near SessionState) (ask : Ask Answer) → session_ask k n.machine ≡ ask → SessionAsks k buckets asked its n.machine → SessionAsks k buckets asked its (session_settled k n ask).machine
  unfolding session_settled
  settled_asks asked its n (Put slot action) e sits =
      next_asks k buckets asked its asked n.machine 0 sits (none_told asked its (session_mailing n.machine) 0 (sitting_slot asked its n.machine n.machine.step sits (ap is_of_slot e)))
  settled_asks asked its n (Take slot) e sits = gets_asks asked its n.machine (action_at n.actions slot) sits
  settled_asks asked its n ask e sits = sits

  pub moved_asks : (asked : Option Addr) (its : Option MailTask) (asked' : Option Addr) (n : Near SessionState) (ask : Ask Answer) → session_ask k n.machine ≡ ask → SessionAsks k buckets asked its n.machine
      → Told asked its (session_mailing n.machine) (reply_to n.words ask) asked' → SessionAsks k buckets asked' its (session_asks k n ask).machine
  unfolding session_asks session_settled
  moved_asks asked its asked' n (Done answer) e sits tells =
      let same : asked' ≡ asked = told_same asked its (session_mailing n.machine) 0 asked' (sitting_done asked its n.machine n.machine.step sits (ap is_done e)) tells in
      subst (λ (x : Option Addr). SessionAsks k buckets x its n.machine) (sym same) sits
  moved_asks asked its asked' n (Put slot action) e sits tells = next_asks k buckets asked its asked' n.machine 0 sits tells
  moved_asks asked its asked' n (Take slot) e sits tells =
      let same : asked' ≡ asked = told_same asked its (session_mailing n.machine) 0 asked' (sitting_slot asked its n.machine n.machine.step sits (ap is_of_slot e)) tells in
      subst (λ (x : Option Addr). SessionAsks k buckets x its (session_gets k n.machine (action_at n.actions slot))) (sym same) (gets_asks asked its n.machine (action_at n.actions slot) sits)
  moved_asks asked its asked' n ask e sits tells =
      settled_asks asked' its (session_replied k n ask) (session_ask k (session_replied k n ask).machine) refl (next_asks k buckets asked its asked' n.machine (reply_to n.words ask) sits tells)

  -- ---- the task that is told to be under way counts behind a machine's first step alone
  at_task : (its its' : Option MailTask) (of : MailTask) (step : Mailing) → (is_first step ≡ false → its' ≡ its) → IsAt its of step → IsAt its' of step
  at_task its its' of (mailing.Ended end) same at = absurd at
  at_task its its' of (mailing.LoadsState begun) same at = at
  at_task its its' of (mailing.StoresAddress addr) same at = at
  at_task its its' of step same at = same refl ∙ at

  puts_task : (its its' : Option MailTask) (sought : Option DiskRecord) (step : Mailing) → (is_first step ≡ false → its' ≡ its) → PutsSought its sought step → PutsSought its' sought step
  puts_task its its' None step same at = at
  puts_task its its' (Some it) step same at = at_task its its' (task.Put it.addr) step same at

  attempt_task : (its its' : Option MailTask) (a : AttemptState) (step : Attempting) → ((m : Mailing) → attempt_mailing a step ≡ Some m → is_first m ≡ false → its' ≡ its) → At its a step → At its' a step
  attempt_task its its' a (Ended end) same at = at
  attempt_task its its' a Looks same at = (at.0, at_task its its' task.Take a.mailing (same a.mailing refl) at.1)
  attempt_task its its' a Tries same at = at
  attempt_task its its' a Puts same at = puts_task its its' a.pending.sought a.mailing (same a.mailing refl) at

  is_task : (asked : Option Addr) (its its' : Option MailTask) (others : List PendingRequest) (occasion : Occasion) (a : AttemptState) → ((m : Mailing) → attempt_mailing a a.step ≡ Some m → is_first m ≡ false → its' ≡ its)
      → IsAttempt k buckets asked its others occasion a → IsAttempt k buckets asked its' others occasion a
  is_task asked its its' others occasion a same is = record {
    all = is.all;
    asks = record { same = is.asks.same; sought = is.asks.sought; few = is.asks.few; at = attempt_task its its' a a.step same is.asks.at };
    rests = is.rests;
  }

  sitting_task : (asked : Option Addr) (its its' : Option MailTask) (s : SessionState) (step : Sitting) → ((m : Mailing) → sitting_mailing s step ≡ Some m → is_first m ≡ false → its' ≡ its) → SitsAsking k buckets asked its s step → SitsAsking k buckets asked its' s step
  sitting_task asked its its' s (Attempts has_shifted) same sits = is_task asked its its' _ _ s.attempt same sits
  sitting_task asked its its' s (Polls index) same sits = is_task asked its its' _ _ s.attempt same sits
  sitting_task asked its its' s ClearsMail same sits = (sits.0, sits.1, at_task its its' task.Clear s.mailing (same s.mailing refl) sits.2)
  sitting_task asked its its' s step same sits = sits

  pub task_asks : (asked : Option Addr) (its its' : Option MailTask) (s : SessionState) → ((m : Mailing) → session_mailing s ≡ Some m → is_first m ≡ false → its' ≡ its) → SessionAsks k buckets asked its s → SessionAsks k buckets asked its' s
  task_asks asked its its' s same sits = sitting_task asked its its' s s.step same sits
