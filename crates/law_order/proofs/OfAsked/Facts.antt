-- What of a session that stands between events is said of its requests.
use Rattle.std.proofs.Common.{◌≡◌, ◌≢◌, ℕ, ◌∙◌, sym, ap, subst, true, false, List}
use Rattle.std.specs.Prelude.{Option, Some, slice_get}
use Rattle.law_commit.specs.Below.fkv_ops.DiskRecord.{DiskRecord}
use Rattle.law_commit.specs.Below.fkv_pending.TheAttempting.{Attempting}
use Rattle.law_commit.specs.Below.fkv_pending.TheAttempting.TheVariants.{Looks, Puts}
use Rattle.law_commit.specs.Below.fkv_pending.MailTask.{MailTask}
use Rattle.law_commit.specs.Below.fkv_pending.PendingRequest.{PendingRequest}
use Rattle.law_commit.specs.Below.fkv_pending.Mailbox.{MailNote}
use Rattle.law_commit.specs.Below.fkv_session.Sitting.{Sitting}
use Rattle.law_commit.specs.Below.fkv_session.Sitting.TheVariants.{Attempts, ClearsMail, Polls}
use Rattle.law_commit.specs.Below.fkv_session.Sessions.{SessionState, Seat, bits_of, room_of}
use Rattle.law_commit.specs.Below.fkv_session.Shares.{HasItsBuckets}
use Rattle.law_commit.specs.Below.law_local.Sessions.Known.{is_attempting}
use Rattle.law_order.specs.Asked.Asked.{AsksForSought, HasAskedSought, HaveAskedSought, LooksForAsked, outstanding}
use Rattle.law_order.proofs.OfAsked.Askers.{one_left, one_of}
use Rattle.law_order.proofs.OfAsked.Attempts.{PutsSought, AttemptAt}
use Rattle.law_order.proofs.OfAsked.Sitting.{SitsAsking, SessionAsks}

never : {A : Type 0} → false ≡ true → A
never e = cc

module _ (k : Seat) (buckets : HasItsBuckets k) (notes : List MailNote) (task : Option MailTask) (s : SessionState) (asks : SessionAsks k buckets (outstanding notes) task s) where
  abbrev Sits : Sitting → Type 0
  Sits step = SitsAsking k buckets (outstanding notes) task s step

  abbrev At : Attempting → Type 0
  At step = AttemptAt k.places (bits_of k) (room_of k) buckets task s.attempt step

  -- what is known of the attempt that is under way
  record Attempt : Type 0 where
    sought : HasAskedSought (outstanding notes) s.attempt.pending
    at : At s.attempt.step

  attempt_of : (step : Sitting) → Sits step → is_attempting step ≡ true → Attempt
  attempt_of (Attempts has_shifted) is attempting = record { sought = is.asks.sought; at = is.asks.at }
  attempt_of (Polls index) is attempting = record { sought = is.asks.sought; at = is.asks.at }
  attempt_of step is attempting = never attempting

  same_record : (one other : DiskRecord) → s.attempt.pending.sought ≡ Some one → s.attempt.pending.sought ≡ Some other → one ≡ other
  same_record one other is was = cc

  looks_at : (step : Attempting) → HasAskedSought (outstanding notes) s.attempt.pending → At step → LooksForAsked notes s.attempt step
  looks_at Looks sought at = λ it seeks. let its = sought at.0 in its.asks ∙ ap (λ (x : DiskRecord). Some x.addr) (same_record its.it it its.seeks seeks)
  looks_at step sought at = tt

  puts_at : (step : Attempting) → At step → AsksForSought task s.attempt step
  puts_at Puts at = λ stores it seeks. subst (PutsSought task (Some it)) stores (subst (λ (x : Option DiskRecord). PutsSought task x s.attempt.mailing) seeks at)
  puts_at step at = tt

  pub asks_looks : is_attempting s.step ≡ true → LooksForAsked notes s.attempt s.attempt.step
  asks_looks attempting = let its = attempt_of s.step asks attempting in looks_at s.attempt.step its.sought its.at

  pub asks_puts : is_attempting s.step ≡ true → AsksForSought task s.attempt s.attempt.step
  asks_puts attempting = let its = attempt_of s.step asks attempting in puts_at s.attempt.step its.at

  waiting_of : (step : Sitting) → Sits step → (index : ℕ) (pending : PendingRequest) → slice_get s.requests index ≡ Some pending → step ≢ Polls index → HasAskedSought (outstanding notes) pending
  waiting_of (Polls polled) is index pending got other = one_left (outstanding notes) s.requests polled index pending got (λ e. other (ap Polls (sym e))) is.all
  waiting_of (Attempts has_shifted) is index pending got other = one_of (outstanding notes) s.requests index pending got is.all
  waiting_of ClearsMail is index pending got other = one_of (outstanding notes) s.requests index pending got is.0.all
  waiting_of step is index pending got other = one_of (outstanding notes) s.requests index pending got is.all

  pub asks_sought : HaveAskedSought notes s
  asks_sought = record {
    waiting = λ index pending got other. waiting_of s.step asks index pending got other;
    attempted = λ attempting. (attempt_of s.step asks attempting).sought;
  }
