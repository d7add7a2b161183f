-- So no read's try is turned away, at any moment of a life.
use Rattle.std.proofs.Common.{◌≡◌, ℕ, ◌+◌, ◌<◌, ◌∙◌, sym, ap, subst, true, false, List}
use Rattle.std.specs.Prelude.{⊤}
use Rattle.fkv_base.specs.declared.numbers.Addr.{Addr}
use Rattle.fkv_base.specs.declared.numbers.Key.{Key}
use Rattle.fkv_index.specs.declared.finding.FindStep.TheVariants as find
use Rattle.fkv_index.specs.Finding.{find_ask, find_step_ask}
use Rattle.law_commit.specs.Below.fkv_ops.Request.{Request}
use Rattle.law_commit.specs.Below.fkv_ops.TheTrying.TheVariants.{Walks}
use Rattle.law_commit.specs.Below.fkv_ops.WalkAnswer.TheVariants as walk
use Rattle.law_commit.specs.Below.fkv_ops.TheWalking.TheVariants.{Finds}
use Rattle.law_commit.specs.Below.fkv_ops.TryAnswer.TheVariants as answer
use Rattle.law_commit.specs.Below.fkv_ops.Requests.{is_read}
use Rattle.law_commit.specs.Below.fkv_ops.Trying.{TryState, try_ask, trying_ask}
use Rattle.law_commit.specs.Below.fkv_ops.Walking.{walk_ask, walking_ask}
use Rattle.law_commit.specs.Below.fkv_pending.TheAttempting.{Attempting}
use Rattle.law_commit.specs.Below.fkv_pending.TheAttempting.TheVariants.{Tries}
use Rattle.law_commit.specs.Below.fkv_pending.PendingRequest.{PendingRequest}
use Rattle.law_commit.specs.Below.fkv_pending.Attempting.{AttemptState}
use Rattle.fkv_plane.specs.declared.places.Places.{Places}
use Rattle.fkv_plane.specs.Passing.{is_done, passed}
use Rattle.fkv_plane.proofs.Shown.{passed_done}
use Rattle.law_commit.specs.Below.fkv_session.Sitting.{Sitting}
use Rattle.law_commit.specs.Below.fkv_session.Sitting.TheVariants.{Attempts, Polls}
use Rattle.law_commit.specs.Below.fkv_session.Sessions.{Seat, SessionState, room_of}
use Rattle.law_commit.specs.Below.fkv_world.Runs.{run}
use Rattle.law_commit.specs.Below.fkv_world.World.{Event, Now, seat_at}
use Rattle.law_apart.specs.Apart.Rows.{AttemptApart}
use Rattle.law_commit.specs.Quiet.{rank_now}
use Rattle.law_commit.specs.Below.law_local.Sessions.Known.{is_attempting}
use Rattle.law_commit.specs.Below.law_local.Tries.AttemptRows as local
use Rattle.law_commit.specs.Below.law_local.Tries.Replies.{IsTrueReply}
use Rattle.law_commit.specs.Below.law_local.Tries.TryRows.{TryRow, head_in, key_in}
use Rattle.law_commit.proofs.Below.law_local.OfTries.OnWay.{orderly}
use Rattle.law_log.specs.Enabled.{AreEnabled}
use Rattle.law_log.specs.Ghosts.{Log}
use Rattle.law_log.specs.Trace.{IsIn}
use Rattle.law_order.specs.Apart.Given.{Given}
use Rattle.law_order.specs.Apart.Lives.{AllApartBehind, OpensApart}
use Rattle.law_order.specs.Known.Begins.{BegunLife, home_of_world}
use Rattle.law_order.specs.Known.Knows.{AllKnowBehind}
use Rattle.law_order.specs.Known.Told.{AreToldTruly, reply_in}
use Rattle.law_order.specs.Ordered.Met.{MeetsItsReads}
use Rattle.law_order.proofs.OfApart.Newest.{held, in_ring, links_none, search}
use Rattle.law_order.proofs.OfOrdered.Tries.{WalksOn, not_both, try_met}
use Rattle.law_order.proofs.OfShifts.Attempts.{AttemptRow}
use Rattle.law_order.proofs.OfShifts.Life.{AllShiftSo}
use Rattle.law_order.proofs.OfShifts.Catches.{HasPassed}
use Rattle.law_order.proofs.OfShifts.Sessions.{Come, SitsRow}
use Rattle.law_order.proofs.OfShifts.Tries.{ShiftRow}
use Rattle.law_order.proofs.OfShifts.Walks.{LoadsNone}
use Rattle.law_commit.specs.Below.law_refine.Events.GhostEvents.{life_ghosts, mapped}

-- ---- what its walk loads
row_walks : (X F : Type 0) (C : PendingRequest → Type 0) (p : Places) (a : AttemptState) → a.step ≡ Tries → a.trial.step ≡ Walks → AttemptRow X F C p a a.step → LoadsNone a.trial.walk.step
row_walks X F C p a tries walks row =
    let its : AttemptRow X F C p a Tries = subst (AttemptRow X F C p a) tries row in
    subst (ShiftRow X F p a.trial) walks its.1

sits_walks : (top : ℕ) (k : Seat) (s : SessionState) (step : Sitting) → is_attempting step ≡ true → s.attempt.step ≡ Tries → s.attempt.trial.step ≡ Walks → SitsRow top k s step → LoadsNone s.attempt.trial.walk.step
sits_walks top k s (Attempts false) attempts tries walks row = row_walks (HasPassed top s.seen) ⊤ (λ pending. ⊤) k.places s.attempt tries walks row.row
sits_walks top k s (Attempts true) attempts tries walks row = row_walks ⊥ ⊤ (λ pending. ⊤) k.places s.attempt tries walks row.1.row
sits_walks top k s (Polls i) attempts tries walks row = row_walks ⊥ ⊥ (Come s.seen) k.places s.attempt tries walks row.row
sits_walks top k s step attempts tries walks row = cc

-- a try that searches is about to ask
searches_on : (p : Places) (t : TryState) → t.step ≡ Walks → t.walk.step ≡ Finds → is_done (try_ask p t) ≡ false → t.walk.finding.step ≡ find.AtRest → ⊥
unfolding trying_ask walking_ask find_step_ask
searches_on p t walks finds going rests =
    let one : is_done (passed (walk_ask p t.walk) answer.Shift) ≡ false = ap (λ step. is_done (trying_ask p t step)) (sym walks) ∙ going in
    let other : is_done (walking_ask p t.walk t.walk.step) ≡ false = sym (passed_done (walk_ask p t.walk) answer.Shift) ∙ one in
    let third : is_done (passed (find_ask t.walk.finding) walk.Contended) ≡ false = ap (λ step. is_done (walking_ask p t.walk step)) (sym finds) ∙ other in
    let last : is_done (find_step_ask t.walk.finding t.walk.finding.step) ≡ false = sym (passed_done (find_ask t.walk.finding) walk.Contended) ∙ third in
    let clash : true ≡ false = ap (λ step. is_done (find_step_ask t.walk.finding step)) (sym rests) ∙ last in
    cc

-- ---- at a moment
module _ (given : Given) (life : BegunLife) (apart : OpensApart life) (before : List Event) (enabled : AreEnabled (home_of_world life.opening) life.ghosts (mapped life.opening before)) (known : AllKnowBehind life.opening life.ghosts before)
    (told : AreToldTruly (home_of_world life.opening) (life_ghosts life.opening life.ghosts before).log (run life.opening before).now) (all_apart : AllApartBehind life.opening life.ghosts before) (shifts : AllShiftSo life.opening before) where
  abbrev N : Now
  N = (run life.opening before).now

  abbrev L : Log
  L = (life_ghosts life.opening life.ghosts before).log

  abbrev H : ℕ → ℕ
  H = home_of_world life.opening

  pub reads_met : MeetsItsReads life.opening before
  reads_met session s its found attempts tries read e =
      try_met N.places H L (room_of (seat_at N session)) t (reply_in N session s) (orderly H life.map L (held given life apart before enabled)) reads row.knows says going walking its e
    where
      t : TryState
      t = s.attempt.trial

      row : local.TriesFor H L s.attempt.pending s.attempt.seen t
      row = subst (local.AttemptRow H L s.attempt) tries ((known session s found).attempted attempts).row

      reads : is_read t.request.op ≡ true
      reads = subst (λ (r : Request). is_read r.op ≡ true) (sym row.its_request) read

      says : IsTrueReply H L N.places t t.step (reply_in N session s)
      says = subst (λ (x : Attempting). local.IsTrueOfAttempt H L N.places s.attempt x (reply_in N session s)) tries (told session s found attempts)

      going : is_done (try_ask N.places t) ≡ false
      going = (subst (AttemptApart H N.places L s.attempt) tries ((all_apart session s found).rows.attempted attempts)).1

      walking : t.step ≡ Walks → WalksOn N.places H L t (reply_in N session s)
      walking walks =
          let its_row : TryRow H L t Walks = subst (TryRow H L t) walks row.knows.row in
          let key : t.walk.key.0 ≡ key_in t.request = ap (λ (k : Key). k.0) its_row.0.its_key in
          let head : t.walk.head.0 ≡ head_in t.seen = ap (λ (a : Addr). a.0) its_row.0.its_head in
          record {
            in_ring = λ a is_in. subst (λ (n : ℕ). a < n + N.places.ring) (sym head) (in_ring given life apart before enabled session s found attempts tries (known session s found) (all_apart session s found) a (subst (λ (n : ℕ). IsIn a (L.chains (H n))) key is_in));
            none = sits_walks (rank_now life.opening before) (seat_at life.opening.now session) s s.step attempts tries walks (shifts session s found);
            found = λ finds told ends lost.
                not_both _ ((search given life apart before enabled session s found attempts tries (known session s found) (all_apart session s found) walks finds).lost told (searches_on N.places t walks finds going) ends lost)
                (links_none given life apart before enabled session s found attempts tries (known session s found) (all_apart session s found) walks finds reads);
          }
