-- The words of the store tell a session of published records alone.
use Rattle.std.proofs.Common.{◌≡◌, ℕ, ◌<◌, ◌∙◌, inl, inr, refl, sym, ap, subst, arith, true, List}
use Rattle.std.specs.Prelude.{Some, slice_get}
use Rattle.std.proofs.lemmas.Bool.{cases_lt}
use Rattle.fkv_base.specs.declared.numbers.Addr.{Addr}
use Rattle.fkv_index.specs.Finding.{find_next_ask}
use Rattle.fkv_index.specs.declared.finding.FindAnswer.{FindAnswer}
use Rattle.fkv_index.specs.declared.finding.Found.{Found}
use Rattle.fkv_index.specs.declared.finding.Found.TheVariants.{Slot}
use Rattle.law_refine.specs.Below.fkv_flush.GuardLevels.{levels_of}
use Rattle.law_refine.specs.Below.fkv_log.Loading.{load_ask}
use Rattle.law_refine.specs.Below.fkv_log.TheLoading.{Loading}
use Rattle.law_refine.specs.Below.fkv_log.TheLoading.TheVariants as load
use Rattle.law_refine.specs.Below.fkv_ops.Requests.{purpose_at}
use Rattle.law_refine.specs.Below.fkv_ops.Trying.{TryState, try_ask, trying_ask}
use Rattle.law_refine.specs.Below.fkv_ops.Walking.{walk_ask, walking_ask}
use Rattle.law_refine.specs.Below.fkv_ops.TryAnswer.TheVariants as answer
use Rattle.law_refine.specs.Below.fkv_ops.Seen.{Seen}
use Rattle.law_refine.specs.Below.fkv_ops.TheTrying.{Trying}
use Rattle.law_refine.specs.Below.fkv_ops.TheTrying.TheVariants.{Walks}
use Rattle.law_refine.specs.Below.fkv_ops.WalkAnswer.TheVariants as walk
use Rattle.law_refine.specs.Below.fkv_ops.TheWalking.{Walking}
use Rattle.law_refine.specs.Below.fkv_ops.TheWalking.TheVariants.{Finds, Meets}
use Rattle.law_refine.specs.Below.fkv_pending.Attempting.{AttemptState, attempting_ask}
use Rattle.law_refine.specs.Below.fkv_pending.TheAttempting.{Attempting}
use Rattle.law_refine.specs.Below.fkv_pending.TheAttempting.TheVariants.{Tries}
use Rattle.fkv_plane.specs.Asked.{reply_to, word_at}
use Rattle.fkv_plane.specs.Places.{record_place}
use Rattle.fkv_plane.specs.declared.asks.Ask.{Ask}
use Rattle.fkv_plane.specs.declared.asks.Ask.TheVariants.{Done}
use Rattle.fkv_plane.specs.declared.places.Places.{Places}
use Rattle.fkv_plane.specs.declared.places.RecordWord.TheVariants as rec
use Rattle.fkv_plane.proofs.Shown.{passed_reply}
use Rattle.law_refine.specs.Below.fkv_session.Sessions.{SessionState, Seat, bits_of, sitting_ask}
use Rattle.law_refine.specs.Below.fkv_session.Sitting.{Sitting}
use Rattle.law_refine.specs.Below.fkv_session.Sitting.TheVariants.{Attempts, Polls}
use Rattle.law_refine.specs.Below.fkv_world.Runs.{World, run}
use Rattle.law_refine.specs.Below.fkv_world.World.{Event, Now}
use Rattle.law_refine.specs.Below.law_local.Sessions.Inputs.{AttemptsBy, TriesFor, WalksFor}
use Rattle.law_refine.specs.Below.law_local.Sessions.Known.{is_attempting}
use Rattle.law_log.specs.Chains.{Cell, Logged, Unborn, Reserved, Published, Dropped}
use Rattle.law_log.specs.Ghosts.{Ghosts, Log}
use Rattle.law_log.proofs.Shown.{not_unborn}
use Rattle.law_refine.specs.Index.Finders.{attempt_part, sitting_part, try_work, walk_work}
use Rattle.law_refine.specs.Events.GhostEvents.{life_ghosts}
use Rattle.law_refine.specs.Events.Published.{IsPublished}
use Rattle.law_refine.specs.Events.Reserved.{tail_at}
use Rattle.law_refine.specs.Heads.Searches.{IsHeadAnswered, IsHeadFound}
use Rattle.law_refine.specs.Records.Cells.{ShowsCell}
use Rattle.law_refine.specs.Records.Changes.{AreChangesPublished}
use Rattle.law_refine.specs.Records.Frames.{words_framed}
use Rattle.law_refine.proofs.OfEvents.Unborn.{ghost_unborn}
use Rattle.law_refine.proofs.OfRecords.Frames.{finds_framed, frames_show_log, head_above}
use Rattle.law_opening.specs.Changes.Laws.{BeginsLinked}
use Rattle.law_opening.specs.Changes.Linked.{IsLed}
use Rattle.law_opening.proofs.OfChanges.AttemptRows.{AttemptTold}
use Rattle.law_opening.proofs.OfChanges.LifeLogs.{life_linked}
use Rattle.law_opening.proofs.OfChanges.OfSessions.Attempting.{FindsBy, attempt_reply, attempting_is, finds_by}
use Rattle.law_opening.proofs.OfChanges.Rows.{IsAt, LeadsOn, LeadsSaid}
use Rattle.law_opening.proofs.OfChanges.TryRows.{TryTold}
use Rattle.law_opening.proofs.OfChanges.Walks.{FindSo, FoundSo, LoadTold, WalkTold}

-- ---- what a search finds
found_so : (log : Log) (head : ℕ) (its : Found) → IsLed log head → IsHeadFound head its → FoundSo log its
found_so log head (Slot place word) led found = subst (IsLed log) (sym found) led
found_so log head its led found = tt

find_so : (log : Log) (head : ℕ) (ask : Ask FindAnswer) → IsLed log head → IsHeadAnswered head ask → FindSo log ask
find_so log head (Done its) led found = found_so log head its.found led found
find_so log head ask led found = tt

-- ---- what is loaded of a record that is published, from the head that the session has seen
abbrev pub HeadersLead : Log → Places → Seen → List ℕ → Type 0
HeadersLead log p seen words = (a : ℕ) → IsAt log seen.offsets.head.0 a → LeadsOn log (word_at words (record_place p a rec.Header))

module _ (log : Log) (p : Places) (seen : Seen) (words : List ℕ) (lead : HeadersLead log p seen words) (head : ℕ) (led : IsLed log head) (reply : ℕ) where
  load_told : (loading : Loading) → reply ≡ reply_to words (load_ask p loading) → LoadTold log seen.offsets.head.0 loading reply
  unfolding load_ask
  load_told (load.LoadsHeader its) e = λ at. subst (LeadsOn log) (sym e) (lead its.0 at)
  load_told loading e = tt

  walk_told : (t : TryState) (step : Walking) → t.walk.head ≡ seen.offsets.head → reply ≡ reply_to words (walking_ask p t.walk step) → FindsBy p head reply (walk_work t step) → WalkTold log p t.walk step reply
  unfolding walking_ask
  walk_told t Finds same e finds = find_so log head (find_next_ask p t.walk.finding reply) led (finds (record { finding = t.walk.finding; purpose = purpose_at t.occasion t.request.op }) refl)
  walk_told t (Meets addr) same e finds = subst (λ (h : Addr). LoadTold log h.0 t.walk.loading reply) (sym same) (load_told t.walk.loading (e ∙ passed_reply words (load_ask p t.walk.loading) walk.Contended))
  walk_told t step same e finds = tt

  try_told : (bits : ℕ) (t : TryState) (step : Trying) → (step ≡ Walks → t.walk.head ≡ seen.offsets.head) → reply ≡ reply_to words (trying_ask p t step) → FindsBy p head reply (try_work t step) → TryTold log p t step reply
  unfolding trying_ask
  try_told bits t Walks heads e finds = walk_told t t.walk.step (heads refl) (e ∙ passed_reply words (walk_ask p t.walk) answer.Shift) finds
  try_told bits t step heads e finds = tt

  attempt_told : (bits session : ℕ) (a : AttemptState) (step : Attempting) → a.seen ≡ seen → TriesFor bits a step → reply ≡ reply_to words (attempting_ask p session a step) → FindsBy p head reply (attempt_part a step).work → AttemptTold log p a step reply
  unfolding attempting_ask
  attempt_told bits session a Tries same its e finds = try_told bits a.trial a.trial.step (λ at. its_head at) (e ∙ passed_reply words (try_ask p a.trial) answer.Shift) finds
    where
      its_head : a.trial.step ≡ Walks → a.trial.walk.head ≡ seen.offsets.head
      its_head at = (subst (WalksFor a.pending.request a.seen a.trial.walk) at its.its_walk).its_head ∙ ap (λ (x : Seen). x.offsets.head) same
  attempt_told bits session a step same its e finds = tt

-- ---- by what the session attempts
pub record GoesSo (k : Seat) (s : SessionState) : Type 0 where
  pub seen : s.attempt.seen ≡ s.seen
  pub tries : TriesFor (bits_of k) s.attempt s.attempt.step

pub goes_so : (k : Seat) (s : SessionState) (step : Sitting) → is_attempting step ≡ true → AttemptsBy k s step → GoesSo k s
goes_so k s (Attempts has_shifted) attempts so = record { seen = so.goes.its_seen; tries = so.goes.its_try }
goes_so k s (Polls index) attempts so = record { seen = so.goes.its_seen; tries = so.goes.its_try }
goes_so k s step attempts so = cc

pub session_told : (log : Log) (k : Seat) (words : List ℕ) (s : SessionState) (head : ℕ) → is_attempting s.step ≡ true → AttemptsBy k s s.step → HeadersLead log k.places s.seen words → IsLed log head
    → FindsBy k.places head (reply_to words (sitting_ask k s s.step)) (sitting_part s s.step).work → AttemptTold log k.places s.attempt s.attempt.step (reply_to words (sitting_ask k s s.step))
session_told log k words s head attempts so lead led finds =
    let its = goes_so k s s.step attempts so in
    attempt_told log k.places s.seen words lead head led (reply_to words (sitting_ask k s s.step)) (bits_of k) k.number s.attempt s.attempt.step its.seen its.tries (attempt_reply k words s s.step attempts)
    (finds_by k.places head (reply_to words (sitting_ask k s s.step)) s s.step attempts finds)

-- ---- at a moment of a life
there : (log : Log) (a : ℕ) (logged : Logged) → log.cells a ≡ logged → IsPublished logged → (cell : Cell) × (log.cells a ≡ Published cell)
there log a (Published cell) e its = (cell, e)
there log a Unborn e its = absurd its
there log a (Reserved entry cell) e its = absurd its
there log a (Dropped cell) e its = absurd its

-- what it finds in a frame at or above the head that it has seen
pub record IsFramedCell (opening : World) (ghosts : Ghosts) (events : List Event) (a : ℕ) : Type 0 where
  pub cell : Cell
  pub published : (life_ghosts opening ghosts events).log.cells a ≡ Published cell
  pub shows : ShowsCell (words_framed (run opening events).now a) cell

pub framed_there : (opening : World) (start : ℕ) (lists : ℕ → List ℕ) (ghosts : Ghosts) (events : List Event) (session : ℕ) (s : SessionState) (a : ℕ) → BeginsLinked opening start lists ghosts → AreChangesPublished opening ghosts events
    → slice_get (run opening events).now.sessions session ≡ Some s → is_attempting s.step ≡ true → IsAt (life_ghosts opening ghosts events).log s.seen.offsets.head.0 a → IsFramedCell opening ghosts events a
framed_there opening start lists ghosts events session s a begins published found attempts at =
    let n : Now = (run opening events).now in
    let log : Log = (life_ghosts opening ghosts events).log in
    let its = there log a (log.cells a) refl at.0 in
    let attempting = attempting_is s.step attempts in
    let head = head_above opening start events session s begins.now found attempting in
    let high = at.1 in
    let below : a < tail_at n = elim (cases_lt a (tail_at n)) [
      | inl low ↦ low
      | inr up ↦ absurd (not_unborn (log.cells a) its.0 its.1 (ghost_unborn opening start ghosts events begins.now begins.unborn a up))
    ] in
    record {
      cell = its.0;
      published = its.1;
      shows = frames_show_log opening start (levels_of opening.now.words).closed ghosts events begins.now begins.unborn begins.reserves published begins.now.words.closed begins.warm a its.0 (omega (arith, head, high)) (finds_framed opening start events session s begins.now found attempting a high below) its.1;
    }

pub headers_lead : (opening : World) (start : ℕ) (lists : ℕ → List ℕ) (ghosts : Ghosts) (events : List Event) (session : ℕ) (s : SessionState) → BeginsLinked opening start lists ghosts → AreChangesPublished opening ghosts events
    → slice_get (run opening events).now.sessions session ≡ Some s → is_attempting s.step ≡ true → HeadersLead (life_ghosts opening ghosts events).log (run opening events).now.places s.seen (run opening events).now.words
headers_lead opening start lists ghosts events session s begins published found attempts = λ a at.
    let log : Log = (life_ghosts opening ghosts events).log in
    let its = framed_there opening start lists ghosts events session s a begins published found attempts at in
    subst (LeadsSaid log) (sym its.shows.header) ((life_linked opening start lists ghosts events begins).leads a its.cell its.published)
