-- What a session loads of a published record fits in words, and what it takes from its mailbox does.
use Rattle.std.proofs.Common.{◌≡◌, ℕ, ◌≤◌, ◌∙◌, refl, sym, ap, subst, true, List}
use Rattle.std.specs.Prelude.{⊤, Some, slice_get}
use Rattle.fkv_base.specs.declared.numbers.Addr.{Addr}
use Rattle.law_refine.specs.Below.fkv_log.Loading.{load_ask}
use Rattle.law_refine.specs.Below.fkv_log.TheLoading.{Loading}
use Rattle.law_refine.specs.Below.fkv_log.TheLoading.TheVariants as load
use Rattle.fkv_map.specs.Fits.{NumberFits}
use Rattle.law_refine.specs.Below.fkv_ops.HeaderWords.{header_said}
use Rattle.law_refine.specs.Below.fkv_ops.Trying.{TryState, try_ask, trying_ask}
use Rattle.law_refine.specs.Below.fkv_ops.Walking.{walk_ask, walking_ask}
use Rattle.law_refine.specs.Below.fkv_ops.TryAnswer.TheVariants as answer
use Rattle.law_refine.specs.Below.fkv_ops.Request.{Request}
use Rattle.law_refine.specs.Below.fkv_ops.Seen.{Seen}
use Rattle.law_refine.specs.Below.fkv_ops.TheTrying.{Trying}
use Rattle.law_refine.specs.Below.fkv_ops.TheTrying.TheVariants.{Walks, LoadsCurrent, LoadsAnswer, LoadsOld}
use Rattle.law_refine.specs.Below.fkv_ops.WalkAnswer.TheVariants as walk
use Rattle.law_refine.specs.Below.fkv_ops.TheWalking.{Walking}
use Rattle.law_refine.specs.Below.fkv_ops.TheWalking.TheVariants.{LoadsValue}
use Rattle.law_refine.specs.Below.fkv_pending.Attempting.{AttemptState, attempting_ask}
use Rattle.law_refine.specs.Below.fkv_pending.Mailing.{mail_ask, mail_next}
use Rattle.law_refine.specs.Below.fkv_pending.TheAttempting.{Attempting}
use Rattle.law_refine.specs.Below.fkv_pending.TheAttempting.TheVariants.{Looks, Tries}
use Rattle.law_refine.specs.Below.fkv_pending.MailAnswer.{MailAnswer}
use Rattle.law_refine.specs.Below.fkv_pending.MailAnswer.TheVariants as mail
use Rattle.law_refine.specs.Below.fkv_pending.MailRecord.{MailRecord}
use Rattle.fkv_plane.proofs.Shown.{passed_reply}
use Rattle.fkv_plane.specs.Asked.{reply_to, word_at}
use Rattle.fkv_plane.specs.Places.{record_place}
use Rattle.fkv_plane.specs.declared.asks.Ask.{Ask}
use Rattle.fkv_plane.specs.declared.asks.Ask.TheVariants.{Done}
use Rattle.fkv_plane.specs.declared.places.Places.{Places}
use Rattle.fkv_plane.specs.declared.places.RecordWord.TheVariants as rec
use Rattle.law_refine.specs.Below.fkv_session.Sessions.{SessionState, Seat, bits_of, sitting_ask}
use Rattle.law_refine.specs.Below.fkv_world.Runs.{World, run}
use Rattle.law_refine.specs.Below.fkv_world.World.{Event}
use Rattle.law_opening.proofs.OfChanges.OfDevice.Words.{value_fits}
use Rattle.law_opening.proofs.OfChanges.OfFits.Attempts.{AttemptValueTold, TakenTold}
use Rattle.law_opening.proofs.OfChanges.OfFits.Rows.{RecordOk}
use Rattle.law_opening.proofs.OfChanges.OfFits.Tries.{TryValueTold}
use Rattle.law_opening.proofs.OfChanges.OfFits.Walks.{ValueTold, WalkValueTold}
use Rattle.law_opening.proofs.OfChanges.OfSessions.Attempting.{attempt_reply}
use Rattle.law_opening.proofs.OfChanges.Rows.{IsAt}
use Rattle.law_opening.proofs.OfChanges.Told.{framed_there, goes_so}
use Rattle.law_opening.specs.Changes.Fits.{CellsFit}
use Rattle.law_opening.specs.Changes.Laws.{BeginsLinked}
use Rattle.law_refine.specs.Below.law_local.Sessions.Inputs.{AttemptsBy, TriesFor, WalksFor}
use Rattle.law_refine.specs.Below.law_local.Sessions.Known.{is_attempting}
use Rattle.law_log.specs.Ghosts.{Ghosts, Log}
use Rattle.law_refine.specs.Events.GhostEvents.{life_ghosts}
use Rattle.law_refine.specs.Records.Changes.{AreChangesPublished}

-- the value of a published record, from the head that the session has seen
abbrev pub ValuesFit : Log → Places → Seen → List ℕ → Type 0
ValuesFit log p seen words = (a : ℕ) → IsAt log seen.offsets.head.0 a → NumberFits (word_at words (record_place p a rec.Value))

-- a record that is taken from the mailbox
abbrev pub TakesFit : ℕ → Log → ℕ → ℕ → AttemptState → Attempting → ℕ → Type 0
TakesFit begin log flushed session a Looks reply = (its : MailRecord) → mail_ask session (mail_next a.mailing reply) ≡ Done (mail.Taken its) → RecordOk begin log flushed its (header_said its.header)
TakesFit begin log flushed session a step reply = ⊤

taken_told : (begin : ℕ) (log : Log) (flushed : ℕ) (ask : Ask MailAnswer) → ((its : MailRecord) → ask ≡ Done (mail.Taken its) → RecordOk begin log flushed its (header_said its.header)) → TakenTold begin log flushed ask
taken_told begin log flushed (Done (mail.Taken its)) takes = takes its refl
taken_told begin log flushed ask takes = tt

module _ (begin : ℕ) (log : Log) (flushed : ℕ) (p : Places) (seen : Seen) (words : List ℕ) (values : ValuesFit log p seen words) (below : seen.offsets.head.0 ≤ flushed) (reply : ℕ) where
  value_told : (loading : Loading) → reply ≡ reply_to words (load_ask p loading) → ValueTold log seen.offsets.head.0 loading reply
  unfolding load_ask
  value_told (load.LoadsValue its header key) e = λ at. subst NumberFits (sym e) (values its.0 at)
  value_told loading e = tt

  walk_told : (t : TryState) (step : Walking) → t.walk.head ≡ seen.offsets.head → reply ≡ reply_to words (walking_ask p t.walk step) → WalkValueTold log t.walk step reply
  unfolding walking_ask
  walk_told t LoadsValue same e = subst (λ (h : Addr). ValueTold log h.0 t.walk.loading reply) (sym same) (value_told t.walk.loading (e ∙ passed_reply words (load_ask p t.walk.loading) walk.Contended))
  walk_told t step same e = tt

  past_told : (t : TryState) → t.walk.head ≡ seen.offsets.head → reply ≡ reply_to words (walk_ask p t.walk) → WalkValueTold log t.walk t.walk.step reply
  past_told t same e = walk_told t t.walk.step same e

  same_head : (its_seen : Seen) (t : TryState) → its_seen ≡ seen → t.walk.head ≡ its_seen.offsets.head → t.walk.head ≡ seen.offsets.head
  same_head its_seen t same its = its ∙ ap (λ (x : Seen). x.offsets.head) same

  try_told : (request : Request) (its_seen : Seen) (t : TryState) (step : Trying) → its_seen ≡ seen → WalksFor request its_seen t.walk step → reply ≡ reply_to words (trying_ask p t step) → TryValueTold log flushed t step reply
  unfolding trying_ask
  try_told request its_seen t Walks same walks e =
      let head = same_head its_seen t same walks.its_head in
      (subst (λ (h : Addr). h.0 ≤ flushed) (sym head) below, past_told t head (e ∙ passed_reply words (walk_ask p t.walk) answer.Shift))
  try_told request its_seen t (LoadsCurrent addr) same walks e = past_told t (same_head its_seen t same walks.its_head) (e ∙ passed_reply words (walk_ask p t.walk) answer.Shift)
  try_told request its_seen t LoadsAnswer same walks e = past_told t (same_head its_seen t same walks.its_head) (e ∙ passed_reply words (walk_ask p t.walk) answer.Shift)
  try_told request its_seen t LoadsOld same walks e = past_told t (same_head its_seen t same walks.its_head) (e ∙ passed_reply words (walk_ask p t.walk) answer.Shift)
  try_told request its_seen t step same walks e = tt

  attempt_told : (bits session : ℕ) (a : AttemptState) (step : Attempting) → a.seen ≡ seen → TriesFor bits a step → reply ≡ reply_to words (attempting_ask p session a step) → TakesFit begin log flushed session a step reply → AttemptValueTold begin log flushed session a step reply
  unfolding attempting_ask
  attempt_told bits session a Tries same its e takes = try_told a.pending.request a.seen a.trial a.trial.step same its.its_walk (e ∙ passed_reply words (try_ask p a.trial) answer.Shift)
  attempt_told bits session a Looks same its e takes = taken_told begin log flushed (mail_ask session (mail_next a.mailing reply)) takes
  attempt_told bits session a step same its e takes = tt

pub session_told : (begin : ℕ) (log : Log) (flushed : ℕ) (k : Seat) (words : List ℕ) (s : SessionState) → is_attempting s.step ≡ true → AttemptsBy k s s.step → ValuesFit log k.places s.seen words → s.seen.offsets.head.0 ≤ flushed
    → TakesFit begin log flushed k.number s.attempt s.attempt.step (reply_to words (sitting_ask k s s.step)) → AttemptValueTold begin log flushed k.number s.attempt s.attempt.step (reply_to words (sitting_ask k s s.step))
session_told begin log flushed k words s attempts so values below takes =
    let its = goes_so k s s.step attempts so in
    attempt_told begin log flushed k.places s.seen words values below (reply_to words (sitting_ask k s s.step)) (bits_of k) k.number s.attempt s.attempt.step its.seen its.tries (attempt_reply k words s s.step attempts) takes

-- ---- at a moment of a life
pub values_fit : (opening : World) (start : ℕ) (lists : ℕ → List ℕ) (ghosts : Ghosts) (events : List Event) (session : ℕ) (s : SessionState) → BeginsLinked opening start lists ghosts → AreChangesPublished opening ghosts events
    → CellsFit (life_ghosts opening ghosts events).log → slice_get (run opening events).now.sessions session ≡ Some s → is_attempting s.step ≡ true
    → ValuesFit (life_ghosts opening ghosts events).log (run opening events).now.places s.seen (run opening events).now.words
values_fit opening start lists ghosts events session s begins published fits found attempts = λ a at.
    let its = framed_there opening start lists ghosts events session s a begins published found attempts at in
    value_fits (word_at (run opening events).now.words (record_place (run opening events).now.places a rec.Value)) its.cell.value its.shows.value (fits a its.cell its.published).1
