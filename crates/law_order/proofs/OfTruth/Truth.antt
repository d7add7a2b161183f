-- What sessions are told by the words of the store is true of the log.
use Rattle.std.proofs.Common.{◌≡◌, ℕ, sym, ap, subst, true, List}
use Rattle.fkv_base.specs.declared.shapes.Shape.{Shape}
use Rattle.fkv_index.specs.Slots.{home_of}
use Rattle.fkv_map.specs.Keys.{key_of}
use Rattle.law_log.specs.Chains.{head_of}
use Rattle.law_log.specs.Ghosts.{Log}
use Rattle.law_log.specs.Enabled.{AreEnabled}
use Rattle.law_commit.specs.Below.fkv_ops.Seen.{Seen}
use Rattle.law_commit.specs.Below.fkv_pending.Attempting.{attempt_ask}
use Rattle.fkv_plane.specs.Asked.{reply_to}
use Rattle.law_commit.specs.Below.fkv_session.Sessions.{SessionState}
use Rattle.law_commit.specs.Below.law_local.Sessions.Known.{is_attempting}
use Rattle.law_commit.specs.Below.law_local.Tries.AttemptRows.{AttemptKnows, IsTrueOfAttempt}
use Rattle.law_commit.specs.Below.law_local.Tries.WordsShow.{WordsShow, AttemptMeets}
use Rattle.law_commit.proofs.Below.law_local.OfTries.Words.{attempt_true}
use Rattle.law_commit.specs.Below.fkv_world.Runs.{World, run}
use Rattle.law_commit.specs.Below.fkv_world.World.{Event, Now, seat_at}
use Rattle.law_commit.proofs.Below.fkv_world.Shown.{shape_stays}
use Rattle.law_commit.specs.Below.law_refine.Heads.Heads.{head_at}
use Rattle.law_commit.specs.Below.law_refine.Heads.Searches.{home_attempted}
use Rattle.law_commit.proofs.Below.law_refine.OfHeads.LifeHeads.{life_found}
use Rattle.law_commit.specs.Below.law_refine.Index.Finders.{session_part}
use Rattle.law_order.specs.Known.Begins.{BegunLife, home_of_world}
use Rattle.law_order.specs.Known.Knows.{AreKnown}
use Rattle.law_order.specs.Known.Told.{AreToldTruly, LookTruly, reply_in}
use Rattle.law_commit.specs.Below.law_refine.Events.GhostEvents.{home_number, life_ghosts, mapped}
use Rattle.law_commit.specs.Below.law_refine.Records.Changes.{AreChangesPublished}
use Rattle.law_order.proofs.OfKnown.Newest.{known_now}
use Rattle.law_opening.proofs.OfChanges.OfSessions.Attempting.{FindsBy, attempt_reply, attempting_is, finds_by}
use Rattle.law_order.proofs.OfTruth.Attempts.{life_seen}
use Rattle.law_order.proofs.OfTruth.Searches.{BeginsFor, attempt_meets}
use Rattle.law_order.proofs.OfTruth.Words.{words_show}

-- the home that is attempted is that of the key, by its number
begins_for : (opening : World) (events : List Event) (log : Log) (s : SessionState) → BeginsFor (home_of_world opening) log (head_at log (home_attempted (run opening events).now s)) (key_of s.attempt.pending.request.op)
begins_for opening events log s = ap (λ (shape : Shape). head_of (log.chains (home_number (home_of shape.bucket_bits (key_of s.attempt.pending.request.op))))) (sym (shape_stays opening events))

-- an attempt is told the truth where its session is
told_truly : (home : ℕ → ℕ) (log : Log) (n : Now) (session : ℕ) (s : SessionState) → is_attempting s.step ≡ true → s.attempt.seen ≡ s.seen → WordsShow log n.places s.seen n.words → AttemptKnows home log s.attempt
    → AttemptMeets home log n.places s.attempt s.attempt.step (reply_in n session s) → IsTrueOfAttempt home log n.places s.attempt s.attempt.step (reply_in n session s)
told_truly home log n session s attempts seen show knows meets =
    let same : reply_in n session s ≡ reply_to n.words (attempt_ask n.places session s.attempt) = attempt_reply (seat_at n session) n.words s s.step attempts in
    subst (IsTrueOfAttempt home log n.places s.attempt s.attempt.step) (sym same)
    (attempt_true home log n.places session n.words s.attempt (subst (λ (x : Seen). WordsShow log n.places x n.words) (sym seen) show) knows (subst (AttemptMeets home log n.places s.attempt s.attempt.step) same meets))

pub words_true : (life : BegunLife) (before : List Event)
    → AreEnabled (home_of_world life.opening) life.ghosts (mapped life.opening before) → AreChangesPublished life.opening life.ghosts before → AreKnown life.opening life.ghosts before
    → LookTruly (life_ghosts life.opening life.ghosts before).log (run life.opening before).now → AreToldTruly (home_of_world life.opening) (life_ghosts life.opening life.ghosts before).log (run life.opening before).now
words_true life before enabled published known look = λ session s found attempts.
    let n : Now = (run life.opening before).now in
    let log : Log = (life_ghosts life.opening life.ghosts before).log in
    let opened = life.begins.store.now in
    let knows : AttemptKnows (home_of_world life.opening) log s.attempt = (known_now life.opening life.ghosts before known session s found).attempted attempts in
    let finds : FindsBy n.places (head_at log (home_attempted n s)) (reply_in n session s) (session_part s).work =
    λ its searches. (life_found life.opening life.start life.lists life.ghosts before opened life.begins.index life.begins.unborn life.begins.reserves life.begins.heads session s its found searches).replied in
    told_truly (home_of_world life.opening) log n session s attempts (life_seen life.opening life.start before session s life.begins.world opened found attempts)
    (words_show life before session s enabled published found (attempting_is s.step attempts)) knows
    (attempt_meets (home_of_world life.opening) log n.places (head_at log (home_attempted n s)) (reply_in n session s) s.attempt s.attempt.step (begins_for life.opening before log s) knows.row
    (finds_by n.places (head_at log (home_attempted n s)) (reply_in n session s) s s.step attempts finds) (look session s found attempts))
