-- Where the words of the store tell the truth of the log, replies do.
use Rattle.std.proofs.Common.{◌≡◌, inl, inr, ℕ, ◌≤◌, sym, subst, List}
use Rattle.fkv_base.specs.declared.numbers.Addr.{Addr}
use Rattle.fkv_plane.specs.declared.places.Places.{Places}
use Rattle.fkv_plane.specs.Asked.{reply_to}
use Rattle.fkv_plane.proofs.Shown.{passed_reply}
use Rattle.fkv_log.specs.declared.loading.Loading.{Loading}
use Rattle.fkv_log.specs.declared.loading.Loading.TheVariants as load
use Rattle.fkv_log.specs.declared.reserving.Reserving.{Reserving}
use Rattle.fkv_log.specs.declared.reserving.Reserving.TheVariants as reserving
use Rattle.fkv_log.specs.Loading.{load_ask}
use Rattle.fkv_log.specs.Reserving.{reserve_ask}
use Rattle.law_log.specs.Ghosts.{Log}
use Rattle.fkv_ops.specs.declared.answers.TryAnswer.TheVariants as answer
use Rattle.fkv_ops.specs.declared.appending.AppendAnswer.TheVariants as append
use Rattle.fkv_ops.specs.declared.appending.Appending.{Appending}
use Rattle.fkv_ops.specs.declared.appending.Appending.TheVariants as appending
use Rattle.fkv_ops.specs.declared.requests.Request.{Request}
use Rattle.fkv_ops.specs.declared.requests.Seen.{Seen}
use Rattle.fkv_ops.specs.declared.trying.Trying.{Trying}
use Rattle.fkv_ops.specs.declared.trying.Trying.TheVariants as try
use Rattle.fkv_ops.specs.declared.walking.WalkAnswer.TheVariants as walk
use Rattle.fkv_ops.specs.declared.walking.Walking.{Walking}
use Rattle.fkv_ops.specs.declared.walking.Walking.TheVariants.{Ended, Finds, Meets, HasFound, LoadsValue}
use Rattle.fkv_ops.specs.Walking.{WalkState, walking_ask, walk_ask}
use Rattle.fkv_ops.specs.Appending.{AppendState, appending_ask, append_ask}
use Rattle.fkv_ops.specs.Trying.{TryState, trying_ask, try_ask}
use Rattle.fkv_pending.specs.declared.attempting.Attempting.{Attempting}
use Rattle.fkv_pending.specs.declared.attempting.Attempting.TheVariants as attempt
use Rattle.fkv_pending.specs.Attempting.{AttemptState, attempting_ask, attempt_ask}
use Rattle.law_local.specs.Tries.Replies.{IsTrueOfLoad, IsTrueOfWalk, IsTrueOfReserve, IsTrueOfAppend, IsTrueReply}
use Rattle.law_local.specs.Tries.WalkRows.{LoadKnows, WalkRow}
use Rattle.law_local.specs.Tries.TryRows.{IsWalkFor, LoadsFound, TryRow, TryKnows}
use Rattle.law_local.specs.Tries.AttemptRows.{AttemptRow, AttemptKnows, IsTrueOfAttempt}
use Rattle.law_local.specs.Tries.WordsShow.{IsHere, WordsShow, WalkSearches, TrySearches, AttemptMeets}

-- ---- the words of a record
met_true : (log : Log) (p : Places) (seen : Seen) (words : List ℕ) (addr : Addr) (loading : Loading) → WordsShow log p seen words → IsHere seen addr.0 → LoadKnows log addr loading → IsTrueOfLoad log loading (reply_to words (load_ask p loading))
unfolding load_ask
met_true log p seen words addr (load.LoadsHeader its) show here knows = show.header its.0 (subst (λ (a : Addr). IsHere seen a.0) (sym knows) here)
met_true log p seen words addr (load.LoadsKey its header) show here knows = show.key its.0 (subst (λ (a : Addr). IsHere seen a.0) (sym knows.0) here)
met_true log p seen words addr loading show here knows = absurd knows

value_true : (log : Log) (p : Places) (seen : Seen) (words : List ℕ) (addr : Addr) (header key : ℕ) (loading : Loading) → WordsShow log p seen words → IsHere seen addr.0 → loading ≡ load.LoadsValue addr header key
    → IsTrueOfLoad log loading (reply_to words (load_ask p loading))
unfolding load_ask
value_true log p seen words addr header key loading show here e = subst (λ l. IsTrueOfLoad log l (reply_to words (load_ask p l))) (sym e) (show.value addr.0 here)

-- ---- a walk
walking_true : (home : ℕ → ℕ) (log : Log) (p : Places) (request : Request) (seen : Seen) (words : List ℕ) (w : WalkState) (step : Walking) → WordsShow log p seen words → IsWalkFor request seen w → WalkRow home log w step
    → WalkSearches home log p w step (reply_to words (walking_ask p w step)) → IsTrueOfWalk home log p w step (reply_to words (walking_ask p w step))
unfolding walking_ask
walking_true home log p request seen words w (Ended its) show for row searches = tt
walking_true home log p request seen words w Finds show for row searches = searches
walking_true home log p request seen words w (Meets addr) show for row searches =
    subst (IsTrueOfLoad log w.loading) (sym (passed_reply words (load_ask p w.loading) walk.Contended))
    (met_true log p seen words addr w.loading show (inl (subst (λ (a : Addr). a.0 ≤ addr.0) for.its_head row.in_memory)) row.its_load)
walking_true home log p request seen words w (HasFound addr version) show for row searches = tt
walking_true home log p request seen words w LoadsValue show for row searches =
    subst (IsTrueOfLoad log w.loading) (sym (passed_reply words (load_ask p w.loading) walk.Contended))
    (value_true log p seen words row.addr row.header row.key w.loading show (inl (subst (λ (a : Addr). a.0 ≤ row.addr.0) for.its_head row.in_memory)) row.its_loading)

-- the value of the record that is found
found_true : (home : ℕ → ℕ) (log : Log) (p : Places) (request : Request) (seen : Seen) (words : List ℕ) (w : WalkState) (addr : Addr) → WordsShow log p seen words → LoadsFound home log request seen w addr
    → IsTrueOfWalk home log p w w.step (reply_to words (walk_ask p w))
unfolding walking_ask
found_true home log p request seen words w addr show its =
    subst (λ step. IsTrueOfWalk home log p w step (reply_to words (walking_ask p w step))) (sym its.loads.its_step)
    (subst (IsTrueOfLoad log w.loading) (sym (passed_reply words (load_ask p w.loading) walk.Contended))
    (value_true log p seen words addr its.loads.header its.loads.key w.loading show (inl its.in_memory) its.loads.its_loading))

-- ---- a reservation
reserve_true : (log : Log) (p : Places) (seen : Seen) (words : List ℕ) (step : Reserving) → WordsShow log p seen words → IsTrueOfReserve log step (reply_to words (reserve_ask step))
unfolding reserve_ask
reserve_true log p seen words (reserving.TakesTail tail) show = show.tail
reserve_true log p seen words reserving.AtRest show = tt
reserve_true log p seen words (reserving.LoadsLimit bound) show = tt
reserve_true log p seen words (reserving.LoadsTail limit) show = tt

append_true : (log : Log) (p : Places) (seen : Seen) (words : List ℕ) (a : AppendState) (step : Appending) → WordsShow log p seen words → IsTrueOfAppend log a.reserving step (reply_to words (appending_ask p a step))
unfolding appending_ask
append_true log p seen words a appending.Reserves show = subst (IsTrueOfReserve log a.reserving) (sym (passed_reply words (reserve_ask a.reserving) append.Contended)) (reserve_true log p seen words a.reserving show)
append_true log p seen words a (appending.Ended its) show = tt
append_true log p seen words a (appending.Fills addr) show = tt
append_true log p seen words a (appending.Publishes addr) show = tt
append_true log p seen words a appending.Invalidates show = tt

-- ---- a try
row_true : (home : ℕ → ℕ) (log : Log) (p : Places) (words : List ℕ) (t : TryState) (step : Trying) → WordsShow log p t.seen words → TryRow home log t step → TrySearches home log p t step (reply_to words (trying_ask p t step))
    → IsTrueReply home log p t step (reply_to words (trying_ask p t step))
unfolding trying_ask
row_true home log p words t (try.Ended its) show row searches = tt
row_true home log p words t try.TakesShared show row searches = tt
row_true home log p words t try.LoadsPhase show row searches = tt
row_true home log p words t try.Walks show row searches =
    subst (IsTrueOfWalk home log p t.walk t.walk.step) (sym (passed_reply words (walk_ask p t.walk) answer.Shift))
    (walking_true home log p t.request t.seen words t.walk t.walk.step show row.0 row.1 (subst (WalkSearches home log p t.walk t.walk.step) (passed_reply words (walk_ask p t.walk) answer.Shift) searches))
row_true home log p words t try.CountsTaken show row searches = tt
row_true home log p words t (try.LoadsSafe addr version) show row searches = show.fixed
row_true home log p words t (try.SwapsValue addr) show row searches = show.value addr.0 (inr row.2.mutable)
row_true home log p words t (try.LoadsCurrent addr) show row searches = tt
row_true home log p words t (try.ChangesValue addr old) show row searches = show.value addr.0 (inr row.1.mutable)
row_true home log p words t try.LoadsAnswer show row searches =
    subst (IsTrueOfWalk home log p t.walk t.walk.step) (sym (passed_reply words (walk_ask p t.walk) answer.Shift)) (found_true home log p t.request t.seen words t.walk row.addr show row.its)
row_true home log p words t (try.TakesExclusive old) show row searches = tt
row_true home log p words t try.LoadsOld show row searches =
    subst (IsTrueOfWalk home log p t.walk t.walk.step) (sym (passed_reply words (walk_ask p t.walk) answer.Shift)) (found_true home log p t.request t.seen words t.walk row.1.addr show row.1.its)
row_true home log p words t (try.Appends its) show row searches =
    subst (IsTrueOfAppend log t.append.reserving t.append.step) (sym (passed_reply words (append_ask p t.append) answer.Shift)) (append_true log p t.seen words t.append t.append.step show)
row_true home log p words t (try.LoadsTail waiting) show row searches = tt
row_true home log p words t (try.LoadsTaken waiting) show row searches = tt
row_true home log p words t (try.DropsExclusive its) show row searches = tt
row_true home log p words t (try.DropsShared its) show row searches = tt

pub try_true : (home : ℕ → ℕ) (log : Log) (p : Places) (words : List ℕ) (t : TryState) → WordsShow log p t.seen words → TryKnows home log t → TrySearches home log p t t.step (reply_to words (try_ask p t))
    → IsTrueReply home log p t t.step (reply_to words (try_ask p t))
try_true home log p words t show knows searches = row_true home log p words t t.step show knows.row searches

-- ---- an attempt
attempting_true : (home : ℕ → ℕ) (log : Log) (p : Places) (session : ℕ) (words : List ℕ) (a : AttemptState) (step : Attempting) → WordsShow log p a.seen words → AttemptRow home log a step
    → AttemptMeets home log p a step (reply_to words (attempting_ask p session a step)) → IsTrueOfAttempt home log p a step (reply_to words (attempting_ask p session a step))
unfolding attempting_ask
attempting_true home log p session words a (attempt.Ended its) show row meets = tt
attempting_true home log p session words a attempt.Looks show row meets = meets
attempting_true home log p session words a attempt.Tries show row meets =
    subst (IsTrueReply home log p a.trial a.trial.step) (sym (passed_reply words (try_ask p a.trial) answer.Shift))
    (try_true home log p words a.trial (subst (λ (seen : Seen). WordsShow log p seen words) (sym row.its_seen) show) row.knows
    (subst (TrySearches home log p a.trial a.trial.step) (passed_reply words (try_ask p a.trial) answer.Shift) meets))
attempting_true home log p session words a attempt.Puts show row meets = tt

pub attempt_true : (home : ℕ → ℕ) (log : Log) (p : Places) (session : ℕ) (words : List ℕ) (a : AttemptState) → WordsShow log p a.seen words → AttemptKnows home log a → AttemptMeets home log p a a.step (reply_to words (attempt_ask p session a))
    → IsTrueOfAttempt home log p a a.step (reply_to words (attempt_ask p session a))
attempt_true home log p session words a show knows meets = attempting_true home log p session words a a.step show knows.row meets
