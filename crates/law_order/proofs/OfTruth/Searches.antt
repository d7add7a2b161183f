-- What a session's search finds is where the chain of its key begins, and what it loads from its mailbox is true: so its attempt meets the log.
use Rattle.std.proofs.Common.{◌≡◌, ℕ, ◌∙◌, refl, ap, subst, sym}
use Rattle.fkv_base.specs.declared.numbers.Key.{Key}
use Rattle.fkv_map.specs.Keys.{key_of}
use Rattle.fkv_plane.specs.declared.asks.Ask.{Ask}
use Rattle.fkv_plane.specs.declared.asks.Ask.TheVariants.{Done}
use Rattle.fkv_plane.specs.declared.places.Places.{Places}
use Rattle.fkv_index.specs.declared.finding.FindAnswer.{FindAnswer}
use Rattle.fkv_index.specs.declared.finding.Found.{Found}
use Rattle.fkv_index.specs.declared.finding.Found.TheVariants.{Slot, NoSlot}
use Rattle.fkv_index.specs.Finding.{find_next_ask}
use Rattle.law_log.specs.Chains.{head_of}
use Rattle.law_log.specs.Ghosts.{Log}
use Rattle.law_commit.specs.Below.fkv_ops.Request.{Request}
use Rattle.law_commit.specs.Below.fkv_ops.TheTrying.{Trying}
use Rattle.law_commit.specs.Below.fkv_ops.TheTrying.TheVariants.{Walks}
use Rattle.law_commit.specs.Below.fkv_ops.TheWalking.{Walking}
use Rattle.law_commit.specs.Below.fkv_ops.TheWalking.TheVariants.{Finds}
use Rattle.law_commit.specs.Below.fkv_ops.Requests.{purpose_at}
use Rattle.law_commit.specs.Below.fkv_ops.Trying.{TryState}
use Rattle.law_commit.specs.Below.fkv_pending.TheAttempting.{Attempting}
use Rattle.law_commit.specs.Below.fkv_pending.TheAttempting.TheVariants.{Looks, Tries}
use Rattle.law_commit.specs.Below.fkv_pending.Attempting.{AttemptState}
use Rattle.law_commit.specs.Below.law_local.Tries.AttemptRows.{AttemptRow}
use Rattle.law_commit.specs.Below.law_local.Tries.MailRows.{IsTrueOfLook}
use Rattle.law_commit.specs.Below.law_local.Tries.TryRows.{floor_in}
use Rattle.law_commit.specs.Below.law_local.Tries.Replies.{LeadsToHead, EndsAtHead}
use Rattle.law_commit.specs.Below.law_local.Tries.TryRows.{TryRow}
use Rattle.law_commit.specs.Below.law_local.Tries.WordsShow.{WalkSearches, TrySearches, AttemptMeets}
use Rattle.law_opening.proofs.OfChanges.OfSessions.Attempting.{FindsBy}
use Rattle.law_commit.specs.Below.law_refine.Heads.Searches.{IsHeadFound, IsHeadAnswered}
use Rattle.law_commit.specs.Below.law_refine.Index.Finders.{attempt_part, try_work, walk_work}

-- ---- what a search finds
leads_to_head : (head : ℕ) (its : Found) → IsHeadFound head its → LeadsToHead head its
leads_to_head head (Slot place word) found = found
leads_to_head head NoSlot found = found
leads_to_head head its found = tt

ends_at_head : (head : ℕ) (ask : Ask FindAnswer) → IsHeadAnswered head ask → EndsAtHead head ask
ends_at_head head (Done its) found = leads_to_head head its.found found
ends_at_head head ask found = tt

-- it is the chain of this key
abbrev pub BeginsFor : (ℕ → ℕ) → Log → ℕ → Key → Type 0
BeginsFor home log head key = head_of (log.chains (home key.0)) ≡ head

walk_searches : (home : ℕ → ℕ) (log : Log) (p : Places) (head reply : ℕ) (t : TryState) (step : Walking) → BeginsFor home log head t.walk.key → FindsBy p head reply (walk_work t step) → WalkSearches home log p t.walk step reply
walk_searches home log p head reply t Finds begins finds =
    subst (λ (x : ℕ). EndsAtHead x (find_next_ask p t.walk.finding reply)) (sym begins) (ends_at_head head (find_next_ask p t.walk.finding reply) (finds (record { finding = t.walk.finding; purpose = purpose_at t.occasion t.request.op }) refl))
walk_searches home log p head reply t step begins finds = tt

try_searches : (home : ℕ → ℕ) (log : Log) (p : Places) (head reply : ℕ) (request : Request) (t : TryState) (step : Trying) → t.request ≡ request → BeginsFor home log head (key_of request.op) → TryRow home log t step
    → FindsBy p head reply (try_work t step) → TrySearches home log p t step reply
try_searches home log p head reply request t Walks same begins row finds =
    walk_searches home log p head reply t t.walk.step
    (subst (BeginsFor home log head) (sym (row.0.its_key ∙ ap (λ (x : Request). key_of x.op) same)) begins) finds
try_searches home log p head reply request t step same begins row finds = tt

-- ---- so the attempt meets the log
pub attempt_meets : (home : ℕ → ℕ) (log : Log) (p : Places) (head reply : ℕ) (a : AttemptState) (step : Attempting) → BeginsFor home log head (key_of a.pending.request.op) → AttemptRow home log a step
    → FindsBy p head reply (attempt_part a step).work → (step ≡ Looks → IsTrueOfLook log (floor_in a.pending.request) a.pending.sought a.mailing reply) → AttemptMeets home log p a step reply
attempt_meets home log p head reply a Looks begins row finds look = look refl
attempt_meets home log p head reply a Tries begins row finds look = try_searches home log p head reply a.pending.request a.trial a.trial.step row.its_request begins row.knows.row finds
attempt_meets home log p head reply a step begins row finds look = tt
